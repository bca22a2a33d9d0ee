-- The parts of a run make the run.
use Rattle.std.proofs.Common.{◌≡◌, ℕ, ◌≤◌, ◌<◌, ◌^◌, arith, IfErr, List, ◌++◌, length, take, drop, Option, Some, None, IsSomeAnd, Result, Ok, Err, refl, sym, ap, subst, ◌∙◌}
use Rattle.std.proofs.lemmas.List.{take-append-drop, append-nil, length-drop}
use Rattle.rand_core.specs.Stream.{Stream}
use Rattle.acra_devices.specs.Known.{Grew}
use Rattle.keystore.specs.Rings.{RingState}
use Rattle.keys_core.specs.declared.words.Ask.{Ask}
use Rattle.keys_core.specs.declared.status.RingTrouble.{RingTrouble}
use Rattle.acra_devices.specs.Causes.{Rose}
use Rattle.keys_core.specs.declared.status.KeyFile.TheVariants as files
use Rattle.keys_core.specs.declared.status.KeysStatus.{KeysStatus}
use Rattle.keys_core.specs.declared.status.KeysStatus.TheVariants as ends
use Rattle.keys_core.specs.declared.work.Work.{Work}
use Rattle.keys_core.specs.declared.work.Outcome.{Outcome}
use Rattle.keys_core.specs.declared.work.Outcome.TheVariants as outcomes
use Rattle.keys_core.specs.Again.{ReadsBack, KeepsRing}
use Rattle.keys_core.specs.declared.status.RingTrouble.TheVariants as trouble
use Rattle.ring_file.specs.Master.{master_of}
use Rattle.keys_core.specs.Work.{Run, ended, worked, run_with, run_under, run_of, opened_ring, made_or_read, makes_ring, status_of}
use Rattle.keys_core.proofs.Limits.{short_ring, long_ring}
use Rattle.keys_core.specs.Told.{Drew}
use Rattle.keys_core.specs.Runs.{PreparedAs, StopsAs, IsKept, FrontPrinted, FinishedAs, IsRun, FinishCaused, StopCaused, CausedBy, MasterAs}

pub front_of : (h h' line : List ℕ) (n : ℕ) (old new : Option (List ℕ)) → Grew old new (take n line) → n < length line → old ≡ Some h → new ≡ Some h' → FrontPrinted line h h'
front_of h h' line n old new grew less e f =
    let told : Grew (Some h) (Some h') (take n line) = subst (λ (o : Option (List ℕ)). Grew (Some h) o (take n line)) f (subst (λ (o : Option (List ℕ)). Grew o new (take n line)) e grew) in
    record { front = take n line; more = drop n line; parts = take-append-drop n line; less = omega (arith, length-drop n line, less); printed = told }

-- ---- a run by its parts

pub bad_master : (ask : Ask) (m r : List ℕ) (s t : Stream) → master_of m ≡ None → t ≡ s → run_of ask m r s ≡ ended ends.BadMaster t
bad_master ask m r s t e same = ap (λ (key : Option (List ℕ)). run_under ask key r s) e ∙ ap (ended ends.BadMaster) (sym same)

pub run_opened : (ask : Ask) (m r key : List ℕ) (s u : Stream) (o : Result RingState RingTrouble) → master_of m ≡ Some key → opened_ring (makes_ring ask) key r s ≡ (o, u) → run_of ask m r s ≡ run_with ask key (o, u)
run_opened ask m r key s u o e f = ap (λ (k : Option (List ℕ)). run_under ask k r s) e ∙ ap (run_with ask key) f

-- two draws, one after the other
pub drew_then : (a b c : Option Stream) (s t : Stream) (P Q : Stream → Stream → Type 0) → Drew a b P → Drew b c Q → a ≡ Some s → c ≡ Some t → (u : Stream) × (P s u × Q u t)
drew_then (Some x) (Some u) (Some y) s t P Q p q e f = (u, (subst (λ (v : Stream). P v u) (same x s e) p, subst (λ (v : Stream). Q u v) (same y t f) q))
  where
    same : (x s : Stream) → ◌≡◌ {A = Option Stream} (Some x) (Some s) → x ≡ s
    same x s e = cc
drew_then a b None s t P Q p q e f = absurd (cc f)
drew_then None b (Some y) s t P Q p q e f = absurd (cc e)
drew_then (Some x) None (Some y) s t P Q p q e f = absurd q

pub drew_one : (a b : Option Stream) (s t : Stream) (P : Stream → Stream → Type 0) → Drew a b P → a ≡ Some s → b ≡ Some t → P s t
drew_one a b s t P p e f = subst (λ (o : Option Stream). Drew (Some s) o P) f (subst (λ (o : Option Stream). Drew o b P) e p)

pub same_told : {A : Type 0} (o : Option A) (x y : A) → o ≡ Some x → o ≡ Some y → y ≡ x
same_told {A} o x y e f = let both : ◌≡◌ {A = Option A} (Some y) (Some x) = sym f ∙ e in cc

pub never : {A : Type 0} → Rose 0 0 → A
never r = let zero : 1 ≤ 0 = r in absurd (omega arith)

-- ---- before anything is kept or printed

pub prepared : (ask : Ask) (m r key bytes : List ℕ) (s t : Stream) (result : Result Work KeysStatus) → master_of m ≡ Some key → bytes ≡ r → length bytes ≤ 2 ^ 24
    → PreparedAs result (run_with ask key (made_or_read (makes_ring ask) key bytes s)) s t → PreparedAs result (run_of ask m r s) s t
prepared ask m r key bytes s t result e same short p =
    let opened : made_or_read (makes_ring ask) key bytes s ≡ opened_ring (makes_ring ask) key r s = sym (short_ring (makes_ring ask) key s bytes short) ∙ ap (λ (b : List ℕ). opened_ring (makes_ring ask) key b s) same in
    let run : run_with ask key (made_or_read (makes_ring ask) key bytes s) ≡ run_of ask m r s = ap (run_with ask key) opened ∙ ap (λ (k : Option (List ℕ)). run_under ask k r s) (sym e) in
    subst (λ (u : Run). PreparedAs result u s t) run p

pub too_long_run : (ask : Ask) (m r key : List ℕ) (s t : Stream) → master_of m ≡ Some key → 2 ^ 24 < length r → t ≡ s → run_of ask m r s ≡ ended (ends.RingRefused trouble.TooLong) t
too_long_run ask m r key s t e long same = run_opened ask m r key s s (Err trouble.TooLong) e (long_ring (makes_ring ask) key s r long) ∙ ap (ended (ends.RingRefused trouble.TooLong)) (sym same)

pub worked_cause : (m m' r r' d d' : ℕ) (status : KeysStatus) → StopCaused status 0 0 0 0 d d' → StopCaused status m m' r r' d d'
worked_cause m m' r r' d d' ends.Done h = absurd h
worked_cause m m' r r' d d' ends.Usage h = absurd h
worked_cause m m' r r' d d' ends.BadMaster h = tt
worked_cause m m' r r' d d' (ends.RingRefused why) h = tt
worked_cause m m' r r' d d' (ends.Refused why) h = absurd h
worked_cause m m' r r' d d' (ends.ReadFault files.Master) h = never h
worked_cause m m' r r' d d' (ends.ReadFault files.Ring) h = never h
worked_cause m m' r r' d d' ends.WriteFault h = absurd h
worked_cause m m' r r' d d' ends.NoMemory h = tt
worked_cause m m' r r' d d' ends.KeeperFault h = absurd h
worked_cause m m' r r' d d' ends.RandomFault h = h

pub worked_caused : (m m' r r' d d' : ℕ) (result : Result Work KeysStatus) → IfErr result (λ status. StopCaused status 0 0 0 0 d d') → IfErr result (λ status. StopCaused status m m' r r' d d')
worked_caused m m' r r' d d' (Ok w) h = tt
worked_caused m m' r r' d d' (Err status) h = worked_cause m m' r r' d d' status h

pub master_cause : (m m' r r' d d' : ℕ) (status : KeysStatus) → StopCaused status m m' 0 0 0 0 → StopCaused status m m' r r' d d'
master_cause m m' r r' d d' ends.Done h = absurd h
master_cause m m' r r' d d' ends.Usage h = absurd h
master_cause m m' r r' d d' ends.BadMaster h = tt
master_cause m m' r r' d d' (ends.RingRefused why) h = tt
master_cause m m' r r' d d' (ends.Refused why) h = absurd h
master_cause m m' r r' d d' (ends.ReadFault files.Master) h = h
master_cause m m' r r' d d' (ends.ReadFault files.Ring) h = never h
master_cause m m' r r' d d' ends.WriteFault h = absurd h
master_cause m m' r r' d d' ends.NoMemory h = tt
master_cause m m' r r' d d' ends.KeeperFault h = absurd h
master_cause m m' r r' d d' ends.RandomFault h = never h

pub master_stop : (ask : Ask) (m r : List ℕ) (s t : Stream) (a b : ℕ) (status : KeysStatus) → StopCaused status a b 0 0 0 0 → MasterAs (Err status) (master_of m) → t ≡ s → StopsAs status (run_of ask m r s) s t
master_stop ask m r s t a b ends.Done h e same = absurd h
master_stop ask m r s t a b ends.Usage h e same = absurd h
master_stop ask m r s t a b ends.BadMaster h e same = bad_master ask m r s t e same
master_stop ask m r s t a b (ends.RingRefused why) h e same = absurd e
master_stop ask m r s t a b (ends.Refused why) h e same = absurd h
master_stop ask m r s t a b (ends.ReadFault file) h e same = same
master_stop ask m r s t a b ends.WriteFault h e same = absurd h
master_stop ask m r s t a b ends.NoMemory h e same = tt
master_stop ask m r s t a b ends.KeeperFault h e same = absurd h
master_stop ask m r s t a b ends.RandomFault h e same = tt

-- ---- a whole run

ended_run : (status : KeysStatus) (run : Run) (t : Stream) (k k' : List (List ℕ)) (h h' : List ℕ) → run ≡ ended status t → k' ≡ k → h' ≡ h → (status ≡ run.status) × ((t ≡ run.coming) × (IsKept run.piece k k' × (h' ≡ h ++ run.line)))
ended_run status run t k k' h h' e p q =
    subst (λ (u : Run). (status ≡ u.status) × ((t ≡ u.coming) × (IsKept u.piece k k' × (h' ≡ h ++ u.line)))) (sym e) (refl, (refl, (p, q ∙ sym (append-nil h))))

pub stop_run : (m m' r r' d d' : ℕ) (status : KeysStatus) (run : Run) (s t : Stream) (k k' : List (List ℕ)) (h h' : List ℕ) → StopCaused status m m' r r' d d' → StopsAs status run s t → k' ≡ k → h' ≡ h → IsRun status run s t k k' h h'
stop_run m m' r r' d d' ends.Done run s t k k' h h' c e p q = absurd c
stop_run m m' r r' d d' ends.Usage run s t k k' h h' c e p q = absurd c
stop_run m m' r r' d d' ends.BadMaster run s t k k' h h' c e p q = ended_run ends.BadMaster run t k k' h h' e p q
stop_run m m' r r' d d' (ends.RingRefused why) run s t k k' h h' c e p q = ended_run (ends.RingRefused why) run t k k' h h' e p q
stop_run m m' r r' d d' (ends.Refused why) run s t k k' h h' c e p q = absurd c
stop_run m m' r r' d d' (ends.ReadFault file) run s t k k' h h' c e p q = (e, (p, q))
stop_run m m' r r' d d' ends.WriteFault run s t k k' h h' c e p q = absurd c
stop_run m m' r r' d d' ends.NoMemory run s t k k' h h' c e p q = (p, q)
stop_run m m' r r' d d' ends.KeeperFault run s t k k' h h' c e p q = absurd c
stop_run m m' r r' d d' ends.RandomFault run s t k k' h h' c e p q = (p, q)

worked_run : (a a' b b' : ℕ) (status : KeysStatus) (w : Work) (s t : Stream) (k k' : List (List ℕ)) (h h' : List ℕ) → FinishCaused status a a' b b' → FinishedAs status w k k' h h' → IsRun status (worked (w, t)) s t k k' h h'
worked_run a a' b b' ends.Done w s t k k' h h' c f = (f.0, (refl, f.1))
worked_run a a' b b' ends.Usage w s t k k' h h' c f = absurd c
worked_run a a' b b' ends.BadMaster w s t k k' h h' c f = absurd c
worked_run a a' b b' (ends.RingRefused why) w s t k k' h h' c f = absurd c
worked_run a a' b b' (ends.Refused why) w s t k k' h h' c f = (f.0, (refl, f.1))
worked_run a a' b b' (ends.ReadFault file) w s t k k' h h' c f = absurd c
worked_run a a' b b' ends.WriteFault w s t k k' h h' c f = (refl, f)
worked_run a a' b b' ends.NoMemory w s t k k' h h' c f = absurd c
worked_run a a' b b' ends.KeeperFault w s t k k' h h' c f = (f.0, (refl, f.1))
worked_run a a' b b' ends.RandomFault w s t k k' h h' c f = absurd c

pub finish_run : (a a' b b' : ℕ) (status : KeysStatus) (w : Work) (run : Run) (s t : Stream) (k k' : List (List ℕ)) (h h' : List ℕ) → FinishCaused status a a' b b' → run ≡ worked (w, t) → FinishedAs status w k k' h h' → IsRun status run s t k k' h h'
finish_run a a' b b' status w run s t k k' h h' c e f = subst (λ (u : Run). IsRun status u s t k k' h h') (sym e) (worked_run a a' b b' status w s t k k' h h' c f)

-- ---- causes

pub stop_cause : (m m' r r' k k' d d' w w' : ℕ) (status : KeysStatus) → StopCaused status m m' r r' d d' → CausedBy status m m' r r' k k' d d' w w'
stop_cause m m' r r' k k' d d' w w' ends.Done h = tt
stop_cause m m' r r' k k' d d' w w' ends.Usage h = tt
stop_cause m m' r r' k k' d d' w w' ends.BadMaster h = tt
stop_cause m m' r r' k k' d d' w w' (ends.RingRefused why) h = tt
stop_cause m m' r r' k k' d d' w w' (ends.Refused why) h = tt
stop_cause m m' r r' k k' d d' w w' (ends.ReadFault files.Master) h = h
stop_cause m m' r r' k k' d d' w w' (ends.ReadFault files.Ring) h = h
stop_cause m m' r r' k k' d d' w w' ends.WriteFault h = absurd h
stop_cause m m' r r' k k' d d' w w' ends.NoMemory h = tt
stop_cause m m' r r' k k' d d' w w' ends.KeeperFault h = absurd h
stop_cause m m' r r' k k' d d' w w' ends.RandomFault h = h

pub finish_cause : (m m' r r' k k' d d' w w' : ℕ) (status : KeysStatus) → FinishCaused status k k' w w' → CausedBy status m m' r r' k k' d d' w w'
finish_cause m m' r r' k k' d d' w w' ends.Done h = tt
finish_cause m m' r r' k k' d d' w w' ends.Usage h = tt
finish_cause m m' r r' k k' d d' w w' ends.BadMaster h = tt
finish_cause m m' r r' k k' d d' w w' (ends.RingRefused why) h = tt
finish_cause m m' r r' k k' d d' w w' (ends.Refused why) h = tt
finish_cause m m' r r' k k' d d' w w' (ends.ReadFault files.Master) h = absurd h
finish_cause m m' r r' k k' d d' w w' (ends.ReadFault files.Ring) h = absurd h
finish_cause m m' r r' k k' d d' w w' ends.WriteFault h = h
finish_cause m m' r r' k k' d d' w w' ends.NoMemory h = tt
finish_cause m m' r r' k k' d d' w w' ends.KeeperFault h = h
finish_cause m m' r r' k k' d d' w w' ends.RandomFault h = absurd h

pub finish_no_usage : (k k' w w' : ℕ) (status : KeysStatus) → FinishCaused status k k' w w' → status ≡ ends.Usage → ⊥
finish_no_usage k k' w w' status h e = subst (λ (u : KeysStatus). FinishCaused u k k' w w') e h

pub stop_no_usage : (m m' r r' d d' : ℕ) (status : KeysStatus) → StopCaused status m m' r r' d d' → status ≡ ends.Usage → ⊥
stop_no_usage m m' r r' d d' status h e = subst (λ (u : KeysStatus). StopCaused u m m' r r' d d') e h

pub some_none : {A B : Type 0} (o : Option A) (x : A) → Some x ≡ o → o ≡ None → B
some_none {A} o x e f = let both : ◌≡◌ {A = Option A} (Some x) None = e ∙ f in absurd cc

pub stop_no_done : (m m' r r' d d' : ℕ) (status : KeysStatus) → StopCaused status m m' r r' d d' → status ≡ ends.Done → ⊥
stop_no_done m m' r r' d d' status h e = subst (λ (u : KeysStatus). StopCaused u m m' r r' d d') e h

done_outcome : (o : Outcome) → ends.Done ≡ status_of o → o ≡ outcomes.Done
done_outcome outcomes.Done e = refl
done_outcome (outcomes.Refused why) e = absurd (cc e)

-- the file of work that is done is kept
pub keeps_ring : (m key : List ℕ) (file : Option (List ℕ)) (k k' : List (List ℕ)) → master_of m ≡ Some key → IsSomeAnd file (ReadsBack key) → IsKept file k k' → KeepsRing m k'
keeps_ring m key None k k' e h kept = absurd h
keeps_ring m key (Some file) k k' e h kept = record { key = key; file = file; is_key = e; alone = kept; back = h }
