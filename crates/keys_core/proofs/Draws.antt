-- What is drawn, one part of a run after another.
use Rattle.std.proofs.Common.{◌≡◌, ℕ, ◌<◌, ◌≤◌, ◌^◌, ◌==◌, ◌&&◌, ltb, Bool, true, false, if◌then◌else◌, IfErr, List, [], ◌∷◌, ◌++◌, length, Option, Some, None, Result, Ok, Err, is_err, refl, sym, ap, subst, ◌∙◌, append_assoc}
use Rattle.std.proofs.lemmas.List.{append-nil}
use Rattle.std.proofs.lemmas.Bool.{lt-ltb, le-ltb}
use Rattle.rand_core.specs.Stream.{Stream, fill_bytes}
use Rattle.acra_devices.specs.Draws.{Gave, StreamKeeps, DrawGives}
use Rattle.keystore.specs.Rings.{RingState}
use Rattle.keystore.specs.declared.refusals.AddRefusal.{AddRefusal}
use Rattle.keystore.specs.declared.refusals.AddRefusal.TheVariants as no_add
use Rattle.keystore.specs.Answers.{Answers, add_refusal}
use Rattle.ring_file.specs.Master.{master_of}
use Rattle.keys_core.specs.declared.words.Ask.{Ask}
use Rattle.keys_core.specs.declared.words.Ask.TheVariants as asks
use Rattle.keys_core.specs.declared.opening.Shut.TheVariants as shut
use Rattle.keys_core.specs.declared.status.RingTrouble.{RingTrouble}
use Rattle.keys_core.specs.declared.status.KeysStatus.{KeysStatus}
use Rattle.keys_core.specs.declared.status.KeysStatus.TheVariants as ends
use Rattle.keys_core.specs.declared.work.Work.{Work}
use Rattle.keys_core.specs.declared.work.Stop.{Stop}
use Rattle.keys_core.specs.declared.work.Stop.TheVariants as stop
use Rattle.keys_core.specs.Work.{new_ring, read_file, makes_ring}
use Rattle.keys_core.specs.Draws.{nonce_unless, work_draws, read_draws, ring_draws, draws_under, draws_of, after, DrewBy, Missed, MadeSome, DrawnAs, OpensBy, ring_keys, WorkDrew, PreparedDrew}
use Rattle.keys_core.specs.Runs.{StopCaused, FinishCaused, MasterAs}
use Rattle.keys_core.proofs.Runs.{never}

-- ---- one device after draws

after_append : (xs ys : List ℕ) (s : Stream) → after ys (after xs s) ≡ after (xs ++ ys) s
after_append [] ys s = refl
after_append (x ∷ xs) ys s = after_append xs ys (fill_bytes x s).1

pub drew_nothing : (o : Option Stream) → DrewBy [] o o
drew_nothing None = tt
drew_nothing (Some s) = refl

pub drew_both : (xs ys : List ℕ) (a b c : Option Stream) → DrewBy xs a b → DrewBy ys b c → DrewBy (xs ++ ys) a c
drew_both xs ys a b None p q = tt
drew_both xs ys (Some s) (Some t) (Some u) p q = q ∙ (ap (after ys) p ∙ after_append xs ys s)
drew_both xs ys None (Some t) (Some u) p q = absurd p
drew_both xs ys a None (Some u) p q = absurd q

pub gave_drew : (n : ℕ) (old new : Option Stream) (bytes : List ℕ) → length bytes ≡ n → Gave old new bytes → DrewBy (n ∷ []) old new
gave_drew n old None bytes e h = tt
gave_drew n (Some s) (Some t) bytes e h = ap (λ (p : List ℕ × Stream). p.1) h ∙ ap (λ (k : ℕ). (fill_bytes k s).1) e
gave_drew n None (Some t) bytes e h = absurd h

pub kept_drew : (old new : Option Stream) → StreamKeeps old new → DrewBy [] old new
kept_drew old None h = tt
kept_drew (Some s) (Some t) h = h
kept_drew None (Some t) h = absurd h

pub drew_ok : {E : Type 0} (n : ℕ) (a b : Option Stream) (result : Result (Unit {0}) E) (bytes : List ℕ) → length bytes ≡ n → DrawGives a b result bytes → is_err result ≡ false → DrewBy (n ∷ []) a b
drew_ok n a b (Ok u) bytes e h ok = gave_drew n a b bytes e h
drew_ok n a b (Err why) bytes e h ok = absurd (cc ok)

pub draw_failed : {E : Type 0} (a b : Option Stream) (result : Result (Unit {0}) E) (bytes : List ℕ) → DrawGives a b result bytes → is_err result ≡ true → StreamKeeps a b
draw_failed a b (Ok u) bytes h failed = absurd (cc failed)
draw_failed a b (Err why) bytes h failed = h

-- the first draw failed
pub first_missed : (n : ℕ) (rest : List ℕ) (a b : Option Stream) → StreamKeeps a b → Missed (n ∷ rest) a b
first_missed n rest a b h = record { before = []; size = n; behind = rest; parts = refl; made = kept_drew a b h }

pub none_made : (due : List ℕ) (a b : Option Stream) → DrewBy [] a b → MadeSome due a b
none_made due a b h = record { before = []; behind = due; parts = refl; made = h }

pub one_made : (n : ℕ) (rest : List ℕ) (a b : Option Stream) → DrewBy (n ∷ []) a b → MadeSome (n ∷ rest) a b
one_made n rest a b h = record { before = n ∷ []; behind = rest; parts = refl; made = h }

pub all_made : (due : List ℕ) (a b : Option Stream) → DrewBy due a b → MadeSome due a b
all_made due a b h = record { before = due; behind = []; parts = append-nil due; made = h }

-- ---- the work

pub work_then : (xs ys due : List ℕ) (a b c : Option Stream) (result : Result Work Stop) → xs ++ ys ≡ due → DrewBy xs a b → WorkDrew result ys b c → WorkDrew result due a c
work_then xs ys due a b c (Ok w) e p h = subst (λ (l : List ℕ). DrewBy l a c) e (drew_both xs ys a b c p h)
work_then xs ys due a b c (Err stop.NoMemory) e p h =
    record { before = xs ++ h.before; behind = h.behind; parts = append_assoc xs h.before h.behind ∙ (ap (λ (l : List ℕ). xs ++ l) h.parts ∙ e); made = drew_both xs h.before a b c p h.made }
work_then xs ys due a b c (Err stop.RandomFault) e p h =
    record { before = xs ++ h.before; size = h.size; behind = h.behind; parts = append_assoc xs h.before (h.size ∷ h.behind) ∙ (ap (λ (l : List ℕ). xs ++ l) h.parts ∙ e); made = drew_both xs h.before a b c p h.made }

-- nothing more is drawn
pub work_drew : (due : List ℕ) (a b : Option Stream) (result : Result Work Stop) → IfErr result (λ e. e ≡ stop.NoMemory) → DrewBy due a b → WorkDrew result due a b
work_drew due a b (Ok w) s h = h
work_drew due a b (Err stop.NoMemory) s h = all_made due a b h
work_drew due a b (Err stop.RandomFault) s h = absurd (cc s)

-- a client that is taken, and one that is refused
pub taken_due : (o : Option AddRefusal) → o ≡ None → (64 ∷ []) ++ (12 ∷ []) ≡ 64 ∷ nonce_unless o
taken_due o e = ap (λ (p : Option AddRefusal). 64 ∷ nonce_unless p) (sym e)

pub refused_drew : {T : Type 0} (o : Option AddRefusal) (why : AddRefusal) (P : T → Type 0) (a b : Option Stream) → Answers o no_add.NoMemory P (Err why) → (why ≡ no_add.NoMemory → ⊥) → DrewBy (64 ∷ []) a b → DrewBy (64 ∷ nonce_unless o) a b
refused_drew (Some w) why P a b h other p = p
refused_drew None why P a b h other p = absurd (other h)

-- ---- the ring

pub opens_new : (makes empty : Bool) (read : Result RingState RingTrouble) (drawn : List ℕ) (r : RingState) → makes ≡ true → empty ≡ true → r ≡ new_ring drawn → OpensBy (makes && empty) read (Ok r)
opens_new true true read drawn r p q e = (drawn, e)
opens_new true false read drawn r p q e = absurd (cc q)
opens_new false empty read drawn r p q e = absurd (cc p)

made_draws : (who : List ℕ) (new : Bool) (read : Result RingState RingTrouble) (ring : RingState) → OpensBy new read (Ok ring)
    → ring_keys new ++ 64 ∷ nonce_unless (add_refusal ring who) ≡ (if new then 96 ∷ 64 ∷ 12 ∷ [] else read_draws (asks.Generate who) read)
made_draws who true read ring h = ap (λ (r : RingState). 96 ∷ 64 ∷ nonce_unless (add_refusal r who)) h.1
made_draws who false read ring h = ap (read_draws (asks.Generate who)) (sym h)

pub opened_draws : (ask : Ask) (master bytes : List ℕ) (ring : RingState) → OpensBy (makes_ring ask && (length bytes == 0)) (read_file master bytes) (Ok ring)
    → ring_keys (makes_ring ask && (length bytes == 0)) ++ work_draws ask ring ≡ ring_draws ask master bytes
opened_draws (asks.Generate who) master bytes ring h = made_draws who (length bytes == 0) (read_file master bytes) ring h
opened_draws asks.ListKeys master bytes ring h = ap (read_draws asks.ListKeys) (sym h)
opened_draws (asks.Destroy who id) master bytes ring h = ap (read_draws (asks.Destroy who id)) (sym h)
opened_draws asks.Check master bytes ring h = ap (read_draws asks.Check) (sym h)

pub worked_drew : (ask : Ask) (master bytes : List ℕ) (ring : RingState) (a b c : Option Stream) (result : Result Work Stop) → OpensBy (makes_ring ask && (length bytes == 0)) (read_file master bytes) (Ok ring)
    → DrewBy (ring_keys (makes_ring ask && (length bytes == 0))) a b → WorkDrew result (work_draws ask ring) b c → WorkDrew result (ring_draws ask master bytes) a c
worked_drew ask master bytes ring a b c result o p h =
    work_then (ring_keys (makes_ring ask && (length bytes == 0))) (work_draws ask ring) (ring_draws ask master bytes) a b c result (opened_draws ask master bytes ring o) p h

trouble_draws : (ask : Ask) (new : Bool) (read : Result RingState RingTrouble) (why : RingTrouble) → OpensBy new read (Err (shut.Trouble why)) → (if new then 96 ∷ 64 ∷ 12 ∷ [] else read_draws ask read) ≡ []
trouble_draws ask true read why h = absurd h
trouble_draws ask false read why h = ap (read_draws ask) h

pub trouble_drew : (ask : Ask) (master bytes : List ℕ) (why : RingTrouble) (a b : Option Stream) → OpensBy (makes_ring ask && (length bytes == 0)) (read_file master bytes) (Err (shut.Trouble why)) → DrewBy [] a b
    → DrewBy (ring_draws ask master bytes) a b
trouble_drew ask master bytes why a b o h = subst (λ (l : List ℕ). DrewBy l a b) (sym (trouble_draws ask (makes_ring ask && (length bytes == 0)) (read_file master bytes) why o)) h

fault_draws : (ask : Ask) (new : Bool) (read : Result RingState RingTrouble) → OpensBy new read (Err shut.RandomFault) → 96 ∷ 64 ∷ 12 ∷ [] ≡ (if new then 96 ∷ 64 ∷ 12 ∷ [] else read_draws ask read)
fault_draws ask true read h = refl
fault_draws ask false read h = absurd h

pub ring_missed : (ask : Ask) (master bytes : List ℕ) (a b : Option Stream) → OpensBy (makes_ring ask && (length bytes == 0)) (read_file master bytes) (Err shut.RandomFault) → DrewBy [] a b → Missed (ring_draws ask master bytes) a b
ring_missed ask master bytes a b o h =
    record { before = []; size = 96; behind = 64 ∷ 12 ∷ []; parts = fault_draws ask (makes_ring ask && (length bytes == 0)) (read_file master bytes) o; made = h }

-- ---- the files

short_draws : (ask : Ask) (key bytes : List ℕ) → length bytes ≤ 2 ^ 24 → ring_draws ask key bytes ≡ draws_under ask (Some key) bytes
short_draws ask key bytes short = let most : ltb (2 ^ 24) (length bytes) ≡ false = le-ltb _ _ short in rw most refl

long_draws : (ask : Ask) (key bytes : List ℕ) → 2 ^ 24 < length bytes → draws_under ask (Some key) bytes ≡ []
long_draws ask key bytes long = let more : ltb (2 ^ 24) (length bytes) ≡ true = lt-ltb _ _ long in rw more refl

pub prepared_drew : (ask : Ask) (m r key bytes : List ℕ) (a b : Option Stream) (result : Result Work KeysStatus) → master_of m ≡ Some key → bytes ≡ r → length bytes ≤ 2 ^ 24
    → PreparedDrew result (ring_draws ask key bytes) a b → PreparedDrew result (draws_of ask m r) a b
prepared_drew ask m r key bytes a b result e same short p =
    let due : ring_draws ask key bytes ≡ draws_of ask m r =
    short_draws ask key bytes short ∙ (ap (draws_under ask (Some key)) same ∙ ap (λ (k : Option (List ℕ)). draws_under ask k r) (sym e)) in
    subst (λ (l : List ℕ). PreparedDrew result l a b) due p

pub long_drew : (ask : Ask) (m r key : List ℕ) (a : Option Stream) → master_of m ≡ Some key → 2 ^ 24 < length r → DrewBy (draws_of ask m r) a a
long_drew ask m r key a e long =
    let none : draws_of ask m r ≡ [] = ap (λ (k : Option (List ℕ)). draws_under ask k r) e ∙ long_draws ask key r long in
    subst (λ (l : List ℕ). DrewBy l a a) (sym none) (drew_nothing a)

bad_drew : (ask : Ask) (m r : List ℕ) (a : Option Stream) → master_of m ≡ None → DrewBy (draws_of ask m r) a a
bad_drew ask m r a e = subst (λ (k : Option (List ℕ)). DrewBy (draws_under ask k r) a a) (sym e) (drew_nothing a)

pub master_drew : (ask : Ask) (m r : List ℕ) (o : Option Stream) (a b : ℕ) (status : KeysStatus) → StopCaused status a b 0 0 0 0 → MasterAs (Err status) (master_of m) → DrawnAs status (draws_of ask m r) o o
master_drew ask m r o a b ends.Done h e = absurd h
master_drew ask m r o a b ends.Usage h e = absurd h
master_drew ask m r o a b ends.BadMaster h e = bad_drew ask m r o e
master_drew ask m r o a b (ends.RingRefused why) h e = absurd e
master_drew ask m r o a b (ends.Refused why) h e = absurd h
master_drew ask m r o a b (ends.ReadFault file) h e = drew_nothing o
master_drew ask m r o a b ends.WriteFault h e = absurd h
master_drew ask m r o a b ends.NoMemory h e = none_made (draws_of ask m r) o o (drew_nothing o)
master_drew ask m r o a b ends.KeeperFault h e = absurd h
master_drew ask m r o a b ends.RandomFault h e = never h

-- ---- a whole run

pub finish_drew : (due : List ℕ) (a b : Option Stream) (k k' w w' : ℕ) (status : KeysStatus) → FinishCaused status k k' w w' → DrewBy due a b → DrawnAs status due a b
finish_drew due a b k k' w w' ends.Done h p = p
finish_drew due a b k k' w w' ends.Usage h p = absurd h
finish_drew due a b k k' w w' ends.BadMaster h p = absurd h
finish_drew due a b k k' w w' (ends.RingRefused why) h p = absurd h
finish_drew due a b k k' w w' (ends.Refused why) h p = p
finish_drew due a b k k' w w' (ends.ReadFault file) h p = absurd h
finish_drew due a b k k' w w' ends.WriteFault h p = p
finish_drew due a b k k' w w' ends.NoMemory h p = absurd h
finish_drew due a b k k' w w' ends.KeeperFault h p = p
finish_drew due a b k k' w w' ends.RandomFault h p = absurd h
