-- A key that isn't swept when a lease is given stays in the ring while its ticket is out.
use Rattle.std.proofs.Common.{◌≡◌, ◌≢◌, ℕ, ◌<◌, inl, inr, Bool, true, false, if◌then◌else◌, eqb, List, [], ◌∷◌, ◌++◌, Option, Some, None, is_some, is_none, option_map, refl, ap, sym, subst, ◌∙◌, arith}
use Rattle.std.specs.List.{AllByRecursion}
use Rattle.std.specs.Option.{option_and_then}
use Rattle.std.specs.Cmp.Lexicographic.{pointwise}
use Rattle.std.specs.Ordering.{is_gt}
use Rattle.std.proofs.lemmas.Bool.{cases_eq}
use Rattle.std.proofs.lemmas.Bool.Decides.{nat_tests}
use Rattle.std.proofs.lemmas.Slice.Eq.{bytes_eq-Decides}
use Rattle.keystore.specs.declared.keys.NewKeys.{NewKeys}
use Rattle.keystore.specs.declared.phase.Phase.{Phase}
use Rattle.keystore.specs.declared.phase.Phase.TheVariants as phases
use Rattle.keystore.specs.declared.phase.OldPhase.{OldPhase}
use Rattle.keystore.specs.declared.phase.OldPhase.TheVariants as old_phases
use Rattle.keystore.specs.declared.phase.OldKey.{OldKey}
use Rattle.keystore.specs.declared.tickets.Ticket.{Ticket}
use Rattle.keystore.specs.declared.refusals.AddRefusal.TheVariants as no_add
use Rattle.keystore.specs.Lists.{first, edited, AscendsBy}
use Rattle.keystore.specs.Kept.{IsOlder, IsPast, IsKeyed, IsKept}
use Rattle.keystore.proofs.Items.{all_weaker}
use Rattle.keystore.specs.Rings.{ClientKeys, RingState, name_cmp, is_named, is_ticket, client_of, added, changed, rotated, marked, without, phase_of, phase_of_old, old_phase_of, is_key, phase_in, least_below, released, abandoned, settled}
use Rattle.keystore.specs.Answers.{add_refusal, new_client, with_client, rotate_refusal, with_rotation, with_lease, retire_refusal, retire_refusal_at, leased_retire, with_retired}
use Rattle.keystore.specs.Moves.{Move, Add, Rotate, Lend, Release, Abandon, Settle, Mark, Retire, moved, after, is_out, Keeps, is_live, IsUsed}
use Rattle.keystore.proofs.Least.{none_is_out, out_by_test}
use Rattle.keystore.proofs.Staying.{Hold, HoldsPhase, hold_marked, hold_rotated, hold_without, hold_swept}

-- ---- tickets

out_same : (n : ℕ) (t u : Ticket) (o : Option Ticket) (b : Bool) → is_some (if b then Some t else o) ≡ true → is_some (if b then Some u else o) ≡ true
out_same n t u o true h = refl
out_same n t u o false h = h

out_both : (t : Ticket) (o o' : Option Ticket) (b : Bool) → (is_some o ≡ true → is_some o' ≡ true) → is_some (if b then Some t else o) ≡ true → is_some (if b then Some t else o') ≡ true
out_both t o o' true f h = refl
out_both t o o' false f h = f h

-- an edit of the tickets of one number keeps those of another
module _ (n m : ℕ) (f : Ticket → List Ticket) (keeps : (t : Ticket) (ts : List Ticket) → t.number ≡ m → is_out n (t ∷ ts) ≡ true → is_out n (f t ++ ts) ≡ true) where
  edited_by_test : (t : Ticket) (ts : List Ticket) (b : Bool) → (b ≡ true → t.number ≡ m) → (is_out n ts ≡ true → is_out n (edited (is_ticket m) f ts) ≡ true) → is_out n (t ∷ ts) ≡ true → is_out n (if b then f t ++ ts else t ∷ edited (is_ticket m) f ts) ≡ true
  edited_by_test t ts true same rest h = keeps t ts (same refl) h
  edited_by_test t ts false same rest h = out_both t (first (is_ticket n) ts) (first (is_ticket n) (edited (is_ticket m) f ts)) (eqb t.number n) rest h

  out_edited : (ts : List Ticket) → is_out n ts ≡ true → is_out n (edited (is_ticket m) f ts) ≡ true
  out_edited [] h = h
  out_edited (t ∷ ts) h = edited_by_test t ts (eqb t.number m) (λ e. grind (arith, nat_tests)) (out_edited ts) h

other_out : (n m : ℕ) (t : Ticket) (ts : List Ticket) → m ≢ n → t.number ≡ m → is_out n (t ∷ ts) ≡ true → is_out n ts ≡ true
other_out n m t ts ne e h = let other : eqb t.number n ≡ false = grind (arith, nat_tests) in rw other at h

released_by_test : (n : ℕ) (t : Ticket) (ts : List Ticket) (b : Bool) → is_out n (t ∷ ts) ≡ true → is_out n ts ≡ true → is_out n ((if b then t ∷ [] else []) ++ ts) ≡ true
released_by_test n t ts true h k = h
released_by_test n t ts false h k = k

settled_by_test : (n : ℕ) (t : Ticket) (ts : List Ticket) (b : Bool) → is_out n (t ∷ ts) ≡ true → is_out n ts ≡ true → is_out n ((if b then [] else t ∷ []) ++ ts) ≡ true
settled_by_test n t ts true h k = k
settled_by_test n t ts false h k = h

out_released : (n m : ℕ) (ts : List Ticket) → m ≢ n → is_out n ts ≡ true → is_out n (released m ts) ≡ true
out_released n m ts ne h = out_edited n m (λ t. if t.abandoned then t ∷ [] else []) (λ t us e g. released_by_test n t us t.abandoned g (other_out n m t us ne e g)) ts h

out_settled : (n m : ℕ) (ts : List Ticket) → m ≢ n → is_out n ts ≡ true → is_out n (settled m ts) ≡ true
out_settled n m ts ne h = out_edited n m (λ t. if t.abandoned then [] else t ∷ []) (λ t us e g. settled_by_test n t us t.abandoned g (other_out n m t us ne e g)) ts h

out_abandoned : (n m : ℕ) (ts : List Ticket) → is_out n ts ≡ true → is_out n (abandoned m ts) ≡ true
out_abandoned n m ts h = out_edited n m (λ t. record t { abandoned = true } ∷ []) (λ t us e g. out_same n t (record t { abandoned = true }) (first (is_ticket n) us) (eqb t.number n) g) ts h

out_push : (n : ℕ) (ts : List Ticket) (u : Ticket) → is_out n ts ≡ true → is_out n (ts ++ u ∷ []) ≡ true
out_push n [] u h = cc
out_push n (t ∷ ts) u h = out_both t (first (is_ticket n) ts) (first (is_ticket n) (ts ++ u ∷ [])) (eqb t.number n) (out_push n ts u) h

pub out_last : (n : ℕ) (ts : List Ticket) (u : Ticket) → u.number ≡ n → is_out n (ts ++ u ∷ []) ≡ true
out_last n [] u e = let same : eqb u.number n ≡ true = grind (arith, nat_tests) in rw same refl
out_last n (t ∷ ts) u e = out_by_test t (first (is_ticket n) (ts ++ u ∷ [])) (eqb t.number n) (out_last n ts u e)

-- ---- clients

abbrev pub Holds : ℕ → ℕ → Option ClientKeys → Type 0
Holds t id (Some c) = Hold t id c
Holds t id None = ⊥

holds_by_test : (t id : ℕ) (c d : ClientKeys) (o o' : Option ClientKeys) (b : Bool) → (Hold t id c → Hold t id d) → (Holds t id o → Holds t id o') → Holds t id (if b then Some c else o) → Holds t id (if b then Some d else o')
holds_by_test t id c d o o' true f g h = f h
holds_by_test t id c d o o' false f g h = g h

module _ (t id : ℕ) (who other : List ℕ) (f : ClientKeys → ClientKeys) (same : (c : ClientKeys) → (f c).name ≡ c.name) where
  changed_by_test : (c : ClientKeys) (cs : List ClientKeys) (b : Bool) → ((d : ClientKeys) → (if b then Some c else first (is_named other) cs) ≡ Some d → Hold t id d → Hold t id (f d)) → (((d : ClientKeys) → first (is_named other) cs ≡ Some d → Hold t id d → Hold t id (f d)) → Holds t id (first (is_named who) cs) → Holds t id (first (is_named who) (changed other f cs))) → Holds t id (first (is_named who) (c ∷ cs)) → Holds t id (first (is_named who) (if b then f c ∷ [] ++ cs else c ∷ changed other f cs))
  changed_by_test c cs true g rest h = subst (λ (n : List ℕ). Holds t id (if pointwise eqb n who then Some (f c) else first (is_named who) cs)) (sym (same c)) (holds_by_test t id c (f c) (first (is_named who) cs) (first (is_named who) cs) (is_named who c) (g c refl) (λ x. x) h)
  changed_by_test c cs false g rest h = holds_by_test t id c c (first (is_named who) cs) (first (is_named who) (changed other f cs)) (is_named who c) (λ x. x) (rest g) h

  holds_changed : (cs : List ClientKeys) → ((d : ClientKeys) → first (is_named other) cs ≡ Some d → Hold t id d → Hold t id (f d)) → Holds t id (first (is_named who) cs) → Holds t id (first (is_named who) (changed other f cs))
  holds_changed [] g h = h
  holds_changed (c ∷ cs) g h = changed_by_test c cs (is_named other c) g (holds_changed cs) h

module _ (t id : ℕ) (who : List ℕ) (c : ClientKeys) (other : pointwise eqb c.name who ≡ false) where
  added_by_test : (d : ClientKeys) (ds : List ClientKeys) (b : Bool) → (Holds t id (first (is_named who) ds) → Holds t id (first (is_named who) (added c ds))) → Holds t id (first (is_named who) (d ∷ ds)) → Holds t id (first (is_named who) (if b then c ∷ d ∷ ds else d ∷ added c ds))
  added_by_test d ds true rest h = rw other h
  added_by_test d ds false rest h = holds_by_test t id d d (first (is_named who) ds) (first (is_named who) (added c ds)) (is_named who d) (λ x. x) rest h

  holds_added : (ds : List ClientKeys) → Holds t id (first (is_named who) ds) → Holds t id (first (is_named who) (added c ds))
  holds_added [] h = absurd h
  holds_added (d ∷ ds) h = added_by_test d ds (is_gt (name_cmp d.name c.name)) (holds_added ds) h

-- ---- the ring

pub record Held (t id : ℕ) (who : List ℕ) (r : RingState) : Type 0 where
  pub out : is_out t r.out ≡ true
  pub later : t < r.next_ticket
  pub holds : Holds t id (client_of who r.clients)

held_by_test : (t id : ℕ) (who : List ℕ) (r s : RingState) (b b' : Bool) → b ≡ b' → (b ≡ true → Held t id who s) → Held t id who r → Held t id who (if b then s else r)
held_by_test t id who r s true b' e f h = f refl
held_by_test t id who r s false b' e f h = h

not_there : (o : Option ClientKeys) (full : Bool) → is_none (if is_some o then Some no_add.Exists else if full then Some no_add.TooMany else None) ≡ true → o ≡ None
not_there None full h = refl
not_there (Some c) full h = cc

other_name : (t id : ℕ) (who other : List ℕ) (cs : List ClientKeys) (b : Bool) → pointwise eqb other who ≡ b → client_of other cs ≡ None → Holds t id (client_of who cs) → b ≡ false
other_name t id who other cs false e none h = refl
other_name t id who other cs true e none h =
    let same : other ≡ who = (bytes_eq-Decides other who).0 e in
    absurd (subst (Holds t id) none (subst (λ (n : List ℕ). Holds t id (client_of n cs)) (sym same) h))

held_added : (t id : ℕ) (who other : List ℕ) (keys : NewKeys) (r : RingState) → is_none (add_refusal r other) ≡ true → Held t id who r → Held t id who (with_client r other keys)
held_added t id who other keys r free h =
    let none = not_there (client_of other r.clients) _ free in
    record { out = h.out; later = h.later; holds = holds_added t id who (new_client r other keys) (other_name t id who other r.clients (pointwise eqb other who) refl none h.holds) r.clients h.holds }

retired_at : (r : RingState) (o : Option Phase) → is_none (retire_refusal_at r o) ≡ true → (since : ℕ) × (o ≡ Some (phases.Swept since)) × (least_below since r.out ≡ None)
retired_at r None h = cc
retired_at r (Some phases.Current) h = cc
retired_at r (Some (phases.Draining since)) h = cc
retired_at r (Some (phases.Swept since)) h = (since, refl, of_least (least_below since r.out) h)
  where
    of_least : (o : Option ℕ) → is_none (leased_retire o) ≡ true → o ≡ None
    of_least None h = refl
    of_least (Some m) h = cc

retired_holds : (t id key : ℕ) (other : List ℕ) (r : RingState) → is_none (retire_refusal r other key) ≡ true → is_out t r.out ≡ true → (c : ClientKeys) → client_of other r.clients ≡ Some c → Hold t id c → Hold t id (without key c)
retired_holds t id key other r free out c found h = elim (cases_eq key id) [
  | inl same ↦
      let at = retired_at r (phase_in r other key) free in
      let phase = ap (option_and_then (phase_of key)) (sym found) ∙ at.1 in
      let over = hold_swept t id at.0 c h (subst (λ (n : ℕ). phase_of n c ≡ Some (phases.Swept at.0)) same phase) in
      absurd (none_is_out at.0 t r.out out over at.2)
  | inr ne ↦ hold_without t id key c ne h
]

held_moved : (t id : ℕ) (who : List ℕ) (r : RingState) (m : Move) → Keeps t m → Held t id who r → Held t id who (moved r m)
held_moved t id who r (Add other keys) k h = held_by_test t id who r (with_client r other keys) (is_none (add_refusal r other)) (is_none (add_refusal r other)) refl (λ e. held_added t id who other keys r e h) h
held_moved t id who r (Rotate other key) k h = held_by_test t id who r (with_rotation r other key) (is_none (rotate_refusal r other)) (is_none (rotate_refusal r other)) refl
    (λ e. record { out = h.out; later = h.later; holds = holds_changed t id who other (rotated r.next_id key r.next_ticket) (λ c. refl) r.clients (λ c found g. hold_rotated t id r.next_id r.next_ticket key c g) h.holds }) h
held_moved t id who r Lend k h = record { out = out_push t r.out (record { number = r.next_ticket; abandoned = false }) h.out; later = omega (arith, h.later); holds = h.holds }
held_moved t id who r (Release m) k h = record { out = out_released t m r.out k h.out; later = h.later; holds = h.holds }
held_moved t id who r (Abandon m) k h = record { out = out_abandoned t m r.out h.out; later = h.later; holds = h.holds }
held_moved t id who r (Settle m) k h = record { out = out_settled t m r.out k h.out; later = h.later; holds = h.holds }
held_moved t id who r (Mark other key) k h = record { out = h.out; later = h.later; holds = holds_changed t id who other (marked key r.next_ticket) (λ c. refl) r.clients (λ c found g. hold_marked t id key r.next_ticket c h.later g) h.holds }
held_moved t id who r (Retire other key) k h = held_by_test t id who r (with_retired r other key) (is_none (retire_refusal r other key)) (is_none (retire_refusal r other key)) refl
    (λ e. record { out = h.out; later = h.later; holds = holds_changed t id who other (without key) (λ c. refl) r.clients (λ c found g. retired_holds t id key other r e h.out c found g) h.holds }) h

pub held_after : (t id : ℕ) (who : List ℕ) (r : RingState) (ms : List Move) → AllByRecursion (Keeps t) ms → Held t id who r → Held t id who (after r ms)
held_after t id who r [] k h = h
held_after t id who r (m ∷ ms) k h = held_after t id who (moved r m) ms k.1 (held_moved t id who r m k.0 h)

live_at : (t id : ℕ) (o : Option ClientKeys) → Holds t id o → is_some (option_and_then (phase_of id) o) ≡ true
live_at t id None h = absurd h
live_at t id (Some c) h = h.has

pub held_live : (t id : ℕ) (who : List ℕ) (r : RingState) → Held t id who r → is_live r who id ≡ true
held_live t id who r h = live_at t id (client_of who r.clients) h.holds

-- ---- when a lease is given

abbrev IsDraining : Option OldPhase → Type 0
IsDraining (Some (old_phases.Draining since)) = Unit {0}
IsDraining (Some (old_phases.Swept since)) = ⊥
IsDraining None = ⊥

abbrev AllHold : ℕ → ℕ → List OldKey → Type 0
AllHold t id ks = AllByRecursion (λ (k : OldKey). k.id ≡ id → HoldsPhase t k.phase) ks

draining_holds : (t : ℕ) (p : OldPhase) → IsDraining (Some p) → HoldsPhase t p
draining_holds t (old_phases.Draining since) h = tt
draining_holds t (old_phases.Swept since) h = absurd h

unique_by_test : (t id : ℕ) (k : OldKey) (ks : List OldKey) (b : Bool) → eqb k.id id ≡ b → AllByRecursion (IsOlder k) ks → IsDraining (old_phase_of (if b then Some k else first (is_key id) ks)) → (IsDraining (old_phase_of (first (is_key id) ks)) → AllHold t id ks) → AllHold t id (k ∷ ks)
unique_by_test t id k ks true e older h rest =
    let same : k.id ≡ id = grind (arith, nat_tests) in
    ((λ g. draining_holds t k.phase h), all_weaker (IsOlder k) (λ (j : OldKey). j.id ≡ id → HoldsPhase t j.phase) (λ j o g. absurd (omega (arith, o, g, same))) ks older)
unique_by_test t id k ks false e older h rest = ((λ g. let other : k.id ≢ id = grind (arith, nat_tests) in absurd (other g)), rest h)

unique : (t id : ℕ) (ks : List OldKey) → AscendsBy IsOlder ks → IsDraining (old_phase_of (first (is_key id) ks)) → AllHold t id ks
unique t id [] up h = tt
unique t id (k ∷ ks) up h = unique_by_test t id k ks (eqb k.id id) refl up.0 h (unique t id ks up.1)

of_used : (o : Option OldPhase) → IsUsed (option_map phase_of_old o) → IsDraining o
of_used None h = h
of_used (Some (old_phases.Draining since)) h = tt
of_used (Some (old_phases.Swept since)) h = h

used_some : (o : Option Phase) → IsUsed o → is_some o ≡ true
used_some None h = absurd h
used_some (Some p) h = refl

used_each : (t id next now : ℕ) (c : ClientKeys) (b : Bool) → eqb c.id id ≡ b → IsKeyed next now c → IsUsed (if b then Some phases.Current else option_map phase_of_old (old_phase_of (first (is_key id) c.past))) → AllHold t id c.past
used_each t id next now c true e k h =
    let same : c.id ≡ id = grind (arith, nat_tests) in
    all_weaker (IsPast c.id now) (λ (j : OldKey). j.id ≡ id → HoldsPhase t j.phase) (λ j p g. absurd (omega (arith, p.older, g, same))) c.past k.each
used_each t id next now c false e k h = unique t id c.past k.ascend (of_used (old_phase_of (first (is_key id) c.past)) h)

first_by_test : (P : ClientKeys → Type 0) (c d : ClientKeys) (o : Option ClientKeys) (b : Bool) → P c → (o ≡ Some d → P d) → (if b then Some c else o) ≡ Some d → P d
first_by_test P c d o true h rest e = let same : c ≡ d = cc in subst P same h
first_by_test P c d o false h rest e = rest e

first_has : (P : ClientKeys → Type 0) (who : List ℕ) (cs : List ClientKeys) (d : ClientKeys) → AllByRecursion P cs → first (is_named who) cs ≡ Some d → P d
first_has P who [] d h e = cc
first_has P who (c ∷ cs) d h e = first_by_test P c d (first (is_named who) cs) (is_named who c) h.0 (first_has P who cs d h.1) e

used_holds : (t id next now : ℕ) (o : Option ClientKeys) → ((c : ClientKeys) → o ≡ Some c → IsKeyed next now c) → IsUsed (option_and_then (phase_of id) o) → Holds t id o
used_holds t id next now None k h = h
used_holds t id next now (Some c) k h = record { has = used_some (phase_of id c) h; each = used_each t id next now c (eqb c.id id) refl (k c refl) h }

pub held_lease : (r : RingState) (who : List ℕ) (id : ℕ) → IsKept r → IsUsed (phase_in r who id) → Held r.next_ticket id who (with_lease r)
held_lease r who id k used = record {
  out = out_last r.next_ticket r.out (record { number = r.next_ticket; abandoned = false }) refl;
  later = omega arith;
  holds = used_holds r.next_ticket id r.next_id r.next_ticket (client_of who r.clients) (λ c e. first_has (IsKeyed r.next_id r.next_ticket) who r.clients c k.keyed e) used;
}
