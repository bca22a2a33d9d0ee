-- A key that isn't swept when a lease is given stays while the lease's ticket is out.
use Rattle.std.proofs.Common.{◌≡◌, ◌≢◌, ℕ, ◌<◌, Bool, true, false, if◌then◌else◌, eqb, List, [], ◌∷◌, ◌++◌, Option, Some, None, is_some, option_map, refl, sym, subst, arith}
use Rattle.std.specs.List.{AllByRecursion}
use Rattle.std.proofs.lemmas.Bool.Decides.{nat_tests}
use Rattle.keystore.specs.declared.phase.Phase.{Phase}
use Rattle.keystore.specs.declared.phase.Phase.TheVariants as phases
use Rattle.keystore.specs.declared.phase.OldPhase.{OldPhase}
use Rattle.keystore.specs.declared.phase.OldPhase.TheVariants as old_phases
use Rattle.keystore.specs.declared.phase.OldKey.{OldKey}
use Rattle.keystore.specs.Lists.{first, edited}
use Rattle.keystore.specs.Rings.{ClientKeys, is_key, rotated, marked, without, swept_key, swept_phase, phase_of, phase_of_old, old_phase_of}
use Rattle.keystore.proofs.Items.{all_push, all_edited}

-- ---- one client

-- an old key that is still needed under the ticket
abbrev pub HoldsPhase : ℕ → OldPhase → Type 0
HoldsPhase t (old_phases.Draining since) = Unit {0}
HoldsPhase t (old_phases.Swept since) = t < since

-- the client has the key, and each of that id is still needed
pub record Hold (t id : ℕ) (c : ClientKeys) : Type 0 where
  pub has : is_some (phase_of id c) ≡ true
  pub each : AllByRecursion (λ (k : OldKey). k.id ≡ id → HoldsPhase t k.phase) c.past

abbrev has_old : ℕ → List OldKey → Bool
has_old id ks = is_some (old_phase_of (first (is_key id) ks))

abbrev shown : (b : Bool) → Option OldPhase → Option Phase
shown b o = if b then Some phases.Current else option_map phase_of_old o

shown_some : (b : Bool) (o o' : Option OldPhase) → (is_some o ≡ true → is_some o' ≡ true) → is_some (shown b o) ≡ true → is_some (shown b o') ≡ true
shown_some true o o' f h = refl
shown_some false None None f h = h
shown_some false None (Some p) f h = refl
shown_some false (Some p) None f h = let wrong = f refl in cc
shown_some false (Some p) (Some q) f h = refl

-- ---- marking

old_by_test : (k j : OldKey) (o o' : Option OldKey) (b : Bool) → (is_some (old_phase_of o) ≡ true → is_some (old_phase_of o') ≡ true) → is_some (old_phase_of (if b then Some k else o)) ≡ true → is_some (old_phase_of (if b then Some j else o')) ≡ true
old_by_test k j o o' true f h = refl
old_by_test k j o o' false f h = f h

-- an edit that keeps each key with its id keeps each key
module _ (id key : ℕ) (g : OldKey → OldKey) (same : (k : OldKey) → (g k).id ≡ k.id) where
  kept_by_test : (k : OldKey) (ks : List OldKey) (b : Bool) → (has_old id ks ≡ true → has_old id (edited (is_key key) (λ j. g j ∷ []) ks) ≡ true) → has_old id (k ∷ ks) ≡ true → has_old id (if b then g k ∷ [] ++ ks else k ∷ edited (is_key key) (λ j. g j ∷ []) ks) ≡ true
  kept_by_test k ks true f h = subst (λ (n : ℕ). is_some (old_phase_of (if eqb n id then Some (g k) else first (is_key id) ks)) ≡ true) (sym (same k)) (old_by_test k (g k) (first (is_key id) ks) (first (is_key id) ks) (eqb k.id id) (λ x. x) h)
  kept_by_test k ks false f h = old_by_test k k (first (is_key id) ks) (first (is_key id) (edited (is_key key) (λ j. g j ∷ []) ks)) (eqb k.id id) f h

  has_edited : (ks : List OldKey) → has_old id ks ≡ true → has_old id (edited (is_key key) (λ j. g j ∷ []) ks) ≡ true
  has_edited [] h = h
  has_edited (k ∷ ks) h = kept_by_test k ks (eqb k.id key) (has_edited ks) h

swept_holds : (t now : ℕ) (p : OldPhase) → t < now → HoldsPhase t p → HoldsPhase t (swept_phase now p)
swept_holds t now (old_phases.Draining since) lt h = lt
swept_holds t now (old_phases.Swept since) lt h = h

pub hold_marked : (t id key now : ℕ) (c : ClientKeys) → t < now → Hold t id c → Hold t id (marked key now c)
hold_marked t id key now c lt h = record {
  has = shown_some (eqb c.id id) (old_phase_of (first (is_key id) c.past)) (old_phase_of (first (is_key id) (marked key now c).past)) (has_edited id key (swept_key now) (λ k. refl) c.past) h.has;
  each = all_edited (λ (k : OldKey). k.id ≡ id → HoldsPhase t k.phase) (is_key key) (λ k. swept_key now k ∷ []) (λ k f. ((λ e. swept_holds t now k.phase lt (f e)), tt)) c.past h.each;
}

-- ---- rotation

has_push_left : (id : ℕ) (ks : List OldKey) (k : OldKey) → has_old id ks ≡ true → has_old id (ks ++ k ∷ []) ≡ true
has_push_left id [] k h = cc
has_push_left id (j ∷ js) k h = old_by_test j j (first (is_key id) js) (first (is_key id) (js ++ k ∷ [])) (eqb j.id id) (has_push_left id js k) h

push_by_test : (j : OldKey) (o : Option OldKey) (b : Bool) → is_some (old_phase_of o) ≡ true → is_some (old_phase_of (if b then Some j else o)) ≡ true
push_by_test j o true h = refl
push_by_test j o false h = h

has_push_last : (id : ℕ) (ks : List OldKey) (k : OldKey) → eqb k.id id ≡ true → has_old id (ks ++ k ∷ []) ≡ true
has_push_last id [] k e = rw e refl
has_push_last id (j ∷ js) k e = push_by_test j (first (is_key id) (js ++ k ∷ [])) (eqb j.id id) (has_push_last id js k e)

shown_any : (b : Bool) (o : Option OldPhase) → is_some o ≡ true → is_some (shown b o) ≡ true
shown_any true o h = refl
shown_any false (Some p) h = refl
shown_any false None h = cc

rotated_has : (id : ℕ) (c : ClientKeys) (k : OldKey) (b : Bool) → k.id ≡ c.id → eqb c.id id ≡ b → is_some (shown b (old_phase_of (first (is_key id) c.past))) ≡ true → has_old id (c.past ++ k ∷ []) ≡ true
rotated_has id c k true same e h = has_push_last id c.past k (rw same e)
rotated_has id c k false same e h = has_push_left id c.past k (of_shown (old_phase_of (first (is_key id) c.past)) h)
  where
    of_shown : (o : Option OldPhase) → is_some (option_map phase_of_old o) ≡ true → is_some o ≡ true
    of_shown None h = h
    of_shown (Some p) h = refl

pub hold_rotated : (t id next now : ℕ) (key : List ℕ) (c : ClientKeys) → Hold t id c → Hold t id (rotated next key now c)
hold_rotated t id next now key c h = record {
  has = shown_any (eqb next id) (old_phase_of (first (is_key id) (rotated next key now c).past)) (rotated_has id c (record { id = c.id; key = c.key; phase = old_phases.Draining now }) (eqb c.id id) refl refl h.has);
  each = all_push (λ (k : OldKey). k.id ≡ id → HoldsPhase t k.phase) c.past (record { id = c.id; key = c.key; phase = old_phases.Draining now }) h.each (λ e. tt);
}

-- ---- a key removed

other_by_test : (id key : ℕ) (k : OldKey) (ks : List OldKey) (b : Bool) → key ≢ id → eqb k.id key ≡ b → first (is_key id) (edited (is_key key) (λ _. []) ks) ≡ first (is_key id) ks → first (is_key id) (if b then [] ++ ks else k ∷ edited (is_key key) (λ _. []) ks) ≡ first (is_key id) (k ∷ ks)
other_by_test id key k ks true ne e rest = let other : eqb k.id id ≡ false = grind (arith, nat_tests) in rw other refl
other_by_test id key k ks false ne e rest = rw rest refl

other_stays : (id key : ℕ) (ks : List OldKey) → key ≢ id → first (is_key id) (edited (is_key key) (λ _. []) ks) ≡ first (is_key id) ks
other_stays id key [] ne = refl
other_stays id key (k ∷ ks) ne = other_by_test id key k ks (eqb k.id key) ne refl (other_stays id key ks ne)

pub hold_without : (t id key : ℕ) (c : ClientKeys) → key ≢ id → Hold t id c → Hold t id (without key c)
hold_without t id key c ne h = record {
  has = rw (other_stays id key c.past ne) h.has;
  each = all_edited (λ (k : OldKey). k.id ≡ id → HoldsPhase t k.phase) (is_key key) (λ _. []) (λ k f. tt) c.past h.each;
}

phase_by_test : (t id : ℕ) (k : OldKey) (o : Option OldKey) (b : Bool) (p : OldPhase) → (b ≡ true → k.id ≡ id) → (k.id ≡ id → HoldsPhase t k.phase) → old_phase_of (if b then Some k else o) ≡ Some p → (old_phase_of o ≡ Some p → HoldsPhase t p) → HoldsPhase t p
phase_by_test t id k o true p same this h rest = let e : k.phase ≡ p = cc in subst (HoldsPhase t) e (this (same refl))
phase_by_test t id k o false p same this h rest = rest h

found_holds : (t id : ℕ) (ks : List OldKey) (p : OldPhase) → AllByRecursion (λ (k : OldKey). k.id ≡ id → HoldsPhase t k.phase) ks → old_phase_of (first (is_key id) ks) ≡ Some p → HoldsPhase t p
found_holds t id [] p each h = cc
found_holds t id (k ∷ ks) p each h = phase_by_test t id k (first (is_key id) ks) (eqb k.id id) p (λ e. grind (arith, nat_tests)) each.0 h (found_holds t id ks p each.1)

swept_by_test : (t since : ℕ) (b : Bool) (o : Option OldPhase) → ((p : OldPhase) → o ≡ Some p → HoldsPhase t p) → shown b o ≡ Some (phases.Swept since) → t < since
swept_by_test t since true o f h = cc
swept_by_test t since false None f h = cc
swept_by_test t since false (Some (old_phases.Draining ticket)) f h = cc
swept_by_test t since false (Some (old_phases.Swept ticket)) f h = let same : ticket ≡ since = cc in rw (← same) (f (old_phases.Swept ticket) refl)

-- a swept key that is held was swept after the ticket
pub hold_swept : (t id since : ℕ) (c : ClientKeys) → Hold t id c → phase_of id c ≡ Some (phases.Swept since) → t < since
hold_swept t id since c h e = swept_by_test t since (eqb c.id id) (old_phase_of (first (is_key id) c.past)) (λ p g. found_holds t id c.past p h.each g) e
