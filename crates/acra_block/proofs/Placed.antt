-- One extra is of one owner and one place, and a cell that opens in two places has a seal for two extras.
use Rattle.std.proofs.Common.{◌≡◌, ℕ, zero, suc, ◌<◌, ◌==◌, Bool, true, false, not, List, [], ◌∷◌, ◌++◌, length, take, drop, get_or, Option, Some, None, refl, sym, ap, subst, ◌∙◌, arith, if◌then◌else◌, option_map}
use Rattle.std.specs.List.{AllByRecursion, list_all}
use Rattle.std.specs.Option.{option_and_then}
use Rattle.std.proofs.lemmas.Bool.{and_parts}
use Rattle.std.proofs.lemmas.Option.{option_and_then_some}
use Rattle.acra_base.specs.Names.{is_name}
use Rattle.acra_base.specs.Client.{is_id_byte, IsClientId}
use Rattle.acra_block.specs.declared.container.Container.{Container}
use Rattle.acra_block.specs.declared.place.CellPlace.{CellPlace}
use Rattle.acra_block.specs.declared.keys.KeyView.{KeyView}
use Rattle.acra_block.specs.declared.kind.CellKind.{CellKind}
use Rattle.acra_block.specs.declared.opening.Opened.{Opened}
use Rattle.acra_block.specs.declared.opening.Opened.TheVariants as answers
use Rattle.acra_block.specs.Keys.{key_of}
use Rattle.acra_block.specs.Places.{extra_of, IsPlace, SealsTwo}
use Rattle.acra_block.specs.Containers.{Sealing, Opening, container_of, opened_key, opened_value, opened_container}
use Rattle.acra_block.specs.Cells.{Parts, cell_parts, version_of, rest_opened, key_found, container_found, parts_found, opened_cell}

-- ---- names without a zero byte

abbrev HasNoZero : List ℕ → Type 0
HasNoZero text = AllByRecursion (λ b. b ≡ 0 → ⊥) text

not_zero : (b : ℕ) → not (b == 0) ≡ true → b ≡ 0 → ⊥
not_zero zero h e = absurd cc
not_zero (suc b) h e = omega (arith, e)

all_not_zero : (text : List ℕ) → list_all (λ b. not (b == 0)) text ≡ true → HasNoZero text
all_not_zero [] h = tt
all_not_zero (b ∷ text) h = let parts = and_parts (not (b == 0)) (list_all (λ b. not (b == 0)) text) h in (not_zero b parts.0, all_not_zero text parts.1)

name_has_none : (name : List ℕ) → is_name name ≡ true → HasNoZero name
name_has_none name h = all_not_zero name (and_parts _ _ h).1

id_byte : (b : ℕ) → is_id_byte b ≡ true → b ≡ 0 → ⊥
id_byte zero h e = absurd cc
id_byte (suc b) h e = omega (arith, e)

id_has_none : (text : List ℕ) → ((i : ℕ) → i < length text → is_id_byte (get_or text i 0) ≡ true) → HasNoZero text
id_has_none [] h = tt
id_has_none (b ∷ text) h = (id_byte b (h 0 (omega arith)), id_has_none text (λ i lt. h (suc i) (omega (arith, lt))))

-- what stands before and behind the first zero byte
split_zero : (a b x y : List ℕ) → HasNoZero a → HasNoZero b → a ++ (0 ∷ x) ≡ b ++ (0 ∷ y) → (a ≡ b) × (x ≡ y)
split_zero [] [] x y g h e = (refl, cc)
split_zero [] (b ∷ right) x y g h e = absurd (h.0 cc)
split_zero (a ∷ left) [] x y g h e = absurd (g.0 cc)
split_zero (a ∷ left) (b ∷ right) x y g h e =
    let heads : a ≡ b = cc in
    let tails : left ++ (0 ∷ x) ≡ right ++ (0 ∷ y) = cc in
    let rest = split_zero left right x y g.1 h.1 tails in
    (rw (heads, rest.0) refl, rest.1)

has_zero : (a x : List ℕ) → HasNoZero (a ++ (0 ∷ x)) → ⊥
has_zero [] x h = h.0 refl
has_zero (a ∷ left) x h = has_zero left x h.1

abbrev placed : List ℕ → List ℕ → CellPlace
placed table column = record { table = table; column = column }

same_place : (place elsewhere : CellPlace) → place.table ≡ elsewhere.table → place.column ≡ elsewhere.column → place ≡ elsewhere
same_place place elsewhere e f = ap (λ (t : List ℕ). placed t place.column) e ∙ ap (placed elsewhere.table) f

pub one_of_each : (owner other : List ℕ) (place elsewhere : CellPlace) → IsClientId owner → IsClientId other → IsPlace place → IsPlace elsewhere → extra_of 2 place owner ≡ extra_of 2 elsewhere other → (owner ≡ other) × (place ≡ elsewhere)
one_of_each owner other place elsewhere is is' p p' e =
    let first = split_zero owner other (place.table ++ (0 ∷ place.column)) (elsewhere.table ++ (0 ∷ elsewhere.column)) (id_has_none owner is.each) (id_has_none other is'.each) e in
    let second = split_zero place.table elsewhere.table place.column elsewhere.column (name_has_none place.table p.table) (name_has_none elsewhere.table p'.table) first.1 in
    (first.0, same_place place elsewhere second.0 second.1)

pub versions_apart : (owner other : List ℕ) (place elsewhere : CellPlace) → IsClientId other → extra_of 2 place owner ≡ extra_of 1 elsewhere other → ⊥
versions_apart owner other place elsewhere is e = has_zero owner (place.table ++ (0 ∷ place.column)) (subst HasNoZero (sym e) (id_has_none other is.each))

-- ---- a cell that opens twice

not_plain : {A : Type 0} (answer : Opened) (bytes plain : List ℕ) → (answer ≡ answers.Plain → ⊥) → ◌≡◌ {A = Opened × List ℕ} (answer, bytes) (answers.Plain, plain) → A
not_plain answer bytes plain other e = absurd (other (ap (λ (p : Opened × List ℕ). p.0) e))

some_rest : (parts : Parts) (o : Option (List ℕ)) (plain : List ℕ) → rest_opened parts o ≡ (answers.Plain, plain) → (rest : List ℕ) × (o ≡ Some rest)
some_rest parts (Some rest) plain e = (rest, refl)
some_rest parts None plain e = not_plain answers.Broken [] plain (λ h. cc) e

module _ (sealed : Sealing) (opened : Opening) (only : (k n e s p : List ℕ) → opened k n e s ≡ Some p → s ≡ sealed k n e p) where
  opens_with_two : (extra other key bytes plain another : List ℕ) → (extra ≡ other → ⊥) → opened_container opened extra key bytes ≡ Some plain → opened_container opened other key bytes ≡ Some another → SealsTwo sealed extra other
  opens_with_two extra other key bytes plain another apart e f =
      option_and_then_some (opened_value opened extra bytes) (opened_key opened extra key bytes) plain e
      (λ inner ke ve.
      option_and_then_some (opened_value opened other bytes) (opened_key opened other key bytes) another f
      (λ inner' ke' ve'. record {
        key = key;
        nonce = take 12 (drop 24 bytes);
        value = inner;
        another = inner';
        apart = apart;
        same = sym (only key (take 12 (drop 24 bytes)) extra (take 48 (drop 36 bytes)) inner ke) ∙ only key (take 12 (drop 24 bytes)) other (take 48 (drop 36 bytes)) inner' ke';
      }))

  module _ (place elsewhere : CellPlace) (view : KeyView) (plain another : List ℕ) (apart : extra_of 2 place view.who ≡ extra_of 2 elsewhere view.who → ⊥) where
    keyed_twice : (c : Container) (parts : Parts) (found : Option (List ℕ)) → c.version ≡ 2 → key_found opened place view.who c parts found ≡ (answers.Plain, plain) → key_found opened elsewhere view.who c parts found ≡ (answers.Plain, another)
        → SealsTwo sealed (extra_of 2 place view.who) (extra_of 2 elsewhere view.who)
    keyed_twice c parts None v e f = not_plain answers.Foreign [] plain (λ h. cc) e
    keyed_twice c parts (Some key) v e f =
        let here = some_rest parts (opened_container opened (extra_of c.version place view.who) key parts.sealed) plain e in
        let there = some_rest parts (opened_container opened (extra_of c.version elsewhere view.who) key parts.sealed) another f in
        opens_with_two (extra_of 2 place view.who) (extra_of 2 elsewhere view.who) key parts.sealed here.0 there.0 apart
        (subst (λ (n : ℕ). opened_container opened (extra_of n place view.who) key parts.sealed ≡ Some here.0) v here.1)
        (subst (λ (n : ℕ). opened_container opened (extra_of n elsewhere view.who) key parts.sealed ≡ Some there.0) v there.1)

    known_twice : (b : Bool) (c : Container) (parts : Parts) (found : Option (List ℕ)) → c.version ≡ 2 → (if b then key_found opened place view.who c parts found else (answers.UnknownKey c.id, [])) ≡ (answers.Plain, plain)
        → (if b then key_found opened elsewhere view.who c parts found else (answers.UnknownKey c.id, [])) ≡ (answers.Plain, another) → SealsTwo sealed (extra_of 2 place view.who) (extra_of 2 elsewhere view.who)
    known_twice true c parts found v e f = keyed_twice c parts found v e f
    known_twice false c parts found v e f = not_plain (answers.UnknownKey c.id) [] plain (λ h. cc) e

    some_version : (c : Container) → Some c.version ≡ Some 2 → c.version ≡ 2
    some_version c e = cc

    held_twice : (parts : Parts) (o : Option Container) → option_map (λ (c : Container). c.version) o ≡ Some 2 → container_found opened place view parts o ≡ (answers.Plain, plain) → container_found opened elsewhere view parts o ≡ (answers.Plain, another)
        → SealsTwo sealed (extra_of 2 place view.who) (extra_of 2 elsewhere view.who)
    held_twice parts None v e f = absurd cc
    held_twice parts (Some c) v e f = known_twice _ c parts (key_of c.id view.keys) (some_version c v) e f

    parted_twice : (o : Option Parts) → option_and_then (λ (p : Parts). option_map (λ (c : Container). c.version) (container_of p.sealed)) o ≡ Some 2 → parts_found opened place view o ≡ (answers.Plain, plain) → parts_found opened elsewhere view o ≡ (answers.Plain, another)
        → SealsTwo sealed (extra_of 2 place view.who) (extra_of 2 elsewhere view.who)
    parted_twice None v e f = absurd cc
    parted_twice (Some parts) v e f = held_twice parts (container_of parts.sealed) v e f

  pub seals_two : (kind : CellKind) (place elsewhere : CellPlace) (view : KeyView) (bytes plain another : List ℕ) → IsClientId view.who → IsPlace place → IsPlace elsewhere → (place ≡ elsewhere → ⊥) → version_of kind bytes ≡ Some 2
      → opened_cell opened kind place view bytes ≡ (answers.Plain, plain) → opened_cell opened kind elsewhere view bytes ≡ (answers.Plain, another) → SealsTwo sealed (extra_of 2 place view.who) (extra_of 2 elsewhere view.who)
  seals_two kind place elsewhere view bytes plain another who p p' apart v e f =
      parted_twice place elsewhere view plain another (λ same. apart (one_of_each view.who view.who place elsewhere who who p p' same).1) (cell_parts kind bytes) v e f
