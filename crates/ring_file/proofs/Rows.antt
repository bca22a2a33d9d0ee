-- What the fields before say, by the clients and keys that were read.
use Rattle.std.proofs.Common.{◌≡◌, ℕ, ◌<◌, ◌||◌, Bool, true, false, if◌then◌else◌, eqb, List, [], ◌∷◌, ◌++◌, map, Option, Some, None, is_some, refl, sym, ap, ◌∙◌, append_assoc, arith}
use Rattle.std.specs.List.{AllByRecursion, flat_map, list_any}
use Rattle.std.proofs.lemmas.Grind.{flat_map-append}
use Rattle.std.proofs.lemmas.List.{append-nil, map-append}
use Rattle.std.proofs.lemmas.List.Folds.{list_any-append}
use Rattle.keystore.specs.declared.phase.OldKey.{OldKey}
use Rattle.keystore.specs.Lists.{first}
use Rattle.keystore.specs.Rings.{ClientKeys, is_key}
use Rattle.keystore.specs.Kept.{has_old, has_id}
use Rattle.ring_file.specs.Reading.{last_of, id_or_zero}
use Rattle.ring_file.specs.Fields.{Told, is_among}
use Rattle.ring_file.proofs.Lasts.{last_push}
use Rattle.ring_file.proofs.Rules.{old_ids}

abbrev pub old_id_list : List OldKey → List ℕ
old_id_list past = map (λ (k : OldKey). k.id) past

abbrev pub ids_of : ClientKeys → List ℕ
ids_of c = old_id_list c.past ++ c.id ∷ []

abbrev pub name_in : Option ClientKeys → Option (List ℕ)
name_in None = None
name_in (Some c) = Some c.name

abbrev pub told_of : ℕ → List ClientKeys → List OldKey → Option (List ℕ) → Told
told_of next before past name = record { next = next; name = name; last = id_or_zero (last_of past); taken = flat_map ids_of before ++ old_id_list past }

abbrev pub told_at : ℕ → List ClientKeys → Told
told_at next before = told_of next before [] (name_in (last_of before))

told_same : (next : ℕ) (n m : Option (List ℕ)) (l k : ℕ) (t u : List ℕ) → n ≡ m → l ≡ k → t ≡ u → ◌≡◌ {A = Told} (record { next = next; name = n; last = l; taken = t }) (record { next = next; name = m; last = k; taken = u })
told_same next n m l k t u p q r = rw (p, q, r) refl

-- a key more
pub told_key : (next : ℕ) (before : List ClientKeys) (past : List OldKey) (k : OldKey) (name : Option (List ℕ))
    → ◌≡◌ {A = Told} (record { next = next; name = name; last = k.id; taken = (flat_map ids_of before ++ old_id_list past) ++ k.id ∷ [] }) (told_of next before (past ++ k ∷ []) name)
told_key next before past k name =
    told_same next name name k.id (id_or_zero (last_of (past ++ k ∷ []))) _ _ refl (sym (ap id_or_zero (last_push past k)))
    (append_assoc (flat_map ids_of before) (old_id_list past) (k.id ∷ []) ∙ ap (λ (t : List ℕ). flat_map ids_of before ++ t) (sym (map-append (λ (j : OldKey). j.id) past (k ∷ []))))

-- a client more
pub told_client : (next : ℕ) (before : List ClientKeys) (c : ClientKeys)
    → ◌≡◌ {A = Told} (record { next = next; name = Some c.name; last = 0; taken = (flat_map ids_of before ++ old_id_list c.past) ++ c.id ∷ [] }) (told_at next (before ++ c ∷ []))
told_client next before c =
    told_same next (Some c.name) (name_in (last_of (before ++ c ∷ []))) 0 0 _ _ (sym (ap name_in (last_push before c))) refl
    (append_assoc (flat_map ids_of before) (old_id_list c.past) (c.id ∷ [])
    ∙ (ap (λ (t : List ℕ). flat_map ids_of before ++ t) (sym (append-nil (ids_of c)))
    ∙ (sym (flat_map-append ids_of before (c ∷ [])) ∙ sym (append-nil (flat_map ids_of (before ++ c ∷ []))))))

-- ---- ids that are taken

old_test : (k : OldKey) (o : Option OldKey) (b r : Bool) → r ≡ is_some o → (b || r) ≡ is_some (if b then Some k else o)
old_test k o true r e = refl
old_test k o false r e = e

among_old : (id : ℕ) (past : List OldKey) → is_among id (old_id_list past) ≡ has_old id past
among_old id [] = refl
among_old id (k ∷ ks) = old_test k (first (is_key id) ks) (eqb k.id id) (is_among id (old_id_list ks)) (among_old id ks)

or_swap : (a b : Bool) → (a || (b || false)) ≡ (b || a)
or_swap true true = refl
or_swap true false = refl
or_swap false true = refl
or_swap false false = refl

either_same : (a b c d : Bool) → a ≡ b → c ≡ d → (a || c) ≡ (b || d)
either_same a b c d p q = rw (p, q) refl

among_client : (id : ℕ) (c : ClientKeys) → is_among id (ids_of c) ≡ has_id id c
among_client id c =
    list_any-append (λ (i : ℕ). eqb i id) (old_id_list c.past) (c.id ∷ [])
    ∙ (or_swap (is_among id (old_id_list c.past)) (eqb c.id id) ∙ ap (λ (b : Bool). eqb c.id id || b) (among_old id c.past))

among_all : (id : ℕ) (before : List ClientKeys) → is_among id (flat_map ids_of before) ≡ list_any (has_id id) before
among_all id [] = refl
among_all id (c ∷ cs) =
    list_any-append (λ (i : ℕ). eqb i id) (ids_of c) (flat_map ids_of cs)
    ∙ either_same (is_among id (ids_of c)) (has_id id c) (is_among id (flat_map ids_of cs)) (list_any (has_id id) cs) (among_client id c) (among_all id cs)

pub among_taken : (id : ℕ) (before : List ClientKeys) (past : List OldKey) → is_among id (flat_map ids_of before ++ old_id_list past) ≡ (list_any (has_id id) before || has_old id past)
among_taken id before past =
    list_any-append (λ (i : ℕ). eqb i id) (flat_map ids_of before) (old_id_list past)
    ∙ either_same (is_among id (flat_map ids_of before)) (list_any (has_id id) before) (is_among id (old_id_list past)) (has_old id past) (among_all id before) (among_old id past)

never_true : (b : Bool) → (b ≡ true → ⊥) → b ≡ false
never_true true h = absurd (h refl)
never_true false h = refl

-- an id above those of the keys before is of none of them
pub old_free : (id : ℕ) (past : List OldKey) → AllByRecursion (λ (k : OldKey). k.id < id) past → has_old id past ≡ false
old_free id past below = never_true (has_old id past) (λ h. let lt : id < id = old_ids (λ (n : ℕ). n < id) id past below h in omega (arith, lt))

pub none_of_both : (a b : Bool) → a ≡ false → b ≡ false → (a || b) ≡ false
none_of_both a b p q = rw (p, q) refl
