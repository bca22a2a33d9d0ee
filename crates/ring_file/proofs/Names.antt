-- A name as it is read.
use Rattle.std.proofs.Common.{◌≡◌, ℕ, zero, suc, ◌<◌, ◌≤◌, ◌&&◌, ◌==◌, Bool, true, false, if◌then◌else◌, ltb, List, [], ◌∷◌, length, get_or, take, drop, Option, Some, None, Result, Ok, Err, refl, arith}
use Rattle.std.specs.List.{list_all}
use Rattle.std.proofs.lemmas.Bool.{lt-ltb, le-ltb}
use Rattle.std.specs.Ordering.{ordering_index, is_lt}
use Rattle.std.specs.declared.cmp.Ordering.{Ordering}
use Rattle.std.specs.declared.cmp.Ordering.TheVariants.{Less, Equal, Greater}
use Rattle.acra_base.specs.Client.{is_id_byte}
use Rattle.keystore.specs.Rings.{ClientKeys}
use Rattle.ring_file.specs.Reading.{judged, last_of, comes_after, can_be_name, name_at}

pub all_bytes : (text : List ℕ) → ((i : ℕ) → i < length text → is_id_byte (get_or text i 0) ≡ true) → list_all is_id_byte text ≡ true
all_bytes [] h = refl
all_bytes (x ∷ xs) h = rw (h 0 (omega arith)) (all_bytes xs (λ i lt. h (suc i) (omega arith)))

byte_by_test : (x : ℕ) (xs : List ℕ) (b : Bool) → is_id_byte x ≡ b → (b && list_all is_id_byte xs) ≡ true → (list_all is_id_byte xs ≡ true → (i : ℕ) → i < length xs → is_id_byte (get_or xs i 0) ≡ true) → (i : ℕ) → i < length (x ∷ xs) → is_id_byte (get_or (x ∷ xs) i 0) ≡ true
byte_by_test x xs true e h rest zero lt = e
byte_by_test x xs true e h rest (suc i) lt = rest h i (omega arith)
byte_by_test x xs false e h rest i lt = absurd (cc h)

pub each_byte : (text : List ℕ) → list_all is_id_byte text ≡ true → (i : ℕ) → i < length text → is_id_byte (get_or text i 0) ≡ true
each_byte [] h i lt = absurd (omega arith)
each_byte (x ∷ xs) h i lt = byte_by_test x xs (is_id_byte x) refl h (each_byte xs) i lt

pub not_each : (text : List ℕ) (i : ℕ) → i < length text → is_id_byte (get_or text i 0) ≡ false → list_all is_id_byte text ≡ false
not_each [] i lt h = absurd (omega arith)
not_each (x ∷ xs) zero lt h = rw h refl
not_each (x ∷ xs) (suc i) lt h = rw (not_each xs i (omega arith) h) (both_false (is_id_byte x)) where
  both_false : (b : Bool) → (b && false) ≡ false
  both_false true = refl
  both_false false = refl

pub none_is : {A : Type 0} (b : Bool) (x : A) → ◌≡◌ {A = Option A} None (if b then Some x else None) → b ≡ false
none_is true x e = absurd cc
none_is false x e = refl

pub some_is : {A : Type 0} (b : Bool) (x y : A) → ◌≡◌ {A = Option A} (Some y) (if b then Some x else None) → (b ≡ true) × (y ≡ x)
some_is true x y e = (refl, cc)
some_is false x y e = absurd cc

pub name_short : (before : List ClientKeys) (n : ℕ) (bytes : List ℕ) → length bytes < n → name_at before n bytes ≡ Err (length bytes)
unfolding name_at
name_short before n bytes lt = let short : ltb (length bytes) n ≡ true = lt-ltb _ _ lt in rw short refl

pub name_judged : (before : List ClientKeys) (n : ℕ) (bytes : List ℕ) (can : Bool) → n ≤ length bytes → can_be_name before (take n bytes) ≡ can → name_at before n bytes ≡ judged can (length bytes) (take n bytes, drop n bytes)
unfolding name_at
name_judged before n bytes can le e = let long : ltb (length bytes) n ≡ false = le-ltb _ _ le in rw (long, e) refl

pub other_bytes : (before : List ClientKeys) (name : List ℕ) → list_all is_id_byte name ≡ false → can_be_name before name ≡ false
other_bytes before name h = rw h refl

pub name_then : (before : List ClientKeys) (name : List ℕ) (b : Bool) → list_all is_id_byte name ≡ true → comes_after (last_of before) name ≡ b → can_be_name before name ≡ b
name_then before name b h k = rw (h, k) refl

pub less : (o : Ordering) → (ordering_index o == 0) ≡ is_lt o
less Less = refl
less Equal = refl
less Greater = refl

pub ok_same : (a b c d : List ℕ) → a ≡ b → c ≡ d → ◌≡◌ {A = Result (List ℕ × List ℕ) ℕ} (Ok (a, c)) (Ok (b, d))
ok_same a b c d p q = rw (p, q) refl
