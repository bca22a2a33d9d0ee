-- A text of UTF-8 is cut by characters where its bytes are counted.
use Rattle.std.proofs.Common.{◌≡◌, ◌≢◌, ℕ, zero, suc, ◌+◌, ◌-◌, ◌/◌, ◌%◌, ◌<◌, ◌≤◌, nat_lt, nat_le, ◌||◌, Bool, true, false, cond, ltb, List, [], ◌∷◌, ◌++◌, length, take, drop, get_or, refl, sym, ap, ◌∙◌, arith}
use Rattle.std.specs.List.{AllByRecursion}
use Rattle.std.specs.Str.{IsUtf8, chars, encode_utf8_all}
use Rattle.std.proofs.lemmas.Bool.{le-leb, lt-leb, lt-ltb, le-ltb, ltb-true, or_right}
use Rattle.std.proofs.lemmas.List.{take_at, drop_at, take-append-drop, length-append, length-drop, at_drop_more, nil_from_length}
use Rattle.std.proofs.lemmas.Str.{encodes-append, encodes-chars}
use lib.Utf8.{encode}
use Rattle.acra_block.specs.Cells.{cut}
use Rattle.acra_block.specs.Characters.{begins_character, count_characters, first_len}

begins : (b : ℕ) → 192 ≤ b → begins_character b ≡ true
begins b h = or_right (nat_lt b 128) (nat_le 192 b) (le-leb 192 b h)

begins_low : (b : ℕ) → b < 128 → begins_character b ≡ true
begins_low b h = ap (λ (t : Bool). t || nat_le 192 b) (lt-ltb b 128 h)

goes_on : (b : ℕ) → 128 ≤ b → b < 192 → begins_character b ≡ false
goes_on b h l = ap (λ (t : Bool). t || nat_le 192 b) (le-ltb b 128 h) ∙ lt-leb 192 b l

follows : (bits : ℕ) → begins_character (128 + bits % 64) ≡ false
follows bits = goes_on (128 + bits % 64) (omega arith) (omega arith)

abbrev GoesOn : ℕ → Type 0
GoesOn b = begins_character b ≡ false

-- a byte that begins, and others that go on
record Shape (bytes : List ℕ) : Type 0 where
  first : ℕ
  others : List ℕ
  parts : bytes ≡ first ∷ others
  starts : begins_character first ≡ true
  follow : AllByRecursion GoesOn others

shape_of : (c : ℕ) → Shape (encode c)
unfolding encode
shape_of c = by (ltb c 128) (ltb c 2048) (ltb c 65536) (ltb-true c 128) where
  by : (x y z : Bool) → (x ≡ true → c < 128)
      → Shape (cond x (c ∷ []) (cond y ((192 + c / 64) ∷ (128 + c % 64) ∷ []) (cond z ((224 + c / 4096) ∷ (128 + c / 64 % 64) ∷ (128 + c % 64) ∷ []) ((240 + c / 262144) ∷ (128 + c / 4096 % 64) ∷ (128 + c / 64 % 64) ∷ (128 + c % 64) ∷ []))))
  by true y z low = record { first = c; others = []; parts = refl; starts = begins_low c (low refl); follow = tt }
  by false true z low = record { first = 192 + c / 64; others = (128 + c % 64) ∷ []; parts = refl; starts = begins (192 + c / 64) (omega arith); follow = (follows c, tt) }
  by false false true low = record { first = 224 + c / 4096; others = (128 + c / 64 % 64) ∷ (128 + c % 64) ∷ []; parts = refl; starts = begins (224 + c / 4096) (omega arith); follow = (follows (c / 64), (follows c, tt)) }
  by false false false low = record {
    first = 240 + c / 262144;
    others = (128 + c / 4096 % 64) ∷ (128 + c / 64 % 64) ∷ (128 + c % 64) ∷ [];
    parts = refl;
    starts = begins (240 + c / 262144) (omega arith);
    follow = (follows (c / 4096), (follows (c / 64), (follows c, tt)));
  }

-- ---- how many characters

count_others : (others rest : List ℕ) → AllByRecursion GoesOn others → count_characters (others ++ rest) ≡ count_characters rest
unfolding count_characters
count_others [] rest h = refl
count_others (b ∷ bytes) rest h = rw (h.0) (count_others bytes rest h.1)

count_char : (bytes rest : List ℕ) → Shape bytes → count_characters (bytes ++ rest) ≡ suc (count_characters rest)
unfolding count_characters
count_char bytes rest s = rw (s.parts) (rw (s.starts) (ap suc (count_others s.others rest s.follow)))

pub count_is : (cs : List ℕ) → count_characters (encode_utf8_all cs) ≡ length cs
unfolding count_characters
count_is [] = refl
count_is (c ∷ cs) = count_char (encode c) (encode_utf8_all cs) (shape_of c) ∙ ap suc (count_is cs)

-- ---- how many bytes

len_others : (n : ℕ) (others rest : List ℕ) → AllByRecursion GoesOn others → first_len n (others ++ rest) ≡ length others + first_len n rest
unfolding first_len
len_others n [] rest h = omega arith
len_others zero (b ∷ bytes) rest h = rw (h.0) (omega (arith, len_others zero bytes rest h.1))
len_others (suc n) (b ∷ bytes) rest h = rw (h.0) (omega (arith, len_others (suc n) bytes rest h.1))

len_char : (n : ℕ) (bytes rest : List ℕ) → Shape bytes → first_len (suc n) (bytes ++ rest) ≡ length bytes + first_len n rest
unfolding first_len
len_char n bytes rest s = rw (s.parts) (rw (s.starts) (omega (arith, len_others n s.others rest s.follow)))

none_len : (bytes rest : List ℕ) → Shape bytes → first_len zero (bytes ++ rest) ≡ 0
unfolding first_len
none_len bytes rest s = rw (s.parts) (rw (s.starts) refl)

pub len_is : (n : ℕ) (cs : List ℕ) → first_len n (encode_utf8_all cs) ≡ length (encode_utf8_all (take n cs))
unfolding first_len
len_is zero [] = refl
len_is (suc n) [] = refl
len_is zero (c ∷ cs) = none_len (encode c) (encode_utf8_all cs) (shape_of c)
len_is (suc n) (c ∷ cs) = len_char n (encode c) (encode_utf8_all cs) (shape_of c) ∙ ap (λ (k : ℕ). length (encode c) + k) (len_is n cs) ∙ sym (length-append (encode c) (encode_utf8_all (take n cs)))

pub two_parts : (n : ℕ) (cs : List ℕ) → encode_utf8_all cs ≡ encode_utf8_all (take n cs) ++ encode_utf8_all (drop n cs)
two_parts n cs = ap encode_utf8_all (sym (take-append-drop n cs)) ∙ encodes-append (take n cs) (drop n cs)

-- ---- where a text is cut

pub record CutAt (n : ℕ) (text : List ℕ) : Type 0 where
  pub front : take (first_len n text) text ≡ encode_utf8_all (take n (chars text))
  pub back : drop (first_len n text) text ≡ encode_utf8_all (drop n (chars text))

cut_coded : (n : ℕ) (cs text : List ℕ) → encode_utf8_all cs ≡ text → (take (first_len n text) text ≡ encode_utf8_all (take n cs)) × (drop (first_len n text) text ≡ encode_utf8_all (drop n cs))
cut_coded n cs text e =
    let place : length (encode_utf8_all (take n cs)) ≡ first_len n text = sym (len_is n cs) ∙ ap (first_len n) e in
    let whole : text ≡ encode_utf8_all (take n cs) ++ encode_utf8_all (drop n cs) = sym e ∙ two_parts n cs in (
      ap (λ (xs : List ℕ). take (first_len n text) xs) whole ∙ take_at (encode_utf8_all (take n cs)) (encode_utf8_all (drop n cs)) (first_len n text) place,
      ap (λ (xs : List ℕ). drop (first_len n text) xs) whole ∙ drop_at (encode_utf8_all (take n cs)) (encode_utf8_all (drop n cs)) (first_len n text) place,
    )

pub cut_at : (n : ℕ) (text : List ℕ) → IsUtf8 text → CutAt n text
cut_at n text is = let h = cut_coded n (chars text) text (encodes-chars text is) in record { front = h.0; back = h.1 }

pub counted : (text : List ℕ) → IsUtf8 text → count_characters text ≡ length (chars text)
counted text is = ap count_characters (sym (encodes-chars text is)) ∙ count_is (chars text)

-- ---- the loop that counts

pub len_step : (n place : ℕ) (text : List ℕ) → place < length text → first_len n (drop place text) ≡ first_len n (get_or text place 0 ∷ drop (place + 1) text)
len_step n place text lt = at_drop_more (first_len n) text place 0 lt

-- a byte that begins the character behind the first n
pub len_at : (place : ℕ) (text : List ℕ) → place < length text → begins_character (get_or text place 0) ≡ true → first_len zero (drop place text) ≡ 0
unfolding first_len
len_at place text lt b = len_step zero place text lt ∙ rw b refl

-- a byte that begins one of them
pub len_next : (n place : ℕ) (text : List ℕ) → place < length text → begins_character (get_or text place 0) ≡ true → first_len (suc n) (drop place text) ≡ suc (first_len n (drop (place + 1) text))
unfolding first_len
len_next n place text lt b = len_step (suc n) place text lt ∙ rw b refl

-- a byte that goes on
pub len_on : (n place : ℕ) (text : List ℕ) → place < length text → begins_character (get_or text place 0) ≡ false → first_len n (drop place text) ≡ suc (first_len n (drop (place + 1) text))
unfolding first_len
len_on zero place text lt b = len_step zero place text lt ∙ rw b refl
len_on (suc n) place text lt b = len_step (suc n) place text lt ∙ rw b refl

-- ---- the loop that counts characters

count_step : (place : ℕ) (text : List ℕ) → place < length text → count_characters (drop place text) ≡ count_characters (get_or text place 0 ∷ drop (place + 1) text)
count_step place text lt = at_drop_more count_characters text place 0 lt

pub count_next : (place : ℕ) (text : List ℕ) → place < length text → begins_character (get_or text place 0) ≡ true → count_characters (drop place text) ≡ suc (count_characters (drop (place + 1) text))
unfolding count_characters
count_next place text lt b = count_step place text lt ∙ rw b refl

pub count_on : (place : ℕ) (text : List ℕ) → place < length text → begins_character (get_or text place 0) ≡ false → count_characters (drop place text) ≡ count_characters (drop (place + 1) text)
unfolding count_characters
count_on place text lt b = count_step place text lt ∙ rw b refl

none_behind : (place : ℕ) (text : List ℕ) → length text ≤ place → drop place text ≡ []
none_behind place text le = nil_from_length (drop place text) (omega (arith, length-drop place text))

pub none_counted : (place : ℕ) (text : List ℕ) → length text ≤ place → count_characters (drop place text) ≡ 0
unfolding count_characters
none_counted place text le = ap count_characters (none_behind place text le)

none_long : (n : ℕ) → first_len n [] ≡ 0
unfolding first_len
none_long zero = refl
none_long (suc n) = refl

pub none_left : (n place : ℕ) (text : List ℕ) → length text ≤ place → first_len n (drop place text) ≡ 0
none_left n place text le = ap (first_len n) (none_behind place text le) ∙ none_long n

-- one of the characters of which n are still to come
pub len_more : (n place : ℕ) (text : List ℕ) → place < length text → (n ≢ 0) → begins_character (get_or text place 0) ≡ true → first_len n (drop place text) ≡ suc (first_len (n - 1) (drop (place + 1) text))
len_more zero place text lt some b = absurd (some refl)
len_more (suc n) place text lt some b = len_next n place text lt b ∙ ap (λ (k : ℕ). suc (first_len k (drop (place + 1) text))) (omega arith)

-- ---- the two ends

pub cut_none : (left : Bool) (n : ℕ) (text : List ℕ) → IsUtf8 text → count_characters text ≤ n → ([] ≡ (cut left n true text).0) × (text ≡ (cut left n true text).1)
cut_none left n text is le =
    let few : nat_le (length (chars text)) n ≡ true = le-leb (length (chars text)) n (omega (arith, counted text is)) in
    (rw few refl, rw few (sym (encodes-chars text is)))

many : (n : ℕ) (text : List ℕ) → IsUtf8 text → n < count_characters text → nat_le (length (chars text)) n ≡ false
many n text is lt = lt-leb (length (chars text)) n (omega (arith, counted text is))

pub cut_left : (n : ℕ) (text : List ℕ) → IsUtf8 text → n < count_characters text → (take (first_len n text) text ≡ (cut true n true text).0) × (drop (first_len n text) text ≡ (cut true n true text).1)
cut_left n text is lt =
    let at = cut_at n text is in
    (rw (many n text is lt) at.front, rw (many n text is lt) at.back)

pub cut_right : (n : ℕ) (text : List ℕ) → IsUtf8 text → n < count_characters text → (drop (first_len (count_characters text - n) text) text ≡ (cut false n true text).0) × (take (first_len (count_characters text - n) text) text ≡ (cut false n true text).1)
cut_right n text is lt =
    let at = cut_at (count_characters text - n) text is in
    let same = ap (λ (m : ℕ). m - n) (counted text is) in
    (rw (many n text is lt) (at.back ∙ ap (λ (m : ℕ). encode_utf8_all (drop m (chars text))) same), rw (many n text is lt) (at.front ∙ ap (λ (m : ℕ). encode_utf8_all (take m (chars text))) same))

-- ---- a step of the loop that counts bytes

pub next_step : (count old new place : ℕ) (text : List ℕ) → first_len count text ≡ place + first_len old (drop place text) → new ≡ old - 1 → old ≢ 0 → place < length text → begins_character (get_or text place 0) ≡ true
    → first_len count text ≡ place + 1 + first_len new (drop (place + 1) text)
next_step count old new place text h e some lt b = omega (arith, h, len_more old place text lt some b, ap (λ (n : ℕ). first_len n (drop (place + 1) text)) e)

pub on_step : (count old new place : ℕ) (text : List ℕ) → first_len count text ≡ place + first_len old (drop place text) → new ≡ old → place < length text → begins_character (get_or text place 0) ≡ false
    → first_len count text ≡ place + 1 + first_len new (drop (place + 1) text)
on_step count old new place text h e lt b = omega (arith, h, len_on old place text lt b, ap (λ (n : ℕ). first_len n (drop (place + 1) text)) e)
