-- Texts that are read are those that were written, and what was written is read again.
use Rattle.std.proofs.Common.{◌≡◌, ℕ, suc, ◌+◌, ◌<◌, Bool, false, eqb, List, [], ◌∷◌, ◌++◌, length, get_or, take, drop, Option, Some, None, Ok, refl, sym, ap, subst, ◌∙◌, append_assoc, arith}
use Rattle.std.specs.List.{position, position_or_len}
use Rattle.std.proofs.lemmas.Bool.{eqb-true, eqb-false, ne_eqb, lt-ltb}
use Rattle.std.proofs.lemmas.List.{take_at, drop_at, take-append-drop, drop_more, length-append, length-drop, length-take, get_or-take}
use Rattle.std.proofs.lemmas.List.Quantifiers.{position-Some}
use Rattle.byte_reader.specs.Fields.{around, str_at, IsText, str}
use Rattle.byte_reader.proofs.Steps.{ok_is}
use Rattle.byte_reader.proofs.Taken.{IsBytes, IsBytes-drop, Takes}

abbrev zero_here : ℕ → Bool
zero_here b = eqb b 0

around_at : (bytes : List ℕ) (o : Option ℕ) (x : List ℕ × List ℕ) → around bytes o ≡ Ok x → (i : ℕ) × (o ≡ Some i) × (x ≡ (take i bytes, drop (i + 1) bytes))
around_at bytes None x e = absurd cc
around_at bytes (Some i) x e = (i, refl, sym (ok_is _ _ e))

-- where the text that is read ends
pub str_ends : (bytes : List ℕ) (x : List ℕ × List ℕ) → str_at bytes ≡ Ok x → (i : ℕ) × (position (λ (b : ℕ). eqb b 0) bytes ≡ Some i) × (x ≡ (take i bytes, drop (i + 1) bytes))
unfolding str_at
str_ends bytes x e = around_at bytes (position (λ (b : ℕ). eqb b 0) bytes) x e

-- what is behind a text is shorter
pub str_shorter : (bytes : List ℕ) (x : List ℕ × List ℕ) → str_at bytes ≡ Ok x → length x.1 < length bytes
str_shorter bytes x e =
    let p = str_ends bytes x e in
    let at = position-Some (λ (b : ℕ). eqb b 0) bytes p.0 0 p.1 in
    omega (arith, length-drop (p.0 + 1) bytes, at.0, ap length (ap (λ (y : List ℕ × List ℕ). y.1) p.2))

str_parts : (bytes : List ℕ) (i : ℕ) → i < length bytes → get_or bytes i 0 ≡ 0 → bytes ≡ str (take i bytes) ++ drop (i + 1) bytes
str_parts bytes i lt z = sym (take-append-drop i bytes) ∙ ap (λ (r : List ℕ). take i bytes ++ r) (drop_more bytes i 0 lt ∙ ap (λ (b : ℕ). b ∷ drop (i + 1) bytes) z) ∙ sym (append_assoc (take i bytes) (0 ∷ []) (drop (i + 1) bytes))

text_before : (bytes : List ℕ) (i : ℕ) → ((k : ℕ) → k < i → zero_here (get_or bytes k 0) ≡ false) → IsText (take i bytes)
text_before bytes i before found =
    let lt : found.0 < i = omega (arith, found.1, length-take i bytes) in
    eqb-false _ _ (before found.0 lt) (sym (get_or-take i bytes found.0 0 lt) ∙ found.2)

pub str_takes : (bytes : List ℕ) (x : List ℕ × List ℕ) → IsBytes bytes → str_at bytes ≡ Ok x → Takes bytes (str x.0) x.1 × IsText x.0
str_takes bytes x fits e =
    let p = str_ends bytes x e in
    let at = position-Some zero_here bytes p.0 0 p.1 in
    let whole : Takes bytes (str (take p.0 bytes)) (drop (p.0 + 1) bytes) = record { parts = str_parts bytes p.0 at.0 (eqb-true _ _ at.1); rest_fits = IsBytes-drop (p.0 + 1) bytes fits } in
    subst (λ (y : List ℕ × List ℕ). Takes bytes (str y.0) y.1 × IsText y.0) (sym p.2) (whole, text_before bytes p.0 at.2)

-- what is behind the first byte of a text is a text
pub text_rest : (b : ℕ) (text : List ℕ) → IsText (b ∷ text) → IsText text
text_rest b text is found = is (suc found.0, omega (arith, found.1), found.2)

pub text_first : (b : ℕ) (text : List ℕ) → IsText (b ∷ text) → b ≡ 0 → ⊥
text_first b text is e = is (0, omega arith, e)

first_zero : (text rest : List ℕ) → IsText text → position_or_len zero_here (text ++ 0 ∷ rest) ≡ length text
first_zero [] rest is = refl
first_zero (b ∷ text) rest is = rw (ne_eqb b 0 (text_first b text is), first_zero text rest (text_rest b text is)) (omega arith)

pub str_again : (text rest : List ℕ) → IsText text → str_at (str text ++ rest) ≡ Ok (text, rest)
unfolding str_at
str_again text rest is =
    let regrouped : str text ++ rest ≡ text ++ 0 ∷ rest = append_assoc text (0 ∷ []) rest in
    let within : length text < length (text ++ 0 ∷ rest) = omega (arith, length-append text (0 ∷ rest)) in
    let place : position zero_here (text ++ 0 ∷ rest) ≡ Some (length text) = rw (first_zero text rest is, lt-ltb _ _ within) refl in
    let behind : drop (length text + 1) (text ++ 0 ∷ rest) ≡ rest = ap (drop (length text + 1)) (sym regrouped) ∙ drop_at (str text) rest (length text + 1) (length-append text (0 ∷ [])) in
    rw (regrouped, place, take_at text (0 ∷ rest) (length text) refl, behind) refl
