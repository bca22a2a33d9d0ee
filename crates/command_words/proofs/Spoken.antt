-- A command line of one word.
use Rattle.std.proofs.Common.{◌≡◌, ℕ, ◌≤◌, ◌<◌, true, List, [], ◌∷◌, length, get_or, sym, ap, ◌∙◌, arith}
use Rattle.std.specs.Prelude.{nat_eq, map}
use Rattle.std.specs.Cmp.Lexicographic.{pointwise, same_text}

one : {X : Type 0} (words : List X) (x : X) → 1 ≤ length words → length words < 2 → x ≡ get_or words 0 x → words ≡ x ∷ []
one [] x least most e = absurd (omega arith)
one (y ∷ []) x least most e = cc
one (y ∷ z ∷ more) x least most e = absurd (omega arith)

pub one_word : {X : Type 0} (text : X → List ℕ) (words : List X) (x : X) (said word : List ℕ) → 1 ≤ length words → length words < 2 → x ≡ get_or words 0 x → said ≡ text x → true ≡ pointwise nat_eq said word → map text words ≡ word ∷ []
one_word {X} text words x said word least most is e same =
    ap (λ (ws : List X). map text ws) (one words x least most is) ∙ ap (λ (w : List ℕ). w ∷ []) (sym e ∙ same_text said word same)
