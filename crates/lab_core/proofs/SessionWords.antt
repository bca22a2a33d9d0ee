use Rattle.std.proofs.Common.{◌≡◌, ℕ, List, [], ◌∷◌, length, get_or, refl, arith, ap, ◌∙◌, sym, subst, Some, Bool, true, false, not}
use Rattle.std.specs.Prelude.{map, codes, nat_eq}
use Rattle.std.specs.Cmp.Lexicographic.{pointwise, same_text}
use Rattle.acra_base.specs.Client.{IsClientId}
use Rattle.command_words.specs.Numbers.{number_of}
use Rattle.lab_core.specs.Words.{IsSession}

-- a list of three
pub three : {X : Type 0} (xs : List X) (a b c : X) → length xs ≡ 3 → a ≡ get_or xs 0 a → b ≡ get_or xs 1 b → c ≡ get_or xs 2 c → xs ≡ a ∷ b ∷ c ∷ []
three [] a b c e ea eb ec = absurd (omega arith)
three (x ∷ []) a b c e ea eb ec = absurd (omega arith)
three (x ∷ y ∷ []) a b c e ea eb ec = absurd (omega arith)
three (x ∷ y ∷ z ∷ []) a b c e ea eb ec = cc
three (x ∷ y ∷ z ∷ w ∷ xs) a b c e ea eb ec = absurd (omega arith)

is_true : (b : Bool) → false ≡ not b → true ≡ b
is_true true e = refl
is_true false e = absurd cc

pub session_is : {X : Type 0} (text : X → List ℕ) (words : List X) (a b c : X) (first name digits client : List ℕ) (seed : ℕ) → length words ≡ 3 → a ≡ get_or words 0 a → b ≡ get_or words 1 b → c ≡ get_or words 2 c →
    first ≡ text a → name ≡ text b → digits ≡ text c → false ≡ not (pointwise nat_eq first (codes "session")) → client ≡ name → IsClientId name → Some seed ≡ number_of digits → IsSession (map text words) client seed
session_is {X} text words a b c first name digits client seed l ia ib ic ta tb tc ne ec id num =
    let e0 : text a ≡ codes "session" = sym ta ∙ same_text first (codes "session") (is_true _ ne) in
    let e1 : text b ≡ client = sym tb ∙ sym ec in
    let e2 : text c ≡ digits = sym tc in
    record {
      digits = digits;
      shape = ap (λ (ws : List X). map text ws) (three words a b c l ia ib ic) ∙ rw (e0, e1, e2) refl;
      name = subst IsClientId (sym ec) id;
      number = sym num;
    }
