-- Signs, comments and spaces at the front of a text.
use Rattle.std.proofs.Common.{◌≡◌, ℕ, ◌-◌, ◌≤◌, true, false, List, [], ◌∷◌, ◌++◌, length, take, drop, get_or, ap, subst, ◌∙◌, refl, sym, arith}
use Rattle.std.specs.Prelude.{Option, Some, None}
use Rattle.std.specs.List.{list_all}
use Rattle.std.proofs.lemmas.Grind.{common_steps}
use Rattle.std.proofs.lemmas.List.{take-append-drop}
use Rattle.sql_tokens.specs.declared.class.Class.TheVariants as class
use Rattle.sql_tokens.specs.declared.sign.Sign.{Sign}
use Rattle.sql_tokens.specs.declared.token.Token.{Token}
use Rattle.sql_tokens.specs.declared.token.Token.TheVariants as t
use Rattle.sql_tokens.specs.Classes.{class_of, Stops}
use Rattle.sql_tokens.specs.Signs.{IsSign, sign_of_one, sign_of_two, joins}
use Rattle.sql_tokens.specs.Comments.{IsGap, IsText, after_comments, not_newline}
use Rattle.sql_tokens.specs.Tokens.{IsPiece}
use Rattle.sql_tokens.specs.Lexing.{BeginsNone}
use Rattle.sql_tokens.specs.Steps.{Takes}
use Rattle.sql_tokens.proofs.Running.{one_run}
use Rattle.sql_tokens.proofs.Pieces.{IsMark, class_space}
use Rattle.sql_tokens.proofs.Unique.{tail_same, some_same, line_nested, line_one, line_two, nested_one, nested_two, one_two}
use Rattle.sql_tokens.proofs.Fronts.{of}

-- behind "--"
module _ (text inside rest : List ℕ) (cut : text ≡ inside ++ rest) (on : list_all not_newline inside ≡ true) (ends : Stops not_newline rest) where
  pub line_takes : IsText inside → Takes (45 ∷ 45 ∷ text) None rest
  line_takes h = record { piece = 45 ∷ 45 ∷ inside; whole = ap (λ (xs : List ℕ). 45 ∷ 45 ∷ xs) cut; is = IsGap.line inside refl on ends h }

  pub line_bad : (IsText inside → ⊥) → BeginsNone (45 ∷ 45 ∷ text)
  line_bad none piece other what e is = at (of (45 ∷ 45 ∷ text) (omega arith) class.Mark refl piece other what e is)
    where
      begun : (bytes : List ℕ) → piece ≡ bytes → 45 ∷ 45 ∷ text ≡ bytes ++ other
      begun bytes f = e ∙ ap (λ (xs : List ℕ). xs ++ other) f

      at : IsMark piece what other → ⊥
      at (IsMark.line within f also stops h _) =
          let o = one_run not_newline inside within rest other on also ends stops (sym cut ∙ tail_same 45 45 _ _ (tail_same 45 45 _ _ (begun (45 ∷ 45 ∷ within) f))) in
          none (subst IsText (sym o.0) h)
      at (IsMark.nested within f after h _) = line_nested _ _ (begun (47 ∷ 42 ∷ within) f)
      at (IsMark.one c sign f found alone _) = line_one c text other (begun (c ∷ []) f) alone
      at (IsMark.two c d sign f found _) = line_two c d text other sign (begun (c ∷ d ∷ []) f) found

-- behind "/*"
module _ (text : List ℕ) where
  nested_is : (piece other : List ℕ) (what : Option Token) → 47 ∷ 42 ∷ text ≡ piece ++ other → IsPiece piece what other → (inside : List ℕ) × (text ≡ inside ++ other) × (after_comments text 1 ≡ Some other) × IsText inside
  nested_is piece other what e is = at (of (47 ∷ 42 ∷ text) (omega arith) class.Mark refl piece other what e is)
    where
      begun : (bytes : List ℕ) → piece ≡ bytes → 47 ∷ 42 ∷ text ≡ bytes ++ other
      begun bytes f = e ∙ ap (λ (xs : List ℕ). xs ++ other) f

      at : IsMark piece what other → (inside : List ℕ) × (text ≡ inside ++ other) × (after_comments text 1 ≡ Some other) × IsText inside
      at (IsMark.line within f also stops h _) = absurd (line_nested _ _ (sym (begun (45 ∷ 45 ∷ within) f)))
      at (IsMark.nested within f after h _) =
          let same = tail_same 42 42 _ _ (tail_same 47 47 _ _ (begun (47 ∷ 42 ∷ within) f)) in
          (within, same, ap (λ (xs : List ℕ). after_comments xs 1) same ∙ after, h)
      at (IsMark.one c sign f found alone _) = absurd (nested_one c (42 ∷ text) other sign (begun (c ∷ []) f) found)
      at (IsMark.two c d sign f found _) = absurd (nested_two c d text other sign (begun (c ∷ d ∷ []) f) found)

  pub nested_open : after_comments text 1 ≡ None → BeginsNone (47 ∷ 42 ∷ text)
  nested_open none piece other what e is = let n = nested_is piece other what e is in let both : None ≡ Some other = sym none ∙ n.2 in cc

  module _ (inside rest : List ℕ) (cut : text ≡ inside ++ rest) (after : after_comments text 1 ≡ Some rest) where
    pub nested_takes : IsText inside → Takes (47 ∷ 42 ∷ text) None rest
    nested_takes h = record { piece = 47 ∷ 42 ∷ inside; whole = ap (λ (xs : List ℕ). 47 ∷ 42 ∷ xs) cut; is = IsGap.nested inside refl (ap (λ (xs : List ℕ). after_comments xs 1) (sym cut) ∙ after) h }

    pub nested_bad : (IsText inside → ⊥) → BeginsNone (47 ∷ 42 ∷ text)
    nested_bad none piece other what e is =
        let n = nested_is piece other what e is in
        let same = some_same rest other (sym after ∙ n.2) in
        let both = cut ∙ ap (λ (xs : List ℕ). inside ++ xs) same in
        none (subst IsText (append_same n.0 inside other (sym n.1 ∙ both)) n.3)
      where
        append_same : (p q r : List ℕ) → p ++ r ≡ q ++ r → p ≡ q
        append_same p q r e = Rattle.std.proofs.lemmas.List.append_cancel_right p q r e

-- the rest of a list behind its first bytes
behind_one : (c : ℕ) (rest : List ℕ) → take (length (c ∷ rest) - 1) (drop 1 (c ∷ rest)) ≡ rest
behind_one c rest = grind (arith, common_steps)

behind_two : (c d : ℕ) (rest : List ℕ) → take (length (c ∷ d ∷ rest) - 2) (drop 2 (c ∷ d ∷ rest)) ≡ rest
behind_two c d rest = grind (arith, common_steps)

one_takes : (bytes : List ℕ) (sign : Sign) → 1 ≤ length bytes → sign_of_one (get_or bytes 0 0) ≡ Some sign → Stops (joins (get_or bytes 0 0)) (drop 1 bytes) → Takes bytes (Some (t.Sign sign)) (take (length bytes - 1) (drop 1 bytes))
one_takes [] sign some h alone = absurd (omega arith)
one_takes (c ∷ rest) sign some h alone =
    subst (Takes (c ∷ rest) (Some (t.Sign sign))) (sym (behind_one c rest)) (record { piece = c ∷ []; whole = refl; is = IsSign.one c refl h alone })

two_takes : (bytes : List ℕ) (sign : Sign) → 2 ≤ length bytes → sign_of_two (get_or bytes 0 0) (get_or bytes 1 0) ≡ Some sign → Takes bytes (Some (t.Sign sign)) (take (length bytes - 2) (drop 2 bytes))
two_takes [] sign some h = absurd (omega arith)
two_takes (c ∷ []) sign some h = absurd (omega arith)
two_takes (c ∷ d ∷ rest) sign some h =
    subst (Takes (c ∷ d ∷ rest) (Some (t.Sign sign))) (sym (behind_two c d rest)) (record { piece = c ∷ d ∷ []; whole = refl; is = IsSign.two c d refl h })

space_takes : (bytes : List ℕ) → 1 ≤ length bytes → class_of (get_or bytes 0 0) ≡ class.Space → Takes bytes None (take (length bytes - 1) (drop 1 bytes))
space_takes [] some h = absurd (omega arith)
space_takes (c ∷ rest) some h = subst (Takes (c ∷ rest) None) (sym (behind_one c rest)) (record { piece = c ∷ []; whole = refl; is = IsGap.space c refl (class_space c h) })

-- the text, which is these bytes
module _ (bytes text : List ℕ) (same : bytes ≡ text) where
  pub sign_takes : (sign : Sign) → 1 ≤ length bytes → sign_of_one (get_or bytes 0 0) ≡ Some sign → Stops (joins (get_or text 0 0)) (drop 1 text) → Takes text (Some (t.Sign sign)) (take (length bytes - 1) (drop 1 bytes))
  sign_takes sign some h alone =
      subst (λ (xs : List ℕ). Takes xs (Some (t.Sign sign)) (take (length bytes - 1) (drop 1 bytes))) same
      (one_takes bytes sign some h (subst (λ (xs : List ℕ). Stops (joins (get_or xs 0 0)) (drop 1 xs)) (sym same) alone))

  pub pair_takes : (sign : Sign) → 2 ≤ length bytes → sign_of_two (get_or bytes 0 0) (get_or bytes 1 0) ≡ Some sign → Takes text (Some (t.Sign sign)) (take (length bytes - 2) (drop 2 bytes))
  pair_takes sign some h = subst (λ (xs : List ℕ). Takes xs (Some (t.Sign sign)) (take (length bytes - 2) (drop 2 bytes))) same (two_takes bytes sign some h)

  pub gap_takes : 1 ≤ length bytes → class_of (get_or bytes 0 0) ≡ class.Space → Takes text None (take (length bytes - 1) (drop 1 bytes))
  gap_takes some h = subst (λ (xs : List ℕ). Takes xs None (take (length bytes - 1) (drop 1 bytes))) same (space_takes bytes some h)

  pub nested_split : (len : ℕ) (inside rest : List ℕ) → after_comments bytes 1 ≡ Some (drop len bytes) → inside ≡ take len bytes → rest ≡ drop len bytes → IsText inside → Takes (47 ∷ 42 ∷ text) None rest
  nested_split len inside rest after front back h =
      subst (λ (xs : List ℕ). Takes (47 ∷ 42 ∷ xs) None rest) same
      (nested_takes bytes inside rest (sym (take-append-drop len bytes) ∙ (λ i. (sym front i) ++ (sym back i))) (after ∙ ap Some (sym back)) h)

-- no sign and no comment
pub no_sign : (text : List ℕ) → 1 ≤ length text → class_of (get_or text 0 0) ≡ class.Mark → Stops (joins (get_or text 0 0)) (drop 1 text) → sign_of_one (get_or text 0 0) ≡ None → BeginsNone text
no_sign text some mark alone none piece other what e is = at (of text some class.Mark mark piece other what e is)
  where
    pairs : (c d : ℕ) (rest : List ℕ) → text ≡ c ∷ d ∷ rest → joins c d ≡ false
    pairs c d rest f = subst (λ (xs : List ℕ). Stops (joins (get_or xs 0 0)) (drop 1 xs)) f alone

    begun : (bytes : List ℕ) → piece ≡ bytes → text ≡ bytes ++ other
    begun bytes f = e ∙ ap (λ (xs : List ℕ). xs ++ other) f

    at : IsMark piece what other → ⊥
    at (IsMark.line within f also stops h _) = let p = pairs 45 45 (within ++ other) (begun (45 ∷ 45 ∷ within) f) in cc
    at (IsMark.nested within f after h _) = let p = pairs 47 42 (within ++ other) (begun (47 ∷ 42 ∷ within) f) in cc
    at (IsMark.one c sign f found _ _) =
        let same : get_or text 0 0 ≡ c = ap (λ (xs : List ℕ). get_or xs 0 0) (begun (c ∷ []) f) in
        let both : None ≡ Some sign = sym none ∙ ap sign_of_one same ∙ found in
        cc
    at (IsMark.two c d sign f found _) =
        let p = pairs c d other (begun (c ∷ d ∷ []) f) in
        one_two c c d (d ∷ other) other sign refl p found
