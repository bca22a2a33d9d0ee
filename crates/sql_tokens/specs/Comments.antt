-- What stands between tokens: a separating byte, or a comment. A comment "--" runs to the line's or the text's end,
-- and comments "/*" .. "*/" nest.
use Rattle.std.specs.Prelude.{ℕ, zero, suc, ◌&&◌, ◌==◌, ◌≡◌, Bool, true, false, not, List, [], ◌∷◌, ◌++◌, Option, Some, None}
use Rattle.std.specs.List.{list_all}
use Rattle.std.specs.Str.{IsUtf8}
use Rattle.sql_tokens.specs.Classes.{is_space, Stops}

-- UTF-8 without a zero byte
pub record IsText (bytes : List ℕ) : Type 0 where
  pub utf8 : IsUtf8 bytes
  pub no_zero : list_all (λ b. not (b == 0)) bytes ≡ true

abbrev pub not_newline : ℕ → Bool
not_newline c = not (c == 10)

-- what follows where so many comments are open: "*/" closes the innermost, and "/*" opens one more
unfoldable pub after_comments : List ℕ → ℕ → Option (List ℕ)
after_comments text zero = Some text
after_comments [] (suc depth) = None
after_comments (a ∷ []) (suc depth) = None
after_comments (a ∷ b ∷ text) (suc depth) =
    elim ((a == 42) && (b == 47)) [
      | true ↦ after_comments text depth
      | false ↦ elim ((a == 47) && (b == 42)) [ true ↦ after_comments text (suc (suc depth)) | false ↦ after_comments (b ∷ text) (suc depth) ]
    ]

-- the piece separates tokens, before the rest
pub data IsGap (piece rest : List ℕ) : Type 0 where
  space : (c : ℕ) → piece ≡ c ∷ [] → is_space c ≡ true → IsGap piece rest
  line : (inside : List ℕ) → piece ≡ 45 ∷ 45 ∷ inside → list_all not_newline inside ≡ true → Stops not_newline rest → IsText inside → IsGap piece rest
  nested : (inside : List ℕ) → piece ≡ 47 ∷ 42 ∷ inside → after_comments (inside ++ rest) 1 ≡ Some rest → IsText inside → IsGap piece rest
