-- What one token is, where it is what is looked for.
use Rattle.std.specs.Prelude.{ℕ, nat_eq, nat_lt, ◌==◌, ◌^◌, ◌≡◌, ◌&&◌, Bool, true, false, not, if◌then◌else◌, List, refl, Option, Some, None, is_some}
use Rattle.std.specs.Cmp.Lexicographic.{pointwise}
use Rattle.std.proofs.lemmas.Bool.{ltb-true}
use Rattle.sql_tokens.specs.declared.keyword.Keyword.{Keyword}
use Rattle.sql_tokens.specs.declared.keyword.Keyword.TheVariants as word
use Rattle.sql_tokens.specs.declared.sign.Sign.{Sign}
use Rattle.sql_tokens.specs.declared.sign.Sign.TheVariants as sign
use Rattle.sql_tokens.specs.declared.token.Token.{Token}
use Rattle.sql_tokens.specs.declared.token.Token.TheVariants as t
use Rattle.sql_tree.specs.declared.condition.Op.{Op}
use Rattle.sql_tree.specs.declared.condition.Op.TheVariants as op
use Rattle.sql_tree.specs.Parts.{Spelled}
use Rattle.sql_tree.specs.Grammar.{Bound}

abbrev pub word_number : Keyword → ℕ
word_number word.Select = 0
word_number word.From = 1
word_number word.Where = 2
word_number word.And = 3
word_number word.Or = 4
word_number word.Not = 5
word_number word.In = 6
word_number word.Is = 7
word_number word.Null = 8
word_number word.Order = 9
word_number word.By = 10
word_number word.Asc = 11
word_number word.Desc = 12
word_number word.Limit = 13
word_number word.Offset = 14
word_number word.Insert = 15
word_number word.Into = 16
word_number word.Values = 17
word_number word.Update = 18
word_number word.Set = 19
word_number word.Delete = 20
word_number word.As = 21
word_number word.To = 22

abbrev pub sign_number : Sign → ℕ
sign_number sign.Open = 0
sign_number sign.Close = 1
sign_number sign.Comma = 2
sign_number sign.Semicolon = 3
sign_number sign.Dot = 4
sign_number sign.Star = 5
sign_number sign.Equal = 6
sign_number sign.NotEqual = 7
sign_number sign.Less = 8
sign_number sign.AtMost = 9
sign_number sign.Greater = 10
sign_number sign.AtLeast = 11
sign_number sign.Plus = 12
sign_number sign.Minus = 13

abbrev pub look_word : Keyword → Token → Option (Unit {0})
look_word w (t.Word v) = if word_number v == word_number w then Some tt else None
look_word w _ = None

abbrev pub look_sign : Sign → Token → Option (Unit {0})
look_sign s (t.Sign u) = if sign_number u == sign_number s then Some tt else None
look_sign s _ = None

abbrev pub look_name : Token → Option Spelled
look_name (t.Name name quoted) = Some (record { name = name; quoted = quoted })
look_name _ = None

abbrev pub look_text : Token → Option (List ℕ)
look_text (t.Text text) = Some text
look_text _ = None

abbrev pub look_number : Token → Option ℕ
look_number (t.Number n) = Some n
look_number _ = None

abbrev pub look_parameter : Token → Option ℕ
look_parameter (t.Parameter n) = Some n
look_parameter _ = None

-- this very number
abbrev pub look_exactly : ℕ → Token → Option (Unit {0})
look_exactly k (t.Number n) = if n == k then Some tt else None
look_exactly k _ = None

abbrev pub bound_if : (n : ℕ) (b : Bool) → nat_lt n (2 ^ 63) ≡ b → Option Bound
bound_if n true e = Some (record { number = n; below = ltb-true n (2 ^ 63) e })
bound_if n false e = None

abbrev pub look_bound : Token → Option Bound
look_bound (t.Number n) = bound_if n (nat_lt n (2 ^ 63)) refl
look_bound _ = None

abbrev pub look_op : Token → Option Op
look_op (t.Sign sign.Equal) = Some op.Eq
look_op (t.Sign sign.NotEqual) = Some op.Ne
look_op (t.Sign sign.Less) = Some op.Lt
look_op (t.Sign sign.AtMost) = Some op.Le
look_op (t.Sign sign.Greater) = Some op.Gt
look_op (t.Sign sign.AtLeast) = Some op.Ge
look_op _ = None

abbrev pub is_word : Keyword → Token → Bool
is_word w token = is_some (look_word w token)

abbrev pub is_sign : Sign → Token → Bool
is_sign s token = is_some (look_sign s token)

abbrev pub is_name : Token → Bool
is_name token = is_some (look_name token)

abbrev pub is_op : Token → Bool
is_op token = is_some (look_op token)

-- the word of a call, which is one only before a parenthesis
abbrev pub is_call : List ℕ → Spelled → Bool
is_call word s = not s.quoted && pointwise nat_eq s.name word
