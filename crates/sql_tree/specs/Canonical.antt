-- The canonical text: keywords in upper case, names in quotes, one space between tokens but before ")" and "," and behind
-- "(", a number's sign, COUNT and substr.
use Rattle.std.specs.Prelude.{ℕ, nat_eq, Bool, true, false, ◌||◌, if◌then◌else◌, List, [], ◌∷◌, ◌++◌, codes}
use Rattle.std.specs.Fmt.{decimal}
use Rattle.std.specs.Cmp.Lexicographic.{pointwise}
use Rattle.sql_tokens.specs.declared.keyword.Keyword.{Keyword}
use Rattle.sql_tokens.specs.declared.keyword.Keyword.TheVariants as word
use Rattle.sql_tokens.specs.declared.sign.Sign.{Sign}
use Rattle.sql_tokens.specs.declared.sign.Sign.TheVariants as sign
use Rattle.sql_tokens.specs.declared.token.Token.{Token}
use Rattle.sql_tokens.specs.declared.token.Token.TheVariants as t
use Rattle.sql_tokens.specs.Tokens.{doubled}
use Rattle.sql_tree.specs.declared.statement.Statement.{Statement}
use Rattle.sql_tree.specs.Shapes.{printed}

abbrev pub keyword_text : Keyword → List ℕ
keyword_text word.Select = codes "SELECT"
keyword_text word.From = codes "FROM"
keyword_text word.Where = codes "WHERE"
keyword_text word.And = codes "AND"
keyword_text word.Or = codes "OR"
keyword_text word.Not = codes "NOT"
keyword_text word.In = codes "IN"
keyword_text word.Is = codes "IS"
keyword_text word.Null = codes "NULL"
keyword_text word.Order = codes "ORDER"
keyword_text word.By = codes "BY"
keyword_text word.Asc = codes "ASC"
keyword_text word.Desc = codes "DESC"
keyword_text word.Limit = codes "LIMIT"
keyword_text word.Offset = codes "OFFSET"
keyword_text word.Insert = codes "INSERT"
keyword_text word.Into = codes "INTO"
keyword_text word.Values = codes "VALUES"
keyword_text word.Update = codes "UPDATE"
keyword_text word.Set = codes "SET"
keyword_text word.Delete = codes "DELETE"
keyword_text word.As = codes "AS"
keyword_text word.To = codes "TO"

abbrev pub sign_text : Sign → List ℕ
sign_text sign.Open = codes "("
sign_text sign.Close = codes ")"
sign_text sign.Comma = codes ","
sign_text sign.Semicolon = codes ";"
sign_text sign.Dot = codes "."
sign_text sign.Star = codes "*"
sign_text sign.Equal = codes "="
sign_text sign.NotEqual = codes "<>"
sign_text sign.Less = codes "<"
sign_text sign.AtMost = codes "<="
sign_text sign.Greater = codes ">"
sign_text sign.AtLeast = codes ">="
sign_text sign.Plus = codes "+"
sign_text sign.Minus = codes "-"

abbrev pub quotes : ℕ → List ℕ → List ℕ
quotes quote text = quote ∷ doubled quote text ++ quote ∷ []

abbrev pub token_text : Token → List ℕ
token_text (t.Word w) = keyword_text w
token_text (t.Name name true) = quotes 34 name
token_text (t.Name name false) = if pointwise nat_eq name (codes "count") then codes "COUNT" else name
token_text (t.Number n) = decimal n
token_text (t.Text text) = quotes 39 text
token_text (t.Parameter n) = 36 ∷ decimal n
token_text (t.Sign s) = sign_text s

-- whether no space follows, or stands before
abbrev pub is_tight_after : Token → Bool
is_tight_after (t.Sign sign.Open) = true
is_tight_after (t.Sign sign.Minus) = true
is_tight_after (t.Name name false) = true
is_tight_after _ = false

abbrev pub is_tight_before : Token → Bool
is_tight_before (t.Sign sign.Close) = true
is_tight_before (t.Sign sign.Comma) = true
is_tight_before _ = false

-- the text of tokens, where no space is to follow what stands before, or one is
abbrev pub rendered : Bool → List Token → List ℕ
rendered tight [] = []
rendered tight (token ∷ more) = (if tight || is_tight_before token then [] else 32 ∷ []) ++ (token_text token ++ rendered (is_tight_after token) more)

abbrev pub canon : Statement → List ℕ
canon tree = rendered true (printed tree)
