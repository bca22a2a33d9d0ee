-- What the tokens alone tell of a statement.
use Rattle.std.specs.Prelude.{ℕ, nat_eq, Bool, true, false, if◌then◌else◌, List, [], ◌∷◌, ◌++◌}
use Rattle.std.specs.List.{flat_map, list_all}
use Rattle.std.specs.Cmp.Lexicographic.{pointwise}
use Rattle.sql_tokens.specs.declared.sign.Sign.TheVariants as sign
use Rattle.sql_tokens.specs.declared.token.Token.{Token}
use Rattle.sql_tokens.specs.declared.token.Token.TheVariants as t
use Rattle.sql_tree.specs.declared.statement.Statement.{Statement}
use Rattle.sql_tree.specs.declared.statement.Statement.TheVariants as statement

abbrev pub is_dot : Token → Bool
is_dot (t.Sign sign.Dot) = true
is_dot _ = false

abbrev pub dot_first : List Token → Bool
dot_first [] = false
dot_first (x ∷ ts) = is_dot x

-- its name, where it is one and a dot follows
abbrev pub named : Bool → Token → List (List ℕ)
named dotted (t.Name name quoted) = if dotted then name ∷ [] else []
named dotted _ = []

-- the names that stand before dots
abbrev pub before_dots : List Token → List (List ℕ)
before_dots [] = []
before_dots (x ∷ ts) = named (dot_first ts) x ++ before_dots ts

-- the names before dots are the table's
abbrev pub agree : List ℕ → List Token → Bool
agree table ts = list_all (λ q. pointwise nat_eq q table) (before_dots ts)

-- where the statement has a table with columns
abbrev pub qualifiers_agree : Statement → List Token → Bool
qualifiers_agree (statement.Select table items cond order limit offset) ts = agree table ts
qualifiers_agree (statement.Update table sets cond) ts = agree table ts
qualifiers_agree (statement.Delete table cond) ts = agree table ts
qualifiers_agree _ ts = true

abbrev pub number_of : Token → List ℕ
number_of (t.Parameter n) = n ∷ []
number_of _ = []

-- the numbers of the parameters
abbrev pub numbers : List Token → List ℕ
numbers ts = flat_map number_of ts
