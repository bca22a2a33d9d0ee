-- Where holes may stand: the side conditions of a pattern beside those of the grammar.
use Rattle.std.specs.Prelude.{ℕ, Bool, true, false, ◌&&◌, ◌||◌, not, List, [], ◌∷◌, drop, bytes_eq, Option}
use Rattle.std.specs.List.{list_all}
use Rattle.std.specs.Option.{option_map_or}
use Rattle.sql_tokens.specs.declared.keyword.Keyword.TheVariants as word
use Rattle.sql_tokens.specs.declared.sign.Sign.TheVariants as sign
use Rattle.sql_tokens.specs.declared.token.Token.{Token}
use Rattle.sql_tokens.specs.declared.token.Token.TheVariants as t
use Rattle.sql_tree.specs.declared.condition.Operand.{Operand}
use Rattle.sql_tree.specs.declared.condition.Operand.TheVariants as operand
use Rattle.sql_tree.specs.declared.statement.Item.{Item}
use Rattle.sql_tree.specs.declared.statement.Items.{Items}
use Rattle.sql_tree.specs.declared.statement.Items.TheVariants as items
use Rattle.sql_tree.specs.declared.statement.SetPair.{SetPair}
use Rattle.sql_tree.specs.declared.statement.Statement.{Statement}
use Rattle.sql_tree.specs.declared.statement.Statement.TheVariants as statement
use Rattle.sql_patterns.specs.Holes.{column_mark, where_mark}

abbrev pub is_dot : Token → Bool
is_dot (t.Sign sign.Dot) = true
is_dot _ = false

abbrev pub is_where : Token → Bool
is_where (t.Word word.Where) = true
is_where _ = false

-- AND or OR
abbrev pub joins : Token → Bool
joins (t.Word word.And) = true
joins (t.Word word.Or) = true
joins _ = false

abbrev pub begins_with : (Token → Bool) → List Token → Bool
begins_with test [] = false
begins_with test (x ∷ more) = test x

-- a name may stand behind a dot or not, behind WHERE or not, and before these tokens: no column hole behind a dot, and a
-- where hole right behind WHERE, where neither AND nor OR follows its condition
abbrev pub name_stands : (dot where_ : Bool) → List ℕ → List Token → Bool
name_stands dot where_ name more =
    not (bytes_eq name column_mark && dot) && (not (bytes_eq name where_mark) || (where_ && not (begins_with joins (drop 2 more))))

abbrev pub stands : (dot where_ : Bool) → Token → List Token → Bool
stands dot where_ (t.Name name quoted) more = name_stands dot where_ name more
stands dot where_ _ more = true

-- each token may stand where it does
abbrev pub all_stand : (dot where_ : Bool) → List Token → Bool
all_stand dot where_ [] = true
all_stand dot where_ (x ∷ more) = stands dot where_ x more && all_stand (is_dot x) (is_where x) more

-- ---- names that are no holes

abbrev pub is_plain_name : List ℕ → Bool
is_plain_name name = not (bytes_eq name column_mark) && not (bytes_eq name where_mark)

-- a value is no hole; a name that SET sets is a string
abbrev pub is_plain_value : Operand → Bool
is_plain_value (operand.Text text) = is_plain_name text
is_plain_value _ = true

abbrev pub is_plain_label : Option (List ℕ) → Bool
is_plain_label label = option_map_or is_plain_name label true

abbrev pub are_labels_plain : Items → Bool
are_labels_plain items.All = true
are_labels_plain (items.Count label) = is_plain_label label
are_labels_plain (items.Columns columns) = list_all (λ (i : Item). is_plain_label i.label) columns

-- the names of tables and labels, INSERT's list, UPDATE's targets, and what SET sets
abbrev pub are_names_plain : Statement → Bool
are_names_plain statement.Empty = true
are_names_plain (statement.Set name value) = is_plain_value value
are_names_plain (statement.Select table columns cond order limit offset) = is_plain_name table && are_labels_plain columns
are_names_plain (statement.Insert table columns rows) = is_plain_name table && option_map_or (list_all is_plain_name) columns true
are_names_plain (statement.Update table sets cond) = is_plain_name table && list_all (λ (p : SetPair). is_plain_name p.column) sets
are_names_plain (statement.Delete table cond) = is_plain_name table
