-- Parts of statements, and what they are made into.
use Rattle.std.specs.Prelude.{ℕ, List, [], ◌∷◌, map, Option, Some, None, option_map}
use Rattle.sql_tokens.specs.declared.sign.Sign.TheVariants as sign
use Rattle.sql_tree.specs.declared.condition.Operand.{Operand}
use Rattle.sql_tree.specs.declared.statement.Items as trees_items
use Rattle.sql_tree.specs.declared.statement.Items.TheVariants as items
use Rattle.sql_tree.specs.declared.statement.OrderKey.{OrderKey}
use Rattle.sql_tree.specs.declared.statement.SetPair.{SetPair}
use Rattle.sql_tree.specs.declared.statement.Statement.TheVariants as statement
use Rattle.sql_tree.specs.Parts.{Spelled, Value}
use Rattle.sql_tree.specs.Grammar as grammar
use Rattle.sql_tree.specs.Grammar.{Item, Items, Key, Some1, all_of, Bound, Pair, Select, Body, label_name, item_tree, key_tree, pair_tree}
use Rattle.sql_reading.specs.declared.made.Reading.{Reading}
use Rattle.sql_readers.specs.Readers.{Reader, both, many, seen_as}
use Rattle.sql_readers.specs.Looks.{is_sign}
use Rattle.sql_readers.specs.Productions.{sign_reader, seconds, in_parens, label, item, column_rest, Inserted, Updated, Deleted, Settled}
use Rattle.sql_reading.specs.Made.{reading, names_of, row_of}
use Rattle.sql_reading.specs.Cursor.{last_of}

-- what stands behind COUNT
abbrev pub count : Reader (Option Spelled)
count = seen_as (λ x. x.1) (both (in_parens (sign_reader sign.Star)) label)

-- what stands behind the name that begins a list of items
abbrev pub Columns : Type 0
Columns = Option Spelled × (Option Spelled × List (Unit {0} × Item))

abbrev pub columns : Reader Columns
columns = both column_rest (both label (many (is_sign sign.Comma) (both (sign_reader sign.Comma) item)))

abbrev pub columns_tree : List ℕ → Columns → trees_items.Items
columns_tree first x = items.Columns (record { column = last_of first x.0; label = label_name x.1.0 } ∷ map item_tree (seconds x.1.1))

abbrev pub keys_of : Some1 Key → List OrderKey
keys_of keys = map key_tree (all_of keys)

abbrev pub order_of : Option (Some1 Key) → List OrderKey
order_of None = []
order_of (Some keys) = keys_of keys

abbrev pub bound_of : Option Bound → Option ℕ
bound_of bound = option_map (λ (b : Bound). b.number) bound

abbrev pub some_names : Option (Some1 Spelled) → Option (List (List ℕ))
some_names names = option_map names_of names

abbrev pub rows_of : Some1 (Some1 Value) → List (List Operand)
rows_of rows = map row_of (all_of rows)

abbrev pub pairs_of : Some1 Pair → List SetPair
pairs_of pairs = map pair_tree (all_of pairs)

abbrev pub selected : Select → Reading
selected q = reading (grammar.select q)

abbrev pub inserted : Inserted → Reading
inserted x = reading (grammar.insert x.0 x.1.0 x.1.1)

abbrev pub updated : Updated → Reading
updated x = reading (grammar.update x.0 x.1.0 x.1.1)

abbrev pub deleted : Deleted → Reading
deleted x = reading (grammar.delete x.0 x.1)

abbrev pub settled : Settled → Reading
settled x = reading (grammar.set x.0 x.1.0 x.1.1)

abbrev pub body_reading : Option Body → Reading
body_reading None = record { statement = statement.Empty; deepest = 0 }
body_reading (Some b) = reading b
