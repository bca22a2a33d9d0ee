-- A number of 64 bits for each statement: those of different statements are seldom equal. Tags and parts are mixed in one by one,
-- as FNV-1a does with bytes.
use Rattle.std.specs.Prelude.{ℕ, ◌*◌, ◌%◌, ◌^◌, Bool, true, false, List, [], ◌∷◌, length, Option, Some, None, bit_xor, unsigned_abs}
use Rattle.sql_tree.specs.declared.condition.Operand.{Operand}
use Rattle.sql_tree.specs.declared.condition.Operand.TheVariants as operand
use Rattle.sql_tree.specs.declared.condition.Cond.{Cond}
use Rattle.sql_tree.specs.declared.condition.Cond.TheOpen.{Cond-F}
use Rattle.sql_tree.specs.declared.condition.Cond.TheFolds.{fold-Cond}
use Rattle.sql_tree.specs.declared.statement.Item.{Item}
use Rattle.sql_tree.specs.declared.statement.Items.{Items}
use Rattle.sql_tree.specs.declared.statement.Items.TheVariants as items
use Rattle.sql_tree.specs.declared.statement.OrderKey.{OrderKey}
use Rattle.sql_tree.specs.declared.statement.SetPair.{SetPair}
use Rattle.sql_tree.specs.declared.statement.Statement.{Statement}
use Rattle.sql_tree.specs.declared.statement.Statement.TheVariants as statement
use Rattle.sql_patterns.specs.Matching.{op_number}

-- a number mixed into what was mixed before
abbrev pub mix : ℕ → ℕ → ℕ
mix n hash = bit_xor hash n * 1099511628211 % 2 ^ 64

abbrev pub mix_each : {A : Type 0} → (A → ℕ → ℕ) → List A → ℕ → ℕ
mix_each into [] hash = hash
mix_each into (x ∷ xs) hash = mix_each into xs (into x hash)

-- how many there are, and each
abbrev pub mix_all : {A : Type 0} → (A → ℕ → ℕ) → List A → ℕ → ℕ
mix_all into xs hash = mix_each into xs (mix (length xs) hash)

abbrev pub mix_option : {A : Type 0} → (A → ℕ → ℕ) → Option A → ℕ → ℕ
mix_option into None hash = mix 0 hash
mix_option into (Some x) hash = into x (mix 1 hash)

abbrev pub mix_bytes : List ℕ → ℕ → ℕ
mix_bytes bytes hash = mix_all mix bytes hash

abbrev pub mix_operand : Operand → ℕ → ℕ
mix_operand (operand.Column c) hash = mix_bytes c (mix 1 hash)
mix_operand (operand.Prefix33 c) hash = mix_bytes c (mix 2 hash)
mix_operand (operand.Text s) hash = mix_bytes s (mix 3 hash)
mix_operand (operand.Number n) hash = mix (unsigned_abs n % 2 ^ 64) (mix 4 hash)
mix_operand operand.NullValue hash = mix 5 hash
mix_operand (operand.Parameter n) hash = mix n (mix 6 hash)

-- the conditions' own, one behind the other
abbrev pub run_each : List (ℕ → ℕ) → ℕ → ℕ
run_each [] hash = hash
run_each (f ∷ fs) hash = run_each fs (f hash)

abbrev pub mix_step : Cond-F (ℕ → ℕ) → ℕ → ℕ
mix_step (Cond-F.And parts) hash = run_each parts (mix (length parts) (mix 1 hash))
mix_step (Cond-F.Or parts) hash = run_each parts (mix (length parts) (mix 2 hash))
mix_step (Cond-F.Not part) hash = part (mix 3 hash)
mix_step (Cond-F.Compare left op right) hash = mix_operand right (mix (op_number op) (mix_operand left (mix 4 hash)))
mix_step (Cond-F.Within left list) hash = mix_all mix_operand list (mix_operand left (mix 5 hash))
mix_step (Cond-F.Null column) hash = mix_bytes column (mix 6 hash)

abbrev pub mix_cond : Cond → ℕ → ℕ
mix_cond = fold-Cond (ℕ → ℕ) mix_step

abbrev pub mix_item : Item → ℕ → ℕ
mix_item i hash = mix_option mix_bytes i.label (mix_bytes i.column hash)

abbrev pub mix_items : Items → ℕ → ℕ
mix_items items.All hash = mix 1 hash
mix_items (items.Count label) hash = mix_option mix_bytes label (mix 2 hash)
mix_items (items.Columns columns) hash = mix_all mix_item columns (mix 3 hash)

abbrev pub flag_number : Bool → ℕ
flag_number false = 0
flag_number true = 1

abbrev pub mix_key : OrderKey → ℕ → ℕ
mix_key k hash = mix (flag_number k.descending) (mix_bytes k.column hash)

abbrev pub mix_pair : SetPair → ℕ → ℕ
mix_pair p hash = mix_operand p.value (mix_bytes p.column hash)

abbrev pub mix_row : List Operand → ℕ → ℕ
mix_row row hash = mix_all mix_operand row hash

abbrev pub mix_names : List (List ℕ) → ℕ → ℕ
mix_names names hash = mix_all mix_bytes names hash

abbrev pub mix_statement : Statement → ℕ → ℕ
mix_statement statement.Empty hash = mix 0 hash
mix_statement (statement.Set name value) hash = mix_operand value (mix_bytes name (mix 1 hash))
mix_statement (statement.Select table columns cond order limit offset) hash =
    mix_option mix offset (mix_option mix limit (mix_all mix_key order (mix_option mix_cond cond (mix_items columns (mix_bytes table (mix 2 hash))))))
mix_statement (statement.Insert table columns rows) hash = mix_all mix_row rows (mix_option mix_names columns (mix_bytes table (mix 3 hash)))
mix_statement (statement.Update table sets cond) hash = mix_option mix_cond cond (mix_all mix_pair sets (mix_bytes table (mix 4 hash)))
mix_statement (statement.Delete table cond) hash = mix_option mix_cond cond (mix_bytes table (mix 5 hash))

abbrev pub fingerprint : Statement → ℕ
fingerprint s = mix_statement s 14695981039346656037
