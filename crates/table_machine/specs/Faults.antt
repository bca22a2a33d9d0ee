-- Why a statement is not executed: the lines of the table of faults, in their order, and within a line in text order.
use Rattle.std.specs.Prelude.{ℕ, Bool, true, false, not, ◌||◌, ◌==◌, nat_lt, if◌then◌else◌, List, [], ◌∷◌, ◌++◌, map, length, codes, Option, Some, None, option_map, slice_index_or}
use Rattle.std.specs.List.{list_any, flat_map}
use Rattle.std.specs.declared.cmp.Ordering.{Ordering}
use Rattle.std.specs.Ordering.{is_eq}
use Rattle.acra_base.specs.declared.kind.ValueKind.{ValueKind}
use Rattle.acra_base.specs.declared.kind.ValueKind.TheVariants as kind
use Rattle.sql_tree.specs.declared.condition.Operand.{Operand}
use Rattle.sql_tree.specs.declared.condition.Operand.TheVariants as operand
use Rattle.sql_tree.specs.declared.condition.Cond.{Cond}
use Rattle.sql_tree.specs.declared.condition.Cond.TheOpen.{Cond-F}
use Rattle.sql_tree.specs.declared.condition.Cond.TheFolds.{fold-Cond}
use Rattle.sql_tree.specs.declared.statement.Item.{Item}
use Rattle.sql_tree.specs.declared.statement.Items.{Items}
use Rattle.sql_tree.specs.declared.statement.Items.TheVariants as items
use Rattle.sql_tree.specs.declared.statement.OrderKey.{OrderKey}
use Rattle.sql_tree.specs.declared.statement.SetPair.{SetPair}
use Rattle.sql_tree.specs.declared.statement.Statement.{Statement}
use Rattle.sql_tree.specs.declared.statement.Statement.TheVariants as statement
use Rattle.table_machine.specs.declared.table.ColumnDef.{ColumnDef}
use Rattle.table_machine.specs.declared.table.LabFault.{LabFault}
use Rattle.table_machine.specs.declared.table.BrokenKey.{BrokenKey}
use Rattle.table_machine.specs.declared.table.BrokenKey.TheVariants as broken
use Rattle.table_machine.specs.Columns.{same, has_column, kind_of, listed}
use Rattle.table_machine.specs.Carry.{concat}
use Rattle.table_machine.specs.Machine.{Cells, Read, value, bad, beyond}

-- ---- the faults

abbrev pub fault_of : List ℕ → List ℕ → LabFault
fault_of code text = record { code = code; text = text }

-- undefined_table, syntax_error, undefined_column, duplicate_column, feature_not_supported
abbrev pub no_table : List ℕ → LabFault
no_table name = fault_of (codes "42P01") (codes "lab: no table \"" ++ (name ++ codes "\""))

abbrev pub wrong_count : LabFault
wrong_count = fault_of (codes "42601") (codes "lab: wrong count of values")

abbrev pub no_column : List ℕ → LabFault
no_column name = fault_of (codes "42703") (codes "lab: no column \"" ++ (name ++ codes "\""))

abbrev pub column_twice : List ℕ → LabFault
column_twice name = fault_of (codes "42701") (codes "lab: column \"" ++ (name ++ codes "\" twice"))

abbrev pub not_done : LabFault
not_done = fault_of (codes "0A000") (codes "lab: not done")

-- invalid_text_representation, numeric_value_out_of_range
abbrev pub bad_value : List ℕ → LabFault
bad_value name = fault_of (codes "22P02") (codes "lab: bad value for column \"" ++ (name ++ codes "\""))

abbrev pub beyond_range : List ℕ → LabFault
beyond_range name = fault_of (codes "22003") (codes "lab: value out of range for column \"" ++ (name ++ codes "\""))

-- not_null_violation, unique_violation
abbrev pub null_in : List ℕ → LabFault
null_in name = fault_of (codes "23502") (codes "lab: null in column \"" ++ (name ++ codes "\""))

abbrev pub key_twice : List ℕ → LabFault
key_twice name = fault_of (codes "23505") (codes "lab: key \"" ++ (name ++ codes "\" twice"))

abbrev pub broken_fault : List ℕ → BrokenKey → LabFault
broken_fault name broken.Null = null_in name
broken_fault name broken.Twice = key_twice name

abbrev pub are_equal : Option Ordering → Bool
are_equal (Some o) = is_eq o
are_equal None = false

-- ---- what stands in a statement, in text order

-- the names of columns
abbrev pub operand_names : Operand → List (List ℕ)
operand_names (operand.Column name) = name ∷ []
operand_names (operand.Prefix33 name) = name ∷ []
operand_names _ = []

abbrev pub cond_names_step : Cond-F (List (List ℕ)) → List (List ℕ)
cond_names_step (Cond-F.And us) = concat us
cond_names_step (Cond-F.Or us) = concat us
cond_names_step (Cond-F.Not us) = us
cond_names_step (Cond-F.Compare a o b) = operand_names a ++ operand_names b
cond_names_step (Cond-F.Within a list) = operand_names a ++ flat_map operand_names list
cond_names_step (Cond-F.Null name) = name ∷ []

abbrev pub cond_names : Cond → List (List ℕ)
cond_names = fold-Cond (List (List ℕ)) cond_names_step

abbrev pub where_names : Option Cond → List (List ℕ)
where_names None = []
where_names (Some cond) = cond_names cond

abbrev pub item_names : Items → List (List ℕ)
item_names items.All = []
item_names (items.Count label) = []
item_names (items.Columns all) = map (λ (i : Item). i.column) all

abbrev pub list_names : Option (List (List ℕ)) → List (List ℕ)
list_names None = []
list_names (Some names) = names

abbrev pub set_names : List SetPair → List (List ℕ)
set_names sets = map (λ (p : SetPair). p.column) sets

abbrev pub names_in : Statement → List (List ℕ)
names_in (statement.Select table all cond order limit offset) = item_names all ++ (where_names cond ++ map (λ (k : OrderKey). k.column) order)
names_in (statement.Insert table names rows) = list_names names
names_in (statement.Update table sets cond) = set_names sets ++ where_names cond
names_in (statement.Delete table cond) = where_names cond
names_in (statement.Set name v) = []
names_in statement.Empty = []

-- the columns that are written
abbrev pub names_written : Statement → List (List ℕ)
names_written (statement.Insert table names rows) = list_names names
names_written (statement.Update table sets cond) = set_names sets
names_written _ = []

-- ---- lines that concern one statement alone

abbrev pub first : {A : Type 0} → (A → Bool) → List A → Option A
first p [] = None
first p (a ∷ more) = if p a then Some a else first p more

-- the first that stands before too, behind those that came earlier
abbrev pub first_again : List (List ℕ) → List (List ℕ) → Option (List ℕ)
first_again earlier [] = None
first_again earlier (name ∷ more) = if list_any (same name) earlier then Some name else first_again (name ∷ earlier) more

abbrev pub or_else : {A : Type 0} → Option A → Option A → Option A
or_else None other = other
or_else (Some a) other = Some a

-- the first of a list that gives one
abbrev pub first_of : {A B : Type 0} → (A → Option B) → List A → Option B
first_of give [] = None
first_of give (a ∷ more) = or_else (give a) (first_of give more)

-- ---- kinds

-- two kinds compare where both are integers or they are equal
abbrev pub do_compare : ValueKind → ValueKind → Bool
do_compare kind.Str kind.Str = true
do_compare kind.Bytes kind.Bytes = true
do_compare kind.Int32 kind.Int32 = true
do_compare kind.Int32 kind.Int64 = true
do_compare kind.Int64 kind.Int32 = true
do_compare kind.Int64 kind.Int64 = true
do_compare _ _ = false

abbrev pub is_bytes : ValueKind → Bool
is_bytes kind.Bytes = true
is_bytes _ = false

-- a value and the column for which it is read
pub record Place : Type 0 where
  pub column : List ℕ
  pub kind : ValueKind
  pub value : Operand

module _ (columns : List ColumnDef) where
  -- a row has as many values as the list has names; without a list at most one for each column
  abbrev pub is_count : Option (List (List ℕ)) → List Operand → Bool
  is_count None row = not (nat_lt (length columns) (length row))
  is_count (Some names) row = length row == length names

  abbrev pub has_wrong_count : Statement → Bool
  has_wrong_count (statement.Insert table names rows) = list_any (λ row. not (is_count names row)) rows
  has_wrong_count _ = false

  abbrev pub count_fault : Statement → Option LabFault
  count_fault tree = if has_wrong_count tree then Some wrong_count else None

  abbrev pub unknown_fault : Statement → Option LabFault
  unknown_fault tree = option_map no_column (first (λ name. not (has_column columns name)) (names_in tree))

  abbrev pub twice_fault : Statement → Option LabFault
  twice_fault tree = option_map column_twice (first_again [] (names_written tree))

  -- ---- what is not done

  -- substr of a column that has no bytes
  abbrev pub has_bad_prefix : Operand → Bool
  has_bad_prefix (operand.Prefix33 name) = not (is_bytes (kind_of columns name))
  has_bad_prefix _ = false

  -- what an operand is compared as, where it is no value
  abbrev pub kind_in : Operand → Option ValueKind
  kind_in (operand.Column name) = Some (kind_of columns name)
  kind_in (operand.Prefix33 name) = Some kind.Bytes
  kind_in _ = None

  abbrev pub do_clash : Option ValueKind → Option ValueKind → Bool
  do_clash (Some a) (Some b) = not (do_compare a b)
  do_clash a b = false

  abbrev pub undone_step : Cond-F Bool → Bool
  undone_step (Cond-F.And us) = list_any (λ b. b) us
  undone_step (Cond-F.Or us) = list_any (λ b. b) us
  undone_step (Cond-F.Not u) = u
  undone_step (Cond-F.Compare a o b) = has_bad_prefix a || (has_bad_prefix b || do_clash (kind_in a) (kind_in b))
  undone_step (Cond-F.Within a list) = has_bad_prefix a
  undone_step (Cond-F.Null name) = false

  abbrev pub is_undone_cond : Cond → Bool
  is_undone_cond = fold-Cond Bool undone_step

  abbrev pub is_undone_where : Option Cond → Bool
  is_undone_where None = false
  is_undone_where (Some cond) = is_undone_cond cond

  -- a result has at most 65,535 columns
  abbrev pub has_too_many : Items → Bool
  has_too_many items.All = false
  has_too_many (items.Count label) = false
  has_too_many (items.Columns all) = nat_lt 65535 (length all)

  abbrev pub is_undone : Statement → Bool
  is_undone (statement.Select table all cond order limit offset) = has_too_many all || is_undone_where cond
  is_undone (statement.Update table sets cond) = is_undone_where cond
  is_undone (statement.Delete table cond) = is_undone_where cond
  is_undone _ = false

  abbrev pub undone_fault : Statement → Option LabFault
  undone_fault tree = if is_undone tree then Some not_done else None

  -- ---- values

  abbrev pub place_at : List ℕ → Operand → Place
  place_at name v = record { column = name; kind = kind_of columns name; value = v }

  -- a value beside a column, or beside its first bytes
  abbrev pub places_beside : Operand → Operand → List Place
  places_beside (operand.Column name) v = place_at name v ∷ []
  places_beside (operand.Prefix33 name) v = record { column = name; kind = kind.Bytes; value = v } ∷ []
  places_beside _ v = []

  -- the places of an operand beside another one
  abbrev pub operand_places : Operand → Operand → List Place
  operand_places beside (operand.Column name) = []
  operand_places beside (operand.Prefix33 name) = []
  operand_places beside (operand.Text text) = places_beside beside (operand.Text text)
  operand_places beside (operand.Number n) = places_beside beside (operand.Number n)
  operand_places beside operand.NullValue = places_beside beside operand.NullValue
  operand_places beside (operand.Parameter n) = places_beside beside (operand.Parameter n)

  abbrev pub cond_places_step : Cond-F (List Place) → List Place
  cond_places_step (Cond-F.And us) = concat us
  cond_places_step (Cond-F.Or us) = concat us
  cond_places_step (Cond-F.Not us) = us
  cond_places_step (Cond-F.Compare a o b) = operand_places b a ++ operand_places a b
  cond_places_step (Cond-F.Within a list) = flat_map (operand_places a) list
  cond_places_step (Cond-F.Null name) = []

  abbrev pub cond_places : Cond → List Place
  cond_places = fold-Cond (List Place) cond_places_step

  abbrev pub where_places : Option Cond → List Place
  where_places None = []
  where_places (Some cond) = cond_places cond

  abbrev pub row_places : List (List ℕ) → List Operand → List Place
  row_places [] values = []
  row_places (name ∷ names) [] = []
  row_places (name ∷ names) (v ∷ values) = place_at name v ∷ row_places names values

  abbrev pub set_places : List SetPair → List Place
  set_places sets = map (λ (p : SetPair). place_at p.column p.value) sets

  abbrev pub insert_places : Option (List (List ℕ)) → List (List Operand) → List Place
  insert_places names rows = flat_map (row_places (listed columns names)) rows

  abbrev pub places_in : Statement → List Place
  places_in (statement.Select table all cond order limit offset) = where_places cond
  places_in (statement.Insert table names rows) = insert_places names rows
  places_in (statement.Update table sets cond) = set_places sets ++ where_places cond
  places_in (statement.Delete table cond) = where_places cond
  places_in _ = []

  -- ---- the lines before values are read

  abbrev pub shape_fault : Statement → Option LabFault
  shape_fault tree = or_else (count_fault tree) (or_else (unknown_fault tree) (or_else (twice_fault tree) (undone_fault tree)))

module _ {C : Type 0} (cells : Cells C) where
  abbrev pub read_fault : List ℕ → Read C → Option LabFault
  read_fault name (value c) = None
  read_fault name bad = Some (bad_value name)
  read_fault name beyond = Some (beyond_range name)

  abbrev pub place_fault : Place → Option LabFault
  place_fault p = read_fault p.column (cells.read p.kind p.value)

  -- the first value that isn't read
  abbrev pub first_unread : List Place → Option LabFault
  first_unread places = first_of place_fault places

module _ {C : Type 0} (cells : Cells C) (columns : List ColumnDef) where
  abbrev pub value_fault : Statement → Option LabFault
  value_fault tree = first_unread cells (places_in columns tree)

  -- ---- all lines before the statement is executed

  abbrev pub fault : Statement → Option LabFault
  fault tree = or_else (shape_fault columns tree) (value_fault tree)

module _ {C : Type 0} (cells : Cells C) where
  -- ---- the key, after the whole change

  -- row by row: a key that is NULL, or equal to an earlier one
  abbrev pub broken_behind : List C → List C → Option BrokenKey
  broken_behind earlier [] = None
  broken_behind earlier (key ∷ keys) =
      if cells.is_null key then Some broken.Null
      else if list_any (λ c. are_equal (cells.compare key c)) earlier then Some broken.Twice
      else broken_behind (earlier ++ key ∷ []) keys

  abbrev pub keys_at : ℕ → List (List C) → List C
  keys_at k rows = map (λ row. slice_index_or row k cells.null) rows

module _ {C : Type 0} (cells : Cells C) (columns : List ColumnDef) where
  abbrev pub key_name : ℕ → List ℕ
  key_name k = slice_index_or (map (λ (c : ColumnDef). c.name) columns) k []

  abbrev pub key_fault : Option ℕ → List (List C) → Option LabFault
  key_fault None rows = None
  key_fault (Some k) rows = option_map (broken_fault (key_name k)) (broken_behind cells [] (keys_at cells k rows))
