-- What a statement does to the rows of a table, over any kind of cells: the stored tables and the plaintext tables are two
-- instances.
use Rattle.std.specs.Prelude.{ℕ, Bool, true, not, List, [], ◌∷◌, ◌++◌, map, filter, length, take, drop, Option, Some, None, option_map, slice_index_or, slice_set, if◌then◌else◌}
use Rattle.std.specs.declared.cmp.Ordering.{Ordering}
use Rattle.std.specs.declared.cmp.Ordering.TheVariants.{Equal}
use Rattle.std.specs.Ordering.{is_lt, then_cmp}
use Rattle.acra_base.specs.declared.kind.ValueKind.{ValueKind}
use Rattle.acra_base.specs.declared.kind.ValueKind.TheVariants as kind
use Rattle.sql_tree.specs.declared.condition.Op.{Op}
use Rattle.sql_tree.specs.declared.condition.Op.TheVariants as op
use Rattle.sql_tree.specs.declared.condition.Operand.{Operand}
use Rattle.sql_tree.specs.declared.condition.Operand.TheVariants as operand
use Rattle.sql_tree.specs.declared.condition.Cond.{Cond}
use Rattle.sql_tree.specs.declared.condition.Cond.TheOpen.{Cond-F}
use Rattle.sql_tree.specs.declared.condition.Cond.TheFolds.{fold-Cond}
use Rattle.sql_tree.specs.declared.statement.Item.{Item}
use Rattle.sql_tree.specs.declared.statement.Items.{Items}
use Rattle.sql_tree.specs.declared.statement.Items.TheVariants as items
use Rattle.sql_tree.specs.declared.statement.OrderKey.{OrderKey}
use Rattle.sql_tree.specs.declared.statement.SetPair.{SetPair}
use Rattle.table_machine.specs.declared.table.ColumnDef.{ColumnDef}
use Rattle.table_machine.specs.Columns.{column_place, kind_of, listed}
use Rattle.table_machine.specs.Logic.{all_of, any_of, negated, is_true, holds}
use Rattle.table_machine.specs.Sort.{stable_sort}

-- what a value is read as: a cell, or no value of its column's kind, or a number outside the kind's range
pub data Read (C : Type 0) : Type 0 where
  value : C → Read C
  bad : Read C
  beyond : Read C

-- what the machine asks of a kind of cells
pub record Cells (C : Type 0) : Type 0 where
  pub null : C
  pub is_null : C → Bool
  -- None where one of the two is NULL
  pub compare : C → C → Option Ordering
  -- the order of ORDER BY, in which NULL is last
  pub order : C → C → Ordering
  -- the first 33 bytes
  pub prefix : C → C
  -- a value for a column of this kind
  pub read : ValueKind → Operand → Read C
  -- a number of rows
  pub count : ℕ → C

-- LIMIT and OFFSET
abbrev pub behind : {X : Type 0} → Option ℕ → List X → List X
behind None xs = xs
behind (Some n) xs = drop n xs

abbrev pub up_to : {X : Type 0} → Option ℕ → List X → List X
up_to None xs = xs
up_to (Some n) xs = take n xs

abbrev pub window : {X : Type 0} → Option ℕ → Option ℕ → List X → List X
window limit offset xs = up_to limit (behind offset xs)

module _ {C : Type 0} (cells : Cells C) where
  -- the cell of a value, where it has one
  abbrev pub cell_read : Read C → C
  cell_read (value c) = c
  cell_read bad = cells.null
  cell_read beyond = cells.null

module _ {C : Type 0} (cells : Cells C) (columns : List ColumnDef) where
  -- the cell of a column
  abbrev pub cell_of : List C → List ℕ → C
  cell_of row name = slice_index_or row (column_place columns name) cells.null

  -- ---- conditions

  -- the kind for which a value is read that stands beside this operand
  abbrev pub kind_beside : Operand → ValueKind
  kind_beside (operand.Column name) = kind_of columns name
  kind_beside (operand.Prefix33 name) = kind.Bytes
  kind_beside _ = kind.Bytes

  -- the cell of an operand, whose kind is this one where it is a value
  abbrev pub operand_cell : List C → ValueKind → Operand → C
  operand_cell row k (operand.Column name) = cell_of row name
  operand_cell row k (operand.Prefix33 name) = cells.prefix (cell_of row name)
  operand_cell row k (operand.Text text) = cell_read cells (cells.read k (operand.Text text))
  operand_cell row k (operand.Number n) = cell_read cells (cells.read k (operand.Number n))
  operand_cell row k operand.NullValue = cell_read cells (cells.read k operand.NullValue)
  operand_cell row k (operand.Parameter n) = cell_read cells (cells.read k (operand.Parameter n))

  abbrev pub compared : List C → Operand → Op → Operand → Option Bool
  compared row a o b = option_map (holds o) (cells.compare (operand_cell row (kind_beside b) a) (operand_cell row (kind_beside a) b))

  abbrev pub truth_step : List C → Cond-F (Option Bool) → Option Bool
  truth_step row (Cond-F.And ts) = all_of ts
  truth_step row (Cond-F.Or ts) = any_of ts
  truth_step row (Cond-F.Not t) = negated t
  truth_step row (Cond-F.Compare a o b) = compared row a o b
  truth_step row (Cond-F.Within a list) = any_of (map (λ b. compared row a op.Eq b) list)
  truth_step row (Cond-F.Null name) = Some (cells.is_null (cell_of row name))

  -- what a condition says of a row
  abbrev pub truth : List C → Cond → Option Bool
  truth row = fold-Cond (Option Bool) (truth_step row)

  abbrev pub passes : Option Cond → List C → Bool
  passes None row = true
  passes (Some cond) row = is_true (truth row cond)

  abbrev pub kept : Option Cond → List (List C) → List (List C)
  kept cond rows = filter (passes cond) rows

  -- ---- SELECT

  abbrev pub by_key : OrderKey → List C → List C → Ordering
  by_key key r s = if key.descending then cells.order (cell_of s key.column) (cell_of r key.column) else cells.order (cell_of r key.column) (cell_of s key.column)

  abbrev pub by_keys : List OrderKey → List C → List C → Ordering
  by_keys [] = λ r s. Equal
  by_keys (k ∷ ks) = then_cmp (by_key k) (by_keys ks)

  abbrev pub before : List OrderKey → List C → List C → Bool
  before keys r s = is_lt (by_keys keys r s)

  -- the rows that a condition keeps, in the order of the keys
  abbrev pub found : Option Cond → List OrderKey → List (List C) → List (List C)
  found cond order rows = stable_sort (before order) (kept cond rows)

  abbrev pub item_cells : List Item → List C → List C
  item_cells all row = map (λ (i : Item). cell_of row i.column) all

  -- a count is one row, which has no order
  abbrev pub select : Items → Option Cond → List OrderKey → Option ℕ → Option ℕ → List (List C) → List (List C)
  select items.All cond order limit offset rows = window limit offset (found cond order rows)
  select (items.Count label) cond order limit offset rows = window limit offset ((cells.count (length (kept cond rows)) ∷ []) ∷ [])
  select (items.Columns all) cond order limit offset rows = map (item_cells all) (window limit offset (found cond order rows))

  -- ---- INSERT

  -- the cell of a column, set to a value
  abbrev pub set_cell : List ℕ → Operand → List C → List C
  set_cell name v row = slice_set row (column_place columns name) (cell_read cells (cells.read (kind_of columns name) v))

  abbrev pub set_named : List (List ℕ) → List Operand → List C → List C
  set_named [] values row = row
  set_named (name ∷ names) [] row = row
  set_named (name ∷ names) (v ∷ values) row = set_named names values (set_cell name v row)

  abbrev pub null_row : List C
  null_row = map (λ (c : ColumnDef). cells.null) columns

  -- columns that aren't named are NULL
  abbrev pub new_row : List (List ℕ) → List Operand → List C
  new_row names values = set_named names values null_row

  abbrev pub insert : Option (List (List ℕ)) → List (List Operand) → List (List C) → List (List C)
  insert names new rows = rows ++ map (new_row (listed columns names)) new

  -- ---- UPDATE and DELETE

  abbrev pub set_all : List SetPair → List C → List C
  set_all [] row = row
  set_all (p ∷ ps) row = set_all ps (set_cell p.column p.value row)

  -- each row is judged, and its values read, before anything is set
  abbrev pub update : List SetPair → Option Cond → List (List C) → List (List C)
  update sets cond rows = map (λ row. if passes cond row then set_all sets row else row) rows

  abbrev pub delete : Option Cond → List (List C) → List (List C)
  delete cond rows = filter (λ row. not (passes cond row)) rows
