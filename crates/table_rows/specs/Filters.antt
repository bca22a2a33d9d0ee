-- What a bound condition says of a row of stored cells.
use Rattle.std.specs.Prelude.{ℕ, Bool, true, List, [], ◌∷◌, map, Option, Some, None, option_map, slice_index_or, if◌then◌else◌}
use Rattle.std.specs.declared.cmp.Ordering.{Ordering}
use Rattle.std.specs.declared.cmp.Ordering.TheVariants.{Equal}
use Rattle.std.specs.Ordering.{is_lt, then_cmp}
use Rattle.sql_tree.specs.declared.condition.Op.{Op}
use Rattle.sql_tree.specs.declared.condition.Op.TheVariants as op
use Rattle.table_machine.specs.declared.cell.Cell.{Cell}
use Rattle.table_machine.specs.declared.cell.Cell.TheVariants as cell
use Rattle.table_rows.specs.declared.filter.Term.{Term}
use Rattle.table_rows.specs.declared.filter.Term.TheVariants as term
use Rattle.table_rows.specs.declared.filter.Filter.{Filter}
use Rattle.table_rows.specs.declared.filter.Filter.TheOpen.{Filter-F}
use Rattle.table_rows.specs.declared.filter.Filter.TheFolds.{fold-Filter}
use Rattle.table_rows.specs.declared.sorting.SortKey.{SortKey}
use Rattle.table_machine.specs.Logic.{all_of, any_of, negated, is_true, holds}
use Rattle.table_machine.specs.Stored.{compare, order, is_null, prefix}

abbrev pub cell_at : List Cell → ℕ → Cell
cell_at row place = slice_index_or row place cell.Null

abbrev pub term_cell : List Cell → Term → Cell
term_cell row (term.Column place) = cell_at row place
term_cell row (term.Prefix place) = prefix (cell_at row place)
term_cell row (term.Value c) = c

abbrev pub compared : List Cell → Term → Op → Term → Option Bool
compared row a o b = option_map (holds o) (compare (term_cell row a) (term_cell row b))

abbrev pub within : List Cell → Term → List Term → Option Bool
within row a list = any_of (map (λ b. compared row a op.Eq b) list)

abbrev pub truth_step : List Cell → Filter-F (Option Bool) → Option Bool
truth_step row (Filter-F.All ts) = all_of ts
truth_step row (Filter-F.Any ts) = any_of ts
truth_step row (Filter-F.Not t) = negated t
truth_step row (Filter-F.Compare a o b) = compared row a o b
truth_step row (Filter-F.Within a list) = within row a list
truth_step row (Filter-F.Null place) = Some (is_null (cell_at row place))

abbrev pub truth : List Cell → Filter → Option Bool
truth row = fold-Filter (Option Bool) (truth_step row)

abbrev pub passes : Option Filter → List Cell → Bool
passes None row = true
passes (Some filter) row = is_true (truth row filter)

-- ---- the order of rows

abbrev pub by_key : SortKey → List Cell → List Cell → Ordering
by_key key r s = if key.descending then order (cell_at s key.place) (cell_at r key.place) else order (cell_at r key.place) (cell_at s key.place)

abbrev pub by_keys : List SortKey → List Cell → List Cell → Ordering
by_keys [] = λ r s. Equal
by_keys (k ∷ ks) = then_cmp (by_key k) (by_keys ks)

abbrev pub before : List SortKey → List Cell → List Cell → Bool
before keys r s = is_lt (by_keys keys r s)
