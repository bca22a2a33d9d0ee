-- What a bound condition is, by its parts.
use Rattle.std.proofs.Common.{◌≡◌, Bool, List, map, ap, ◌∙◌, sym, Option}
use Rattle.table_machine.specs.declared.cell.Cell.{Cell}
use Rattle.table_rows.specs.declared.filter.Filter.{Filter}
use Rattle.table_rows.specs.declared.filter.Filter.TheVariants as f
use Rattle.table_rows.specs.declared.filter.Filter.TheOpen.{Filter-F}
use Rattle.table_rows.specs.declared.filter.Filter.TheFolds.{fold-roll-Filter}
use Rattle.table_machine.specs.Logic.{all_of, any_of}
use Rattle.table_rows.specs.Filters.{truth, truth_step}

module _ (row : List Cell) where
  pub truth-All : (fs : List Filter) → truth row (f.All fs) ≡ all_of (map (truth row) fs)
  truth-All fs = ap (truth row) (sym (f.rolls-All fs)) ∙ fold-roll-Filter (Option Bool) (truth_step row) (Filter-F.All fs)

  pub truth-Any : (fs : List Filter) → truth row (f.Any fs) ≡ any_of (map (truth row) fs)
  truth-Any fs = ap (truth row) (sym (f.rolls-Any fs)) ∙ fold-roll-Filter (Option Bool) (truth_step row) (Filter-F.Any fs)
