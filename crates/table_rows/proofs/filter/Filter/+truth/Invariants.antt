use Rattle.std.proofs.Common.{◌≡◌, take, map}
use Rattle.table_machine.specs.Logic.{all_of, any_of}
use Rattle.table_rows.specs.Filters.{truth}
use Rattle.table_rows.proofs.filter.Filter.+truth.Given as goal

abbrev pub invariant-alls : goal.invariant-alls
invariant-alls l = l.all ≡ all_of (map (truth l.row) (take l.part-index l.part-items))

abbrev pub invariant-anys : goal.invariant-anys
invariant-anys l = l.any ≡ any_of (map (truth l.row) (take l.part-index l.part-items))
