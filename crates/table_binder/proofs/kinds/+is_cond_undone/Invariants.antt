use Rattle.std.proofs.Common.{◌≡◌, drop}
use Rattle.std.specs.List.{list_any}
use Rattle.table_machine.specs.Faults.{is_undone_cond}
use Rattle.table_binder.proofs.kinds.+is_cond_undone.Given as goal

abbrev pub invariant-ands : goal.invariant-ands
invariant-ands l = list_any (is_undone_cond l.columns) (drop l.part-index l.part-items) ≡ list_any (is_undone_cond l.columns) l.part-items

abbrev pub invariant-ors : goal.invariant-ors
invariant-ors l = list_any (is_undone_cond l.columns) (drop l.part-index l.part-items) ≡ list_any (is_undone_cond l.columns) l.part-items
