use Rattle.std.proofs.Common.{◌≡◌, map, take, drop}
use Rattle.sql_tree.specs.Shapes.{node_depth}
use Rattle.table_machine.specs.Faults.{first_of, first_unread, cond_places}
use Rattle.table_machine.specs.Stored.{stored}
use Rattle.table_binder.specs.Bound.{bound_cond}
use Rattle.table_binder.proofs.conditions.+bind_cond.Given as goal

abbrev pub decreases-bind_cond : goal.decreases-bind_cond
decreases-bind_cond l = node_depth l.cond.now

abbrev pub invariant-ands : goal.invariant-ands
invariant-ands l = record {
  read : first_of (λ u. first_unread (stored l.given) (cond_places l.columns u)) (drop l.part-index l.part-items) ≡ first_of (λ u. first_unread (stored l.given) (cond_places l.columns u)) l.part-items;
  made : l.filters.items ≡ map (bound_cond l.given l.columns) (take l.part-index l.part-items);
}

abbrev pub invariant-ors : goal.invariant-ors
invariant-ors l = record {
  read : first_of (λ u. first_unread (stored l.given) (cond_places l.columns u)) (drop l.part-index l.part-items) ≡ first_of (λ u. first_unread (stored l.given) (cond_places l.columns u)) l.part-items;
  made : l.filters.items ≡ map (bound_cond l.given l.columns) (take l.part-index l.part-items);
}
