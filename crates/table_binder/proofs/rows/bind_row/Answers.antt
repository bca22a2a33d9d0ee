use Rattle.std.proofs.Common.{◌∙◌, ap, sym, subst, length, min, ◌≤◌, List}
use Rattle.table_machine.specs.Faults.{first_unread, Place}
use Rattle.table_machine.specs.Stored.{stored}
use Rattle.table_binder.proofs.Bindings.{places_done, values_done}
use Rattle.table_binder.proofs.rows.bind_row.Goals as goal

pub returns : goal.returns
returns g c =
    let done : min (length c.args.names.now) (length c.args.values.now) ≤ c.values.index = subst (λ n. n ≤ c.values.index) c.min-count.ensures c.values-test.false in (
      sym c.values.invariant.read ∙ ap (λ (ps : List Place). first_unread (stored c.args.given.now) ps) (places_done g.T.Named.name c.args.columns.now c.args.names.now c.args.values.now c.values.index done),
      c.from_vec.ensures ∙ sym (values_done c.args.given.now c.args.columns.now g.T.Named.name c.args.names.now c.args.values.now c.values.index c.values.row.items done) ∙ c.values.invariant.made,
    )
