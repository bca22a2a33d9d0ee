use Rattle.std.proofs.Common.{◌∙◌, ap, sym}
use Rattle.std.proofs.lemmas.List.{map-id}
use Rattle.table_machine.specs.Columns.{listed}
use Rattle.table_binder.proofs.Bindings.{under_listed}
use Rattle.table_binder.proofs.rows.bind_rows.Goals as goal

pub returns-in-None : goal.returns-in-None
returns-in-None c =
    under_listed (λ new. new.items) c.args.columns.now c.args.given.now c.args.names.now _ c.args.rows.now c.bind_under.result (ap (listed c.args.columns.now) c.in-None.is) c.bind_under.ensures

pub returns-in-Some : goal.returns-in-Some
returns-in-Some c =
    under_listed (λ new. new.items) c.args.columns.now c.args.given.now c.args.names.now _ c.args.rows.now c.bind_under-in-Some.result
    (ap (listed c.args.columns.now) c.in-Some.is ∙ sym c.as_slice.ensures ∙ sym (map-id c.as_slice.result.now)) c.bind_under-in-Some.ensures
