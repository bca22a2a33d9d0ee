use Rattle.std.proofs.Common.{◌∙◌, ap, sym, map}
use Rattle.std.proofs.lemmas.List.{take_all}
use Rattle.table_machine.specs.Faults.{first_unread, place_fault, row_places}
use Rattle.table_machine.specs.Machine.{new_row}
use Rattle.table_machine.specs.Stored.{stored}
use Rattle.table_binder.proofs.Errs.{handed_on}
use Rattle.table_binder.proofs.Firsts.{gives, ends, first_of-flat_map}
use Rattle.table_binder.proofs.rows.bind_under.Goals as goal

pub returns-in_err-row : goal.returns-in_err-row
returns-in_err-row g c =
    let places = row_places c.args.columns.now (map g.T.Named.name c.args.names.now) in
    let cells = stored c.args.given.now in
    handed_on (first_unread cells (places c.as_slice.result.now)) _ _ _
    (λ f h. sym (first_of-flat_map (place_fault cells) places c.args.rows.now)
    ∙ gives (λ vs. first_unread cells (places vs)) c.args.rows.now c.rows.values-index c.values-item.result f c.rows-test.true c.values-item.is c.rows.invariant.read (sym (ap (λ vs. first_unread cells (places vs)) c.as_slice.ensures) ∙ h))
    c.in_err-row.field-0.0 c.from_residual.result c.from_residual.ensures.1 c.in_err-row.ensures

pub returns : goal.returns
returns g c =
    let places = row_places c.args.columns.now (map g.T.Named.name c.args.names.now) in
    let cells = stored c.args.given.now in (
      sym (ends (λ vs. first_unread cells (places vs)) c.args.rows.now c.rows.values-index c.rows-test.false c.rows.invariant.read
          ∙ first_of-flat_map (place_fault cells) places c.args.rows.now),
      c.rows.invariant.made ∙ ap (map (new_row cells c.args.columns.now (map g.T.Named.name c.args.names.now))) (take_all c.rows.values-index c.args.rows.now c.rows-test.false),
    )
