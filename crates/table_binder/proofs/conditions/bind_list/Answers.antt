use Rattle.std.proofs.Common.{◌∙◌, ap, sym, map}
use Rattle.std.proofs.lemmas.List.{take_all}
use Rattle.table_machine.specs.Faults.{first_unread, place_fault, operand_places}
use Rattle.table_machine.specs.Stored.{stored}
use Rattle.table_binder.specs.Bound.{bound_term}
use Rattle.table_binder.proofs.Errs.{handed_on}
use Rattle.table_binder.proofs.Firsts.{gives, ends, first_of-flat_map}
use Rattle.table_binder.proofs.conditions.bind_list.Goals as goal

pub returns-in_err-term : goal.returns-in_err-term
returns-in_err-term c =
    let places = operand_places c.args.columns.now c.args.left.now in
    let cells = stored c.args.given.now in
    handed_on (first_unread cells (places c.value-item.result)) _ _ _
    (λ f h. sym (first_of-flat_map (place_fault cells) places c.args.list.now)
    ∙ gives (λ v. first_unread cells (places v)) c.args.list.now c.values.value-index c.value-item.result f c.values-test.true c.value-item.is c.values.invariant.read h)
    c.in_err-term.field-0.0 c.from_residual.result c.from_residual.ensures.1 c.in_err-term.ensures

pub returns : goal.returns
returns c =
    let places = operand_places c.args.columns.now c.args.left.now in
    let cells = stored c.args.given.now in (
      sym (ends (λ v. first_unread cells (places v)) c.args.list.now c.values.value-index c.values-test.false c.values.invariant.read
          ∙ first_of-flat_map (place_fault cells) places c.args.list.now),
      c.from_vec.ensures ∙ c.values.invariant.made ∙ ap (map (bound_term c.args.given.now c.args.columns.now c.args.left.now)) (take_all c.values.value-index c.args.list.now c.values-test.false),
    )
