use Rattle.std.proofs.Common.{◌∙◌, ap, sym, map}
use Rattle.std.proofs.lemmas.List.{take_all}
use Rattle.sql_tree.specs.declared.statement.SetPair.{SetPair}
use Rattle.table_machine.specs.Faults.{place_fault, place_at}
use Rattle.table_machine.specs.Stored.{stored}
use Rattle.table_binder.specs.Sets.{bound_set}
use Rattle.table_binder.proofs.Errs.{handed_on}
use Rattle.table_binder.proofs.Firsts.{gives, ends, first_of-map}
use Rattle.table_binder.proofs.sets.bind_pairs.Goals as goal

pub returns-in_err-cell : goal.returns-in_err-cell
returns-in_err-cell c =
    let at = λ (p : SetPair). place_at c.args.columns.now p.column p.value in
    let cells = stored c.args.given.now in
    handed_on (place_fault cells (at c.pair-item.result)) _ _ _
    (λ f h. sym (first_of-map (place_fault cells) at c.args.sets.now)
    ∙ gives (λ p. place_fault cells (at p)) c.args.sets.now c.pairs.pair-index c.pair-item.result f c.pairs-test.true c.pair-item.is c.pairs.invariant.read h)
    c.in_err-cell.field-0.0 c.from_residual.result c.from_residual.ensures.1 c.in_err-cell.ensures

pub returns : goal.returns
returns c =
    let at = λ (p : SetPair). place_at c.args.columns.now p.column p.value in
    let cells = stored c.args.given.now in (
      sym (ends (λ p. place_fault cells (at p)) c.args.sets.now c.pairs.pair-index c.pairs-test.false c.pairs.invariant.read
          ∙ first_of-map (place_fault cells) at c.args.sets.now),
      c.pairs.invariant.made ∙ ap (map (bound_set c.args.given.now c.args.columns.now)) (take_all c.pairs.pair-index c.args.sets.now c.pairs-test.false),
    )
