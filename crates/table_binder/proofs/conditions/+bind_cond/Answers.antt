use Rattle.std.proofs.Common.{◌≡◌, ◌∙◌, ap, sym, map, true, rules, ◌<◌}
use Rattle.sql_tree.specs.Shapes.{node_depth}
use Rattle.sql_tree.specs.WellFormed.{is_shaped}
use Rattle.std.proofs.lemmas.List.{take_all}
use Rattle.table_machine.specs.Faults.{first_unread, cond_places}
use Rattle.table_machine.specs.Stored.{stored}
use Rattle.table_binder.specs.Bound.{bound_cond}
use Rattle.table_binder.proofs.Errs.{handed_on}
use Rattle.table_binder.proofs.Firsts.{gives, goes, ends}
use Rattle.table_binder.proofs.Parts.{made_more, smaller_and, smaller_or, shaped_and, shaped_or, unread_and, unread_or, bound_and, bound_or}
use Rattle.table_binder.proofs.conditions.+bind_cond.Goals as goal

pub bind_cond-requires : goal.bind_cond-requires
bind_cond-requires t c =
    let shaped : is_shaped c.part-item.result ≡ true =
    shaped_and c.args.cond.now c.in-And.parts c.as_slice-part-items.result.now c.ands.part-index c.part-item.result c.as_slice-part-items.ensures c.ands-test.true c.part-item.is c.requires.shaped c.in-And.is in
    let smaller : node_depth c.part-item.result < node_depth c.args.cond.now =
    smaller_and c.args.cond.now c.in-And.parts c.as_slice-part-items.result.now c.ands.part-index c.part-item.result c.as_slice-part-items.ensures c.ands-test.true c.part-item.is c.requires.shaped c.in-And.is in
    search rules

pub returns-in_err-filter-in-And : goal.returns-in_err-filter-in-And
returns-in_err-filter-in-And t c =
    handed_on (first_unread (stored c.args.given.now) (cond_places c.args.columns.now c.part-item.result)) _ _ _
    (λ f h. sym (unread_and c.args.given.now c.args.columns.now c.args.cond.now c.in-And.parts c.as_slice-part-items.result.now c.as_slice-part-items.ensures c.in-And.is)
    ∙ gives (λ u. first_unread (stored c.args.given.now) (cond_places c.args.columns.now u)) c.as_slice-part-items.result.now c.ands.part-index c.part-item.result f c.ands-test.true c.part-item.is c.ands.invariant.read h)
    c.in_err-filter-in-And.field-0.0 c.from_residual.result c.from_residual.ensures.1 c.in_err-filter-in-And.ensures

pub ands-preserved : goal.ands-preserved
ands-preserved t c = record {
  read = goes (λ u. first_unread (stored c.args.given.now) (cond_places c.args.columns.now u)) c.as_slice-part-items.result.now c.ands.part-index c.part-item.result c.ands-test.true c.part-item.is c.ands.invariant.read c.in_ok-filter-in-And.ensures.0;
  made = made_more (bound_cond c.args.given.now c.args.columns.now) c.as_slice-part-items.result.now c.ands.part-index c.part-item.result c.ands-test.true c.part-item.is _ _ _ c.ands.invariant.made c.in_ok-filter-in-And.ensures.1 c.in_ok-push-in-And.ensures.items;
}

pub returns-after-ands : goal.returns-after-ands
returns-after-ands t c = (
  sym (ends (λ u. first_unread (stored c.args.given.now) (cond_places c.args.columns.now u)) c.as_slice-part-items.result.now c.ands.part-index c.ands-test.false c.ands.invariant.read ∙ unread_and c.args.given.now c.args.columns.now c.args.cond.now c.in-And.parts c.as_slice-part-items.result.now c.as_slice-part-items.ensures c.in-And.is),
  bound_and c.args.given.now c.args.columns.now c.args.cond.now c.in-And.parts c.as_slice-part-items.result.now c.as_slice-part-items.ensures _ (c.from_vec.ensures ∙ c.ands.invariant.made ∙ ap (map (bound_cond c.args.given.now c.args.columns.now)) (take_all c.ands.part-index c.as_slice-part-items.result.now c.ands-test.false)) c.in-And.is,
)

pub bind_cond-requires-in-ors : goal.bind_cond-requires-in-ors
bind_cond-requires-in-ors t c =
    let shaped : is_shaped c.part-item-in-ors.result ≡ true =
    shaped_or c.args.cond.now c.in-Or.parts c.as_slice-part-items-in-Or.result.now c.ors.part-index c.part-item-in-ors.result c.as_slice-part-items-in-Or.ensures c.ors-test.true c.part-item-in-ors.is c.requires.shaped c.in-Or.is in
    let smaller : node_depth c.part-item-in-ors.result < node_depth c.args.cond.now =
    smaller_or c.args.cond.now c.in-Or.parts c.as_slice-part-items-in-Or.result.now c.ors.part-index c.part-item-in-ors.result c.as_slice-part-items-in-Or.ensures c.ors-test.true c.part-item-in-ors.is c.requires.shaped c.in-Or.is in
    search rules

pub returns-in_err-filter-in-Or : goal.returns-in_err-filter-in-Or
returns-in_err-filter-in-Or t c =
    handed_on (first_unread (stored c.args.given.now) (cond_places c.args.columns.now c.part-item-in-ors.result)) _ _ _
    (λ f h. sym (unread_or c.args.given.now c.args.columns.now c.args.cond.now c.in-Or.parts c.as_slice-part-items-in-Or.result.now c.as_slice-part-items-in-Or.ensures c.in-Or.is)
    ∙ gives (λ u. first_unread (stored c.args.given.now) (cond_places c.args.columns.now u)) c.as_slice-part-items-in-Or.result.now c.ors.part-index c.part-item-in-ors.result f c.ors-test.true c.part-item-in-ors.is c.ors.invariant.read h)
    c.in_err-filter-in-Or.field-0.0 c.from_residual-in_err-filter-in-Or.result c.from_residual-in_err-filter-in-Or.ensures.1 c.in_err-filter-in-Or.ensures

pub ors-preserved : goal.ors-preserved
ors-preserved t c = record {
  read = goes (λ u. first_unread (stored c.args.given.now) (cond_places c.args.columns.now u)) c.as_slice-part-items-in-Or.result.now c.ors.part-index c.part-item-in-ors.result c.ors-test.true c.part-item-in-ors.is c.ors.invariant.read c.in_ok-filter-in-Or.ensures.0;
  made = made_more (bound_cond c.args.given.now c.args.columns.now) c.as_slice-part-items-in-Or.result.now c.ors.part-index c.part-item-in-ors.result c.ors-test.true c.part-item-in-ors.is _ _ _ c.ors.invariant.made c.in_ok-filter-in-Or.ensures.1 c.in_ok-push-in-Or.ensures.items;
}

pub returns-after-ors : goal.returns-after-ors
returns-after-ors t c = (
  sym (ends (λ u. first_unread (stored c.args.given.now) (cond_places c.args.columns.now u)) c.as_slice-part-items-in-Or.result.now c.ors.part-index c.ors-test.false c.ors.invariant.read ∙ unread_or c.args.given.now c.args.columns.now c.args.cond.now c.in-Or.parts c.as_slice-part-items-in-Or.result.now c.as_slice-part-items-in-Or.ensures c.in-Or.is),
  bound_or c.args.given.now c.args.columns.now c.args.cond.now c.in-Or.parts c.as_slice-part-items-in-Or.result.now c.as_slice-part-items-in-Or.ensures _ (c.from_vec-in-Or.ensures ∙ c.ors.invariant.made ∙ ap (map (bound_cond c.args.given.now c.args.columns.now)) (take_all c.ors.part-index c.as_slice-part-items-in-Or.result.now c.ors-test.false)) c.in-Or.is,
)
