use Rattle.std.proofs.Common.{◌≡◌, ◌∙◌, ap, sym, List, ℕ, Bool}
use Rattle.sql_tree.specs.declared.condition.Cond.{Cond}
use Rattle.sql_tree.specs.declared.condition.Cond.TheVariants as tree
use Rattle.table_machine.specs.Faults.{first, first_of, cond_names, cond_names_step}
use Rattle.table_binder.specs.Naming.{is_unknown}
use Rattle.table_binder.proofs.Layers.{at-And, at-Or}
use Rattle.table_binder.proofs.Firsts.{found, ends, first-concat}
use Rattle.table_binder.proofs.names.+unknown_in_cond.Goals as goal

in_and : (p : List ℕ → Bool) (cond : Cond) (parts items : List Cond) → cond ≡ tree.And parts → items ≡ parts → first_of (λ c. first p (cond_names c)) items ≡ first p (cond_names cond)
in_and p cond parts items e f =
    ap (first_of (λ c. first p (cond_names c))) f ∙ first-concat p cond_names parts ∙ sym (ap (first p) (ap cond_names e ∙ at-And cond_names_step parts))

in_or : (p : List ℕ → Bool) (cond : Cond) (parts items : List Cond) → cond ≡ tree.Or parts → items ≡ parts → first_of (λ c. first p (cond_names c)) items ≡ first p (cond_names cond)
in_or p cond parts items e f =
    ap (first_of (λ c. first p (cond_names c))) f ∙ first-concat p cond_names parts ∙ sym (ap (first p) (ap cond_names e ∙ at-Or cond_names_step parts))

pub returns-then-is_some : goal.returns-then-is_some
returns-then-is_some t c =
    found (λ u. first (is_unknown c.args.columns.now) (cond_names u)) c.as_slice-part-items.result.now c.ands.part-index c.part-item.result c.ands-test.true c.part-item.is c.ands.invariant
    (λ x. x.now) c.unknown_in_cond-found.result c.unknown_in_cond-found.ensures (sym c.is_some.ensures ∙ c.if-is_some.true)
    ∙ in_and (is_unknown c.args.columns.now) c.args.cond.now c.in-And.parts c.as_slice-part-items.result.now c.in-And.is c.as_slice-part-items.ensures

pub returns-then-is_some-2 : goal.returns-then-is_some-2
returns-then-is_some-2 t c =
    found (λ u. first (is_unknown c.args.columns.now) (cond_names u)) c.as_slice-part-items-in-Or.result.now c.ors.part-index c.part-item-in-ors.result c.ors-test.true c.part-item-in-ors.is c.ors.invariant
    (λ x. x.now) c.unknown_in_cond-found-in-ors.result c.unknown_in_cond-found-in-ors.ensures (sym c.is_some-in-ors.ensures ∙ c.if-is_some-2.true)
    ∙ in_or (is_unknown c.args.columns.now) c.args.cond.now c.in-Or.parts c.as_slice-part-items-in-Or.result.now c.in-Or.is c.as_slice-part-items-in-Or.ensures

pub returns-after-ands : goal.returns-after-ands
returns-after-ands t c =
    ends (λ u. first (is_unknown c.args.columns.now) (cond_names u)) c.as_slice-part-items.result.now c.ands.part-index c.ands-test.false c.ands.invariant
    ∙ in_and (is_unknown c.args.columns.now) c.args.cond.now c.in-And.parts c.as_slice-part-items.result.now c.in-And.is c.as_slice-part-items.ensures

pub returns-after-ors : goal.returns-after-ors
returns-after-ors t c =
    ends (λ u. first (is_unknown c.args.columns.now) (cond_names u)) c.as_slice-part-items-in-Or.result.now c.ors.part-index c.ors-test.false c.ors.invariant
    ∙ in_or (is_unknown c.args.columns.now) c.args.cond.now c.in-Or.parts c.as_slice-part-items-in-Or.result.now c.in-Or.is c.as_slice-part-items-in-Or.ensures
