use Rattle.std.proofs.Common.{◌∙◌, ap, sym, Some}
use Rattle.sql_tree.specs.WellFormed.{all_shaped}
use Rattle.table_machine.specs.Faults.{first_unread, where_places}
use Rattle.table_rows.specs.Filters as filters
use Rattle.table_machine.specs.Machine as machine
use Rattle.table_machine.specs.Stored.{stored}
use Rattle.table_binder.proofs.Meaning.{passes-bound}
use Rattle.table_binder.proofs.conditions.bind_where.Goals as goal

pub returns-in_ok-filter-in-Some : goal.returns-in_ok-filter-in-Some
returns-in_ok-filter-in-Some c = (
  ap (λ w. first_unread (stored c.args.given.now) (where_places c.args.columns.now w)) c.in-Some.is ∙ c.in_ok-filter-in-Some.ensures.0,
  λ row. ap (λ b. filters.passes (Some b) row) c.in_ok-filter-in-Some.ensures.1
      ∙ passes-bound c.args.given.now c.args.columns.now row (Some c.in-Some.cond) (sym (ap all_shaped c.in-Some.is) ∙ c.requires.shaped)
      ∙ sym (ap (λ w. machine.passes (stored c.args.given.now) c.args.columns.now w row) c.in-Some.is),
)
