use Rattle.std.proofs.Common.{false, sym, ap, ◌∙◌}
use Rattle.sql_patterns.proofs.Equal.{same_statements, own_statement}
use Rattle.sql_patterns.specs.Matching.{statement_matches}
use Rattle.sql_patterns.proofs.pattern.are_equal.Goals as goal

pub returns-clause-equal : goal.returns-clause-equal
returns-clause-equal c = (
  λ e. same_statements c.args.statement.now c.args.other.now (sym c.statement_matches.ensures ∙ e),
  λ e. c.statement_matches.ensures ∙ ap (statement_matches false c.args.statement.now) (sym e) ∙ own_statement c.args.statement.now,
)
