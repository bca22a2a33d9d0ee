use Rattle.std.proofs.Common.{◌∙◌}
use Rattle.std.proofs.lemmas.Bool.{ne_eqb}
use Rattle.sql_patterns.proofs.Apart.{apart}
use Rattle.sql_patterns.proofs.prints.Query.equals.Goals as goal

pub returns-else-self-print-clause-matched : goal.returns-else-self-print-clause-matched
returns-else-self-print-clause-matched c =
    ne_eqb c.args.self.now.print c.args.print c.if-self-print.false
    ∙ apart c.args.self.now.tree c.args.statement.now c.args.self.now.print c.args.print c.args.self.now.is c.requires c.if-self-print.false
