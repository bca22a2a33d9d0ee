use Rattle.sql_parser.proofs.Judged as facts
use Rattle.sql_parser.proofs.parsing.parse.Goals as goal

pub returns-clause-only : goal.returns-clause-only
returns-clause-only c = facts.tells c.args.text.now c.args.limit c.read_text.result c.read_text.ensures
