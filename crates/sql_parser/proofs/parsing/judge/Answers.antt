use Rattle.sql_parser.proofs.Judged as facts
use Rattle.sql_parser.proofs.parsing.judge.Goals as goal

pub returns-in-Ok : goal.returns-in-Ok
returns-in-Ok c =
    facts.judged c.args.tokens.now c.args.reading c.requires.read c.args.end c.in-Ok.holds c.goes_too_deep.result c.into_statement.result c.refusal_of-kind.result c.judged.result c.requires.inside
    c.in-Ok.ensures c.goes_too_deep.ensures c.refusal_of-kind.ensures c.into_statement.ensures c.judged.ensures
