use Rattle.sql_parser.proofs.Lone.{none_refused_as}
use Rattle.sql_parser.proofs.parsing.parse_tokens.Goals as goal

pub returns-in-Err-Refused : goal.returns-in-Err-Refused
returns-in-Err-Refused c = λ tree s.
    none_refused_as c.args.tokens.now tree s c.in-Err-Refused.field-0-0.kind c.in-Err-Refused.field-0-0.place 0 (rw c.in-Err-Refused.field-0-is at c.in-Err-Refused.ensures)
