use Rattle.sql_tokens.proofs.Whole as whole
use Rattle.sql_tokens.proofs.laws.one_lexing.Goals as goal

pub returns : goal.returns
returns c = record { same = whole.one_lexing }
