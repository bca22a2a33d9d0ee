use Rattle.sql_patterns.proofs.Read as facts
use Rattle.sql_patterns.proofs.pattern.one_pattern.Goals as goal

pub returns : goal.returns
returns c = facts.one_pattern c.args.text.now
