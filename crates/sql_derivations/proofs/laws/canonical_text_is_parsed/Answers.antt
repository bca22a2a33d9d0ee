use Rattle.sql_derivations.proofs.Parsed as facts
use Rattle.sql_derivations.proofs.laws.canonical_text_is_parsed.Goals as goal

pub returns : goal.returns
returns c = facts.canonical_text_is_parsed
