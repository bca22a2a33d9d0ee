use Rattle.sql_tree.proofs.Wholes as wholes
use Rattle.sql_tree.proofs.laws.canonical_tokens_spell.Goals as goal

pub returns : goal.returns
returns c = wholes.tokens_spell
