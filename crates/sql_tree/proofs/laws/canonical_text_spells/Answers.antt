use Rattle.sql_tree.proofs.Wholes as wholes
use Rattle.sql_tree.proofs.laws.canonical_text_spells.Goals as goal

pub returns : goal.returns
returns c = wholes.text_spells
