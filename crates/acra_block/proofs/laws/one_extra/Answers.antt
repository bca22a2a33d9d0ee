use Rattle.acra_block.proofs.Placed.{one_of_each, versions_apart}
use Rattle.acra_block.proofs.laws.one_extra.Goals as goal

pub returns : goal.returns
returns c = record { same = one_of_each; apart = versions_apart }
