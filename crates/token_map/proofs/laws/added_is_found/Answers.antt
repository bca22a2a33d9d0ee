use Rattle.token_map.proofs.laws.added_is_found.Goals as goal
use Rattle.token_map.proofs.Added.{entry_added, standing_added}

pub returns-clause-entry : goal.returns-clause-entry
returns-clause-entry c = entry_added

pub returns-clause-standing : goal.returns-clause-standing
returns-clause-standing c = standing_added
