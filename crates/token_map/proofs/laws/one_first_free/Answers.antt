use Rattle.token_map.proofs.laws.one_first_free.Goals as goal
use Rattle.token_map.proofs.Added.{first_free_is_one}

pub returns : goal.returns
returns c = first_free_is_one
