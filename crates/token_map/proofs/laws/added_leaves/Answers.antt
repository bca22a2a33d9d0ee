use Rattle.token_map.proofs.laws.added_leaves.Goals as goal
use Rattle.token_rule.specs.Entries.{is_token}
use Rattle.token_map.proofs.Added.{find_stays, find_other, standing_stays, standing_other}

pub returns-clause-entry : goal.returns-clause-entry
returns-clause-entry c = λ entries more kind token found h. find_stays (is_token kind token) entries more found h

pub returns-clause-standing : goal.returns-clause-standing
returns-clause-standing c = standing_stays

pub returns-clause-other_entries : goal.returns-clause-other_entries
returns-clause-other_entries c = λ entries e kind token h. find_other (is_token kind token) entries e h

pub returns-clause-other_standing : goal.returns-clause-other_standing
returns-clause-other_standing c = standing_other
