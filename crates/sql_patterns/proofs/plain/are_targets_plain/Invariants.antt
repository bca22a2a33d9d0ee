use Rattle.std.proofs.Common.{◌≡◌, drop}
use Rattle.std.specs.List.{list_all}
use Rattle.sql_tree.specs.declared.statement.SetPair.{SetPair}
use Rattle.sql_patterns.specs.Standing.{is_plain_name}
use Rattle.sql_patterns.proofs.plain.are_targets_plain.Given as goal

abbrev pub invariant-each : goal.invariant-each
invariant-each l = list_all (λ (p : SetPair). is_plain_name p.column) l.sets ≡ list_all (λ (p : SetPair). is_plain_name p.column) (drop l.pair-index l.sets)
