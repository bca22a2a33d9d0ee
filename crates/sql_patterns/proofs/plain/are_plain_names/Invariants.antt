use Rattle.std.proofs.Common.{◌≡◌, drop}
use Rattle.std.specs.List.{list_all}
use Rattle.sql_patterns.specs.Standing.{is_plain_name}
use Rattle.sql_patterns.proofs.plain.are_plain_names.Given as goal

abbrev pub invariant-each : goal.invariant-each
invariant-each l = list_all is_plain_name l.names ≡ list_all is_plain_name (drop l.name-index l.names)
