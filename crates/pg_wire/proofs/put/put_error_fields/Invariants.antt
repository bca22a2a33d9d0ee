use Rattle.std.proofs.Common.{◌≡◌, ◌++◌, take}
use Rattle.std.specs.List.{flat_map}
use Rattle.pg_wire.specs.Backs.{error_bytes}
use Rattle.pg_wire.proofs.put.put_error_fields.Given as goal

abbrev pub invariant-fields : goal.invariant-fields
invariant-fields l = l.out.items ≡ l.initial.out.items ++ flat_map error_bytes (take l.field-index l.fields)
