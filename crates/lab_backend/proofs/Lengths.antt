-- How long the parts of messages are.
use Rattle.std.proofs.Common.{◌≡◌, ◌+◌, length, arith, length-append}
use Rattle.pg_wire.specs.declared.back.Field.{Field}
use Rattle.pg_wire.specs.Backs.{field_bytes}

pub length-field_bytes : (f : Field) → length (field_bytes f) ≡ length f.name + 19
length-field_bytes f = simp length-append (omega arith)
