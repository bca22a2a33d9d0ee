use Rattle.std.proofs.Common.{◌≡◌, ◌-◌, length}
use Rattle.wire_views.specs.Passing.{field_past, ended_past, listed_past}
use Rattle.wire_views.proofs.fields.listed_past.Given as goal

abbrev pub invariant-fields : goal.invariant-fields
invariant-fields l = ended_past (field_past l.field) (length l.bytes - l.counter) l.rest ≡ listed_past (field_past l.field) l.bytes
