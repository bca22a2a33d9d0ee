use Rattle.std.proofs.Common.{◌≡◌, ◌-◌}
use Rattle.wire_views.specs.Passing.{field_past, each_past}
use Rattle.wire_views.proofs.fields.each_past.Given as goal

abbrev pub invariant-fields : goal.invariant-fields
invariant-fields l = each_past (field_past l.field) (l.count - l.counter) l.rest ≡ each_past (field_past l.field) l.count l.bytes
