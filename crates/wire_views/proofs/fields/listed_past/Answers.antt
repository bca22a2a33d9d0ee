use Rattle.std.proofs.Common.{length}
use Rattle.wire_views.specs.Passing.{field_past}
use Rattle.wire_views.proofs.Passed.{list_goes_on}
use Rattle.wire_views.proofs.fields.listed_past.Goals as goal

pub fields-preserved : goal.fields-preserved
fields-preserved c =
    list_goes_on (field_past c.args.field) (length c.args.bytes.now) c.fields.counter c.fields.rest.now _ c.fields.invariant c.in-Ok.after.now c.fields-test.true c.in-len1-up.len_at_least
    c.if-first-eq0.false c.in-Ok.ensures
