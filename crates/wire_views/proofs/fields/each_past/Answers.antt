use Rattle.wire_views.specs.Passing.{field_past}
use Rattle.wire_views.proofs.Passed.{goes_on}
use Rattle.wire_views.proofs.fields.each_past.Goals as goal

pub fields-preserved : goal.fields-preserved
fields-preserved c = goes_on (field_past c.args.field) c.args.count c.fields.counter c.fields.rest.now _ c.fields.invariant c.in-Ok.after.now c.fields-test.true c.in-Ok.ensures
