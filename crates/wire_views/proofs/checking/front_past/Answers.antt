use Rattle.wire_views.proofs.Fronts.{in_startup, in_parse, in_bind, in_describe, in_execute, in_close}
use Rattle.wire_views.proofs.checking.front_past.Goals as goal

pub returns-in-0 : goal.returns-in-0
returns-in-0 c = in_startup (λ x. x.now) c.startup_past.result c.args.body.now c.args.kind c.in-0.is c.startup_past.ensures

pub returns-in-80 : goal.returns-in-80
returns-in-80 c = in_parse (λ x. x.now) c.parse_past.result c.args.body.now c.args.kind c.in-80.is c.parse_past.ensures

pub returns-in-66 : goal.returns-in-66
returns-in-66 c = in_bind (λ x. x.now) c.bind_past.result c.args.body.now c.args.kind c.in-66.is c.bind_past.ensures

pub returns-in-68 : goal.returns-in-68
returns-in-68 c = in_describe (λ x. x.now) c.targeted_past.result c.args.body.now c.args.kind c.in-68.is c.targeted_past.ensures

pub returns-in-69 : goal.returns-in-69
returns-in-69 c = in_execute (λ x. x.now) c.execute_past.result c.args.body.now c.args.kind c.in-69.is c.execute_past.ensures

pub returns-in-67 : goal.returns-in-67
returns-in-67 c = in_close (λ x. x.now) c.targeted_past-in-67.result c.args.body.now c.args.kind c.in-67.is c.targeted_past-in-67.ensures
