use Rattle.wire_views.proofs.Bypassed.{in_row, in_cells, in_params, in_error, in_notice}
use Rattle.wire_views.proofs.checking.back_past.Goals as goal

pub returns-in-84 : goal.returns-in-84
returns-in-84 c = in_row (λ x. x.now) c.counted_past.result c.args.body.now c.args.kind c.in-84.is c.counted_past.ensures

pub returns-in-68 : goal.returns-in-68
returns-in-68 c = in_cells (λ x. x.now) c.counted_past-in-68.result c.args.body.now c.args.kind c.in-68.is c.counted_past-in-68.ensures

pub returns-in-69 : goal.returns-in-69
returns-in-69 c = in_error (λ x. x.now) c.listed_past.result c.args.body.now c.args.kind c.in-69.is c.listed_past.ensures

pub returns-in-78 : goal.returns-in-78
returns-in-78 c = in_notice (λ x. x.now) c.listed_past-in-78.result c.args.body.now c.args.kind c.in-78.is c.listed_past-in-78.ensures

pub returns-in-116 : goal.returns-in-116
returns-in-116 c = in_params (λ x. x.now) c.counted_past-in-116.result c.args.body.now c.args.kind c.in-116.is c.counted_past-in-116.ensures
