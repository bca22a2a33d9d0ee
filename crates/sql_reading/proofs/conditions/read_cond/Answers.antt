use Rattle.std.proofs.Common.{refl, sym, arith, reverse}
use Rattle.std.proofs.lemmas.Result.{err_from_is_err_and}
use Rattle.sql_reading.proofs.Held.{start_step, not_step, open_step, test_step, no_test_step, reverse_push, test_refused, settle_refused, kept_is}
use Rattle.sql_reading.proofs.Shrinking.{test_within}
use Rattle.sql_reading.proofs.conditions.read_cond.Goals as goal

pub parts-init : goal.parts-init
parts-init c = rw c.new-outer.ensures (start_step c.args.cursor.now c.empty_level-level.result _ c.empty_level-level.ensures refl refl)

pub overflow_add-level : goal.overflow_add-level
overflow_add-level c =
    let i = c.parts.invariant in
    omega (arith, i.stands.count, i.stands.nots_here, c.in_ok-enter.ensures.count, c.in_ok-enter.ensures.fits)

pub parts-preserved-then-eat_word : goal.parts-preserved-then-eat_word
parts-preserved-then-eat_word c =
    let e = c.if-eat_word.ensures in
    not_step c.args.cursor.now (reverse c.parts.outer) c.parts.level c.parts.depth c.parts.cursor c.parts.invariant c.enter.new.self c.in_ok-enter.ensures.count c.in_ok-enter.ensures.deepest
    _ c.eat_word.new.self refl (sym e.1) e.0

pub parts-preserved-then-eat_sign : goal.parts-preserved-then-eat_sign
parts-preserved-then-eat_sign c =
    let e = c.if-eat_word.ensures in
    let o = rw e.0 at c.if-eat_sign.ensures in
    rw (c.in_ok-push.ensures.ok, reverse_push c.parts.outer c.parts.level)
    (open_step c.args.cursor.now (reverse c.parts.outer) c.parts.level c.parts.depth c.parts.cursor c.parts.invariant c.enter-then-eat_sign.new.self c.in_ok-enter-2.ensures.count c.in_ok-enter-2.ensures.deepest
    c.empty_level-level-then-eat_sign.result c.eat_sign.new.self c.empty_level-level-then-eat_sign.ensures (sym e.1) (sym o.1) o.0)

pub returns-in_err-part : goal.returns-in_err-part
returns-in_err-part c =
    let e = c.if-eat_word.ensures in
    let o = rw e.0 at c.if-eat_sign.ensures in
    let p = err_from_is_err_and c.from_residual-in_err-part.result c.from_residual-in_err-part.ensures.1 in
    rw (p.1, p.2)
    (test_refused c.args.cursor.now c.eat_sign.new.self c.read_test.new.cursor
    (λ refused. no_test_step c.args.cursor.now (reverse c.parts.outer) c.parts.level c.parts.depth c.parts.cursor c.parts.invariant (sym e.1) (sym o.1) c.read_test.new.cursor (rw o.0 at refused))
    c.in_err-part.field-0.0 c.in_err-part.ensures)

pub returns-in_err-next : goal.returns-in_err-next
returns-in_err-next c =
    let e = c.if-eat_word.ensures in
    let o = rw e.0 at c.if-eat_sign.ensures in
    let t = c.in_ok-part.ensures in
    let p = err_from_is_err_and c.from_residual-in_err-next.result c.from_residual-in_err-next.ensures.1 in
    rw (p.1, p.2)
    (settle_refused c.args.cursor.now c.read_test.new.cursor c.settle.new.cursor (reverse c.parts.outer) (reverse c.settle.new.outer) c.parts.level c.parts.depth c.settle.new.depth c.in_ok-part.part
    (test_step c.args.cursor.now (reverse c.parts.outer) c.parts.level c.parts.depth c.parts.cursor c.parts.invariant (sym e.1) (sym o.1) t.0 c.in_ok-part.part c.read_test.new.cursor t.1 (rw o.0 at t.2))
    c.in_err-next.field-0.0 c.in_err-next.ensures)

pub parts-smaller : goal.parts-smaller
parts-smaller c =
    let e = c.if-eat_word.ensures in
    let o = rw e.0 at c.if-eat_sign.ensures in
    let t = c.in_ok-part.ensures in
    let s = rw c.in-Part.is at c.in_ok-next.ensures in
    omega (arith, s.0, test_within (rw o.0 at t.2))

pub parts-preserved : goal.parts-preserved
parts-preserved c =
    let e = c.if-eat_word.ensures in
    let o = rw e.0 at c.if-eat_sign.ensures in
    let t = c.in_ok-part.ensures in
    let s = rw c.in-Part.is at c.in_ok-next.ensures in
    s.1 c.args.cursor.now
    (test_step c.args.cursor.now (reverse c.parts.outer) c.parts.level c.parts.depth c.parts.cursor c.parts.invariant (sym e.1) (sym o.1) t.0 c.in_ok-part.part c.read_test.new.cursor t.1 (rw o.0 at t.2))

pub returns-in-Done : goal.returns-in-Done
returns-in-Done c =
    let e = c.if-eat_word.ensures in
    let o = rw e.0 at c.if-eat_sign.ensures in
    let t = c.in_ok-part.ensures in
    let s = rw c.in-Done.is at c.in_ok-next.ensures in
    kept_is c.args.cursor.now c.parts.cursor c.settle.new.cursor c.settle.new.depth c.in-Done.tree c.made.result
    (s c.args.cursor.now (test_step c.args.cursor.now (reverse c.parts.outer) c.parts.level c.parts.depth c.parts.cursor c.parts.invariant (sym e.1) (sym o.1) t.0 c.in_ok-part.part c.read_test.new.cursor t.1 (rw o.0 at t.2)))
    c.made.ensures
