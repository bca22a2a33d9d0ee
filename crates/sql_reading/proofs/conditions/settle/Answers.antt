use Rattle.std.proofs.Common.{◌∷◌, [], ◌++◌, ◌∙◌, refl, ap, sym, subst, arith, reverse, Err}
use Rattle.std.proofs.lemmas.Result.{err_from_is_err_and}
use Rattle.sql_tokens.specs.declared.keyword.Keyword.TheVariants as word
use Rattle.sql_tokens.specs.declared.sign.Sign.TheVariants as sign
use Rattle.sql_readers.specs.Looks.{look_word, look_sign}
use Rattle.sql_readers.specs.Productions.{sign_reader}
use Rattle.sql_readers.specs.Reads.{Reads}
use Rattle.sql_reading.proofs.Machine.{shorter}
use Rattle.sql_reading.proofs.Held.{level_of, kept_true, reverse_push, and_step, or_step, done_step, close_step, not_closed_step, close_refused}
use Rattle.sql_reading.proofs.conditions.settle.Goals as goal

pub returns-then-eat_word : goal.returns-then-eat_word
returns-then-eat_word c =
    let e = c.if-eat_word.ensures in (
      omega (arith, c.levels.invariant.shorter, shorter (look_word word.And) c.levels.cursor tt c.eat_word.new.self e.0),
      λ whole h. and_step whole (reverse c.levels.outer) c.levels.level c.levels.depth c.levels.part c.levels.cursor (c.levels.invariant.behind whole h)
          c.in_ok-with_nots.field-0 c.push.new.self c.leave.new.self (λ k. c.in_ok-with_nots.ensures (kept_true _ _ c.is_kept.ensures k)) c.in_ok-push.ensures.ok c.leave.ensures.count c.leave.ensures.deepest
          _ c.eat_word.new.self refl (sym e.1) e.0,
    )

pub returns-then-eat_word-2 : goal.returns-then-eat_word-2
returns-then-eat_word-2 c =
    let e = c.if-eat_word.ensures in
    let o = rw e.0 at c.if-eat_word-2.ensures in (
      omega (arith, c.levels.invariant.shorter, shorter (look_word word.Or) c.levels.cursor tt c.eat_word-in-levels.new.self o.0),
      λ whole h. or_step whole (reverse c.levels.outer) c.levels.level c.levels.depth c.levels.part c.levels.cursor (c.levels.invariant.behind whole h)
          c.in_ok-with_nots.field-0 c.push.new.self c.leave.new.self (λ k. c.in_ok-with_nots.ensures (kept_true _ _ c.is_kept.ensures k)) c.in_ok-push.ensures.ok c.leave.ensures.count c.leave.ensures.deepest
          (sym e.1) c.push-in-levels.new.self (c.in_ok-push-2.ensures.ok ∙ ap (λ t. c.levels.level.ors ++ t ∷ []) c.and_tree.ensures)
          _ c.eat_word-in-levels.new.self (ap (λ z. level_of c.push-in-levels.new.self z 0) c.new-ands.ensures) (sym o.1) o.0,
    )

pub returns-in_default : goal.returns-in_default
returns-in_default c =
    let e = c.if-eat_word.ensures in
    let o = rw e.0 at c.if-eat_word-2.ensures in
    rw o.0 (λ whole h. done_step whole (reverse c.levels.outer) c.levels.level c.levels.depth c.levels.part c.levels.cursor (c.levels.invariant.behind whole h)
    c.in_ok-with_nots.field-0 c.push.new.self c.leave.new.self (λ k. c.in_ok-with_nots.ensures (kept_true _ _ c.is_kept.ensures k)) c.in_ok-push.ensures.ok c.leave.ensures.count c.leave.ensures.deepest
    (sym e.1) c.push-in-levels.new.self (c.in_ok-push-2.ensures.ok ∙ ap (λ t. c.levels.level.ors ++ t ∷ []) c.and_tree.ensures)
    (sym o.1) c.or_tree.result (ap reverse c.in_default.ensures.0) c.or_tree.ensures)

pub returns-in_err-sign : goal.returns-in_err-sign
returns-in_err-sign c =
    let e = c.if-eat_word.ensures in
    let o = rw e.0 at c.if-eat_word-2.ensures in
    let p = err_from_is_err_and c.from_residual-in_err-sign.result c.from_residual-in_err-sign.ensures.1 in
    rw (p.1, p.2)
    (close_refused (reverse c.args.outer.now) (reverse c.pop.new.self) c.args.level c.args.depth.now c.leave.new.self c.args.part c.args.cursor.now c.eat_word-in-levels.new.self c.sign.new.self
    (λ whole h refused. not_closed_step whole (reverse c.levels.outer) c.levels.level c.levels.depth c.levels.part c.levels.cursor (c.levels.invariant.behind whole h)
    c.in_ok-with_nots.field-0 c.push.new.self c.leave.new.self (λ k. c.in_ok-with_nots.ensures (kept_true _ _ c.is_kept.ensures k)) c.in_ok-push.ensures.ok c.leave.ensures.count c.leave.ensures.deepest
    (sym e.1) c.push-in-levels.new.self (c.in_ok-push-2.ensures.ok ∙ ap (λ t. c.levels.level.ors ++ t ∷ []) c.and_tree.ensures)
    (sym o.1) c.in-Some.around (reverse c.pop.new.self) (ap reverse c.in-Some.ensures ∙ reverse_push c.pop.new.self c.in-Some.around) c.sign.new.self
    (subst (λ t. Reads (sign_reader sign.Close) t (Err c.sign.new.self)) o.0 refused))
    c.in_err-sign.field-0.0 c.in_err-sign.ensures)

pub levels-preserved : goal.levels-preserved
levels-preserved c =
    let e = c.if-eat_word.ensures in
    let o = rw e.0 at c.if-eat_word-2.ensures in
    let s = rw o.0 at c.in_ok-sign.ensures in
    record {
      shorter = omega (arith, c.levels.invariant.shorter, shorter (look_sign sign.Close) c.levels.cursor tt c.sign.new.self s.2);
      behind = λ whole h. close_step whole (reverse c.levels.outer) c.levels.level c.levels.depth c.levels.part c.levels.cursor (c.levels.invariant.behind whole h)
          c.in_ok-with_nots.field-0 c.push.new.self c.leave.new.self (λ k. c.in_ok-with_nots.ensures (kept_true _ _ c.is_kept.ensures k)) c.in_ok-push.ensures.ok c.leave.ensures.count c.leave.ensures.deepest
          (sym e.1) c.push-in-levels.new.self (c.in_ok-push-2.ensures.ok ∙ ap (λ t. c.levels.level.ors ++ t ∷ []) c.and_tree.ensures)
          (sym o.1) c.in-Some.around (reverse c.pop.new.self) (ap reverse c.in-Some.ensures ∙ reverse_push c.pop.new.self c.in-Some.around)
          c.or_tree-part.result c.leave-in-levels.new.self c.sign.new.self c.or_tree-part.ensures c.leave-in-levels.ensures.count c.leave-in-levels.ensures.deepest s.2;
    }
