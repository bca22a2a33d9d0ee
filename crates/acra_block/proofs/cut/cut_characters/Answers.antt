use Rattle.std.proofs.Common.{◌<◌, ◌-◌, ℕ, take, drop, ap, ◌∙◌, arith}
use Rattle.acra_block.specs.Characters.{first_len, count_characters}
use Rattle.acra_block.proofs.Cutting.{cut_none, cut_left, cut_right}
use Rattle.acra_block.proofs.cut.cut_characters.Goals as goal

pub returns-then-total-count-clause-plain : goal.returns-then-total-count-clause-plain
returns-then-total-count-clause-plain c = (cut_none c.args.left c.args.count c.args.text.now c.requires (omega (arith, c.characters-total.ensures.value, c.if-total-count.true))).0

pub returns-then-total-count-clause-rest : goal.returns-then-total-count-clause-rest
returns-then-total-count-clause-rest c = (cut_none c.args.left c.args.count c.args.text.now c.requires (omega (arith, c.characters-total.ensures.value, c.if-total-count.true))).1

pub returns-then-left-clause-plain : goal.returns-then-left-clause-plain
returns-then-left-clause-plain c =
    let many : c.args.count < count_characters c.args.text.now = omega (arith, c.characters-total.ensures.value, c.if-total-count.false) in
    rw c.if-left.true (c.split_at.ensures.front ∙ ap (λ (n : ℕ). take n c.args.text.now) c.first_len.ensures.value ∙ (cut_left c.args.count c.args.text.now c.requires many).0)

pub returns-then-left-clause-rest : goal.returns-then-left-clause-rest
returns-then-left-clause-rest c =
    let many : c.args.count < count_characters c.args.text.now = omega (arith, c.characters-total.ensures.value, c.if-total-count.false) in
    rw c.if-left.true (c.split_at.ensures.back ∙ ap (λ (n : ℕ). drop n c.args.text.now) c.first_len.ensures.value ∙ (cut_left c.args.count c.args.text.now c.requires many).1)

pub returns-else-left-clause-plain : goal.returns-else-left-clause-plain
returns-else-left-clause-plain c =
    let many : c.args.count < count_characters c.args.text.now = omega (arith, c.characters-total.ensures.value, c.if-total-count.false) in
    rw c.if-left.false (c.split_at-else-left.ensures.back ∙ ap (λ (n : ℕ). drop n c.args.text.now) (c.first_len-else-left.ensures.value ∙ ap (λ (n : ℕ). first_len (n - c.args.count) c.args.text.now) c.characters-total.ensures.value) ∙ (cut_right c.args.count c.args.text.now c.requires many).0)

pub returns-else-left-clause-rest : goal.returns-else-left-clause-rest
returns-else-left-clause-rest c =
    let many : c.args.count < count_characters c.args.text.now = omega (arith, c.characters-total.ensures.value, c.if-total-count.false) in
    rw c.if-left.false (c.split_at-else-left.ensures.front ∙ ap (λ (n : ℕ). take n c.args.text.now) (c.first_len-else-left.ensures.value ∙ ap (λ (n : ℕ). first_len (n - c.args.count) c.args.text.now) c.characters-total.ensures.value) ∙ (cut_right c.args.count c.args.text.now c.requires many).1)
