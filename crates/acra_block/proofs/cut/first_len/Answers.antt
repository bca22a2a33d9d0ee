use Rattle.std.proofs.Common.{ℕ, sym, ap, ◌∙◌, arith, drop}
use Rattle.acra_block.specs.Characters.{first_len}
use Rattle.acra_block.proofs.Cutting.{len_at, next_step, on_step, none_left}
use Rattle.acra_block.proofs.cut.first_len.Goals.{then-begins_character+else-left-eq0, else-begins_character}
use Rattle.acra_block.proofs.cut.first_len.Goals as goal

pub returns-then-left-eq0-clause-value : goal.returns-then-left-eq0-clause-value
returns-then-left-eq0-clause-value c =
    omega (arith, c.bytes.invariant, ap (λ (n : ℕ). first_len n (drop c.bytes.place c.args.text.now)) c.if-left-eq0.true, len_at c.bytes.place c.args.text.now c.bytes-test.true (sym c.begins_character.ensures ∙ c.if-begins_character.true))

pub bytes-preserved : goal.bytes-preserved
bytes-preserved c =
    elim c.if-begins_character.branch [
      | then-begins_character+else-left-eq0 w ↦
          next_step c.args.count c.bytes.left c.if-begins_character.left c.bytes.place c.args.text.now c.bytes.invariant w.left-is w.if-left-eq0.false c.bytes-test.true (sym c.begins_character.ensures ∙ w.if-begins_character.true)
      | else-begins_character w ↦
          on_step c.args.count c.bytes.left c.if-begins_character.left c.bytes.place c.args.text.now c.bytes.invariant w.left-is c.bytes-test.true (sym c.begins_character.ensures ∙ w.if-begins_character.false)
    ]

pub returns-clause-value : goal.returns-clause-value
returns-clause-value c = omega (arith, c.bytes.invariant, none_left c.bytes.left c.bytes.place c.args.text.now c.bytes-test.false)
