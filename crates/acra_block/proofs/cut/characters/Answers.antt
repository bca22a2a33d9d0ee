use Rattle.std.proofs.Common.{sym, ◌∙◌, arith}
use Rattle.acra_block.proofs.Cutting.{count_next, count_on, none_counted}
use Rattle.acra_block.proofs.cut.characters.Goals.{then-begins_character, else-begins_character}
use Rattle.acra_block.proofs.cut.characters.Goals as goal

pub bytes-preserved : goal.bytes-preserved
bytes-preserved c =
    elim c.if-begins_character.branch [
      | then-begins_character w ↦ (omega (arith, c.bytes.invariant.0, w.count-is, count_next c.bytes.place c.args.text.now c.bytes-test.true (sym c.begins_character.ensures ∙ w.if-begins_character.true)), omega (arith, w.count-is, c.bytes.invariant.1))
      | else-begins_character w ↦ (omega (arith, c.bytes.invariant.0, w.count-is, count_on c.bytes.place c.args.text.now c.bytes-test.true (sym c.begins_character.ensures ∙ w.if-begins_character.false)), omega (arith, w.count-is, c.bytes.invariant.1))
    ]

pub returns-clause-value : goal.returns-clause-value
returns-clause-value c = omega (arith, c.bytes.invariant.0, none_counted c.bytes.place c.args.text.now c.bytes-test.false)
