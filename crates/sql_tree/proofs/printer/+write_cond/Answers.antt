use Rattle.std.proofs.Common.{ap, ◌∙◌, sym, map, ◌∷◌, ◌++◌}
use Rattle.std.proofs.lemmas.List.{take_all}
use Rattle.sql_tokens.specs.declared.token.Token.TheVariants as tok
use Rattle.sql_tokens.specs.declared.sign.Sign.TheVariants as sign
use Rattle.sql_tokens.specs.declared.keyword.Keyword.TheVariants as word
use Rattle.sql_tree.specs.Shapes.{shape, joined, child, in_parens, commas, operand_shape}
use Rattle.sql_tree.specs.Writing.{token_if}
use Rattle.sql_tree.proofs.Rendering.{next, said}
use Rattle.sql_tree.proofs.Joining.{joined_more}
use Rattle.sql_tree.proofs.Layers.{shape-And, shape-Or, shape-Not, shape-Compare, shape-Within, shape-Null}
use Rattle.sql_tree.proofs.printer.+write_cond.Goals as goal

pub ands-preserved : goal.ands-preserved
ands-preserved t c = said _ (joined_more (tok.Word word.And) shape c.as_slice-part-items.result.now c.ands.index c.part-item.result c.ands-test.true c.part-item.is) (next c.ands.invariant (next c.in_ok-write_between-in-And.ensures (next (said _ (ap (λ b. token_if b (tok.Sign sign.Open)) (sym c.is_group-group.ensures)) c.in_ok-write_sign_if-in-And.ensures) (next c.in_ok-write_cond-in-And.ensures (said _ (ap (λ b. token_if b (tok.Sign sign.Close)) (sym c.is_group-group.ensures)) c.in_ok-write_sign_if-in-And-2.ensures)))))

pub ors-preserved : goal.ors-preserved
ors-preserved t c = said _ (joined_more (tok.Word word.Or) shape c.as_slice-part-items-in-Or.result.now c.ors.index c.part-item-in-ors.result c.ors-test.true c.part-item-in-ors.is) (next c.ors.invariant (next c.in_ok-write_between-in-Or.ensures (next (said _ (ap (λ b. token_if b (tok.Sign sign.Open)) (sym c.is_group-group-in-ors.ensures)) c.in_ok-write_sign_if-in-Or.ensures) (next c.in_ok-write_cond-in-Or.ensures (said _ (ap (λ b. token_if b (tok.Sign sign.Close)) (sym c.is_group-group-in-ors.ensures)) c.in_ok-write_sign_if-in-Or-2.ensures)))))

pub returns-after-ands : goal.returns-after-ands
returns-after-ands t c = said _ (ap (λ x. (shape x).1) c.in-And.is ∙ ap (λ s. s.1) (shape-And c.in-And.parts) ∙ ap (λ xs. joined (tok.Word word.And) child (map shape xs)) (sym c.as_slice-part-items.ensures ∙ sym (take_all c.ands.index c.as_slice-part-items.result.now c.ands-test.false))) c.ands.invariant

pub returns-after-ors : goal.returns-after-ors
returns-after-ors t c = said _ (ap (λ x. (shape x).1) c.in-Or.is ∙ ap (λ s. s.1) (shape-Or c.in-Or.parts) ∙ ap (λ xs. joined (tok.Word word.Or) child (map shape xs)) (sym c.as_slice-part-items-in-Or.ensures ∙ sym (take_all c.ors.index c.as_slice-part-items-in-Or.result.now c.ors-test.false))) c.ors.invariant

pub returns-in_ok-write_sign_if-in-Not-2 : goal.returns-in_ok-write_sign_if-in-Not-2
returns-in_ok-write_sign_if-in-Not-2 t c = said _ (ap (λ x. (shape x).1) c.in-Not.is ∙ ap (λ s. s.1) (shape-Not c.in-Not.part)) (next c.in_ok-word-in-Not.ensures (next (said _ (ap (λ b. token_if b (tok.Sign sign.Open)) (ap (λ x. (shape x).0) (sym c.get.ensures) ∙ sym c.is_group-group-in-Not.ensures)) c.in_ok-write_sign_if-in-Not.ensures) (next (said _ (ap (λ x. (shape x).1) (sym c.get-in-Not.ensures)) c.in_ok-write_cond-in-Not.ensures) (said _ (ap (λ b. token_if b (tok.Sign sign.Close)) (ap (λ x. (shape x).0) (sym c.get.ensures) ∙ sym c.is_group-group-in-Not.ensures)) c.in_ok-write_sign_if-in-Not-2.ensures))))

pub returns-in_ok-write_compare-in-Compare : goal.returns-in_ok-write_compare-in-Compare
returns-in_ok-write_compare-in-Compare t c = said _ (ap (λ x. (shape x).1) c.in-Compare.is ∙ ap (λ s. s.1) (shape-Compare c.in-Compare.left c.in-Compare.op c.in-Compare.right)) (c.in_ok-write_compare-in-Compare.ensures)

pub returns-in_ok-write_within-in-Within : goal.returns-in_ok-write_within-in-Within
returns-in_ok-write_within-in-Within t c = said _ (ap (λ x. (shape x).1) c.in-Within.is ∙ ap (λ s. s.1) (shape-Within c.in-Within.left c.in-Within.list) ∙ ap (λ xs. operand_shape c.in-Within.left ++ tok.Word word.In ∷ in_parens (commas operand_shape xs)) (sym c.as_slice.ensures)) (c.in_ok-write_within-in-Within.ensures)

pub returns-in_ok-write_null-in-Null : goal.returns-in_ok-write_null-in-Null
returns-in_ok-write_null-in-Null t c = said _ (ap (λ x. (shape x).1) c.in-Null.is ∙ ap (λ s. s.1) (shape-Null c.in-Null.column)) (c.in_ok-write_null-in-Null.ensures)
