-- The tokens of a condition, by its parts.
use Rattle.std.proofs.Common.{◌≡◌, ◌∙◌, ap, sym, Bool, true, false, List, [], ◌∷◌, ◌++◌, map}
use Rattle.sql_tokens.specs.declared.keyword.Keyword.TheVariants as word
use Rattle.sql_tokens.specs.declared.sign.Sign.TheVariants as sign
use Rattle.sql_tokens.specs.declared.token.Token.{Token}
use Rattle.sql_tokens.specs.declared.token.Token.TheVariants as t
use Rattle.sql_tree.specs.declared.condition.Op.{Op}
use Rattle.sql_tree.specs.declared.condition.Operand.{Operand}
use Rattle.sql_tree.specs.declared.condition.Cond.{Cond}
use Rattle.sql_tree.specs.declared.condition.Cond.TheVariants as tree
use Rattle.sql_tree.specs.declared.condition.Cond.TheOpen.{Cond-F}
use Rattle.sql_tree.specs.declared.condition.Cond.TheFolds.{fold-roll-Cond}
use Rattle.sql_tree.specs.Parts.{op_token}
use Rattle.sql_tree.specs.Shapes.{Shape, shape, shape_step, child, joined, commas, in_parens, quoted, operand_shape}
use Rattle.sql_tree.specs.Writing.{token_if}
use Rattle.sql_tree.proofs.Joining.{in_or_out}

pub shape-And : (all : List Cond) → shape (tree.And all) ≡ (true, joined (t.Word word.And) child (map shape all))
shape-And all = ap shape (sym (tree.rolls-And all)) ∙ fold-roll-Cond Shape shape_step (Cond-F.And all)

pub shape-Or : (all : List Cond) → shape (tree.Or all) ≡ (true, joined (t.Word word.Or) child (map shape all))
shape-Or all = ap shape (sym (tree.rolls-Or all)) ∙ fold-roll-Cond Shape shape_step (Cond-F.Or all)

pub shape-Not : (c : Cond) → shape (tree.Not c) ≡ (false, t.Word word.Not ∷ (token_if (shape c).0 (t.Sign sign.Open) ++ ((shape c).1 ++ token_if (shape c).0 (t.Sign sign.Close))))
shape-Not c =
    ap shape (sym (tree.rolls-Not c)) ∙ fold-roll-Cond Shape shape_step (Cond-F.Not c) ∙ ap (λ (xs : List Token). (false, t.Word word.Not ∷ xs)) (in_or_out (shape c))

pub shape-Compare : (left : Operand) (op : Op) (right : Operand) → shape (tree.Compare left op right) ≡ (false, operand_shape left ++ op_token op ∷ operand_shape right)
shape-Compare left op right = ap shape (sym (tree.rolls-Compare left op right)) ∙ fold-roll-Cond Shape shape_step (Cond-F.Compare left op right)

pub shape-Within : (left : Operand) (list : List Operand) → shape (tree.Within left list) ≡ (false, operand_shape left ++ t.Word word.In ∷ in_parens (commas operand_shape list))
shape-Within left list = ap shape (sym (tree.rolls-Within left list)) ∙ fold-roll-Cond Shape shape_step (Cond-F.Within left list)

pub shape-Null : (column : List Rattle.std.proofs.Common.ℕ) → shape (tree.Null column) ≡ (false, quoted column ++ t.Word word.Is ∷ t.Word word.Null ∷ [])
shape-Null column = ap shape (sym (tree.rolls-Null column)) ∙ fold-roll-Cond Shape shape_step (Cond-F.Null column)
