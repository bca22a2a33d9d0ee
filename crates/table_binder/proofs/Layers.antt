-- A fold over a condition, by the condition's parts.
use Rattle.std.proofs.Common.{◌≡◌, ◌∙◌, ap, sym, ℕ, List, map}
use Rattle.sql_tree.specs.declared.condition.Op.{Op}
use Rattle.sql_tree.specs.declared.condition.Operand.{Operand}
use Rattle.sql_tree.specs.declared.condition.Cond.{Cond}
use Rattle.sql_tree.specs.declared.condition.Cond.TheVariants as c
use Rattle.sql_tree.specs.declared.condition.Cond.TheOpen.{Cond-F}
use Rattle.sql_tree.specs.declared.condition.Cond.TheFolds.{fold-Cond, fold-roll-Cond}

module _ {B : Type 0} (step : Cond-F B → B) where
  abbrev pub fold : Cond → B
  fold = fold-Cond B step

  pub at-And : (us : List Cond) → fold (c.And us) ≡ step (Cond-F.And (map fold us))
  at-And us = ap fold (sym (c.rolls-And us)) ∙ fold-roll-Cond B step (Cond-F.And us)

  pub at-Or : (us : List Cond) → fold (c.Or us) ≡ step (Cond-F.Or (map fold us))
  at-Or us = ap fold (sym (c.rolls-Or us)) ∙ fold-roll-Cond B step (Cond-F.Or us)

  pub at-Not : (u : Cond) → fold (c.Not u) ≡ step (Cond-F.Not (fold u))
  at-Not u = ap fold (sym (c.rolls-Not u)) ∙ fold-roll-Cond B step (Cond-F.Not u)

  pub at-Compare : (a : Operand) (o : Op) (b : Operand) → fold (c.Compare a o b) ≡ step (Cond-F.Compare a o b)
  at-Compare a o b = ap fold (sym (c.rolls-Compare a o b)) ∙ fold-roll-Cond B step (Cond-F.Compare a o b)

  pub at-Within : (a : Operand) (list : List Operand) → fold (c.Within a list) ≡ step (Cond-F.Within a list)
  at-Within a list = ap fold (sym (c.rolls-Within a list)) ∙ fold-roll-Cond B step (Cond-F.Within a list)

  pub at-Null : (name : List ℕ) → fold (c.Null name) ≡ step (Cond-F.Null name)
  at-Null name = ap fold (sym (c.rolls-Null name)) ∙ fold-roll-Cond B step (Cond-F.Null name)
