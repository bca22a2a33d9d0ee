-- A bound condition says of a row what the condition says.
use Rattle.std.proofs.Common.{◌≡◌, ◌∙◌, ap, sym, refl, subst, ℕ, Bool, true, false, List, [], ◌∷◌, map, Option, Some, None}
use Rattle.std.specs.Prelude.{◌&&◌}
use Rattle.std.specs.List.{list_all}
use Rattle.sql_tree.specs.declared.condition.Op.{Op}
use Rattle.sql_tree.specs.declared.condition.Op.TheVariants as op
use Rattle.sql_tree.specs.declared.condition.Operand.{Operand}
use Rattle.sql_tree.specs.declared.condition.Operand.TheVariants as operand
use Rattle.sql_tree.specs.declared.condition.Cond.{Cond}
use Rattle.sql_tree.specs.declared.condition.Cond.TheOpen.{Cond-F}
use Rattle.sql_tree.specs.declared.condition.Cond.TheFolds.{fold-roll-Cond, ind-Cond, map-Cond}
use Rattle.sql_tree.specs.declared.condition.Cond.TheViews.{roll-Cond}
use Rattle.sql_tree.specs.WellFormed.{is_left, has_two, shaped_step, is_shaped, all_shaped}
use Rattle.table_machine.specs.declared.cell.Cell.{Cell}
use Rattle.table_rows.specs.declared.filter.Filter.{Filter}
use Rattle.table_rows.specs.declared.filter.Filter.TheVariants as f
use Rattle.table_rows.specs.declared.filter.Filter.TheOpen.{Filter-F}
use Rattle.table_rows.specs.declared.filter.Filter.TheFolds.{fold-roll-Filter}
use Rattle.table_rows.specs.declared.filter.Term.{Term}
use Rattle.table_machine.specs.declared.table.ColumnDef.{ColumnDef}
use Rattle.table_machine.specs.Logic.{all_of, any_of, negated, is_true}
use Rattle.table_rows.specs.Filters as filters
use Rattle.table_machine.specs.Machine as machine
use Rattle.table_machine.specs.Stored.{stored, is_null}
use Rattle.table_binder.specs.Bound.{left_term, bound_term, bound_step, bound_cond, bound_where}

pub and_left : (a b : Bool) → (a && b) ≡ true → a ≡ true
and_left true b h = refl
and_left false b h = h

pub and_right : (a b : Bool) → (a && b) ≡ true → b ≡ true
and_right true b h = h
and_right false b h = cc

module _ (row : List Cell) where
  truth-All : (fs : List Filter) → filters.truth row (f.All fs) ≡ all_of (map (filters.truth row) fs)
  truth-All fs = ap (filters.truth row) (sym (f.rolls-All fs)) ∙ fold-roll-Filter (Option Bool) (filters.truth_step row) (Filter-F.All fs)

  truth-Any : (fs : List Filter) → filters.truth row (f.Any fs) ≡ any_of (map (filters.truth row) fs)
  truth-Any fs = ap (filters.truth row) (sym (f.rolls-Any fs)) ∙ fold-roll-Filter (Option Bool) (filters.truth_step row) (Filter-F.Any fs)

  truth-Not : (u : Filter) → filters.truth row (f.Not u) ≡ negated (filters.truth row u)
  truth-Not u = ap (filters.truth row) (sym (f.rolls-Not u)) ∙ fold-roll-Filter (Option Bool) (filters.truth_step row) (Filter-F.Not u)

  truth-Compare : (a : Term) (o : Op) (b : Term) → filters.truth row (f.Compare a o b) ≡ filters.compared row a o b
  truth-Compare a o b = ap (filters.truth row) (sym (f.rolls-Compare a o b)) ∙ fold-roll-Filter (Option Bool) (filters.truth_step row) (Filter-F.Compare a o b)

  truth-Within : (a : Term) (list : List Term) → filters.truth row (f.Within a list) ≡ filters.within row a list
  truth-Within a list = ap (filters.truth row) (sym (f.rolls-Within a list)) ∙ fold-roll-Filter (Option Bool) (filters.truth_step row) (Filter-F.Within a list)

  truth-Null : (k : ℕ) → filters.truth row (f.Null k) ≡ Some (is_null (filters.cell_at row k))
  truth-Null k = ap (filters.truth row) (sym (f.rolls-Null k)) ∙ fold-roll-Filter (Option Bool) (filters.truth_step row) (Filter-F.Null k)

module _ (given : List Operand) (columns : List ColumnDef) (row : List Cell) where
  abbrev now : Cond → Option Bool
  now = machine.truth (stored given) columns row

  abbrev then' : Cond → Option Bool
  then' cond = filters.truth row (bound_cond given columns cond)

  abbrev P : Cond → Type 0
  P cond = is_shaped cond ≡ true → then' cond ≡ now cond

  side : (beside o : Operand) → filters.term_cell row (bound_term given columns beside o) ≡ machine.operand_cell (stored given) columns row (machine.kind_beside (stored given) columns beside) o
  side beside (operand.Column name) = refl
  side beside (operand.Prefix33 name) = refl
  side beside (operand.Text text) = refl
  side beside (operand.Number n) = refl
  side beside operand.NullValue = refl
  side beside (operand.Parameter n) = refl

  left : (a b : Operand) → is_left a ≡ true → filters.term_cell row (left_term columns a) ≡ machine.operand_cell (stored given) columns row (machine.kind_beside (stored given) columns b) a
  left (operand.Column name) b h = refl
  left (operand.Prefix33 name) b h = refl
  left (operand.Text text) b h = cc
  left (operand.Number n) b h = cc
  left operand.NullValue b h = cc
  left (operand.Parameter n) b h = cc

  compares : (o : Op) (s t : Term) (a b : Operand)
      → filters.term_cell row s ≡ machine.operand_cell (stored given) columns row (machine.kind_beside (stored given) columns b) a
      → filters.term_cell row t ≡ machine.operand_cell (stored given) columns row (machine.kind_beside (stored given) columns a) b
      → filters.compared row s o t ≡ machine.compared (stored given) columns row a o b
  compares o s t a b h k = rw (h, k) refl

  listed : (a : Operand) → is_left a ≡ true → (bs : List Operand)
      → map (λ t. filters.compared row (left_term columns a) op.Eq t) (map (bound_term given columns a) bs) ≡ map (λ b. machine.compared (stored given) columns row a op.Eq b) bs
  listed a h [] = refl
  listed a h (b ∷ bs) = let d = compares op.Eq (left_term columns a) (bound_term given columns a b) a b (left a b h) (side a b) in let e = listed a h bs in cc

  each : (ys : List ((c : Cond) × P c)) → list_all (λ b. b) (map is_shaped (map (λ e. e.0) ys)) ≡ true →
      map (filters.truth row) (map (bound_cond given columns) (map (λ e. e.0) ys)) ≡ map now (map (λ e. e.0) ys)
  each [] h = refl
  each (y ∷ ys) h =
      let a = y.1 (and_left (is_shaped y.0) (list_all (λ b. b) (map is_shaped (map (λ e. e.0) ys))) h) in
      let b = each ys (and_right (is_shaped y.0) (list_all (λ b. b) (map is_shaped (map (λ e. e.0) ys))) h) in
      cc

  -- both at one layer
  abbrev layer : Cond-F Cond → Type 0
  layer x = filters.truth row (bound_step given columns (map-Cond Cond Filter (bound_cond given columns) x)) ≡ machine.truth_step (stored given) columns row (map-Cond Cond (Option Bool) now x)

  joined : (x : Cond-F Cond) → layer x → then' (roll-Cond x) ≡ now (roll-Cond x)
  joined x e = ap (filters.truth row) (fold-roll-Cond Filter (bound_step given columns) x) ∙ e ∙ sym (fold-roll-Cond (Option Bool) (machine.truth_step (stored given) columns row) x)

  at : (y : Cond-F ((c : Cond) × P c)) → P (roll-Cond (map-Cond ((c : Cond) × P c) Cond (λ e. e.0) y))
  at y h = joined (map-Cond _ Cond (λ e. e.0) y) (by y (sym (fold-roll-Cond Bool shaped_step (map-Cond _ Cond (λ e. e.0) y)) ∙ h))
    where
      by : (y : Cond-F ((c : Cond) × P c)) → shaped_step (map-Cond Cond Bool is_shaped (map-Cond ((c : Cond) × P c) Cond (λ e. e.0) y)) ≡ true →
          layer (map-Cond ((c : Cond) × P c) Cond (λ e. e.0) y)
      by (Cond-F.And ys) h = truth-All row _ ∙ ap all_of (each ys (and_right (has_two (map is_shaped (map (λ e. e.0) ys))) _ h))
      by (Cond-F.Or ys) h = truth-Any row _ ∙ ap any_of (each ys (and_right (has_two (map is_shaped (map (λ e. e.0) ys))) _ h))
      by (Cond-F.Not y) h = truth-Not row _ ∙ ap negated (y.1 h)
      by (Cond-F.Compare a o b) h = truth-Compare row _ o _ ∙ compares o (bound_term given columns b a) (bound_term given columns a b) a b (side b a) (side a b)
      by (Cond-F.Within a list) h = truth-Within row _ _ ∙ ap any_of (listed a (and_left (is_left a) _ h) list)
      by (Cond-F.Null name) h = truth-Null row _

  pub truth-bound : (cond : Cond) → is_shaped cond ≡ true → then' cond ≡ now cond
  truth-bound = ind-Cond P (λ x y is. subst (λ z. P (roll-Cond z)) is (at y))

  pub passes-bound : (cond : Option Cond) → all_shaped cond ≡ true → filters.passes (bound_where given columns cond) row ≡ machine.passes (stored given) columns cond row
  passes-bound None h = refl
  passes-bound (Some cond) h = ap is_true (truth-bound cond h)
