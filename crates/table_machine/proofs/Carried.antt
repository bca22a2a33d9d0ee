-- A condition is as true of a row as its rewriting is of the mapped row.
use Rattle.std.proofs.Common.{◌≡◌, ℕ, zero, suc, Bool, List, [], ◌∷◌, ◌++◌, map, refl, ap, ◌∙◌, sym, subst, Option, Some}
use Rattle.std.specs.Prelude.{slice_index_or}
use Rattle.std.specs.List.{AllByRecursion}
use Rattle.sql_tree.specs.declared.condition.Op.TheVariants as op
use Rattle.sql_tree.specs.declared.condition.Operand.{Operand}
use Rattle.sql_tree.specs.declared.condition.Cond.{Cond}
use Rattle.sql_tree.specs.declared.condition.Cond.TheOpen.{Cond-F}
use Rattle.sql_tree.specs.declared.condition.Cond.TheFolds.{fold-roll-Cond, ind-Cond, map-Cond}
use Rattle.sql_tree.specs.declared.condition.Cond.TheViews.{roll-Cond}
use Rattle.table_machine.specs.declared.table.ColumnDef.{ColumnDef}
use Rattle.table_machine.specs.Columns.{column_place}
use Rattle.table_machine.specs.Logic.{negated, all_of, any_of}
use Rattle.table_machine.specs.Machine.{Cells, compared, cell_of, truth_step, truth}
use Rattle.table_machine.specs.Carry.{concat, Comparison, comparisons, comparisons_step, rewritten, rewritten_step, Respects, Carries}

all_left : {A : Type 0} (P : A → Type 0) (xs ys : List A) → AllByRecursion P (xs ++ ys) → AllByRecursion P xs
all_left P [] ys h = tt
all_left P (x ∷ xs) ys h = (h.0, all_left P xs ys h.1)

all_right : {A : Type 0} (P : A → Type 0) (xs ys : List A) → AllByRecursion P (xs ++ ys) → AllByRecursion P ys
all_right P [] ys h = h
all_right P (x ∷ xs) ys h = all_right P xs ys h.1

pub at_map : {C D : Type 0} (f : C → D) (row : List C) (k : ℕ) (d : C) → slice_index_or (map f row) k (f d) ≡ f (slice_index_or row k d)
at_map f [] k d = refl
at_map f (c ∷ cs) zero d = refl
at_map f (c ∷ cs) (suc k) d = at_map f cs k d

module _ {C D : Type 0} (cells : Cells C) (others : Cells D) (f : C → D) (g : Operand → Operand) (columns : List ColumnDef) (ok : Carries cells others f g columns) (row : List C) where
  abbrev R : Comparison → Type 0
  R = Respects cells others f g columns row

  abbrev now : Cond → Option Bool
  now = truth cells columns row

  abbrev then' : Cond → Option Bool
  then' = truth others columns (map f row)

  abbrev P : Cond → Type 0
  P cond = AllByRecursion R (comparisons cond) → then' (rewritten g cond) ≡ now cond

  each : (ys : List ((c : Cond) × P c)) → AllByRecursion R (concat (map comparisons (map (λ e. e.0) ys))) →
      map then' (map (rewritten g) (map (λ e. e.0) ys)) ≡ map now (map (λ e. e.0) ys)
  each [] h = refl
  each (y ∷ ys) h =
      let a = y.1 (all_left R (comparisons y.0) (concat (map comparisons (map (λ e. e.0) ys))) h) in
      let b = each ys (all_right R (comparisons y.0) (concat (map comparisons (map (λ e. e.0) ys))) h) in
      cc

  listed : (a : Operand) (bs : List Operand) → AllByRecursion R (map (λ b. record { left = a; by = op.Eq; right = b }) bs) →
      map (λ b. compared others columns (map f row) (g a) op.Eq b) (map g bs) ≡ map (λ b. compared cells columns row a op.Eq b) bs
  listed a [] h = refl
  listed a (b ∷ bs) h = let e = listed a bs h.1 in let d = h.0 in cc

  null_at : (name : List ℕ) → others.is_null (cell_of others columns (map f row) name) ≡ cells.is_null (cell_of cells columns row name)
  null_at name =
      let e : slice_index_or (map f row) (column_place columns name) others.null ≡ f (slice_index_or row (column_place columns name) cells.null) =
      subst (λ d. slice_index_or (map f row) (column_place columns name) d ≡ f (slice_index_or row (column_place columns name) cells.null)) ok.null (at_map f row (column_place columns name) cells.null) in
      ap others.is_null e ∙ ok.is_null (slice_index_or row (column_place columns name) cells.null)

  -- the three functions at one layer
  abbrev layer : Cond-F Cond → Type 0
  layer x = then' (roll-Cond (rewritten_step g (map-Cond Cond Cond (rewritten g) x))) ≡ truth_step cells columns row (map-Cond Cond (Option Bool) now x)

  joined : (x : Cond-F Cond) → layer x → then' (rewritten g (roll-Cond x)) ≡ now (roll-Cond x)
  joined x e = ap then' (fold-roll-Cond Cond (λ x. roll-Cond (rewritten_step g x)) x) ∙ e ∙ sym (fold-roll-Cond (Option Bool) (truth_step cells columns row) x)

  opened : (z : Cond-F Cond) → then' (roll-Cond z) ≡ truth_step others columns (map f row) (map-Cond Cond (Option Bool) then' z)
  opened z = fold-roll-Cond (Option Bool) (truth_step others columns (map f row)) z

  at : (y : Cond-F ((c : Cond) × P c)) → P (roll-Cond (map-Cond ((c : Cond) × P c) Cond (λ e. e.0) y))
  at y h = joined (map-Cond _ Cond (λ e. e.0) y) (by y (subst (AllByRecursion R) (fold-roll-Cond (List Comparison) comparisons_step (map-Cond _ Cond (λ e. e.0) y)) h))
    where
      by : (y : Cond-F ((c : Cond) × P c)) → AllByRecursion R (comparisons_step (map-Cond Cond (List Comparison) comparisons (map-Cond ((c : Cond) × P c) Cond (λ e. e.0) y))) →
          layer (map-Cond ((c : Cond) × P c) Cond (λ e. e.0) y)
      by (Cond-F.And ys) h = opened _ ∙ ap all_of (each ys h)
      by (Cond-F.Or ys) h = opened _ ∙ ap any_of (each ys h)
      by (Cond-F.Not y) h = opened _ ∙ ap negated (y.1 h)
      by (Cond-F.Compare a o b) h = opened _ ∙ h.0
      by (Cond-F.Within a list) h = opened _ ∙ ap any_of (listed a list h)
      by (Cond-F.Null k) h = opened _ ∙ ap Some (null_at k)

  pub truth-carried : (cond : Cond) → AllByRecursion R (comparisons cond) → then' (rewritten g cond) ≡ now cond
  truth-carried = ind-Cond P (λ x y is. subst (λ z. P (roll-Cond z)) is (at y))
