-- What a map of cells has to respect, so that a statement on mapped rows is the map of the statement on the rows.
use Rattle.std.specs.Prelude.{ℕ, ◌≡◌, Bool, true, List, [], ◌∷◌, ◌++◌, map, length, Option, Some, None, option_map}
use Rattle.std.specs.List.{AllByRecursion}
use Rattle.sql_tree.specs.declared.condition.Op.{Op}
use Rattle.sql_tree.specs.declared.condition.Op.TheVariants as op
use Rattle.sql_tree.specs.declared.condition.Operand.{Operand}
use Rattle.sql_tree.specs.declared.condition.Cond.{Cond}
use Rattle.sql_tree.specs.declared.condition.Cond.TheOpen.{Cond-F}
use Rattle.sql_tree.specs.declared.condition.Cond.TheFolds.{fold-Cond}
use Rattle.sql_tree.specs.declared.condition.Cond.TheViews.{roll-Cond}
use Rattle.sql_tree.specs.declared.statement.Items.{Items}
use Rattle.sql_tree.specs.declared.statement.OrderKey.{OrderKey}
use Rattle.sql_tree.specs.declared.statement.SetPair.{SetPair}
use Rattle.table_machine.specs.declared.table.ColumnDef.{ColumnDef}
use Rattle.table_machine.specs.Columns.{kind_of, listed}
use Rattle.table_machine.specs.Machine.{Cells, cell_read, compared, kept, before, select, insert, update, delete}
use Rattle.table_machine.specs.Sort.{stable_sort}

abbrev pub concat : {A : Type 0} → List (List A) → List A
concat [] = []
concat (xs ∷ xss) = xs ++ concat xss

-- ---- the comparisons that a condition makes

pub record Comparison : Type 0 where
  pub left : Operand
  pub by : Op
  pub right : Operand

abbrev pub comparisons_step : Cond-F (List Comparison) → List Comparison
comparisons_step (Cond-F.And us) = concat us
comparisons_step (Cond-F.Or us) = concat us
comparisons_step (Cond-F.Not us) = us
comparisons_step (Cond-F.Compare a o b) = record { left = a; by = o; right = b } ∷ []
comparisons_step (Cond-F.Within a list) = map (λ b. record { left = a; by = op.Eq; right = b }) list
comparisons_step (Cond-F.Null name) = []

abbrev pub comparisons : Cond → List Comparison
comparisons = fold-Cond (List Comparison) comparisons_step

abbrev pub comparisons_of : Option Cond → List Comparison
comparisons_of None = []
comparisons_of (Some cond) = comparisons cond

-- ---- a statement's parts with other operands

module _ (g : Operand → Operand) where
  abbrev pub rewritten_step : Cond-F Cond → Cond-F Cond
  rewritten_step (Cond-F.Compare a o b) = Cond-F.Compare (g a) o (g b)
  rewritten_step (Cond-F.Within a list) = Cond-F.Within (g a) (map g list)
  rewritten_step (Cond-F.And cs) = Cond-F.And cs
  rewritten_step (Cond-F.Or cs) = Cond-F.Or cs
  rewritten_step (Cond-F.Not c) = Cond-F.Not c
  rewritten_step (Cond-F.Null name) = Cond-F.Null name

  abbrev pub rewritten : Cond → Cond
  rewritten = fold-Cond Cond (λ x. roll-Cond (rewritten_step x))

  abbrev pub rewritten_of : Option Cond → Option Cond
  rewritten_of cond = option_map rewritten cond

  abbrev pub set_rewritten : SetPair → SetPair
  set_rewritten p = record { column = p.column; value = g p.value }

-- ---- what the map respects

module _ {C D : Type 0} (cells : Cells C) (others : Cells D) (f : C → D) (g : Operand → Operand) (columns : List ColumnDef) where
  pub record Carries : Type 0 where
    pub null : f cells.null ≡ others.null
    pub is_null : (c : C) → others.is_null (f c) ≡ cells.is_null c
    pub count : (n : ℕ) → f (cells.count n) ≡ others.count n

  -- a comparison of the mapped row has the row's answer
  abbrev pub Respects : List C → Comparison → Type 0
  Respects row u = compared others columns (map f row) (g u.left) u.by (g u.right) ≡ compared cells columns row u.left u.by u.right

  abbrev pub RespectsAll : Option Cond → List (List C) → Type 0
  RespectsAll cond rows = AllByRecursion (λ row. AllByRecursion (Respects row) (comparisons_of cond)) rows

  -- the order of the rows by the keys is that of the mapped rows
  abbrev pub KeepsOrder : List OrderKey → List (List C) → Type 0
  KeepsOrder keys rows = (good : List C → Bool) × AllByRecursion (λ r. good r ≡ true) rows
      × ((r s : List C) → good r ≡ true → good s ≡ true → before others columns keys (map f r) (map f s) ≡ before cells columns keys r s)

  -- a value that is written to a column is read as the map of its cell
  abbrev pub ReadsAs : List ℕ → Operand → Type 0
  ReadsAs name o = cell_read others (others.read (kind_of columns name) (g o)) ≡ f (cell_read cells (cells.read (kind_of columns name) o))

  abbrev pub ReadsNamed : List (List ℕ) → List Operand → Type 0
  ReadsNamed [] values = Unit {0}
  ReadsNamed (name ∷ names) [] = Unit {0}
  ReadsNamed (name ∷ names) (v ∷ values) = ReadsAs name v × ReadsNamed names values

  abbrev pub SetsAs : SetPair → Type 0
  SetsAs p = ReadsAs p.column p.value

  -- ---- the laws

  abbrev pub WhereCarried : Type 0
  WhereCarried = Carries → (cond : Option Cond) (rows : List (List C)) → RespectsAll cond rows
      → kept others columns (rewritten_of g cond) (map (map f) rows) ≡ map (map f) (kept cells columns cond rows)

  abbrev pub SortCarried : Type 0
  SortCarried = (keys : List OrderKey) (rows : List (List C)) → KeepsOrder keys rows
      → stable_sort (before others columns keys) (map (map f) rows) ≡ map (map f) (stable_sort (before cells columns keys) rows)

  abbrev pub SelectCarried : Type 0
  SelectCarried = Carries → (all : Items) (cond : Option Cond) (keys : List OrderKey) (limit offset : Option ℕ) (rows : List (List C)) → RespectsAll cond rows → KeepsOrder keys rows
      → select others columns all (rewritten_of g cond) keys limit offset (map (map f) rows) ≡ map (map f) (select cells columns all cond keys limit offset rows)

  abbrev pub CountCarried : Type 0
  CountCarried = Carries → (cond : Option Cond) (rows : List (List C)) → RespectsAll cond rows
      → length (kept others columns (rewritten_of g cond) (map (map f) rows)) ≡ length (kept cells columns cond rows)

  abbrev pub InsertCarried : Type 0
  InsertCarried = Carries → (names : Option (List (List ℕ))) (new : List (List Operand)) (rows : List (List C)) → AllByRecursion (ReadsNamed (listed columns names)) new
      → insert others columns names (map (map g) new) (map (map f) rows) ≡ map (map f) (insert cells columns names new rows)

  abbrev pub UpdateCarried : Type 0
  UpdateCarried = Carries → (sets : List SetPair) (cond : Option Cond) (rows : List (List C)) → RespectsAll cond rows → AllByRecursion SetsAs sets
      → update others columns (map (set_rewritten g) sets) (rewritten_of g cond) (map (map f) rows) ≡ map (map f) (update cells columns sets cond rows)

  abbrev pub DeleteCarried : Type 0
  DeleteCarried = Carries → (cond : Option Cond) (rows : List (List C)) → RespectsAll cond rows
      → delete others columns (rewritten_of g cond) (map (map f) rows) ≡ map (map f) (delete cells columns cond rows)
