-- What a served statement does to notes, over any kind of cells.
use Rattle.std.proofs.Common.{◌≡◌, ℕ, pos, Bool, true, false, List, [], ◌∷◌, ◌++◌, map, filter, Option, Some, None, refl, sym, ap, ◌∙◌}
use Rattle.acra_base.specs.declared.kind.ValueKind.TheVariants as kind
use Rattle.sql_tree.specs.declared.condition.Operand.{Operand}
use Rattle.sql_tree.specs.declared.condition.Operand.TheVariants as operand
use Rattle.sql_tree.specs.declared.statement.Items.TheVariants as select
use Rattle.table_machine.specs.declared.table.LabFault.{LabFault}
use Rattle.table_machine.specs.Faults.{fault, or_else, read_fault}
use Rattle.table_machine.specs.Machine.{Cells, Read, value, cell_read, insert, found, before, item_cells, kept}
use Rattle.table_machine.specs.Sort.{put, stable_sort}
use Rattle.table_machine.specs.Tables.{Table, Answer, answered, executed, out_columns, step_unless}
use Rattle.session_model.specs.Notes.{id, body, notes_columns, notes_def, notes_with}
use Rattle.session_model.proofs.Parts.{Column, Chosen, Served, items_of, list_of, inserting, tree_of}

module _ {C : Type 0} (cells : Cells C) where
  -- ---- SELECT

  put_first : (row : List C) (rows : List (List C)) → put (before cells notes_columns []) row rows ≡ row ∷ rows
  put_first row [] = refl
  put_first row (next ∷ rows) = refl

  -- without keys the order stays
  unsorted : (rows : List (List C)) → stable_sort (before cells notes_columns []) rows ≡ rows
  unsorted [] = refl
  unsorted (row ∷ rows) = ap (put (before cells notes_columns []) row) (unsorted rows) ∙ put_first row rows

  -- without a condition each row is kept
  all_kept : (rows : List (List C)) → kept cells notes_columns None rows ≡ rows
  all_kept [] = refl
  all_kept (row ∷ rows) = ap (λ (more : List (List C)). row ∷ more) (all_kept rows)

  all_found : (rows : List (List C)) → found cells notes_columns None [] rows ≡ rows
  all_found rows = ap (stable_sort (before cells notes_columns [])) (all_kept rows) ∙ unsorted rows

  select_faultless : (chosen : Chosen) → fault cells notes_columns (tree_of (Served.Selects chosen)) ≡ None
  select_faultless (Chosen.One Column.Id) = refl
  select_faultless (Chosen.One Column.Body) = refl
  select_faultless (Chosen.Two Column.Id Column.Id) = refl
  select_faultless (Chosen.Two Column.Id Column.Body) = refl
  select_faultless (Chosen.Two Column.Body Column.Id) = refl
  select_faultless (Chosen.Two Column.Body Column.Body) = refl

  pub select_executed : (chosen : Chosen) (rows : List (List C)) → executed cells (tree_of (Served.Selects chosen)) (notes_with rows) ≡ notes_with rows
  select_executed chosen rows =
      ap (λ (f : Option LabFault). notes_with (step_unless cells f 0 notes_def (tree_of (Served.Selects chosen)) rows).rows) (select_faultless chosen)

  pub select_answered : (chosen : Chosen) (rows : List (List C)) → answered cells (tree_of (Served.Selects chosen)) (notes_with rows)
      ≡ Answer.Rows (out_columns 0 notes_columns (select.Columns (items_of chosen))) (map (item_cells cells notes_columns (items_of chosen)) rows)
  select_answered chosen rows =
      ap (λ (f : Option LabFault). (step_unless cells f 0 notes_def (tree_of (Served.Selects chosen)) rows).answer) (select_faultless chosen)
      ∙ ap (λ (rs : List (List C)). Answer.Rows (out_columns 0 notes_columns (select.Columns (items_of chosen))) (map (item_cells cells notes_columns (items_of chosen)) rs)) (all_found rows)

  -- ---- INSERT

  -- the cells as which its values are read
  pub record AreRead (n : ℕ) (v : Operand) (a b : C) : Type 0 where
    pub number : cells.read kind.Int64 (operand.Number (pos n)) ≡ value a
    pub other : cells.read kind.Bytes v ≡ value b

  abbrev fault_of_reads : Read C → Read C → Option LabFault
  fault_of_reads x y = or_else (read_fault cells id x) (or_else (read_fault cells body y) None)

  fault_is : (listed : Bool) (n : ℕ) (v : Operand) → fault cells notes_columns (inserting listed n v) ≡ fault_of_reads (cells.read kind.Int64 (operand.Number (pos n))) (cells.read kind.Bytes v)
  fault_is true n v = refl
  fault_is false n v = refl

  insert_faultless : (listed : Bool) (n : ℕ) (v : Operand) (a b : C) → AreRead n v a b → fault cells notes_columns (inserting listed n v) ≡ None
  insert_faultless listed n v a b reads =
      fault_is listed n v
      ∙ ap (λ (x : Read C). fault_of_reads x (cells.read kind.Bytes v)) reads.number
      ∙ ap (λ (y : Read C). fault_of_reads (value a) y) reads.other

  abbrev row_of_reads : Read C → Read C → List C
  row_of_reads x y = cell_read cells x ∷ cell_read cells y ∷ []

  row_is : (listed : Bool) (n : ℕ) (v : Operand) (rows : List (List C)) → insert cells notes_columns (list_of listed) ((operand.Number (pos n) ∷ v ∷ []) ∷ []) rows
      ≡ rows ++ row_of_reads (cells.read kind.Int64 (operand.Number (pos n))) (cells.read kind.Bytes v) ∷ []
  row_is true n v rows = refl
  row_is false n v rows = refl

  insert_row : (listed : Bool) (n : ℕ) (v : Operand) (a b : C) (rows : List (List C)) → AreRead n v a b → insert cells notes_columns (list_of listed) ((operand.Number (pos n) ∷ v ∷ []) ∷ []) rows ≡ rows ++ (a ∷ b ∷ []) ∷ []
  insert_row listed n v a b rows reads =
      row_is listed n v rows
      ∙ ap (λ (x : Read C). rows ++ row_of_reads x (cells.read kind.Bytes v) ∷ []) reads.number
      ∙ ap (λ (y : Read C). rows ++ row_of_reads (value a) y ∷ []) reads.other

  pub insert_executed : (listed : Bool) (n : ℕ) (v : Operand) (a b : C) (rows : List (List C)) → AreRead n v a b → executed cells (inserting listed n v) (notes_with rows) ≡ notes_with (rows ++ (a ∷ b ∷ []) ∷ [])
  insert_executed listed n v a b rows reads =
      ap (λ (f : Option LabFault). notes_with (step_unless cells f 0 notes_def (inserting listed n v) rows).rows) (insert_faultless listed n v a b reads)
      ∙ ap notes_with (insert_row listed n v a b rows reads)

  pub insert_answered : (listed : Bool) (n : ℕ) (v : Operand) (a b : C) (rows : List (List C)) → AreRead n v a b → answered cells (inserting listed n v) (notes_with rows) ≡ Answer.Count 1
  insert_answered listed n v a b rows reads =
      ap (λ (f : Option LabFault). (step_unless cells f 0 notes_def (inserting listed n v) rows).answer) (insert_faultless listed n v a b reads)
