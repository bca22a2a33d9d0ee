-- The key of a table after a change.
use Rattle.std.proofs.Common.{◌≡◌, ℕ, List, [], ◌++◌, refl, ap, ◌∙◌, Option, Some, None}
use Rattle.std.specs.Prelude.{option_map, slice_index_or}
use Rattle.table_machine.specs.declared.cell.Cell.TheVariants as cells
use Rattle.std.proofs.lemmas.List.{map-append}
use Rattle.sql_tree.specs.declared.condition.Operand.{Operand}
use Rattle.table_machine.specs.declared.cell.Cell.{Cell}
use Rattle.table_machine.specs.declared.table.ColumnDef.{ColumnDef}
use Rattle.table_machine.specs.declared.table.LabFault.{LabFault}
use Rattle.table_machine.specs.declared.table.TableDef.{TableDef}
use Rattle.table_machine.specs.declared.table.Outcome.TheVariants as outcome
use Rattle.table_machine.specs.Faults.{broken_fault, key_name, key_fault}
use Rattle.table_machine.specs.Stored.{stored}
use Rattle.table_machine.specs.Tables.{change, unless, told}
use Rattle.table_store.specs.Keys.{broken_stored}
use Rattle.table_store.specs.Changing.{KeyHolds, keys_in, fault_at, behind_fault, new_fault}
use Rattle.table_store.proofs.Broken.{broken_given, broken_append}

pub none_inside : {A B : Type 0} (f : A → B) (o : Option A) → option_map f o ≡ None → o ≡ None
none_inside f None e = refl
none_inside f (Some a) e = cc

-- the fault of a key, whatever is given for parameters
pub key_given : (given : List Operand) (columns : List ColumnDef) (key : Option ℕ) (rows : List (List Cell)) → key_fault (stored given) columns key rows ≡ key_fault (stored []) columns key rows
key_given given columns None rows = refl
key_given given columns (Some k) rows = ap (option_map (broken_fault (key_name (stored []) columns k))) (broken_given given [] (keys_in k rows))

-- new rows behind rows whose key holds
pub insert_key : (def : TableDef) (rows new : List (List Cell)) → KeyHolds def rows → key_fault (stored []) def.columns def.key (rows ++ new) ≡ new_fault def rows new
insert_key def rows new holds = at def.key holds
  where
    at : (key : Option ℕ) → key_fault (stored []) def.columns key rows ≡ None → key_fault (stored []) def.columns key (rows ++ new) ≡ fault_at def key (behind_fault def rows new)
    at None holds = refl
    at (Some k) holds =
        ap (option_map (broken_fault (key_name (stored []) def.columns k)))
        (ap (broken_stored []) (map-append (λ row. slice_index_or row k cells.Null) rows new) ∙ broken_append [] (keys_in k rows) (keys_in k new) (none_inside (broken_fault (key_name (stored []) def.columns k)) (broken_stored [] (keys_in k rows)) holds))

-- a change that the key allows, or that it doesn't
pub change_stands : (given : List Operand) (def : TableDef) (n : ℕ) (changed rows : List (List Cell)) → key_fault (stored []) def.columns def.key changed ≡ None
    → (told (change (stored given) def n changed rows).answer ≡ outcome.Count n) × ((change (stored given) def n changed rows).rows ≡ changed)
change_stands given def n changed rows e =
    let k = key_given given def.columns def.key changed ∙ e in
    (ap (λ f. told (unless (stored given) f n changed rows).answer) k, ap (λ f. (unless (stored given) f n changed rows).rows) k)

pub change_fails : (given : List Operand) (def : TableDef) (n : ℕ) (changed rows : List (List Cell)) (f : LabFault) → key_fault (stored []) def.columns def.key changed ≡ Some f
    → (told (change (stored given) def n changed rows).answer ≡ outcome.Fault f) × ((change (stored given) def n changed rows).rows ≡ rows)
change_fails given def n changed rows f e =
    let k = key_given given def.columns def.key changed ∙ e in
    (ap (λ o. told (unless (stored given) o n changed rows).answer) k, ap (λ o. (unless (stored given) o n changed rows).rows) k)
