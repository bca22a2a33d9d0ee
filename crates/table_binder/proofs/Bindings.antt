-- Bound parts do what the parts of the statement do.
use Rattle.std.proofs.Common.{◌≡◌, ◌∙◌, ap, sym, subst, refl, arith, ℕ, zero, suc, ◌≤◌, min, List, [], ◌∷◌, map, length, drop, Option, Result, Ok, Err}
use Rattle.std.specs.Prelude.{IfOk}
use Rattle.std.specs.declared.cmp.Ordering.{Ordering}
use Rattle.std.specs.Ordering.{is_lt, then_cmp}
use Rattle.sql_tree.specs.declared.condition.Operand.{Operand}
use Rattle.sql_tree.specs.declared.statement.OrderKey.{OrderKey}
use Rattle.sql_tree.specs.declared.statement.SetPair.{SetPair}
use Rattle.table_machine.specs.declared.cell.Cell.{Cell}
use Rattle.table_machine.specs.declared.table.ColumnDef.{ColumnDef}
use Rattle.table_rows.specs.declared.sorting.SortKey.{SortKey}
use Rattle.table_binder.specs.declared.sets.SetCell.{SetCell}
use Rattle.table_machine.specs.declared.table.LabFault.{LabFault}
use Rattle.table_machine.specs.Faults.{row_places, first_unread, insert_places}
use Rattle.table_machine.specs.Columns.{listed}
use Rattle.std.specs.List.{flat_map}
use Rattle.table_rows.specs.Filters as filters
use Rattle.table_machine.specs.Machine as machine
use Rattle.table_machine.specs.Stored.{stored}
use Rattle.table_binder.specs.declared.refusal.BindRefusal.{BindRefusal}
use Rattle.table_binder.specs.declared.refusal.BindRefusal.TheVariants as why
use Rattle.table_binder.specs.Binding.{IsBound}
use Rattle.table_binder.specs.Keys.{bound_key}
use Rattle.table_binder.specs.Sets.{set_cells, bound_set}

pub ok_as : {X E : Type 0} (P Q : X → Type 0) → ((x : X) → P x → Q x) → (r : Result X E) → IfOk r P → IfOk r Q
ok_as P Q f (Ok x) h = f x h
ok_as P Q f (Err e) h = tt

pub bound_as : {X : Type 0} (fault : Option LabFault) (P Q : X → Type 0) → ((x : X) → P x → Q x) → (r : Result X BindRefusal) → IsBound fault r P → IsBound fault r Q
bound_as fault P Q f (Ok x) h = (h.0, f x h.1)
bound_as fault P Q f (Err (why.Fault e)) h = h
bound_as fault P Q f (Err why.NoMemory) h = tt

keys_alike : (columns : List ColumnDef) (given : List Operand) (order : List OrderKey) → filters.by_keys (map (bound_key columns) order) ≡ machine.by_keys (stored given) columns order
keys_alike columns given [] = refl
keys_alike columns given (k ∷ ks) = ap (then_cmp (machine.by_key (stored given) columns k)) (keys_alike columns given ks)

pub before_alike : (columns : List ColumnDef) (order : List OrderKey) (keys : List SortKey) → keys ≡ map (bound_key columns) order → (given : List Operand) (r s : List Cell)
    → filters.before keys r s ≡ machine.before (stored given) columns order r s
before_alike columns order keys h given r s = ap (λ ks. filters.before ks r s) h ∙ ap (λ (f : List Cell → List Cell → Ordering). is_lt (f r s)) (keys_alike columns given order)

sets_alike : (given : List Operand) (columns : List ColumnDef) (sets : List SetPair) (row : List Cell) → set_cells (map (bound_set given columns) sets) row ≡ machine.set_all (stored given) columns sets row
sets_alike given columns [] row = refl
sets_alike given columns (p ∷ ps) row = sets_alike given columns ps (machine.set_cell (stored given) columns p.column p.value row)

pub set_alike : (given : List Operand) (columns : List ColumnDef) (sets : List SetPair) (bound : List SetCell) → bound ≡ map (bound_set given columns) sets → (row : List Cell)
    → set_cells bound row ≡ machine.set_all (stored given) columns sets row
set_alike given columns sets bound h row = ap (λ ss. set_cells ss row) h ∙ sets_alike given columns sets row

-- rows under the names that are listed
pub under_listed : {X : Type 0} (items : X → List (List Cell)) (columns : List ColumnDef) (given : List Operand) (names : Option (List (List ℕ))) (all : List (List ℕ)) (rows : List (List Operand)) (r : Result X BindRefusal)
    → listed columns names ≡ all
    → IsBound (first_unread (stored given) (flat_map (row_places columns all) rows)) r (λ new. items new ≡ map (machine.new_row (stored given) columns all) rows)
    → IsBound (first_unread (stored given) (insert_places columns names rows)) r (λ new. items new ≡ map (machine.new_row (stored given) columns (listed columns names)) rows)
under_listed items columns given names all rows r e h =
    subst (λ (ns : List (List ℕ)). IsBound (first_unread (stored given) (flat_map (row_places columns ns) rows)) r (λ new. items new ≡ map (machine.new_row (stored given) columns ns) rows)) (sym e) h

-- ---- a row at its end

no_places : (columns : List ColumnDef) (names : List (List ℕ)) → row_places columns names [] ≡ []
no_places columns [] = refl
no_places columns (n ∷ ns) = refl

pub places_done : {N : Type 0} (name : N → List ℕ) (columns : List ColumnDef) (names : List N) (values : List Operand) (i : ℕ) → min (length names) (length values) ≤ i
    → row_places columns (map name (drop i names)) (drop i values) ≡ []
places_done name columns [] values zero h = refl
places_done name columns (n ∷ ns) [] zero h = refl
places_done name columns (n ∷ ns) (v ∷ vs) zero h = absurd (omega arith)
places_done name columns [] values (suc i) h = refl
places_done name columns (n ∷ ns) [] (suc i) h = no_places columns (map name (drop i ns))
places_done name columns (n ∷ ns) (v ∷ vs) (suc i) h = places_done name columns ns vs i (omega arith)

module _ (given : List Operand) (columns : List ColumnDef) where
  no_values : (names : List (List ℕ)) (row : List Cell) → machine.set_named (stored given) columns names [] row ≡ row
  no_values [] row = refl
  no_values (n ∷ ns) row = refl

  pub values_done : {N : Type 0} (name : N → List ℕ) (names : List N) (values : List Operand) (i : ℕ) (row : List Cell) → min (length names) (length values) ≤ i
      → machine.set_named (stored given) columns (map name (drop i names)) (drop i values) row ≡ row
  values_done name [] values zero row h = refl
  values_done name (n ∷ ns) [] zero row h = refl
  values_done name (n ∷ ns) (v ∷ vs) zero row h = absurd (omega arith)
  values_done name [] values (suc i) row h = refl
  values_done name (n ∷ ns) [] (suc i) row h = no_values (map name (drop i ns)) row
  values_done name (n ∷ ns) (v ∷ vs) (suc i) row h = values_done name ns vs i row (omega arith)
