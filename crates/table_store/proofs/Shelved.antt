-- Tables joined with their rows.
use Rattle.std.proofs.Common.{◌≡◌, ◌≤◌, ◌<◌, ◌+◌, ℕ, zero, suc, cond, List, [], ◌∷◌, ◌++◌, map, length, refl, ap, ◌∙◌, arith, Option, Some, None}
use Rattle.std.specs.Prelude.{slice_get, slice_set}
use Rattle.table_machine.specs.declared.cell.Cell.{Cell}
use Rattle.table_machine.specs.declared.table.TableDef.{TableDef}
use Rattle.table_machine.specs.Columns.{place}
use Rattle.table_machine.specs.Tables.{is_table}
use Rattle.table_machine.specs.declared.table.ColumnDef.{ColumnDef}
use Rattle.table_machine.specs.Faults.{key_fault}
use Rattle.table_machine.specs.Stored.{stored}
use Rattle.std.proofs.lemmas.List.{map-append}
use Rattle.table_store.specs.Shelves.{joined, empty_table, is_def, AllHold}

abbrev Rows : Type 0
Rows = List (List Cell)

pub joined_none : (defs : List TableDef) → joined defs [] ≡ map empty_table defs
joined_none [] = refl
joined_none (def ∷ defs) = ap (λ w. empty_table def ∷ w) (joined_none defs)

-- a table stands where its definition does
pub place_joined : (name : List ℕ) (defs : List TableDef) (rows : List Rows) → place (is_table name) (joined defs rows) ≡ place (is_def name) defs
place_joined name [] rows = refl
place_joined name (def ∷ defs) [] = ap (λ w. cond (is_def name def) 0 (w + 1)) (place_joined name defs [])
place_joined name (def ∷ defs) (r ∷ rows) = ap (λ w. cond (is_def name def) 0 (w + 1)) (place_joined name defs rows)

pub past_joined : (defs : List TableDef) (rows : List Rows) (k : ℕ) → length defs ≤ k → slice_get (joined defs rows) k ≡ None
past_joined [] rows k h = refl
past_joined (def ∷ defs) [] zero h = absurd (omega arith)
past_joined (def ∷ defs) [] (suc k) h = past_joined defs [] k (omega arith)
past_joined (def ∷ defs) (r ∷ rows) zero h = absurd (omega arith)
past_joined (def ∷ defs) (r ∷ rows) (suc k) h = past_joined defs rows k (omega arith)

pub at_joined : (defs : List TableDef) (rows : List Rows) (k : ℕ) (def : TableDef) (r : Rows) → slice_get defs k ≡ Some def → slice_get rows k ≡ Some r
    → slice_get (joined defs rows) k ≡ Some (record { def = def; rows = r })
at_joined [] rows k def r d e = cc
at_joined (def' ∷ defs) [] k def r d e = cc
at_joined (def' ∷ defs) (r' ∷ rows) zero def r d e = let a : def' ≡ def = cc in let b : r' ≡ r = cc in rw (a, b) refl
at_joined (def' ∷ defs) (r' ∷ rows) (suc k) def r d e = at_joined defs rows k def r d e

pub set_joined : (defs : List TableDef) (rows : List Rows) (k : ℕ) (def : TableDef) (new : Rows) → slice_get defs k ≡ Some def → k < length rows
    → slice_set (joined defs rows) k (record { def = def; rows = new }) ≡ joined defs (slice_set rows k new)
set_joined [] rows k def new d e = cc
set_joined (def' ∷ defs) [] k def new d e = absurd (omega arith)
set_joined (def' ∷ defs) (r' ∷ rows) zero def new d e = let a : def' ≡ def = cc in rw a refl
set_joined (def' ∷ defs) (r' ∷ rows) (suc k) def new d e = ap (λ w. record { def = def'; rows = r' } ∷ w) (set_joined defs rows k def new d (omega arith))

-- a table that has no rows yet is given none
pub grow_joined : (defs : List TableDef) (rows : List Rows) → joined defs (rows ++ [] ∷ []) ≡ joined defs rows
grow_joined [] rows = refl
grow_joined (def ∷ defs) [] = refl
grow_joined (def ∷ defs) (r ∷ rows) = ap (λ w. record { def = def; rows = r } ∷ w) (grow_joined defs rows)

pub length_push : {X : Type 0} (xs : List X) (x : X) → length (xs ++ x ∷ []) ≡ length xs + 1
length_push [] x = refl
length_push (y ∷ xs) x = let e = length_push xs x in omega arith

pub grown : {X : Type 0} (view : X → Rows) (defs : List TableDef) (xs : List X) (x : X) → view x ≡ [] → joined defs (map view (xs ++ x ∷ [])) ≡ joined defs (map view xs)
grown view defs xs x e = ap (joined defs) (map-append view xs (x ∷ []) ∙ ap (λ w. map view xs ++ w ∷ []) e) ∙ grow_joined defs (map view xs)

-- tables without rows hold
empty_holds : (columns : List ColumnDef) (key : Option ℕ) → key_fault (stored []) columns key [] ≡ None
empty_holds columns None = refl
empty_holds columns (Some k) = refl

pub empty_hold : (defs : List TableDef) → AllHold (joined defs [])
empty_hold [] = tt
empty_hold (def ∷ defs) = (empty_holds def.columns def.key, empty_hold defs)
