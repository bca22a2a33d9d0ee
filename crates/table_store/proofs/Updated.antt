-- What an UPDATE leaves.
use Rattle.std.proofs.Common.{◌≡◌, ℕ, zero, suc, Bool, true, false, cond, List, [], ◌∷◌, ◌++◌, map, refl, sym, ap, ◌∙◌, Option, Some, None, Result, Ok, Err, inl, inr, true≢false}
use Rattle.std.specs.Prelude.{option_map, slice_index_or, slice_set, ◌==◌, ◌||◌}
use Rattle.std.proofs.lemmas.Bool.{cases_Bool, eq-eqb}
use Rattle.sql_tree.specs.declared.condition.Cond.{Cond}
use Rattle.sql_tree.specs.declared.condition.Operand.{Operand}
use Rattle.sql_tree.specs.declared.statement.SetPair.{SetPair}
use Rattle.table_binder.specs.declared.refusal.BindRefusal.{BindRefusal}
use Rattle.table_binder.specs.declared.refusal.BindRefusal.TheVariants as bind
use Rattle.table_binder.specs.declared.sets.SetCell.{SetCell}
use Rattle.table_binder.specs.Binding.{IsBound}
use Rattle.table_binder.specs.Sets.{set_cells}
use Rattle.table_machine.specs.declared.cell.Cell.{Cell}
use Rattle.table_machine.specs.declared.cell.Cell.TheVariants as cells
use Rattle.table_rows.specs.declared.filter.Filter.{Filter}
use Rattle.table_machine.specs.declared.table.LabFault.{LabFault}
use Rattle.table_machine.specs.declared.table.TableDef.{TableDef}
use Rattle.table_machine.specs.Faults.{Place, or_else, first_unread, place_fault, broken_fault, key_name, key_fault}
use Rattle.table_rows.specs.Filters as filters
use Rattle.table_machine.specs.Machine as machine
use Rattle.table_machine.specs.Stored.{stored}
use Rattle.table_store.specs.Keys.{broken_stored}
use Rattle.table_store.specs.Changing.{KeyHolds, keys_in, fault_at, set_fault, changed_fault, replacement, chosen, chosen_rows, sets_place}
use Rattle.table_machine.specs.declared.table.Outcome.{Outcome}
use Rattle.table_machine.specs.declared.table.Outcome.TheVariants as outcome
use Rattle.table_machine.specs.Tables.{Answer, change, told}
use Rattle.table_store.specs.Doing.{IsDone}
use Rattle.table_store.specs.Updating.{BindsUpdate}
use Rattle.table_store.proofs.Keyed.{change_stands, change_fails}

or_assoc : {A : Type 0} (a b c : Option A) → or_else (or_else a b) c ≡ or_else a (or_else b c)
or_assoc None b c = refl
or_assoc (Some x) b c = refl

unread_append : (given : List Operand) (xs ys : List Place) → first_unread (stored given) (xs ++ ys) ≡ or_else (first_unread (stored given) xs) (first_unread (stored given) ys)
unread_append given [] ys = refl
unread_append given (x ∷ xs) ys = ap (or_else (place_fault (stored given) x)) (unread_append given xs ys) ∙ sym (or_assoc (place_fault (stored given) x) (first_unread (stored given) xs) (first_unread (stored given) ys))

-- a binding that fails
abbrev pub Fails : Option LabFault → BindRefusal → Type 0
Fails fault (bind.Fault f) = fault ≡ Some f
Fails fault bind.NoMemory = Unit {0}

pub fails_of : {X : Type 0} (fault : Option LabFault) (r : Result X BindRefusal) (P : X → Type 0) (e : BindRefusal) → IsBound fault r P → r ≡ Err e → Fails fault e
fails_of fault (Ok x) P e h is = cc
fails_of fault (Err (bind.Fault g)) P (bind.Fault f) h is = let same : g ≡ f = cc in h ∙ ap Some same
fails_of fault (Err (bind.Fault g)) P bind.NoMemory h is = tt
fails_of fault (Err bind.NoMemory) P (bind.Fault f) h is = cc
fails_of fault (Err bind.NoMemory) P bind.NoMemory h is = tt

-- the first of two bindings fails, or the second
pub first_fails : {Y : Type 0} (given : List Operand) (xs ys : List Place) (Q : Y → Type 0) (fault : BindRefusal)
    → Fails (first_unread (stored given) xs) fault → IsBound (first_unread (stored given) (xs ++ ys)) (Err fault) Q
first_fails given xs ys Q (bind.Fault f) h = unread_append given xs ys ∙ ap (λ w. or_else w (first_unread (stored given) ys)) h
first_fails given xs ys Q bind.NoMemory h = tt

pub second_fails : {Z : Type 0} (given : List Operand) (xs ys : List Place) (Q : Z → Type 0) (fault : BindRefusal)
    → first_unread (stored given) xs ≡ None → Fails (first_unread (stored given) ys) fault → IsBound (first_unread (stored given) (xs ++ ys)) (Err fault) Q
second_fails given xs ys Q (bind.Fault f) none h = unread_append given xs ys ∙ (ap (λ w. or_else w (first_unread (stored given) ys)) none ∙ h)
second_fails given xs ys Q bind.NoMemory none h = tt

pub both_read : (given : List Operand) (xs ys : List Place) → first_unread (stored given) xs ≡ None → first_unread (stored given) ys ≡ None → first_unread (stored given) (xs ++ ys) ≡ None
both_read given xs ys a b = unread_append given xs ys ∙ (ap (λ w. or_else w (first_unread (stored given) ys)) a ∙ b)

-- ---- the rows then

module _ (given : List Operand) (def : TableDef) (pairs : List SetPair) (cd : Option Cond) (sets : List SetCell) (condition : Option Filter) (bound : BindsUpdate given def pairs cd sets condition) where
  one : (b : Bool) (row : List Cell) → chosen row (cond b (Some (set_cells sets row)) None) ≡ cond b (machine.set_all (stored given) def.columns pairs row) row
  one true row = bound.set row
  one false row = refl

  pub updated_rows : (rows : List (List Cell)) → chosen_rows rows (map (replacement condition sets) rows) ≡ machine.update (stored given) def.columns pairs cd rows
  updated_rows [] = refl
  updated_rows (row ∷ rows) =
      let e = one (filters.passes condition row) row ∙ ap (λ b. cond b (machine.set_all (stored given) def.columns pairs row) row) (bound.passes row) in
      let d = updated_rows rows in
      cc

-- ---- the key then

other_place : (row : List Cell) (p k : ℕ) (c : Cell) → (p ≡ k → ⊥) → slice_index_or (slice_set row p c) k cells.Null ≡ slice_index_or row k cells.Null
other_place [] p k c e = refl
other_place (x ∷ row) zero zero c e = absurd (e refl)
other_place (x ∷ row) zero (suc k) c e = refl
other_place (x ∷ row) (suc p) zero c e = refl
other_place (x ∷ row) (suc p) (suc k) c e = other_place row p k c (λ q. e (ap suc q))

unequal : (p k : ℕ) → (p == k) ≡ false → p ≡ k → ⊥
unequal p k e same = true≢false (sym (eq-eqb p k same) ∙ e)

neither : (a b : Bool) → (a || b) ≡ false → (a ≡ false) × (b ≡ false)
neither true b e = cc
neither false b e = (refl, e)

key_unset : (k : ℕ) (sets : List SetCell) (row : List Cell) → sets_place k sets ≡ false → filters.cell_at (set_cells sets row) k ≡ filters.cell_at row k
key_unset k [] row e = refl
key_unset k (s ∷ sets) row e =
    let p = neither (s.place == k) (sets_place k sets) e in
    key_unset k sets (slice_set row s.place s.cell) p.1 ∙ other_place row s.place k s.cell (unequal s.place k p.0)

key_kept : (k : ℕ) (sets : List SetCell) (row : List Cell) (b : Bool) → sets_place k sets ≡ false → filters.cell_at (chosen row (cond b (Some (set_cells sets row)) None)) k ≡ filters.cell_at row k
key_kept k sets row true e = key_unset k sets row e
key_kept k sets row false e = refl

keys_kept : (k : ℕ) (sets : List SetCell) (condition : Option Filter) (rows : List (List Cell)) → sets_place k sets ≡ false → keys_in k (chosen_rows rows (map (replacement condition sets) rows)) ≡ keys_in k rows
keys_kept k sets condition [] e = refl
keys_kept k sets condition (row ∷ rows) e =
    let a = key_kept k sets row (filters.passes condition row) e in
    let d = keys_kept k sets condition rows e in
    cc

-- the fault of the key of replaced rows, where the rows' key holds
pub changed_key : (def : TableDef) (sets : List SetCell) (condition : Option Filter) (rows : List (List Cell)) → KeyHolds def rows
    → key_fault (stored []) def.columns def.key (chosen_rows rows (map (replacement condition sets) rows)) ≡ changed_fault def sets (chosen_rows rows (map (replacement condition sets) rows))
changed_key def sets condition rows holds = at def.key holds (λ k e. keys_kept k sets condition rows e)
  where
    at : (key : Option ℕ) → key_fault (stored []) def.columns key rows ≡ None
        → ((k : ℕ) → sets_place k sets ≡ false → keys_in k (chosen_rows rows (map (replacement condition sets) rows)) ≡ keys_in k rows)
        → key_fault (stored []) def.columns key (chosen_rows rows (map (replacement condition sets) rows)) ≡ fault_at def key (set_fault def sets (chosen_rows rows (map (replacement condition sets) rows)))
    at None holds kept = refl
    at (Some k) holds kept = elim (cases_Bool (sets_place k sets)) [
      | inl set ↦ rw set refl
      | inr unset ↦ rw unset (ap (λ w. option_map (broken_fault (key_name (stored []) def.columns k)) (broken_stored [] w)) (kept k unset) ∙ holds)
    ]

module _ (given : List Operand) (def : TableDef) (pairs : List SetPair) (cd : Option Cond) (sets : List SetCell) (condition : Option Filter) (bound : BindsUpdate given def pairs cd sets condition)
    (rows : List (List Cell)) (holds : KeyHolds def rows) where
  key_then : key_fault (stored []) def.columns def.key (machine.update (stored given) def.columns pairs cd rows) ≡ changed_fault def sets (chosen_rows rows (map (replacement condition sets) rows))
  key_then = ap (key_fault (stored []) def.columns def.key) (sym (updated_rows given def pairs cd sets condition bound rows)) ∙ changed_key def sets condition rows holds

  pub update_fails : (n : ℕ) (f : LabFault) → changed_fault def sets (chosen_rows rows (map (replacement condition sets) rows)) ≡ Some f
      → (told (change (stored given) def n (machine.update (stored given) def.columns pairs cd rows) rows).answer ≡ outcome.Fault f) × ((change (stored given) def n (machine.update (stored given) def.columns pairs cd rows) rows).rows ≡ rows)
  update_fails n f e = change_fails given def n (machine.update (stored given) def.columns pairs cd rows) rows f (key_then ∙ e)

  pub update_stands : (n : ℕ) → changed_fault def sets (chosen_rows rows (map (replacement condition sets) rows)) ≡ None
      → (told (change (stored given) def n (machine.update (stored given) def.columns pairs cd rows) rows).answer ≡ outcome.Count n)
      × ((change (stored given) def n (machine.update (stored given) def.columns pairs cd rows) rows).rows ≡ chosen_rows rows (map (replacement condition sets) rows))
  update_stands n e =
      let p = change_stands given def n (machine.update (stored given) def.columns pairs cd rows) rows (key_then ∙ e) in
      (p.0, p.1 ∙ sym (updated_rows given def pairs cd sets condition bound rows))

-- a query's outcome as a step
pub bound_done : (fault : Option LabFault) (a : Answer Cell) (rows : List (List Cell)) (r : Result Outcome BindRefusal) → IsBound fault r (λ o. o ≡ told a) → IsDone fault (record { answer = a; rows = rows }) rows r rows
bound_done fault a rows (Ok o) h = (h.0, h.1, refl)
bound_done fault a rows (Err (bind.Fault f)) h = (h, refl)
bound_done fault a rows (Err bind.NoMemory) h = refl
