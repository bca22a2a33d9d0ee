-- A table whose rows come into another order, among the others.
use Rattle.std.proofs.Common.{◌≡◌, ◌≤◌, ◌<◌, ◌↔◌, ℕ, zero, suc, arith, Bool, true, false, true≢false, cond, List, [], ◌∷◌, length, refl, sym, ap, ◌∙◌, subst, Some, Result, Ok, Err}
use Rattle.std.specs.Prelude.{slice_get, slice_set, IfOk, OnErr}
use Rattle.table_machine.specs.declared.cell.Cell.{Cell}
use Rattle.table_machine.specs.declared.table.TableDef.{TableDef}
use Rattle.table_machine.specs.Reordered.{IsPermutationOf, rows_at, CanReorder, with_rows_at, reordered}
use Rattle.table_machine.specs.Tables.{Table}
use Rattle.table_store.specs.Changing.{KeyHolds}
use Rattle.table_store.specs.Shelves.{joined, AllHold}
use Rattle.table_store.proofs.Executed.{set_same, all_set, hold_at}
use Rattle.table_store.proofs.Shelved.{past_joined, at_joined, set_joined}
use Rattle.table_store.proofs.Unequal.{reordered_holds}

abbrev Rows : Type 0
Rows = List (List Cell)

-- what stands at a place
pub some_at : {X : Type 0} (xs : List X) (k : ℕ) → k < length xs → (x : X) × (slice_get xs k ≡ Some x)
some_at [] k h = absurd (omega arith)
some_at (x ∷ xs) zero h = (x, refl)
some_at (x ∷ xs) (suc k) h = some_at xs k (omega arith)

-- where there is no table
pub no_table : (defs : List TableDef) (rows : List Rows) (k : ℕ) (places : List ℕ) → length defs ≤ k → (false ≡ true) ↔ CanReorder places (slice_get (joined defs rows) k)
no_table defs rows k places past = (λ e. absurd (true≢false (sym e)), λ h. absurd (subst (CanReorder places) (past_joined defs rows k past) h))

module _ (defs : List TableDef) (rows : List Rows) (k : ℕ) (def : TableDef) (r : Rows) (d : slice_get defs k ≡ Some def) (e : slice_get rows k ≡ Some r) (within : k < length rows)
    (old : List (Table Cell)) (same : joined defs rows ≡ old) (places : List ℕ) where
  at : slice_get old k ≡ Some (record { def = def; rows = r })
  at = ap (λ w. slice_get w k) (sym same) ∙ at_joined defs rows k def r d e

  pub can : {E : Type 0} (u : Result Bool E) → IfOk u (λ done. (done ≡ true) ↔ IsPermutationOf places (length r)) → IfOk u (λ done. (done ≡ true) ↔ CanReorder places (slice_get old k))
  can u h = subst (λ w. IfOk u (λ done. (done ≡ true) ↔ CanReorder places w)) (sym at) h

  kept : (new : Rows) → new ≡ r → joined defs (slice_set rows k new) ≡ old
  kept new h = ap (λ w. joined defs (slice_set rows k w)) h ∙ (ap (joined defs) (set_same rows k r e) ∙ same)

  moved : (new : Rows) → new ≡ rows_at places r → joined defs (slice_set rows k new) ≡ reordered k places old
  moved new h =
      ap (λ w. joined defs (slice_set rows k w)) h
      ∙ (sym (set_joined defs rows k def (rows_at places r) d within)
      ∙ (ap (λ w. slice_set w k (record { def = def; rows = rows_at places r })) same
      ∙ sym (ap (λ w. with_rows_at k places w old) at)))

  pub arranged : {E : Type 0} (u : Result Bool E) (new : Rows) → IfOk u (λ done. new ≡ cond done (rows_at places r) r) → IfOk u (λ done. joined defs (slice_set rows k new) ≡ cond done (reordered k places old) old)
  arranged (Ok true) new h = moved new h
  arranged (Ok false) new h = kept new h
  arranged (Err x) new h = tt

  pub stays : {E : Type 0} (u : Result Bool E) (new : Rows) → OnErr u (new ≡ r) → OnErr u (joined defs (slice_set rows k new) ≡ old)
  stays (Ok done) new h = tt
  stays (Err x) new h = kept new h

  pub holds : {E : Type 0} (u : Result Bool E) (new : Rows) → IfOk u (λ done. (done ≡ true) ↔ IsPermutationOf places (length r)) → IfOk u (λ done. new ≡ cond done (rows_at places r) r) → OnErr u (new ≡ r)
      → AllHold old → AllHold (joined defs (slice_set rows k new))
  holds u new exact ok err all = all_set defs rows k def new held d (by u exact ok err)
    where
      held : AllHold (joined defs rows)
      held = subst AllHold (sym same) all

      before : KeyHolds def r
      before = hold_at defs rows k def r held d e

      by : {E : Type 0} (u : Result Bool E) → IfOk u (λ done. (done ≡ true) ↔ IsPermutationOf places (length r)) → IfOk u (λ done. new ≡ cond done (rows_at places r) r) → OnErr u (new ≡ r) → KeyHolds def new
      by (Ok true) exact ok err = subst (KeyHolds def) (sym ok) (reordered_holds def places r (exact.0 refl) before)
      by (Ok false) exact ok err = subst (KeyHolds def) (sym ok) before
      by (Err x) exact ok err = subst (KeyHolds def) (sym err) before
