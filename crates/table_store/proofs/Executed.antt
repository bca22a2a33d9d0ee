-- What a statement does to several tables.
use Rattle.std.proofs.Common.{◌≡◌, ◌≤◌, ◌<◌, ℕ, zero, suc, Bool, cond, List, [], ◌∷◌, map, length, refl, sym, ap, ◌∙◌, subst, arith, Option, Some, None, Result, Ok, Err}
use Rattle.std.specs.Prelude.{slice_get, slice_set, slice_index_or, IfOk, OnErr, filter, option_map}
use Rattle.sql_tree.specs.declared.condition.Operand.{Operand}
use Rattle.sql_tree.specs.declared.statement.Statement.{Statement}
use Rattle.sql_tree.specs.declared.statement.Statement.TheVariants as statement
use Rattle.table_binder.specs.declared.refusal.BindRefusal.{BindRefusal}
use Rattle.table_binder.specs.declared.refusal.BindRefusal.TheVariants as bind
use Rattle.table_machine.specs.declared.cell.Cell.{Cell}
use Rattle.table_machine.specs.declared.cell.Cell.TheVariants as cells
use Rattle.table_machine.specs.declared.table.LabFault.{LabFault}
use Rattle.table_machine.specs.declared.table.TableDef.{TableDef}
use Rattle.table_machine.specs.declared.table.Outcome.{Outcome}
use Rattle.table_machine.specs.declared.table.Outcome.TheVariants as outcome
use Rattle.table_machine.specs.Columns.{place}
use Rattle.table_machine.specs.Faults.{fault, key_fault, no_table, broken_fault, key_name}
use Rattle.table_machine.specs.Machine as machine
use Rattle.table_machine.specs.Stored.{stored}
use Rattle.table_machine.specs.Tables.{Table, Step, is_table, told, unless, performed, step_unless, step, table_named, answer_of, tables_of, answer_named, tables_named, answered, executed}
use Rattle.table_store.specs.Changing.{KeyHolds}
use Rattle.table_store.specs.Doing.{IsDone, Tells}
use Rattle.table_store.specs.Shelves.{joined, is_def, AllHold}
use Rattle.table_store.proofs.Broken.{filter_holds}
use Rattle.table_store.proofs.Keyed.{key_given, none_inside}
use Rattle.table_store.proofs.Shelved.{place_joined, past_joined, at_joined, set_joined}

abbrev Rows : Type 0
Rows = List (List Cell)

-- ---- a statement on no table

pub missing_answer : (given : List Operand) (tree : Statement) (name : List ℕ) (defs : List TableDef) (rows : List Rows) → table_named tree ≡ Some name → length defs ≤ place (is_def name) defs
    → outcome.Fault (no_table name) ≡ told (answered (stored given) tree (joined defs rows))
missing_answer given tree name defs rows e past =
    let at : slice_get (joined defs rows) (place (is_table name) (joined defs rows)) ≡ None =
    ap (slice_get (joined defs rows)) (place_joined name defs rows) ∙ past_joined defs rows (place (is_def name) defs) past in
    sym (ap (λ w. told (answer_named (stored given) w tree (joined defs rows))) e ∙ ap (λ w. told (answer_of (stored given) name (place (is_table name) (joined defs rows)) w tree)) at)

pub missing_tables : (given : List Operand) (tree : Statement) (name : List ℕ) (defs : List TableDef) (rows : List Rows) → table_named tree ≡ Some name → length defs ≤ place (is_def name) defs
    → joined defs rows ≡ executed (stored given) tree (joined defs rows)
missing_tables given tree name defs rows e past =
    let at : slice_get (joined defs rows) (place (is_table name) (joined defs rows)) ≡ None =
    ap (slice_get (joined defs rows)) (place_joined name defs rows) ∙ past_joined defs rows (place (is_def name) defs) past in
    sym (ap (λ w. tables_named (stored given) w tree (joined defs rows)) e ∙ ap (λ w. tables_of (stored given) (place (is_table name) (joined defs rows)) w tree (joined defs rows)) at)

-- ---- a statement on a table

module _ (given : List Operand) (tree : Statement) (name : List ℕ) (defs : List TableDef) (rows : List Rows) (named : table_named tree ≡ Some name) (k : ℕ) (is : k ≡ place (is_def name) defs)
    (def : TableDef) (r : Rows) (d : slice_get defs k ≡ Some def) (e : slice_get rows k ≡ Some r) (within : k < length rows) where
  abbrev t : Table Cell
  t = record { def = def; rows = r }

  where_is : place (is_table name) (joined defs rows) ≡ k
  where_is = place_joined name defs rows ∙ sym is

  at : slice_get (joined defs rows) (place (is_table name) (joined defs rows)) ≡ Some t
  at = ap (slice_get (joined defs rows)) where_is ∙ at_joined defs rows k def r d e

  pub present_answer : answered (stored given) tree (joined defs rows) ≡ (step (stored given) k t tree).answer
  present_answer =
      ap (λ w. answer_named (stored given) w tree (joined defs rows)) named
      ∙ (ap (λ w. answer_of (stored given) name (place (is_table name) (joined defs rows)) w tree) at
      ∙ ap (λ n. (step (stored given) n t tree).answer) where_is)

  pub present_tables : executed (stored given) tree (joined defs rows) ≡ joined defs (slice_set rows k (step (stored given) k t tree).rows)
  present_tables =
      ap (λ w. tables_named (stored given) w tree (joined defs rows)) named
      ∙ (ap (λ w. tables_of (stored given) (place (is_table name) (joined defs rows)) w tree (joined defs rows)) at
      ∙ (ap (λ n. slice_set (joined defs rows) n (record { def = def; rows = (step (stored given) n t tree).rows })) where_is
      ∙ set_joined defs rows k def (step (stored given) k t tree).rows d within))

-- ---- what a call that was done leaves

module _ (given : List Operand) (number : ℕ) (def : TableDef) (tree : Statement) (rows : Rows) where
  abbrev s : Step Cell
  s = step (stored given) number (record { def = def; rows = rows }) tree

  abbrev IsStep : {E : Type 0} → Result Outcome E → Rows → Type 0
  IsStep (Ok o) new = (o ≡ told s.answer) × (new ≡ s.rows)
  IsStep (Err e) new = new ≡ rows

  stepped : (f : Option LabFault) → fault (stored given) def.columns tree ≡ f → s ≡ step_unless (stored given) f number def tree rows
  stepped f e = ap (λ w. step_unless (stored given) w number def tree rows) e

  pub done_steps : {E : Type 0} (r : Result Outcome BindRefusal) (u : Result Outcome E) (new : Rows)
      → IsDone (fault (stored given) def.columns tree) (performed (stored given) number def tree rows) rows r new → Tells r u → IsStep u new
  done_steps (Ok o) (Ok p) new h same = let eq : p ≡ o = cc in let st = stepped None h.0 in (eq ∙ h.1 ∙ ap (λ w. told w.answer) (sym st), h.2 ∙ ap (λ w. w.rows) (sym st))
  done_steps (Ok o) (Err e) new h same = cc
  done_steps (Err (bind.Fault f)) (Ok p) new h same = let eq : p ≡ outcome.Fault f = cc in let st = stepped (Some f) h.0 in (eq ∙ ap (λ w. told w.answer) (sym st), h.1 ∙ ap (λ w. w.rows) (sym st))
  done_steps (Err (bind.Fault f)) (Err e) new h same = cc
  done_steps (Err bind.NoMemory) (Ok p) new h same = cc
  done_steps (Err bind.NoMemory) (Err e) new h same = h

-- ---- lists

pub get_at : {X : Type 0} (xs : List X) (k : ℕ) (x : X) → k < length xs → slice_index_or xs k x ≡ x → slice_get xs k ≡ Some x
get_at [] k x h e = absurd (omega arith)
get_at (y ∷ xs) zero x h e = ap Some e
get_at (y ∷ xs) (suc k) x h e = get_at xs k x (omega arith) e

pub get_mapped : {X Y : Type 0} (view : X → Y) (xs : List X) (k : ℕ) (x : X) → slice_get xs k ≡ Some x → slice_get (map view xs) k ≡ Some (view x)
get_mapped view [] k x e = cc
get_mapped view (y ∷ xs) zero x e = let same : y ≡ x = cc in ap (λ w. Some (view w)) same
get_mapped view (y ∷ xs) (suc k) x e = get_mapped view xs k x e

pub map_set : {X Y : Type 0} (view : X → Y) (xs : List X) (k : ℕ) (x : X) → map view (slice_set xs k x) ≡ slice_set (map view xs) k (view x)
map_set view [] k x = refl
map_set view (y ∷ xs) zero x = refl
map_set view (y ∷ xs) (suc k) x = ap (λ w. view y ∷ w) (map_set view xs k x)

pub set_same : {X : Type 0} (xs : List X) (k : ℕ) (x : X) → slice_get xs k ≡ Some x → slice_set xs k x ≡ xs
set_same [] k x e = refl
set_same (y ∷ xs) zero x e = let same : y ≡ x = cc in ap (λ w. w ∷ xs) (sym same)
set_same (y ∷ xs) (suc k) x e = ap (λ w. y ∷ w) (set_same xs k x e)

-- ---- the keys hold

pub hold_at : (defs : List TableDef) (rows : List Rows) (k : ℕ) (def : TableDef) (r : Rows) → AllHold (joined defs rows) → slice_get defs k ≡ Some def → slice_get rows k ≡ Some r → KeyHolds def r
hold_at [] rows k def r all d e = cc
hold_at (x ∷ defs) [] k def r all d e = cc
hold_at (x ∷ defs) (y ∷ rows) zero def r all d e = let a : x ≡ def = cc in let b : y ≡ r = cc in subst (λ w. KeyHolds w r) a (subst (λ w. KeyHolds x w) b all.0)
hold_at (x ∷ defs) (y ∷ rows) (suc k) def r all d e = hold_at defs rows k def r all.1 d e

pub all_set : (defs : List TableDef) (rows : List Rows) (k : ℕ) (def : TableDef) (new : Rows) → AllHold (joined defs rows) → slice_get defs k ≡ Some def → KeyHolds def new → AllHold (joined defs (slice_set rows k new))
all_set [] rows k def new all d h = tt
all_set (x ∷ defs) [] k def new all d h = all
all_set (x ∷ defs) (y ∷ rows) zero def new all d h = let a : x ≡ def = cc in (subst (λ w. KeyHolds w new) (sym a) h, all.1)
all_set (x ∷ defs) (y ∷ rows) (suc k) def new all d h = (all.0, all_set defs rows k def new all.1 d h)

unless_holds : (given : List Operand) (def : TableDef) (n : ℕ) (changed rows : Rows) (f : Option LabFault) → key_fault (stored given) def.columns def.key changed ≡ f → KeyHolds def rows
    → KeyHolds def (unless (stored given) f n changed rows).rows
unless_holds given def n changed rows None e h = sym (key_given given def.columns def.key changed) ∙ e
unless_holds given def n changed rows (Some f) e h = h

removed_holds : (def : TableDef) (keep : List Cell → Bool) (rows : Rows) → KeyHolds def rows → KeyHolds def (filter keep rows)
removed_holds def keep rows h = at def.key h
  where
    at : (key : Option ℕ) → key_fault (stored []) def.columns key rows ≡ None → key_fault (stored []) def.columns key (filter keep rows) ≡ None
    at None h = refl
    at (Some k) h = ap (option_map (broken_fault (key_name (stored []) def.columns k))) (filter_holds (λ row. slice_index_or row k cells.Null) keep rows (none_inside (broken_fault (key_name (stored []) def.columns k)) _ h))

performed_holds : (given : List Operand) (number : ℕ) (def : TableDef) (tree : Statement) (rows : Rows) → KeyHolds def rows → KeyHolds def (performed (stored given) number def tree rows).rows
performed_holds given number def (statement.Select table all cond order limit offset) rows h = h
performed_holds given number def (statement.Insert table names new) rows h =
    unless_holds given def (length new) (machine.insert (stored given) def.columns names new rows) rows _ refl h
performed_holds given number def (statement.Update table sets cond) rows h =
    unless_holds given def (length (machine.kept (stored given) def.columns cond rows)) (machine.update (stored given) def.columns sets cond rows) rows _ refl h
performed_holds given number def (statement.Delete table cond) rows h = removed_holds def _ rows h
performed_holds given number def (statement.Set name v) rows h = h
performed_holds given number def statement.Empty rows h = h

step_holds : (given : List Operand) (number : ℕ) (def : TableDef) (tree : Statement) (rows : Rows) → KeyHolds def rows → KeyHolds def (step (stored given) number (record { def = def; rows = rows }) tree).rows
step_holds given number def tree rows h = at (fault (stored given) def.columns tree)
  where
    at : (f : Option LabFault) → KeyHolds def (step_unless (stored given) f number def tree rows).rows
    at None = performed_holds given number def tree rows h
    at (Some f) = h

-- ---- a call on a table, whole

module _ (given : List Operand) (tree : Statement) (name : List ℕ) (defs : List TableDef) (rows : List Rows) (named : table_named tree ≡ Some name) (k : ℕ) (is : k ≡ place (is_def name) defs)
    (def : TableDef) (r : Rows) (d : slice_get defs k ≡ Some def) (e : slice_get rows k ≡ Some r) (within : k < length rows) (old : List (Table Cell)) (same : joined defs rows ≡ old) where
  pub call_answers : {E : Type 0} (u : Result Outcome E) (new : Rows) → IsStep given k def tree r u new
      → IfOk u (λ o. (o ≡ told (answered (stored given) tree old)) × (joined defs (slice_set rows k new) ≡ executed (stored given) tree old))
  call_answers (Ok o) new h = (
    h.0 ∙ (ap told (sym (present_answer given tree name defs rows named k is def r d e within)) ∙ ap (λ w. told (answered (stored given) tree w)) same),
    ap (λ w. joined defs (slice_set rows k w)) h.1 ∙ (sym (present_tables given tree name defs rows named k is def r d e within) ∙ ap (executed (stored given) tree) same),
  )
  call_answers (Err x) new h = tt

  pub call_stays : {E : Type 0} (u : Result Outcome E) (new : Rows) → IsStep given k def tree r u new → OnErr u (joined defs (slice_set rows k new) ≡ old)
  call_stays (Ok o) new h = tt
  call_stays (Err x) new h = ap (λ w. joined defs (slice_set rows k w)) h ∙ (ap (joined defs) (set_same rows k r e) ∙ same)

  pub call_holds : {E : Type 0} (u : Result Outcome E) (new : Rows) → IsStep given k def tree r u new → AllHold old → AllHold (joined defs (slice_set rows k new))
  call_holds u new h all =
      let held = subst AllHold (sym same) all in
      all_set defs rows k def new held d (by u h)
    where
      by : {E : Type 0} (u : Result Outcome E) → IsStep given k def tree r u new → KeyHolds def new
      by (Ok o) h = subst (KeyHolds def) (sym h.1) (step_holds given k def tree r (hold_at defs rows k def r (subst AllHold (sym same) all) d e))
      by (Err x) h = subst (KeyHolds def) (sym h) (hold_at defs rows k def r (subst AllHold (sym same) all) d e)
