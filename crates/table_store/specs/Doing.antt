-- What a statement does to the rows of a table, as a call answers it.
use Rattle.std.specs.Prelude.{◌≡◌, List, Option, Some, None, Result, Ok, Err, IsErr}
use Rattle.table_binder.specs.declared.refusal.BindRefusal.{BindRefusal}
use Rattle.table_binder.specs.declared.refusal.BindRefusal.TheVariants as bind
use Rattle.table_machine.specs.declared.cell.Cell.{Cell}
use Rattle.table_machine.specs.declared.table.LabFault.{LabFault}
use Rattle.table_machine.specs.declared.table.Outcome.{Outcome}
use Rattle.table_machine.specs.declared.table.Outcome.TheVariants as outcomes
use Rattle.table_machine.specs.Tables.{Step, told}

-- a step was done, or a fault stands before it; where it isn't done, the rows stay
abbrev pub IsDone : Option LabFault → Step Cell → List (List Cell) → Result Outcome BindRefusal → List (List Cell) → Type 0
IsDone fault s old (Ok outcome) new = (fault ≡ None) × (outcome ≡ told s.answer) × (new ≡ s.rows)
IsDone fault s old (Err (bind.Fault f)) new = (fault ≡ Some f) × (new ≡ old)
IsDone fault s old (Err bind.NoMemory) new = new ≡ old

-- a fault is an outcome
abbrev pub Tells : {E : Type 0} → Result Outcome BindRefusal → Result Outcome E → Type 0
Tells (Ok outcome) r = r ≡ Ok outcome
Tells (Err (bind.Fault f)) r = r ≡ Ok (outcomes.Fault f)
Tells (Err bind.NoMemory) r = IsErr r
