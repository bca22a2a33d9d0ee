-- What a call that binds parts of a statement answers.
use Rattle.std.specs.Prelude.{◌≡◌, Option, Some, None, Result, Ok, Err}
use Rattle.table_machine.specs.declared.table.LabFault.{LabFault}
use Rattle.table_binder.specs.declared.refusal.BindRefusal.{BindRefusal}
use Rattle.table_binder.specs.declared.refusal.BindRefusal.TheVariants as why

-- what it makes, where no value has a fault; else the fault; want of memory is free
abbrev pub IsBound : {X : Type 0} → Option LabFault → Result X BindRefusal → (X → Type 0) → Type 0
IsBound fault (Ok x) P = (fault ≡ None) × P x
IsBound fault (Err (why.Fault f)) P = fault ≡ Some f
IsBound fault (Err why.NoMemory) P = Unit {0}
