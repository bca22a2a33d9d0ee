-- A fault that is handed on.
use Rattle.std.proofs.Common.{◌≡◌, sym, subst, Option, Some, Result, Ok, Err}
use Rattle.std.specs.Result.{IsErrAnd}
use Rattle.table_machine.specs.declared.table.LabFault.{LabFault}
use Rattle.table_binder.specs.declared.refusal.BindRefusal.{BindRefusal}
use Rattle.table_binder.specs.declared.refusal.BindRefusal.TheVariants as why
use Rattle.table_binder.specs.Binding.{IsBound}

module _ {X Y : Type 0} (fault later : Option LabFault) (P : X → Type 0) (Q : Y → Type 0) (on : (f : LabFault) → fault ≡ Some f → later ≡ Some f) where
  moves : (e : BindRefusal) → IsBound {X = X} fault (Err e) P → IsBound {X = Y} later (Err e) Q
  moves (why.Fault f) h = on f h
  moves why.NoMemory h = tt

  pub handed_on : (e : BindRefusal) (r : Result Y BindRefusal) → IsErrAnd r (λ x. x ≡ e) → IsBound {X = X} fault (Err e) P → IsBound later r Q
  handed_on e (Ok y) is h = absurd is
  handed_on e (Err x) is h = subst (λ (z : BindRefusal). IsBound {X = Y} later (Err z) Q) (sym is) (moves e h)
