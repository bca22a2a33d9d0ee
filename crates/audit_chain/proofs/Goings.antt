-- A resumed chain, by what is found in the log.
use Rattle.std.proofs.Common.{◌≡◌, ℕ, ◌^◌, ◌<◌, Bool, true, false, List, length, Option, Some, None, Result, Ok, Err, refl, sym, ap, subst, ◌∙◌}
use Rattle.audit_chain.specs.Points.{Point, StandsBehind}
use Rattle.audit_chain.specs.Findings.{Finding, Finds}
use Rattle.audit_chain.specs.Reads.{Ends}
use Rattle.audit_chain.specs.Verdicts.{WhereRead, is_closed}
use Rattle.audit_chain.specs.Resuming.{FitsFinding, Resumed, IsDueTo}
use Rattle.audit_chain.specs.declared.stop.Stop.TheVariants as stops
use Rattle.audit_chain.specs.declared.refusals.ResumeFault.{ResumeFault}
use Rattle.audit_chain.specs.declared.refusals.ResumeFault.TheVariants as faults
use Rattle.audit_chain.proofs.Telling.{finds_told, one_log}

pub goes_on_from : (key : List ℕ) (left left' : Option (List ℕ)) (chain : Point) → Ends key left left' (Ok chain) → chain.ended ≡ false → WhereRead left left' (Resumed key (Ok chain))
goes_on_from key (Some log) (Some unread) chain h goes = (h.0, finds_told key log unread true (Finding.Whole h.0) h.1, sym h.2.ended ∙ goes, h.2)
goes_on_from key None left' chain h goes = tt
goes_on_from key (Some log) None chain h goes = tt

pub closed_found : (key : List ℕ) (left left' : Option (List ℕ)) (chain : Point) → Ends key left left' (Ok chain) → chain.ended ≡ true → WhereRead left left' (Resumed key (Err faults.IsClosed))
closed_found key (Some log) (Some unread) chain h goes = (h.0, finds_told key log unread true (Finding.Whole h.0) h.1, sym h.2.ended ∙ goes)
closed_found key None left' chain h goes = tt
closed_found key (Some log) None chain h goes = tt

pub broken_before : (key : List ℕ) (left left' : Option (List ℕ)) (line : ℕ) → Ends key left left' (Err (stops.Broken line)) → WhereRead left left' (Resumed key (Err (faults.Broken line)))
broken_before key (Some log) (Some unread) line h = finds_told key log unread h.0 (Finding.Broken line) h.1
broken_before key None left' line h = tt
broken_before key (Some log) None line h = tt

pub long_before : (key : List ℕ) (left left' : Option (List ℕ)) (line : ℕ) → Ends key left left' (Err (stops.LineTooLong line)) → WhereRead left left' (Resumed key (Err (faults.LineTooLong line)))
long_before key (Some log) (Some unread) line h = finds_told key log unread false (Finding.Long line) h
long_before key None left' line h = tt
long_before key (Some log) None line h = tt

pub spent_before : (key : List ℕ) (left left' : Option (List ℕ)) → Ends key left left' (Err stops.Spent) → WhereRead left left' (Resumed key (Err faults.Spent))
spent_before key (Some log) (Some unread) h = finds_told key log unread false Finding.Spent h
spent_before key None left' h = tt
spent_before key (Some log) None h = tt

due_to : (key : List ℕ) (result : Result Point ResumeFault) (log : List ℕ) → Resumed key result log → IsDueTo key result log
due_to key (Ok chain) log h finding f = subst (λ (x : Finding). FitsFinding key x (Ok chain)) (one_log key log (Finding.Whole h.0) finding h.1 f) (h.2, h.3)
due_to key (Err faults.IsClosed) log h finding f = subst (λ (x : Finding). FitsFinding key x (Err faults.IsClosed)) (one_log key log (Finding.Whole h.0) finding h.1 f) h.2
due_to key (Err (faults.Broken line)) log h finding f = subst (λ (x : Finding). FitsFinding key x (Err (faults.Broken line))) (one_log key log (Finding.Broken line) finding h f) refl
due_to key (Err (faults.LineTooLong line)) log h finding f = subst (λ (x : Finding). FitsFinding key x (Err (faults.LineTooLong line))) (one_log key log (Finding.Long line) finding h f) refl
due_to key (Err faults.Spent) log h finding f = subst (λ (x : Finding). FitsFinding key x (Err faults.Spent)) (one_log key log Finding.Spent finding h f) tt
due_to key (Err faults.ReadFault) log h (Finding.Whole lines) f = tt
due_to key (Err faults.ReadFault) log h (Finding.Broken line) f = tt
due_to key (Err faults.ReadFault) log h (Finding.Long line) f = tt
due_to key (Err faults.ReadFault) log h Finding.Spent f = tt
due_to key (Err faults.NoMemory) log h (Finding.Whole lines) f = tt
due_to key (Err faults.NoMemory) log h (Finding.Broken line) f = tt
due_to key (Err faults.NoMemory) log h (Finding.Long line) f = tt
due_to key (Err faults.NoMemory) log h Finding.Spent f = tt

pub where_due_to : (key : List ℕ) (left left' : Option (List ℕ)) (result : Result Point ResumeFault) → WhereRead left left' (Resumed key result) → WhereRead left left' (IsDueTo key result)
where_due_to key (Some log) (Some unread) result h = due_to key result log h
where_due_to key None left' result h = tt
where_due_to key (Some log) None result h = tt
