-- What a resumed chain is, by what is found in the log.
use Rattle.std.specs.Prelude.{ℕ, ◌≡◌, List, Bool, true, false, Result, Ok, Err}
use Rattle.audit_chain.specs.Points.{Point, StandsBehind}
use Rattle.audit_chain.specs.Findings.{Finding, Finds}
use Rattle.audit_chain.specs.Verdicts.{is_closed}
use Rattle.audit_chain.specs.declared.refusals.ResumeFault.{ResumeFault}
use Rattle.audit_chain.specs.declared.refusals.ResumeFault.TheVariants as faults

-- the answer that fits a finding; no memory and a failed read are answers to any
abbrev pub FitsFinding : List ℕ → Finding → Result Point ResumeFault → Type 0
FitsFinding key (Finding.Whole lines) (Ok chain) = (is_closed lines ≡ false) × StandsBehind key lines chain
FitsFinding key (Finding.Whole lines) (Err faults.IsClosed) = is_closed lines ≡ true
FitsFinding key (Finding.Broken n) (Err (faults.Broken line)) = line ≡ n
FitsFinding key (Finding.Long n) (Err (faults.LineTooLong line)) = line ≡ n
FitsFinding key Finding.Spent (Err faults.Spent) = Unit {0}
FitsFinding key finding (Err faults.ReadFault) = Unit {0}
FitsFinding key finding (Err faults.NoMemory) = Unit {0}
FitsFinding key finding result = ⊥

-- what an answer says of the log
abbrev pub Resumed : List ℕ → Result Point ResumeFault → List ℕ → Type 0
Resumed key (Ok chain) log = (lines : List (List ℕ)) × Finds key log (Finding.Whole lines) × (is_closed lines ≡ false) × StandsBehind key lines chain
Resumed key (Err faults.IsClosed) log = (lines : List (List ℕ)) × Finds key log (Finding.Whole lines) × (is_closed lines ≡ true)
Resumed key (Err (faults.Broken line)) log = Finds key log (Finding.Broken line)
Resumed key (Err (faults.LineTooLong line)) log = Finds key log (Finding.Long line)
Resumed key (Err faults.Spent) log = Finds key log Finding.Spent
Resumed key (Err faults.ReadFault) log = Unit {0}
Resumed key (Err faults.NoMemory) log = Unit {0}

-- whatever is found in the log, this is the answer
abbrev pub IsDueTo : List ℕ → Result Point ResumeFault → List ℕ → Type 0
IsDueTo key result log = (finding : Finding) → Finds key log finding → FitsFinding key finding result
