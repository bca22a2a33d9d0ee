-- What a verifier answers, by what is found in a log.
use Rattle.std.specs.Prelude.{ℕ, ◌≡◌, ◌≤◌, ◌<◌, ◌+◌, ◌^◌, List, [], ◌∷◌, ◌++◌, length, Bool, true, false, Option, Some, None, Result, Ok, Err}
use Rattle.std.specs.List.{list_any}
use Rattle.acra_devices.specs.Known.{Shrank, IsAtEnd}
use Rattle.audit_chain.specs.Lines.{closes}
use Rattle.audit_chain.specs.Points.{Point, StandsBehind}
use Rattle.audit_chain.specs.Findings.{Finding, Finds}
use Rattle.audit_chain.specs.declared.verifier.AuditVerdict.{AuditVerdict}
use Rattle.audit_chain.specs.declared.verifier.AuditVerdict.TheVariants as verdicts
use Rattle.audit_chain.specs.declared.verifier.VerifyFault.{VerifyFault}
use Rattle.audit_chain.specs.declared.verifier.VerifyFault.TheVariants as faults

-- where a source tells its content before and after
abbrev pub WhereRead : Option (List ℕ) → Option (List ℕ) → (List ℕ → Type 0) → Type 0
WhereRead (Some log) (Some unread) P = P log
WhereRead left unread P = Unit {0}

-- a front of what was left was read, of at most so many bytes
pub record Took (left left' : Option (List ℕ)) (room : ℕ) : Type 0 where
  pub bytes : List ℕ
  pub took : Shrank left left' bytes
  pub within : length bytes ≤ room

-- nothing is left behind a valid log
abbrev pub Leaves : Result AuditVerdict VerifyFault → Option (List ℕ) → Type 0
Leaves (Ok (verdicts.Valid lines closed)) unread = IsAtEnd unread
Leaves result unread = Unit {0}

-- the log is closed where its last line closes it
abbrev pub is_closed : List (List ℕ) → Bool
is_closed lines = list_any closes lines

-- the answer that gives a finding; no memory and a failed read are answers to any
abbrev pub Gives : Finding → Result AuditVerdict VerifyFault → Type 0
Gives (Finding.Whole found) (Ok (verdicts.Valid lines closed)) = (lines ≡ length found) × (closed ≡ is_closed found)
Gives (Finding.Broken n) (Ok (verdicts.Broken line)) = line ≡ n
Gives (Finding.Long n) (Err (faults.LineTooLong line)) = line ≡ n
Gives Finding.Spent (Err faults.Spent) = Unit {0}
Gives finding (Err faults.ReadFault) = Unit {0}
Gives finding (Err faults.NoMemory) = Unit {0}
Gives finding result = ⊥

-- what an answer says of the log
abbrev pub Found : List ℕ → Result AuditVerdict VerifyFault → List ℕ → Type 0
Found key (Ok (verdicts.Valid lines closed)) log = (found : List (List ℕ)) × Finds key log (Finding.Whole found) × (lines ≡ length found) × (closed ≡ is_closed found)
Found key (Ok (verdicts.Broken line)) log = Finds key log (Finding.Broken line)
Found key (Err (faults.LineTooLong line)) log = Finds key log (Finding.Long line)
Found key (Err faults.Spent) log = Finds key log Finding.Spent
Found key (Err faults.ReadFault) log = Unit {0}
Found key (Err faults.NoMemory) log = Unit {0}

-- whatever is found in the log, this is the answer
abbrev pub IsDue : List ℕ → Result AuditVerdict VerifyFault → List ℕ → Type 0
IsDue key result log = (finding : Finding) → Finds key log finding → Gives finding result
