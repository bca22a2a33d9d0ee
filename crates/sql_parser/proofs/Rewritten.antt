-- From what parsing and printing answer to what rewriting answers.
use Rattle.std.proofs.Common.{◌≡◌, ℕ, List, ◌++◌, Result, Ok, Err, subst, sym}
use Rattle.std.specs.Prelude.{IfOk, IfErr, OnOk}
use Rattle.sql_tree.specs.declared.statement.Statement.{Statement}
use Rattle.sql_tree.specs.Canonical.{canon}
use Rattle.sql_outcomes.specs.declared.refusal.ParseFault.{ParseFault}
use Rattle.sql_outcomes.specs.declared.refusal.ParseFault.TheVariants as fault
use Rattle.sql_outcomes.specs.Outcome.{Outcome, IsOutcome, IsTold, Tells}
use Rattle.sql_parser.specs.Rewriting.{Answers}

pub rewritten : {A : Type 0} (r : Result A ParseFault) (text : List ℕ) (limit : ℕ) (tree : Statement) (old new : List ℕ) → IsOutcome text limit (Ok tree) → OnOk r (new ≡ old ++ canon tree)
    → IfOk r (λ _. (found : Statement) × IsOutcome text limit (Ok found) × (new ≡ old ++ canon found))
rewritten (Ok done) text limit tree old new outcome appended = (tree, outcome, appended)
rewritten (Err f) text limit tree old new outcome appended = tt

pub refused : {A : Type 0} (r : Result A ParseFault) (text : List ℕ) (limit : ℕ) → IfErr r (λ f. f ≡ fault.NoMemory) → IfErr r (λ f. IsTold text limit (Err f))
refused (Ok done) text limit cause = tt
refused (Err f) text limit cause = subst (λ (g : ParseFault). IsTold text limit (Err g)) (sym cause) tt

pub answered : (A : Type 0) (r : Result A ParseFault) (tree : Statement) (outcome : Outcome) → IfErr r (λ f. f ≡ fault.NoMemory) → outcome ≡ Ok tree → Answers r outcome
answered A (Ok done) tree outcome cause is = subst (λ (o : Outcome). Answers {A = A} (Ok done) o) (sym is) tt
answered A (Err f) tree outcome cause is = subst (λ (g : ParseFault). Answers {A = A} (Err g) outcome) (sym cause) tt

pub answered_fault : (A : Type 0) (f : ParseFault) (outcome : Outcome) → Tells (Err f) outcome → Answers {A = A} (Err f) outcome
answered_fault A (fault.Refused r) outcome is = is
answered_fault A fault.NoMemory outcome is = tt
