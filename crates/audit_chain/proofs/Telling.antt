-- What is found in a log that is told.
use Rattle.std.proofs.Common.{◌≡◌, ℕ, ◌+◌, ◌-◌, ◌%◌, ◌^◌, ◌<◌, ◌≤◌, ◌⊎◌, inl, inr, Bool, true, false, List, [], ◌∷◌, ◌++◌, length, take, Option, Some, None, Result, Ok, Err, refl, sym, ap, subst, ◌∙◌, arith, length-append, append_assoc}
use Rattle.std.specs.Prelude.{nat_lt}
use Rattle.std.proofs.Math.Nat.{mod-eq_of_lt}
use Rattle.std.proofs.Math.Seq.{take-append-add, take-append_seam}
use Rattle.std.proofs.lemmas.List.{append-nil, take_all}
use Rattle.std.proofs.lemmas.Bool.{lt-ltb, le-ltb}
use Rattle.acra_devices.specs.Known.{Shrank, IsAtEnd}
use Rattle.audit_chain.specs.Points.{Point, StandsBehind}
use Rattle.audit_chain.specs.Findings.{written, Finding, Begins, IsBadLine, IsCutShort, IsTooLong, Stops, FindsIn, Finds}
use Rattle.audit_chain.specs.Reads.{FoundIn, Ends}
use Rattle.audit_chain.specs.Verdicts.{WhereRead, Found, Gives, IsDue, is_closed}
use Rattle.audit_chain.specs.declared.stop.Stop.{Stop}
use Rattle.audit_chain.specs.declared.stop.Stop.TheVariants as stops
use Rattle.audit_chain.specs.declared.verifier.AuditVerdict.{AuditVerdict}
use Rattle.audit_chain.specs.declared.verifier.AuditVerdict.TheVariants as verdicts
use Rattle.audit_chain.specs.declared.verifier.VerifyFault.{VerifyFault}
use Rattle.audit_chain.specs.declared.verifier.VerifyFault.TheVariants as faults
use Rattle.audit_chain.proofs.Walking.{begins_more}
use Rattle.audit_chain.proofs.OneFinding.{one_finding}
use Rattle.audit_chain.proofs.Pieces.{written_long}

bad_more : (key : List ℕ) (lines : List (List ℕ)) (rest more : List ℕ) → IsBadLine key lines rest → IsBadLine key lines (rest ++ more)
bad_more key lines rest more bad = record { line = bad.line; behind = bad.behind ++ more; parts = ap (λ (xs : List ℕ). xs ++ more) bad.parts ∙ append_assoc bad.line (10 ∷ bad.behind) more; single = bad.single; short = bad.short; bad = bad.bad }

long_more : (rest more : List ℕ) → IsTooLong rest → IsTooLong (rest ++ more)
long_more rest more long = record { front = long.front; behind = long.behind ++ more; parts = ap (λ (xs : List ℕ). xs ++ more) long.parts ∙ append_assoc long.front long.behind more; single = long.single; long = long.long }

-- the log ends with the bytes
all_read : (limit : ℕ) (key log bytes : List ℕ) (f : Finding) → log ≡ bytes → length bytes < limit → FindsIn key bytes true f → FindsIn key (take limit log) (nat_lt (length log) limit) f
all_read limit key log bytes f e lt h =
    let whole : take limit log ≡ bytes = take_all limit log (omega (arith, lt, ap length e)) ∙ e in
    let ends : nat_lt (length log) limit ≡ true = lt-ltb (length log) limit (omega (arith, lt, ap length e)) in
    rw (whole, ends) h

-- what is found before the log ends is found in more of it
finds_more : (key bytes more : List ℕ) (ends : Bool) (f : Finding) → (f ≡ Finding.Spent → ⊥) → FindsIn key bytes false f → FindsIn key (bytes ++ more) ends f
finds_more key bytes more ends (Finding.Whole lines) other h = absurd (let t : false ≡ true = h.3.0 in cc)
finds_more key bytes more ends (Finding.Broken n) other h =
    elim h.3.1 [
      | inl bad ↦ (h.0, h.1 ++ more, begins_more key bytes more h.0 h.1 h.2, (h.3.0, inl (bad_more key h.0 h.1 more bad)))
      | inr cut ↦ absurd (let t : false ≡ true = cut.0 in cc)
    ]
finds_more key bytes more ends (Finding.Long n) other h = (h.0, h.1 ++ more, begins_more key bytes more h.0 h.1 h.2, (h.3.0, long_more h.1 more h.3.1))
finds_more key bytes more ends Finding.Spent other h = absurd (other refl)

part_read : (limit : ℕ) (bytes unread : List ℕ) → length bytes ≤ limit → take limit (bytes ++ unread) ≡ bytes ++ take (limit - length bytes) unread
part_read limit bytes unread le = ap (λ (n : ℕ). take n (bytes ++ unread)) (omega (arith, le)) ∙ take-append-add bytes unread (limit - length bytes)

more_read : (limit : ℕ) (key log bytes unread : List ℕ) (f : Finding) → (f ≡ Finding.Spent → ⊥) → log ≡ bytes ++ unread → length bytes ≤ limit → FindsIn key bytes false f → FindsIn key (take limit log) (nat_lt (length log) limit) f
more_read limit key log bytes unread f other e le h =
    let part : take limit log ≡ bytes ++ take (limit - length bytes) unread = ap (take limit) e ∙ part_read limit bytes unread le in
    rw part (finds_more key bytes (take (limit - length bytes) unread) (nat_lt (length log) limit) f other h)

spent_read : (limit : ℕ) (key log bytes unread : List ℕ) → log ≡ bytes ++ unread → length bytes ≡ limit → FindsIn key bytes false Finding.Spent → FindsIn key (take limit log) (nat_lt (length log) limit) Finding.Spent
spent_read limit key log bytes unread e full h =
    let whole : take limit log ≡ bytes = ap (λ (n : ℕ). take n log) (sym full) ∙ ap (take (length bytes)) e ∙ take-append_seam bytes unread in
    let ends : nat_lt (length log) limit ≡ false = le-ltb (length log) limit (omega (arith, full, ap length e, length-append bytes unread)) in
    rw (whole, ends) h

told : (limit : ℕ) (key log bytes unread : List ℕ) (ends : Bool) (f : Finding) → log ≡ bytes ++ unread → length bytes ≤ limit → (ends ≡ true → (unread ≡ []) × (length bytes < limit)) → (f ≡ Finding.Spent → length bytes ≡ limit)
    → FindsIn key bytes ends f → FindsIn key (take limit log) (nat_lt (length log) limit) f
told limit key log bytes unread true f e le last full h = all_read limit key log bytes f (e ∙ ap (λ (xs : List ℕ). bytes ++ xs) (last refl).0 ∙ append-nil bytes) (last refl).1 h
told limit key log bytes unread false Finding.Spent e le last full h = spent_read limit key log bytes unread e (full refl) h
told limit key log bytes unread false (Finding.Whole lines) e le last full h = more_read limit key log bytes unread (Finding.Whole lines) (λ x. cc) e le h
told limit key log bytes unread false (Finding.Broken n) e le last full h = more_read limit key log bytes unread (Finding.Broken n) (λ x. cc) e le h
told limit key log bytes unread false (Finding.Long n) e le last full h = more_read limit key log bytes unread (Finding.Long n) (λ x. cc) e le h

pub finds_told : (key log unread : List ℕ) (ends : Bool) (f : Finding) → FoundIn key (Some log) (Some unread) ends f → Finds key log f
finds_told key log unread ends f h = told (2 ^ 48) key log h.bytes unread ends f h.took h.within h.last h.spent h.finds

-- ---- the verifier's answers

lines_few : (key : List ℕ) (left left' : Option (List ℕ)) (lines : List (List ℕ)) → FoundIn key left left' true (Finding.Whole lines) → length lines < 2 ^ 64
lines_few key left left' lines h =
    let begins : Begins key h.bytes h.finds.0 h.finds.1 = h.finds.2 in
    let most : length h.finds.0 ≤ length h.bytes = omega (arith, ap length begins.whole, length-append (written h.finds.0) h.finds.1, written_long h.finds.0) in
    omega (arith, most, h.within, ap length h.finds.3.2)

pub valid_found : (key : List ℕ) (left left' : Option (List ℕ)) (chain : Point) (lines : ℕ) (closed : Bool) → Ends key left left' (Ok chain) → lines ≡ chain.number → closed ≡ chain.ended → WhereRead left left' (Found key (Ok (verdicts.Valid lines closed)))
valid_found key (Some log) (Some unread) chain lines closed h n c = (
  h.0,
  finds_told key log unread true (Finding.Whole h.0) h.1,
  n ∙ h.2.number ∙ mod-eq_of_lt (lines_few key (Some log) (Some unread) h.0 h.1),
  c ∙ h.2.ended,
)
valid_found key None left' chain lines closed h n c = tt
valid_found key (Some log) None chain lines closed h n c = tt

pub broken_found : (key : List ℕ) (left left' : Option (List ℕ)) (line : ℕ) → Ends key left left' (Err (stops.Broken line)) → WhereRead left left' (Found key (Ok (verdicts.Broken line)))
broken_found key (Some log) (Some unread) line h = finds_told key log unread h.0 (Finding.Broken line) h.1
broken_found key None left' line h = tt
broken_found key (Some log) None line h = tt

pub long_found : (key : List ℕ) (left left' : Option (List ℕ)) (line : ℕ) → Ends key left left' (Err (stops.LineTooLong line)) → WhereRead left left' (Found key (Err (faults.LineTooLong line)))
long_found key (Some log) (Some unread) line h = finds_told key log unread false (Finding.Long line) h
long_found key None left' line h = tt
long_found key (Some log) None line h = tt

pub spent_found : (key : List ℕ) (left left' : Option (List ℕ)) → Ends key left left' (Err stops.Spent) → WhereRead left left' (Found key (Err faults.Spent))
spent_found key (Some log) (Some unread) h = finds_told key log unread false Finding.Spent h
spent_found key None left' h = tt
spent_found key (Some log) None h = tt

pub one_log : (key log : List ℕ) (f g : Finding) → Finds key log f → Finds key log g → f ≡ g
one_log key log f g p q = one_finding key (take (2 ^ 48) log) (nat_lt (length log) (2 ^ 48)) f g p q

due : (key : List ℕ) (result : Result AuditVerdict VerifyFault) (log : List ℕ) → Found key result log → IsDue key result log
due key (Ok (verdicts.Valid lines closed)) log h finding f = subst (λ (x : Finding). Gives x (Ok (verdicts.Valid lines closed))) (one_log key log (Finding.Whole h.0) finding h.1 f) (h.2, h.3)
due key (Ok (verdicts.Broken line)) log h finding f = subst (λ (x : Finding). Gives x (Ok (verdicts.Broken line))) (one_log key log (Finding.Broken line) finding h f) refl
due key (Err (faults.LineTooLong line)) log h finding f = subst (λ (x : Finding). Gives x (Err (faults.LineTooLong line))) (one_log key log (Finding.Long line) finding h f) refl
due key (Err faults.Spent) log h finding f = subst (λ (x : Finding). Gives x (Err faults.Spent)) (one_log key log Finding.Spent finding h f) tt
due key (Err faults.ReadFault) log h (Finding.Whole lines) f = tt
due key (Err faults.ReadFault) log h (Finding.Broken line) f = tt
due key (Err faults.ReadFault) log h (Finding.Long line) f = tt
due key (Err faults.ReadFault) log h Finding.Spent f = tt
due key (Err faults.NoMemory) log h (Finding.Whole lines) f = tt
due key (Err faults.NoMemory) log h (Finding.Broken line) f = tt
due key (Err faults.NoMemory) log h (Finding.Long line) f = tt
due key (Err faults.NoMemory) log h Finding.Spent f = tt

pub where_due : (key : List ℕ) (left left' : Option (List ℕ)) (result : Result AuditVerdict VerifyFault) → WhereRead left left' (Found key result) → WhereRead left left' (IsDue key result)
where_due key (Some log) (Some unread) result h = due key result log h
where_due key None left' result h = tt
where_due key (Some log) None result h = tt
