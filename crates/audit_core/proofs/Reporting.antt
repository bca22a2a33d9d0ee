-- What is printed of a log, by the verifier's answer.
use Rattle.std.proofs.Common.{◌≡◌, ℕ, ◌<◌, ◌-◌, ◌⊎◌, inl, inr, Bool, true, false, List, [], ◌++◌, length, take, drop, Option, Some, None, Result, Ok, Err, refl, sym, ap, subst, ◌∙◌, arith}
use Rattle.std.specs.Prelude.{codes}
use Rattle.std.specs.Fmt.{decimal}
use Rattle.std.proofs.lemmas.List.{take-append-drop, length-drop}
use Rattle.acra_devices.specs.Known.{Grew}
use Rattle.acra_devices.specs.Grows.{grew_nothing}
use Rattle.audit_chain.specs.Findings.{Finding, Finds}
use Rattle.audit_chain.specs.Verdicts.{WhereRead, Found, Gives, IsDue, is_closed}
use Rattle.audit_chain.specs.declared.verifier.AuditVerdict.TheVariants as verdicts
use Rattle.audit_chain.specs.declared.verifier.VerifyFault.TheVariants as faults
use Rattle.audit_core.specs.Texts.{printed, closing_word}
use Rattle.audit_core.specs.Reports.{Printed, WroteFront, IsReport, Reported, IsDueReport, EndsSo, end_of, is_fault}
use Rattle.audit_core.specs.declared.status.AuditStatus.{AuditStatus}
use Rattle.audit_core.specs.declared.status.AuditStatus.TheVariants as ends

-- a write that failed
pub wrote_front : (held held' : Option (List ℕ)) (bytes line : List ℕ) (n : ℕ) → Grew held held' (take n bytes) → n < length bytes → bytes ≡ line → WroteFront held held' line
wrote_front held held' bytes line n g less e = (take n bytes, drop n bytes, take-append-drop n bytes ∙ e, omega (arith, length-drop n bytes, less), g)

-- the line of a finding was printed, and the run ended as the finding does
print_reports : (key : List ℕ) (held held' : Option (List ℕ)) (word : List ℕ) (number : ℕ) (last : List ℕ) (wanted status : AuditStatus) (log : List ℕ) (finding : Finding)
    → Printed held held' word number last wanted status → printed finding ≡ word ++ decimal number ++ last → Finds key log finding
    → (Grew held held' (printed finding) → Reported key held held' wanted log) → Reported key held held' status log
print_reports key held held' word number last wanted status log finding p e f done =
    elim p [
      | inl a ↦ subst (λ (s : AuditStatus). Reported key held held' s log) (sym a.0) (done (subst (Grew held held') (sym e) a.1))
      | inr b ↦ elim b [
        | inl n ↦ subst (λ (s : AuditStatus). Reported key held held' s log) (sym n.0) n.1
        | inr w ↦ subst (λ (s : AuditStatus). Reported key held held' s log) (sym w.0) (finding, f, subst (WroteFront held held') (sym e) w.1)
      ]
    ]

print_ends : (held held' : Option (List ℕ)) (word : List ℕ) (number : ℕ) (last : List ℕ) (wanted status : AuditStatus) → Printed held held' word number last wanted status → EndsSo wanted status
print_ends held held' word number last wanted status p = elim p [ inl a ↦ inl a.0 | inr b ↦ elim b [ inl n ↦ inr (ap is_fault n.0) | inr w ↦ inr (ap is_fault w.0) ] ]

pub print_shape : (held held' : Option (List ℕ)) (word : List ℕ) (number : ℕ) (last : List ℕ) (wanted status : AuditStatus) → Printed held held' word number last wanted status → IsReport wanted → IsReport status
print_shape held held' word number last wanted status p h = elim p [ inl a ↦ subst IsReport (sym a.0) h | inr b ↦ elim b [ inl n ↦ subst IsReport (sym n.0) tt | inr w ↦ subst IsReport (sym w.0) tt ] ]

-- the line of a valid log
valid_line : (lines : List (List ℕ)) (n : ℕ) (closed : Bool) (last : List ℕ) → n ≡ length lines → closed ≡ is_closed lines → last ≡ closing_word closed → printed (Finding.Whole lines) ≡ codes "valid " ++ decimal n ++ last
valid_line lines n closed last e c l =
    ap (λ (m : ℕ). codes "valid " ++ decimal m ++ closing_word (is_closed lines)) (sym e) ∙ ap (λ (b : Bool). codes "valid " ++ decimal n ++ closing_word b) (sym c) ∙ ap (λ (xs : List ℕ). codes "valid " ++ decimal n ++ xs) (sym l)

pub valid_reported : (key : List ℕ) (held held' : Option (List ℕ)) (n : ℕ) (closed : Bool) (last : List ℕ) (status : AuditStatus) → Printed held held' (codes "valid ") n last ends.Done status → last ≡ closing_word closed
    → (log : List ℕ) → Found key (Ok (verdicts.Valid n closed)) log → Reported key held held' status log
valid_reported key held held' n closed last status p l log f =
    print_reports key held held' (codes "valid ") n last ends.Done status log (Finding.Whole f.0) p (valid_line f.0 n closed last f.2 f.3 l) f.1 (λ g. (f.0, f.1, g))

pub broken_reported : (key : List ℕ) (held held' : Option (List ℕ)) (n : ℕ) (status : AuditStatus) → Printed held held' (codes "broken ") n (codes "\n") (ends.Broken n) status
    → (log : List ℕ) → Found key (Ok (verdicts.Broken n)) log → Reported key held held' status log
broken_reported key held held' n status p log f = print_reports key held held' (codes "broken ") n (codes "\n") (ends.Broken n) status log (Finding.Broken n) p refl f (λ g. (f, g))

pub long_reported : (key : List ℕ) (held held' : Option (List ℕ)) (n : ℕ) (status : AuditStatus) → Printed held held' (codes "long ") n (codes "\n") (ends.LineTooLong n) status
    → (log : List ℕ) → Found key (Err (faults.LineTooLong n)) log → Reported key held held' status log
long_reported key held held' n status p log f = print_reports key held held' (codes "long ") n (codes "\n") (ends.LineTooLong n) status log (Finding.Long n) p refl f (λ g. (f, g))

-- ---- whatever is found

pub valid_due : (key : List ℕ) (held held' : Option (List ℕ)) (n : ℕ) (closed : Bool) (last : List ℕ) (status : AuditStatus) → Printed held held' (codes "valid ") n last ends.Done status → (log : List ℕ) → IsDue key (Ok (verdicts.Valid n closed)) log → IsDueReport key status log
valid_due key held held' n closed last status p log due (Finding.Whole lines) f = print_ends held held' (codes "valid ") n last ends.Done status p
valid_due key held held' n closed last status p log due (Finding.Broken m) f = absurd (due (Finding.Broken m) f)
valid_due key held held' n closed last status p log due (Finding.Long m) f = absurd (due (Finding.Long m) f)
valid_due key held held' n closed last status p log due Finding.Spent f = absurd (due Finding.Spent f)

pub broken_due : (key : List ℕ) (held held' : Option (List ℕ)) (n : ℕ) (status : AuditStatus) → Printed held held' (codes "broken ") n (codes "\n") (ends.Broken n) status → (log : List ℕ) → IsDue key (Ok (verdicts.Broken n)) log → IsDueReport key status log
broken_due key held held' n status p log due (Finding.Whole lines) f = absurd (due (Finding.Whole lines) f)
broken_due key held held' n status p log due (Finding.Broken m) f = subst (λ (k : ℕ). EndsSo (ends.Broken k) status) (due (Finding.Broken m) f) (print_ends held held' (codes "broken ") n (codes "\n") (ends.Broken n) status p)
broken_due key held held' n status p log due (Finding.Long m) f = absurd (due (Finding.Long m) f)
broken_due key held held' n status p log due Finding.Spent f = absurd (due Finding.Spent f)

pub long_due : (key : List ℕ) (held held' : Option (List ℕ)) (n : ℕ) (status : AuditStatus) → Printed held held' (codes "long ") n (codes "\n") (ends.LineTooLong n) status → (log : List ℕ) → IsDue key (Err (faults.LineTooLong n)) log → IsDueReport key status log
long_due key held held' n status p log due (Finding.Whole lines) f = absurd (due (Finding.Whole lines) f)
long_due key held held' n status p log due (Finding.Broken m) f = absurd (due (Finding.Broken m) f)
long_due key held held' n status p log due (Finding.Long m) f = subst (λ (k : ℕ). EndsSo (ends.LineTooLong k) status) (due (Finding.Long m) f) (print_ends held held' (codes "long ") n (codes "\n") (ends.LineTooLong n) status p)
long_due key held held' n status p log due Finding.Spent f = absurd (due Finding.Spent f)

pub spent_due : (key : List ℕ) (log : List ℕ) → IsDue key (Err faults.Spent) log → IsDueReport key ends.Spent log
spent_due key log due (Finding.Whole lines) f = absurd (due (Finding.Whole lines) f)
spent_due key log due (Finding.Broken m) f = absurd (due (Finding.Broken m) f)
spent_due key log due (Finding.Long m) f = absurd (due (Finding.Long m) f)
spent_due key log due Finding.Spent f = inl refl

pub spent_reported : (key : List ℕ) (held : Option (List ℕ)) (log : List ℕ) → Found key (Err faults.Spent) log → Reported key held held ends.Spent log
spent_reported key held log f = (f, grew_nothing held)
