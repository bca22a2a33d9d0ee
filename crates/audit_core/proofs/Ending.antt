-- How a run ends, by its steps.
use Rattle.std.proofs.Common.{◌≡◌, ℕ, ◌⊎◌, inl, inr, Bool, true, false, List, [], Option, Some, None, Result, Ok, Err, refl, sym, ap, subst, ◌∙◌}
use Rattle.acra_devices.specs.Known.{Grew}
use Rattle.acra_devices.specs.Grows.{grew_nothing}
use Rattle.keystore.specs.Rings.{RingState}
use Rattle.audit_chain.specs.Findings.{Finding, Finds}
use Rattle.audit_chain.specs.Verdicts.{WhereRead}
use Rattle.audit_core.specs.Keys.{IsMaster, IsKeystore, NoMaster, NoRing, MasterFound, RingFound, RingDue, KeyIs}
use Rattle.audit_core.specs.Reports.{IsReport, is_silent, Reported, IsDueReport, EndsSo, end_of, is_fault}
use Rattle.audit_core.proofs.Told.{where_map}
use Rattle.audit_core.specs.Untouched.{Untouched, OnlyWhere}
use Rattle.audit_core.specs.Outcomes.{HasMaster, HasKey, GivesKey, RingIsBad, Outcome, IsDueEnd}
use Rattle.audit_core.specs.declared.files.FileFault.TheVariants as faults
use Rattle.audit_core.specs.declared.status.FolderFile.TheVariants as files
use Rattle.audit_core.specs.declared.status.AuditStatus.{AuditStatus}
use Rattle.audit_core.specs.declared.status.AuditStatus.TheVariants as ends

one_master : (file a b : List ℕ) → IsMaster file a → IsMaster file b → a ≡ b
one_master file a b p q = let same : ◌≡◌ {A = Option (List ℕ)} (Some a) (Some b) = sym p ∙ q in cc

not_both : {A : Type 0} (file key : List ℕ) → NoMaster file → IsMaster file key → A
not_both file key p q = let same : ◌≡◌ {A = Option (List ℕ)} None (Some key) = sym p ∙ q in absurd cc

-- ---- the master file gives no key

pub bad_master_due : (m r l : List ℕ) → NoMaster m → IsDueEnd m r l ends.BadMaster
bad_master_due m r l none = record {
  bad_master = λ h. inl refl;
  refused = λ h. not_both m h.0 none h.1;
  said = λ key finding gives f. not_both m gives.master none gives.is_master;
}

pub fault_due : (m r l : List ℕ) (status : AuditStatus) → is_fault status ≡ true → IsDueEnd m r l status
fault_due m r l status fault = record { bad_master = λ h. inr fault; refused = λ h. inr fault; said = λ key finding gives f. inr fault }

-- ---- the keystore file gives no ring

pub refused_due : (m r l master : List ℕ) → IsMaster m master → NoRing master r → IsDueEnd m r l ends.RingRefused
refused_due m r l master is none = record {
  bad_master = λ h. not_both m master h is;
  refused = λ h. inl refl;
  said = λ key finding gives f. absurd (none gives.ring (subst (λ (k : List ℕ). IsKeystore k r gives.ring) (one_master m gives.master master gives.is_master is) gives.is_ring));
}

-- ---- both give the key

pub gives_key : (m r master key : List ℕ) → IsMaster m master → RingFound master (Ok key) r → GivesKey m r key
gives_key m r master key is found = record { master = master; ring = found.0; is_master = is; is_ring = found.1; is_key = found.2 }

pub reported_due : (m r l master key : List ℕ) (status : AuditStatus) → IsMaster m master → RingFound master (Ok key) r → RingDue master (Ok key) r → IsDueReport key status l → IsDueEnd m r l status
reported_due m r l master key status is found due report = record {
  bad_master = λ h. not_both m master h is;
  refused = λ h. absurd (h.2 found.0 (subst (λ (k : List ℕ). IsKeystore k r found.0) (one_master m master h.0 is h.1) found.1));
  said = λ other finding gives f.
      let ring : IsKeystore master r gives.ring = subst (λ (k : List ℕ). IsKeystore k r gives.ring) (one_master m gives.master master gives.is_master is) gives.is_ring in
      let same : other ≡ key = gives.is_key ∙ sym (due gives.ring ring) in
      report finding (subst (λ (k : List ℕ). Finds k l finding) same f);
}

pub reported_outcome : (m r l key : List ℕ) (held held' : Option (List ℕ)) (status : AuditStatus) → IsReport status → GivesKey m r key → Reported key held held' status l → Outcome m r l held held' status
reported_outcome m r l key held held' ends.Usage shape gives h = absurd h
reported_outcome m r l key held held' ends.BadMaster shape gives h = absurd h
reported_outcome m r l key held held' ends.RingRefused shape gives h = absurd h
reported_outcome m r l key held held' (ends.ReadFault files.Audit) shape gives h = ((key, gives), h)
reported_outcome m r l key held held' (ends.ReadFault files.Master) shape gives h = absurd (let same : files.Master ≡ files.Audit = shape in cc)
reported_outcome m r l key held held' (ends.ReadFault files.Keystore) shape gives h = absurd (let same : files.Keystore ≡ files.Audit = shape in cc)
reported_outcome m r l key held held' ends.NoMemory shape gives h = h
reported_outcome m r l key held held' ends.Done shape gives h = (key, gives, h)
reported_outcome m r l key held held' (ends.Broken line) shape gives h = (key, gives, h)
reported_outcome m r l key held held' (ends.LineTooLong line) shape gives h = (key, gives, h)
reported_outcome m r l key held held' ends.WriteFault shape gives h = (key, gives, h)
reported_outcome m r l key held held' ends.Spent shape gives h = (key, gives, h)

-- an end of verifying and printing leaves the output, where nothing is printed before it
pub reported_untouched : {S T U K : Type 0} (status : AuditStatus) (m m' : S) (r r' : T) (l l' : U) (o o' : K) → IsReport status → (is_silent status ≡ true → o' ≡ o) → Untouched status m m' r r' l l' o o'
reported_untouched ends.Usage m m' r r' l l' o o' shape silent = absurd shape
reported_untouched ends.BadMaster m m' r r' l l' o o' shape silent = absurd shape
reported_untouched ends.RingRefused m m' r r' l l' o o' shape silent = absurd shape
reported_untouched (ends.ReadFault files.Audit) m m' r r' l l' o o' shape silent = silent refl
reported_untouched (ends.ReadFault files.Master) m m' r r' l l' o o' shape silent = absurd (let same : files.Master ≡ files.Audit = shape in cc)
reported_untouched (ends.ReadFault files.Keystore) m m' r r' l l' o o' shape silent = absurd (let same : files.Keystore ≡ files.Audit = shape in cc)
reported_untouched ends.NoMemory m m' r r' l l' o o' shape silent = silent refl
reported_untouched ends.Spent m m' r r' l l' o o' shape silent = silent refl
reported_untouched ends.Done m m' r r' l l' o o' shape silent = tt
reported_untouched (ends.Broken line) m m' r r' l l' o o' shape silent = tt
reported_untouched (ends.LineTooLong line) m m' r r' l l' o o' shape silent = tt
reported_untouched ends.WriteFault m m' r r' l l' o o' shape silent = tt

has_master : (key file : List ℕ) → IsMaster file key → HasMaster file
has_master key file is = (key, is)

-- the keystore was read behind a master key
pub ring_behind : {D : Type 0} (ring ring' : D) (left left' : Option (List ℕ)) (key : List ℕ) → WhereRead left left' (λ file. IsMaster file key) → OnlyWhere ring ring' (WhereRead left left' HasMaster)
ring_behind ring ring' left left' key h = inr (where_map left left' _ _ (has_master key) h)

-- the log was read behind both
pub log_behind : {D : Type 0} (log log' : D) (left left' under under' : Option (List ℕ)) (master key : List ℕ) → WhereRead left left' (λ file. IsMaster file master) → WhereRead under under' (λ file. RingFound master (Ok key) file)
    → OnlyWhere log log' (WhereRead left left' (λ m. WhereRead under under' (λ r. HasKey m r)))
log_behind log log' left left' under under' master key is found = inr (where_map left left' _ _ (λ m h. where_map under under' _ _ (λ r f. (key, gives_key m r master key h f)) found) is)

-- the log was verified under the key of both
pub reported_all : (ma ma' ri ri' lo lo' held held' : Option (List ℕ)) (master key : List ℕ) (status : AuditStatus) → IsReport status
    → WhereRead ma ma' (λ file. IsMaster file master) → WhereRead ri ri' (λ file. RingFound master (Ok key) file) → WhereRead lo lo' (λ file. Reported key held held' status file)
    → WhereRead ma ma' (λ m. WhereRead ri ri' (λ r. WhereRead lo lo' (λ l. Outcome m r l held held' status)))
reported_all ma ma' ri ri' lo lo' held held' master key status shape is found reported =
    where_map ma ma' _ _ (λ m h. where_map ri ri' _ _ (λ r f. where_map lo lo' _ _ (λ l p. reported_outcome m r l key held held' status shape (gives_key m r master key h f) p) reported) found) is
