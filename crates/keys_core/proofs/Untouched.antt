-- Devices that have no business at an end are as they were.
use Rattle.std.proofs.Common.{◌≡◌, ℕ, ◌≤◌, ◌&&◌, Bool, true, false, is_some, Result, Ok, Err, IfErr, refl, sym, ap, ◌∙◌, arith}
use Rattle.keys_core.specs.declared.words.Ask.{Ask}
use Rattle.ring_file.specs.declared.whole.FileRefusal.{FileRefusal}
use Rattle.ring_file.specs.declared.whole.FileRefusal.TheVariants as refusals
use Rattle.keys_core.specs.declared.status.KeyFile.{KeyFile}
use Rattle.keys_core.specs.declared.status.KeyFile.TheVariants as files
use Rattle.keys_core.specs.declared.status.KeysStatus.{KeysStatus}
use Rattle.keys_core.specs.declared.status.KeysStatus.TheVariants as ends
use Rattle.keys_core.specs.declared.work.Work.{Work}
use Rattle.keys_core.specs.Again.{changes, is_done, changed_ring}
use Rattle.keys_core.specs.Runs.{StopCaused, FinishCaused}
use Rattle.keys_core.specs.Untouched.{Untouched, StopUntouched, WorkUntouched, FinishUntouched, CountsStay, ReadStayed}

-- ---- before anything is kept or printed

work_stop : {T R : Type 0} (r r' : T) (d d' : R) (status : KeysStatus) → WorkUntouched status d d' → StopUntouched status r r' d d'
work_stop r r' d d' ends.Done h = absurd h
work_stop r r' d d' ends.Usage h = absurd h
work_stop r r' d d' ends.BadMaster h = absurd h
work_stop r r' d d' (ends.RingRefused why) h = h
work_stop r r' d d' (ends.Refused why) h = absurd h
work_stop r r' d d' (ends.ReadFault file) h = absurd h
work_stop r r' d d' ends.WriteFault h = absurd h
work_stop r r' d d' ends.NoMemory h = tt
work_stop r r' d d' ends.KeeperFault h = absurd h
work_stop r r' d d' ends.RandomFault h = tt

pub worked_untouched : {T R : Type 0} (r r' : T) (d d' : R) (result : Result Work KeysStatus) → IfErr result (λ status. WorkUntouched status d d') → IfErr result (λ status. StopUntouched status r r' d d')
worked_untouched r r' d d' (Ok w) h = tt
worked_untouched r r' d d' (Err status) h = work_stop r r' d d' status h

pub master_untouched : {T R : Type 0} (r : T) (d : R) (status : KeysStatus) → StopUntouched status r r d d
master_untouched r d ends.Done = tt
master_untouched r d ends.Usage = tt
master_untouched r d ends.BadMaster = (refl, refl)
master_untouched r d (ends.RingRefused why) = refl
master_untouched r d (ends.Refused why) = tt
master_untouched r d (ends.ReadFault files.Master) = (refl, refl)
master_untouched r d (ends.ReadFault files.Ring) = refl
master_untouched r d ends.WriteFault = tt
master_untouched r d ends.NoMemory = tt
master_untouched r d ends.KeeperFault = tt
master_untouched r d ends.RandomFault = tt

-- ---- a whole run

pub stop_untouched : {S T K R W : Type 0} (m m' : S) (r r' : T) (k : K) (d d' : R) (w : W) (a a' b b' e e' : ℕ) (status : KeysStatus) → StopCaused status a a' b b' e e' → StopUntouched status r r' d d'
    → Untouched status m m' r r' k k d d' w w
stop_untouched m m' r r' k d d' w a a' b b' e e' ends.Done c h = absurd c
stop_untouched m m' r r' k d d' w a a' b b' e e' ends.Usage c h = absurd c
stop_untouched m m' r r' k d d' w a a' b b' e e' ends.BadMaster c h = (h.0, (refl, (h.1, refl)))
stop_untouched m m' r r' k d d' w a a' b b' e e' (ends.RingRefused why) c h = (refl, (h, refl))
stop_untouched m m' r r' k d d' w a a' b b' e e' (ends.Refused why) c h = absurd c
stop_untouched m m' r r' k d d' w a a' b b' e e' (ends.ReadFault files.Master) c h = (h.0, (refl, (h.1, refl)))
stop_untouched m m' r r' k d d' w a a' b b' e e' (ends.ReadFault files.Ring) c h = (refl, (h, refl))
stop_untouched m m' r r' k d d' w a a' b b' e e' ends.WriteFault c h = absurd c
stop_untouched m m' r r' k d d' w a a' b b' e e' ends.NoMemory c h = (refl, refl)
stop_untouched m m' r r' k d d' w a a' b b' e e' ends.KeeperFault c h = absurd c
stop_untouched m m' r r' k d d' w a a' b b' e e' ends.RandomFault c h = (refl, refl)

-- a refused work has no file
no_file : (some changing done : Bool) → some ≡ (changing && done) → done ≡ false → some ≡ false
no_file some true true e h = absurd (cc h)
no_file some true false e h = e
no_file some false done e h = e

pub finish_untouched : {S T K R W : Type 0} (m m' : S) (r r' : T) (k k' : K) (d d' : R) (w w' : W) (a a' b b' : ℕ) (ask : Ask) (work : Work) (status : KeysStatus) → FinishCaused status a a' b b'
    → is_some work.file ≡ changed_ring ask work.outcome → FinishUntouched status (is_done work.outcome) w w' → (is_some work.file ≡ false → k' ≡ k) → Untouched status m m' r r' k k' d d' w w'
finish_untouched m m' r r' k k' d d' w w' a a' b b' ask work ends.Done c e h still = tt
finish_untouched m m' r r' k k' d d' w w' a a' b b' ask work ends.Usage c e h still = absurd c
finish_untouched m m' r r' k k' d d' w w' a a' b b' ask work ends.BadMaster c e h still = absurd c
finish_untouched m m' r r' k k' d d' w w' a a' b b' ask work (ends.RingRefused why) c e h still = absurd c
finish_untouched m m' r r' k k' d d' w w' a a' b b' ask work (ends.Refused why) c e h still = still (no_file (is_some work.file) (changes ask) (is_done work.outcome) e h)
finish_untouched m m' r r' k k' d d' w w' a a' b b' ask work (ends.ReadFault files.Master) c e h still = absurd c
finish_untouched m m' r r' k k' d d' w w' a a' b b' ask work (ends.ReadFault files.Ring) c e h still = absurd c
finish_untouched m m' r r' k k' d d' w w' a a' b b' ask work ends.WriteFault c e h still = tt
finish_untouched m m' r r' k k' d d' w w' a a' b b' ask work ends.NoMemory c e h still = absurd c
finish_untouched m m' r r' k k' d d' w w' a a' b b' ask work ends.KeeperFault c e h still = h
finish_untouched m m' r r' k k' d d' w w' a a' b b' ask work ends.RandomFault c e h still = absurd c

-- what doesn't change the ring has no file
pub unchanged_file : (ask : Ask) (work : Work) → is_some work.file ≡ changed_ring ask work.outcome → changes ask ≡ false → is_some work.file ≡ false
unchanged_file ask work e h = e ∙ ap (λ (b : Bool). b && is_done work.outcome) h

-- ---- counts

pub same_count : (n : ℕ) → n ≤ n
same_count n = omega arith

pub same_counts : (d : ℕ) (status : KeysStatus) → CountsStay status 0 0 d d 0 0
same_counts d ends.Done = (refl, (refl, refl))
same_counts d ends.Usage = (refl, (refl, refl))
same_counts d ends.BadMaster = (refl, (refl, refl))
same_counts d (ends.RingRefused why) = (refl, (refl, refl))
same_counts d (ends.Refused why) = (refl, (refl, refl))
same_counts d (ends.ReadFault file) = (refl, (refl, refl))
same_counts d ends.WriteFault = (refl, refl)
same_counts d ends.NoMemory = (refl, (refl, refl))
same_counts d ends.KeeperFault = (refl, refl)
same_counts d ends.RandomFault = (refl, refl)

pub stop_counts : (k d d' w a a' b b' : ℕ) (status : KeysStatus) → StopCaused status a a' b b' d d' → CountsStay status 0 0 d d' 0 0 → CountsStay status k k d d' w w
stop_counts k d d' w a a' b b' ends.Done c h = absurd c
stop_counts k d d' w a a' b b' ends.Usage c h = absurd c
stop_counts k d d' w a a' b b' ends.BadMaster c h = (refl, (h.1.0, refl))
stop_counts k d d' w a a' b b' (ends.RingRefused why) c h = (refl, (h.1.0, refl))
stop_counts k d d' w a a' b b' (ends.Refused why) c h = absurd c
stop_counts k d d' w a a' b b' (ends.ReadFault file) c h = (refl, (h.1.0, refl))
stop_counts k d d' w a a' b b' ends.WriteFault c h = absurd c
stop_counts k d d' w a a' b b' ends.NoMemory c h = (refl, (h.1.0, refl))
stop_counts k d d' w a a' b b' ends.KeeperFault c h = absurd c
stop_counts k d d' w a a' b b' ends.RandomFault c h = (refl, refl)

pub finish_counts : (k k' d d' w w' : ℕ) (status : KeysStatus) → FinishCaused status k k' w w' → d' ≡ d → CountsStay status k k' 0 0 w w' → CountsStay status k k' d d' w w'
finish_counts k k' d d' w w' ends.Done c e h = (h.0, (e, h.1.1))
finish_counts k k' d d' w w' ends.Usage c e h = absurd c
finish_counts k k' d d' w w' ends.BadMaster c e h = absurd c
finish_counts k k' d d' w w' (ends.RingRefused why) c e h = absurd c
finish_counts k k' d d' w w' (ends.Refused why) c e h = (h.0, (e, h.1.1))
finish_counts k k' d d' w w' (ends.ReadFault file) c e h = absurd c
finish_counts k k' d d' w w' ends.WriteFault c e h = (h.0, e)
finish_counts k k' d d' w w' ends.NoMemory c e h = absurd c
finish_counts k k' d d' w w' ends.KeeperFault c e h = (e, h.1)
finish_counts k k' d d' w w' ends.RandomFault c e h = absurd c

-- ---- the files' counts

pub read_stayed : {T : Type 0} (result : Result T KeysStatus) (file : KeyFile) (r r' : ℕ) → r' ≡ r → ReadStayed result file r r'
read_stayed (Ok value) file r r' e = e
read_stayed (Err status) file r r' e = λ not. e

pub other_refusal : {T : Type 0} (why found : FileRefusal) → found ≡ why → (why ≡ refusals.ReadFault → ⊥) → ◌≡◌ {A = Result T FileRefusal} (Err found) (Err refusals.ReadFault) → ⊥
other_refusal {T} why found e other h = other (sym e ∙ same)
  where
    same : found ≡ refusals.ReadFault
    same = cc
