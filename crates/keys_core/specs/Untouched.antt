-- Devices that have no business at an end are as they were: nothing of them is read, drawn, kept or printed, and no
-- count moves.
use Rattle.std.specs.Prelude.{◌≡◌, ℕ, Bool, false, Result, Ok, Err}
use Rattle.keys_core.specs.declared.opening.Shut.{Shut}
use Rattle.keys_core.specs.declared.opening.Shut.TheVariants as shut
use Rattle.keys_core.specs.declared.work.Work.{Work}
use Rattle.keys_core.specs.declared.work.Stop.{Stop}
use Rattle.keys_core.specs.declared.work.Stop.TheVariants as stop
use Rattle.keys_core.specs.declared.status.KeyFile.{KeyFile}
use Rattle.keys_core.specs.declared.status.KeyFile.TheVariants as files
use Rattle.keys_core.specs.declared.status.KeysStatus.{KeysStatus}
use Rattle.keys_core.specs.declared.status.KeysStatus.TheVariants as ends

-- the master file m, the ring's file r, the keeper k, the random device d and the output w
abbrev pub Untouched : {S T K R W : Type 0} → KeysStatus → S → S → T → T → K → K → R → R → W → W → Type 0
Untouched ends.Usage m m' r r' k k' d d' w w' = (m' ≡ m) × ((r' ≡ r) × ((k' ≡ k) × ((d' ≡ d) × (w' ≡ w))))
Untouched ends.BadMaster m m' r r' k k' d d' w w' = (r' ≡ r) × ((k' ≡ k) × ((d' ≡ d) × (w' ≡ w)))
Untouched (ends.ReadFault files.Master) m m' r r' k k' d d' w w' = (r' ≡ r) × ((k' ≡ k) × ((d' ≡ d) × (w' ≡ w)))
Untouched (ends.ReadFault files.Ring) m m' r r' k k' d d' w w' = (k' ≡ k) × ((d' ≡ d) × (w' ≡ w))
Untouched (ends.RingRefused why) m m' r r' k k' d d' w w' = (k' ≡ k) × ((d' ≡ d) × (w' ≡ w))
Untouched ends.RandomFault m m' r r' k k' d d' w w' = (k' ≡ k) × (w' ≡ w)
Untouched ends.NoMemory m m' r r' k k' d d' w w' = (k' ≡ k) × (w' ≡ w)
Untouched (ends.Refused why) m m' r r' k k' d d' w w' = k' ≡ k
Untouched ends.KeeperFault m m' r r' k k' d d' w w' = w' ≡ w
Untouched status m m' r r' k k' d d' w w' = Unit {0}

-- ---- parts of a run

-- before anything is kept or printed
abbrev pub StopUntouched : {T R : Type 0} → KeysStatus → T → T → R → R → Type 0
StopUntouched ends.BadMaster r r' d d' = (r' ≡ r) × (d' ≡ d)
StopUntouched (ends.ReadFault files.Master) r r' d d' = (r' ≡ r) × (d' ≡ d)
StopUntouched (ends.ReadFault files.Ring) r r' d d' = d' ≡ d
StopUntouched (ends.RingRefused why) r r' d d' = d' ≡ d
StopUntouched status r r' d d' = Unit {0}

-- in the work under a master key: only these ends
abbrev pub WorkUntouched : {R : Type 0} → KeysStatus → R → R → Type 0
WorkUntouched (ends.RingRefused why) d d' = d' ≡ d
WorkUntouched ends.NoMemory d d' = Unit {0}
WorkUntouched ends.RandomFault d d' = Unit {0}
WorkUntouched status d d' = ⊥

-- where there is no ring for another reason than a draw
abbrev pub ShutUntouched : {R : Type 0} → Shut → R → R → Type 0
ShutUntouched shut.RandomFault d d' = Unit {0}
ShutUntouched (shut.Trouble why) d d' = d' ≡ d
ShutUntouched shut.NoMemory d d' = d' ≡ d

-- after the work: a refusal is the work's
abbrev pub FinishUntouched : {W : Type 0} → KeysStatus → Bool → W → W → Type 0
FinishUntouched (ends.Refused why) done w w' = done ≡ false
FinishUntouched ends.KeeperFault done w w' = w' ≡ w
FinishUntouched status done w w' = Unit {0}

-- ---- counts

-- the counts of the keeper, the random device and the output move only at that device's own fault
abbrev pub CountsStay : KeysStatus → ℕ → ℕ → ℕ → ℕ → ℕ → ℕ → Type 0
CountsStay ends.KeeperFault k k' d d' w w' = (d' ≡ d) × (w' ≡ w)
CountsStay ends.RandomFault k k' d d' w w' = (k' ≡ k) × (w' ≡ w)
CountsStay ends.WriteFault k k' d d' w w' = (k' ≡ k) × (d' ≡ d)
CountsStay status k k' d d' w w' = (k' ≡ k) × ((d' ≡ d) × (w' ≡ w))

abbrev pub WorkCount : Result Work Stop → ℕ → ℕ → Type 0
WorkCount (Ok w) d d' = d' ≡ d
WorkCount (Err stop.NoMemory) d d' = d' ≡ d
WorkCount (Err stop.RandomFault) d d' = Unit {0}

-- the count of a file's reads moves only at its own fault
abbrev pub FileStayed : KeysStatus → KeyFile → ℕ → ℕ → Type 0
FileStayed status file r r' = (status ≡ ends.ReadFault file → ⊥) → r' ≡ r

abbrev pub ReadStayed : {T : Type 0} → Result T KeysStatus → KeyFile → ℕ → ℕ → Type 0
ReadStayed (Ok value) file r r' = r' ≡ r
ReadStayed (Err status) file r r' = FileStayed status file r r'
