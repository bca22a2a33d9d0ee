-- A run of the key tool over its devices.
use Rattle.std.specs.Prelude.{ℕ, ◌≡◌, ◌<◌, ◌≤◌, true, List, [], ◌∷◌, ◌++◌, length, Option, Some, None, is_some, Result, Ok, Err}
use Rattle.rand_core.specs.Stream.{Stream}
use Rattle.acra_devices.specs.Causes.{Rose}
use Rattle.keys_core.specs.declared.status.KeyFile.TheVariants as files
use Rattle.keys_core.specs.declared.status.KeysStatus.{KeysStatus}
use Rattle.keys_core.specs.declared.status.KeysStatus.TheVariants as ends
use Rattle.keys_core.specs.declared.work.Work.{Work}
use Rattle.keys_core.specs.Work.{Run, ended, worked, status_of}

-- ---- causes

-- each fault only where the count of its device rose
abbrev pub CausedBy : KeysStatus → ℕ → ℕ → ℕ → ℕ → ℕ → ℕ → ℕ → ℕ → ℕ → ℕ → Type 0
CausedBy (ends.ReadFault files.Master) m m' r r' k k' d d' w w' = Rose m m'
CausedBy (ends.ReadFault files.Ring) m m' r r' k k' d d' w w' = Rose r r'
CausedBy ends.KeeperFault m m' r r' k k' d d' w w' = Rose k k'
CausedBy ends.RandomFault m m' r r' k k' d d' w w' = Rose d d'
CausedBy ends.WriteFault m m' r r' k k' d d' w w' = Rose w w'
CausedBy status m m' r r' k k' d d' w w' = Unit {0}

-- no count falls
abbrev pub NoneFell : ℕ → ℕ → ℕ → ℕ → ℕ → ℕ → ℕ → ℕ → ℕ → ℕ → Type 0
NoneFell m m' r r' k k' d d' w w' = (m ≤ m') × ((r ≤ r') × ((k ≤ k') × ((d ≤ d') × (w ≤ w'))))

-- what comes before anything is kept or printed: only these, and each fault where its count rose
abbrev pub StopCaused : KeysStatus → ℕ → ℕ → ℕ → ℕ → ℕ → ℕ → Type 0
StopCaused ends.BadMaster m m' r r' d d' = Unit {0}
StopCaused (ends.RingRefused why) m m' r r' d d' = Unit {0}
StopCaused ends.NoMemory m m' r r' d d' = Unit {0}
StopCaused (ends.ReadFault files.Master) m m' r r' d d' = Rose m m'
StopCaused (ends.ReadFault files.Ring) m m' r r' d d' = Rose r r'
StopCaused ends.RandomFault m m' r r' d d' = Rose d d'
StopCaused status m m' r r' d d' = ⊥

abbrev pub FinishCaused : KeysStatus → ℕ → ℕ → ℕ → ℕ → Type 0
FinishCaused ends.Done k k' w w' = Unit {0}
FinishCaused (ends.Refused why) k k' w w' = Unit {0}
FinishCaused ends.KeeperFault k k' w w' = Rose k k'
FinishCaused ends.WriteFault k k' w w' = Rose w w'
FinishCaused status k k' w w' = ⊥

-- ---- parts of a run

-- the key that a told master file spells
abbrev pub MasterAs : Result (List ℕ) KeysStatus → Option (List ℕ) → Type 0
MasterAs (Ok key) spelled = spelled ≡ Some key
MasterAs (Err ends.BadMaster) spelled = spelled ≡ None
MasterAs (Err (ends.RingRefused why)) spelled = ⊥
MasterAs (Err status) spelled = Unit {0}

-- before anything is kept or printed
abbrev pub StopsAs : KeysStatus → Run → Stream → Stream → Type 0
StopsAs ends.BadMaster run s t = run ≡ ended ends.BadMaster t
StopsAs (ends.RingRefused why) run s t = run ≡ ended (ends.RingRefused why) t
StopsAs (ends.ReadFault file) run s t = t ≡ s
StopsAs status run s t = Unit {0}

abbrev pub PreparedAs : Result Work KeysStatus → Run → Stream → Stream → Type 0
PreparedAs (Ok w) run s t = run ≡ worked (w, t)
PreparedAs (Err status) run s t = StopsAs status run s t

-- the piece is kept in place of all, where there is one
abbrev pub IsKept : Option (List ℕ) → List (List ℕ) → List (List ℕ) → Type 0
IsKept None k k' = k' ≡ k
IsKept (Some piece) k k' = k' ≡ piece ∷ []

-- a front of the line was printed, and not all of it
pub record FrontPrinted (line h h' : List ℕ) : Type 0 where
  pub front : List ℕ
  pub more : List ℕ
  pub parts : front ++ more ≡ line
  pub less : 0 < length more
  pub printed : h' ≡ h ++ front

abbrev pub FinishedAs : KeysStatus → Work → List (List ℕ) → List (List ℕ) → List ℕ → List ℕ → Type 0
FinishedAs ends.KeeperFault work k k' h h' = (is_some work.file ≡ true) × ((k' ≡ k) × (h' ≡ h))
FinishedAs ends.WriteFault work k k' h h' = IsKept work.file k k' × FrontPrinted work.line h h'
FinishedAs status work k k' h h' = (status ≡ status_of work.outcome) × (IsKept work.file k k' × (h' ≡ h ++ work.line))

-- ---- a whole run

-- what was told before and after: the two files, what is kept, the random bytes that come, and the output
abbrev pub WhereTold : Option (List ℕ) → Option (List ℕ) → Option (List ℕ) → Option (List ℕ) → Option (List (List ℕ)) → Option (List (List ℕ)) → Option Stream → Option Stream → Option (List ℕ) → Option (List ℕ)
    → (List ℕ → List ℕ → Stream → Stream → List (List ℕ) → List (List ℕ) → List ℕ → List ℕ → Type 0) → Type 0
WhereTold m m' r r' k k' s s' h h' P =
    (master ring : List ℕ) (coming coming' : Stream) (kept kept' : List (List ℕ)) (held held' : List ℕ)
    → m ≡ Some master → is_some m' ≡ true → r ≡ Some ring → is_some r' ≡ true → s ≡ Some coming → s' ≡ Some coming' → k ≡ Some kept → k' ≡ Some kept' → h ≡ Some held → h' ≡ Some held'
    → P master ring coming coming' kept kept' held held'

-- nothing is kept or printed at a fault before that; a keeper can fail only where there is a piece to keep; at a failed
-- write the ring is kept, and a front of its line is printed; else all is as the files, the words and the random bytes have it
abbrev pub IsRun : KeysStatus → Run → Stream → Stream → List (List ℕ) → List (List ℕ) → List ℕ → List ℕ → Type 0
IsRun ends.Usage run s t k k' h h' = ⊥
IsRun (ends.ReadFault file) run s t k k' h h' = (t ≡ s) × ((k' ≡ k) × (h' ≡ h))
IsRun ends.RandomFault run s t k k' h h' = (k' ≡ k) × (h' ≡ h)
IsRun ends.NoMemory run s t k k' h h' = (k' ≡ k) × (h' ≡ h)
IsRun ends.KeeperFault run s t k k' h h' = (is_some run.piece ≡ true) × ((t ≡ run.coming) × ((k' ≡ k) × (h' ≡ h)))
IsRun ends.WriteFault run s t k k' h h' = (t ≡ run.coming) × (IsKept run.piece k k' × FrontPrinted run.line h h')
IsRun status run s t k k' h h' = (status ≡ run.status) × ((t ≡ run.coming) × (IsKept run.piece k k' × (h' ≡ h ++ run.line)))
