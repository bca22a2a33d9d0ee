-- The master file comes before all else.
use Rattle.std.proofs.Common.{◌≡◌, ℕ, true, List, Option, Some, is_some, Result, Ok, Err, IfErr, MatchResult, ap}
use Rattle.keys_core.specs.declared.status.KeyFile.TheVariants as files
use Rattle.keys_core.specs.declared.status.KeysStatus.{KeysStatus}
use Rattle.keys_core.specs.declared.status.KeysStatus.TheVariants as ends
use Rattle.keys_core.specs.declared.work.Work.{Work}
use Rattle.keys_core.specs.Order.{MasterFirst}
use Rattle.keys_core.specs.Runs.{StopCaused, FinishCaused, MasterAs}
use Rattle.keys_core.specs.Untouched.{WorkUntouched}
use Rattle.keys_core.proofs.Runs.{never}

work_order : {R : Type 0} (d d' : R) (key : Option (List ℕ)) (status : KeysStatus) → is_some key ≡ true → WorkUntouched status d d' → MasterFirst status key
work_order d d' key ends.Done e h = absurd h
work_order d d' key ends.Usage e h = tt
work_order d d' key ends.BadMaster e h = absurd h
work_order d d' key (ends.RingRefused why) e h = e
work_order d d' key (ends.Refused why) e h = absurd h
work_order d d' key (ends.ReadFault file) e h = absurd h
work_order d d' key ends.WriteFault e h = absurd h
work_order d d' key ends.NoMemory e h = tt
work_order d d' key ends.KeeperFault e h = absurd h
work_order d d' key ends.RandomFault e h = e

pub worked_order : {R : Type 0} (d d' : R) (key : List ℕ) (told : Option (List ℕ)) (result : Result Work KeysStatus) → told ≡ Some key → IfErr result (λ status. WorkUntouched status d d')
    → MatchResult result (λ w. is_some told ≡ true) (λ status. MasterFirst status told)
worked_order d d' key told (Ok w) e h = ap is_some e
worked_order d d' key told (Err status) e h = work_order d d' told status (ap is_some e) h

pub master_order : (a b : ℕ) (key : Option (List ℕ)) (status : KeysStatus) → StopCaused status a b 0 0 0 0 → MasterAs (Err status) key → MasterFirst status key
master_order a b key ends.Done h e = absurd h
master_order a b key ends.Usage h e = absurd h
master_order a b key ends.BadMaster h e = e
master_order a b key (ends.RingRefused why) h e = absurd e
master_order a b key (ends.Refused why) h e = absurd h
master_order a b key (ends.ReadFault files.Master) h e = tt
master_order a b key (ends.ReadFault files.Ring) h e = never h
master_order a b key ends.WriteFault h e = absurd h
master_order a b key ends.NoMemory h e = tt
master_order a b key ends.KeeperFault h e = absurd h
master_order a b key ends.RandomFault h e = never h

pub finish_order : (k k' w w' : ℕ) (key : Option (List ℕ)) (status : KeysStatus) → FinishCaused status k k' w w' → is_some key ≡ true → MasterFirst status key
finish_order k k' w w' key ends.Done h e = e
finish_order k k' w w' key ends.Usage h e = absurd h
finish_order k k' w w' key ends.BadMaster h e = absurd h
finish_order k k' w w' key (ends.RingRefused why) h e = absurd h
finish_order k k' w w' key (ends.Refused why) h e = e
finish_order k k' w w' key (ends.ReadFault file) h e = absurd h
finish_order k k' w w' key ends.WriteFault h e = e
finish_order k k' w w' key ends.NoMemory h e = absurd h
finish_order k k' w w' key ends.KeeperFault h e = e
finish_order k k' w w' key ends.RandomFault h e = absurd h
