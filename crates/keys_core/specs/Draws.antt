-- What is drawn.
use Rattle.std.specs.Prelude.{ℕ, ◌≡◌, ◌^◌, nat_lt, ◌==◌, ◌&&◌, Bool, true, false, if◌then◌else◌, List, [], ◌∷◌, ◌++◌, length, Option, Some, None, Result, Ok, Err}
use Rattle.rand_core.specs.Stream.{Stream, fill_bytes}
use Rattle.keystore.specs.Rings.{RingState}
use Rattle.keystore.specs.Answers.{add_refusal, retire_refusal}
use Rattle.ring_file.specs.Master.{master_of}
use Rattle.keys_core.specs.declared.words.Ask.{Ask}
use Rattle.keys_core.specs.declared.words.Ask.TheVariants as asks
use Rattle.keys_core.specs.declared.opening.Shut.{Shut}
use Rattle.keys_core.specs.declared.opening.Shut.TheVariants as shut
use Rattle.keys_core.specs.declared.status.RingTrouble.{RingTrouble}
use Rattle.keys_core.specs.declared.status.KeysStatus.{KeysStatus}
use Rattle.keys_core.specs.declared.status.KeysStatus.TheVariants as ends
use Rattle.keys_core.specs.declared.work.Work.{Work}
use Rattle.keys_core.specs.declared.work.Stop.{Stop}
use Rattle.keys_core.specs.declared.work.Stop.TheVariants as stop
use Rattle.keys_core.specs.Work.{new_ring, read_file, makes_ring}
use Rattle.keys_core.specs.Told.{Drew}

-- ---- the draws of a run in their order, each by its size

-- the nonce of a changed ring's file
abbrev pub nonce_unless : {E : Type 0} → Option E → List ℕ
nonce_unless None = 12 ∷ []
nonce_unless (Some why) = []

-- a client's keys come before the ring can refuse it
abbrev pub work_draws : Ask → RingState → List ℕ
work_draws (asks.Generate who) r = 64 ∷ nonce_unless (add_refusal r who)
work_draws asks.ListKeys r = []
work_draws (asks.Destroy who id) r = nonce_unless (retire_refusal r who id)
work_draws asks.Check r = []

abbrev pub read_draws : Ask → Result RingState RingTrouble → List ℕ
read_draws ask (Ok r) = work_draws ask r
read_draws ask (Err why) = []

-- an empty file is a new ring for `generate`: its keys come first, and it refuses no client
abbrev pub ring_draws : Ask → List ℕ → List ℕ → List ℕ
ring_draws ask master bytes = if makes_ring ask && (length bytes == 0) then 96 ∷ 64 ∷ 12 ∷ [] else read_draws ask (read_file master bytes)

abbrev pub draws_under : Ask → Option (List ℕ) → List ℕ → List ℕ
draws_under ask None ring = []
draws_under ask (Some key) ring = if nat_lt (2 ^ 24) (length ring) then [] else ring_draws ask key ring

-- by the content of the master file and of the ring's file
abbrev pub draws_of : Ask → List ℕ → List ℕ → List ℕ
draws_of ask master ring = draws_under ask (master_of master) ring

-- ---- what is told of the random device

-- the stream behind draws of these sizes
abbrev pub after : List ℕ → Stream → Stream
after [] s = s
after (size ∷ sizes) s = after sizes (fill_bytes size s).1

-- where it tells what comes before and after
abbrev pub DrewBy : List ℕ → Option Stream → Option Stream → Type 0
DrewBy sizes old new = Drew old new (λ s t. t ≡ after sizes s)

-- one of these draws failed, and those before it were made
pub record Missed (due : List ℕ) (old new : Option Stream) : Type 0 where
  pub before : List ℕ
  pub size : ℕ
  pub behind : List ℕ
  pub parts : before ++ size ∷ behind ≡ due
  pub made : DrewBy before old new

-- some of these draws were made, from the first on
pub record MadeSome (due : List ℕ) (old new : Option Stream) : Type 0 where
  pub before : List ℕ
  pub behind : List ℕ
  pub parts : before ++ behind ≡ due
  pub made : DrewBy before old new

-- nothing is drawn where a file can't be read; all that is due, and nothing else, where no draw failed and there was
-- memory
abbrev pub DrawnAs : KeysStatus → List ℕ → Option Stream → Option Stream → Type 0
DrawnAs (ends.ReadFault file) due old new = DrewBy [] old new
DrawnAs ends.RandomFault due old new = Missed due old new
DrawnAs ends.NoMemory due old new = MadeSome due old new
DrawnAs status due old new = DrewBy due old new

-- ---- parts of a run

-- the ring is new, or that of the file
abbrev pub OpensBy : Bool → Result RingState RingTrouble → Result RingState Shut → Type 0
OpensBy true read (Ok r) = (drawn : List ℕ) × (r ≡ new_ring drawn)
OpensBy true read (Err (shut.Trouble why)) = ⊥
OpensBy true read (Err shut.NoMemory) = ⊥
OpensBy true read (Err shut.RandomFault) = Unit {0}
OpensBy false read (Ok r) = read ≡ Ok r
OpensBy false read (Err (shut.Trouble why)) = read ≡ Err why
OpensBy false read (Err shut.NoMemory) = Unit {0}
OpensBy false read (Err shut.RandomFault) = ⊥

abbrev pub ring_keys : Bool → List ℕ
ring_keys true = 96 ∷ []
ring_keys false = []

abbrev pub OpenDrew : Bool → Result RingState Shut → Option Stream → Option Stream → Type 0
OpenDrew new (Ok r) s t = DrewBy (ring_keys new) s t
OpenDrew new (Err why) s t = DrewBy [] s t

abbrev pub WorkDrew : Result Work Stop → List ℕ → Option Stream → Option Stream → Type 0
WorkDrew (Ok w) due s t = DrewBy due s t
WorkDrew (Err stop.NoMemory) due s t = MadeSome due s t
WorkDrew (Err stop.RandomFault) due s t = Missed due s t

abbrev pub PreparedDrew : Result Work KeysStatus → List ℕ → Option Stream → Option Stream → Type 0
PreparedDrew (Ok w) due s t = DrewBy due s t
PreparedDrew (Err status) due s t = DrawnAs status due s t
