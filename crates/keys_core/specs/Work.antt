-- What the key tool does, where no device fails and there is memory.
use Rattle.std.specs.Prelude.{ℕ, ◌-◌, ◌^◌, nat_lt, ◌==◌, ◌&&◌, Bool, true, false, if◌then◌else◌, List, [], ◌++◌, length, take, drop, codes, Option, Some, None, Result, Ok, Err}
use Rattle.rand_core.specs.Stream.{Stream, fill_bytes}
use Rattle.acra_crypto.specs.Gcm.{aes256_gcm, aes256_gcm_opened}
use Rattle.keystore.specs.declared.keys.NewKeys.{NewKeys}
use Rattle.keystore.specs.declared.refusals.AddRefusal.{AddRefusal}
use Rattle.keystore.specs.declared.refusals.AddRefusal.TheVariants as no_add
use Rattle.keystore.specs.declared.refusals.RetireRefusal.{RetireRefusal}
use Rattle.keystore.specs.declared.refusals.RetireRefusal.TheVariants as not_retired
use Rattle.keystore.specs.Rings.{RingState, restored_ring}
use Rattle.keystore.specs.Answers.{add_refusal, with_client, retire_refusal, with_retired}
use Rattle.ring_file.specs.Form.{ring_file}
use Rattle.ring_file.specs.Reading.{ring_read}
use Rattle.ring_file.specs.Files.{file_body}
use Rattle.ring_file.specs.Master.{master_of}
use Rattle.keys_core.specs.declared.words.Ask.{Ask}
use Rattle.keys_core.specs.declared.words.Ask.TheVariants as asks
use Rattle.keys_core.specs.declared.status.RingTrouble.{RingTrouble}
use Rattle.keys_core.specs.declared.status.RingTrouble.TheVariants as trouble
use Rattle.keys_core.specs.declared.status.Refusal.{Refusal}
use Rattle.keys_core.specs.declared.status.Refusal.TheVariants as refusal
use Rattle.keys_core.specs.declared.status.KeysStatus.{KeysStatus}
use Rattle.keys_core.specs.declared.status.KeysStatus.TheVariants as ends
use Rattle.keys_core.specs.declared.work.Work.{Work}
use Rattle.keys_core.specs.declared.work.Outcome.{Outcome}
use Rattle.keys_core.specs.declared.work.Outcome.TheVariants as outcomes
use Rattle.keys_core.specs.Lines.{key_then, newline, ring_lines, check_line, refused_line}

-- ---- the ring

-- the drawn bytes are the token key, the store key and the audit key
abbrev pub new_ring : List ℕ → RingState
new_ring drawn = restored_ring (take 32 drawn) (take 32 (drop 32 drawn)) (take 32 (drop 64 drawn)) [] 1

abbrev pub placed : ℕ → Result RingState ℕ → Result RingState RingTrouble
placed len (Ok r) = Ok r
placed len (Err left) = Err (trouble.BadForm (len - left))

abbrev pub read_body : Option (List ℕ) → Result RingState RingTrouble
read_body None = Err trouble.NotSealed
read_body (Some body) = placed (length body) (ring_read body)

-- the ring of a file
abbrev pub read_file : List ℕ → List ℕ → Result RingState RingTrouble
read_file master bytes = read_body (file_body aes256_gcm_opened master bytes)

abbrev pub makes_ring : Ask → Bool
makes_ring (asks.Generate who) = true
makes_ring asks.ListKeys = false
makes_ring (asks.Destroy who id) = false
makes_ring asks.Check = false

-- an empty file is a new ring for `generate`
abbrev pub made_or_read : Bool → List ℕ → List ℕ → Stream → Result RingState RingTrouble × Stream
made_or_read makes master bytes s =
    if makes && (length bytes == 0) then (let own = fill_bytes 96 s in (Ok (new_ring own.0), own.1))
    else (read_file master bytes, s)

-- a file has at most 2^24 bytes
abbrev pub opened_ring : Bool → List ℕ → List ℕ → Stream → Result RingState RingTrouble × Stream
opened_ring makes master bytes s = if nat_lt (2 ^ 24) (length bytes) then (Err trouble.TooLong, s) else made_or_read makes master bytes s

-- ---- the work

abbrev pub refused : Refusal → Work
refused why = record { outcome = outcomes.Refused why; line = refused_line why; file = None }

abbrev pub with_file : List ℕ → List ℕ → List ℕ → RingState → Work
with_file line master nonce r = record { outcome = outcomes.Done; line = line; file = Some (ring_file aes256_gcm master nonce r) }

-- the nonce of the file is drawn
abbrev pub changed_by : List ℕ → List ℕ → RingState → Stream → Work × Stream
changed_by line master r s = let nonce = fill_bytes 12 s in (with_file line master nonce.0 r, nonce.1)

-- the drawn bytes are the key and the search key
abbrev pub new_keys : List ℕ → NewKeys
new_keys drawn = record { key = take 32 drawn; search = take 32 (drop 32 drawn) }

abbrev pub add_word : AddRefusal → Refusal
add_word no_add.Exists = refusal.Exists
add_word no_add.TooMany = refusal.TooMany
add_word no_add.NoMemory = refusal.TooMany

abbrev pub generated_by : Option AddRefusal → List ℕ → List ℕ → RingState → List ℕ × Stream → Work × Stream
generated_by (Some why) who master r keys = (refused (add_word why), keys.1)
generated_by None who master r keys = changed_by (key_then who r.next_id newline) master (with_client r who (new_keys keys.0)) keys.1

abbrev pub generated : List ℕ → List ℕ → RingState → Stream → Work × Stream
generated who master r s = generated_by (add_refusal r who) who master r (fill_bytes 64 s)

abbrev pub retire_word : RetireRefusal → Refusal
retire_word not_retired.NoSuchKey = refusal.NoSuchKey
retire_word not_retired.NotSwept = refusal.NotSwept
retire_word (not_retired.Leased ticket) = refusal.NotSwept

abbrev pub destroyed_by : Option RetireRefusal → List ℕ → ℕ → List ℕ → RingState → Stream → Work × Stream
destroyed_by (Some why) who id master r s = (refused (retire_word why), s)
destroyed_by None who id master r s = changed_by (codes "destroyed " ++ key_then who id newline) master (with_retired r who id) s

abbrev pub shown : List ℕ → Work
shown line = record { outcome = outcomes.Done; line = line; file = None }

abbrev pub work_of : Ask → List ℕ → RingState → Stream → Work × Stream
work_of (asks.Generate who) master r s = generated who master r s
work_of asks.ListKeys master r s = (shown (ring_lines r.clients), s)
work_of (asks.Destroy who id) master r s = destroyed_by (retire_refusal r who id) who id master r s
work_of asks.Check master r s = (shown (check_line r.clients), s)

-- ---- a run

abbrev pub status_of : Outcome → KeysStatus
status_of outcomes.Done = ends.Done
status_of (outcomes.Refused why) = ends.Refused why

-- how a run ends, what it prints, what it keeps in place of all that was kept, and the random bytes that then come
pub record Run : Type 0 where
  pub status : KeysStatus
  pub line : List ℕ
  pub piece : Option (List ℕ)
  pub coming : Stream

abbrev pub ended : KeysStatus → Stream → Run
ended status s = record { status = status; line = []; piece = None; coming = s }

abbrev pub worked : Work × Stream → Run
worked w = record { status = status_of w.0.outcome; line = w.0.line; piece = w.0.file; coming = w.1 }

abbrev pub run_with : Ask → List ℕ → Result RingState RingTrouble × Stream → Run
run_with ask master (Ok r, s) = worked (work_of ask master r s)
run_with ask master (Err why, s) = ended (ends.RingRefused why) s

abbrev pub run_under : Ask → Option (List ℕ) → List ℕ → Stream → Run
run_under ask None ring s = ended ends.BadMaster s
run_under ask (Some key) ring s = run_with ask key (opened_ring (makes_ring ask) key ring s)

-- the run on the content of the master file and of the ring's file
abbrev pub run_of : Ask → List ℕ → List ℕ → Stream → Run
run_of ask master ring s = run_under ask (master_of master) ring s
