-- A ring that is kept reads back.
use Rattle.std.specs.Prelude.{ℕ, ◌≡◌, ◌&&◌, Bool, true, false, List, [], ◌∷◌, Some, IsSomeAnd, Ok}
use Rattle.acra_crypto.specs.Gcm.{aes256_gcm}
use Rattle.keystore.specs.Rings.{RingState}
use Rattle.ring_file.specs.Files.{SpellsRing}
use Rattle.ring_file.specs.Master.{master_of}
use Rattle.keys_core.specs.declared.words.Ask.{Ask}
use Rattle.keys_core.specs.declared.words.Ask.TheVariants as asks
use Rattle.keys_core.specs.declared.work.Work.{Work}
use Rattle.keys_core.specs.declared.work.Outcome.{Outcome}
use Rattle.keys_core.specs.declared.work.Outcome.TheVariants as outcomes
use Rattle.keys_core.specs.Work.{read_file}

-- the file spells a ring by the rules of ring files, and is read as that ring
pub record ReadsBack (key file : List ℕ) : Type 0 where
  pub ring : RingState
  pub spells : SpellsRing aes256_gcm key file ring
  pub again : read_file key file ≡ Ok ring

-- what is asked changes the ring
abbrev pub changes : Ask → Bool
changes (asks.Generate who) = true
changes asks.ListKeys = false
changes (asks.Destroy who id) = true
changes asks.Check = false

abbrev pub is_done : Outcome → Bool
is_done outcomes.Done = true
is_done (outcomes.Refused why) = false

-- whether the ring is another after this outcome
abbrev pub changed_ring : Ask → Outcome → Bool
changed_ring ask outcome = changes ask && is_done outcome

-- there is a file, and it reads back
abbrev pub HasFile : List ℕ → Work → Type 0
HasFile key work = IsSomeAnd work.file (ReadsBack key)

-- the same where the work is done
abbrev pub MakesFile : List ℕ → Work → Type 0
MakesFile key work = work.outcome ≡ outcomes.Done → HasFile key work

-- all that is kept is a file that reads back under the key of the master file
pub record KeepsRing (master : List ℕ) (kept : List (List ℕ)) : Type 0 where
  pub key : List ℕ
  pub file : List ℕ
  pub is_key : master_of master ≡ Some key
  pub alone : kept ≡ file ∷ []
  pub back : ReadsBack key file
