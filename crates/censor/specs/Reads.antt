-- What the text of settings is read to: its censor, or the least rule that is broken, at its first place.
use Rattle.std.specs.Prelude.{ℕ, ◌≡◌, List, Bool, true, false, ◌&&◌, ◌==◌, Option, Some, None, option_and_then, codes}
use Rattle.serde_json.specs.Data.{Data}
use Rattle.json_rules.specs.Places.{IsLeast, IsUnbroken}
use Rattle.json_rules.specs.Order.{part_number, entry_number}
use Rattle.json_rules.specs.Tops.{objects_at, json_of}
use Rattle.json_rules.specs.declared.place.Place.{Place}
use Rattle.json_rules.specs.declared.place.Place.TheVariants as place
use Rattle.censor.specs.Settings.{AreHandlers}
use Rattle.censor.specs.Rules.{breaks}
use Rattle.censor.specs.declared.handler.Handler.{Handler}
use Rattle.censor.specs.declared.read.CensorRefusal.{CensorRefusal}
use Rattle.censor.specs.declared.read.CensorFault.{CensorFault}
use Rattle.censor.specs.declared.read.CensorFault.TheVariants as fault

-- the objects of the array `handlers`, none where the text is not JSON or its top is another
abbrev pub handlers_of : List ℕ → Option (List Data)
handlers_of text = option_and_then (objects_at (codes "handlers")) (json_of text)

abbrev pub is_text : Place → Bool
is_text place.Text = true
is_text (place.Entry i j) = false
is_text (place.Part i) = false

-- rule 1: the text has no handlers
abbrev pub no_handlers : ℕ → Place → Bool
no_handlers rule at = (rule == 1) && is_text at

-- a text has no handlers, or those that it has are what its objects say
abbrev pub HasHandlers : List ℕ → Option (List Handler) → Type 0
HasHandlers text None = handlers_of text ≡ None
HasHandlers text (Some hs) = (ds : List Data) × (handlers_of text ≡ Some ds) × AreHandlers ds hs

abbrev pub refusal_at : ℕ → Place → CensorRefusal
refusal_at rule at = record { handler = part_number at; entry = entry_number at; rule = rule }

-- the text breaks no rule, and these are its handlers
pub record IsCensor (text : List ℕ) (handlers : List Handler) : Type 0 where
  pub has : HasHandlers text (Some handlers)
  pub unbroken : IsUnbroken (breaks handlers)

-- rule 1 where the text has no handlers, and else the least rule that its handlers break, at the first place where they do
abbrev pub IsBroken : List ℕ → ℕ → Place → Type 0
IsBroken text rule at =
    (handlers : Option (List Handler)) × HasHandlers text handlers × elim handlers [ None ↦ IsLeast no_handlers rule at | Some hs ↦ IsLeast (breaks hs) rule at ]

pub record IsRefusal (text : List ℕ) (refusal : CensorRefusal) : Type 0 where
  pub at : Place
  pub least : IsBroken text refusal.rule at
  pub numbers : refusal ≡ refusal_at refusal.rule at

-- want of memory is free
abbrev pub IsFault : List ℕ → CensorFault → Type 0
IsFault text (fault.Refused refusal) = IsRefusal text refusal
IsFault text fault.NoMemory = Unit {0}
