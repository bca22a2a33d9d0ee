-- What is asked is one of three things.
use Rattle.std.proofs.Common.{◌≡◌, ◌∙◌, sym}
use Rattle.command_words.specs.declared.asked.Asked.{Asked}
use Rattle.command_words.specs.declared.asked.Asked.TheVariants as asked

pub other_help : (a : Asked) → a ≡ asked.Work → a ≡ asked.Help → ⊥
other_help a w h = let same : asked.Work ≡ asked.Help = sym w ∙ h in cc

pub other_version : (a : Asked) → a ≡ asked.Work → a ≡ asked.Version → ⊥
other_version a w h = let same : asked.Work ≡ asked.Version = sym w ∙ h in cc
