-- The words of the command line: a folder, and what is asked.
use Rattle.std.specs.Prelude.{ℕ, ◌&&◌, if◌then◌else◌, List, [], ◌∷◌, Option, None, Some, codes}
use Rattle.command_words.specs.Words.{is_word}
use Rattle.command_words.specs.Numbers.{number_of}
use Rattle.command_words.specs.Clients.{is_id_text}
use Rattle.keys_core.specs.declared.words.Ask.{Ask}
use Rattle.keys_core.specs.declared.words.Ask.TheVariants as asks

abbrev pub one_word : List ℕ → Option Ask
one_word word = if is_word word (codes "list") then Some asks.ListKeys else if is_word word (codes "check") then Some asks.Check else None

abbrev pub with_id : List ℕ → List ℕ → Option Ask
with_id word name = if is_word word (codes "generate") && is_id_text name then Some (asks.Generate name) else None

abbrev pub destroys : List ℕ → Option ℕ → Option Ask
destroys name None = None
destroys name (Some id) = Some (asks.Destroy name id)

abbrev pub with_key : List ℕ → List ℕ → List ℕ → Option Ask
with_key word name digits = if is_word word (codes "destroy") && is_id_text name then destroys name (number_of digits) else None

-- DIR list, DIR check, DIR generate ID, DIR destroy ID KEY
abbrev pub asked : List (List ℕ) → Option Ask
asked (folder ∷ (word ∷ [])) = one_word word
asked (folder ∷ (word ∷ (name ∷ []))) = with_id word name
asked (folder ∷ (word ∷ (name ∷ (digits ∷ [])))) = with_key word name digits
asked words = None
