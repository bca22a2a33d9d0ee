-- The tests of the search, which nothing meets past the schemas and past the entries of one.
use Rattle.std.specs.Prelude.{ℕ, ◌≡◌, ◌≤◌, ◌<◌, Bool, false, List, length, take}
use Rattle.json_rules.specs.Past.{at_index, count_in, none_past, none_past_inner}
use Rattle.json_rules.specs.declared.place.Place.TheVariants.{Entry, Part}
use Rattle.enc_config.specs.declared.texts.SchemaText.{SchemaText}
use Rattle.enc_config.specs.Rules.{tests, schema_breaks, entry_breaks}

abbrev pub entry_at : ℕ → SchemaText → ℕ → Bool
entry_at rule s j = at_index (entry_breaks rule s (take j s.entries)) s.entries j

-- how many entries a schema has
abbrev pub entry_count : List SchemaText → ℕ → ℕ
entry_count ss i = count_in (λ s. s.entries) ss i

pub no_part : (ss : List SchemaText) (rule i : ℕ) → length ss ≤ i → tests ss rule (Part i) ≡ false
no_part ss rule i past = none_past (schema_breaks rule (take i ss)) ss i past

pub no_entries : (ss : List SchemaText) (rule i j : ℕ) → length ss ≤ i → tests ss rule (Entry i j) ≡ false
no_entries ss rule i j past = none_past (λ s. entry_at rule s j) ss i past

pub no_entry : (ss : List SchemaText) (rule i j : ℕ) → i < length ss → entry_count ss i ≤ j → tests ss rule (Entry i j) ≡ false
no_entry ss rule i j within past = none_past_inner (λ s. s.entries) (λ s. entry_breaks rule s (take j s.entries)) ss i j past
