-- The tests of the search, which nothing meets past the handlers and past the entries of one.
use Rattle.std.specs.Prelude.{ℕ, ◌≡◌, ◌≤◌, ◌<◌, false, List, length}
use Rattle.json_rules.specs.Past.{at_index, count_in, none_past, none_past_inner}
use Rattle.json_rules.specs.declared.place.Place.TheVariants.{Entry, Part}
use Rattle.censor.specs.declared.handler.Handler.{Handler}
use Rattle.censor.specs.Rules.{breaks, handler_breaks, entry_breaks}

-- how many entries a handler has
abbrev pub entry_count : List Handler → ℕ → ℕ
entry_count hs i = count_in (λ h. h.entries) hs i

pub no_part : (hs : List Handler) (rule i : ℕ) → length hs ≤ i → breaks hs rule (Part i) ≡ false
no_part hs rule i past = none_past (handler_breaks rule) hs i past

pub no_entries : (hs : List Handler) (rule i j : ℕ) → length hs ≤ i → breaks hs rule (Entry i j) ≡ false
no_entries hs rule i j past = none_past (λ h. at_index (entry_breaks rule) h.entries j) hs i past

pub no_entry : (hs : List Handler) (rule i j : ℕ) → i < length hs → entry_count hs i ≤ j → breaks hs rule (Entry i j) ≡ false
no_entry hs rule i j within past = none_past_inner (λ h. h.entries) (λ h. entry_breaks rule) hs i j past
