-- The rules of the settings of a censor, each a test of what the text says.
use Rattle.std.specs.Prelude.{ℕ, ◌-◌, List, Bool, true, false, ◌&&◌, ◌||◌, not, if◌then◌else◌, Option, Some, None, length, nat_lt, ◌==◌}
use Rattle.acra_base.specs.Names.{is_name}
use Rattle.json_rules.specs.Past.{at_index}
use Rattle.json_rules.specs.declared.place.Place.{Place}
use Rattle.json_rules.specs.declared.place.Place.TheVariants as place
use Rattle.censor.specs.declared.handler.Word.{Word}
use Rattle.censor.specs.declared.handler.Word.TheVariants as word
use Rattle.censor.specs.declared.handler.Entry.{Entry}
use Rattle.censor.specs.declared.handler.Entry.TheVariants as entry
use Rattle.censor.specs.declared.handler.Handler.{Handler}

-- it decides whatever the statement is
abbrev pub decides_always : Option Word → Bool
decides_always None = false
decides_always (Some word.Allow) = false
decides_always (Some word.Deny) = false
decides_always (Some word.AllowAll) = true
decides_always (Some word.DenyAll) = true

-- rule 2: more than 1,024 entries in a list (and the text: more than 256 handlers)
abbrev pub is_too_large : Handler → Bool
is_too_large h = nat_lt 1024 h.queries || nat_lt 1024 h.tables || nat_lt 1024 (length h.entries - h.queries - h.tables)

-- rule 4: lists beside a word that needs none
abbrev pub has_needless_lists : Handler → Bool
has_needless_lists h = decides_always h.word && h.has_lists

abbrev pub is_no_text : Entry → Bool
is_no_text entry.NoText = true
is_no_text _ = false

-- rule 5: a query or a pattern that isn't read
abbrev pub is_unread : Entry → Bool
is_unread entry.Unread = true
is_unread _ = false

-- rule 6: a table that isn't a name
abbrev pub is_bad_table : Entry → Bool
is_bad_table (entry.Table name) = not (is_name name)
is_bad_table _ = false

abbrev pub handler_breaks : ℕ → Handler → Bool
handler_breaks rule h =
    if rule == 2 then is_too_large h
    else if rule == 3 then not h.is_well_typed
    else if rule == 4 then has_needless_lists h
    else false

abbrev pub entry_breaks : ℕ → Entry → Bool
entry_breaks rule e =
    if rule == 3 then is_no_text e
    else if rule == 5 then is_unread e
    else if rule == 6 then is_bad_table e
    else false

-- a rule is broken at a place of these handlers
abbrev pub breaks : List Handler → ℕ → Place → Bool
breaks hs rule place.Text = (rule == 2) && nat_lt 256 (length hs)
breaks hs rule (place.Part i) = at_index (handler_breaks rule) hs i
breaks hs rule (place.Entry i j) = at_index (λ h. at_index (entry_breaks rule) h.entries j) hs i
