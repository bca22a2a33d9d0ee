-- Which handler decides, by which of its entries.
use Rattle.std.specs.Prelude.{ℕ, ◌+◌, ◌-◌, ◌≡◌, ◌<◌, ◌⊎◌, Bool, true, false, List, Option, Some, None, length, if◌then◌else◌, nat_lt, bytes_eq}
use Rattle.std.specs.List.{HoldsAt}
use Rattle.json_rules.specs.Past.{at_index}
use Rattle.sql_tree.specs.declared.statement.Statement.{Statement}
use Rattle.sql_tree.specs.declared.statement.Statement.TheVariants as statement
use Rattle.sql_patterns.specs.Matching.{statement_matches}
use Rattle.censor.specs.Rules.{decides_always}
use Rattle.censor.specs.declared.handler.Word.{Word}
use Rattle.censor.specs.declared.handler.Word.TheVariants as word
use Rattle.censor.specs.declared.handler.Entry.{Entry}
use Rattle.censor.specs.declared.handler.Entry.TheVariants as entry
use Rattle.censor.specs.declared.handler.Handler.{Handler}
use Rattle.censor.specs.declared.verdict.Part.{Part}
use Rattle.censor.specs.declared.verdict.Part.TheVariants as part
use Rattle.censor.specs.declared.verdict.Verdict.{Verdict}
use Rattle.censor.specs.declared.verdict.Verdict.TheVariants as verdict

-- ---- matching

-- the statement is on this table
abbrev pub is_on : List ℕ → Statement → Bool
is_on name statement.Empty = false
is_on name (statement.Set setting value) = false
is_on name (statement.Select table items cond order limit offset) = bytes_eq name table
is_on name (statement.Insert table columns rows) = bytes_eq name table
is_on name (statement.Update table sets cond) = bytes_eq name table
is_on name (statement.Delete table cond) = bytes_eq name table

abbrev pub entry_matches : Statement → Entry → Bool
entry_matches s entry.NoText = false
entry_matches s entry.Unread = false
entry_matches s (entry.Query query) = statement_matches false query.tree s
entry_matches s (entry.Table name) = is_on name s
entry_matches s (entry.Pattern pattern) = statement_matches true pattern.tree s

-- the entry at the index matches, and none before it
pub record IsFirstMatch (s : Statement) (entries : List Entry) (index : ℕ) : Type 0 where
  pub matches : at_index (entry_matches s) entries index ≡ true
  pub first : (i : ℕ) → i < index → at_index (entry_matches s) entries i ≡ false

-- ---- deciding

abbrev pub is_empty : Statement → Bool
is_empty statement.Empty = true
is_empty _ = false

abbrev pub decides_by_entries : Option Word → Bool
decides_by_entries None = false
decides_by_entries (Some word.Allow) = true
decides_by_entries (Some word.Deny) = true
decides_by_entries (Some word.AllowAll) = false
decides_by_entries (Some word.DenyAll) = false

abbrev pub denies : Option Word → Bool
denies None = false
denies (Some word.Allow) = false
denies (Some word.Deny) = true
denies (Some word.AllowAll) = false
denies (Some word.DenyAll) = true

-- the entry at an index, by its list
abbrev pub part_at : Handler → ℕ → Part
part_at h index =
    if nat_lt index h.queries then part.Query index
    else if nat_lt index (h.queries + h.tables) then part.Table (index - h.queries)
    else part.Pattern (index - h.queries - h.tables)

-- the handler decides, by all that it is or by its first entry that matches
abbrev pub Decides : Statement → Handler → Part → Type 0
Decides s h by =
    ((decides_always h.word ≡ true) × (by ≡ part.All))
    ⊎ ((decides_by_entries h.word ≡ true) × ((index : ℕ) × IsFirstMatch s h.entries index × (by ≡ part_at h index)))

abbrev pub DecidesNot : Statement → Handler → Type 0
DecidesNot s h = (by : Part) → Decides s h by → ⊥

-- the handler of this index is the first that decides
pub record IsDeciding (s : Statement) (handlers : List Handler) (index : ℕ) (by : Part) : Type 0 where
  pub within : index < length handlers
  pub decides : HoldsAt (λ h. Decides s h by) handlers index
  pub first : (i : ℕ) → i < index → HoldsAt (DecidesNot s) handlers i

abbrev pub verdict_of : Bool → ℕ → Part → Verdict
verdict_of true index by = verdict.Denied index by
verdict_of false index by = verdict.Allowed

abbrev pub IsVerdict : Statement → List Handler → Verdict → Type 0
IsVerdict s handlers verdict.Allowed =
    (is_empty s ≡ true) ⊎ ((index : ℕ) (by : Part) → IsDeciding s handlers index by → HoldsAt (λ h. denies h.word ≡ false) handlers index)
IsVerdict s handlers (verdict.Denied index by) = (is_empty s ≡ false) × IsDeciding s handlers index by × HoldsAt (λ h. denies h.word ≡ true) handlers index

-- ---- what a refusal prints

-- the part is one of the handler's: all of it only where it denies all
abbrev pub PartStands : Part → Handler → Type 0
PartStands (part.Query i) h = i < h.queries
PartStands (part.Table i) h = i < h.tables
PartStands (part.Pattern i) h = i < length h.entries - h.queries - h.tables
PartStands part.All h = h.word ≡ Some word.DenyAll

abbrev pub Stands : List Handler → ℕ → Part → Type 0
Stands handlers index by = (index < length handlers) × HoldsAt (PartStands by) handlers index

-- what was refused names a part that stands
abbrev pub NamesPart : List Handler → Verdict → Type 0
NamesPart handlers verdict.Allowed = Unit {0}
NamesPart handlers (verdict.Denied index by) = Stands handlers index by

-- the entries count from 1, through queries, tables and patterns
abbrev pub part_number : Handler → Part → ℕ
part_number h (part.Query i) = i + 1
part_number h (part.Table i) = h.queries + i + 1
part_number h (part.Pattern i) = h.queries + h.tables + i + 1
part_number h part.All = 0
