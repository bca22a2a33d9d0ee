-- What the text of settings says, handler by handler, over `serde_json`'s view of it.
use Rattle.std.specs.Prelude.{ℕ, ◌≡◌, List, [], ◌∷◌, ◌++◌, Bool, ◌&&◌, ◌||◌, if◌then◌else◌, Option, Some, None, Ok, option_and_then, is_some, unwrap_or, codes, bytes_eq, length}
use Rattle.serde_json.specs.Data.{Data, no_members}
use Rattle.serde_json.specs.Find.{get, as_str, as_array, as_object}
use Rattle.json_rules.specs.Members.{items_at, text_at, all_members}
use Rattle.sql_tree.specs.declared.statement.Statement.{Statement}
use Rattle.sql_outcomes.specs.Outcome.{IsOutcome}
use Rattle.sql_patterns.specs.Patterns.{IsPattern}
use Rattle.censor.specs.declared.handler.Word.{Word}
use Rattle.censor.specs.declared.handler.Word.TheVariants as word
use Rattle.censor.specs.declared.handler.Entry.{Entry}
use Rattle.censor.specs.declared.handler.Entry.TheVariants as entry
use Rattle.censor.specs.declared.handler.Handler.{Handler}
use Rattle.censor.specs.declared.entries.List.TheVariants as list
use Rattle.censor.specs.declared.entries.List as lists

abbrev pub word_of : List ℕ → Option Word
word_of text =
    if bytes_eq text (codes "allow") then Some word.Allow
    else if bytes_eq text (codes "deny") then Some word.Deny
    else if bytes_eq text (codes "allowall") then Some word.AllowAll
    else if bytes_eq text (codes "denyall") then Some word.DenyAll
    else None

-- the word of a handler
abbrev pub handler_word : Data → Option Word
handler_word d = option_and_then word_of (text_at (codes "handler") d)

abbrev pub is_list_name : List ℕ → Bool
is_list_name name = bytes_eq name (codes "queries") || bytes_eq name (codes "tables") || bytes_eq name (codes "patterns")

-- a member of a handler is listed and has its type, or its word
abbrev pub is_member : List ℕ → Data → Bool
is_member name d =
    if bytes_eq name (codes "handler") then is_some (option_and_then word_of (as_str d))
    else is_list_name name && is_some (as_array d)

-- rule 3 for a handler: it has listed members, and among them its word
abbrev pub is_handler : Data → Bool
is_handler d = all_members is_member (unwrap_or (as_object d) no_members) && is_some (get (codes "handler") d)

abbrev pub has_lists : Data → Bool
has_lists d = is_some (get (codes "queries") d) || is_some (get (codes "tables") d) || is_some (get (codes "patterns") d)

-- ---- entries

-- a text of at most 2^20 bytes that spells a statement, or that spells none
abbrev pub IsQuery : List ℕ → Entry → Type 0
IsQuery text (entry.Query query) = IsOutcome text 1048576 (Ok query.tree)
IsQuery text entry.Unread = (tree : Statement) → IsOutcome text 1048576 (Ok tree) → ⊥
IsQuery text _ = ⊥

abbrev pub IsTable : List ℕ → Entry → Type 0
IsTable text e = e ≡ entry.Table text

-- a text that is a pattern, or that is none
abbrev pub IsPatternEntry : List ℕ → Entry → Type 0
IsPatternEntry text (entry.Pattern pattern) = IsPattern text pattern.tree
IsPatternEntry text entry.Unread = (tree : Statement) → IsPattern text tree → ⊥
IsPatternEntry text _ = ⊥

abbrev pub IsText : lists.List → List ℕ → Entry → Type 0
IsText list.Queries text e = IsQuery text e
IsText list.Tables text e = IsTable text e
IsText list.Patterns text e = IsPatternEntry text e

-- what an item of one of the lists is
abbrev pub IsEntry : lists.List → Data → Entry → Type 0
IsEntry of d e = elim (as_str d) [ None ↦ e ≡ entry.NoText | Some text ↦ IsText of text e ]

-- item by item
abbrev pub AreAll : {A B : Type 0} → (A → B → Type 0) → List A → List B → Type 0
AreAll R [] [] = Unit {0}
AreAll R [] (y ∷ ys) = ⊥
AreAll R (x ∷ xs) [] = ⊥
AreAll R (x ∷ xs) (y ∷ ys) = R x y × AreAll R xs ys

-- behind those that stood is an entry of a list
abbrev pub PutsOne : lists.List → Data → (old new : List Entry) → Type 0
PutsOne of item old new = (e : Entry) × (new ≡ old ++ e ∷ []) × IsEntry of item e

-- behind those that stood are the entries of a list
pub record Puts (of : lists.List) (items : List Data) (old new : List Entry) : Type 0 where
  pub more : List Entry
  pub behind : new ≡ old ++ more
  pub are : AreAll (IsEntry of) items more

-- the entries of the three lists, one behind the other
pub record AreEntries (d : Data) (entries : List Entry) : Type 0 where
  pub queries : List Entry
  pub tables : List Entry
  pub patterns : List Entry
  pub whole : entries ≡ queries ++ (tables ++ patterns)
  pub are_queries : AreAll (IsEntry list.Queries) (items_at (codes "queries") d) queries
  pub are_tables : AreAll (IsEntry list.Tables) (items_at (codes "tables") d) tables
  pub are_patterns : AreAll (IsEntry list.Patterns) (items_at (codes "patterns") d) patterns

-- ---- handlers

pub record IsHandler (d : Data) (h : Handler) : Type 0 where
  pub typed : h.is_well_typed ≡ is_handler d
  pub word : h.word ≡ handler_word d
  pub lists : h.has_lists ≡ has_lists d
  pub queries : h.queries ≡ length (items_at (codes "queries") d)
  pub tables : h.tables ≡ length (items_at (codes "tables") d)
  pub entries : AreEntries d h.entries

abbrev pub AreHandlers : List Data → List Handler → Type 0
AreHandlers ds hs = AreAll IsHandler ds hs
