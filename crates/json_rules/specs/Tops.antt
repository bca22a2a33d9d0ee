-- The top of a text: an object with one member, an array of objects.
use Rattle.std.specs.Prelude.{ℕ, List, Bool, true, false, ◌&&◌, if◌then◌else◌, Option, Some, None, option_and_then, is_some, unwrap_or, bytes_eq}
use Rattle.std.specs.List.{list_all}
use Rattle.std.specs.Str.{is_utf8}
use Rattle.serde_json.specs.Data.{Data, Members, no_members, member}
use Rattle.serde_json.specs.Find.{get, as_array, as_object}
use Rattle.serde_json.specs.Read.{read}
use Rattle.json_rules.specs.Members.{items_at}

abbrev pub is_object : Data → Bool
is_object d = is_some (as_object d)

abbrev pub is_empty : Members → Bool
is_empty no_members = true
is_empty (member n d ms) = false

-- the members of an object are one, of this name
abbrev pub is_lone : List ℕ → Members → Bool
is_lone name no_members = false
is_lone name (member n d ms) = bytes_eq name n && is_empty ms

-- an object with one member of this name, an array of objects
abbrev pub is_top : List ℕ → Data → Bool
is_top name d =
    is_lone name (unwrap_or (as_object d) no_members) && is_some (option_and_then as_array (get name d))
    && list_all is_object (items_at name d)

-- the objects that the top holds
abbrev pub objects_at : List ℕ → Data → Option (List Data)
objects_at name d = if is_top name d then Some (items_at name d) else None

-- what a text is in JSON (RFC 8259, in UTF-8), none where it is not
abbrev pub json_of : List ℕ → Option Data
json_of text = if is_utf8 text then read text else None
