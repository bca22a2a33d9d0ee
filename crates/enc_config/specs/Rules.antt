-- The rules of a policy, each a test of what the text says.
use Rattle.std.specs.Prelude.{ℕ, List, [], Bool, true, false, ◌&&◌, ◌||◌, not, if◌then◌else◌, Option, Some, None, is_some, unwrap_or, codes, length, take, nat_lt, nat_le, ◌==◌, bytes_eq}
use Rattle.std.specs.List.{list_all, list_any, slice_get}
use Rattle.std.specs.Option.{option_map_or}
use Rattle.acra_base.specs.declared.kind.ValueKind.{ValueKind}
use Rattle.plain_values.specs.Values.{is_plain_text, is_integer}
use Rattle.acra_base.specs.Names.{is_name}
use Rattle.enc_config.specs.Words.{kind_from, kind_word, type_word, is_among, has_twice}
use Rattle.enc_config.specs.Clients.{client_at, seen_schemas}
use Rattle.enc_config.specs.declared.texts.EntryText.{EntryText}
use Rattle.enc_config.specs.declared.texts.SchemaText.{SchemaText}
use Rattle.json_rules.specs.declared.place.Place.{Place}
use Rattle.json_rules.specs.declared.place.Place.TheVariants.{Text, Entry, Part}

-- ---- what an entry's words come to

abbrev pub kind_of : EntryText → ValueKind
kind_of e = kind_from e.data_type e.token_type

abbrev pub is_set : Option Bool → Bool
is_set flag = unwrap_or flag false

-- the word is there and is another
abbrev pub is_other : List ℕ → Option (List ℕ) → Bool
is_other word None = false
is_other word (Some w) = not (bytes_eq w word)

abbrev pub is_no_kind : Option (List ℕ) → Bool
is_no_kind None = false
is_no_kind (Some w) = not (is_some (kind_word w))

-- both are there and differ
abbrev pub differ : Option (List ℕ) → Option (List ℕ) → Bool
differ None b = false
differ (Some a) b = is_other a b

-- ---- rules on a schema

-- rule 2: more than 256 columns or entries (and the text: more than 256 schemas)
abbrev pub is_too_large : SchemaText → Bool
is_too_large s = nat_lt 256 (length s.columns) || nat_lt 256 (length s.entries)

-- rule 4: the table, a column or the key isn't a name
abbrev pub has_bad_name : SchemaText → Bool
has_bad_name s = not (is_name s.table && list_all is_name s.columns && option_map_or is_name s.key true)

-- rule 5: the table stands before, or a column stands twice (and an entry: its column stands before)
abbrev pub stands_twice : List SchemaText → SchemaText → Bool
stands_twice earlier s = list_any (λ d. bytes_eq s.table d.table) earlier || has_twice s.columns

-- a column of the schema that no entry protects
abbrev pub is_plain : SchemaText → List ℕ → Bool
is_plain s column = is_among column s.columns && not (list_any (λ e. bytes_eq column e.column) s.entries)

-- rule 6: a column of `types`, or the key, isn't a plain column (and an entry: its column isn't in `columns`)
abbrev pub has_no_plain_column : SchemaText → Bool
has_no_plain_column s = not (list_all (λ t. is_plain s t.column) s.types && option_map_or (is_plain s) s.key true)

-- rule 8: a word of `types` isn't listed
abbrev pub has_bad_type : SchemaText → Bool
has_bad_type s = not (list_all (λ t. is_some (type_word t.word)) s.types)

-- ---- rules on an entry

-- rule 8: a word isn't listed, or the two kinds differ
abbrev pub has_bad_word : EntryText → Bool
has_bad_word e = is_no_kind e.data_type || is_no_kind e.token_type || is_other (codes "acrablock") e.crypto_envelope || differ e.data_type e.token_type

abbrev pub are_two : Bool → Bool → Bool → Bool
are_two a b c = (a && b) || (a && c) || (b && c)

-- rule 9: more than one of searchable, masking and token
abbrev pub has_two_shapes : EntryText → Bool
has_two_shapes e = are_two (is_set e.searchable) (is_some e.masking) (is_some e.token_type)

-- a mask: at most 64 bytes of text without a zero byte
abbrev pub is_mask : List ℕ → Bool
is_mask t = nat_le (length t) 64 && is_plain_text t

abbrev pub is_side : List ℕ → Bool
is_side t = bytes_eq t (codes "left") || bytes_eq t (codes "right")

-- what a masked entry needs: mask, length and side in their bounds, and a kind that is no integer
abbrev pub is_masking : EntryText → Bool
is_masking e =
    option_map_or is_mask e.masking false && option_map_or (λ n. nat_le n 262144) e.plaintext_length false
    && option_map_or is_side e.plaintext_side false && not (is_integer (kind_of e))

-- rule 10: a member of masking stands, and it isn't a masking
abbrev pub has_bad_mask : EntryText → Bool
has_bad_mask e = (is_some e.masking || is_some e.plaintext_length || is_some e.plaintext_side) && not (is_masking e)

-- rule 11: a member of tokens without `token_type`, `tokenized` false, or a response beside masking or a token
abbrev pub has_bad_token : EntryText → Bool
has_bad_token e =
    ((is_some e.consistent_tokenization || is_some e.tokenized) && not (is_some e.token_type)) || not (unwrap_or e.tokenized true)
    || (is_some e.response_on_fail && (is_some e.masking || is_some e.token_type))

abbrev pub is_response : List ℕ → Bool
is_response t = bytes_eq t (codes "ciphertext") || bytes_eq t (codes "default_value")

-- strangers are shown the default value
abbrev pub shows_default : EntryText → Bool
shows_default e = option_map_or (λ t. bytes_eq t (codes "default_value")) e.response_on_fail false

-- rule 12: the response isn't listed, or it and the default don't stand together
abbrev pub has_bad_response : EntryText → Bool
has_bad_response e = not (option_map_or is_response e.response_on_fail true) || (shows_default e && not (is_some e.default_data_value)) || (is_some e.default_data_value && not (shows_default e))

-- rule 13: the default isn't a value of the kind, or is above 1,024 bytes
abbrev pub has_bad_default : EntryText → Bool
has_bad_default e = is_some e.default_data_value && not (is_some e.default_plain)

-- rule 14: tokens, which aren't served yet
abbrev pub has_token : EntryText → Bool
has_token e = is_some e.token_type

-- ---- the rules by number

abbrev pub schema_breaks : ℕ → List SchemaText → SchemaText → Bool
schema_breaks rule earlier s =
    if rule == 2 then is_too_large s
    else if rule == 3 then not s.is_well_typed
    else if rule == 4 then has_bad_name s
    else if rule == 5 then stands_twice earlier s
    else if rule == 6 then has_no_plain_column s
    else if rule == 8 then has_bad_type s
    else false

abbrev pub entry_breaks : ℕ → SchemaText → List EntryText → EntryText → Bool
entry_breaks rule s earlier e =
    if rule == 3 then not e.is_well_typed
    else if rule == 5 then list_any (λ d. bytes_eq e.column d.column) earlier
    else if rule == 6 then not (is_among e.column s.columns)
    else if rule == 8 then has_bad_word e
    else if rule == 9 then has_two_shapes e
    else if rule == 10 then has_bad_mask e
    else if rule == 11 then has_bad_token e
    else if rule == 12 then has_bad_response e
    else if rule == 13 then has_bad_default e
    else if rule == 14 then has_token e
    else false

-- a rule but 7 is broken at a place of these schemas
abbrev pub tests : List SchemaText → ℕ → Place → Bool
tests ss rule Text = (rule == 2) && nat_lt 256 (length ss)
tests ss rule (Part i) = option_map_or (schema_breaks rule (take i ss)) (slice_get ss i) false
tests ss rule (Entry i j) =
    option_map_or (λ s. option_map_or (entry_breaks rule s (take j s.entries)) (slice_get s.entries j) false) (slice_get ss i) false

-- rule 7, which counts the clients of the whole text
abbrev pub client_breaks : List SchemaText → Place → Bool
client_breaks ss Text = false
client_breaks ss (Part i) = false
client_breaks ss (Entry i j) = option_map_or (λ s. client_at (seen_schemas [] (take i ss)) s.entries j) (slice_get ss i) false

-- a rule is broken at a place of these schemas
abbrev pub breaks : List SchemaText → ℕ → Place → Bool
breaks ss rule place = if rule == 7 then client_breaks ss place else tests ss rule place
