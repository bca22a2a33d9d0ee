-- Statements of SQL that the profile leaves out, by their first tokens.
use Rattle.std.specs.Prelude.{ℕ, nat_eq, Bool, true, false, not, ◌||◌, List, [], ◌∷◌, codes, Option, Some, None, if◌then◌else◌}
use Rattle.std.specs.List.{list_any}
use Rattle.std.specs.Cmp.Lexicographic.{pointwise}
use Rattle.sql_tokens.specs.declared.keyword.Keyword.TheVariants as word
use Rattle.sql_tokens.specs.declared.token.Token.{Token}
use Rattle.sql_tokens.specs.declared.token.Token.TheVariants as t
use Rattle.sql_tokens.specs.declared.token.Placed.{Placed}

-- words that begin such a statement; "values" is one more, and is reserved
abbrev pub outside_words : List (List ℕ)
outside_words =
    codes "create" ∷ codes "alter" ∷ codes "drop" ∷ codes "begin" ∷ codes "commit" ∷ codes "rollback" ∷ codes "start" ∷ codes "abort" ∷ codes "end" ∷ codes "savepoint" ∷ codes "release"
    ∷ codes "copy" ∷ codes "listen" ∷ codes "notify" ∷ codes "unlisten" ∷ codes "prepare" ∷ codes "execute" ∷ codes "deallocate" ∷ codes "declare" ∷ codes "fetch" ∷ codes "move"
    ∷ codes "close" ∷ codes "show" ∷ codes "reset" ∷ codes "discard" ∷ codes "explain" ∷ codes "analyze" ∷ codes "vacuum" ∷ codes "grant" ∷ codes "revoke" ∷ codes "truncate"
    ∷ codes "lock" ∷ codes "call" ∷ codes "do" ∷ codes "with" ∷ codes "table" ∷ codes "merge" ∷ codes "comment" ∷ codes "reindex" ∷ codes "cluster" ∷ codes "refresh"
    ∷ codes "checkpoint" ∷ codes "load" ∷ []

abbrev pub is_outside : Token → Bool
is_outside (t.Name name false) = list_any (pointwise nat_eq name) outside_words
is_outside (t.Word word.Values) = true
is_outside _ = false

-- the names that SET sets
abbrev pub is_settable : List ℕ → Bool
is_settable name = pointwise nat_eq name (codes "application_name") || pointwise nat_eq name (codes "extra_float_digits")

abbrev pub sets_other : Token → Bool
sets_other (t.Name name quoted) = not (is_settable name)
sets_other (t.Word w) = true
sets_other _ = false

abbrev pub set_place : List Placed → Option ℕ
set_place [] = None
set_place (p ∷ more) = if sets_other p.token then Some p.place else None

abbrev pub is_set : Token → Bool
is_set (t.Word word.Set) = true
is_set _ = false

-- where such a statement's token stands, if the tokens begin one
abbrev pub outside_place : List Placed → Option ℕ
outside_place [] = None
outside_place (p ∷ more) = if is_outside p.token then Some p.place else (if is_set p.token then set_place more else None)
