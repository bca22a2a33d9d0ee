-- What the two maps find, as functions of the list of tokens.
use Rattle.std.specs.Prelude.{ℕ, ◌==◌, ◌&&◌, nat_eq, List, [], ◌∷◌, ◌++◌, length, Bool, cond, suc, Option, None, Some, option_map}
use Rattle.std.specs.List.{find}
use Rattle.std.specs.Cmp.Lexicographic.{pointwise}
use Rattle.token_rule.specs.Rule.{Want, kind_byte}
use Rattle.token_rule.specs.Entries.{Entry}

-- the bytes by which a value is looked up: kind, length of the owner's name, the name, the plaintext
abbrev pub value_key : Want → List ℕ
value_key w = kind_byte w.kind ∷ length w.owner ∷ w.owner ++ w.plain

-- a consistent value with this key
abbrev pub has_key : List ℕ → Want → Bool
has_key key w = w.consistent && pointwise nat_eq (value_key w) key

-- the token of the first consistent value with this key
abbrev pub keyed_token : List Entry → List ℕ → Option ℕ
keyed_token entries key = option_map (λ (e : Entry). e.token) (find (λ (e : Entry). has_key key e.want) entries)

-- the entry of this token, whose kind has this byte
abbrev pub is_slot : ℕ → ℕ → Entry → Bool
is_slot kind token e = (kind_byte e.want.kind == kind) && (e.token == token)

-- the place of the first entry that passes
abbrev pub place_of : (Entry → Bool) → List Entry → Option ℕ
place_of test [] = None
place_of test (e ∷ es) = cond (test e) (Some 0) (option_map suc (place_of test es))
