-- The store of tokens.
use Rattle.std.specs.Prelude.{ℕ, ◌≡◌, List, [], ◌∷◌, ◌++◌, if◌then◌else◌, Option, None}
use Rattle.token_rule.specs.Rule.{Want}
use Rattle.token_rule.specs.Entries.{Entry, standing_token, IsNextToken}

-- the two keys, the most tokens, and the tokens in the order of making
pub record Store : Type 0 where
  pub token_key : List ℕ
  pub store_key : List ℕ
  pub limit : ℕ
  pub entries : List Entry

-- the token that a value has, where equal values share one
abbrev pub standing_in : Store → Want → Option ℕ
standing_in s w = if w.consistent then standing_token s.entries w else None

abbrev pub with_entry : Store → Want → ℕ → Store
with_entry s w token = record s { entries = s.entries ++ record { want = w; token = token } ∷ [] }

-- the next token was made, by the rule
pub record Makes (s t : Store) (w : Want) (token : ℕ) : Type 0 where
  pub next : IsNextToken s.token_key s.entries w token
  pub after : t ≡ with_entry s w token
