-- What becomes of the tokens of a text whose first tokens begin a statement of the profile.
use Rattle.std.specs.Prelude.{ℕ, zero, suc, ◌-◌, length, drop, ◌≡◌, nat_lt, ◌||◌, Bool, true, false, List, [], Option, Some, None, Result, Ok, Err}
use Rattle.sql_tokens.specs.declared.token.Token.{Token}
use Rattle.sql_tokens.specs.declared.token.Placed.{Placed}
use Rattle.sql_tree.specs.declared.statement.Statement.{Statement}
use Rattle.sql_tree.specs.Depths.{statement_depth}
use Rattle.sql_tree.specs.Grammar.{Text, text_tokens}
use Rattle.sql_tree.specs.Spelling.{Spells, tokens_of}
use Rattle.sql_reading.specs.declared.made.Reading.{Reading}
use Rattle.sql_outcomes.specs.declared.refusal.SqlKind.{SqlKind}
use Rattle.sql_outcomes.specs.declared.refusal.SqlKind.TheVariants as kind
use Rattle.sql_outcomes.specs.declared.refusal.ParseFault.{ParseFault}
use Rattle.sql_outcomes.specs.declared.refusal.ParseFault.TheVariants as fault
use Rattle.sql_reading.specs.Made.{whole_reading}
use Rattle.sql_outcomes.specs.Outcome.{IsFault, place_after, is_shallow}

-- too much is open at once, or nodes stand too deep
abbrev pub is_deep : Reading → Bool
is_deep r = nat_lt 128 r.deepest || nat_lt 64 (statement_depth r.statement)

-- why a statement that was read is refused, by whether the side conditions hold
abbrev pub refusal_of : (holds deep : Bool) → Option SqlKind
refusal_of false deep = Some kind.Syntax
refusal_of true true = Some kind.TooDeep
refusal_of true false = None

abbrev pub judged : Option SqlKind → ℕ → Statement → Result Statement ParseFault
judged None end tree = Ok tree
judged (Some k) end tree = Err (fault.Refused (record { place = end; kind = k }))

-- the refusal where tokens are left over, or bytes behind them that are no token
abbrev pub refusal_after : List Placed → ℕ → Option ℕ → ℕ → Option ParseFault
refusal_after placed zero None end = None
refusal_after placed zero (Some bad) end = Some (fault.Refused (record { place = bad; kind = kind.Syntax }))
refusal_after placed (suc left) bad end = Some (fault.Refused (record { place = place_after (drop (length placed - suc left) placed) bad end; kind = kind.Syntax }))

-- the tokens derive a text, of which this was made
pub record WasRead (placed : List Placed) (reading : Reading) : Type 0 where
  pub text : Text
  pub derives : tokens_of placed ≡ text_tokens text
  pub is : reading ≡ whole_reading text

-- the tokens spell the statement, as shallow as this says
pub record TokensSpell (ts : List Token) (shallow : Bool) (tree : Statement) : Type 0 where
  pub spells : Spells ts tree
  pub depth : is_shallow spells.by tree ≡ shallow

-- the tokens stop being a text of the grammar, or all of them are one that breaks a side condition
pub record TokensFail (placed : List Placed) (bad : Option ℕ) (end place : ℕ) : Type 0 where
  pub rest : List Placed
  pub fault : IsFault placed rest
  pub at : place ≡ place_after rest bad end
  pub none : rest ≡ [] → bad ≡ None → (tree : Statement) → Spells (tokens_of placed) tree → ⊥

abbrev pub TokensGive : List Placed → Option ℕ → ℕ → Result Statement ParseFault → Type 0
TokensGive placed bad end (Ok tree) = (bad ≡ None) × TokensSpell (tokens_of placed) true tree
TokensGive placed bad end (Err fault.NoMemory) = Unit {0}
TokensGive placed bad end (Err (fault.Refused r)) = elim (r.kind) [
  | kind.TooLong ↦ ⊥
  | kind.OutsideProfile ↦ ⊥
  | kind.Syntax ↦ TokensFail placed bad end r.place
  | kind.TooDeep ↦ (bad ≡ None) × (r.place ≡ end) × ((tree : Statement) × TokensSpell (tokens_of placed) false tree)
]

-- the tokens spell the statement, shallow enough, or none
abbrev pub IsSpelled : List Placed → Option Statement → Type 0
IsSpelled placed (Some tree) = TokensSpell (tokens_of placed) true tree
IsSpelled placed None = (tree : Statement) → TokensSpell (tokens_of placed) true tree → ⊥
