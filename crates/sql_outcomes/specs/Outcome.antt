-- What becomes of a text: its statement, or its refusal.
use Rattle.std.specs.Prelude.{ℕ, ◌≡◌, ◌≤◌, ◌<◌, nat_le, ◌&&◌, Bool, true, false, List, [], ◌∷◌, ◌++◌, length, Option, Some, None, Result, Ok, Err}
use Rattle.sql_tokens.specs.declared.token.Token.{Token}
use Rattle.sql_tokens.specs.declared.token.Placed.{Placed}
use Rattle.sql_tokens.specs.Lexing.{Lexes}
use Rattle.sql_tree.specs.declared.statement.Statement.{Statement}
use Rattle.sql_tree.specs.Grammar.{Text, text_tokens}
use Rattle.sql_tree.specs.Depths.{text_open, statement_depth}
use Rattle.sql_tree.specs.Spelling.{Spells, tokens_of}
use Rattle.sql_outcomes.specs.declared.refusal.SqlKind.TheVariants as kind
use Rattle.sql_outcomes.specs.declared.refusal.SqlRefusal.{SqlRefusal}
use Rattle.sql_outcomes.specs.declared.refusal.ParseFault.{ParseFault}
use Rattle.sql_outcomes.specs.declared.refusal.ParseFault.TheVariants as fault
use Rattle.sql_outcomes.specs.Outside.{outside_place}

-- at most 128 parentheses and NOTs are open at once, and AND, OR and NOT stand at most 64 deep
abbrev pub is_shallow : Text → Statement → Bool
is_shallow x tree = nat_le (text_open x) 128 && nat_le (statement_depth tree) 64

-- the text spells the statement, as shallow as this says
pub record SpelledAs (text : List ℕ) (shallow : Bool) (tree : Statement) : Type 0 where
  pub placed : List Placed
  pub lexes : Lexes 0 text placed None
  pub spells : Spells (tokens_of placed) tree
  pub depth : is_shallow spells.by tree ≡ shallow

-- ---- where a text stops being one

-- some text of the grammar begins so
abbrev pub Begins : List Token → Type 0
Begins front = (more : List Token) × (x : Text) × (front ++ more ≡ text_tokens x)

-- the rest begins with the first token that continues no text of the grammar, or is empty
pub record IsFault (placed rest : List Placed) : Type 0 where
  pub front : List Placed
  pub cut : placed ≡ front ++ rest
  pub begins : Begins (tokens_of front)
  pub stops : (p : Placed) (more : List Placed) → rest ≡ p ∷ more → Begins (tokens_of front ++ p.token ∷ []) → ⊥

-- where the first token stands, or what follows all tokens: the first bytes that are no token, or the end
abbrev pub place_after : List Placed → Option ℕ → ℕ → ℕ
place_after (p ∷ more) bad end = p.place
place_after [] (Some bad) end = bad
place_after [] None end = end

-- no statement is spelled so, and this is the place
pub record IsMisspelled (text : List ℕ) (place : ℕ) : Type 0 where
  pub placed : List Placed
  pub bad : Option ℕ
  pub lexes : Lexes 0 text placed bad
  pub inside : outside_place placed ≡ None
  pub rest : List Placed
  pub fault : IsFault placed rest
  pub at : place ≡ place_after rest bad (length text)
  -- a text with all its tokens in their places may break a side condition
  pub none : rest ≡ [] → bad ≡ None → (tree : Statement) → Spells (tokens_of placed) tree → ⊥

-- a statement that the profile leaves out begins so
pub record IsOutside (text : List ℕ) (place : ℕ) : Type 0 where
  pub placed : List Placed
  pub bad : Option ℕ
  pub lexes : Lexes 0 text placed bad
  pub outside : outside_place placed ≡ Some place

-- ---- the outcome

abbrev pub Outcome : Type 0
Outcome = Result Statement SqlRefusal

abbrev pub IsOutcome : List ℕ → ℕ → Outcome → Type 0
IsOutcome text limit (Ok tree) = (length text ≤ limit) × SpelledAs text true tree
IsOutcome text limit (Err r) = elim (r.kind) [
  | kind.TooLong ↦ (limit < length text) × (r.place ≡ limit)
  | kind.OutsideProfile ↦ (length text ≤ limit) × IsOutside text r.place
  | kind.Syntax ↦ (length text ≤ limit) × IsMisspelled text r.place
  | kind.TooDeep ↦ (length text ≤ limit) × (r.place ≡ length text) × ((tree : Statement) × SpelledAs text false tree)
]

-- an answer that tells the outcome, or want of memory
abbrev pub Tells : Result Statement ParseFault → Outcome → Type 0
Tells (Ok tree) outcome = outcome ≡ Ok tree
Tells (Err (fault.Refused r)) outcome = outcome ≡ Err r
Tells (Err fault.NoMemory) outcome = Unit {0}

abbrev pub IsTold : List ℕ → ℕ → Result Statement ParseFault → Type 0
IsTold text limit (Ok tree) = IsOutcome text limit (Ok tree)
IsTold text limit (Err (fault.Refused r)) = IsOutcome text limit (Err r)
IsTold text limit (Err fault.NoMemory) = Unit {0}
