-- What a reader makes of tokens.
use Rattle.std.specs.Prelude.{ℕ, ◌≡◌, ◌≤◌, List}
use Rattle.sql_tokens.specs.declared.token.Token.{Token}
use Rattle.sql_readers.specs.Readers.{Read, Reader}

-- given enough to go, reading gives this
pub record Reads {A : Type 0} (p : Reader A) (ts : List Token) (given : Read A) : Type 0 where
  pub enough : ℕ
  pub gives : (n : ℕ) → enough ≤ n → p n ts ≡ given
