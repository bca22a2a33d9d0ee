-- What writing tokens does: bytes, and whether no space is to follow.
use Rattle.std.specs.Prelude.{ℕ, ◌≡◌, Bool, ◌||◌, if◌then◌else◌, List, [], ◌∷◌, ◌++◌}
use Rattle.sql_tokens.specs.declared.token.Token.{Token}
use Rattle.sql_tree.specs.Canonical.{rendered, is_tight_after}

-- bytes written so far, and whether no space is to follow
pub record State : Type 0 where
  pub bytes : List ℕ
  pub tight : Bool

abbrev pub tight_after : Bool → List Token → Bool
tight_after tight [] = tight
tight_after tight (token ∷ more) = tight_after (is_tight_after token) more

pub record Wrote (old : State) (tokens : List Token) (new : State) : Type 0 where
  pub bytes : new.bytes ≡ old.bytes ++ rendered old.tight tokens
  pub tight : new.tight ≡ tight_after old.tight tokens

-- these bytes were written, with a space before them where one is wanted
pub record WrotePiece (old : State) (piece : List ℕ) (before after : Bool) (new : State) : Type 0 where
  pub bytes : new.bytes ≡ old.bytes ++ ((if old.tight || before then [] else 32 ∷ []) ++ piece)
  pub tight : new.tight ≡ after

-- one token, where it is wanted
abbrev pub token_if : Bool → Token → List Token
token_if wanted token = if wanted then token ∷ [] else []
