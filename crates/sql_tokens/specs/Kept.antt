-- Tokens whose bytes and numbers are kept apart.
use Rattle.std.specs.Prelude.{ℕ, ◌+◌, ◌≤◌, ◌<◌, ◌≡◌, true, List, [], ◌∷◌, ◌++◌, length, drop, take, slice_index_or}
use Rattle.acra_base.specs.Names.{is_name}
use Rattle.sql_tokens.specs.declared.token.Token.{Token}
use Rattle.sql_tokens.specs.declared.token.Token.TheVariants as t
use Rattle.sql_tokens.specs.declared.token.Placed.{Placed}
use Rattle.sql_tokens.specs.declared.tokens.Entry.{Entry}
use Rattle.sql_tokens.specs.declared.tokens.Mark.{Mark}
use Rattle.sql_tokens.specs.declared.tokens.Mark.TheVariants as mark

-- so many bytes from a place on
abbrev pub part : List ℕ → ℕ → ℕ → List ℕ
part bytes start len = take len (drop start bytes)

-- more stands behind
abbrev pub Extends : List ℕ → List ℕ → Type 0
Extends old new = (more : List ℕ) × (new ≡ old ++ more)

module _ (bytes numbers : List ℕ) where
  abbrev pub token_in : Mark → Token
  token_in (mark.Word word) = t.Word word
  token_in (mark.Name start len quoted) = t.Name (part bytes start len) quoted
  token_in (mark.Small n) = t.Number n
  token_in (mark.Number at) = t.Number (slice_index_or numbers at 0)
  token_in (mark.Text start len) = t.Text (part bytes start len)
  token_in (mark.Parameter n) = t.Parameter n
  token_in (mark.Sign sign) = t.Sign sign

  abbrev pub placed_in : Entry → Placed
  placed_in e = record { token = token_in e.mark; place = e.place }

  abbrev pub placed_all : List Entry → List Placed
  placed_all [] = []
  placed_all (e ∷ more) = placed_in e ∷ placed_all more

  -- what a mark names is there
  abbrev pub Fits : Mark → Type 0
  Fits (mark.Name start len quoted) = (start + len ≤ length bytes) × (is_name (part bytes start len) ≡ true)
  Fits (mark.Small n) = Unit {0}
  Fits (mark.Number at) = at < length numbers
  Fits (mark.Text start len) = start + len ≤ length bytes
  Fits (mark.Word word) = Unit {0}
  Fits (mark.Parameter n) = Unit {0}
  Fits (mark.Sign sign) = Unit {0}

  abbrev pub AllFit : List Entry → Type 0
  AllFit [] = Unit {0}
  AllFit (e ∷ more) = Fits e.mark × AllFit more
