-- Tokens looked at without a copy.
use Rattle.std.specs.Prelude.{◌≡◌, true, List, [], ◌∷◌, Option, Some, None}
use Rattle.acra_base.specs.Names.{is_name}
use Rattle.sql_tokens.specs.declared.slice.TokenRef.{TokenRef}
use Rattle.sql_tokens.specs.declared.slice.TokenRef.TheVariants as see
use Rattle.sql_tokens.specs.declared.token.Token.{Token}
use Rattle.sql_tokens.specs.declared.token.Token.TheVariants as t
use Rattle.sql_tokens.specs.declared.token.Placed.{Placed}

abbrev pub seen : TokenRef → Token
seen (see.Word word) = t.Word word
seen (see.Name name quoted) = t.Name name.now quoted
seen (see.Number n) = t.Number n
seen (see.Text text) = t.Text text.now
seen (see.Parameter n) = t.Parameter n
seen (see.Sign sign) = t.Sign sign

-- a name is one
abbrev pub IsSound : TokenRef → Type 0
IsSound (see.Name name quoted) = is_name name.now ≡ true
IsSound _ = Unit {0}

abbrev pub rest_of : List Placed → List Placed
rest_of [] = []
rest_of (p ∷ more) = more

-- the first token, where there is one
abbrev pub IsFirst : List Placed → Option TokenRef → Type 0
IsFirst placed None = placed ≡ []
IsFirst placed (Some found) = (p : Placed) × (placed ≡ p ∷ rest_of placed) × (seen found ≡ p.token) × IsSound found
