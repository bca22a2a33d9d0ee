-- What the calls of a cursor do.
use Rattle.std.specs.Prelude.{ℕ, ◌≡◌, ◌<◌, ◌^◌, ◌&&◌, Bool, true, false, List, [], ◌∷◌, Option, Some, None, is_some, Ok}
use Rattle.sql_tokens.specs.declared.sign.Sign.TheVariants as sign
use Rattle.sql_tokens.specs.declared.slice.TokenRef.{TokenRef}
use Rattle.sql_tokens.specs.declared.slice.TokenRef.TheVariants as see
use Rattle.sql_tokens.specs.declared.token.Token.{Token}
use Rattle.sql_tokens.specs.declared.token.Token.TheVariants as t
use Rattle.sql_tree.specs.Parts.{Spelled}
use Rattle.sql_readers.specs.Readers.{begins, one}
use Rattle.sql_readers.specs.Looks.{is_sign, is_call}
use Rattle.sql_readers.specs.Productions.{name}
use Rattle.sql_readers.specs.Reads.{Reads}

-- the token is what is looked for
abbrev pub is_one : {A : Type 0} → (Token → Option A) → Token → Bool
is_one look token = is_some (look token)

abbrev pub rest_of : List Token → List Token
rest_of [] = []
rest_of (token ∷ more) = more

-- it went past the first token, if that is what is looked for
abbrev pub Eats : (Token → Option (Unit {0})) → List Token → Bool → List Token → Type 0
Eats look old true new = Reads (one look) old (Ok (tt, new)) × (true ≡ begins (is_one look) old)
Eats look old false new = (new ≡ old) × (false ≡ begins (is_one look) old)

-- the token is the word of a call
abbrev pub called : List ℕ → Token → Bool
called word (t.Name name quoted) = is_call word (record { name = name; quoted = quoted })
called word _ = false

-- it went past the word of a call, if that is what comes, before a parenthesis
abbrev pub EatsCall : List ℕ → List Token → Bool → List Token → Type 0
EatsCall word old true new = (s : Spelled) × Reads name old (Ok (s, new)) × ((is_call word s && begins (is_sign sign.Open) new) ≡ true)
EatsCall word old false new = (new ≡ old) × ((s : Spelled) (rest : List Token) → Reads name old (Ok (s, rest)) → (is_call word s && begins (is_sign sign.Open) rest) ≡ false)

-- numbers fit 127 bits
abbrev pub AreSmall : List Token → Type 0
AreSmall [] = Unit {0}
AreSmall (t.Number n ∷ more) = (n < 2 ^ 127) × AreSmall more
AreSmall (_ ∷ more) = AreSmall more

abbrev pub IsSmall : TokenRef → Type 0
IsSmall (see.Number n) = n < 2 ^ 127
IsSmall _ = Unit {0}

-- the last of two names
abbrev pub last_of : List ℕ → Option Spelled → List ℕ
last_of first None = first
last_of first (Some s) = s.name
