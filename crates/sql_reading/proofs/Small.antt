-- The numbers of a text's tokens fit 127 bits.
use Rattle.std.proofs.Common.{ℕ, List}
use Rattle.std.specs.Prelude.{Option, Some, None}
use Rattle.sql_tokens.specs.declared.token.Token.{Token}
use Rattle.sql_tokens.specs.declared.token.Token.TheVariants as t
use Rattle.sql_tokens.specs.declared.token.Placed.{Placed}
use Rattle.sql_tokens.specs.Tokens.{IsPiece}
use Rattle.sql_tokens.specs.Lexing.{Lexes, placed, end, piece, fault}
use Rattle.sql_tree.specs.Spelling.{tokens_of}
use Rattle.sql_reading.specs.Cursor.{AreSmall}

small_more : (bytes rest : List ℕ) (at : ℕ) (what : Option Token) (tokens : List Placed) → IsPiece bytes what rest → AreSmall (tokens_of tokens) → AreSmall (tokens_of (placed at what tokens))
small_more bytes rest at None tokens h k = k
small_more bytes rest at (Some (t.Number n)) tokens h k = (h.1, k)
small_more bytes rest at (Some _) tokens h k = k

pub lexed_small : {at : ℕ} {text : List ℕ} {tokens : List Placed} {stops : Option ℕ} → Lexes at text tokens stops → AreSmall (tokens_of tokens)
lexed_small (end at) = tt
lexed_small (piece at bytes rest what tokens f h more) = small_more bytes rest at what tokens h (lexed_small more)
lexed_small (fault at c rest h) = tt
