-- Which tokens can stand in a text.
use Rattle.std.proofs.Common.{◌≡◌, ℕ, zero, suc, ◌+◌, ◌≤◌, ◌<◌, Bool, true, false, List, [], ◌∷◌, ◌++◌, length, map, refl, sym, ap, subst, arith}
use Rattle.std.specs.Prelude.{◌&&◌, ◌||◌, ◌==◌, not, nat_le, codes, if◌then◌else◌, Option, Some, None}
use Rattle.std.specs.List.{list_all, AllByRecursion}
use Rattle.std.specs.Str.{IsAscii}
use Rattle.std.proofs.lemmas.Str.{IsUtf8-from_ascii}
use Rattle.std.proofs.lemmas.Str.Ascii.{IsAscii-nil}
use Rattle.std.proofs.lemmas.List.{length-map}
use Rattle.std.proofs.Math.Dec.{eqb-suc-zero}
use Rattle.std.proofs.lemmas.Bool.{leb-true, eqb-true}
use Rattle.sql_tokens.specs.declared.keyword.Keyword.{Keyword}
use Rattle.sql_tokens.specs.declared.keyword.Keyword.TheVariants as word
use Rattle.sql_tokens.specs.declared.sign.Sign.{Sign}
use Rattle.sql_tokens.specs.declared.sign.Sign.TheVariants as sign
use Rattle.sql_tokens.specs.declared.token.Token.{Token}
use Rattle.sql_tokens.specs.declared.token.Token.TheVariants as t
use Rattle.sql_tokens.specs.declared.token.Placed.{Placed}
use Rattle.sql_tokens.specs.Classes.{is_upper, is_digit, begins_word, goes_on_word, folded, Starts}
use Rattle.sql_tokens.specs.Keywords.{keyword_of}
use Rattle.sql_tokens.specs.Signs.{IsSign}
use Rattle.sql_tokens.specs.Signs as signs
use Rattle.sql_tokens.specs.Comments.{IsText}
use Rattle.sql_tokens.specs.Tokens.{doubled, IsToken, IsPiece}
use Rattle.sql_tokens.specs.Lexing.{placed, Lexes}
use Rattle.sql_tokens.specs.Lexing as lexing
use Rattle.sql_tree.specs.Spelling.{tokens_of}
use Rattle.sql_tree.specs.Laws.{IsPossible}

abbrev pub Possible : List Token → Type 0
Possible ts = AllByRecursion IsPossible ts

-- ---- the tokens of a text

sign_alone : (piece : List ℕ) (s : Sign) (rest : List ℕ) → IsSign piece s rest → IsSign piece s []
sign_alone piece s rest (signs.one c e f stops) = signs.one c e f tt
sign_alone piece s rest (signs.two c d e f) = signs.two c d e f

token_alone : (piece rest : List ℕ) (x : Token) → IsToken piece x rest → IsToken piece x []
token_alone piece rest (t.Word w) h = (h.0, record { starts = h.1.starts; on = h.1.on; ends = tt; is = h.1.is; short = h.1.short }, h.2)
token_alone piece rest (t.Name name false) h = (record { starts = h.0.starts; on = h.0.on; ends = tt; is = h.0.is; short = h.0.short }, h.1)
token_alone piece rest (t.Name name true) h = (record { written = h.0.written; ends = tt; text = h.0.text }, h.1, h.2)
token_alone piece rest (t.Number n) h = (record { starts = h.0.starts; on = h.0.on; ends = tt; is = h.0.is }, h.1)
token_alone piece rest (t.Text s) h = record { written = h.written; ends = tt; text = h.text }
token_alone piece rest (t.Parameter n) h = record {
  digits = h.digits;
  written = h.written;
  spells = record { starts = h.spells.starts; on = h.spells.on; ends = tt; is = h.spells.is };
  leads = h.leads;
  most = h.most;
}
token_alone piece rest (t.Sign s) h = sign_alone piece s rest h

piece_possible : (at : ℕ) (bytes rest : List ℕ) (what : Option Token) (tokens : List Placed) → IsPiece bytes what rest → Possible (tokens_of tokens) → Possible (tokens_of (placed at what tokens))
piece_possible at bytes rest None tokens h p = p
piece_possible at bytes rest (Some x) tokens h p = (record { piece = bytes; is = token_alone bytes rest x h }, p)

pub lexed_possible : (at : ℕ) (text : List ℕ) (tokens : List Placed) (bad : Option ℕ) → Lexes at text tokens bad → Possible (tokens_of tokens)
lexed_possible at text tokens bad (lexing.end a) = tt
lexed_possible at text tokens bad (lexing.piece a bytes rest what more f is l) = piece_possible a bytes rest what more is (lexed_possible (a + length bytes) rest more f l)
lexed_possible at text tokens bad (lexing.fault a c rest none) = tt

-- ---- words, signs and numbers of the canonical text

pub word_possible : (w : Keyword) → IsPossible (t.Word w)
word_possible word.Select = record { piece = codes "select"; is = (codes "select", record { starts = refl; on = refl; ends = tt; is = refl; short = omega arith }, refl) }
word_possible word.From = record { piece = codes "from"; is = (codes "from", record { starts = refl; on = refl; ends = tt; is = refl; short = omega arith }, refl) }
word_possible word.Where = record { piece = codes "where"; is = (codes "where", record { starts = refl; on = refl; ends = tt; is = refl; short = omega arith }, refl) }
word_possible word.And = record { piece = codes "and"; is = (codes "and", record { starts = refl; on = refl; ends = tt; is = refl; short = omega arith }, refl) }
word_possible word.Or = record { piece = codes "or"; is = (codes "or", record { starts = refl; on = refl; ends = tt; is = refl; short = omega arith }, refl) }
word_possible word.Not = record { piece = codes "not"; is = (codes "not", record { starts = refl; on = refl; ends = tt; is = refl; short = omega arith }, refl) }
word_possible word.In = record { piece = codes "in"; is = (codes "in", record { starts = refl; on = refl; ends = tt; is = refl; short = omega arith }, refl) }
word_possible word.Is = record { piece = codes "is"; is = (codes "is", record { starts = refl; on = refl; ends = tt; is = refl; short = omega arith }, refl) }
word_possible word.Null = record { piece = codes "null"; is = (codes "null", record { starts = refl; on = refl; ends = tt; is = refl; short = omega arith }, refl) }
word_possible word.Order = record { piece = codes "order"; is = (codes "order", record { starts = refl; on = refl; ends = tt; is = refl; short = omega arith }, refl) }
word_possible word.By = record { piece = codes "by"; is = (codes "by", record { starts = refl; on = refl; ends = tt; is = refl; short = omega arith }, refl) }
word_possible word.Asc = record { piece = codes "asc"; is = (codes "asc", record { starts = refl; on = refl; ends = tt; is = refl; short = omega arith }, refl) }
word_possible word.Desc = record { piece = codes "desc"; is = (codes "desc", record { starts = refl; on = refl; ends = tt; is = refl; short = omega arith }, refl) }
word_possible word.Limit = record { piece = codes "limit"; is = (codes "limit", record { starts = refl; on = refl; ends = tt; is = refl; short = omega arith }, refl) }
word_possible word.Offset = record { piece = codes "offset"; is = (codes "offset", record { starts = refl; on = refl; ends = tt; is = refl; short = omega arith }, refl) }
word_possible word.Insert = record { piece = codes "insert"; is = (codes "insert", record { starts = refl; on = refl; ends = tt; is = refl; short = omega arith }, refl) }
word_possible word.Into = record { piece = codes "into"; is = (codes "into", record { starts = refl; on = refl; ends = tt; is = refl; short = omega arith }, refl) }
word_possible word.Values = record { piece = codes "values"; is = (codes "values", record { starts = refl; on = refl; ends = tt; is = refl; short = omega arith }, refl) }
word_possible word.Update = record { piece = codes "update"; is = (codes "update", record { starts = refl; on = refl; ends = tt; is = refl; short = omega arith }, refl) }
word_possible word.Set = record { piece = codes "set"; is = (codes "set", record { starts = refl; on = refl; ends = tt; is = refl; short = omega arith }, refl) }
word_possible word.Delete = record { piece = codes "delete"; is = (codes "delete", record { starts = refl; on = refl; ends = tt; is = refl; short = omega arith }, refl) }
word_possible word.As = record { piece = codes "as"; is = (codes "as", record { starts = refl; on = refl; ends = tt; is = refl; short = omega arith }, refl) }
word_possible word.To = record { piece = codes "to"; is = (codes "to", record { starts = refl; on = refl; ends = tt; is = refl; short = omega arith }, refl) }

pub sign_possible : (s : Sign) → IsPossible (t.Sign s)
sign_possible sign.Open = record { piece = 40 ∷ []; is = signs.one 40 refl refl tt }
sign_possible sign.Close = record { piece = 41 ∷ []; is = signs.one 41 refl refl tt }
sign_possible sign.Comma = record { piece = 44 ∷ []; is = signs.one 44 refl refl tt }
sign_possible sign.Semicolon = record { piece = 59 ∷ []; is = signs.one 59 refl refl tt }
sign_possible sign.Dot = record { piece = 46 ∷ []; is = signs.one 46 refl refl tt }
sign_possible sign.Star = record { piece = 42 ∷ []; is = signs.one 42 refl refl tt }
sign_possible sign.Equal = record { piece = 61 ∷ []; is = signs.one 61 refl refl tt }
sign_possible sign.Less = record { piece = 60 ∷ []; is = signs.one 60 refl refl tt }
sign_possible sign.Greater = record { piece = 62 ∷ []; is = signs.one 62 refl refl tt }
sign_possible sign.Plus = record { piece = 43 ∷ []; is = signs.one 43 refl refl tt }
sign_possible sign.Minus = record { piece = 45 ∷ []; is = signs.one 45 refl refl tt }
sign_possible sign.NotEqual = record { piece = 60 ∷ 62 ∷ []; is = signs.two 60 62 refl refl }
sign_possible sign.AtMost = record { piece = 60 ∷ 61 ∷ []; is = signs.two 60 61 refl refl }
sign_possible sign.AtLeast = record { piece = 62 ∷ 61 ∷ []; is = signs.two 62 61 refl refl }

pub call_possible : (name : List ℕ) → Starts begins_word name → list_all goes_on_word name ≡ true → name ≡ map folded name → length name ≤ 63 → keyword_of name ≡ None → IsPossible (t.Name name false)
call_possible name s o f h k = record { piece = name; is = (record { starts = s; on = o; ends = tt; is = f; short = h }, k) }

pub one_possible : IsPossible (t.Number 1)
one_possible = record { piece = 49 ∷ []; is = (record { starts = refl; on = refl; ends = tt; is = refl }, omega arith) }

pub thirty_three_possible : IsPossible (t.Number 33)
thirty_three_possible = record { piece = 51 ∷ 51 ∷ []; is = (record { starts = refl; on = refl; ends = tt; is = refl }, omega arith) }

pub count_possible : IsPossible (t.Name (codes "count") false)
count_possible = call_possible (codes "count") refl refl refl (omega arith) refl

pub substr_possible : IsPossible (t.Name (codes "substr") false)
substr_possible = call_possible (codes "substr") refl refl refl (omega arith) refl

-- ---- names in quotes

or_cases : {R : Type 0} (a b : Bool) → (a || b) ≡ true → (a ≡ true → R) → (b ≡ true → R) → R
or_cases true b e f g = f refl
or_cases false b e f g = g e

and_parts : (a b : Bool) → (a && b) ≡ true → (a ≡ true) × (b ≡ true)
and_parts true b e = (refl, e)
and_parts false b e = cc

yes_or_no : {R : Type 0} (b : Bool) → (b ≡ true → R) → (b ≡ false → R) → R
yes_or_no true f g = f refl
yes_or_no false f g = g refl

within : (lo hi c : ℕ) → (nat_le lo c && nat_le c hi) ≡ true → (lo ≤ c) × (c ≤ hi)
within lo hi c e = let p = and_parts (nat_le lo c) (nat_le c hi) e in (leb-true lo c p.0, leb-true c hi p.1)

-- a byte of a word
in_word : (c : ℕ) → goes_on_word c ≡ true → (36 ≤ c) × (c ≤ 122)
in_word c e = or_cases (begins_word c || is_digit c) (c == 36) e
    (λ f. or_cases (begins_word c) (is_digit c) f
    (λ g. or_cases (is_upper c || (nat_le 97 c && nat_le c 122)) (c == 95) g
    (λ h. or_cases (is_upper c) (nat_le 97 c && nat_le c 122) h (λ k. let w = within 65 90 c k in (omega arith, omega arith)) (λ k. let w = within 97 122 c k in (omega arith, omega arith)))
    (λ h. let w = eqb-true c 95 h in (omega arith, omega arith)))
    (λ g. let w = within 48 57 c g in (omega arith, omega arith)))
    (λ f. let w = eqb-true c 36 f in (omega arith, omega arith))

folded_small : (c : ℕ) → goes_on_word c ≡ true → (36 ≤ folded c) × (folded c < 128)
folded_small c e = yes_or_no (is_upper c)
    (λ u. let w = within 65 90 c u in subst (λ b. (36 ≤ (if b then c + 32 else c)) × ((if b then c + 32 else c) < 128)) (sym u) (omega arith, omega arith))
    (λ u. let w = in_word c e in subst (λ b. (36 ≤ (if b then c + 32 else c)) × ((if b then c + 32 else c) < 128)) (sym u) (omega arith, omega arith))

word_ascii : (piece : List ℕ) → list_all goes_on_word piece ≡ true → IsAscii (map folded piece)
word_ascii [] e i = IsAscii-nil i
word_ascii (c ∷ piece) e zero = (folded_small c (and_parts (goes_on_word c) (list_all goes_on_word piece) e).0).1
word_ascii (c ∷ piece) e (suc i) = word_ascii piece (and_parts (goes_on_word c) (list_all goes_on_word piece) e).1 i

not_zero : (n : ℕ) → 1 ≤ n → not (n == 0) ≡ true
not_zero zero h = absurd (omega arith)
not_zero (suc n) h = ap not (eqb-suc-zero n)

word_no_zero : (piece : List ℕ) → list_all goes_on_word piece ≡ true → list_all (λ b. not (b == 0)) (map folded piece) ≡ true
word_no_zero [] e = refl
word_no_zero (c ∷ piece) e =
    let p = and_parts (goes_on_word c) (list_all goes_on_word piece) e in
    let w = (folded_small c p.0).0 in
    λ i. not_zero (folded c) (omega arith) i && word_no_zero piece p.1 i

word_text : (piece : List ℕ) → list_all goes_on_word piece ≡ true → IsText (map folded piece)
word_text piece e = record { utf8 = IsUtf8-from_ascii (map folded piece) (word_ascii piece e); no_zero = word_no_zero piece e }

some_bytes : (piece : List ℕ) → Starts begins_word piece → 1 ≤ length (map folded piece)
some_bytes [] s = absurd s
some_bytes (c ∷ piece) s = omega arith

pub name_text : (n : List ℕ) (quoted : Bool) → IsPossible (t.Name n quoted) → IsText n
name_text n true h = h.is.0.text
name_text n false h = subst IsText (sym h.is.0.is) (word_text h.piece h.is.0.on)

pub text_possible : (s : List ℕ) → IsText s → IsPossible (t.Text s)
text_possible s h = record { piece = 39 ∷ doubled 39 s ++ 39 ∷ []; is = record { written = refl; ends = tt; text = h } }

name_length : (n : List ℕ) (quoted : Bool) → IsPossible (t.Name n quoted) → (1 ≤ length n) × (length n ≤ 63)
name_length n true h = (h.is.1, h.is.2)
name_length n false h =
    let some = some_bytes h.piece h.is.0.starts in
    let same = ap length h.is.0.is in
    let len = length-map h.piece folded in
    let short = h.is.0.short in
    (omega arith, omega arith)

pub quoted_possible : (n : List ℕ) (quoted : Bool) → IsPossible (t.Name n quoted) → IsPossible (t.Name n true)
quoted_possible n quoted h =
    let len = name_length n quoted h in
    record { piece = 34 ∷ doubled 34 n ++ 34 ∷ []; is = (record { written = refl; ends = tt; text = name_text n quoted h }, len.0, len.1) }
