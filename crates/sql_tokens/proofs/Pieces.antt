-- What a piece is, by its first byte.
use Rattle.std.proofs.Common.{◌≡◌, ℕ, ◌<◌, ◌≤◌, ◌^◌, ◌==◌, Bool, true, false, List, [], ◌∷◌, ◌++◌, length, get_or, ap, subst, refl, sym, arith, inl, inr}
use Rattle.std.specs.Prelude.{Option, Some, None, if◌then◌else◌}
use Rattle.std.specs.List.{list_all}
use Rattle.std.proofs.lemmas.Bool.Decides.{nat_tests, eqb_tells}
use Rattle.sql_tokens.specs.declared.class.Class.{Class}
use Rattle.sql_tokens.specs.declared.class.Class.TheVariants as class
use Rattle.sql_tokens.specs.declared.sign.Sign.{Sign}
use Rattle.sql_tokens.specs.declared.keyword.Keyword.{Keyword}
use Rattle.sql_tokens.specs.declared.token.Token.{Token}
use Rattle.sql_tokens.specs.declared.token.Token.TheVariants as t
use Rattle.sql_tokens.specs.Classes.{class_of, Stops, is_space, is_digit, begins_word}
use Rattle.sql_tokens.specs.Keywords.{keyword_of}
use Rattle.sql_tokens.specs.Signs.{IsSign, sign_of_one, sign_of_two, joins}
use Rattle.sql_tokens.specs.Comments.{IsGap, IsText, after_comments, not_newline}
use Rattle.sql_tokens.specs.Tokens.{IsWord, IsNumber, IsQuoted, IsParameter, IsToken, IsPiece}
use Rattle.sql_tokens.specs.Steps.{word_token}

-- the class of a first byte
space_class : (c : ℕ) → is_space c ≡ true → class_of c ≡ class.Space
space_class c h = rw h refl

pub word_class : (c : ℕ) → begins_word c ≡ true → class_of c ≡ class.Word
word_class c h = let s : is_space c ≡ false = grind (arith, nat_tests) in rw (s, h) refl

pub digit_class : (c : ℕ) → is_digit c ≡ true → class_of c ≡ class.Digit
digit_class c h =
    let s : is_space c ≡ false = grind (arith, nat_tests) in
    let w : begins_word c ≡ false = grind (arith, nat_tests) in
    rw (s, w, h) refl

-- a number is this one, or the test says that it isn't
unless : (P : ℕ → Type 0) (k c : ℕ) → P k → ((c == k) ≡ false → P c) → P c
unless P k c at other = elim (eqb_tells c k) [ inl h ↦ subst P (sym h.1) at | inr h ↦ other h.0 ]

one_class : (c : ℕ) (sign : Sign) → sign_of_one c ≡ Some sign → class_of c ≡ class.Mark
one_class c sign =
    let P : ℕ → Type 0 = λ c. sign_of_one c ≡ Some sign → class_of c ≡ class.Mark in
    unless P 40 c (λ _. refl) (λ a. unless P 41 c (λ _. refl) (λ b. unless P 44 c (λ _. refl) (λ d. unless P 59 c (λ _. refl) (λ e. unless P 46 c (λ _. refl) (λ f.
    unless P 42 c (λ _. refl) (λ g. unless P 61 c (λ _. refl) (λ h. unless P 60 c (λ _. refl) (λ i. unless P 62 c (λ _. refl) (λ j. unless P 43 c (λ _. refl) (λ k. unless P 45 c (λ _. refl) (λ l.
    λ is. let no : None ≡ Some sign = rw (a, b, d, e, f, g, h, i, j, k, l) at is in cc)))))))))))

two_class : (c d : ℕ) (sign : Sign) → sign_of_two c d ≡ Some sign → class_of c ≡ class.Mark
two_class c d sign =
    let P : ℕ → Type 0 = λ c. sign_of_two c d ≡ Some sign → class_of c ≡ class.Mark in
    unless P 60 c (λ _. refl) (λ a. unless P 33 c (λ _. refl) (λ b. unless P 62 c (λ _. refl) (λ e.
    λ is. let no : None ≡ Some sign = rw (a, b, e) at is in cc)))

-- what a first byte of a class is
of_tests : (s w d n x p : Bool) → Class
of_tests s w d n x p = if s then class.Space else (if w then class.Word else (if d then class.Digit else (if n then class.Name else (if x then class.Text else (if p then class.Parameter else class.Mark)))))

word_tests : (s w d n x p : Bool) → of_tests s w d n x p ≡ class.Word → w ≡ true
unfolding of_tests
word_tests true w d n x p e = cc
word_tests false true d n x p e = refl
word_tests false false true n x p e = cc
word_tests false false false true x p e = cc
word_tests false false false false true p e = cc
word_tests false false false false false true e = cc
word_tests false false false false false false e = cc

digit_tests : (s w d n x p : Bool) → of_tests s w d n x p ≡ class.Digit → d ≡ true
unfolding of_tests
digit_tests true w d n x p e = cc
digit_tests false true d n x p e = cc
digit_tests false false true n x p e = refl
digit_tests false false false true x p e = cc
digit_tests false false false false true p e = cc
digit_tests false false false false false true e = cc
digit_tests false false false false false false e = cc

quote_tests : (s w d n x p : Bool) → of_tests s w d n x p ≡ class.Parameter → p ≡ true
unfolding of_tests
quote_tests true w d n x p e = cc
quote_tests false true d n x p e = cc
quote_tests false false true n x p e = cc
quote_tests false false false true x p e = cc
quote_tests false false false false true p e = cc
quote_tests false false false false false true e = refl
quote_tests false false false false false false e = cc

space_tests : (s w d n x p : Bool) → of_tests s w d n x p ≡ class.Space → s ≡ true
unfolding of_tests
space_tests true w d n x p e = refl
space_tests false true d n x p e = cc
space_tests false false true n x p e = cc
space_tests false false false true x p e = cc
space_tests false false false false true p e = cc
space_tests false false false false false true e = cc
space_tests false false false false false false e = cc

pub class_space : (c : ℕ) → class_of c ≡ class.Space → is_space c ≡ true
unfolding of_tests
class_space c e = space_tests (is_space c) (begins_word c) (is_digit c) (c == 34) (c == 39) (c == 36) e

pub class_parameter : (c : ℕ) → class_of c ≡ class.Parameter → c ≡ 36
unfolding of_tests
class_parameter c e = let h = quote_tests (is_space c) (begins_word c) (is_digit c) (c == 34) (c == 39) (c == 36) e in grind (arith, nat_tests)

pub class_word : (c : ℕ) → class_of c ≡ class.Word → begins_word c ≡ true
unfolding of_tests
class_word c e = word_tests (is_space c) (begins_word c) (is_digit c) (c == 34) (c == 39) (c == 36) e

pub class_digit : (c : ℕ) → class_of c ≡ class.Digit → is_digit c ≡ true
unfolding of_tests
class_digit c e = digit_tests (is_space c) (begins_word c) (is_digit c) (c == 34) (c == 39) (c == 36) e

-- signs and comments
pub data IsMark (piece : List ℕ) (what : Option Token) (rest : List ℕ) : Type 0 where
  line : (inside : List ℕ) → piece ≡ 45 ∷ 45 ∷ inside → list_all not_newline inside ≡ true → Stops not_newline rest → IsText inside → what ≡ None → IsMark piece what rest
  nested : (inside : List ℕ) → piece ≡ 47 ∷ 42 ∷ inside → after_comments (inside ++ rest) 1 ≡ Some rest → IsText inside → what ≡ None → IsMark piece what rest
  one : (c : ℕ) (sign : Sign) → piece ≡ c ∷ [] → sign_of_one c ≡ Some sign → Stops (joins c) rest → what ≡ Some (t.Sign sign) → IsMark piece what rest
  two : (c d : ℕ) (sign : Sign) → piece ≡ c ∷ d ∷ [] → sign_of_two c d ≡ Some sign → what ≡ Some (t.Sign sign) → IsMark piece what rest

-- what begins with a byte of the class
abbrev pub Of : Class → List ℕ → Option Token → List ℕ → Type 0
Of class.Space piece what rest = (c : ℕ) × (piece ≡ c ∷ []) × (what ≡ None)
Of class.Word piece what rest = (name : List ℕ) × IsWord piece name rest × (what ≡ Some (word_token name))
Of class.Digit piece what rest = (n : ℕ) × IsNumber piece n rest × (n < 2 ^ 127) × (what ≡ Some (t.Number n))
Of class.Name piece what rest = (name : List ℕ) × IsQuoted 34 piece name rest × (1 ≤ length name) × (length name ≤ 63) × (what ≡ Some (t.Name name true))
Of class.Text piece what rest = (content : List ℕ) × IsQuoted 39 piece content rest × (what ≡ Some (t.Text content))
Of class.Parameter piece what rest = (n : ℕ) × IsParameter piece n rest × (what ≡ Some (t.Parameter n))
Of class.Mark piece what rest = IsMark piece what rest

-- the first byte of a piece whose beginning is known
first_is : (c d : ℕ) (cs ds : List ℕ) (K : Class) → c ∷ cs ≡ d ∷ ds → class_of d ≡ K → class_of c ≡ K
first_is c d cs ds K e h = let same : c ≡ d = cc in subst (λ b. class_of b ≡ K) (sym same) h

-- a word is its token
token_at : List ℕ → Option Keyword → Token
token_at name o = elim o [ None ↦ t.Name name false | Some word ↦ t.Word word ]

some_word : (name : List ℕ) (word : Keyword) → keyword_of name ≡ Some word → word_token name ≡ t.Word word
unfolding token_at
some_word name word e = ap (token_at name) e

no_word : (name : List ℕ) → keyword_of name ≡ None → word_token name ≡ t.Name name false
unfolding token_at
no_word name e = ap (token_at name) e

pub of_word : (piece name rest : List ℕ) → IsWord piece name rest → IsToken piece (word_token name) rest
of_word piece name rest h = at (keyword_of name) refl
  where
    at : (o : Option Keyword) → keyword_of name ≡ o → IsToken piece (word_token name) rest
    at None e = subst (λ x. IsToken piece x rest) (sym (no_word name e)) (h, e)
    at (Some word) e = subst (λ x. IsToken piece x rest) (sym (some_word name word e)) (name, h, e)

module _ (c : ℕ) (cs rest : List ℕ) where
  -- by its class
  by : (K : Class) (what : Option Token) → class_of c ≡ K → Of K (c ∷ cs) what rest → Of (class_of c) (c ∷ cs) what rest
  by K what e h = subst (λ k. Of k (c ∷ cs) what rest) (sym e) h

  of_gap : IsGap (c ∷ cs) rest → Of (class_of c) (c ∷ cs) None rest
  of_gap (IsGap.space d e h) = by class.Space None (first_is c d cs [] class.Space e (space_class d h)) (d, e, refl)
  of_gap (IsGap.line inside e all stops text) = by class.Mark None (first_is c 45 cs (45 ∷ inside) class.Mark e refl) (IsMark.line inside e all stops text refl)
  of_gap (IsGap.nested inside e after text) = by class.Mark None (first_is c 47 cs (42 ∷ inside) class.Mark e refl) (IsMark.nested inside e after text refl)

  of_sign : (sign : Sign) → IsSign (c ∷ cs) sign rest → Of (class_of c) (c ∷ cs) (Some (t.Sign sign)) rest
  of_sign sign (IsSign.one d e h stops) = by class.Mark _ (first_is c d cs [] class.Mark e (one_class d sign h)) (IsMark.one d sign e h stops refl)
  of_sign sign (IsSign.two d b e h) = by class.Mark _ (first_is c d cs (b ∷ []) class.Mark e (two_class d b sign h)) (IsMark.two d b sign e h refl)

  of_piece : (what : Option Token) → IsPiece (c ∷ cs) what rest → Of (class_of c) (c ∷ cs) what rest
  of_piece None h = of_gap h
  of_piece (Some (t.Word word)) h = by class.Word _ (word_class c h.1.starts) (h.0, h.1, ap Some (sym (some_word h.0 word h.2)))
  of_piece (Some (t.Name name false)) h = by class.Word _ (word_class c h.0.starts) (name, h.0, ap Some (sym (no_word name h.1)))
  of_piece (Some (t.Name name true)) h = by class.Name _ (first_is c 34 cs _ class.Name h.0.written refl) (name, h.0, h.1, h.2, refl)
  of_piece (Some (t.Number n)) h = by class.Digit _ (digit_class c h.0.starts) (n, h.0, h.1, refl)
  of_piece (Some (t.Text content)) h = by class.Text _ (first_is c 39 cs _ class.Text h.written refl) (content, h, refl)
  of_piece (Some (t.Parameter n)) h = by class.Parameter _ (first_is c 36 cs _ class.Parameter h.written refl) (n, h, refl)
  of_piece (Some (t.Sign sign)) h = of_sign sign h

-- no piece is empty
pub not_empty : (what : Option Token) (rest : List ℕ) → IsPiece [] what rest → ⊥
not_empty None rest (IsGap.space d e h) = cc
not_empty None rest (IsGap.line inside e all stops text) = cc
not_empty None rest (IsGap.nested inside e after text) = cc
not_empty (Some (t.Word word)) rest h = h.1.starts
not_empty (Some (t.Name name false)) rest h = h.0.starts
not_empty (Some (t.Name name true)) rest h = let e = h.0.written in cc
not_empty (Some (t.Number n)) rest h = h.0.starts
not_empty (Some (t.Text content)) rest h = let e = h.written in cc
not_empty (Some (t.Parameter n)) rest h = let e = h.written in cc
not_empty (Some (t.Sign sign)) rest (IsSign.one d e h stops) = cc
not_empty (Some (t.Sign sign)) rest (IsSign.two d b e h) = cc

-- a piece at the front of a text is of the class of its first byte
pub inverted : (text piece rest : List ℕ) (what : Option Token) → text ≡ piece ++ rest → IsPiece piece what rest → Of (class_of (get_or text 0 0)) piece what rest
inverted text [] rest what e h = absurd (not_empty what rest h)
inverted text (c ∷ cs) rest what e h = subst (λ b. Of (class_of b) (c ∷ cs) what rest) (sym (ap (λ (xs : List ℕ). get_or xs 0 0) e)) (of_piece c cs rest what h)
