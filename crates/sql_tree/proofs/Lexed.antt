-- Canonical text is read as the tokens that it was written from.
use Rattle.std.proofs.Common.{◌≡◌, ℕ, ◌+◌, ◌-◌, ◌*◌, ◌/◌, ◌%◌, ◌<◌, ◌≤◌, ◌^◌, nat_eq, ◌==◌, Bool, true, false, List, [], ◌∷◌, ◌++◌, length, append_assoc, append-nil, refl, sym, ap, ◌∙◌, subst, arith}
use Rattle.std.specs.Prelude.{◌||◌, if◌then◌else◌, not, Some, None, codes}
use Rattle.std.specs.List.{list_all, AllByRecursion}
use Rattle.std.specs.Fmt.{decimal}
use Rattle.std.proofs.lemmas.Fmt.{decimal_by_steps_wide}
use Rattle.std.proofs.lemmas.Bool.Decides.{nat_tests}
use Rattle.std.proofs.lemmas.List.Folds.{list_all-append}
use Rattle.sql_tokens.specs.declared.keyword.Keyword.{Keyword}
use Rattle.sql_tokens.specs.declared.keyword.Keyword.TheVariants as word
use Rattle.sql_tokens.specs.declared.sign.Sign.{Sign}
use Rattle.sql_tokens.specs.declared.sign.Sign.TheVariants as sign
use Rattle.sql_tokens.specs.declared.token.Token.{Token}
use Rattle.sql_tokens.specs.declared.token.Token.TheVariants as t
use Rattle.sql_tokens.specs.declared.token.Placed.{Placed}
use Rattle.sql_tokens.specs.Classes.{Stops, Starts, is_digit, goes_on_word, number_from}
use Rattle.sql_tokens.specs.Signs.{IsSign, joins}
use Rattle.sql_tokens.specs.Comments.{IsGap}
use Rattle.sql_tokens.specs.Tokens.{IsNumber, IsToken}
use Rattle.sql_tokens.specs.Lexing.{Lexes}
use Rattle.sql_tree.specs.Canonical.{keyword_text, sign_text, token_text, is_tight_after, is_tight_before, rendered}
use Rattle.sql_tree.specs.Spelling.{tokens_of}
use Rattle.sql_tree.specs.Laws.{IsPossible}

-- nothing, or a space, a comma or a parenthesis that closes
abbrev Clean : List ℕ → Type 0
Clean rest = Stops (λ c. not ((c == 32) || ((c == 44) || (c == 41)))) rest

clean : (tight : Bool) (ts : List Token) → tight ≡ false → Clean (rendered tight ts)
clean tight [] e = tt
clean true (x ∷ ts) e = cc
clean false (x ∷ ts) e = by x
  where
    by : (x : Token) → Clean (rendered false (x ∷ ts))
    by (t.Word w) = refl
    by (t.Name n q) = refl
    by (t.Number n) = refl
    by (t.Text s) = refl
    by (t.Parameter n) = refl
    by (t.Sign sign.Open) = refl
    by (t.Sign sign.Close) = refl
    by (t.Sign sign.Comma) = refl
    by (t.Sign sign.Semicolon) = refl
    by (t.Sign sign.Dot) = refl
    by (t.Sign sign.Star) = refl
    by (t.Sign sign.Equal) = refl
    by (t.Sign sign.NotEqual) = refl
    by (t.Sign sign.Less) = refl
    by (t.Sign sign.AtMost) = refl
    by (t.Sign sign.Greater) = refl
    by (t.Sign sign.AtLeast) = refl
    by (t.Sign sign.Plus) = refl
    by (t.Sign sign.Minus) = refl

-- what stops at a clean text
stops : (test : ℕ → Bool) → test 32 ≡ false → test 44 ≡ false → test 41 ≡ false → (rest : List ℕ) → Clean rest → Stops test rest
stops test a b c [] h = tt
stops test a b c (x ∷ rest) h = by (x == 32) (x == 44) (x == 41) refl refl refl h
  where
    by : (p q r : Bool) → (x == 32) ≡ p → (x == 44) ≡ q → (x == 41) ≡ r → not ((x == 32) || ((x == 44) || (x == 41))) ≡ false → test x ≡ false
    by true q r e f g k = let s : x ≡ 32 = grind (arith, nat_tests) in ap test s ∙ a
    by false true r e f g k = let s : x ≡ 44 = grind (arith, nat_tests) in ap test s ∙ b
    by false false true e f g k = let s : x ≡ 41 = grind (arith, nat_tests) in ap test s ∙ c
    by false false false e f g k = let no : true ≡ false = rw (e, f, g) at k in cc

-- keywords
is_word : (w : Keyword) (rest : List ℕ) → Stops goes_on_word rest → IsToken (keyword_text w) (t.Word w) rest
is_word word.Select rest h = (codes "select", record { starts = refl; on = refl; ends = h; is = refl; short = omega arith }, refl)
is_word word.From rest h = (codes "from", record { starts = refl; on = refl; ends = h; is = refl; short = omega arith }, refl)
is_word word.Where rest h = (codes "where", record { starts = refl; on = refl; ends = h; is = refl; short = omega arith }, refl)
is_word word.And rest h = (codes "and", record { starts = refl; on = refl; ends = h; is = refl; short = omega arith }, refl)
is_word word.Or rest h = (codes "or", record { starts = refl; on = refl; ends = h; is = refl; short = omega arith }, refl)
is_word word.Not rest h = (codes "not", record { starts = refl; on = refl; ends = h; is = refl; short = omega arith }, refl)
is_word word.In rest h = (codes "in", record { starts = refl; on = refl; ends = h; is = refl; short = omega arith }, refl)
is_word word.Is rest h = (codes "is", record { starts = refl; on = refl; ends = h; is = refl; short = omega arith }, refl)
is_word word.Null rest h = (codes "null", record { starts = refl; on = refl; ends = h; is = refl; short = omega arith }, refl)
is_word word.Order rest h = (codes "order", record { starts = refl; on = refl; ends = h; is = refl; short = omega arith }, refl)
is_word word.By rest h = (codes "by", record { starts = refl; on = refl; ends = h; is = refl; short = omega arith }, refl)
is_word word.Asc rest h = (codes "asc", record { starts = refl; on = refl; ends = h; is = refl; short = omega arith }, refl)
is_word word.Desc rest h = (codes "desc", record { starts = refl; on = refl; ends = h; is = refl; short = omega arith }, refl)
is_word word.Limit rest h = (codes "limit", record { starts = refl; on = refl; ends = h; is = refl; short = omega arith }, refl)
is_word word.Offset rest h = (codes "offset", record { starts = refl; on = refl; ends = h; is = refl; short = omega arith }, refl)
is_word word.Insert rest h = (codes "insert", record { starts = refl; on = refl; ends = h; is = refl; short = omega arith }, refl)
is_word word.Into rest h = (codes "into", record { starts = refl; on = refl; ends = h; is = refl; short = omega arith }, refl)
is_word word.Values rest h = (codes "values", record { starts = refl; on = refl; ends = h; is = refl; short = omega arith }, refl)
is_word word.Update rest h = (codes "update", record { starts = refl; on = refl; ends = h; is = refl; short = omega arith }, refl)
is_word word.Set rest h = (codes "set", record { starts = refl; on = refl; ends = h; is = refl; short = omega arith }, refl)
is_word word.Delete rest h = (codes "delete", record { starts = refl; on = refl; ends = h; is = refl; short = omega arith }, refl)
is_word word.As rest h = (codes "as", record { starts = refl; on = refl; ends = h; is = refl; short = omega arith }, refl)
is_word word.To rest h = (codes "to", record { starts = refl; on = refl; ends = h; is = refl; short = omega arith }, refl)

-- digits
pub record Digits (n : ℕ) (digits : List ℕ) : Type 0 where
  pub all : list_all is_digit digits ≡ true
  pub value : number_from 0 digits ≡ n
  pub starts : Starts is_digit digits
  pub leads : 1 ≤ n → Stops (nat_eq 48) digits

number_from-append : (n : ℕ) (xs : List ℕ) (d : ℕ) → number_from n (xs ++ d ∷ []) ≡ number_from n xs * 10 + (d - 48)
number_from-append n [] d = refl
number_from-append n (x ∷ xs) d = number_from-append (n * 10 + (x - 48)) xs d

digit : (k : ℕ) → k < 10 → is_digit (48 + k) ≡ true
digit k h = grind (arith, nat_tests)

leading : (n : ℕ) → 1 ≤ n → nat_eq 48 (48 + n) ≡ false
leading n h = grind (arith, nat_tests)

one_digit : (n : ℕ) → n < 10 → Digits n ((48 + n) ∷ [])
one_digit n h = record { all = rw (digit n h) refl; value = omega arith; starts = digit n h; leads = leading n }

starts-append : (test : ℕ → Bool) (xs ys : List ℕ) → Starts test xs → Starts test (xs ++ ys)
starts-append test [] ys h = absurd h
starts-append test (x ∷ xs) ys h = h

leads-append : (xs ys : List ℕ) → Starts is_digit xs → Stops (nat_eq 48) xs → Stops (nat_eq 48) (xs ++ ys)
leads-append [] ys h k = absurd h
leads-append (x ∷ xs) ys h k = k

more_digits : (n : ℕ) (ds : List ℕ) → 10 ≤ n → Digits (n / 10) ds → Digits n (ds ++ ((48 + n % 10) ∷ []))
more_digits n ds h s = record {
  all = rw (list_all-append is_digit ds ((48 + n % 10) ∷ []), s.all, digit (n % 10) (omega arith)) refl;
  value = number_from-append 0 ds (48 + n % 10) ∙ rw s.value (omega arith);
  starts = starts-append is_digit ds _ s.starts;
  leads = λ _. leads-append ds _ s.starts (s.leads (omega arith));
}

digits : (n : ℕ) → n < 2 ^ 127 → Digits n (decimal n)
digits n h = decimal_by_steps_wide Digits one_digit more_digits n (omega arith)

is_number : (n : ℕ) (rest : List ℕ) → n < 2 ^ 127 → Stops is_digit rest → IsNumber (decimal n) n rest
is_number n rest h s = let d = digits n h in record { starts = d.starts; on = d.all; ends = s; is = sym d.value }

-- signs
sign_open : (rest : List ℕ) → IsSign (codes "(") sign.Open rest
sign_open [] = IsSign.one 40 refl refl tt
sign_open (d ∷ rest) = IsSign.one 40 refl refl refl

sign_minus : (rest : List ℕ) → Stops (joins 45) rest → IsSign (codes "-") sign.Minus rest
sign_minus rest h = IsSign.one 45 refl refl h

sign_other : (s : Sign) (rest : List ℕ) → is_tight_after (t.Sign s) ≡ false → Clean rest → IsSign (sign_text s) s rest
sign_other sign.Open rest e h = cc
sign_other sign.Minus rest e h = cc
sign_other sign.Close rest e h = IsSign.one 41 refl refl (stops (joins 41) refl refl refl rest h)
sign_other sign.Comma rest e h = IsSign.one 44 refl refl (stops (joins 44) refl refl refl rest h)
sign_other sign.Semicolon rest e h = IsSign.one 59 refl refl (stops (joins 59) refl refl refl rest h)
sign_other sign.Dot rest e h = IsSign.one 46 refl refl (stops (joins 46) refl refl refl rest h)
sign_other sign.Star rest e h = IsSign.one 42 refl refl (stops (joins 42) refl refl refl rest h)
sign_other sign.Equal rest e h = IsSign.one 61 refl refl (stops (joins 61) refl refl refl rest h)
sign_other sign.NotEqual rest e h = IsSign.two 60 62 refl refl
sign_other sign.Less rest e h = IsSign.one 60 refl refl (stops (joins 60) refl refl refl rest h)
sign_other sign.AtMost rest e h = IsSign.two 60 61 refl refl
sign_other sign.Greater rest e h = IsSign.one 62 refl refl (stops (joins 62) refl refl refl rest h)
sign_other sign.AtLeast rest e h = IsSign.two 62 61 refl refl
sign_other sign.Plus rest e h = IsSign.one 43 refl refl (stops (joins 43) refl refl refl rest h)

-- a parameter is at least 1
grows : (n : ℕ) (xs : List ℕ) → n ≤ number_from n xs
grows n [] = omega arith
grows n (x ∷ xs) = let h = grows (n * 10 + (x - 48)) xs in omega arith

above_zero : (x : ℕ) → is_digit x ≡ true → nat_eq 48 x ≡ false → 1 ≤ 0 * 10 + (x - 48)
above_zero x h k = grind (arith, nat_tests)

some : (digits : List ℕ) → Starts is_digit digits → Stops (nat_eq 48) digits → 1 ≤ number_from 0 digits
some [] h k = absurd h
some (x ∷ xs) h k = let g = grows (0 * 10 + (x - 48)) xs in let a = above_zero x h k in omega arith

-- a token that no tight one is
ends_clean : (x : Token) (rest : List ℕ) → is_tight_after x ≡ false → IsPossible x → Clean rest → IsToken (token_text x) x rest
ends_clean (t.Word w) rest e h c = is_word w rest (stops goes_on_word refl refl refl rest c)
ends_clean (t.Name n true) rest e h c = let i = h.is in (record { written = refl; ends = stops (nat_eq 34) refl refl refl rest c; text = i.0.text }, i.1, i.2)
ends_clean (t.Name n false) rest e h c = cc
ends_clean (t.Number n) rest e h c = let i = h.is in (is_number n rest i.1 (stops is_digit refl refl refl rest c), i.1)
ends_clean (t.Text s) rest e h c = record { written = refl; ends = stops (nat_eq 39) refl refl refl rest c; text = h.is.text }
ends_clean (t.Parameter n) rest e h c =
    let i = h.is in
    let m = i.most in
    let one = some i.digits i.spells.starts i.leads in
    let v = i.spells.is in
    let d = digits n (omega arith) in
    record { digits = decimal n; written = refl; spells = is_number n rest (omega arith) (stops is_digit refl refl refl rest c); leads = d.leads (omega arith); most = m }
ends_clean (t.Sign s) rest e h c = sign_other s rest e c

-- what a list of tokens is read as
pub record Read (tight : Bool) (ts : List Token) (at : ℕ) : Type 0 where
  pub placed : List Placed
  pub lexes : Lexes at (rendered tight ts) placed None
  pub is : tokens_of placed ≡ ts

abbrev pub R : List Token → Type 0
R ts = (tight : Bool) (at : ℕ) → Read tight ts at

nothing : R []
nothing tight at = record { placed = []; lexes = Lexes.end at; is = refl }

one_more : (x : Token) (ts : List Token) → IsToken (token_text x) x (rendered (is_tight_after x) ts) → R ts → R (x ∷ ts)
one_more x ts h r tight at = by (tight || is_tight_before x) refl
  where
    here : (at : ℕ) → (placed : List Placed) × Lexes at (token_text x ++ rendered (is_tight_after x) ts) placed None × (tokens_of placed ≡ x ∷ ts)
    here at =
        let more = r (is_tight_after x) (at + length (token_text x)) in
        (record { token = x; place = at } ∷ more.placed, Lexes.piece at (token_text x) (rendered (is_tight_after x) ts) (Some x) more.placed None h more.lexes, ap (λ (ys : List Token). x ∷ ys) more.is)

    by : (b : Bool) → (tight || is_tight_before x) ≡ b → Read tight (x ∷ ts) at
    by true e =
        let it = here at in
        record { placed = it.0; lexes = subst (λ b. Lexes at ((if b then [] else 32 ∷ []) ++ (token_text x ++ rendered (is_tight_after x) ts)) it.0 None) (sym e) it.1; is = it.2 }
    by false e =
        let it = here (at + 1) in
        let gap = Lexes.piece at (32 ∷ []) (token_text x ++ rendered (is_tight_after x) ts) None it.0 None (IsGap.space 32 refl refl) it.1 in
        record { placed = it.0; lexes = subst (λ b. Lexes at ((if b then [] else 32 ∷ []) ++ (token_text x ++ rendered (is_tight_after x) ts)) it.0 None) (sym e) gap; is = it.2 }

-- tokens that can be read before any others
pub Good : List Token → Type 0
Good xs = AllByRecursion IsPossible xs → (more : List Token) → R more → R (xs ++ more)

split : (xs ys : List Token) → AllByRecursion IsPossible (xs ++ ys) → AllByRecursion IsPossible xs × AllByRecursion IsPossible ys
split [] ys h = (tt, h)
split (x ∷ xs) ys h = let s = split xs ys h.1 in ((h.0, s.0), s.1)

pub good_nothing : Good []
unfolding Good
good_nothing h more r = r

pub good_then : (xs ys : List Token) → Good xs → Good ys → Good (xs ++ ys)
unfolding Good
good_then xs ys g k h more r = let s = split xs ys h in subst R (sym (append_assoc xs ys more)) (g s.0 (ys ++ more) (k s.1 more r))

pub good_token : (x : Token) → is_tight_after x ≡ false → Good (x ∷ [])
unfolding Good
good_token x e h more r = one_more x more (ends_clean x (rendered (is_tight_after x) more) e h.0 (clean (is_tight_after x) more e)) r

pub good_open : Good (t.Sign sign.Open ∷ [])
unfolding Good
good_open h more r = one_more (t.Sign sign.Open) more (sign_open (rendered true more)) r

pub good_count : Good (t.Name (codes "count") false ∷ t.Sign sign.Open ∷ [])
unfolding Good
good_count h more r =
    one_more (t.Name (codes "count") false) (t.Sign sign.Open ∷ more) (record { starts = refl; on = refl; ends = refl; is = refl; short = omega arith }, refl)
    (one_more (t.Sign sign.Open) more (sign_open (rendered true more)) r)

pub good_substr : Good (t.Name (codes "substr") false ∷ t.Sign sign.Open ∷ [])
unfolding Good
good_substr h more r =
    one_more (t.Name (codes "substr") false) (t.Sign sign.Open ∷ more) (record { starts = refl; on = refl; ends = refl; is = refl; short = omega arith }, refl)
    (one_more (t.Sign sign.Open) more (sign_open (rendered true more)) r)

no_join : (d : ℕ) → is_digit d ≡ true → joins 45 d ≡ false
no_join d h = grind (arith, nat_tests)

no_comment : (xs rest : List ℕ) → Starts is_digit xs → Stops (joins 45) (xs ++ rest)
no_comment [] rest h = absurd h
no_comment (x ∷ xs) rest h = no_join x h

pub good_minus : (n : ℕ) → Good (t.Sign sign.Minus ∷ t.Number n ∷ [])
unfolding Good
good_minus n h more r =
    let small = h.1.0.is.1 in
    one_more (t.Sign sign.Minus) (t.Number n ∷ more) (sign_minus _ (no_comment (decimal n) (rendered false more) (digits n small).starts))
    (one_more (t.Number n) more (ends_clean (t.Number n) (rendered false more) refl h.1.0 (clean false more refl)) r)

-- a list of good tokens, as a whole
pub read_whole : (ts : List Token) → AllByRecursion IsPossible ts → Good ts → Read true ts 0
unfolding Good
read_whole ts h g = subst (λ (xs : List Token). Read true xs 0) (append-nil ts) (g h [] nothing true 0)
