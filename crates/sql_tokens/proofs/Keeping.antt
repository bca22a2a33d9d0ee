-- Tokens stay what they are where more is kept behind.
use Rattle.std.proofs.Common.{◌≡◌, ℕ, zero, suc, min, get_or, ◌+◌, ◌-◌, ◌≤◌, ◌<◌, List, [], ◌∷◌, ◌++◌, length, length-append, take, drop, ap, subst, ◌∙◌, refl, sym, arith}
use Rattle.std.specs.Prelude.{Some, Result, Ok, Err, OnErr}
use Rattle.std.proofs.lemmas.List.{take-append-le, drop-append-le, get_or_append_left, length-drop, take_all, drop_min}
use Rattle.acra_base.specs.Names.{is_name}
use Rattle.sql_tokens.specs.declared.token.Placed.{Placed}
use Rattle.sql_tokens.specs.declared.token.Token.{Token}
use Rattle.sql_tokens.specs.declared.token.Token.TheVariants as t
use Rattle.sql_tokens.specs.declared.tokens.Entry.{Entry}
use Rattle.sql_tokens.specs.declared.tokens.Mark.{Mark}
use Rattle.sql_tokens.specs.declared.tokens.Mark.TheVariants as mark
use Rattle.sql_tokens.specs.declared.slice.TokenRef.{TokenRef}
use Rattle.sql_tokens.specs.Seen.{seen, IsSound, IsFirst}
use Rattle.sql_tokens.specs.Kept.{part, Extends, token_in, placed_in, placed_all, Fits, AllFit}

-- ---- rows of entries

pub placed_length : (bytes numbers : List ℕ) (es : List Entry) → length (placed_all bytes numbers es) ≡ length es
placed_length bytes numbers [] = refl
placed_length bytes numbers (e ∷ es) = ap suc (placed_length bytes numbers es)

pub placed_drop : (bytes numbers : List ℕ) (k : ℕ) (es : List Entry) → placed_all bytes numbers (drop k es) ≡ drop k (placed_all bytes numbers es)
placed_drop bytes numbers zero es = refl
placed_drop bytes numbers (suc k) [] = refl
placed_drop bytes numbers (suc k) (e ∷ es) = placed_drop bytes numbers k es

pub all_drop : (bytes numbers : List ℕ) (k : ℕ) (es : List Entry) → AllFit bytes numbers es → AllFit bytes numbers (drop k es)
all_drop bytes numbers zero es h = h
all_drop bytes numbers (suc k) [] h = h
all_drop bytes numbers (suc k) (e ∷ es) h = all_drop bytes numbers k es h.1

pub placed_append : (bytes numbers : List ℕ) (es : List Entry) (e : Entry) → placed_all bytes numbers (es ++ e ∷ []) ≡ placed_all bytes numbers es ++ placed_in bytes numbers e ∷ []
placed_append bytes numbers [] e = refl
placed_append bytes numbers (f ∷ es) e = ap (λ ps. placed_in bytes numbers f ∷ ps) (placed_append bytes numbers es e)

pub all_append : (bytes numbers : List ℕ) (es : List Entry) (e : Entry) → AllFit bytes numbers es → Fits bytes numbers e.mark → AllFit bytes numbers (es ++ e ∷ [])
all_append bytes numbers [] e h k = (k, tt)
all_append bytes numbers (f ∷ es) e h k = (h.0, all_append bytes numbers es e h.1 k)

rest_is : (k : ℕ) (es : List Entry) → take (length es - k) (drop k es) ≡ drop k es
rest_is k es = take_all (length es - k) (drop k es) (omega (arith, length-drop k es))

pub all_rest : (bytes numbers : List ℕ) (es : List Entry) (k : ℕ) → AllFit bytes numbers es → AllFit bytes numbers (take (length es - k) (drop k es))
all_rest bytes numbers es k h = subst (λ (rest : List Entry). AllFit bytes numbers rest) (sym (rest_is k es)) (all_drop bytes numbers k es h)

pub placed_rest : (bytes numbers : List ℕ) (es : List Entry) (count k : ℕ) → k ≡ min count (length es) → placed_all bytes numbers (take (length es - k) (drop k es)) ≡ drop count (placed_all bytes numbers es)
placed_rest bytes numbers es count k h =
    ap (placed_all bytes numbers) (rest_is k es ∙ ap (λ n. drop n es) h ∙ drop_min count es)
    ∙ placed_drop bytes numbers count es

pub first_is : (bytes numbers : List ℕ) (es : List Entry) (other : Entry) (found : TokenRef) → 1 ≤ length es → seen found ≡ token_in bytes numbers (get_or es 0 other).mark → IsSound found
    → IsFirst (placed_all bytes numbers es) (Some found)
first_is bytes numbers [] other found some is sound = absurd (omega (arith, some))
first_is bytes numbers (e ∷ es) other found some is sound = (placed_in bytes numbers e, refl, is, sound)

-- ---- more bytes and numbers behind

pub part_more : (bytes more : List ℕ) (start len : ℕ) → start + len ≤ length bytes → part (bytes ++ more) start len ≡ part bytes start len
part_more bytes more start len h =
    ap (take len) (drop-append-le start bytes more (omega (arith, h)))
    ∙ take-append-le len (drop start bytes) more (omega (arith, h, length-drop start bytes))

within_more : (bytes more : List ℕ) (k : ℕ) → k ≤ length bytes → k ≤ length (bytes ++ more)
within_more bytes more k h = omega (arith, h, length-append bytes more)

below_more : (bytes more : List ℕ) (k : ℕ) → k < length bytes → k < length (bytes ++ more)
below_more bytes more k h = omega (arith, h, length-append bytes more)

fits_more : (bytes more numbers others : List ℕ) (m : Mark) → Fits bytes numbers m → Fits (bytes ++ more) (numbers ++ others) m
fits_more bytes more numbers others (mark.Word word) h = tt
fits_more bytes more numbers others (mark.Name start len quoted) h = (within_more bytes more (start + len) h.0, ap is_name (part_more bytes more start len h.0) ∙ h.1)
fits_more bytes more numbers others (mark.Small n) h = tt
fits_more bytes more numbers others (mark.Number at) h = below_more numbers others at h
fits_more bytes more numbers others (mark.Text start len) h = within_more bytes more (start + len) h
fits_more bytes more numbers others (mark.Parameter n) h = tt
fits_more bytes more numbers others (mark.Sign sign) h = tt

token_more : (bytes more numbers others : List ℕ) (m : Mark) → Fits bytes numbers m → token_in (bytes ++ more) (numbers ++ others) m ≡ token_in bytes numbers m
token_more bytes more numbers others (mark.Word word) h = refl
token_more bytes more numbers others (mark.Name start len quoted) h = ap (λ (name : List ℕ). t.Name name quoted) (part_more bytes more start len h.0)
token_more bytes more numbers others (mark.Small n) h = refl
token_more bytes more numbers others (mark.Number at) h = ap (λ (n : ℕ). t.Number n) (get_or_append_left numbers others 0 at h)
token_more bytes more numbers others (mark.Text start len) h = ap (λ (text : List ℕ). t.Text text) (part_more bytes more start len h)
token_more bytes more numbers others (mark.Parameter n) h = refl
token_more bytes more numbers others (mark.Sign sign) h = refl

all_more : (bytes more numbers others : List ℕ) (es : List Entry) → AllFit bytes numbers es → AllFit (bytes ++ more) (numbers ++ others) es
all_more bytes more numbers others [] h = tt
all_more bytes more numbers others (e ∷ es) h = (fits_more bytes more numbers others e.mark h.0, all_more bytes more numbers others es h.1)

cons : (p q : Placed) (ps qs : List Placed) → p ≡ q → ps ≡ qs → p ∷ ps ≡ q ∷ qs
cons p q ps qs e f = λ i. e i ∷ f i

placed_more : (bytes more numbers others : List ℕ) (es : List Entry) → AllFit bytes numbers es → placed_all (bytes ++ more) (numbers ++ others) es ≡ placed_all bytes numbers es
placed_more bytes more numbers others [] h = refl
placed_more bytes more numbers others (e ∷ es) h =
    cons _ _ _ _ (ap (λ (token : Token). record { token = token; place = e.place }) (token_more bytes more numbers others e.mark h.0)) (placed_more bytes more numbers others es h.1)

-- ---- the same, where it is known that more stands behind

pub all_kept : (bytes bytes' numbers numbers' : List ℕ) (es : List Entry) → Extends bytes bytes' → Extends numbers numbers' → AllFit bytes numbers es → AllFit bytes' numbers' es
all_kept bytes bytes' numbers numbers' es x y h =
    subst (λ (b : List ℕ). AllFit b numbers' es) (sym x.1) (subst (λ (n : List ℕ). AllFit (bytes ++ x.0) n es) (sym y.1) (all_more bytes x.0 numbers y.0 es h))

pub placed_kept : (bytes bytes' numbers numbers' : List ℕ) (es : List Entry) → Extends bytes bytes' → Extends numbers numbers' → AllFit bytes numbers es → placed_all bytes' numbers' es ≡ placed_all bytes numbers es
placed_kept bytes bytes' numbers numbers' es x y h =
    ap (λ (b : List ℕ). placed_all b numbers' es) x.1 ∙ ap (λ (n : List ℕ). placed_all (bytes ++ x.0) n es) y.1 ∙ placed_more bytes x.0 numbers y.0 es h

-- ---- a token behind the others

pub all_pushed : (bytes bytes' numbers numbers' : List ℕ) (es : List Entry) (e : Entry) → Extends bytes bytes' → Extends numbers numbers' → AllFit bytes numbers es → Fits bytes' numbers' e.mark
    → AllFit bytes' numbers' (es ++ e ∷ [])
all_pushed bytes bytes' numbers numbers' es e x y h k = all_append bytes' numbers' es e (all_kept bytes bytes' numbers numbers' es x y h) k

pub placed_pushed : (bytes bytes' numbers numbers' : List ℕ) (es : List Entry) (e : Entry) (token : Token) → Extends bytes bytes' → Extends numbers numbers' → AllFit bytes numbers es → token_in bytes' numbers' e.mark ≡ token
    → placed_all bytes' numbers' (es ++ e ∷ []) ≡ placed_all bytes numbers es ++ record { token = token; place = e.place } ∷ []
placed_pushed bytes bytes' numbers numbers' es e token x y h k =
    placed_append bytes' numbers' es e
    ∙ ap (λ (ps : List Placed). ps ++ placed_in bytes' numbers' e ∷ []) (placed_kept bytes bytes' numbers numbers' es x y h)
    ∙ ap (λ (found : Token). placed_all bytes numbers es ++ record { token = found; place = e.place } ∷ []) k

-- ---- answers

pub on_err : {A E : Type 0} {P : Type 0} (r : Result A E) → P → OnErr r P
on_err (Ok a) p = tt
on_err (Err e) p = p
