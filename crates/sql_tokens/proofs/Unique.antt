-- The piece at the front of a text is fixed by the text.
use Rattle.std.proofs.Common.{◌≡◌, ℕ, Bool, true, false, List, [], ◌∷◌, ◌++◌, append_assoc, get_or, map, ap, subst, ◌∙◌, refl, sym, arith}
use Rattle.std.specs.Prelude.{Option, Some, None, is_some, ◌||◌}
use Rattle.sql_tokens.specs.declared.class.Class.{Class}
use Rattle.sql_tokens.specs.declared.class.Class.TheVariants as class
use Rattle.sql_tokens.specs.declared.sign.Sign.{Sign}
use Rattle.sql_tokens.specs.declared.token.Token.{Token}
use Rattle.sql_tokens.specs.declared.token.Token.TheVariants as t
use Rattle.sql_tokens.specs.Classes.{class_of, Stops, is_digit, goes_on_word, folded, number_from}
use Rattle.sql_tokens.specs.Signs.{sign_of_one, sign_of_two, joins}
use Rattle.sql_tokens.specs.Comments.{after_comments, not_newline}
use Rattle.sql_tokens.specs.Tokens.{IsPiece, IsQuoted, doubled}
use Rattle.sql_tokens.specs.Steps.{word_token}
use Rattle.sql_tokens.proofs.Quoting.{one_content}
use Rattle.sql_tokens.proofs.Running.{one_run, same_front}
use Rattle.sql_tokens.proofs.Pieces.{Of, IsMark, inverted}

-- both are one
abbrev Same : List ℕ → Option Token → List ℕ → List ℕ → Option Token → List ℕ → Type 0
Same p a r q b s = (p ≡ q) × (a ≡ b) × (r ≡ s)

pub quoted_text : (q : ℕ) (content rest : List ℕ) → (q ∷ doubled q content ++ q ∷ []) ++ rest ≡ q ∷ (doubled q content ++ q ∷ rest)
quoted_text q content rest = ap (λ (xs : List ℕ). q ∷ xs) (append_assoc (doubled q content) (q ∷ []) rest)

pub tail_same : (x y : ℕ) (xs ys : List ℕ) → x ∷ xs ≡ y ∷ ys → xs ≡ ys
tail_same x y xs ys e = cc

pub one_quoted : (q : ℕ) (p a r k b s : List ℕ) → IsQuoted q p a r → IsQuoted q k b s → p ++ r ≡ k ++ s → (a ≡ b) × (r ≡ s)
one_quoted q p a r k b s h m e =
    one_content q a b r s h.ends m.ends (tail_same q q _ _
    (sym (quoted_text q a r) ∙ ap (λ (xs : List ℕ). xs ++ r) (sym h.written) ∙ e ∙ ap (λ (xs : List ℕ). xs ++ s) m.written ∙ quoted_text q b s))

pub head_same : (x y : ℕ) (xs ys : List ℕ) → x ∷ xs ≡ y ∷ ys → x ≡ y
head_same x y xs ys e = cc

-- marks that begin alike are of one kind
pub line_nested : (xs ys : List ℕ) → 45 ∷ xs ≡ 47 ∷ ys → ⊥
line_nested xs ys e = let h = head_same 45 47 xs ys e in omega arith

pub line_one : (c : ℕ) (xs s : List ℕ) → 45 ∷ 45 ∷ xs ≡ c ∷ s → Stops (joins c) s → ⊥
line_one c xs s e alone =
    let no : true ≡ false = subst (λ b. Stops (joins b) (45 ∷ xs)) (sym (head_same 45 c _ _ e)) (subst (Stops (joins c)) (sym (tail_same 45 c _ _ e)) alone) in cc

pub line_two : (c d : ℕ) (xs s : List ℕ) (sign : Sign) → 45 ∷ 45 ∷ xs ≡ c ∷ d ∷ s → sign_of_two c d ≡ Some sign → ⊥
line_two c d xs s sign e h =
    let x = head_same 45 c _ _ e in
    let y = head_same 45 d _ _ (tail_same 45 c _ _ e) in
    let no : None ≡ Some sign = subst (λ b. sign_of_two 45 b ≡ Some sign) (sym y) (subst (λ b. sign_of_two b d ≡ Some sign) (sym x) h) in cc

pub nested_one : (c : ℕ) (xs s : List ℕ) (sign : Sign) → 47 ∷ xs ≡ c ∷ s → sign_of_one c ≡ Some sign → ⊥
nested_one c xs s sign e h = let no : None ≡ Some sign = subst (λ b. sign_of_one b ≡ Some sign) (sym (head_same 47 c _ _ e)) h in cc

pub nested_two : (c d : ℕ) (xs s : List ℕ) (sign : Sign) → 47 ∷ 42 ∷ xs ≡ c ∷ d ∷ s → sign_of_two c d ≡ Some sign → ⊥
nested_two c d xs s sign e h =
    let x = head_same 47 c _ _ e in
    let y = head_same 42 d _ _ (tail_same 47 c _ _ e) in
    let no : None ≡ Some sign = subst (λ b. sign_of_two 47 b ≡ Some sign) (sym y) (subst (λ b. sign_of_two b d ≡ Some sign) (sym x) h) in cc

not_either : (a b : Bool) → (a || b) ≡ false → a ≡ false
not_either true b e = cc
not_either false b e = refl

pub one_two : (c d x : ℕ) (r s : List ℕ) (sign : Sign) → c ∷ r ≡ d ∷ x ∷ s → Stops (joins c) r → sign_of_two d x ≡ Some sign → ⊥
one_two c d x r s sign e alone h =
    let j : joins d x ≡ false = subst (λ b. Stops (joins b) (x ∷ s)) (head_same c d _ _ e) (subst (Stops (joins c)) (tail_same c d _ _ e) alone) in
    let n = not_either (is_some (sign_of_two d x)) _ j in
    let y = ap is_some h in cc

pub some_same : {A : Type 0} (x y : A) → ◌≡◌ {A = Option A} (Some x) (Some y) → x ≡ y
some_same x y e = cc

module _ (p r q s : List ℕ) (a b : Option Token) (e : p ++ r ≡ q ++ s) where
  from_rest : a ≡ b → r ≡ s → Same p a r q b s
  from_rest same rest = (same_front p q r s e rest, same, rest)

  begun : (x y : List ℕ) → p ≡ x → q ≡ y → x ++ r ≡ y ++ s
  begun x y f g = ap (λ (z : List ℕ). z ++ r) (sym f) ∙ e ∙ ap (λ (z : List ℕ). z ++ s) g

  both : IsMark p a r → IsMark q b s → Same p a r q b s
  both (IsMark.line inside f all stops text is) (IsMark.line other g all2 stops2 text2 is2) =
      let h = tail_same 45 45 _ _ (tail_same 45 45 _ _ (begun (45 ∷ 45 ∷ inside) (45 ∷ 45 ∷ other) f g)) in
      let o = one_run not_newline inside other r s all all2 stops stops2 h in
      from_rest (is ∙ sym is2) o.1
  both (IsMark.line inside f all stops text is) (IsMark.nested other g after text2 is2) = absurd (line_nested _ _ (begun (45 ∷ 45 ∷ inside) (47 ∷ 42 ∷ other) f g))
  both (IsMark.line inside f all stops text is) (IsMark.one c sign g found alone is2) = absurd (line_one c _ s (begun (45 ∷ 45 ∷ inside) (c ∷ []) f g) alone)
  both (IsMark.line inside f all stops text is) (IsMark.two c d sign g found is2) = absurd (line_two c d _ s sign (begun (45 ∷ 45 ∷ inside) (c ∷ d ∷ []) f g) found)
  both (IsMark.nested inside f after text is) (IsMark.line other g all stops text2 is2) = absurd (line_nested _ _ (sym (begun (47 ∷ 42 ∷ inside) (45 ∷ 45 ∷ other) f g)))
  both (IsMark.nested inside f after text is) (IsMark.nested other g after2 text2 is2) =
      let h = tail_same 42 42 _ _ (tail_same 47 47 _ _ (begun (47 ∷ 42 ∷ inside) (47 ∷ 42 ∷ other) f g)) in
      from_rest (is ∙ sym is2) (some_same r s (sym after ∙ ap (λ (xs : List ℕ). after_comments xs 1) h ∙ after2))
  both (IsMark.nested inside f after text is) (IsMark.one c sign g found alone is2) = absurd (nested_one c _ s sign (begun (47 ∷ 42 ∷ inside) (c ∷ []) f g) found)
  both (IsMark.nested inside f after text is) (IsMark.two c d sign g found is2) = absurd (nested_two c d _ s sign (begun (47 ∷ 42 ∷ inside) (c ∷ d ∷ []) f g) found)
  both (IsMark.one c sign f found alone is) (IsMark.line inside g all stops text is2) = absurd (line_one c _ r (sym (begun (c ∷ []) (45 ∷ 45 ∷ inside) f g)) alone)
  both (IsMark.one c sign f found alone is) (IsMark.nested inside g after text is2) = absurd (nested_one c _ r sign (sym (begun (c ∷ []) (47 ∷ 42 ∷ inside) f g)) found)
  both (IsMark.one c sign f found alone is) (IsMark.one d other g found2 alone2 is2) =
      let h = begun (c ∷ []) (d ∷ []) f g in
      let same = some_same sign other (sym found ∙ ap sign_of_one (head_same c d r s h) ∙ found2) in
      from_rest (is ∙ ap (λ x. Some (t.Sign x)) same ∙ sym is2) (tail_same c d r s h)
  both (IsMark.one c sign f found alone is) (IsMark.two d x other g found2 is2) = absurd (one_two c d x r s other (begun (c ∷ []) (d ∷ x ∷ []) f g) alone found2)
  both (IsMark.two c x sign f found is) (IsMark.line inside g all stops text is2) = absurd (line_two c x _ r sign (sym (begun (c ∷ x ∷ []) (45 ∷ 45 ∷ inside) f g)) found)
  both (IsMark.two c x sign f found is) (IsMark.nested inside g after text is2) = absurd (nested_two c x _ r sign (sym (begun (c ∷ x ∷ []) (47 ∷ 42 ∷ inside) f g)) found)
  both (IsMark.two c x sign f found is) (IsMark.one d other g found2 alone2 is2) = absurd (one_two d c x s r sign (sym (begun (c ∷ x ∷ []) (d ∷ []) f g)) alone2 found)
  both (IsMark.two c x sign f found is) (IsMark.two d y other g found2 is2) =
      let h = begun (c ∷ x ∷ []) (d ∷ y ∷ []) f g in
      let k = tail_same c d _ _ h in
      let same = some_same sign other (sym found ∙ (λ i. sign_of_two (head_same c d _ _ h i) (head_same x y _ _ k i)) ∙ found2) in
      from_rest (is ∙ ap (λ z. Some (t.Sign z)) same ∙ sym is2) (tail_same x y r s k)

  one_of : (K : Class) → Of K p a r → Of K q b s → Same p a r q b s
  one_of class.Space h m = from_rest (h.2 ∙ sym m.2) (tail_same h.0 m.0 r s (begun (h.0 ∷ []) (m.0 ∷ []) h.1 m.1))
  one_of class.Word h m =
      let o = one_run goes_on_word p q r s h.1.on m.1.on h.1.ends m.1.ends e in
      from_rest (h.2 ∙ ap (λ (name : List ℕ). Some (word_token name)) (h.1.is ∙ ap (map folded) o.0 ∙ sym m.1.is) ∙ sym m.2) o.1
  one_of class.Digit h m =
      let o = one_run is_digit p q r s h.1.on m.1.on h.1.ends m.1.ends e in
      from_rest (h.3 ∙ ap (λ n. Some (t.Number n)) (h.1.is ∙ ap (number_from 0) o.0 ∙ sym m.1.is) ∙ sym m.3) o.1
  one_of class.Name h m =
      let o = one_quoted 34 p h.0 r q m.0 s h.1 m.1 e in
      from_rest (h.4 ∙ ap (λ (name : List ℕ). Some (t.Name name true)) o.0 ∙ sym m.4) o.1
  one_of class.Text h m =
      let o = one_quoted 39 p h.0 r q m.0 s h.1 m.1 e in
      from_rest (h.2 ∙ ap (λ (text : List ℕ). Some (t.Text text)) o.0 ∙ sym m.2) o.1
  one_of class.Parameter h m =
      let x = h.1 in
      let y = m.1 in
      let o = one_run is_digit x.digits y.digits r s x.spells.on y.spells.on x.spells.ends y.spells.ends (tail_same 36 36 _ _ (begun (36 ∷ x.digits) (36 ∷ y.digits) x.written y.written)) in
      from_rest (h.2 ∙ ap (λ n. Some (t.Parameter n)) (x.spells.is ∙ ap (number_from 0) o.0 ∙ sym y.spells.is) ∙ sym m.2) o.1
  one_of class.Mark h m = both h m

-- two pieces at the front of one text are one
pub one_piece : (p r q s : List ℕ) (a b : Option Token) → p ++ r ≡ q ++ s → IsPiece p a r → IsPiece q b s → Same p a r q b s
one_piece p r q s a b e h m = one_of p r q s a b e (class_of (get_or (p ++ r) 0 0)) (inverted (p ++ r) p r a refl h) (inverted (p ++ r) q s b e m)
