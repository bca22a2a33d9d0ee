-- One token is found exactly where it is what is looked for.
use Rattle.std.proofs.Common.{◌≡◌, ℕ, ◌<◌, Bool, true, false, List, [], ◌∷◌, refl, sym, ap, ◌∙◌, subst}
use Rattle.std.specs.Prelude.{◌==◌, ◌^◌, nat_lt, if◌then◌else◌, Some, None}
use Rattle.std.proofs.lemmas.Bool.{ltb-true, lt-ltb, eqb-true, eq-eqb}
use Rattle.std.proofs.Math.Bridge.{le_prop}
use Rattle.sql_tokens.specs.declared.keyword.Keyword.{Keyword}
use Rattle.sql_tokens.specs.declared.keyword.Keyword.TheVariants as word
use Rattle.sql_tokens.specs.declared.sign.Sign.{Sign}
use Rattle.sql_tokens.specs.declared.sign.Sign.TheVariants as sign
use Rattle.sql_tokens.specs.declared.token.Token.{Token}
use Rattle.sql_tokens.specs.declared.token.Token.TheVariants as t
use Rattle.sql_tree.specs.declared.condition.Op.{Op}
use Rattle.sql_tree.specs.declared.condition.Op.TheVariants as op
use Rattle.sql_tree.specs.Parts.{Spelled, op_token}
use Rattle.sql_tree.specs.Grammar.{Bound}
use Rattle.sql_readers.specs.Readers.{one}
use Rattle.sql_readers.specs.Looks.{word_number, sign_number, look_word, look_sign, look_name, look_text, look_number, look_parameter, look_exactly, bound_if, look_bound, look_op}
use Rattle.sql_derivations.proofs.Exactly.{At, one_at}

abbrev nth_word : ℕ → Keyword
nth_word n = if n == 0 then word.Select else (if n == 1 then word.From else (if n == 2 then word.Where else (if n == 3 then word.And else (if n == 4 then word.Or else (if n == 5 then word.Not else (if n == 6 then word.In else (if n == 7 then word.Is else (if n == 8 then word.Null else (if n == 9 then word.Order else (if n == 10 then word.By else (if n == 11 then word.Asc else (if n == 12 then word.Desc else (if n == 13 then word.Limit else (if n == 14 then word.Offset else (if n == 15 then word.Insert else (if n == 16 then word.Into else (if n == 17 then word.Values else (if n == 18 then word.Update else (if n == 19 then word.Set else (if n == 20 then word.Delete else (if n == 21 then word.As else (word.To))))))))))))))))))))))

nth_word_back : (x : Keyword) → nth_word (word_number x) ≡ x
nth_word_back word.Select = refl
nth_word_back word.From = refl
nth_word_back word.Where = refl
nth_word_back word.And = refl
nth_word_back word.Or = refl
nth_word_back word.Not = refl
nth_word_back word.In = refl
nth_word_back word.Is = refl
nth_word_back word.Null = refl
nth_word_back word.Order = refl
nth_word_back word.By = refl
nth_word_back word.Asc = refl
nth_word_back word.Desc = refl
nth_word_back word.Limit = refl
nth_word_back word.Offset = refl
nth_word_back word.Insert = refl
nth_word_back word.Into = refl
nth_word_back word.Values = refl
nth_word_back word.Update = refl
nth_word_back word.Set = refl
nth_word_back word.Delete = refl
nth_word_back word.As = refl
nth_word_back word.To = refl

nth_word_same : (x y : Keyword) → (word_number x == word_number y) ≡ true → x ≡ y
nth_word_same x y e = sym (nth_word_back x) ∙ ap nth_word (eqb-true (word_number x) (word_number y) e) ∙ nth_word_back y

nth_word_self : (x : Keyword) → (word_number x == word_number x) ≡ true
nth_word_self x = eq-eqb (word_number x) (word_number x) refl

abbrev nth_sign : ℕ → Sign
nth_sign n = if n == 0 then sign.Open else (if n == 1 then sign.Close else (if n == 2 then sign.Comma else (if n == 3 then sign.Semicolon else (if n == 4 then sign.Dot else (if n == 5 then sign.Star else (if n == 6 then sign.Equal else (if n == 7 then sign.NotEqual else (if n == 8 then sign.Less else (if n == 9 then sign.AtMost else (if n == 10 then sign.Greater else (if n == 11 then sign.AtLeast else (if n == 12 then sign.Plus else (sign.Minus)))))))))))))

nth_sign_back : (x : Sign) → nth_sign (sign_number x) ≡ x
nth_sign_back sign.Open = refl
nth_sign_back sign.Close = refl
nth_sign_back sign.Comma = refl
nth_sign_back sign.Semicolon = refl
nth_sign_back sign.Dot = refl
nth_sign_back sign.Star = refl
nth_sign_back sign.Equal = refl
nth_sign_back sign.NotEqual = refl
nth_sign_back sign.Less = refl
nth_sign_back sign.AtMost = refl
nth_sign_back sign.Greater = refl
nth_sign_back sign.AtLeast = refl
nth_sign_back sign.Plus = refl
nth_sign_back sign.Minus = refl

nth_sign_same : (x y : Sign) → (sign_number x == sign_number y) ≡ true → x ≡ y
nth_sign_same x y e = sym (nth_sign_back x) ∙ ap nth_sign (eqb-true (sign_number x) (sign_number y) e) ∙ nth_sign_back y

nth_sign_self : (x : Sign) → (sign_number x == sign_number x) ≡ true
nth_sign_self x = eq-eqb (sign_number x) (sign_number x) refl

if_some : {A : Type 0} (b : Bool) (x y : A) → (if b then Some x else None) ≡ Some y → b ≡ true
if_some true x y e = refl
if_some false x y e = cc

pub look_word_finds : (w : Keyword) (u : Unit {0}) → look_word w (t.Word w) ≡ Some u
look_word_finds w tt = ap (λ b. if b then Some tt else None) (nth_word_self w)

look_word_only : (w : Keyword) (token : Token) (u : Unit {0}) → look_word w token ≡ Some u → token ≡ t.Word w
look_word_only w (t.Word v) u e = ap t.Word (nth_word_same v w (if_some (word_number v == word_number w) tt u e))
look_word_only w (t.Name n q) u e = cc
look_word_only w (t.Number n) u e = cc
look_word_only w (t.Text s) u e = cc
look_word_only w (t.Parameter n) u e = cc
look_word_only w (t.Sign s) u e = cc

pub look_sign_finds : (s : Sign) (u : Unit {0}) → look_sign s (t.Sign s) ≡ Some u
look_sign_finds s tt = ap (λ b. if b then Some tt else None) (nth_sign_self s)

pub look_sign_only : (s : Sign) (token : Token) (u : Unit {0}) → look_sign s token ≡ Some u → token ≡ t.Sign s
look_sign_only s (t.Sign v) u e = ap t.Sign (nth_sign_same v s (if_some (sign_number v == sign_number s) tt u e))
look_sign_only w (t.Word v) u e = cc
look_sign_only w (t.Name n q) u e = cc
look_sign_only w (t.Number n) u e = cc
look_sign_only w (t.Text s) u e = cc
look_sign_only w (t.Parameter n) u e = cc

look_name_only : (token : Token) (s : Spelled) → look_name token ≡ Some s → token ≡ t.Name s.name s.quoted
look_name_only (t.Name n q) s e = let same : ◌≡◌ {A = Spelled} (record { name = n; quoted = q }) s = cc in ap (λ (x : Spelled). t.Name x.name x.quoted) same
look_name_only (t.Word v) s e = cc
look_name_only (t.Number n) s e = cc
look_name_only (t.Text x) s e = cc
look_name_only (t.Parameter n) s e = cc
look_name_only (t.Sign x) s e = cc

look_text_only : (token : Token) (s : List ℕ) → look_text token ≡ Some s → token ≡ t.Text s
look_text_only (t.Text x) s e = let same : x ≡ s = cc in ap t.Text same
look_text_only (t.Word v) s e = cc
look_text_only (t.Name n q) s e = cc
look_text_only (t.Number n) s e = cc
look_text_only (t.Parameter n) s e = cc
look_text_only (t.Sign x) s e = cc

look_number_only : (token : Token) (k : ℕ) → look_number token ≡ Some k → token ≡ t.Number k
look_number_only (t.Number n) k e = let same : n ≡ k = cc in ap t.Number same
look_number_only (t.Word v) k e = cc
look_number_only (t.Name n q) k e = cc
look_number_only (t.Text x) k e = cc
look_number_only (t.Parameter n) k e = cc
look_number_only (t.Sign x) k e = cc

look_parameter_only : (token : Token) (k : ℕ) → look_parameter token ≡ Some k → token ≡ t.Parameter k
look_parameter_only (t.Parameter n) k e = let same : n ≡ k = cc in ap t.Parameter same
look_parameter_only (t.Word v) k e = cc
look_parameter_only (t.Name n q) k e = cc
look_parameter_only (t.Number n) k e = cc
look_parameter_only (t.Text x) k e = cc
look_parameter_only (t.Sign x) k e = cc

look_exactly_finds : (k : ℕ) (u : Unit {0}) → look_exactly k (t.Number k) ≡ Some u
look_exactly_finds k tt = ap (λ b. if b then Some tt else None) (eq-eqb k k refl)

look_exactly_only : (k : ℕ) (token : Token) (u : Unit {0}) → look_exactly k token ≡ Some u → token ≡ t.Number k
look_exactly_only k (t.Number n) u e = ap t.Number (eqb-true n k (if_some (n == k) tt u e))
look_exactly_only k (t.Word v) u e = cc
look_exactly_only k (t.Name n q) u e = cc
look_exactly_only k (t.Text x) u e = cc
look_exactly_only k (t.Parameter n) u e = cc
look_exactly_only k (t.Sign x) u e = cc

bound_same : (a b : ℕ) (e : a ≡ b) (p : a < 2 ^ 63) (q : b < 2 ^ 63) → ◌≡◌ {A = Bound} (record { number = a; below = p }) (record { number = b; below = q })
bound_same a b e = subst (λ z. (p : a < 2 ^ 63) (q : z < 2 ^ 63) → ◌≡◌ {A = Bound} (record { number = a; below = p }) (record { number = z; below = q })) e
    (λ p q. ap (λ r. record { number = a; below = r }) (le_prop p q))

bound_is : (n : ℕ) (b : Bool) (e : nat_lt n (2 ^ 63) ≡ b) (x : Bound) → n ≡ x.number → bound_if n b e ≡ Some x
bound_is n true e x same = ap Some (bound_same n x.number same (ltb-true n (2 ^ 63) e) x.below)
bound_is n false e x same = absurd (let y = lt-ltb x.number (2 ^ 63) x.below in let z = ap (λ w. nat_lt w (2 ^ 63)) same in cc)

bound_only : (n : ℕ) (b : Bool) (e : nat_lt n (2 ^ 63) ≡ b) (x : Bound) → bound_if n b e ≡ Some x → n ≡ x.number
bound_only n true e x f = let same : ◌≡◌ {A = Bound} (record { number = n; below = ltb-true n (2 ^ 63) e }) x = cc in ap (λ (w : Bound). w.number) same
bound_only n false e x f = cc

look_bound_only : (token : Token) (x : Bound) → look_bound token ≡ Some x → token ≡ t.Number x.number
look_bound_only (t.Number n) x e = ap t.Number (bound_only n (nat_lt n (2 ^ 63)) refl x e)
look_bound_only (t.Word v) x e = cc
look_bound_only (t.Name n q) x e = cc
look_bound_only (t.Text s) x e = cc
look_bound_only (t.Parameter n) x e = cc
look_bound_only (t.Sign s) x e = cc

pub look_op_finds : (o : Op) → look_op (op_token o) ≡ Some o
look_op_finds op.Eq = refl
look_op_finds op.Ne = refl
look_op_finds op.Lt = refl
look_op_finds op.Le = refl
look_op_finds op.Gt = refl
look_op_finds op.Ge = refl

look_op_only : (token : Token) (o : Op) → look_op token ≡ Some o → token ≡ op_token o
look_op_only (t.Sign sign.Equal) o e = let same : op.Eq ≡ o = cc in ap op_token same
look_op_only (t.Sign sign.NotEqual) o e = let same : op.Ne ≡ o = cc in ap op_token same
look_op_only (t.Sign sign.Less) o e = let same : op.Lt ≡ o = cc in ap op_token same
look_op_only (t.Sign sign.AtMost) o e = let same : op.Le ≡ o = cc in ap op_token same
look_op_only (t.Sign sign.Greater) o e = let same : op.Gt ≡ o = cc in ap op_token same
look_op_only (t.Sign sign.AtLeast) o e = let same : op.Ge ≡ o = cc in ap op_token same
look_op_only (t.Sign sign.Open) o e = cc
look_op_only (t.Sign sign.Close) o e = cc
look_op_only (t.Sign sign.Comma) o e = cc
look_op_only (t.Sign sign.Semicolon) o e = cc
look_op_only (t.Sign sign.Dot) o e = cc
look_op_only (t.Sign sign.Star) o e = cc
look_op_only (t.Sign sign.Plus) o e = cc
look_op_only (t.Sign sign.Minus) o e = cc
look_op_only (t.Word v) o e = cc
look_op_only (t.Name n q) o e = cc
look_op_only (t.Number n) o e = cc
look_op_only (t.Text s) o e = cc
look_op_only (t.Parameter n) o e = cc

-- ---- readers of one token

abbrev pub Free : List Token → Type 0
Free _ = Unit {0}

module _ (n l : ℕ) where
  pub word_at : (w : Keyword) → At (one (look_word w)) (λ u. t.Word w ∷ []) Free n l
  word_at w = one_at (look_word w) (λ u. t.Word w) (look_word_finds w) (look_word_only w) tt n l

  pub sign_at : (s : Sign) → At (one (look_sign s)) (λ u. t.Sign s ∷ []) Free n l
  sign_at s = one_at (look_sign s) (λ u. t.Sign s) (look_sign_finds s) (look_sign_only s) tt n l

  pub name_at : At (one look_name) (λ (s : Spelled). t.Name s.name s.quoted ∷ []) Free n l
  name_at = one_at look_name (λ (s : Spelled). t.Name s.name s.quoted) (λ s. refl) look_name_only (record { name = []; quoted = true }) n l

  pub text_at : At (one look_text) (λ s. t.Text s ∷ []) Free n l
  text_at = one_at look_text t.Text (λ s. refl) look_text_only [] n l

  pub number_at : At (one look_number) (λ k. t.Number k ∷ []) Free n l
  number_at = one_at look_number t.Number (λ s. refl) look_number_only 0 n l

  pub parameter_at : At (one look_parameter) (λ k. t.Parameter k ∷ []) Free n l
  parameter_at = one_at look_parameter t.Parameter (λ s. refl) look_parameter_only 1 n l

  pub exactly_at : (k : ℕ) → At (one (look_exactly k)) (λ u. t.Number k ∷ []) Free n l
  exactly_at k = one_at (look_exactly k) (λ u. t.Number k) (look_exactly_finds k) (look_exactly_only k) tt n l

  pub bound_at : At (one look_bound) (λ (x : Bound). t.Number x.number ∷ []) Free n l
  bound_at = one_at look_bound (λ (x : Bound). t.Number x.number) (λ x. bound_is x.number (nat_lt x.number (2 ^ 63)) refl x refl) look_bound_only (record { number = 0; below = ltb-true 0 (2 ^ 63) refl }) n l

  pub op_at : At (one look_op) (λ o. op_token o ∷ []) Free n l
  op_at = one_at look_op op_token look_op_finds look_op_only op.Eq n l
