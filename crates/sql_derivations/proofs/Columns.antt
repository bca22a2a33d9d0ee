-- Columns, values and the left sides of tests.
use Rattle.std.proofs.Common.{◌≡◌, ℕ, ◌≤◌, Bool, true, false, List, [], ◌∷◌, ◌++◌, refl, sym, ap, ◌⊎◌, inl, inr, append_assoc}
use Rattle.std.specs.Prelude.{◌||◌, codes, Option, Some, None, is_some}
use Rattle.sql_tokens.specs.declared.keyword.Keyword.TheVariants as word
use Rattle.sql_tokens.specs.declared.sign.Sign.TheVariants as sign
use Rattle.sql_tokens.specs.declared.token.Token.{Token}
use Rattle.sql_tokens.specs.declared.token.Token.TheVariants as t
use Rattle.sql_tree.specs.Parts as parts
use Rattle.sql_tree.specs.Parts.{optional, Spelled, name_tokens, Column, column_tokens, Value, value_tokens, Left, left_tokens}
use Rattle.sql_tree.specs.Grammar.{Some1, row_tokens}
use Rattle.sql_readers.specs.Readers.{begins, both}
use Rattle.sql_readers.specs.Looks.{look_text, look_number, is_sign, is_word}
use Rattle.sql_readers.specs.Productions.{name, text, number, parameter, column_rest, column_of, column, value_of, value, values, substr_rest, left_of, left}
use Rattle.sql_derivations.proofs.Exactly.{At, seen_at}
use Rattle.sql_derivations.proofs.Looked.{Free, word_at, sign_at, name_at, text_at, number_at, parameter_at, exactly_at}
use Rattle.sql_derivations.proofs.Sequences.{Apart, or_free, choice, apart_first, apart_second, ends_as, tokens_as, each, chain, behind_sign, option_at, in_parens_at, listed_at}
use Rattle.sql_derivations.proofs.Led.{led_at, call_only}

pub s0 : Spelled
s0 = record { name = []; quoted = true }

abbrev pub is_dot : Token → Bool
is_dot x = is_sign sign.Dot x

-- what goes on a column, or a left side
abbrev pub goes_on : Token → Bool
goes_on x = is_dot x || is_sign sign.Open x

abbrev pub rest_tokens : Option Spelled → List Token
rest_tokens o = optional (λ s. t.Sign sign.Dot ∷ name_tokens s) o

module _ (n l : ℕ) where
  pub column_rest_at : At column_rest rest_tokens (Apart is_dot) n l
  unfolding column_rest
  column_rest_at = ends_as (λ rest e. (tt, e)) (option_at (behind_sign (name_at n l) s0 sign.Dot) is_dot (λ a rest. refl))

  abbrev pub parts_by : Option Spelled → Spelled → Spelled × Option Spelled
  parts_by None c = (c, None)
  parts_by (Some q) c = (q, Some c)

  pub parts_back : (q : Option Spelled) (c : Spelled) → column_of (parts_by q c) ≡ record { qualifier = q; column = c }
  parts_back None c = refl
  parts_back (Some q) c = refl

  pub column_written : (s : Spelled) (o : Option Spelled) → column_tokens (column_of (s, o)) ≡ name_tokens s ++ rest_tokens o
  column_written s None = refl
  column_written s (Some n) = refl

  pub column_at : At column column_tokens (Apart is_dot) n l
  unfolding column
  column_at =
      seen_at column_of (λ (c : Column). parts_by c.qualifier c.column) (both name column_rest) (λ x. name_tokens x.0 ++ rest_tokens x.1) column_tokens (Apart is_dot) n l
      (chain (name_at n l) column_rest_at None (λ b rest ends. tt)) (λ (c : Column). parts_back c.qualifier c.column) (λ x. column_written x.0 x.1)

-- ---- values

abbrev Signed : Type 0
Signed = (Unit {0} × ℕ) ⊎ ((Unit {0} × ℕ) ⊎ (Unit {0} ⊎ ℕ))

abbrev value_parts : Value → List ℕ ⊎ (ℕ ⊎ Signed)
value_parts (parts.text s) = inl s
value_parts (parts.number n) = inr (inl n)
value_parts (parts.plus n) = inr (inr (inl (tt, n)))
value_parts (parts.minus n) = inr (inr (inr (inl (tt, n))))
value_parts parts.null = inr (inr (inr (inr (inl tt))))
value_parts (parts.parameter n) = inr (inr (inr (inr (inr n))))

value_back : (v : Value) → value_of (value_parts v) ≡ v
value_back (parts.text s) = refl
value_back (parts.number n) = refl
value_back (parts.plus n) = refl
value_back (parts.minus n) = refl
value_back parts.null = refl
value_back (parts.parameter n) = refl

abbrev signed_tokens : Signed → List Token
signed_tokens (inl x) = t.Sign sign.Plus ∷ t.Number x.1 ∷ []
signed_tokens (inr (inl x)) = t.Sign sign.Minus ∷ t.Number x.1 ∷ []
signed_tokens (inr (inr (inl x))) = t.Word word.Null ∷ []
signed_tokens (inr (inr (inr n))) = t.Parameter n ∷ []

value_written : (x : List ℕ ⊎ (ℕ ⊎ Signed)) → value_tokens (value_of x) ≡ choice (λ s. t.Text s ∷ []) (choice (λ n. t.Number n ∷ []) signed_tokens) x
value_written (inl s) = refl
value_written (inr (inl n)) = refl
value_written (inr (inr (inl x))) = refl
value_written (inr (inr (inr (inl x)))) = refl
value_written (inr (inr (inr (inr (inl x))))) = refl
value_written (inr (inr (inr (inr (inr n))))) = refl

pub v0 : Some1 Value
v0 = record { first = parts.null; more = [] }

module _ (n l : ℕ) where
  pub value_at : At value value_tokens Free n l
  unfolding value
  value_at =
      seen_at value_of value_parts _ _ value_tokens Free n l
      (or_free (λ x. is_some (look_text x)) (text_at n l)
      (or_free (λ x. is_some (look_number x)) (number_at n l)
      (or_free (is_sign sign.Plus) (chain (sign_at n l sign.Plus) (number_at n l) 0 (λ b rest ends. tt))
      (or_free (is_sign sign.Minus) (chain (sign_at n l sign.Minus) (number_at n l) 0 (λ b rest ends. tt))
      (or_free (is_word word.Null) (word_at n l word.Null) (parameter_at n l) (λ a rest. refl) (λ b rest. refl)) (λ a rest. refl)
      (each _ _ _ (λ a rest. refl) (λ b rest. refl))) (λ a rest. refl)
      (each _ _ _ (λ a rest. refl) (each _ _ _ (λ a rest. refl) (λ b rest. refl)))) (λ a rest. refl)
      (each _ _ _ (λ a rest. refl) (each _ _ _ (λ a rest. refl) (each _ _ _ (λ a rest. refl) (λ b rest. refl))))) (λ a rest. refl)
      (each _ _ _ (λ a rest. refl) (each _ _ _ (λ a rest. refl) (each _ _ _ (λ a rest. refl) (each _ _ _ (λ a rest. refl) (λ b rest. refl))))))
      value_back value_written

  pub values_at : l ≤ n → At values row_tokens Free n l
  unfolding values
  values_at low = in_parens_at (listed_at value_at low parts.null (λ rest. tt)) v0 (λ rest. (tt, refl))

-- ---- left sides

pub c0 : Column
c0 = record { qualifier = None; column = s0 }

abbrev pub substr_tokens : Column → List Token
substr_tokens c = t.Sign sign.Open ∷ (column_tokens c ++ t.Sign sign.Comma ∷ t.Number 1 ∷ t.Sign sign.Comma ∷ t.Number 33 ∷ t.Sign sign.Close ∷ [])

module _ (n l : ℕ) where
  pub substr_rest_at : At substr_rest substr_tokens Free n l
  unfolding substr_rest
  substr_rest_at =
      tokens_as substr_tokens (λ c. ap (λ w. t.Sign sign.Open ∷ w) (sym (append_assoc (column_tokens c) (t.Sign sign.Comma ∷ t.Number 1 ∷ t.Sign sign.Comma ∷ t.Number 33 ∷ []) (t.Sign sign.Close ∷ []))))
      (in_parens_at
      (seen_at (λ x. x.0) (λ c. (c, (tt, (tt, (tt, tt))))) _ _ (λ c. column_tokens c ++ t.Sign sign.Comma ∷ t.Number 1 ∷ t.Sign sign.Comma ∷ t.Number 33 ∷ []) Free n l
      (chain (column_at n l)
      (chain (sign_at n l sign.Comma) (chain (exactly_at n l 1) (chain (sign_at n l sign.Comma) (exactly_at n l 33) tt (λ b rest ends. tt)) (tt, tt) (λ b rest ends. tt)) (tt, (tt, tt)) (λ b rest ends. tt))
      (tt, (tt, (tt, tt))) (λ b rest ends. refl))
      (λ b. refl) (λ a. refl))
      c0 (λ rest. tt))

  abbrev left_parts : Left → Column ⊎ (Spelled × Option Spelled)
  left_parts (parts.substr c) = inl c
  left_parts (parts.column c) = inr (parts_by n l c.qualifier c.column)

  left_back : (x : Left) → left_of (left_parts x) ≡ x
  left_back (parts.substr c) = refl
  left_back (parts.column c) = ap parts.column (parts_back n l c.qualifier c.column)

  left_written : (x : Column ⊎ (Spelled × Option Spelled)) → left_tokens (left_of x) ≡ choice (λ c. t.Name (codes "substr") false ∷ substr_tokens c) (λ x. name_tokens x.0 ++ rest_tokens x.1) x
  left_written (inl c) = refl
  left_written (inr x) = column_written n l x.0 x.1

  rest_shut : (o : Option Spelled) (rest : List Token) → Apart goes_on rest → begins (is_sign sign.Open) (rest_tokens o ++ rest) ≡ false
  rest_shut None rest e = apart_second is_dot (is_sign sign.Open) rest e
  rest_shut (Some s) rest e = refl

  pub left_at : At left left_tokens (Apart goes_on) n l
  unfolding left
  left_at =
      seen_at left_of left_parts _ _ left_tokens (Apart goes_on) n l
      (ends_as (λ rest e. (tt, e))
      (tokens_as _ (elim [ inl c ↦ refl | inr x ↦ refl ])
      (led_at (codes "substr") substr_rest column_rest substr_tokens rest_tokens Free (Apart goes_on) n l substr_rest_at (ends_as (λ rest e. apart_first is_dot (is_sign sign.Open) rest e) (column_rest_at n l)) None
      refl (call_only (codes "substr")) (λ a rest. refl) rest_shut)))
      left_back left_written
