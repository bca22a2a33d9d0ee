-- The tests of a condition.
use Rattle.std.proofs.Common.{◌≡◌, ℕ, ◌≤◌, Bool, true, false, List, [], ◌∷◌, ◌++◌, refl, ap, ◌∙◌, ◌⊎◌, inl, inr, append_assoc}
use Rattle.std.specs.Prelude.{codes, Option, Some, None, is_some, Ok, Err, if◌then◌else◌}
use Rattle.sql_tokens.specs.declared.keyword.Keyword.{Keyword}
use Rattle.sql_tokens.specs.declared.keyword.Keyword.TheVariants as word
use Rattle.sql_tokens.specs.declared.sign.Sign.TheVariants as sign
use Rattle.sql_tokens.specs.declared.token.Token.{Token}
use Rattle.sql_tokens.specs.declared.token.Token.TheVariants as t
use Rattle.sql_tree.specs.declared.condition.Op.{Op}
use Rattle.sql_tree.specs.declared.condition.Op.TheVariants as op
use Rattle.sql_tree.specs.Parts as parts
use Rattle.sql_tree.specs.Parts.{optional, Spelled, name_tokens, Column, column_tokens, Value, value_tokens, Left, left_tokens, op_token}
use Rattle.sql_tree.specs.Conditions as conditions
use Rattle.sql_tree.specs.Conditions.{Side, side_tokens, Test, test_tokens, not_tokens}
use Rattle.sql_tree.specs.Grammar.{Some1, row_tokens}
use Rattle.sql_readers.specs.Readers.{Reader, Read, after, begins, both, either, seen_as}
use Rattle.sql_readers.specs.Looks.{is_sign, is_word, is_name, is_op}
use Rattle.sql_readers.specs.Productions as productions
use Rattle.sql_readers.specs.Productions.{column_rest, column_of, value, left, substr_rest, side_of, side, bool_of, negated, tail, column_tail, tailed, column_tailed, led_of, led_test, flipped_test, test}
use Rattle.sql_derivations.proofs.Exactly.{At, seen_at}
use Rattle.sql_derivations.proofs.Looked.{Free, word_at, op_at, look_op_finds}
use Rattle.sql_derivations.proofs.Sequences.{Apart, or_at, choice, apart_first, apart_second, ends_as, same_at, tokens_as, chain, behind_word, option_at}
use Rattle.sql_derivations.proofs.Columns.{c0, v0, is_dot, goes_on, rest_tokens, substr_tokens, column_rest_at, column_written, parts_by, parts_back, value_at, values_at, substr_rest_at, left_at}
use Rattle.sql_derivations.proofs.Led.{led_at, call_only}

-- ---- first tokens

column_named : (q : Option Spelled) (c : Spelled) (rest : List Token) → begins is_name ((optional (λ q. name_tokens q ++ t.Sign sign.Dot ∷ []) q ++ name_tokens c) ++ rest) ≡ true
column_named None c rest = refl
column_named (Some q) c rest = refl

pub left_named : (x : Left) (rest : List Token) → begins is_name (left_tokens x ++ rest) ≡ true
left_named (parts.column c) rest = column_named c.qualifier c.column rest
left_named (parts.substr c) rest = refl

pub value_unnamed : (v : Value) (rest : List Token) → begins is_name (value_tokens v ++ rest) ≡ false
value_unnamed (parts.text s) rest = refl
value_unnamed (parts.number n) rest = refl
value_unnamed (parts.plus n) rest = refl
value_unnamed (parts.minus n) rest = refl
value_unnamed parts.null rest = refl
value_unnamed (parts.parameter n) rest = refl

op_no_word : (w : Keyword) (o : Op) → is_word w (op_token o) ≡ false
op_no_word w op.Eq = refl
op_no_word w op.Ne = refl
op_no_word w op.Lt = refl
op_no_word w op.Le = refl
op_no_word w op.Gt = refl
op_no_word w op.Ge = refl

op_goes_on : (o : Op) → goes_on (op_token o) ≡ false
op_goes_on op.Eq = refl
op_goes_on op.Ne = refl
op_goes_on op.Lt = refl
op_goes_on op.Le = refl
op_goes_on op.Gt = refl
op_goes_on op.Ge = refl

l0 : Left
l0 = parts.column c0

-- ---- what stands behind a column

abbrev pub Tail : Type 0
Tail = (Op × Side) ⊎ (Bool × Some1 Value)

abbrev pub compared_tokens : Op × Side → List Token
compared_tokens x = op_token x.0 ∷ side_tokens x.1

abbrev pub within_tokens : Bool × Some1 Value → List Token
within_tokens x = not_tokens x.0 ++ t.Word word.In ∷ row_tokens x.1

abbrev pub tail_tokens : Tail → List Token
tail_tokens = choice compared_tokens within_tokens

abbrev pub null_tokens : Bool → List Token
null_tokens b = t.Word word.Is ∷ (not_tokens b ++ t.Word word.Null ∷ [])

abbrev pub column_tail_tokens : Bool ⊎ Tail → List Token
column_tail_tokens = choice null_tokens tail_tokens

within_first : (p : Token → Bool) (x : Bool × Some1 Value) (rest : List Token) → p (t.Word word.Not) ≡ false → p (t.Word word.In) ≡ false → begins p (within_tokens x ++ rest) ≡ false
within_first p (true, vs) rest e f = e
within_first p (false, vs) rest e f = f

tail_goes_on : (x : Bool ⊎ Tail) (rest : List Token) → Apart goes_on (column_tail_tokens x ++ rest)
tail_goes_on (inl b) rest = refl
tail_goes_on (inr (inl x)) rest = op_goes_on x.0
tail_goes_on (inr (inr x)) rest = within_first goes_on x rest refl refl

abbrev not_parts : Bool → Option (Unit {0})
not_parts true = Some tt
not_parts false = None

module _ (n l : ℕ) where
  side_at : At side side_tokens (Apart goes_on) n l
  unfolding side
  side_at =
      seen_at side_of (elim [ conditions.left x ↦ inl x | conditions.value v ↦ inr v ]) _ _ side_tokens (Apart goes_on) n l
      (ends_as (λ rest e. (e, tt)) (or_at is_name (left_at n l) (value_at n l) left_named (λ b rest e. value_unnamed b rest)))
      (elim [ conditions.left x ↦ refl | conditions.value v ↦ refl ]) (elim [ inl x ↦ refl | inr v ↦ refl ])

  negated_at : At negated not_tokens (Apart (is_word word.Not)) n l
  unfolding negated
  negated_at =
      seen_at bool_of not_parts _ _ not_tokens (Apart (is_word word.Not)) n l
      (ends_as (λ rest e. (tt, e)) (option_at (word_at n l word.Not) (is_word word.Not) (λ a rest. refl)))
      (elim [ true ↦ refl | false ↦ refl ]) (elim [ None ↦ refl | Some u ↦ refl ])

  tail_at : l ≤ n → At tail tail_tokens (Apart goes_on) n l
  unfolding tail
  tail_at low =
      ends_as (λ rest e. (e, tt))
      (or_at is_op (chain (op_at n l) (side_at) (conditions.left l0) (λ b rest ends. tt)) (chain negated_at (behind_word (values_at n l low) v0 word.In) v0 (λ b rest ends. refl))
      (λ a rest. ap is_some (look_op_finds a.0)) (λ b rest ends. within_first is_op b rest refl refl))

  column_tail_at : l ≤ n → At column_tail column_tail_tokens (Apart goes_on) n l
  unfolding column_tail
  column_tail_at low =
      ends_as (λ rest e. (tt, e))
      (or_at (is_word word.Is)
      (behind_word (seen_at (λ x. x.0) (λ b. (b, tt)) _ _ (λ b. not_tokens b ++ t.Word word.Null ∷ []) Free n l (chain negated_at (word_at n l word.Null) tt (λ b rest ends. refl)) (λ b. refl) (λ a. refl)) false word.Is)
      (tail_at low) (λ a rest. refl)
      (elim [ inl x ↦ λ rest ends. op_no_word word.Is x.0 | inr x ↦ λ rest ends. within_first (is_word word.Is) x rest refl refl ]))

-- ---- a whole test

abbrev Led : Type 0
Led = (Column × Tail) ⊎ (Spelled × (Option Spelled × (Bool ⊎ Tail)))

abbrev Flipped : Type 0
Flipped = Value × (Op × Left)

abbrev flipped_of : Flipped → Test
flipped_of x = conditions.flipped x.0 x.1.0 x.1.1

abbrev any_of : Led ⊎ Flipped → Test
any_of = choice led_of flipped_of

-- by the column of a left side
abbrev led_by : Left → Tail → Led
led_by (parts.substr c) x = inl (c, x)
led_by (parts.column c) x = let s = parts_by 0 0 c.qualifier c.column in inr (s.0, (s.1, inr x))

abbrev test_parts : Test → Led ⊎ Flipped
test_parts (conditions.compare l o s) = inl (led_by l (inl (o, s)))
test_parts (conditions.flipped v o l) = inr (v, (o, l))
test_parts (conditions.within l b v more) = inl (led_by l (inr (b, record { first = v; more = more })))
test_parts (conditions.null c b) = let s = parts_by 0 0 c.qualifier c.column in inl (inr (s.0, (s.1, inl b)))

led_back : (l : Left) (x : Tail) → led_of (led_by l x) ≡ tailed l x
led_back (parts.substr c) x = refl
led_back (parts.column c) x = ap (λ c. tailed (parts.column c) x) (parts_back 0 0 c.qualifier c.column)

test_back : (x : Test) → any_of (test_parts x) ≡ x
test_back (conditions.compare l o s) = led_back l (inl (o, s))
test_back (conditions.flipped v o l) = refl
test_back (conditions.within l b v more) = led_back l (inr (b, record { first = v; more = more }))
test_back (conditions.null c b) = ap (λ c. conditions.null c b) (parts_back 0 0 c.qualifier c.column)

abbrev led_tokens : Led → List Token
led_tokens = choice (λ x. t.Name (codes "substr") false ∷ (substr_tokens x.0 ++ tail_tokens x.1)) (λ x. t.Name x.0.name x.0.quoted ∷ (rest_tokens x.1.0 ++ column_tail_tokens x.1.1))

tailed_written : (l : Left) (x : Tail) → test_tokens (tailed l x) ≡ left_tokens l ++ tail_tokens x
tailed_written l (inl x) = refl
tailed_written l (inr x) = refl

column_tailed_written : (c : Column) (x : Bool ⊎ Tail) → test_tokens (column_tailed c x) ≡ column_tokens c ++ column_tail_tokens x
column_tailed_written c (inl b) = refl
column_tailed_written c (inr x) = tailed_written (parts.column c) x

led_written : (x : Led) → test_tokens (led_of x) ≡ led_tokens x
led_written (inl x) = tailed_written (parts.substr x.0) x.1
led_written (inr x) = column_tailed_written (column_of (x.0, x.1.0)) x.1.1 ∙ ap (λ w. w ++ column_tail_tokens x.1.1) (column_written 0 0 x.0 x.1.0)

test_written : (x : Led ⊎ Flipped) → test_tokens (any_of x) ≡ choice led_tokens (λ y. value_tokens y.0 ++ op_token y.1.0 ∷ left_tokens y.1.1) x
test_written (inl x) = led_written x
test_written (inr x) = refl

module _ {A B C : Type 0} (test : Token → Bool) (f : A → C) (g : B → C) (P : Reader A) (Q : Reader B) (n : ℕ) (ts : List Token) where
  abbrev same : C ⊎ C → C
  same (inl x) = x
  same (inr x) = x

  left_seen : (o : Read A) → after (λ a r. Ok (choice f g a, r)) (after (λ a r. Ok (inl a, r)) o) ≡ after (λ a r. Ok (same a, r)) (after (λ a r. Ok (inl a, r)) (after (λ a r. Ok (f a, r)) o))
  left_seen (Ok x) = refl
  left_seen (Err r) = refl

  right_seen : (o : Read B) → after (λ a r. Ok (choice f g a, r)) (after (λ a r. Ok (inr a, r)) o) ≡ after (λ a r. Ok (same a, r)) (after (λ a r. Ok (inr a, r)) (after (λ a r. Ok (g a, r)) o))
  right_seen (Ok x) = refl
  right_seen (Err r) = refl

  either_by : (b : Bool) → after (λ a r. Ok (choice f g a, r)) (if b then after (λ a r. Ok (inl a, r)) (P n ts) else after (λ b r. Ok (inr b, r)) (Q n ts))
      ≡ after (λ a r. Ok (same a, r)) (if b then after (λ a r. Ok (inl a, r)) (seen_as f P n ts) else after (λ b r. Ok (inr b, r)) (seen_as g Q n ts))
  either_by true = left_seen (P n ts)
  either_by false = right_seen (Q n ts)

  pub seen_either : seen_as (choice f g) (either test P Q) n ts ≡ seen_as same (either test (seen_as f P) (seen_as g Q)) n ts
  seen_either = either_by (begins test ts)

x0 : Flipped
x0 = (parts.null, (op.Eq, l0))

module _ (n l : ℕ) (low : l ≤ n) where
  abbrev led_reader : Reader Led
  led_reader = productions.led (codes "substr") (both substr_rest tail) (both column_rest column_tail)

  led_shut : (x : Option Spelled × (Bool ⊎ Tail)) (rest : List Token) → Apart goes_on rest → begins (is_sign sign.Open) ((rest_tokens x.0 ++ column_tail_tokens x.1) ++ rest) ≡ false
  led_shut (None, y) rest e = apart_second is_dot (is_sign sign.Open) (column_tail_tokens y ++ rest) (tail_goes_on y rest)
  led_shut (Some s, y) rest e = refl

  led_test_at : At led_reader led_tokens (Apart goes_on) n l
  led_test_at =
      ends_as (λ rest e. (e, e))
      (tokens_as led_tokens (elim [ inl x ↦ refl | inr x ↦ refl ])
      (led_at (codes "substr") (both substr_rest tail) (both column_rest column_tail) (λ x. substr_tokens x.0 ++ tail_tokens x.1) (λ x. rest_tokens x.0 ++ column_tail_tokens x.1) (Apart goes_on) (Apart goes_on) n l
      (chain (substr_rest_at n l) (tail_at n l low) (inr (false, v0)) (λ b rest ends. tt))
      (chain (column_rest_at n l) (column_tail_at n l low) (inl false) (λ b rest ends. apart_first is_dot (is_sign sign.Open) (column_tail_tokens b ++ rest) (tail_goes_on b rest)))
      (None, inl false) refl (call_only (codes "substr")) (λ a rest. refl) led_shut))

  flipped_at : At (both value (both productions.op left)) (λ y. value_tokens y.0 ++ op_token y.1.0 ∷ left_tokens y.1.1) (Apart goes_on) n l
  flipped_at = chain (value_at n l) (chain (op_at n l) (left_at n l) l0 (λ b rest ends. tt)) (op.Eq, l0) (λ b rest ends. tt)

  led_named : (x : Led) (rest : List Token) → begins is_name (led_tokens x ++ rest) ≡ true
  led_named (inl x) rest = refl
  led_named (inr x) rest = refl

  flipped_unnamed : (x : Flipped) (rest : List Token) → Apart goes_on rest → begins is_name ((value_tokens x.0 ++ op_token x.1.0 ∷ left_tokens x.1.1) ++ rest) ≡ false
  flipped_unnamed x rest e =
      ap (begins is_name) (append_assoc (value_tokens x.0) (op_token x.1.0 ∷ left_tokens x.1.1) rest) ∙ value_unnamed x.0 ((op_token x.1.0 ∷ left_tokens x.1.1) ++ rest)

  pub test_at : At test test_tokens (Apart goes_on) n l
  unfolding test led_test flipped_test
  test_at =
      same_at test (λ m le ts. seen_either is_name led_of flipped_of led_reader (both value (both productions.op left)) m ts)
      (seen_at any_of test_parts _ _ test_tokens (Apart goes_on) n l
      (ends_as (λ rest e. (e, e)) (or_at is_name led_test_at flipped_at led_named flipped_unnamed))
      test_back test_written)
