-- Conditions, whatever their nesting.
use Rattle.std.proofs.Common.{◌≡◌, ℕ, zero, suc, ◌+◌, ◌≤◌, Bool, false, List, [], ◌∷◌, ◌++◌, length, length-append, append-nil, append_assoc, refl, sym, ap, ◌∙◌, ◌⊎◌, inl, inr, arith}
use Rattle.std.specs.Prelude.{◌||◌, Option, Some, None, Ok, Err, if◌then◌else◌}
use Rattle.std.specs.List.{flat_map}
use Rattle.sql_tokens.specs.declared.keyword.Keyword.TheVariants as word
use Rattle.sql_tokens.specs.declared.sign.Sign.TheVariants as sign
use Rattle.sql_tokens.specs.declared.token.Token.{Token}
use Rattle.sql_tokens.specs.declared.token.Token.TheVariants as t
use Rattle.sql_tree.specs.Parts as parts
use Rattle.sql_tree.specs.Parts.{optional, Spelled, name_tokens, Value, value_tokens, Left, left_tokens, op_token}
use Rattle.sql_tree.specs.Conditions as conditions
use Rattle.sql_tree.specs.Conditions.{Test, test_tokens, Cond, Conj, Neg, cond_tokens, conj_tokens, neg_tokens}
use Rattle.sql_readers.specs.Readers.{Reader, Read, after, begins, both, either, repeated, seen_as, parted, before}
use Rattle.sql_readers.specs.Looks.{look_word, is_word, is_sign}
use Rattle.sql_readers.specs.Productions.{word_reader, sign_reader, behind, in_parens, conj_of, conj, cond_of, disjunction, neg_of, neg_by, neg, cond, test}
use Rattle.sql_derivations.proofs.Exactly.{Fault, At, both_at, seen_at}
use Rattle.sql_derivations.proofs.Looked.{Free, word_at, sign_at}
use Rattle.sql_derivations.proofs.Sequences.{Apart, or_at, choice, apart_first, apart_second, ends_as, same_at, chain, behind_one, parted_at}
use Rattle.sql_derivations.proofs.Columns.{c0, goes_on}
use Rattle.sql_derivations.proofs.Tests.{test_at}

-- ---- the first token of a test

record Misses (p : Token → Bool) : Type 0 where
  name : (n : List ℕ) (q : Bool) → p (t.Name n q) ≡ false
  text : (s : List ℕ) → p (t.Text s) ≡ false
  number : (n : ℕ) → p (t.Number n) ≡ false
  plus : p (t.Sign sign.Plus) ≡ false
  minus : p (t.Sign sign.Minus) ≡ false
  null : p (t.Word word.Null) ≡ false
  parameter : (n : ℕ) → p (t.Parameter n) ≡ false

column_first : (p : Token → Bool) → Misses p → (q : Option Spelled) (c : Spelled) (rest : List Token) → begins p ((optional (λ q. name_tokens q ++ t.Sign sign.Dot ∷ []) q ++ name_tokens c) ++ rest) ≡ false
column_first p m None c rest = m.name c.name c.quoted
column_first p m (Some q) c rest = m.name q.name q.quoted

left_first : (p : Token → Bool) → Misses p → (l : Left) (rest : List Token) → begins p (left_tokens l ++ rest) ≡ false
left_first p m (parts.column c) rest = column_first p m c.qualifier c.column rest
left_first p m (parts.substr c) rest = m.name _ false

value_first : (p : Token → Bool) → Misses p → (v : Value) (rest : List Token) → begins p (value_tokens v ++ rest) ≡ false
value_first p m (parts.text s) rest = m.text s
value_first p m (parts.number n) rest = m.number n
value_first p m (parts.plus n) rest = m.plus
value_first p m (parts.minus n) rest = m.minus
value_first p m parts.null rest = m.null
value_first p m (parts.parameter n) rest = m.parameter n

test_first : (p : Token → Bool) → Misses p → (x : Test) (rest : List Token) → begins p (test_tokens x ++ rest) ≡ false
test_first p m (conditions.compare l o s) rest = ap (begins p) (append_assoc (left_tokens l) _ rest) ∙ left_first p m l _
test_first p m (conditions.flipped v o l) rest = ap (begins p) (append_assoc (value_tokens v) _ rest) ∙ value_first p m v _
test_first p m (conditions.within l b v more) rest = ap (begins p) (append_assoc (left_tokens l) _ rest) ∙ left_first p m l _
test_first p m (conditions.null c b) rest = ap (begins p) (append_assoc (parts.column_tokens c) _ rest) ∙ column_first p m c.qualifier c.column _

misses_not : Misses (is_word word.Not)
misses_not = record { name = λ n q. refl; text = λ s. refl; number = λ n. refl; plus = refl; minus = refl; null = refl; parameter = λ n. refl }

misses_open : Misses (is_sign sign.Open)
misses_open = record { name = λ n q. refl; text = λ s. refl; number = λ n. refl; plus = refl; minus = refl; null = refl; parameter = λ n. refl }

-- ---- AND and OR

abbrev pub conj_goes_on : Token → Bool
conj_goes_on x = goes_on x || is_word word.And x

abbrev pub cond_goes_on : Token → Bool
cond_goes_on x = conj_goes_on x || is_word word.Or x

conj_split : Conj → Neg × List (Unit {0} × Neg)
conj_split (conditions.single n) = (n, [])
conj_split (conditions.and n c) = let p = conj_split c in (n, (tt, p.0) ∷ p.1)

conj_back : (c : Conj) → conj_of (conj_split c).0 (conj_split c).1 ≡ c
unfolding conj_split
conj_back (conditions.single n) = refl
conj_back (conditions.and n c) = ap (conditions.and n) (conj_back c)

conj_written : (n : Neg) (more : List (Unit {0} × Neg)) → conj_tokens (conj_of n more) ≡ neg_tokens n ++ flat_map (λ (y : Unit {0} × Neg). t.Word word.And ∷ neg_tokens y.1) more
conj_written n [] = sym (append-nil (neg_tokens n))
conj_written n (x ∷ more) = ap (λ w. neg_tokens n ++ t.Word word.And ∷ w) (conj_written x.1 more)

cond_split : Cond → Conj × List (Unit {0} × Conj)
cond_split (conditions.only n) = (n, [])
cond_split (conditions.or n c) = let p = cond_split c in (n, (tt, p.0) ∷ p.1)

cond_back : (c : Cond) → cond_of (cond_split c).0 (cond_split c).1 ≡ c
unfolding cond_split
cond_back (conditions.only n) = refl
cond_back (conditions.or n c) = ap (conditions.or n) (cond_back c)

cond_written : (n : Conj) (more : List (Unit {0} × Conj)) → cond_tokens (cond_of n more) ≡ conj_tokens n ++ flat_map (λ (y : Unit {0} × Conj). t.Word word.Or ∷ conj_tokens y.1) more
cond_written n [] = sym (append-nil (conj_tokens n))
cond_written n (x ∷ more) = ap (λ w. conj_tokens n ++ t.Word word.Or ∷ w) (cond_written x.1 more)

neg0 : Neg
neg0 = conditions.test (conditions.null c0 false)

conj0 : Conj
conj0 = conditions.single neg0

module _ (P : Reader Neg) (n l : ℕ) (p : At P neg_tokens (Apart goes_on) n l) (low : l ≤ n) where
  conj_at : At (conj P) conj_tokens (Apart conj_goes_on) n l
  conj_at =
      seen_at (λ x. conj_of x.0 x.1) conj_split _ _ conj_tokens (Apart conj_goes_on) n l
      (ends_as (λ rest e. (apart_first goes_on (is_word word.And) rest e, apart_second goes_on (is_word word.And) rest e))
      (parted_at p low neg0 (look_word word.And) (t.Word word.And) refl (word_at n l word.And) (λ rest. refl)))
      conj_back (λ x. conj_written x.0 x.1)

  pub disjunction_at : At (disjunction P) cond_tokens (Apart cond_goes_on) n l
  disjunction_at =
      seen_at (λ x. cond_of x.0 x.1) cond_split _ _ cond_tokens (Apart cond_goes_on) n l
      (ends_as (λ rest e. (apart_first conj_goes_on (is_word word.Or) rest e, apart_second conj_goes_on (is_word word.Or) rest e))
      (parted_at conj_at low conj0 (look_word word.Or) (t.Word word.Or) refl (word_at n l word.Or) (λ rest. refl)))
      cond_back (λ x. cond_written x.0 x.1)

-- ---- NOT and parentheses, with one less to go

abbrev neg_split : Neg → Neg ⊎ (Cond ⊎ Test)
neg_split (conditions.not n) = inl n
neg_split (conditions.parens d) = inr (inl d)
neg_split (conditions.test x) = inr (inr x)

neg_back : (x : Neg) → neg_of (neg_split x) ≡ x
neg_back (conditions.not n) = refl
neg_back (conditions.parens d) = refl
neg_back (conditions.test x) = refl

abbrev parens_tokens : Cond → List Token
parens_tokens d = t.Sign sign.Open ∷ (cond_tokens d ++ t.Sign sign.Close ∷ [])

neg_written : (x : Neg ⊎ (Cond ⊎ Test)) → neg_tokens (neg_of x) ≡ choice (λ n. t.Word word.Not ∷ neg_tokens n) (choice parens_tokens test_tokens) x
neg_written (inl n) = refl
neg_written (inr (inl d)) = refl
neg_written (inr (inr x)) = refl

pub cond0 : Cond
cond0 = conditions.only conj0

module _ (P : Reader Neg) (n l : ℕ) (p : At P neg_tokens (Apart goes_on) n l) (low : suc l ≤ n) where
  parens_at : At (in_parens (disjunction P)) parens_tokens Free n (suc l)
  parens_at =
      seen_at (λ x. x.1.0) (λ x. (tt, (x, tt))) (both (sign_reader sign.Open) (both (disjunction P) (sign_reader sign.Close)))
      (λ x. t.Sign sign.Open ∷ (cond_tokens x.1.0 ++ t.Sign sign.Close ∷ [])) parens_tokens Free n (suc l)
      (both_at (sign_reader sign.Open) (both (disjunction P) (sign_reader sign.Close)) (λ u. t.Sign sign.Open ∷ []) (λ x. cond_tokens x.0 ++ t.Sign sign.Close ∷ []) Free Free n (suc l) l
      (sign_at n (suc l) sign.Open) (chain (disjunction_at P n l p (omega arith)) (sign_at n l sign.Close) tt (λ u rest ends. refl)) (λ a. omega arith) (cond0, tt) (λ b rest ends. tt))
      (λ b. refl) (λ a. refl)

  neg_by_at : At (neg_by P) neg_tokens (Apart goes_on) n (suc l)
  neg_by_at =
      seen_at neg_of neg_split _ _ neg_tokens (Apart goes_on) n (suc l)
      (ends_as (λ rest e. (e, (tt, e)))
      (or_at (is_word word.Not) (behind_one (look_word word.Not) (t.Word word.Not) (word_at n (suc l) word.Not) p neg0)
      (or_at (is_sign sign.Open) parens_at (test_at n (suc l) low) (λ a rest. refl) (λ b rest e. test_first (is_sign sign.Open) misses_open b rest)) (λ a rest. refl)
      (elim [ inl d ↦ λ rest e. refl | inr x ↦ λ rest e. test_first (is_word word.Not) misses_not x rest ])))
      neg_back neg_written

-- ---- readers that are asked at one bound alone

module _ {A : Type 0} (goes : Token → Bool) (by : Reader (Unit {0})) (P : Reader A) (n : ℕ) where
  abbrev fixed : Reader A
  fixed m = P n

  abbrev Reads : Type 0
  Reads = List Token → Read (List (Unit {0} × A))

  abbrev one_more : Reads → Reads
  one_more f ts = if begins goes ts then after (λ a r. after (λ more s. Ok (a ∷ more, s)) (f r)) (both by P n ts) else Ok ([], ts)

  repeated_fixed : (k : ℕ) → repeated goes (both by P) k n ≡ repeated goes (both by fixed) k n
  repeated_fixed zero = refl
  repeated_fixed (suc k) = ap one_more (repeated_fixed k)

  abbrev first_and : Reads → List Token → Read (A × List (Unit {0} × A))
  first_and f ts = after (λ a r. after (λ b s. Ok ((a, b), s)) (f r)) (P n ts)

  parted_fixed : parted goes by P n ≡ parted goes by fixed n
  parted_fixed = ap first_and (repeated_fixed n)

module _ (P : Reader Neg) (n : ℕ) where
  abbrev same : Reader Neg
  same m = P n

  abbrev as_conj : (List Token → Read (Neg × List (Unit {0} × Neg))) → List Token → Read Conj
  as_conj f ts = after (λ x r. Ok (conj_of x.0 x.1, r)) (f ts)

  conj_fixed : conj P n ≡ conj same n
  conj_fixed = ap as_conj (parted_fixed (is_word word.And) (word_reader word.And) P n)

  abbrev as_cond : (List Token → Read (Conj × List (Unit {0} × Conj))) → List Token → Read Cond
  as_cond f ts = after (λ x r. Ok (cond_of x.0 x.1, r)) (f ts)

  abbrev of_conj : (List Token → Read Conj) → List Token → Read (Conj × List (Unit {0} × Conj))
  of_conj f = parted (is_word word.Or) (word_reader word.Or) (λ m. f) n

  disjunction_fixed : disjunction P n ≡ disjunction same n
  disjunction_fixed = ap as_cond
      (parted_fixed (is_word word.Or) (word_reader word.Or) (conj P) n ∙ ap of_conj conj_fixed ∙ sym (parted_fixed (is_word word.Or) (word_reader word.Or) (conj same) n))

  abbrev neg_with : (List Token → Read Cond) → List Token → Read Neg
  neg_with g =
      seen_as neg_of
      (either (is_word word.Not) (behind word.Not P)
      (either (is_sign sign.Open) (in_parens (λ m. g)) test)) n

  pub neg_by_fixed : neg_by P n ≡ neg_by same n
  neg_by_fixed = ap neg_with disjunction_fixed

-- ---- a condition

neg_is : (n : ℕ) → neg (suc n) ≡ neg_by (before neg) (suc n)
unfolding neg
neg_is n = sym (neg_by_fixed (before neg) (suc n))

left_some : (l : Left) → 1 ≤ length (left_tokens l)
left_some (parts.substr c) = omega arith
left_some (parts.column c) = let e = length-append (optional (λ q. name_tokens q ++ t.Sign sign.Dot ∷ []) c.qualifier) (name_tokens c.column) in omega arith

neg_some : (d : Neg) → 1 ≤ length (neg_tokens d)
neg_some (conditions.not n) = omega arith
neg_some (conditions.parens d) = omega arith
neg_some (conditions.test (conditions.compare l o s)) = let e = length-append (left_tokens l) (op_token o ∷ conditions.side_tokens s) in omega arith
neg_some (conditions.test (conditions.flipped v o l)) = let e = length-append (value_tokens v) (op_token o ∷ left_tokens l) in omega arith
neg_some (conditions.test (conditions.within l b v more)) = let e = length-append (left_tokens l) (conditions.not_tokens b ++ t.Word word.In ∷ t.Sign sign.Open ∷ (parts.listed value_tokens v more ++ t.Sign sign.Close ∷ [])) in let f = left_some l in omega arith
neg_some (conditions.test (conditions.null c b)) = let e = length-append (parts.column_tokens c) (t.Word word.Is ∷ (conditions.not_tokens b ++ t.Word word.Null ∷ [])) in omega arith

module _ (k : ℕ) (p : At neg neg_tokens (Apart goes_on) k k) where
  before_complete : (m : ℕ) → suc k ≤ m → (d : Neg) (rest : List Token) → length (neg_tokens d) ≤ k → Apart goes_on rest → before neg m (neg_tokens d ++ rest) ≡ Ok (d, rest)
  before_complete zero le d rest h ends = absurd (omega arith)
  before_complete (suc m) le d rest h ends = p.complete m (omega arith) d rest h ends

  before_holds : (ts : List Token) (d : Neg) (r : List Token) → neg k ts ≡ Ok (d, r) → (m : ℕ) → suc k ≤ m → (x : Token) (r' y : List Token) → r ≡ x ∷ r' → before neg m (neg_tokens d ++ x ∷ y) ≡ Ok (d, x ∷ y)
  before_holds ts d r e zero le x r' y is = absurd (omega arith)
  before_holds ts d r e (suc m) le x r' y is = p.holds ts d r e m (omega arith) x r' y is

  stays_on : (ts r : List Token) (F : Fault neg neg_tokens k ts r) (m : ℕ) → suc k ≤ m → (x : Token) (r' y : List Token) → r ≡ x ∷ r' → before neg m (F.front ++ x ∷ y) ≡ Err (x ∷ y)
  stays_on ts r F zero le x r' y is = absurd (omega arith)
  stays_on ts r F (suc m) le x r' y is = F.stays m (omega arith) x r' y is

  before_at : At (before neg) neg_tokens (Apart goes_on) (suc k) k
  before_at = record {
    complete = before_complete;
    sound = p.sound;
    holds = before_holds;
    fault = λ ts r h e.
        let F = p.fault ts r h e in
        record { front = F.front; cut = F.cut; stays = stays_on ts r F; more = F.more; by = F.by; done = F.done };
  }

neg_same : (n m : ℕ) → suc n ≤ m → (ts : List Token) → neg_by (before neg) m ts ≡ neg m ts
neg_same n zero le ts = absurd (omega arith)
neg_same n (suc m) le ts = ap (λ (f : List Token → Read Neg). f ts) (sym (neg_is m))

nothing : (ts : List Token) → length ts ≤ 0 → ts ≡ []
nothing [] h = refl
nothing (x ∷ ts) h = absurd (omega arith)

pub neg_at : (n : ℕ) → At neg neg_tokens (Apart goes_on) n n
unfolding neg
neg_at zero = record {
  complete = λ m le d rest h ends. absurd (let s = neg_some d in omega arith);
  sound = λ ts d r e. cc;
  holds = λ ts d r e m le x r' y is. cc;
  fault = λ ts r h e.
      let none = nothing ts h in
      let same : ts ≡ r = cc in
      record { front = []; cut = same; stays = λ m le x r' y is. absurd (let k : [] ≡ x ∷ r' = sym none ∙ same ∙ is in cc); more = neg_tokens neg0; by = neg0; done = refl };
}
neg_at (suc n) = same_at neg (neg_same n) (neg_by_at (before neg) (suc n) n (before_at n (neg_at n)) (omega arith))

pub cond_at : (n : ℕ) → At cond cond_tokens (Apart cond_goes_on) n n
cond_at n = disjunction_at neg n n (neg_at n) (omega arith)
