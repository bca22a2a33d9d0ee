-- Reading conditions by parts, given enough to go, however deep and however far.
use Rattle.std.proofs.Common.{◌≡◌, ◌⊎◌, ℕ, zero, suc, ◌+◌, ◌≤◌, ◌<◌, true, false, List, [], ◌∷◌, length, refl, sym, ap, ◌∙◌, arith, inl, inr}
use Rattle.std.specs.Prelude.{Option, Some, None, Ok, Err, if◌then◌else◌}
use Rattle.sql_tokens.specs.declared.keyword.Keyword.{Keyword}
use Rattle.sql_tokens.specs.declared.keyword.Keyword.TheVariants as word
use Rattle.sql_tokens.specs.declared.sign.Sign.TheVariants as sign
use Rattle.sql_tokens.specs.declared.token.Token.{Token}
use Rattle.sql_tree.specs.Conditions as conditions
use Rattle.sql_tree.specs.Conditions.{Cond, Neg, Test}
use Rattle.sql_readers.specs.Readers.{Read, Reader, after, begins, found, one, both, repeated, many, seen_as, parted}
use Rattle.sql_readers.specs.Looks.{is_word, is_sign, look_word, look_sign}
use Rattle.sql_readers.specs.Productions.{word_reader, sign_reader, conj_of, cond_of, conj, disjunction, neg_of, neg, cond, test}
use Rattle.sql_readers.specs.Reads.{Reads}
use Rattle.sql_reading.specs.Levels.{Wide, WideMany, negs, conds, Rest, closed}
use Rattle.sql_readers.proofs.Branches.{if_true, if_false, pair_same}

-- ---- one token

one_same : {A : Type 0} (look : Token → Option A) (n m : ℕ) (ts : List Token) → one look n ts ≡ one look m ts
one_same look n m [] = refl
one_same look n m (t ∷ ts) = refl

pub one_is : {A : Type 0} (look : Token → Option A) (ts : List Token) (given : Read A) → Reads (one look) ts given → (n : ℕ) → one look n ts ≡ given
one_is look ts given h n = one_same look n h.enough ts ∙ h.gives h.enough (omega arith)

found_rest : {A : Type 0} (whole rest : List Token) (o : Option A) (a : A) (r : List Token) → found whole rest o ≡ Ok (a, r) → rest ≡ r
found_rest whole rest None a r e = cc
found_rest whole rest (Some b) a r e = (pair_same b a rest r e).1

one_shorter : {A : Type 0} (look : Token → Option A) (n : ℕ) (ts : List Token) (a : A) (r : List Token) → one look n ts ≡ Ok (a, r) → length r < length ts
one_shorter look n [] a r e = cc
one_shorter look n (t ∷ ts) a r e = let l = ap length (found_rest (t ∷ ts) ts (look t) a r e) in omega arith

pub shorter : {A : Type 0} (look : Token → Option A) (ts : List Token) (a : A) (r : List Token) → Reads (one look) ts (Ok (a, r)) → length r < length ts
shorter look ts a r h = one_shorter look 0 ts a r (one_is look ts (Ok (a, r)) h 0)

-- one more to go
later : (P : ℕ → Type 0) (e : ℕ) → ((j : ℕ) → e ≤ j → P (suc j)) → (k : ℕ) → suc e ≤ k → P k
later P e f zero h = absurd (omega arith)
later P e f (suc k) h = f k (omega arith)

-- ---- parts behind a word each

module _ {A : Type 0} (w : Keyword) (p : ℕ → Reader A) where
  many_none : (ts : List Token) → begins (is_word w) ts ≡ false → (m n k : ℕ) → repeated (is_word w) (both (word_reader w) (p m)) k n ts ≡ Ok ([], ts)
  many_none ts b m n zero = if_false (begins (is_word w) ts) _ _ b
  many_none ts b m n (suc k) = if_false (begins (is_word w) ts) _ _ b

  many_stops : (ts : List Token) → begins (is_word w) ts ≡ false → WideMany w p ts (Ok ([], ts))
  many_stops ts b = record { enough = 0; gives = λ m n k l1 l2 l3. many_none ts b m n k }

  -- the word, and then a part that is read so
  part_is : (ts r : List Token) (given : Read A) → Reads (word_reader w) ts (Ok (tt, r)) → Wide p r given → Wide (λ m. both (word_reader w) (p m)) ts (after (λ b s. Ok ((tt, b), s)) given)
  part_is ts r given e h = record {
    enough = h.enough;
    gives = λ m n l1 l2. ap (after (λ a r. after (λ b s. Ok ((a, b), s)) (p m n r))) (one_is (look_word w) ts (Ok (tt, r)) e n) ∙ ap (after (λ b s. Ok ((tt, b), s))) (h.gives m n l1 l2);
  }

  Many : ℕ → ℕ → ℕ → List Token → Read (List (Unit {0} × A))
  Many m n k ts = repeated (is_word w) (both (word_reader w) (p m)) k n ts

  many_step : (ts : List Token) (given : Read (Unit {0} × A)) (m n k : ℕ) → begins (is_word w) ts ≡ true → both (word_reader w) (p m) n ts ≡ given
      → Many m n (suc k) ts ≡ after (λ a r. after (λ more s. Ok (a ∷ more, s)) (Many m n k r)) given
  unfolding Many
  many_step ts given m n k b e = if_true (begins (is_word w) ts) _ _ b ∙ ap (after (λ a r. after (λ more s. Ok (a ∷ more, s)) (Many m n k r))) e

  module _ (ts r : List Token) (b : begins (is_word w) ts ≡ true) (e : Reads (word_reader w) ts (Ok (tt, r))) where
    many_fails : (left : List Token) → Wide p r (Err left) → WideMany w p ts (Err left)
    unfolding Many
    many_fails left h =
        let one = part_is ts r (Err left) e h in
        record {
          enough = suc one.enough;
          gives = λ m n k l1 l2 l3. later (λ k. Many m n k ts ≡ Err left) one.enough (λ j l. many_step ts (Err left) m n j b (one.gives m n (omega arith) (omega arith))) k l3;
        }

    many_goes : (x : A) (s : List Token) (L : Read (List (Unit {0} × A))) → Wide p r (Ok (x, s)) → WideMany w p s L → WideMany w p ts (after (λ more u. Ok ((tt, x) ∷ more, u)) L)
    unfolding Many
    many_goes x s L h more =
        let one = part_is ts r (Ok (x, s)) e h in
        record {
          enough = suc (one.enough + more.enough);
          gives = λ m n k l1 l2 l3.
              later (λ k. Many m n k ts ≡ after (λ more u. Ok ((tt, x) ∷ more, u)) L) (one.enough + more.enough)
              (λ j l. many_step ts (Ok ((tt, x), s)) m n j b (one.gives m n (omega arith) (omega arith)) ∙ ap (after (λ more u. Ok ((tt, x) ∷ more, u))) (more.gives m n j (omega arith) (omega arith) (omega arith))) k l3;
        }

  -- what they make
  module _ {B : Type 0} (from : A → List (Unit {0} × A) → B) where
    pub rest_stops : (x : A) (ts : List Token) → begins (is_word w) ts ≡ false → Rest w p from (Ok (x, ts)) (Ok (from x [], ts))
    rest_stops x ts b = (Ok ([], ts), many_stops ts b, refl)

    pub rest_stops_is : (x : A) (ts : List Token) (C : Read B) → begins (is_word w) ts ≡ false → Rest w p from (Ok (x, ts)) C → C ≡ Ok (from x [], ts)
    rest_stops_is x ts C b h =
        let same : h.0 ≡ Ok ([], ts) = sym (h.1.gives h.1.enough h.1.enough h.1.enough (omega arith) (omega arith) (omega arith)) ∙ many_none ts b h.1.enough h.1.enough h.1.enough in
        h.2 ∙ ap (after (λ more left. Ok (from x more, left))) same

    onward : (next : A → List (Unit {0} × A) → B) (x y : A) (L : Read (List (Unit {0} × A))) (C : Read B) → ((more : List (Unit {0} × A)) → next y more ≡ from x ((tt, y) ∷ more))
        → C ≡ after (λ more left. Ok (next y more, left)) L → C ≡ after (λ more left. Ok (from x more, left)) (after (λ more u. Ok ((tt, y) ∷ more, u)) L)
    onward next x y (Err left) C same e = e
    onward next x y (Ok z) C same e = e ∙ ap (λ c. Ok (c, z.1)) (same z.0)

    pub rest_goes : (next : A → List (Unit {0} × A) → B) (x : A) (ts r : List Token) (R : Read A) (C : Read B) → ((y : A) (more : List (Unit {0} × A)) → next y more ≡ from x ((tt, y) ∷ more))
        → begins (is_word w) ts ≡ true → Reads (word_reader w) ts (Ok (tt, r)) → Wide p r R → Rest w p next R C → Rest w p from (Ok (x, ts)) C
    rest_goes next x ts r (Err left) C same b e h rest = (Err left, many_fails ts r b e left h, rest)
    rest_goes next x ts r (Ok z) C same b e h rest =
        (after (λ more u. Ok ((tt, z.0) ∷ more, u)) rest.0, many_goes ts r b e z.0 z.1 rest.0 h rest.1, onward next x z.0 rest.0 C (same z.0) rest.2)

    -- from the first part on
    pub parted_is : (f : A × List (Unit {0} × A) → B) (ts : List Token) (R : Read A) (C : Read B) → ((x : A) (more : List (Unit {0} × A)) → from x more ≡ f (x, more))
        → Wide p ts R → Rest w p from R C → Wide (λ m. seen_as f (parted (is_word w) (word_reader w) (p m))) ts C
    parted_is f ts (Err left) C same h rest = record {
      enough = h.enough;
      gives = λ m n l1 l2. ap (λ z. after (λ a u. Ok (f a, u)) (after (λ a r. after (λ b s. Ok ((a, b), s)) (many (is_word w) (both (word_reader w) (p m)) n r)) z)) (h.gives m n l1 l2) ∙ sym rest;
    }
    parted_is f ts (Ok z) C same h rest = record {
      enough = h.enough + rest.1.enough;
      gives = λ m n l1 l2.
          ap (λ z. after (λ a u. Ok (f a, u)) (after (λ a r. after (λ b s. Ok ((a, b), s)) (many (is_word w) (both (word_reader w) (p m)) n r)) z)) (h.gives m n (omega arith) (omega arith))
          ∙ ap (λ y. after (λ a u. Ok (f a, u)) (after (λ b s. Ok ((z.0, b), s)) y)) (rest.1.gives m n n (omega arith) (omega arith) (omega arith))
          ∙ seen f z.0 rest.0 (same z.0) ∙ sym rest.2;
    }
      where
        seen : (f : A × List (Unit {0} × A) → B) (x : A) (L : Read (List (Unit {0} × A))) → ((more : List (Unit {0} × A)) → from x more ≡ f (x, more))
            → after (λ a u. Ok (f a, u)) (after (λ b s. Ok ((x, b), s)) L) ≡ after (λ more left. Ok (from x more, left)) L
        seen f x (Err left) same = refl
        seen f x (Ok y) same = ap (λ c. Ok (c, y.1)) (sym (same y.0))

-- ---- one part, by its first token

neg_later : (ts : List Token) (given : Read Neg) (e : ℕ) → ((m : ℕ) → e ≤ m → neg (suc m) ts ≡ given) → Wide negs ts given
neg_later ts given e f = record { enough = suc e; gives = λ m n l1 l2. later (λ k. neg k ts ≡ given) e f m l1 }

abbrev as_neg : Read (Neg ⊎ (Cond ⊎ Test)) → Read Neg
as_neg r = after (λ x left. Ok (neg_of x, left)) r

abbrev as_left : {A B : Type 0} → Read A → Read (A ⊎ B)
as_left r = after (λ a left. Ok (inl a, left)) r

abbrev as_right : {A B : Type 0} → Read B → Read (A ⊎ B)
as_right r = after (λ b left. Ok (inr b, left)) r

abbrev with_first : {A B : Type 0} → A → Read B → Read (A × B)
with_first a r = after (λ b left. Ok ((a, b), left)) r

module _ (ts : List Token) where
  not_made : (r : Read Neg) → as_neg (as_left (after (λ x left. Ok (x.1, left)) (with_first (tt {0}) r))) ≡ after (λ x left. Ok (conditions.not x, left)) r
  not_made (Err left) = refl
  not_made (Ok x) = refl

  pub not_is : (r : List Token) (given : Read Neg) → begins (is_word word.Not) ts ≡ true → Reads (word_reader word.Not) ts (Ok (tt, r)) → Wide negs r given
      → Wide negs ts (after (λ x left. Ok (conditions.not x, left)) given)
  unfolding neg
  not_is r given b e h = neg_later ts (after (λ x left. Ok (conditions.not x, left)) given) h.enough (λ m l.
      ap as_neg (if_true (begins (is_word word.Not) ts) _ _ b ∙ ap as_left (ap (after (λ x left. Ok (x.1, left)))
      (ap (after (λ a r. with_first a (neg m r))) (one_is (look_word word.Not) ts (Ok (tt, r)) e (suc m)) ∙ ap (with_first tt) (h.gives m m l l))))
      ∙ not_made given)

  module _ (other : begins (is_word word.Not) ts ≡ false) where
    close_made : (d : Cond) (r : Read (Unit {0})) → as_neg (as_right (as_left (after (λ x left. Ok (x.1.0, left)) (with_first (tt {0}) (with_first d r))))) ≡ after (λ x rest. Ok (conditions.parens d, rest)) r
    close_made d (Err left) = refl
    close_made d (Ok x) = refl

    open_made : (n : ℕ) (r : Read Cond) → as_neg (as_right (as_left (after (λ x left. Ok (x.1.0, left)) (with_first (tt {0}) (after (λ d left. with_first d (sign_reader sign.Close n left)) r))))) ≡ closed r
    open_made n (Err left) = refl
    open_made n (Ok x) = close_made x.0 (sign_reader sign.Close n x.1) ∙ ap (after (λ y rest. Ok (conditions.parens x.0, rest))) (one_same (look_sign sign.Close) n 0 x.1)

    pub open_is : (r : List Token) (given : Read Cond) → begins (is_sign sign.Open) ts ≡ true → Reads (sign_reader sign.Open) ts (Ok (tt, r)) → Wide conds r given → Wide negs ts (closed given)
    unfolding neg
    open_is r given b e h = neg_later ts (closed given) h.enough (λ m l.
        ap as_neg (if_false (begins (is_word word.Not) ts) _ _ other ∙ ap as_right (if_true (begins (is_sign sign.Open) ts) _ _ b ∙ ap as_left (ap (after (λ x left. Ok (x.1.0, left)))
        (ap (after (λ a r. with_first a (after (λ d left. with_first d (sign_reader sign.Close (suc m) left)) (disjunction (λ n. neg m) (suc m) r)))) (one_is (look_sign sign.Open) ts (Ok (tt, r)) e (suc m))
        ∙ ap (λ z. with_first (tt {0}) (after (λ d left. with_first d (sign_reader sign.Close (suc m) left)) z)) (h.gives m (suc m) l (omega arith))))))
        ∙ open_made (suc m) given)

    test_made : (r : Read Test) → as_neg (as_right (as_right r)) ≡ after (λ x left. Ok (conditions.test x, left)) r
    test_made (Err left) = refl
    test_made (Ok x) = refl

    pub test_is : (given : Read Test) → begins (is_sign sign.Open) ts ≡ false → Reads test ts given → Wide negs ts (after (λ x left. Ok (conditions.test x, left)) given)
    unfolding neg
    test_is given b h = neg_later ts (after (λ x left. Ok (conditions.test x, left)) given) h.enough (λ m l.
        ap as_neg (if_false (begins (is_word word.Not) ts) _ _ other ∙ ap as_right (if_false (begins (is_sign sign.Open) ts) _ _ b ∙ ap as_right (h.gives (suc m) (omega arith))))
        ∙ test_made given)

-- ---- the whole

module _ {A : Type 0} (p q : Reader A) (n : ℕ) (same : (ts : List Token) → p n ts ≡ q n ts) (w : Keyword) where
  after_same : {B C : Type 0} (f g : B → List Token → Read C) (r : Read B) → ((b : B) (left : List Token) → f b left ≡ g b left) → after f r ≡ after g r
  after_same f g (Err left) h = refl
  after_same f g (Ok x) h = h x.0 x.1

  by_same : (ts : List Token) → both (word_reader w) p n ts ≡ both (word_reader w) q n ts
  by_same ts = after_same _ _ (word_reader w n ts) (λ a r. ap (with_first a) (same r))

  repeated_same : (k : ℕ) (ts : List Token) → repeated (is_word w) (both (word_reader w) p) k n ts ≡ repeated (is_word w) (both (word_reader w) q) k n ts
  repeated_same zero ts = refl
  repeated_same (suc k) ts = ap (λ z. if begins (is_word w) ts then z else Ok ([], ts))
      (ap (after (λ a r. after (λ more s. Ok (a ∷ more, s)) (repeated (is_word w) (both (word_reader w) p) k n r))) (by_same ts)
      ∙ after_same _ _ (both (word_reader w) q n ts) (λ a r. ap (after (λ more s. Ok (a ∷ more, s))) (repeated_same k r)))

  parted_same : {B : Type 0} (f : A × List (Unit {0} × A) → B) (ts : List Token) → seen_as f (parted (is_word w) (word_reader w) p) n ts ≡ seen_as f (parted (is_word w) (word_reader w) q) n ts
  parted_same f ts = ap (after (λ a r. Ok (f a, r)))
      (ap (after (λ a r. with_first a (repeated (is_word w) (both (word_reader w) p) n n r))) (same ts)
      ∙ after_same _ _ (q n ts) (λ a r. ap (with_first a) (repeated_same n r)))

conj_same : (n : ℕ) (ts : List Token) → conj (negs n) n ts ≡ conj neg n ts
conj_same n ts = parted_same (negs n) neg n (λ ts. refl) word.And (λ x. conj_of x.0 x.1) ts

cond_same : (n : ℕ) (ts : List Token) → conds n n ts ≡ cond n ts
cond_same n ts = parted_same (conj (negs n)) (conj neg) n (conj_same n) word.Or (λ x. cond_of x.0 x.1) ts

pub whole_is : (ts : List Token) (given : Read Cond) → Wide conds ts given → Reads cond ts given
whole_is ts given h = record { enough = h.enough; gives = λ n l. sym (cond_same n ts) ∙ h.gives n n l l }
