-- Parts one after the other: behind a word, in parentheses, with a token between two.
use Rattle.std.proofs.Common.{◌≡◌, ℕ, suc, ◌+◌, ◌≤◌, Bool, true, false, List, [], ◌∷◌, ◌++◌, refl, sym, ap, ◌∙◌, subst, arith, ◌⊎◌, inl, inr}
use Rattle.std.specs.Prelude.{Option, Some, None, is_some, map, ◌||◌}
use Rattle.std.specs.List.{flat_map}
use Rattle.sql_tokens.specs.declared.keyword.Keyword.{Keyword}
use Rattle.sql_tokens.specs.declared.sign.Sign.{Sign}
use Rattle.sql_tokens.specs.declared.sign.Sign.TheVariants as sign
use Rattle.sql_tokens.specs.declared.token.Token.{Token}
use Rattle.sql_tokens.specs.declared.token.Token.TheVariants as t
use Rattle.sql_tree.specs.Parts.{listed, optional}
use Rattle.sql_tree.specs.Grammar.{Some1}
use Rattle.sql_readers.specs.Readers.{Reader, begins, one, both, either, optionally, many, seen_as, parted}
use Rattle.sql_readers.specs.Looks.{look_word, look_sign, is_word, is_sign}
use Rattle.sql_readers.specs.Productions as productions
use Rattle.sql_derivations.proofs.Exactly.{At, both_at, seen_at, optionally_at}
use Rattle.sql_derivations.proofs.Choosing.{either_at, many_at}
use Rattle.sql_derivations.proofs.Looked.{Free, word_at, sign_at, look_word_finds, look_sign_finds}

-- what comes next begins none of these
abbrev pub Apart : (Token → Bool) → List Token → Type 0
Apart test rest = begins test rest ≡ false

or_first : (a b : Bool) → (a || b) ≡ false → a ≡ false
or_first true b e = cc
or_first false b e = refl

or_second : (a b : Bool) → (a || b) ≡ false → b ≡ false
or_second true b e = cc
or_second false b e = e

pub apart_first : (p q : Token → Bool) (rest : List Token) → Apart (λ x. p x || q x) rest → Apart p rest
apart_first p q [] e = refl
apart_first p q (x ∷ rest) e = or_first (p x) (q x) e

pub apart_second : (p q : Token → Bool) (rest : List Token) → Apart (λ x. p x || q x) rest → Apart q rest
apart_second p q [] e = refl
apart_second p q (x ∷ rest) e = or_second (p x) (q x) e

module _ {D : Type 0} {P : Reader D} {tok : D → List Token} {n l : ℕ} where
  pub ends_as : {E F : List Token → Type 0} → ((rest : List Token) → F rest → E rest) → At P tok E n l → At P tok F n l
  ends_as weaker p = record { complete = λ m le d rest h ends. p.complete m le d rest h (weaker rest ends); sound = p.sound; holds = p.holds; fault = p.fault }

  -- readers that are one from some bound on
  pub same_at : {E : List Token → Type 0} (Q : Reader D) → ((m : ℕ) → n ≤ m → (ts : List Token) → P m ts ≡ Q m ts) → At P tok E n l → At Q tok E n l
  same_at Q is p = record {
    complete = λ m le d rest h ends. sym (is m le (tok d ++ rest)) ∙ p.complete m le d rest h ends;
    sound = λ ts d r e. p.sound ts d r (is n (omega arith) ts ∙ e);
    holds = λ ts d r e m le x r' y has. sym (is m le (tok d ++ x ∷ y)) ∙ p.holds ts d r (is n (omega arith) ts ∙ e) m le x r' y has;
    fault = λ ts r h e.
        let F = p.fault ts r h (is n (omega arith) ts ∙ e) in
        record { front = F.front; cut = F.cut; stays = λ m le x r' y has. sym (is m le (F.front ++ x ∷ y)) ∙ F.stays m le x r' y has; more = F.more; by = F.by; done = F.done };
  }

  -- the same tokens, written otherwise
  pub tokens_as : {E : List Token → Type 0} (tok' : D → List Token) → ((d : D) → tok' d ≡ tok d) → At P tok E n l → At P tok' E n l
  tokens_as {E} tok' is p = subst (λ f. At P f E n l) (λ i d. sym (is d) i) p

module _ {A B : Type 0} {P : Reader A} {Q : Reader B} {tokA : A → List Token} {tokB : B → List Token} {EndsA EndsB : List Token → Type 0} {n l : ℕ} where
  -- one and then the other
  pub chain : At P tokA EndsA n l → At Q tokB EndsB n l → B → ((b : B) (rest : List Token) → EndsB rest → EndsA (tokB b ++ rest)) → At (both P Q) (λ x. tokA x.0 ++ tokB x.1) EndsB n l
  chain p q b follows = both_at P Q tokA tokB EndsA EndsB n l l p q (λ a. omega arith) b follows

-- ---- behind one token

module _ {B : Type 0} {Q : Reader B} {tok : B → List Token} {Ends : List Token → Type 0} {n l : ℕ} (look : Token → Option (Unit {0})) (token : Token) (p : At (one look) (λ u. token ∷ []) Free n (suc l)) (q : At Q tok Ends n l) (b : B) where
  -- the part may be as long as what is left of the bound
  pub behind_one : At (seen_as (λ x. x.1) (both (one look) Q)) (λ b. token ∷ tok b) Ends n (suc l)
  behind_one =
      seen_at (λ x. x.1) (λ b. (tt, b)) (both (one look) Q) (λ x. token ∷ tok x.1) (λ b. token ∷ tok b) Ends n (suc l)
      (both_at (one look) Q (λ u. token ∷ []) tok Free Ends n (suc l) l p q (λ a. omega arith) b (λ b rest ends. tt)) (λ b. refl) (λ a. refl)

module _ {B : Type 0} {Q : Reader B} {tok : B → List Token} {Ends : List Token → Type 0} {n l : ℕ} (look : Token → Option (Unit {0})) (token : Token) (p : At (one look) (λ u. token ∷ []) Free n l) (q : At Q tok Ends n l) (b : B) where
  pub behind_at : At (seen_as (λ x. x.1) (both (one look) Q)) (λ b. token ∷ tok b) Ends n l
  behind_at =
      seen_at (λ x. x.1) (λ b. (tt, b)) (both (one look) Q) (λ x. token ∷ tok x.1) (λ b. token ∷ tok b) Ends n l
      (chain p q b (λ b rest ends. tt)) (λ b. refl) (λ a. refl)

module _ {B : Type 0} {Q : Reader B} {tok : B → List Token} {Ends : List Token → Type 0} {n l : ℕ} (q : At Q tok Ends n l) (b : B) where
  pub behind_word : (w : Keyword) → At (productions.behind w Q) (λ b. t.Word w ∷ tok b) Ends n l
  behind_word w = behind_at (look_word w) (t.Word w) (word_at n l w) q b

  pub behind_sign : (s : Sign) → At (seen_as (λ x. x.1) (both (productions.sign_reader s) Q)) (λ b. t.Sign s ∷ tok b) Ends n l
  behind_sign s = behind_at (look_sign s) (t.Sign s) (sign_at n l s) q b

word_begins : (w : Keyword) (rest : List Token) → begins (is_word w) (t.Word w ∷ rest) ≡ true
word_begins w rest = ap is_some (look_word_finds w tt)

sign_begins : (s : Sign) (rest : List Token) → begins (is_sign s) (t.Sign s ∷ rest) ≡ true
sign_begins s rest = ap is_some (look_sign_finds s tt)

module _ {A : Type 0} {P : Reader A} {tok : A → List Token} {Ends : List Token → Type 0} {n l : ℕ} (p : At P tok Ends n l) where
  pub option_at : (test : Token → Bool) → ((a : A) (rest : List Token) → begins test (tok a ++ rest) ≡ true) → At (optionally test P) (optional tok) (λ rest. Ends rest × Apart test rest) n l
  option_at test starts = tokens_as (optional tok) (elim [ None ↦ refl | Some x ↦ refl ]) (optionally_at test P tok Ends n l p starts)

  pub clause_at : A → (w : Keyword) → At (productions.clause w P) (optional (λ x. t.Word w ∷ tok x)) (λ rest. Ends rest × Apart (is_word w) rest) n l
  clause_at a w = tokens_as (optional (λ x. t.Word w ∷ tok x)) (elim [ None ↦ refl | Some x ↦ refl ])
      (optionally_at (is_word w) (productions.behind w P) (λ b. t.Word w ∷ tok b) Ends n l (behind_word p a w) (λ b rest. word_begins w (tok b ++ rest)))

  pub in_parens_at : A → ((rest : List Token) → Ends (t.Sign sign.Close ∷ rest)) → At (productions.in_parens P) (λ x. t.Sign sign.Open ∷ (tok x ++ t.Sign sign.Close ∷ [])) Free n l
  in_parens_at a closes =
      seen_at (λ x. x.1.0) (λ x. (tt, (x, tt))) (both (productions.sign_reader sign.Open) (both P (productions.sign_reader sign.Close)))
      (λ x. t.Sign sign.Open ∷ (tok x.1.0 ++ t.Sign sign.Close ∷ [])) (λ x. t.Sign sign.Open ∷ (tok x ++ t.Sign sign.Close ∷ [])) Free n l
      (chain (sign_at n l sign.Open) (chain p (sign_at n l sign.Close) tt (λ u rest ends. closes rest)) (a, tt) (λ u rest ends. tt)) (λ b. refl) (λ a. refl)

-- ---- parts with a token between two

module _ {A : Type 0} {P : Reader A} {tok : A → List Token} {Ends : List Token → Type 0} {n l : ℕ} (p : At P tok Ends n l) (low : l ≤ n) (a : A)
    (look : Token → Option (Unit {0})) (token : Token) (finds : look token ≡ Some tt) (by : At (one look) (λ u. token ∷ []) Free n l)
    (goes_on : (rest : List Token) → Ends (token ∷ rest)) where
  abbrev pub test : Token → Bool
  test x = is_some (look x)

  abbrev pub parted_tokens : A × List (Unit {0} × A) → List Token
  parted_tokens x = tok x.0 ++ flat_map (λ (y : Unit {0} × A). token ∷ tok y.1) x.1

  next_at : At (both (one look) P) (λ (y : Unit {0} × A). token ∷ tok y.1) Ends n l
  next_at = chain by p a (λ b rest ends. tt)

  starts : (y : Unit {0} × A) (rest : List Token) → begins test ((token ∷ tok y.1) ++ rest) ≡ true
  starts y rest = ap is_some finds

  abbrev pub EndsParted : List Token → Type 0
  EndsParted rest = Ends rest × Apart test rest

  first_ends : (more : List (Unit {0} × A)) (rest : List Token) → EndsParted rest → Ends (flat_map (λ (y : Unit {0} × A). token ∷ tok y.1) more ++ rest)
  first_ends [] rest ends = ends.0
  first_ends (y ∷ more) rest ends = goes_on ((tok y.1 ++ flat_map (λ (y : Unit {0} × A). token ∷ tok y.1) more) ++ rest)

  pub many_next : At (many test (both (one look) P)) (λ ys. flat_map (λ (y : Unit {0} × A). token ∷ tok y.1) ys) EndsParted n l
  many_next = many_at test (both (one look) P) (λ (y : Unit {0} × A). token ∷ tok y.1) Ends n l next_at low starts (λ y rest. goes_on (tok y.1 ++ rest))

  pub parted_at : At (parted test (one look) P) parted_tokens EndsParted n l
  parted_at = chain p many_next [] first_ends

mapped_back : {A : Type 0} (xs : List A) → map (λ (x : Unit {0} × A). x.1) (map (λ a. (tt, a)) xs) ≡ xs
mapped_back [] = refl
mapped_back (x ∷ xs) = ap (λ ys. x ∷ ys) (mapped_back xs)

flat_mapped : {A : Type 0} (f : A → List Token) (xs : List (Unit {0} × A)) → flat_map f (map (λ x. x.1) xs) ≡ flat_map (λ x. f x.1) xs
flat_mapped f [] = refl
flat_mapped f (x ∷ xs) = ap (λ ys. f x.1 ++ ys) (flat_mapped f xs)

module _ {A : Type 0} {P : Reader A} {tok : A → List Token} {Ends : List Token → Type 0} {n l : ℕ} (p : At P tok Ends n l) (low : l ≤ n) (a : A) (goes_on : (rest : List Token) → Ends (t.Sign sign.Comma ∷ rest)) where
  pub listed_at : At (productions.listed P) (λ (s : Some1 A). listed tok s.first s.more) (λ rest. Ends rest × Apart (is_sign sign.Comma) rest) n l
  listed_at =
      seen_at productions.some_of (λ (s : Some1 A). (s.first, map (λ a. (tt, a)) s.more)) (parted (is_sign sign.Comma) (productions.sign_reader sign.Comma) P)
      (λ x. tok x.0 ++ flat_map (λ (y : Unit {0} × A). t.Sign sign.Comma ∷ tok y.1) x.1) (λ (s : Some1 A). listed tok s.first s.more) (λ rest. Ends rest × Apart (is_sign sign.Comma) rest) n l
      (parted_at p low a (look_sign sign.Comma) (t.Sign sign.Comma) refl (sign_at n l sign.Comma) goes_on)
      (λ (s : Some1 A). ap (λ xs. record { first = s.first; more = xs }) (mapped_back s.more))
      (λ x. ap (λ xs. tok x.0 ++ xs) (flat_mapped (λ b. t.Sign sign.Comma ∷ tok b) x.1))

-- ---- one of two parts

abbrev pub choice : {A B X : Type 0} → (A → X) → (B → X) → A ⊎ B → X
choice f g (inl a) = f a
choice f g (inr b) = g b

module _ {A B : Type 0} {P : Reader A} {Q : Reader B} {tokA : A → List Token} {tokB : B → List Token} {n l : ℕ} (test : Token → Bool) where
  pub or_at : {EndsA EndsB : List Token → Type 0} → At P tokA EndsA n l → At Q tokB EndsB n l → ((a : A) (rest : List Token) → begins test (tokA a ++ rest) ≡ true)
      → ((b : B) (rest : List Token) → EndsB rest → begins test (tokB b ++ rest) ≡ false) → At (either test P Q) (choice tokA tokB) (λ rest. EndsA rest × EndsB rest) n l
  or_at {EndsA} {EndsB} p q starts others = tokens_as (choice tokA tokB) (elim [ inl a ↦ refl | inr b ↦ refl ]) (either_at test P Q tokA tokB EndsA EndsB n l p q starts others)

  pub or_free : At P tokA Free n l → At Q tokB Free n l → ((a : A) (rest : List Token) → begins test (tokA a ++ rest) ≡ true)
      → ((b : B) (rest : List Token) → begins test (tokB b ++ rest) ≡ false) → At (either test P Q) (choice tokA tokB) Free n l
  or_free p q starts others = ends_as (λ rest e. (tt, tt)) (or_at p q starts (λ b rest e. others b rest))

pub each : {A B : Type 0} (tokA : A → List Token) (tokB : B → List Token) (test : Token → Bool) {v : Bool} → ((a : A) (rest : List Token) → begins test (tokA a ++ rest) ≡ v)
    → ((b : B) (rest : List Token) → begins test (tokB b ++ rest) ≡ v) → (x : A ⊎ B) (rest : List Token) → begins test (choice tokA tokB x ++ rest) ≡ v
each tokA tokB test f g (inl a) rest = f a rest
each tokA tokB test f g (inr b) rest = g b rest
