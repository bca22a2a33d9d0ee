-- When a reader reads exactly what derivations derive.
use Rattle.std.proofs.Common.{◌≡◌, ℕ, ◌+◌, ◌≤◌, Bool, true, false, List, [], ◌∷◌, ◌++◌, length, length-append, append_assoc, refl, sym, ap, ◌∙◌, subst, arith}
use Rattle.std.specs.Prelude.{Option, Some, None, Ok, Err}
use Rattle.sql_tokens.specs.declared.token.Token.{Token}
use Rattle.sql_readers.proofs.Branches.{then_ok, then_err, pair_same, err_same, if_true, if_false, if_cases, begins_same}
use Rattle.sql_readers.specs.Readers.{Reader, after, begins, found, one, both, optionally, seen_as}

-- a refusal: what stands before it begins a derivation's tokens, and with its first token it is refused at every bound from n on
pub record Fault {D : Type 0} (P : Reader D) (tok : D → List Token) (n : ℕ) (ts r : List Token) : Type 0 where
  pub front : List Token
  pub cut : ts ≡ front ++ r
  pub stays : (m : ℕ) → n ≤ m → (t : Token) (r' y : List Token) → r ≡ t ∷ r' → P m (front ++ t ∷ y) ≡ Err (t ∷ y)
  pub more : List Token
  pub by : D
  pub done : front ++ more ≡ tok by

-- given n to go, and more, up to b tokens are read as they are derived
pub record At {D : Type 0} (P : Reader D) (tok : D → List Token) (Ends : List Token → Type 0) (n b : ℕ) : Type 0 where
  pub complete : (m : ℕ) → n ≤ m → (d : D) (rest : List Token) → length (tok d) ≤ b → Ends rest → P m (tok d ++ rest) ≡ Ok (d, rest)
  pub sound : (ts : List Token) (d : D) (r : List Token) → P n ts ≡ Ok (d, r) → ts ≡ tok d ++ r
  pub holds : (ts : List Token) (d : D) (r : List Token) → P n ts ≡ Ok (d, r) → (m : ℕ) → n ≤ m → (t : Token) (r' y : List Token) → r ≡ t ∷ r' → P m (tok d ++ t ∷ y) ≡ Ok (d, t ∷ y)
  pub fault : (ts r : List Token) → length ts ≤ b → P n ts ≡ Err r → Fault P tok n ts r

-- what was read stays, with more tokens before the one that follows
pub holds_after : {D : Type 0} {P : Reader D} {tok : D → List Token} {Ends : List Token → Type 0} {n b : ℕ} (p : At P tok Ends n b) (ts : List Token) (d : D) (r : List Token) → P n ts ≡ Ok (d, r) → (m : ℕ) → n ≤ m
    → (xs : List Token) (t : Token) (r' y : List Token) → r ≡ xs ++ t ∷ r' → P m (tok d ++ (xs ++ t ∷ y)) ≡ Ok (d, xs ++ t ∷ y)
holds_after p ts d r e m le [] t r' y is = p.holds ts d r e m le t r' y is
holds_after p ts d r e m le (x ∷ xs) t r' y is = p.holds ts d r e m le x (xs ++ t ∷ r') (xs ++ t ∷ y) is

-- ---- one part and then another

module _ {A B : Type 0} (P : Reader A) (Q : Reader B) (tokA : A → List Token) (tokB : B → List Token) (EndsA EndsB : List Token → Type 0) (n l c : ℕ)
    (p : At P tokA EndsA n l) (q : At Q tokB EndsB n c) (covers : (a : A) → l ≤ length (tokA a) + c) (b0 : B) (follows : (b : B) (rest : List Token) → EndsB rest → EndsA (tokB b ++ rest)) where
  abbrev pub tok2 : A × B → List Token
  tok2 x = tokA x.0 ++ tokB x.1

  shorter : (a : A) (ys : List Token) → length (tokA a ++ ys) ≤ l → (length (tokA a) ≤ l) × (length ys ≤ c)
  shorter a ys h = let e = length-append (tokA a) ys in let k = covers a in (omega arith, omega arith)

  both_ok : (m : ℕ) (ts r s : List Token) (a : A) (b : B) → P m ts ≡ Ok (a, r) → Q m r ≡ Ok (b, s) → both P Q m ts ≡ Ok ((a, b), s)
  both_ok m ts r s a b e f = ap (after (λ a r. after (λ b s. Ok ((a, b), s)) (Q m r))) e ∙ ap (after (λ b s. Ok ((a, b), s))) f

  both_second : (m : ℕ) (ts r s : List Token) (a : A) → P m ts ≡ Ok (a, r) → Q m r ≡ Err s → both P Q m ts ≡ Err s
  both_second m ts r s a e f = ap (after (λ a r. after (λ b s. Ok ((a, b), s)) (Q m r))) e ∙ ap (after (λ b s. Ok ((a, b), s))) f

  both_first : (m : ℕ) (ts s : List Token) → P m ts ≡ Err s → both P Q m ts ≡ Err s
  both_first m ts s e = ap (after (λ a r. after (λ b s. Ok ((a, b), s)) (Q m r))) e

  parts : {R : Type 0} (ts : List Token) (d : A × B) (r : List Token) → both P Q n ts ≡ Ok (d, r) → ((mid : List Token) → P n ts ≡ Ok (d.0, mid) → Q n mid ≡ Ok (d.1, r) → R) → R
  parts ts d r e k = then_ok (λ a s. after (λ b u. Ok ((a, b), u)) (Q n s)) (P n ts) (d, r) e (λ a mid f g.
      then_ok (λ b u. Ok ((a, b), u)) (Q n mid) (d, r) g (λ b s h i.
      let same = pair_same (a, b) d s r i in
      k mid (f ∙ ap (λ z. Ok (z, mid)) (ap (λ z. z.0) same.0)) (h ∙ (λ j. Ok ((same.0 j).1, same.1 j)))))

  second_fault : (ts mid r : List Token) (a : A) → length ts ≤ l → P n ts ≡ Ok (a, mid) → Q n mid ≡ Err r → Fault (both P Q) tok2 n ts r
  second_fault ts mid r a h e f =
      let s = p.sound ts a mid e in
      let F = q.fault mid r (shorter a mid (subst (λ w. length w ≤ l) s h)).1 f in
      record {
        front = tokA a ++ F.front;
        cut = s ∙ ap (λ (w : List Token). tokA a ++ w) F.cut ∙ sym (append_assoc (tokA a) F.front r);
        stays = λ m le t r' y is.
            let text : (tokA a ++ F.front) ++ t ∷ y ≡ tokA a ++ (F.front ++ t ∷ y) = append_assoc (tokA a) F.front (t ∷ y) in
            let first = holds_after p ts a mid e m le F.front t r' y (F.cut ∙ ap (λ (w : List Token). F.front ++ w) is) in
            ap (both P Q m) text ∙ both_second m _ _ (t ∷ y) a first (F.stays m le t r' y is);
        more = F.more;
        by = (a, F.by);
        done = append_assoc (tokA a) F.front F.more ∙ ap (λ (w : List Token). tokA a ++ w) F.done;
      }

  first_fault : (ts r : List Token) → length ts ≤ l → P n ts ≡ Err r → Fault (both P Q) tok2 n ts r
  first_fault ts r h e =
      let F = p.fault ts r h e in
      record {
        front = F.front;
        cut = F.cut;
        stays = λ m le t r' y is. both_first m _ (t ∷ y) (F.stays m le t r' y is);
        more = F.more ++ tokB b0;
        by = (F.by, b0);
        done = sym (append_assoc F.front F.more (tokB b0)) ∙ ap (λ (w : List Token). w ++ tokB b0) F.done;
      }

  pub both_at : At (both P Q) tok2 EndsB n l
  both_at = record {
    complete = λ m le d rest h ends.
        let s = shorter d.0 (tokB d.1) h in
        ap (both P Q m) (append_assoc (tokA d.0) (tokB d.1) rest)
        ∙ both_ok m _ (tokB d.1 ++ rest) rest d.0 d.1 (p.complete m le d.0 (tokB d.1 ++ rest) s.0 (follows d.1 rest ends)) (q.complete m le d.1 rest s.1 ends);
    sound = λ ts d r e. parts ts d r e (λ mid f g. p.sound ts d.0 mid f ∙ ap (λ (w : List Token). tokA d.0 ++ w) (q.sound mid d.1 r g) ∙ sym (append_assoc (tokA d.0) (tokB d.1) r));
    holds = λ ts d r e m le t r' y is. parts ts d r e (λ mid f g.
        let first = holds_after p ts d.0 mid f m le (tokB d.1) t r' y (q.sound mid d.1 r g ∙ ap (λ (w : List Token). tokB d.1 ++ w) is) in
        ap (both P Q m) (append_assoc (tokA d.0) (tokB d.1) (t ∷ y)) ∙ both_ok m _ _ (t ∷ y) d.0 d.1 first (q.holds mid d.1 r g m le t r' y is));
    fault = λ ts r h e. then_err (λ a s. after (λ b u. Ok ((a, b), u)) (Q n s)) (P n ts) r e (first_fault ts r h)
        (λ a mid f g. then_err (λ b u. Ok ((a, b), u)) (Q n mid) r g (second_fault ts mid r a h f) (λ b s i j. cc));
  }

-- ---- one token

module _ {A : Type 0} (look : Token → Option A) (mk : A → Token) (finds : (a : A) → look (mk a) ≡ Some a) (only : (t : Token) (a : A) → look t ≡ Some a → t ≡ mk a) (a0 : A) (n l : ℕ) where
  abbrev pub tok1 : A → List Token
  tok1 a = mk a ∷ []

  abbrev pub Always : List Token → Type 0
  Always _ = Unit {0}

  one_ok : (m : ℕ) (a : A) (rest : List Token) → one look m (mk a ∷ rest) ≡ Ok (a, rest)
  one_ok m a rest = ap (found (mk a ∷ rest) rest) (finds a)

  found_ok : (t : Token) (ts : List Token) (o : Option A) (d : A) (r : List Token) → look t ≡ o → found (t ∷ ts) ts o ≡ Ok (d, r) → t ∷ ts ≡ mk d ∷ r
  found_ok t ts None d r e f = cc
  found_ok t ts (Some a) d r e f = let s = pair_same a d ts r f in (λ i. only t a e i ∷ s.1 i) ∙ ap (λ x. mk x ∷ r) s.0

  found_err : (t : Token) (ts : List Token) (o : Option A) (r : List Token) → look t ≡ o → found (t ∷ ts) ts o ≡ Err r → (look t ≡ None) × (t ∷ ts ≡ r)
  found_err t ts None r e f = (e, err_same {A = A} (t ∷ ts) r f)
  found_err t ts (Some a) r e f = cc

  one_sound : (ts : List Token) (d : A) (r : List Token) → one look n ts ≡ Ok (d, r) → ts ≡ mk d ∷ r
  one_sound [] d r e = cc
  one_sound (t ∷ ts) d r e = found_ok t ts (look t) d r refl e

  head_same : (t u : Token) (ts us : List Token) → t ∷ ts ≡ u ∷ us → t ≡ u
  head_same t u ts us e = cc

  one_fault : (ts r : List Token) → one look n ts ≡ Err r → Fault (one look) tok1 n ts r
  one_fault [] r e = record { front = []; cut = err_same {A = A} [] r e; stays = λ m le t r' y is. (let s = err_same {A = A} [] r e in cc); more = mk a0 ∷ []; by = a0; done = refl }
  one_fault (t ∷ ts) r e =
      let f = found_err t ts (look t) r refl e in
      record {
        front = [];
        cut = f.1;
        stays = λ m le u r' y is. ap (found (u ∷ y) y) (ap look (sym (head_same t u ts r' (f.1 ∙ is))) ∙ f.0);
        more = mk a0 ∷ [];
        by = a0;
        done = refl;
      }

  pub one_at : At (one look) tok1 Always n l
  one_at = record {
    complete = λ m le d rest h ends. one_ok m d rest;
    sound = one_sound;
    holds = λ ts d r e m le t r' y is. one_ok m d (t ∷ y);
    fault = λ ts r h e. one_fault ts r e;
  }

-- ---- a part that may be left out

module _ {A : Type 0} (test : Token → Bool) (P : Reader A) (tok : A → List Token) (Ends : List Token → Type 0) (n l : ℕ) (p : At P tok Ends n l)
    (starts : (a : A) (rest : List Token) → begins test (tok a ++ rest) ≡ true) where
  abbrev pub tok0 : Option A → List Token
  tok0 None = []
  tok0 (Some a) = tok a

  abbrev pub Ends0 : List Token → Type 0
  Ends0 rest = Ends rest × (begins test rest ≡ false)

  some_ok : (m : ℕ) (ts : List Token) (a : A) (r : List Token) → begins test ts ≡ true → P m ts ≡ Ok (a, r) → optionally test P m ts ≡ Ok (Some a, r)
  some_ok m ts a r b e = if_true (begins test ts) _ _ b ∙ ap (after (λ a r. Ok (Some a, r))) e

  optionally_complete : (m : ℕ) → n ≤ m → (d : Option A) (rest : List Token) → length (tok0 d) ≤ l → Ends0 rest → optionally test P m (tok0 d ++ rest) ≡ Ok (d, rest)
  optionally_complete m le None rest h ends = if_false (begins test rest) _ _ ends.1
  optionally_complete m le (Some a) rest h ends = some_ok m (tok a ++ rest) a rest (starts a rest) (p.complete m le a rest h ends.0)

  option_parts : {Q : Type 0} (ts : List Token) (d : Option A) (r : List Token) → optionally test P n ts ≡ Ok (d, r)
      → ((a : A) → begins test ts ≡ true → P n ts ≡ Ok (a, r) → d ≡ Some a → Q) → (begins test ts ≡ false → d ≡ None → ts ≡ r → Q) → Q
  option_parts ts d r e k l = if_cases (begins test ts) _ _ _ e
      (λ b f. then_ok (λ a r. Ok (Some a, r)) (P n ts) (d, r) f (λ a s g h. let same = pair_same (Some a) d s r h in k a b (g ∙ ap (λ z. Ok (a, z)) same.1) (sym same.0)))
      (λ b f. let same = pair_same None d ts r f in l b (sym same.0) same.1)

  optionally_fault : (ts r : List Token) → length ts ≤ l → optionally test P n ts ≡ Err r → Fault (optionally test P) tok0 n ts r
  optionally_fault ts r h e = if_cases (begins test ts) _ _ _ e
      (λ b f. then_err (λ a r. Ok (Some a, r)) (P n ts) r f
      (λ g.
      let F = p.fault ts r h g in
      record {
        front = F.front;
        cut = F.cut;
        stays = λ m le t r' y is.
            if_true (begins test (F.front ++ t ∷ y)) _ _ (begins_same test true ts F.front t r' y b (F.cut ∙ ap (λ (w : List Token). F.front ++ w) is))
            ∙ ap (after (λ a r. Ok (Some a, r))) (F.stays m le t r' y is);
        more = F.more;
        by = Some F.by;
        done = F.done;
      })
      (λ a s g i. cc))
      (λ b f. cc)

  pub optionally_at : At (optionally test P) tok0 Ends0 n l
  optionally_at = record {
    complete = optionally_complete;
    sound = λ ts d r e. option_parts ts d r e (λ a b f is. p.sound ts a r f ∙ ap (λ o. tok0 o ++ r) (sym is)) (λ b is same. same ∙ ap (λ o. tok0 o ++ r) (sym is));
    holds = λ ts d r e m le t r' y is. option_parts ts d r e
        (λ a b f has. subst (λ o. optionally test P m (tok0 o ++ t ∷ y) ≡ Ok (o, t ∷ y)) (sym has) (some_ok m (tok a ++ t ∷ y) a (t ∷ y) (starts a (t ∷ y)) (p.holds ts a r f m le t r' y is)))
        (λ b has same. subst (λ o. optionally test P m (tok0 o ++ t ∷ y) ≡ Ok (o, t ∷ y)) (sym has) (if_false (begins test (t ∷ y)) _ _ (begins_same test false ts [] t r' y b (same ∙ is))));
    fault = optionally_fault;
  }

-- ---- what is read, seen as something else

module _ {A B : Type 0} (f : A → B) (g : B → A) (P : Reader A) (tokA : A → List Token) (tokB : B → List Token) (Ends : List Token → Type 0) (n l : ℕ) (p : At P tokA Ends n l)
    (back : (b : B) → f (g b) ≡ b) (same_tokens : (a : A) → tokB (f a) ≡ tokA a) where
  tokens_back : (b : B) → tokB b ≡ tokA (g b)
  tokens_back b = ap tokB (sym (back b)) ∙ same_tokens (g b)

  seen_ok : (m : ℕ) (ts r : List Token) (a : A) → P m ts ≡ Ok (a, r) → seen_as f P m ts ≡ Ok (f a, r)
  seen_ok m ts r a e = ap (after (λ a r. Ok (f a, r))) e

  seen_parts : {Q : Type 0} (ts : List Token) (d : B) (r : List Token) → seen_as f P n ts ≡ Ok (d, r) → ((a : A) → P n ts ≡ Ok (a, r) → f a ≡ d → Q) → Q
  seen_parts ts d r e k = then_ok (λ a r. Ok (f a, r)) (P n ts) (d, r) e (λ a s h i. let same = pair_same (f a) d s r i in k a (h ∙ ap (λ z. Ok (a, z)) same.1) same.0)

  seen_fault : (ts r : List Token) → length ts ≤ l → seen_as f P n ts ≡ Err r → Fault (seen_as f P) tokB n ts r
  seen_fault ts r h e = then_err (λ a r. Ok (f a, r)) (P n ts) r e
      (λ k.
      let F = p.fault ts r h k in
      record {
        front = F.front;
        cut = F.cut;
        stays = λ m le t r' y is. ap (after (λ a r. Ok (f a, r))) (F.stays m le t r' y is);
        more = F.more;
        by = f F.by;
        done = F.done ∙ sym (same_tokens F.by);
      })
      (λ a s k l. cc)

  pub seen_at : At (seen_as f P) tokB Ends n l
  seen_at = record {
    complete = λ m le d rest h ends.
        let back_tokens = tokens_back d in
        let same = ap length back_tokens in
        ap (λ (xs : List Token). seen_as f P m (xs ++ rest)) back_tokens ∙ seen_ok m (tokA (g d) ++ rest) rest (g d) (p.complete m le (g d) rest (omega arith) ends)
        ∙ ap (λ b. Ok (b, rest)) (back d);
    sound = λ ts d r e. seen_parts ts d r e (λ a k is. p.sound ts a r k ∙ ap (λ (xs : List Token). xs ++ r) (sym (same_tokens a) ∙ ap tokB is));
    holds = λ ts d r e m le t r' y is. seen_parts ts d r e (λ a k has.
        ap (λ (xs : List Token). seen_as f P m (xs ++ t ∷ y)) (ap tokB (sym has) ∙ same_tokens a) ∙ seen_ok m (tokA a ++ t ∷ y) (t ∷ y) a (p.holds ts a r k m le t r' y is)
        ∙ ap (λ b. Ok (b, t ∷ y)) has);
    fault = seen_fault;
  }
