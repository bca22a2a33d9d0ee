-- One of two parts by its first token, and parts as long as the first token begins one.
use Rattle.std.proofs.Common.{◌≡◌, ℕ, zero, suc, ◌+◌, ◌≤◌, Bool, true, false, List, [], ◌∷◌, ◌++◌, length, length-append, append_assoc, append-nil, sym, ap, ◌∙◌, subst, arith, ◌⊎◌, inl, inr}
use Rattle.std.specs.Prelude.{Ok, Err}
use Rattle.std.specs.List.{flat_map}
use Rattle.sql_tokens.specs.declared.token.Token.{Token}
use Rattle.sql_readers.specs.Readers.{Reader, after, begins, either, repeated, many}
use Rattle.sql_readers.proofs.Branches.{then_ok, then_err, pair_same, if_true, if_false, if_cases, begins_same}
use Rattle.sql_derivations.proofs.Exactly.{Fault, At, holds_after}

module _ {A B : Type 0} (test : Token → Bool) (P : Reader A) (Q : Reader B) (tokA : A → List Token) (tokB : B → List Token) (EndsA EndsB : List Token → Type 0) (n l : ℕ)
    (p : At P tokA EndsA n l) (q : At Q tokB EndsB n l) (starts : (a : A) (rest : List Token) → begins test (tokA a ++ rest) ≡ true)
    (others : (b : B) (rest : List Token) → EndsB rest → begins test (tokB b ++ rest) ≡ false) where
  abbrev pub tok_of : A ⊎ B → List Token
  tok_of (inl a) = tokA a
  tok_of (inr b) = tokB b

  abbrev pub Both : List Token → Type 0
  Both rest = EndsA rest × EndsB rest

  left_ok : (m : ℕ) (ts : List Token) (a : A) (r : List Token) → begins test ts ≡ true → P m ts ≡ Ok (a, r) → either test P Q m ts ≡ Ok (inl a, r)
  left_ok m ts a r b e = if_true (begins test ts) _ _ b ∙ ap (after (λ a r. Ok (inl a, r))) e

  right_ok : (m : ℕ) (ts : List Token) (a : B) (r : List Token) → begins test ts ≡ false → Q m ts ≡ Ok (a, r) → either test P Q m ts ≡ Ok (inr a, r)
  right_ok m ts a r b e = if_false (begins test ts) _ _ b ∙ ap (after (λ b r. Ok (inr b, r))) e

  either_complete : (m : ℕ) → n ≤ m → (d : A ⊎ B) (rest : List Token) → length (tok_of d) ≤ l → Both rest → either test P Q m (tok_of d ++ rest) ≡ Ok (d, rest)
  either_complete m le (inl a) rest h ends = left_ok m _ a rest (starts a rest) (p.complete m le a rest h ends.0)
  either_complete m le (inr b) rest h ends = right_ok m _ b rest (others b rest ends.1) (q.complete m le b rest h ends.1)

  either_parts : {R : Type 0} (ts : List Token) (d : A ⊎ B) (r : List Token) → either test P Q n ts ≡ Ok (d, r)
      → ((a : A) → begins test ts ≡ true → P n ts ≡ Ok (a, r) → d ≡ inl a → R) → ((b : B) → begins test ts ≡ false → Q n ts ≡ Ok (b, r) → d ≡ inr b → R) → R
  either_parts ts d r e k l = if_cases (begins test ts) _ _ _ e
      (λ c f. then_ok (λ a r. Ok (inl a, r)) (P n ts) (d, r) f (λ a s g h. let same = pair_same (inl a) d s r h in k a c (g ∙ ap (λ z. Ok (a, z)) same.1) (sym same.0)))
      (λ c f. then_ok (λ b r. Ok (inr b, r)) (Q n ts) (d, r) f (λ b s g h. let same = pair_same (inr b) d s r h in l b c (g ∙ ap (λ z. Ok (b, z)) same.1) (sym same.0)))

  either_fault : (ts r : List Token) → length ts ≤ l → either test P Q n ts ≡ Err r → Fault (either test P Q) tok_of n ts r
  either_fault ts r h e = if_cases (begins test ts) _ _ _ e
      (λ c f. then_err (λ a r. Ok (inl a, r)) (P n ts) r f
      (λ g.
      let F = p.fault ts r h g in
      record {
        front = F.front;
        cut = F.cut;
        stays = λ m le t r' y is.
            if_true (begins test (F.front ++ t ∷ y)) _ _ (begins_same test true ts F.front t r' y c (F.cut ∙ ap (λ (w : List Token). F.front ++ w) is))
            ∙ ap (after (λ a r. Ok (inl a, r))) (F.stays m le t r' y is);
        more = F.more;
        by = inl F.by;
        done = F.done;
      })
      (λ a s g i. cc))
      (λ c f. then_err (λ b r. Ok (inr b, r)) (Q n ts) r f
      (λ g.
      let F = q.fault ts r h g in
      record {
        front = F.front;
        cut = F.cut;
        stays = λ m le t r' y is.
            if_false (begins test (F.front ++ t ∷ y)) _ _ (begins_same test false ts F.front t r' y c (F.cut ∙ ap (λ (w : List Token). F.front ++ w) is))
            ∙ ap (after (λ b r. Ok (inr b, r))) (F.stays m le t r' y is);
        more = F.more;
        by = inr F.by;
        done = F.done;
      })
      (λ a s g i. cc))

  pub either_at : At (either test P Q) tok_of Both n l
  either_at = record {
    complete = either_complete;
    sound = λ ts d r e. either_parts ts d r e (λ a c f is. p.sound ts a r f ∙ ap (λ o. tok_of o ++ r) (sym is)) (λ b c f is. q.sound ts b r f ∙ ap (λ o. tok_of o ++ r) (sym is));
    holds = λ ts d r e m le t r' y is. either_parts ts d r e
        (λ a c f has. subst (λ o. either test P Q m (tok_of o ++ t ∷ y) ≡ Ok (o, t ∷ y)) (sym has) (left_ok m _ a (t ∷ y) (starts a (t ∷ y)) (p.holds ts a r f m le t r' y is)))
        (λ b c f has.
        let text = q.sound ts b r f ∙ ap (λ (w : List Token). tokB b ++ w) is in
        subst (λ o. either test P Q m (tok_of o ++ t ∷ y) ≡ Ok (o, t ∷ y)) (sym has) (right_ok m _ b (t ∷ y) (begins_same test false ts (tokB b) t r' y c text) (q.holds ts b r f m le t r' y is)));
    fault = either_fault;
  }

-- ---- parts as long as the first token begins one

module _ {A : Type 0} (test : Token → Bool) (P : Reader A) (tok : A → List Token) (Ends : List Token → Type 0) (n l : ℕ) (p : At P tok Ends n l) (low : l ≤ n)
    (starts : (a : A) (rest : List Token) → begins test (tok a ++ rest) ≡ true) (follows : (a : A) (rest : List Token) → Ends (tok a ++ rest)) where
  abbrev pub toks : List A → List Token
  toks ds = flat_map tok ds

  abbrev pub EndsMany : List Token → Type 0
  EndsMany rest = Ends rest × (begins test rest ≡ false)

  some_tokens : (ts : List Token) → begins test (ts ++ []) ≡ true → 1 ≤ length ts
  some_tokens [] h = cc
  some_tokens (t ∷ ts) h = omega arith

  none_ok : (k m : ℕ) (ts : List Token) → begins test ts ≡ false → repeated test P k m ts ≡ Ok ([], ts)
  none_ok zero m ts b = if_false (begins test ts) _ _ b
  none_ok (suc k) m ts b = if_false (begins test ts) _ _ b

  more_ok : (k m : ℕ) (ts r s : List Token) (a : A) (ds : List A) → begins test ts ≡ true → P m ts ≡ Ok (a, r) → repeated test P k m r ≡ Ok (ds, s) → repeated test P (suc k) m ts ≡ Ok (a ∷ ds, s)
  more_ok k m ts r s a ds b e f =
      if_true (begins test ts) _ _ b ∙ ap (after (λ a r. after (λ more s. Ok (a ∷ more, s)) (repeated test P k m r))) e ∙ ap (after (λ more s. Ok (a ∷ more, s))) f

  ends_of : (ds : List A) (rest : List Token) → EndsMany rest → Ends (toks ds ++ rest)
  ends_of [] rest h = h.0
  ends_of (a ∷ ds) rest h = subst Ends (sym (append_assoc (tok a) (toks ds) rest)) (follows a (toks ds ++ rest))

  many_complete : (k m : ℕ) → n ≤ m → (ds : List A) (rest : List Token) → length (toks ds) ≤ k → length (toks ds) ≤ l → EndsMany rest → repeated test P k m (toks ds ++ rest) ≡ Ok (ds, rest)
  many_complete k m le [] rest h g ends = none_ok k m rest ends.1
  many_complete zero m le (a ∷ ds) rest h g ends =
      let s = some_tokens (tok a) (starts a []) in let e = length-append (tok a) (toks ds) in absurd (omega arith)
  many_complete (suc k) m le (a ∷ ds) rest h g ends =
      let s = some_tokens (tok a) (starts a []) in
      let e = length-append (tok a) (toks ds) in
      let text = append_assoc (tok a) (toks ds) rest in
      ap (repeated test P (suc k) m) text
      ∙ more_ok k m (tok a ++ (toks ds ++ rest)) (toks ds ++ rest) rest a ds (starts a (toks ds ++ rest)) (p.complete m le a (toks ds ++ rest) (omega arith) (ends_of ds rest ends))
      (many_complete k m le ds rest (omega arith) (omega arith) ends)

  parts_of : {Q : Type 0} (k : ℕ) (ts : List Token) (ds : List A) (r : List Token) → repeated test P (suc k) n ts ≡ Ok (ds, r)
      → ((a : A) (mid : List Token) (more : List A) → begins test ts ≡ true → P n ts ≡ Ok (a, mid) → repeated test P k n mid ≡ Ok (more, r) → ds ≡ a ∷ more → Q)
      → (begins test ts ≡ false → ds ≡ [] → ts ≡ r → Q) → Q
  parts_of k ts ds r e go stop = if_cases (begins test ts) _ _ _ e
      (λ b f. then_ok (λ a r. after (λ more s. Ok (a ∷ more, s)) (repeated test P k n r)) (P n ts) (ds, r) f (λ a mid g h.
      then_ok (λ more s. Ok (a ∷ more, s)) (repeated test P k n mid) (ds, r) h (λ more s i j.
      let same = pair_same (a ∷ more) ds s r j in go a mid more b g (i ∙ ap (λ z. Ok (more, z)) same.1) (sym same.0))))
      (λ b f. let same = pair_same [] ds ts r f in stop b (sym same.0) same.1)

  zero_parts : {Q : Type 0} (ts : List Token) (ds : List A) (r : List Token) → repeated test P zero n ts ≡ Ok (ds, r) → (begins test ts ≡ false → ds ≡ [] → ts ≡ r → Q) → Q
  zero_parts ts ds r e stop = if_cases (begins test ts) _ _ _ e (λ b f. cc) (λ b f. let same = pair_same [] ds ts r f in stop b (sym same.0) same.1)

  many_sound : (k : ℕ) (ts : List Token) (ds : List A) (r : List Token) → repeated test P k n ts ≡ Ok (ds, r) → ts ≡ toks ds ++ r
  many_sound zero ts ds r e = zero_parts ts ds r e (λ b is same. same ∙ ap (λ xs. toks xs ++ r) (sym is))
  many_sound (suc k) ts ds r e = parts_of k ts ds r e
      (λ a mid more b f g is.
      p.sound ts a mid f ∙ ap (λ (w : List Token). tok a ++ w) (many_sound k mid more r g) ∙ sym (append_assoc (tok a) (toks more) r) ∙ ap (λ xs. toks xs ++ r) (sym is))
      (λ b is same. same ∙ ap (λ xs. toks xs ++ r) (sym is))

  none_holds : (j m : ℕ) (ts : List Token) (ds : List A) (r : List Token) (t : Token) (r' y : List Token) → begins test ts ≡ false → ds ≡ [] → ts ≡ r → r ≡ t ∷ r' → repeated test P j m (toks ds ++ t ∷ y) ≡ Ok (ds, t ∷ y)
  none_holds j m ts ds r t r' y b is same has =
      subst (λ xs. repeated test P j m (toks xs ++ t ∷ y) ≡ Ok (xs, t ∷ y)) (sym is) (none_ok j m (t ∷ y) (begins_same test false ts [] t r' y b (same ∙ has)))

  many_holds : (k j m : ℕ) → k ≤ j → n ≤ m → (ts : List Token) (ds : List A) (r : List Token) → repeated test P k n ts ≡ Ok (ds, r) → (t : Token) (r' y : List Token) → r ≡ t ∷ r'
      → repeated test P j m (toks ds ++ t ∷ y) ≡ Ok (ds, t ∷ y)
  many_holds zero j m low le ts ds r e t r' y has = zero_parts ts ds r e (λ b is same. none_holds j m ts ds r t r' y b is same has)
  many_holds (suc k) zero m low le ts ds r e t r' y has = absurd (omega arith)
  many_holds (suc k) (suc j) m low le ts ds r e t r' y has = parts_of k ts ds r e
      (λ a mid more b f g is.
      let rest = many_holds k j m (omega arith) le mid more r g t r' y has in
      let text = many_sound k mid more r g ∙ ap (λ (w : List Token). toks more ++ w) has in
      let first = holds_after p ts a mid f m le (toks more) t r' y text in
      subst (λ xs. repeated test P (suc j) m (toks xs ++ t ∷ y) ≡ Ok (xs, t ∷ y)) (sym is)
      (ap (repeated test P (suc j) m) (append_assoc (tok a) (toks more) (t ∷ y))
      ∙ more_ok j m (tok a ++ (toks more ++ t ∷ y)) (toks more ++ t ∷ y) (t ∷ y) a more (starts a (toks more ++ t ∷ y)) first rest))
      (λ b is same. none_holds (suc j) m ts ds r t r' y b is same has)

  pub record FaultMany (k : ℕ) (ts r : List Token) : Type 0 where
    pub front : List Token
    pub cut : ts ≡ front ++ r
    pub stays : (j m : ℕ) → k ≤ j → n ≤ m → (t : Token) (r' y : List Token) → r ≡ t ∷ r' → repeated test P j m (front ++ t ∷ y) ≡ Err (t ∷ y)
    pub more : List Token
    pub by : List A
    pub done : front ++ more ≡ toks by

  above : (k j : ℕ) (R : ℕ → Type 0) → suc k ≤ j → ((i : ℕ) → k ≤ i → R (suc i)) → R j
  above k zero R h f = absurd (omega arith)
  above k (suc i) R h f = f i (omega arith)

  no_begin : (ts : List Token) → length ts ≤ 0 → begins test ts ≡ true → ⊥
  no_begin [] h b = cc
  no_begin (t ∷ ts) h b = omega arith

  first_stuck : (k : ℕ) (ts r : List Token) → begins test ts ≡ true → Fault P tok n ts r → FaultMany (suc k) ts r
  first_stuck k ts r b F = record {
    front = F.front;
    cut = F.cut;
    stays = λ j m low le t r' y is. above k j (λ j. repeated test P j m (F.front ++ t ∷ y) ≡ Err (t ∷ y)) low (λ i _.
        if_true (begins test (F.front ++ t ∷ y)) _ _ (begins_same test true ts F.front t r' y b (F.cut ∙ ap (λ (w : List Token). F.front ++ w) is))
        ∙ ap (after (λ a r. after (λ more s. Ok (a ∷ more, s)) (repeated test P i m r))) (F.stays m le t r' y is));
    more = F.more;
    by = F.by ∷ [];
    done = F.done ∙ sym (append-nil (tok F.by));
  }

  later_stuck : (k : ℕ) (ts mid r : List Token) (a : A) → P n ts ≡ Ok (a, mid) → FaultMany k mid r → FaultMany (suc k) ts r
  later_stuck k ts mid r a f F =
      let s = p.sound ts a mid f in
      record {
        front = tok a ++ F.front;
        cut = s ∙ ap (λ (w : List Token). tok a ++ w) F.cut ∙ sym (append_assoc (tok a) F.front r);
        stays = λ j m low le t r' y is. above k j (λ j. repeated test P j m ((tok a ++ F.front) ++ t ∷ y) ≡ Err (t ∷ y)) low (λ i less.
            let first = holds_after p ts a mid f m le F.front t r' y (F.cut ∙ ap (λ (w : List Token). F.front ++ w) is) in
            ap (repeated test P (suc i) m) (append_assoc (tok a) F.front (t ∷ y))
            ∙ if_true (begins test (tok a ++ (F.front ++ t ∷ y))) _ _ (starts a (F.front ++ t ∷ y))
            ∙ ap (after (λ a r. after (λ more s. Ok (a ∷ more, s)) (repeated test P i m r))) first
            ∙ ap (after (λ more s. Ok (a ∷ more, s))) (F.stays i m less le t r' y is));
        more = F.more;
        by = a ∷ F.by;
        done = append_assoc (tok a) F.front F.more ∙ ap (λ (w : List Token). tok a ++ w) F.done;
      }

  many_fault : (k : ℕ) (ts r : List Token) → length ts ≤ k → length ts ≤ l → repeated test P k n ts ≡ Err r → FaultMany k ts r
  many_fault zero ts r h g e = if_cases (begins test ts) _ _ _ e (λ b f. absurd (no_begin ts h b)) (λ b f. cc)
  many_fault (suc k) ts r h g e = if_cases (begins test ts) _ _ _ e
      (λ b f. then_err (λ a r. after (λ more s. Ok (a ∷ more, s)) (repeated test P k n r)) (P n ts) r f
      (λ i. first_stuck k ts r b (p.fault ts r g i))
      (λ a mid i j. then_err (λ more s. Ok (a ∷ more, s)) (repeated test P k n mid) r j
      (λ u.
      let s = ap length (p.sound ts a mid i) in
      let v = length-append (tok a) mid in
      let o = some_tokens (tok a) (starts a []) in
      later_stuck k ts mid r a i (many_fault k mid r (omega arith) (omega arith) u))
      (λ more s u v. cc)))
      (λ b f. cc)

  pub many_at : At (many test P) toks EndsMany n l
  many_at = record {
    complete = λ m le ds rest h ends. many_complete m m le ds rest (omega arith) h ends;
    sound = λ ts ds r e. many_sound n ts ds r e;
    holds = λ ts ds r e m le t r' y is. many_holds n m m le le ts ds r e t r' y is;
    fault = λ ts r h e.
        let F = many_fault n ts r (omega arith) h e in
        record { front = F.front; cut = F.cut; stays = λ m le t r' y is. F.stays m m le le t r' y is; more = F.more; by = F.by; done = F.done };
  }
