-- A name, and then by whether it is the word of a call before a parenthesis.
use Rattle.std.proofs.Common.{◌≡◌, ℕ, ◌+◌, ◌≤◌, Bool, true, false, List, ◌∷◌, ◌++◌, length, append_assoc, refl, sym, ap, ◌∙◌, subst, arith, ◌⊎◌, inl, inr}
use Rattle.std.specs.Prelude.{◌&&◌, Ok, Err, if◌then◌else◌}
use Rattle.sql_tokens.specs.declared.sign.Sign.TheVariants as sign
use Rattle.sql_tokens.specs.declared.token.Token.{Token}
use Rattle.sql_tokens.specs.declared.token.Token.TheVariants as t
use Rattle.sql_tree.specs.Parts.{Spelled}
use Rattle.sql_readers.specs.Readers.{Read, Reader, after, begins}
use Rattle.sql_readers.specs.Looks.{is_sign, is_call}
use Rattle.sql_readers.specs.Productions.{name, led}
use Rattle.sql_readers.proofs.Branches.{then_ok, then_err, pair_same, if_true, if_false, if_cases, begins_same}
use Rattle.sql_derivations.proofs.Exactly.{Fault, At}
use Rattle.sql_derivations.proofs.Looked.{name_at}
use Rattle.std.specs.Cmp.Lexicographic.{pointwise, same_text}
use Rattle.std.specs.Prelude.{nat_eq, not}

and_no : (a b : Bool) → b ≡ false → (a && b) ≡ false
and_no true b e = e
and_no false b e = refl

and_both : (a b : Bool) → (a && b) ≡ true → (a ≡ true) × (b ≡ true)
and_both true b e = (refl, e)
and_both false b e = cc

abbrev parens : List Token → Bool
parens ts = begins (is_sign sign.Open) ts

not_quoted : (b : Bool) → not b ≡ true → b ≡ false
not_quoted true e = cc
not_quoted false e = refl

pub call_only : (call : List ℕ) (s : Spelled) → is_call call s ≡ true → t.Name s.name s.quoted ≡ t.Name call false
call_only call s e =
    let both = and_both (not s.quoted) (pointwise nat_eq s.name call) e in
    λ i. t.Name (same_text s.name call (sym both.1) i) (not_quoted s.quoted both.0 i)

module _ {A B : Type 0} (call : List ℕ) (P : Reader A) (Q : Reader B) (tokA : A → List Token) (tokB : B → List Token) (EndsA EndsB : List Token → Type 0) (n l : ℕ)
    (p : At P tokA EndsA n l) (q : At Q tokB EndsB n l) (b0 : B)
    (self : is_call call (record { name = call; quoted = false }) ≡ true)
    (only : (s : Spelled) → is_call call s ≡ true → t.Name s.name s.quoted ≡ t.Name call false)
    (opens : (a : A) (rest : List Token) → parens (tokA a ++ rest) ≡ true)
    (shut : (b : B) (rest : List Token) → EndsB rest → parens (tokB b ++ rest) ≡ false) where
  abbrev pub tok_led : A ⊎ (Spelled × B) → List Token
  tok_led (inl a) = t.Name call false ∷ tokA a
  tok_led (inr x) = t.Name x.0.name x.0.quoted ∷ tokB x.1

  abbrev pub EndsLed : List Token → Type 0
  EndsLed rest = EndsA rest × EndsB rest

  abbrev pick : Spelled → List Token → Bool
  pick s r = is_call call s && parens r

  abbrev go : ℕ → Spelled → List Token → Read (A ⊎ (Spelled × B))
  go m s r = if pick s r then after (λ a u. Ok (inl a, u)) (P m r) else after (λ b u. Ok (inr (s, b), u)) (Q m r)

  call_ok : (m : ℕ) (s : Spelled) (r u : List Token) (a : A) → pick s r ≡ true → P m r ≡ Ok (a, u) → led call P Q m (t.Name s.name s.quoted ∷ r) ≡ Ok (inl a, u)
  call_ok m s r u a c e = if_true (pick s r) _ _ c ∙ ap (after (λ a u. Ok (inl a, u))) e

  call_err : (m : ℕ) (s : Spelled) (r u : List Token) → pick s r ≡ true → P m r ≡ Err u → led call P Q m (t.Name s.name s.quoted ∷ r) ≡ Err u
  call_err m s r u c e = if_true (pick s r) _ _ c ∙ ap (after (λ a u. Ok (inl a, u))) e

  plain_ok : (m : ℕ) (s : Spelled) (r u : List Token) (b : B) → pick s r ≡ false → Q m r ≡ Ok (b, u) → led call P Q m (t.Name s.name s.quoted ∷ r) ≡ Ok (inr (s, b), u)
  plain_ok m s r u b c e = if_false (pick s r) _ _ c ∙ ap (after (λ b u. Ok (inr (s, b), u))) e

  plain_err : (m : ℕ) (s : Spelled) (r u : List Token) → pick s r ≡ false → Q m r ≡ Err u → led call P Q m (t.Name s.name s.quoted ∷ r) ≡ Err u
  plain_err m s r u c e = if_false (pick s r) _ _ c ∙ ap (after (λ b u. Ok (inr (s, b), u))) e

  abbrev called : Spelled
  called = record { name = call; quoted = false }

  called_opens : (r : List Token) → parens r ≡ true → pick called r ≡ true
  called_opens r o = ap (λ a. a && parens r) self ∙ o

  led_complete : (m : ℕ) → n ≤ m → (d : A ⊎ (Spelled × B)) (rest : List Token) → length (tok_led d) ≤ l → EndsLed rest → led call P Q m (tok_led d ++ rest) ≡ Ok (d, rest)
  led_complete m le (inl a) rest h ends = call_ok m called (tokA a ++ rest) rest a (called_opens (tokA a ++ rest) (opens a rest)) (p.complete m le a rest (omega arith) ends.0)
  led_complete m le (inr x) rest h ends = plain_ok m x.0 (tokB x.1 ++ rest) rest x.1 (and_no (is_call call x.0) (parens (tokB x.1 ++ rest)) (shut x.1 rest ends.1)) (q.complete m le x.1 rest (omega arith) ends.1)

  led_parts : {R : Type 0} (ts : List Token) (d : A ⊎ (Spelled × B)) (r : List Token) → led call P Q n ts ≡ Ok (d, r)
      → ((s : Spelled) (mid : List Token) (a : A) → ts ≡ t.Name s.name s.quoted ∷ mid → pick s mid ≡ true → P n mid ≡ Ok (a, r) → d ≡ inl a → R)
      → ((s : Spelled) (mid : List Token) (b : B) → ts ≡ t.Name s.name s.quoted ∷ mid → pick s mid ≡ false → Q n mid ≡ Ok (b, r) → d ≡ inr (s, b) → R) → R
  led_parts ts d r e k j = then_ok (go n) (name n ts) (d, r) e (λ s mid f g.
      let text = (name_at n (length ts)).sound ts s mid f in
      if_cases (pick s mid) _ _ _ g
      (λ c h. then_ok (λ a u. Ok (inl a, u)) (P n mid) (d, r) h (λ a u i v. let same = pair_same (inl a) d u r v in k s mid a text c (i ∙ ap (λ z. Ok (a, z)) same.1) (sym same.0)))
      (λ c h. then_ok (λ b u. Ok (inr (s, b), u)) (Q n mid) (d, r) h (λ b u i v. let same = pair_same (inr (s, b)) d u r v in j s mid b text c (i ∙ ap (λ z. Ok (b, z)) same.1) (sym same.0))))

  led_sound : (ts : List Token) (d : A ⊎ (Spelled × B)) (r : List Token) → led call P Q n ts ≡ Ok (d, r) → ts ≡ tok_led d ++ r
  led_sound ts d r e = led_parts ts d r e
      (λ s mid a text c f is. text ∙ (λ i. only s (and_both (is_call call s) (parens mid) c).0 i ∷ p.sound mid a r f i) ∙ ap (λ o. tok_led o ++ r) (sym is))
      (λ s mid b text c f is. text ∙ ap (λ w. t.Name s.name s.quoted ∷ w) (q.sound mid b r f) ∙ ap (λ o. tok_led o ++ r) (sym is))

  same_pick : (s : Spelled) (mid xs : List Token) (x : Token) (r y : List Token) → mid ≡ xs ++ x ∷ r → pick s (xs ++ x ∷ y) ≡ pick s mid
  same_pick s mid xs x r y is = ap (λ b. is_call call s && b) (begins_same (is_sign sign.Open) (parens mid) mid xs x r y refl is)

  led_holds : (ts : List Token) (d : A ⊎ (Spelled × B)) (r : List Token) → led call P Q n ts ≡ Ok (d, r) → (m : ℕ) → n ≤ m → (x : Token) (r' y : List Token) → r ≡ x ∷ r' → led call P Q m (tok_led d ++ x ∷ y) ≡ Ok (d, x ∷ y)
  led_holds ts d r e m le x r' y has = led_parts ts d r e
      (λ s mid a text c f is. subst (λ o. led call P Q m (tok_led o ++ x ∷ y) ≡ Ok (o, x ∷ y)) (sym is)
      (call_ok m called (tokA a ++ x ∷ y) (x ∷ y) a (called_opens (tokA a ++ x ∷ y) (opens a (x ∷ y))) (p.holds mid a r f m le x r' y has)))
      (λ s mid b text c f is. subst (λ o. led call P Q m (tok_led o ++ x ∷ y) ≡ Ok (o, x ∷ y)) (sym is)
      (plain_ok m s (tokB b ++ x ∷ y) (x ∷ y) b (same_pick s mid (tokB b) x r' y (q.sound mid b r f ∙ ap (λ w. tokB b ++ w) has) ∙ c) (q.holds mid b r f m le x r' y has)))

  no_name : (ts r : List Token) → length ts ≤ l → name n ts ≡ Err r → Fault (led call P Q) tok_led n ts r
  no_name ts r h e =
      let F = (name_at n l).fault ts r h e in
      record {
        front = F.front;
        cut = F.cut;
        stays = λ m le x r' y is. ap (after (go m)) (F.stays m le x r' y is);
        more = F.more ++ tokB b0;
        by = inr (F.by, b0);
        done = sym (append_assoc F.front F.more (tokB b0)) ∙ ap (λ (w : List Token). w ++ tokB b0) F.done;
      }

  call_stuck : (ts mid r : List Token) (s : Spelled) → length ts ≤ l → ts ≡ t.Name s.name s.quoted ∷ mid → pick s mid ≡ true → P n mid ≡ Err r → Fault (led call P Q) tok_led n ts r
  call_stuck ts mid r s h text c e =
      let len = ap length text in
      let F = p.fault mid r (omega arith) e in
      record {
        front = t.Name s.name s.quoted ∷ F.front;
        cut = text ∙ ap (λ w. t.Name s.name s.quoted ∷ w) F.cut;
        stays = λ m le x r' y is. call_err m s (F.front ++ x ∷ y) (x ∷ y) (same_pick s mid F.front x r' y (F.cut ∙ ap (λ w. F.front ++ w) is) ∙ c) (F.stays m le x r' y is);
        more = F.more;
        by = inl F.by;
        done = λ i. only s (and_both (is_call call s) (parens mid) c).0 i ∷ F.done i;
      }

  plain_stuck : (ts mid r : List Token) (s : Spelled) → length ts ≤ l → ts ≡ t.Name s.name s.quoted ∷ mid → pick s mid ≡ false → Q n mid ≡ Err r → Fault (led call P Q) tok_led n ts r
  plain_stuck ts mid r s h text c e =
      let len = ap length text in
      let F = q.fault mid r (omega arith) e in
      record {
        front = t.Name s.name s.quoted ∷ F.front;
        cut = text ∙ ap (λ w. t.Name s.name s.quoted ∷ w) F.cut;
        stays = λ m le x r' y is. plain_err m s (F.front ++ x ∷ y) (x ∷ y) (same_pick s mid F.front x r' y (F.cut ∙ ap (λ w. F.front ++ w) is) ∙ c) (F.stays m le x r' y is);
        more = F.more;
        by = inr (s, F.by);
        done = ap (λ w. t.Name s.name s.quoted ∷ w) F.done;
      }

  led_fault : (ts r : List Token) → length ts ≤ l → led call P Q n ts ≡ Err r → Fault (led call P Q) tok_led n ts r
  led_fault ts r h e = then_err (go n) (name n ts) r e (no_name ts r h) (λ s mid f g.
      let text = (name_at n (length ts)).sound ts s mid f in
      if_cases (pick s mid) _ _ _ g
      (λ c i. then_err (λ a u. Ok (inl a, u)) (P n mid) r i (call_stuck ts mid r s h text c) (λ a u j v. cc))
      (λ c i. then_err (λ b u. Ok (inr (s, b), u)) (Q n mid) r i (plain_stuck ts mid r s h text c) (λ b u j v. cc)))

  pub led_at : At (led call P Q) tok_led EndsLed n l
  led_at = record { complete = led_complete; sound = led_sound; holds = led_holds; fault = led_fault }
