-- A text in quotes, and what follows it, are fixed by the bytes.
use Rattle.std.proofs.Common.{◌≡◌, ℕ, ◌⊎◌, nat_eq, ◌==◌, true, false, inl, inr, List, [], ◌∷◌, ◌++◌, ap, subst, ◌∙◌, refl, sym, arith, append_assoc}
use Rattle.std.specs.Prelude.{if◌then◌else◌}
use Rattle.std.specs.List.{list_all}
use Rattle.std.proofs.lemmas.List.{append-nil}
use Rattle.std.proofs.lemmas.Grind.{common_steps}
use Rattle.std.proofs.lemmas.Bool.Decides.{nat_tests, eqb_tells}
use Rattle.sql_tokens.specs.declared.runs.Run.TheVariants as run
use Rattle.sql_tokens.specs.Classes.{Stops}
use Rattle.sql_tokens.specs.Tokens.{doubled}
use Rattle.sql_tokens.specs.Runs.{run_test}

is_quote : (q c : ℕ) → c ≡ q → (c == q) ≡ true
is_quote q c e = grind (arith, nat_tests)

not_quote : (q c : ℕ) → (c ≡ q → ⊥) → (c == q) ≡ false
not_quote q c other = grind (arith, nat_tests)

module _ (q : ℕ) where
  pub quote_or_other : (c : ℕ) → (c ≡ q) ⊎ (c ≡ q → ⊥)
  quote_or_other c = elim (eqb_tells c q) [ inl h ↦ inl h.1 | inr h ↦ inr h.1 ]

  pub doubled_own : (c : ℕ) (xs : List ℕ) → c ≡ q → doubled q (c ∷ xs) ≡ q ∷ q ∷ doubled q xs
  doubled_own c xs e = ap (λ b. (if b then q ∷ q ∷ [] else c ∷ []) ++ doubled q xs) (is_quote q c e)

  pub doubled_other : (c : ℕ) (xs : List ℕ) → (c ≡ q → ⊥) → doubled q (c ∷ xs) ≡ c ∷ doubled q xs
  doubled_other c xs other = ap (λ b. (if b then q ∷ q ∷ [] else c ∷ []) ++ doubled q xs) (not_quote q c other)

  -- the first byte, before what follows
  abbrev First : ℕ → List ℕ → List ℕ → Type 0
  First a more rest = ((a ≡ q) × (doubled q (a ∷ more) ++ rest ≡ q ∷ q ∷ (doubled q more ++ rest))) ⊎ ((a ≡ q → ⊥) × (doubled q (a ∷ more) ++ rest ≡ a ∷ (doubled q more ++ rest)))

  first_byte : (a : ℕ) (more rest : List ℕ) → First a more rest
  first_byte a more rest = elim (quote_or_other a) [
    | inl e ↦ inl (e, ap (λ text. text ++ rest) (doubled_own a more e))
    | inr other ↦ inr (other, ap (λ text. text ++ rest) (doubled_other a more other))
  ]

  no_quote_after : (x more : List ℕ) → Stops (nat_eq q) x → x ≡ q ∷ more → ⊥
  no_quote_after x more s e = let t : nat_eq q q ≡ false = subst (Stops (nat_eq q)) e s in let u = is_quote q q refl in cc

  closed_early : (b : ℕ) (more rest x : List ℕ) → Stops (nat_eq q) x → q ∷ x ≡ doubled q (b ∷ more) ++ rest → ⊥
  closed_early b more rest x s e = elim (first_byte b more rest) [
    | inl f ↦ let g : q ∷ x ≡ q ∷ q ∷ (doubled q more ++ rest) = e ∙ f.1 in no_quote_after x (doubled q more ++ rest) s cc
    | inr f ↦ let g : q ∷ x ≡ b ∷ (doubled q more ++ rest) = e ∙ f.1 in f.0 cc
  ]

  one_step : (a b : ℕ) (others more x y : List ℕ) → doubled q (a ∷ others) ++ q ∷ x ≡ doubled q (b ∷ more) ++ q ∷ y → First a others (q ∷ x) → First b more (q ∷ y)
      → (doubled q others ++ q ∷ x ≡ doubled q more ++ q ∷ y → (others ≡ more) × (x ≡ y)) → (a ∷ others ≡ b ∷ more) × (x ≡ y)
  one_step a b others more x y e (inl f) (inl g) go =
      let h : q ∷ q ∷ (doubled q others ++ q ∷ x) ≡ q ∷ q ∷ (doubled q more ++ q ∷ y) = sym f.1 ∙ e ∙ g.1 in
      let r = go (cc) in
      let p = f.0 in let k = g.0 in let tail = r.0 in (cc, r.1)
  one_step a b others more x y e (inl f) (inr g) go = let h : q ∷ q ∷ (doubled q others ++ q ∷ x) ≡ b ∷ (doubled q more ++ q ∷ y) = sym f.1 ∙ e ∙ g.1 in absurd (g.0 cc)
  one_step a b others more x y e (inr f) (inl g) go = let h : a ∷ (doubled q others ++ q ∷ x) ≡ q ∷ q ∷ (doubled q more ++ q ∷ y) = sym f.1 ∙ e ∙ g.1 in absurd (f.0 cc)
  one_step a b others more x y e (inr f) (inr g) go =
      let h : a ∷ (doubled q others ++ q ∷ x) ≡ b ∷ (doubled q more ++ q ∷ y) = sym f.1 ∙ e ∙ g.1 in
      let r = go (cc) in
      let head : a ≡ b = cc in let tail = r.0 in (cc, r.1)

  pub one_content : (a b x y : List ℕ) → Stops (nat_eq q) x → Stops (nat_eq q) y → doubled q a ++ q ∷ x ≡ doubled q b ++ q ∷ y → (a ≡ b) × (x ≡ y)
  one_content [] [] x y s t e = (refl, cc)
  one_content [] (b ∷ more) x y s t e = absurd (closed_early b more (q ∷ y) x s e)
  one_content (a ∷ more) [] x y s t e = absurd (closed_early a more (q ∷ x) y t (sym e))
  one_content (a ∷ others) (b ∷ more) x y s t e =
      let left = first_byte a others (q ∷ x) in
      let right = first_byte b more (q ∷ y) in
      one_step a b others more x y e left right (λ f. one_content others more x y s t f)

  unclosed_step : (a b : ℕ) (others more y : List ℕ) → doubled q (a ∷ others) ++ [] ≡ doubled q (b ∷ more) ++ q ∷ y → First a others [] → First b more (q ∷ y)
      → (doubled q others ≡ doubled q more ++ q ∷ y → ⊥) → ⊥
  unclosed_step a b others more y e (inl f) (inl g) go =
      let h : q ∷ q ∷ (doubled q others ++ []) ≡ q ∷ q ∷ (doubled q more ++ q ∷ y) = sym f.1 ∙ e ∙ g.1 in
      let n = append-nil (doubled q others) in go cc
  unclosed_step a b others more y e (inl f) (inr g) go = let h : q ∷ q ∷ (doubled q others ++ []) ≡ b ∷ (doubled q more ++ q ∷ y) = sym f.1 ∙ e ∙ g.1 in g.0 cc
  unclosed_step a b others more y e (inr f) (inl g) go = let h : a ∷ (doubled q others ++ []) ≡ q ∷ q ∷ (doubled q more ++ q ∷ y) = sym f.1 ∙ e ∙ g.1 in f.0 cc
  unclosed_step a b others more y e (inr f) (inr g) go =
      let h : a ∷ (doubled q others ++ []) ≡ b ∷ (doubled q more ++ q ∷ y) = sym f.1 ∙ e ∙ g.1 in
      let n = append-nil (doubled q others) in go cc

  -- what isn't closed is none that is
  pub unclosed : (a b y : List ℕ) → Stops (nat_eq q) y → doubled q a ≡ doubled q b ++ q ∷ y → ⊥
  unclosed [] [] y t e = cc
  unclosed [] (b ∷ more) y t e = elim (first_byte b more (q ∷ y)) [
    | inl f ↦ let h : [] ≡ q ∷ q ∷ (doubled q more ++ q ∷ y) = e ∙ f.1 in cc
    | inr f ↦ let h : [] ≡ b ∷ (doubled q more ++ q ∷ y) = e ∙ f.1 in cc
  ]
  unclosed (a ∷ more) [] y t e = closed_early a more [] y t (sym e ∙ sym (append-nil (doubled q (a ∷ more))))
  unclosed (a ∷ others) (b ∷ more) y t e = unclosed_step a b others more y (append-nil _ ∙ e) (first_byte a others []) (first_byte b more (q ∷ y)) (λ f. unclosed others more y t f)

  -- bytes without a quote stay as they are
  doubled_plain : (xs : List ℕ) → list_all (run_test (run.Inside q)) xs ≡ true → doubled q xs ≡ xs
  doubled_plain [] h = refl
  doubled_plain (x ∷ xs) h =
      let b : (x ≡ q → ⊥) × (list_all (run_test (run.Inside q)) xs ≡ true) = grind (arith, nat_tests) in
      doubled_other x xs b.0 ∙ ap (λ ys. x ∷ ys) (doubled_plain xs b.1)

  doubled-append : (xs ys : List ℕ) → doubled q (xs ++ ys) ≡ doubled q xs ++ doubled q ys
  doubled-append xs ys = grind (arith, common_steps)

  -- one piece more
  module _ (whole content text piece mid : List ℕ) (so_far : whole ≡ q ∷ (doubled q content ++ text)) (cut : text ≡ piece ++ mid) (plain : list_all (run_test (run.Inside q)) piece ≡ true) where
    pub content_now : whole ≡ q ∷ (doubled q (content ++ piece) ++ mid)
    content_now =
        let p = doubled_plain piece plain in
        let d = doubled-append content piece in
        so_far ∙ ap (λ xs. q ∷ xs) (ap (λ xs. doubled q content ++ xs) cut ∙ sym (append_assoc (doubled q content) piece mid)
        ∙ ap (λ xs. xs ++ mid) (ap (λ xs. doubled q content ++ xs) (sym p) ∙ sym d))

    pub content_on : (next rest found grown : List ℕ) → mid ≡ q ∷ next → next ≡ q ∷ rest → found ≡ content ++ piece → grown ≡ found ++ q ∷ [] → whole ≡ q ∷ (doubled q grown ++ rest)
    content_on next rest found grown e f g h =
        let d = doubled-append (content ++ piece) (q ∷ []) in
        let o = doubled_own q [] refl in
        content_now ∙ ap (λ xs. q ∷ xs) (ap (λ xs. doubled q (content ++ piece) ++ xs) (e ∙ ap (λ xs. q ∷ xs) f)
        ∙ sym (append_assoc (doubled q (content ++ piece)) (q ∷ q ∷ []) rest)
        ∙ ap (λ xs. xs ++ rest) (ap (λ xs. doubled q (content ++ piece) ++ xs) (sym o) ∙ sym d))
        ∙ ap (λ xs. q ∷ (doubled q xs ++ rest)) (sym (h ∙ ap (λ xs. xs ++ q ∷ []) g))
