-- A text has one outcome.
use Rattle.std.proofs.Common.{◌≡◌, ℕ, ◌+◌, Bool, true, false, List, [], ◌∷◌, ◌++◌, length, append_assoc, append-nil, refl, sym, ap, ◌∙◌, subst, arith, ◌⊎◌, inl, inr}
use Rattle.std.specs.Prelude.{Ok, Err, Option, Some, None, codes, not, if◌then◌else◌}
use Rattle.sql_tokens.specs.declared.token.Token.{Token}
use Rattle.sql_tokens.specs.declared.token.Token.TheVariants as t
use Rattle.sql_tokens.specs.declared.token.Placed.{Placed}
use Rattle.sql_tokens.specs.declared.keyword.Keyword.TheVariants as word
use Rattle.sql_tokens.specs.declared.sign.Sign.TheVariants as sign
use Rattle.sql_tokens.specs.Lexing.{Lexes}
use Rattle.sql_tokens.proofs.Whole.{one_lexing}
use Rattle.sql_tree.specs.declared.statement.Statement.{Statement}
use Rattle.sql_tree.specs.Grammar as grammar
use Rattle.sql_tree.specs.Grammar.{Body, Text, text_tokens, text_tree}
use Rattle.sql_tree.specs.Spelling.{Spells, IsSettable, tokens_of}
use Rattle.sql_outcomes.specs.declared.refusal.SqlKind.{SqlKind}
use Rattle.sql_outcomes.specs.declared.refusal.SqlKind.TheVariants as kind
use Rattle.sql_outcomes.specs.Outside.{is_outside, is_settable, sets_other, set_place, is_set, outside_place}
use Rattle.sql_outcomes.specs.Outcome.{is_shallow, SpelledAs, Begins, IsFault, place_after, IsMisspelled, IsOutside, Outcome, IsOutcome}
use Rattle.sql_derivations.proofs.Wholes.{one_derivation}

-- ---- two fronts of one list

compare : {A : Type 0} (f g r s : List A) → f ++ r ≡ g ++ s → (R : Type 0) → (r ≡ s → R) → ((x : A) (xs : List A) → g ≡ f ++ x ∷ xs → r ≡ x ∷ (xs ++ s) → R) → ((x : A) (xs : List A) → f ≡ g ++ x ∷ xs → s ≡ x ∷ (xs ++ r) → R) → R
compare [] [] r s e R a b c = a e
compare [] (y ∷ g) r s e R a b c = b y g refl e
compare (x ∷ f) [] r s e R a b c = c x f refl (sym e)
compare (x ∷ f) (y ∷ g) r s e R a b c =
    let head : x ≡ y = cc in
    let more : f ++ r ≡ g ++ s = cc in
    compare f g r s more R a (λ z zs is at. b z zs (λ i. sym head i ∷ is i) at) (λ z zs is at. c z zs (λ i. head i ∷ is i) at)

tokens_append : (xs ys : List Placed) → tokens_of (xs ++ ys) ≡ tokens_of xs ++ tokens_of ys
tokens_append [] ys = refl
tokens_append (x ∷ xs) ys = ap (λ w. x.token ∷ w) (tokens_append xs ys)

one_further : (front : List Token) (x : Token) (xs : List Token) → Begins (front ++ x ∷ xs) → Begins (front ++ x ∷ [])
one_further front x xs b = (xs ++ b.0, b.1, append_assoc front (x ∷ []) (xs ++ b.0) ∙ sym (append_assoc front (x ∷ xs) b.0) ∙ b.2)

goes_further : (f g : List Placed) (x : Placed) (xs : List Placed) → g ≡ f ++ x ∷ xs → Begins (tokens_of g) → Begins (tokens_of f ++ x.token ∷ [])
goes_further f g x xs e b = one_further (tokens_of f) x.token (tokens_of xs) (subst Begins (ap tokens_of e ∙ tokens_append f (x ∷ xs)) b)

one_fault : (placed r s : List Placed) → IsFault placed r → IsFault placed s → r ≡ s
one_fault placed r s a b = compare a.front b.front r s (sym a.cut ∙ b.cut) (r ≡ s) (λ e. e)
    (λ x xs is at. absurd (a.stops x (xs ++ s) at (goes_further a.front b.front x xs is b.begins)))
    (λ x xs is at. absurd (b.stops x (xs ++ r) at (goes_further b.front a.front x xs is a.begins)))

-- ---- what is spelled

whole_begins : (placed : List Placed) (front : List Placed) (p : Placed) (more : List Placed) (x : Text) → tokens_of placed ≡ text_tokens x → placed ≡ front ++ p ∷ more → Begins (tokens_of front ++ p.token ∷ [])
whole_begins placed front p more x e cut =
    one_further (tokens_of front) p.token (tokens_of more) ([], x, append-nil (tokens_of front ++ p.token ∷ tokens_of more) ∙ sym (tokens_append front (p ∷ more)) ∙ sym (ap tokens_of cut) ∙ e)

pub no_misspelling : (placed rest : List Placed) (x : Text) → tokens_of placed ≡ text_tokens x → IsFault placed rest → rest ≡ []
no_misspelling placed [] x e f = refl
no_misspelling placed (p ∷ more) x e f = absurd (f.stops p more refl (whole_begins placed f.front p more x e f.cut))

inside_first : (p : Placed) (more : List Placed) (x : Token) → p.token ≡ x → is_outside x ≡ false → is_set x ≡ false → outside_place (p ∷ more) ≡ None
inside_first p more x e o s = ap (λ w. if is_outside w then Some p.place else (if is_set w then set_place more else None)) e ∙ (λ i. if o i then Some p.place else (if s i then set_place more else None))

inside_set : (p : Placed) (more : List Placed) → p.token ≡ t.Word word.Set → set_place more ≡ None → outside_place (p ∷ more) ≡ None
inside_set p more e s = ap (λ w. if is_outside w then Some p.place else (if is_set w then set_place more else None)) e ∙ s

settable : (name : List ℕ) → (name ≡ codes "application_name") ⊎ (name ≡ codes "extra_float_digits") → is_settable name ≡ true
settable name (inl e) = ap is_settable e
settable name (inr e) = ap is_settable e

sets_one : (more : List Placed) (name : List ℕ) (quoted : Bool) (ts : List Token) → tokens_of more ≡ t.Name name quoted ∷ ts → is_settable name ≡ true → set_place more ≡ None
sets_one [] name quoted ts e s = refl
sets_one (q ∷ more) name quoted ts e s =
    let same : q.token ≡ t.Name name quoted = cc in
    ap (λ w. if sets_other w then Some q.place else None) same ∙ ap (λ b. if not b then Some q.place else None) s

abbrev with_body : Option Body → Bool → Text
with_body b semicolon = record { body = b; semicolon = semicolon }

inside_body : (p : Placed) (more : List Placed) (b : Body) (semicolon : Bool) → p.token ∷ tokens_of more ≡ text_tokens (with_body (Some b) semicolon) → IsSettable (grammar.body_tree b) → outside_place (p ∷ more) ≡ None
inside_body p more (grammar.select q) semicolon e s = let first : p.token ≡ t.Word word.Select = cc in inside_first p more (t.Word word.Select) first refl refl
inside_body p more (grammar.insert table names rows) semicolon e s = let first : p.token ≡ t.Word word.Insert = cc in inside_first p more (t.Word word.Insert) first refl refl
inside_body p more (grammar.update table pairs cond) semicolon e s = let first : p.token ≡ t.Word word.Update = cc in inside_first p more (t.Word word.Update) first refl refl
inside_body p more (grammar.delete table cond) semicolon e s = let first : p.token ≡ t.Word word.Delete = cc in inside_first p more (t.Word word.Delete) first refl refl
inside_body p more (grammar.set name to value) semicolon e s =
    let first : p.token ≡ t.Word word.Set = cc in
    let rest : tokens_of more ≡ t.Name name.name name.quoted ∷ ((grammar.to_token to ∷ grammar.setting_tokens value) ++ grammar.semicolon_tokens semicolon) = cc in
    inside_set p more first (sets_one more name.name name.quoted _ rest (settable name.name s))

inside_text : (placed : List Placed) (body : Option Body) (semicolon : Bool) → tokens_of placed ≡ text_tokens (with_body body semicolon) → IsSettable (text_tree (with_body body semicolon)) → outside_place placed ≡ None
inside_text [] body semicolon e s = refl
inside_text (p ∷ more) (Some b) semicolon e s = inside_body p more b semicolon e s
inside_text (p ∷ more) None true e s = let first : p.token ≡ t.Sign sign.Semicolon = cc in inside_first p more (t.Sign sign.Semicolon) first refl refl
inside_text (p ∷ more) None false e s = cc

pub inside : (placed : List Placed) (tree : Statement) → Spells (tokens_of placed) tree → outside_place placed ≡ None
inside placed tree s = inside_text placed s.by.body s.by.semicolon s.derives (subst IsSettable s.is s.settable)

-- ---- one outcome

module _ (text : List ℕ) where
  same_lexing : (a b : List Placed) (f g : Option ℕ) → Lexes 0 text a f → Lexes 0 text b g → (a ≡ b) × (f ≡ g)
  same_lexing a b f g k l = one_lexing 0 text a b f g k l

  same_by : (a b : List Placed) (x y : Statement) (s : Spells (tokens_of a) x) (u : Spells (tokens_of b) y) → a ≡ b → s.by ≡ u.by
  same_by a b x y s u e = one_derivation s.by u.by (sym s.derives ∙ ap tokens_of e ∙ u.derives)

  pub same_spelled : (p q : Bool) (x y : Statement) → SpelledAs text p x → SpelledAs text q y → (x ≡ y) × (p ≡ q)
  same_spelled p q x y a b =
      let placed = (same_lexing a.placed b.placed None None a.lexes b.lexes).0 in
      let by = same_by a.placed b.placed x y a.spells b.spells placed in
      let tree = a.spells.is ∙ ap text_tree by ∙ sym b.spells.is in
      (tree, sym a.depth ∙ (λ i. is_shallow (by i) (tree i)) ∙ b.depth)

  spelled_inside : (p : Bool) (x : Statement) (place : ℕ) → SpelledAs text p x → IsOutside text place → ⊥
  spelled_inside p x place a b =
      let same = (same_lexing a.placed b.placed None b.bad a.lexes b.lexes).0 in
      let none = inside a.placed x a.spells in
      let some = ap outside_place same ∙ b.outside in
      let both : None ≡ Some place = sym none ∙ some in cc

  spelled_right : (p : Bool) (x : Statement) (place : ℕ) → SpelledAs text p x → IsMisspelled text place → ⊥
  spelled_right p x place a b =
      let same = same_lexing a.placed b.placed None b.bad a.lexes b.lexes in
      let whole = ap tokens_of (sym same.0) ∙ a.spells.derives in
      let none = no_misspelling b.placed b.rest a.spells.by whole b.fault in
      b.none none (sym same.1) x (subst (λ w. Spells (tokens_of w) x) same.0 a.spells)

  inside_misspelled : (p q : ℕ) → IsOutside text p → IsMisspelled text q → ⊥
  inside_misspelled p q a b =
      let same = (same_lexing a.placed b.placed a.bad b.bad a.lexes b.lexes).0 in
      let both : Some p ≡ None = sym a.outside ∙ ap outside_place same ∙ b.inside in cc

  same_outside : (p q : ℕ) → IsOutside text p → IsOutside text q → p ≡ q
  same_outside p q a b =
      let same = (same_lexing a.placed b.placed a.bad b.bad a.lexes b.lexes).0 in
      let both : Some p ≡ Some q = sym a.outside ∙ ap outside_place same ∙ b.outside in cc

  same_misspelled : (p q : ℕ) → IsMisspelled text p → IsMisspelled text q → p ≡ q
  same_misspelled p q a b =
      let same = same_lexing a.placed b.placed a.bad b.bad a.lexes b.lexes in
      let rest = one_fault b.placed a.rest b.rest (subst (λ w. IsFault w a.rest) same.0 a.fault) b.fault in
      a.at ∙ (λ i. place_after (rest i) (same.1 i) (length text)) ∙ sym b.at

  module _ (limit : ℕ) where
    abbrev Refuses : SqlKind → ℕ → Type 0
    Refuses k p = IsOutcome text limit (Err (record { place = p; kind = k }))

    spelled_refused : (x : Statement) (k : SqlKind) (p : ℕ) → IsOutcome text limit (Ok x) → Refuses k p → ⊥
    spelled_refused x kind.TooLong p a b = let h = a.0 in let g = b.0 in omega arith
    spelled_refused x kind.OutsideProfile p a b = spelled_inside true x p a.1 b.1
    spelled_refused x kind.Syntax p a b = spelled_right true x p a.1 b.1
    spelled_refused x kind.TooDeep p a b = let s = (same_spelled true false x b.2.0 a.1 b.2.1).1 in cc

    same_refusal : (k m : SqlKind) (p q : ℕ) → Refuses k p → Refuses m q → (k ≡ m) × (p ≡ q)
    same_refusal kind.TooLong kind.TooLong p q a b = (refl, a.1 ∙ sym b.1)
    same_refusal kind.TooLong kind.OutsideProfile p q a b = absurd (let h = a.0 in let g = b.0 in omega arith)
    same_refusal kind.TooLong kind.Syntax p q a b = absurd (let h = a.0 in let g = b.0 in omega arith)
    same_refusal kind.TooLong kind.TooDeep p q a b = absurd (let h = a.0 in let g = b.0 in omega arith)
    same_refusal kind.OutsideProfile kind.TooLong p q a b = absurd (let h = a.0 in let g = b.0 in omega arith)
    same_refusal kind.OutsideProfile kind.OutsideProfile p q a b = (refl, same_outside p q a.1 b.1)
    same_refusal kind.OutsideProfile kind.Syntax p q a b = absurd (inside_misspelled p q a.1 b.1)
    same_refusal kind.OutsideProfile kind.TooDeep p q a b = absurd (spelled_inside false b.2.0 p b.2.1 a.1)
    same_refusal kind.Syntax kind.TooLong p q a b = absurd (let h = a.0 in let g = b.0 in omega arith)
    same_refusal kind.Syntax kind.OutsideProfile p q a b = absurd (inside_misspelled q p b.1 a.1)
    same_refusal kind.Syntax kind.Syntax p q a b = (refl, same_misspelled p q a.1 b.1)
    same_refusal kind.Syntax kind.TooDeep p q a b = absurd (spelled_right false b.2.0 p b.2.1 a.1)
    same_refusal kind.TooDeep kind.TooLong p q a b = absurd (let h = a.0 in let g = b.0 in omega arith)
    same_refusal kind.TooDeep kind.OutsideProfile p q a b = absurd (spelled_inside false a.2.0 q a.2.1 b.1)
    same_refusal kind.TooDeep kind.Syntax p q a b = absurd (spelled_right false a.2.0 q a.2.1 b.1)
    same_refusal kind.TooDeep kind.TooDeep p q a b = (refl, a.1 ∙ sym b.1)

    pub one_outcome : (o p : Outcome) → IsOutcome text limit o → IsOutcome text limit p → o ≡ p
    one_outcome (Ok x) (Ok y) a b = ap Ok (same_spelled true true x y a.1 b.1).0
    one_outcome (Ok x) (Err r) a b = absurd (spelled_refused x r.kind r.place a b)
    one_outcome (Err r) (Ok y) a b = absurd (spelled_refused y r.kind r.place b a)
    one_outcome (Err r) (Err s) a b = let e = same_refusal r.kind s.kind r.place s.place a b in λ i. Err (record { place = e.1 i; kind = e.0 i })
