-- Which way a reader went.
use Rattle.std.proofs.Common.{◌≡◌, Bool, true, false, List, [], ◌∷◌, ◌++◌, refl, sym, ap, ◌∙◌}
use Rattle.std.specs.Prelude.{Result, Ok, Err, if◌then◌else◌}
use Rattle.sql_tokens.specs.declared.token.Token.{Token}
use Rattle.sql_readers.specs.Readers.{Read, after, begins}

pub then_ok : {A B Q : Type 0} (f : A → List Token → Read B) (o : Read A) (y : B × List Token) → after f o ≡ Ok y → ((a : A) (r : List Token) → o ≡ Ok (a, r) → f a r ≡ Ok y → Q) → Q
then_ok f (Err r) y e k = cc
then_ok f (Ok x) y e k = k x.0 x.1 refl e

pub then_err : {A B Q : Type 0} (f : A → List Token → Read B) (o : Read A) (r : List Token) → after f o ≡ Err r → (o ≡ Err r → Q) → ((a : A) (s : List Token) → o ≡ Ok (a, s) → f a s ≡ Err r → Q) → Q
then_err f (Err s) r e h k = h (let same : s ≡ r = cc in ap Err same)
then_err f (Ok x) r e h k = k x.0 x.1 refl e

pub pair_same : {A : Type 0} (a x : A) (r s : List Token) → ◌≡◌ {A = Read A} (Ok (a, r)) (Ok (x, s)) → (a ≡ x) × (r ≡ s)
pair_same {A} a x r s e = let same : ◌≡◌ {A = A × List Token} (a, r) (x, s) = cc in (ap (λ z. z.0) same, ap (λ z. z.1) same)

pub err_same : {A : Type 0} (r s : List Token) → ◌≡◌ {A = Read A} (Err r) (Err s) → r ≡ s
err_same r s e = cc

-- ---- tests of the first token

pub if_true : {X : Type 0} (b : Bool) (x y : X) → b ≡ true → (if b then x else y) ≡ x
if_true true x y e = refl
if_true false x y e = cc

pub if_false : {X : Type 0} (b : Bool) (x y : X) → b ≡ false → (if b then x else y) ≡ y
if_false false x y e = refl
if_false true x y e = cc

pub if_cases : {X Q : Type 0} (b : Bool) (x y z : X) → (if b then x else y) ≡ z → (b ≡ true → x ≡ z → Q) → (b ≡ false → y ≡ z → Q) → Q
if_cases true x y z e k l = k refl e
if_cases false x y z e k l = l refl e

pub begins_same : (test : Token → Bool) (b : Bool) (ts xs : List Token) (t : Token) (r y : List Token) → begins test ts ≡ b → ts ≡ xs ++ t ∷ r → begins test (xs ++ t ∷ y) ≡ b
begins_same test b ts [] t r y e is = sym (ap (begins test) is) ∙ e
begins_same test b ts (x ∷ xs) t r y e is = sym (ap (begins test) is) ∙ e
