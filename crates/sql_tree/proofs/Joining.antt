-- Parts with a token between them, one after the other.
use Rattle.std.proofs.Common.{◌≡◌, ℕ, ◌+◌, ◌-◌, ◌<◌, ◌≤◌, ◌==◌, true, false, List, [], ◌∷◌, ◌++◌, length, take, drop, get_or, map, append_assoc, append-nil, refl, sym, ap, ◌∙◌, arith}
use Rattle.std.specs.Prelude.{not}
use Rattle.std.specs.List.{flat_map}
use Rattle.std.proofs.lemmas.Grind.{common_steps}
use Rattle.std.proofs.lemmas.Bool.Decides.{nat_tests}
use Rattle.sql_tokens.specs.declared.token.Token.{Token}
use Rattle.sql_tree.specs.Shapes.{joined, child, Shape}
use Rattle.sql_tree.specs.Writing.{token_if}
use Rattle.sql_tokens.specs.declared.sign.Sign.TheVariants as sign
use Rattle.sql_tokens.specs.declared.token.Token.TheVariants as t

flat-append : {A : Type 0} (f : A → List Token) (xs ys : List A) → flat_map f (xs ++ ys) ≡ flat_map f xs ++ flat_map f ys
flat-append f [] ys = refl
flat-append f (x ∷ xs) ys = ap (λ (zs : List Token). f x ++ zs) (flat-append f xs ys) ∙ sym (append_assoc (f x) (flat_map f xs) (flat_map f ys))

pub others_more : {A : Type 0} (f : A → List Token) (parts : List A) (i : ℕ) (x : A) → i < length parts → x ≡ get_or parts i x → flat_map f (take (i + 1) parts) ≡ flat_map f (take i parts) ++ f x
others_more f parts i x h e =
    let s : take (i + 1) parts ≡ take i parts ++ x ∷ [] = grind (arith, common_steps) in
    ap (flat_map f) s ∙ flat-append f (take i parts) (x ∷ []) ∙ ap (λ (zs : List Token). flat_map f (take i parts) ++ zs) (append-nil (f x))

pub joined_first : {A : Type 0} (by : Token) (f : A → List Token) (parts : List A) (x : A) → 1 ≤ length parts → x ≡ get_or parts 0 x → joined by f parts ≡ f x ++ flat_map (λ b. by ∷ f b) (take (length parts - 1) (drop 1 parts))
joined_first by f [] x h e = absurd (omega arith)
joined_first by f (a ∷ more) x h e =
    let t : take (length (a ∷ more) - 1) (drop 1 (a ∷ more)) ≡ more = grind (arith, common_steps) in
    (λ i. f (sym e i) ++ flat_map (λ b. by ∷ f b) (sym t i))

-- one part more
snoc : {A : Type 0} (by : Token) (f : A → List Token) (xs : List A) (x : A) → joined by f (xs ++ x ∷ []) ≡ joined by f xs ++ (token_if (not (length xs == 0)) by ++ f x)
snoc by f [] x = append-nil (f x)
snoc {A} by f (a ∷ xs) x =
    ap (λ (zs : List Token). f a ++ zs) (flat-append (λ b. by ∷ f b) xs (x ∷ []) ∙ ap (λ (zs : List Token). flat_map (λ b. by ∷ f b) xs ++ zs) (append-nil (by ∷ f x)))
    ∙ sym (append_assoc (f a) (flat_map (λ b. by ∷ f b) xs) (by ∷ f x)) ∙ ap (λ b. joined by f (a ∷ xs) ++ (token_if (not b) by ++ f x)) (some_length xs)
  where
    some_length : (xs : List A) → false ≡ (length (a ∷ xs) == 0)
    some_length xs = grind (arith, nat_tests)

pub in_or_out : (s : Shape) → child s ≡ token_if s.0 (t.Sign sign.Open) ++ (s.1 ++ token_if s.0 (t.Sign sign.Close))
in_or_out (true, tokens) = refl
in_or_out (false, tokens) = sym (append-nil tokens)

pub joined_more : {A : Type 0} (by : Token) (f : A → Shape) (parts : List A) (i : ℕ) (x : A) → i < length parts → x ≡ get_or parts i x
    → joined by child (map f (take (i + 1) parts)) ≡ joined by child (map f (take i parts)) ++ (token_if (not (i == 0)) by ++ (token_if (f x).0 (t.Sign sign.Open) ++ ((f x).1 ++ token_if (f x).0 (t.Sign sign.Close))))
joined_more by f parts i x h e =
    let s : map f (take (i + 1) parts) ≡ map f (take i parts) ++ f x ∷ [] = grind (arith, common_steps) in
    let l : length (map f (take i parts)) ≡ i = grind (arith, common_steps) in
    ap (joined by child) s ∙ snoc by child (map f (take i parts)) (f x)
    ∙ (λ k. joined by child (map f (take i parts)) ++ (token_if (not (l k == 0)) by ++ in_or_out (f x) k))
