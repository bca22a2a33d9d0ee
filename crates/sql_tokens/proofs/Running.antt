-- What runs as far as a test holds, and the rest, are fixed by the text.
use Rattle.std.proofs.Common.{◌≡◌, ℕ, ◌&&◌, Bool, true, false, List, [], ◌∷◌, ◌++◌, ap, refl, sym, ◌∙◌}
use Rattle.std.specs.Prelude.{not, ◌||◌, ◌==◌}
use Rattle.std.specs.List.{list_all, list_any}
use Rattle.std.proofs.lemmas.List.{append_cancel_right}
use Rattle.sql_tokens.specs.Classes.{Stops}

pub and_left : (a b : Bool) → (a && b) ≡ true → a ≡ true
and_left true b e = refl
and_left false b e = cc

pub and_right : (a b : Bool) → (a && b) ≡ true → b ≡ true
and_right true b e = e
and_right false b e = cc

clash : (test : ℕ → Bool) (x b : ℕ) (others : Bool) → x ≡ b → test x ≡ false → (test b && others) ≡ true → ⊥
clash test x b others e s q = let t = and_left (test b) others q in let u = ap test e in cc

pub one_run : (test : ℕ → Bool) (front bs x y : List ℕ) → list_all test front ≡ true → list_all test bs ≡ true → Stops test x → Stops test y → front ++ x ≡ bs ++ y → (front ≡ bs) × (x ≡ y)
one_run test [] [] x y p q s t e = (refl, e)
one_run test [] (b ∷ bs) [] y p q s t e = cc
one_run test [] (b ∷ bs) (x ∷ more) y p q s t e = absurd (clash test x b (list_all test bs) (cc) s q)
one_run test (a ∷ front) [] x [] p q s t e = cc
one_run test (a ∷ front) [] x (y ∷ more) p q s t e = absurd (clash test y a (list_all test front) (cc) t p)
one_run test (a ∷ front) (b ∷ bs) x y p q s t e =
    let r = one_run test front bs x y (and_right (test a) _ p) (and_right (test b) _ q) s t (cc) in
    let head : a ≡ b = cc in
    let tail = r.0 in
    (cc, r.1)

-- two lists of which the ends are one
pub same_front : (p q r s : List ℕ) → p ++ r ≡ q ++ s → r ≡ s → p ≡ q
same_front p q r s e f = append_cancel_right p q s (ap (λ (z : List ℕ). p ++ z) (sym f) ∙ e)

none_either : (a b : Bool) → false ≡ (a || b) → (a ≡ false) × (false ≡ b)
none_either true b e = cc
none_either false b e = (refl, e)

pub none_zero : (xs : List ℕ) → false ≡ list_any (λ y. y == 0) xs → list_all (λ y. not (y == 0)) xs ≡ true
none_zero [] h = refl
none_zero (x ∷ xs) h = let b = none_either (x == 0) (list_any (λ y. y == 0) xs) h in rw (b.0, none_zero xs b.1) refl
