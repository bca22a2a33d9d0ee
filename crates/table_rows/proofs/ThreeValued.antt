-- Three-valued logic over a list, one more at its end.
use Rattle.std.proofs.Common.{◌≡◌, ℕ, ◌+◌, ◌<◌, Bool, true, false, List, [], ◌∷◌, ◌++◌, length, take, get_or, refl, ap, ◌∙◌, sym, map, Option, Some, None}
use Rattle.std.proofs.lemmas.List.{take_more, map-append}
use Rattle.table_machine.specs.Logic.{and, or, all_of, any_of}

pub and-assoc : (a b c : Option Bool) → and (and a b) c ≡ and a (and b c)
and-assoc (Some false) b c = refl
and-assoc (Some true) b c = refl
and-assoc None (Some false) c = refl
and-assoc None (Some true) c = refl
and-assoc None None (Some false) = refl
and-assoc None None (Some true) = refl
and-assoc None None None = refl

pub or-assoc : (a b c : Option Bool) → or (or a b) c ≡ or a (or b c)
or-assoc (Some true) b c = refl
or-assoc (Some false) b c = refl
or-assoc None (Some true) c = refl
or-assoc None (Some false) c = refl
or-assoc None None (Some true) = refl
or-assoc None None (Some false) = refl
or-assoc None None None = refl

pub and-true : (a : Option Bool) → and a (Some true) ≡ a
and-true (Some true) = refl
and-true (Some false) = refl
and-true None = refl

pub or-false : (a : Option Bool) → or a (Some false) ≡ a
or-false (Some true) = refl
or-false (Some false) = refl
or-false None = refl

pub all_of-push : (ts : List (Option Bool)) (t : Option Bool) → all_of (ts ++ t ∷ []) ≡ and (all_of ts) t
all_of-push [] t = and-true t
all_of-push (u ∷ us) t = ap (and u) (all_of-push us t) ∙ sym (and-assoc u (all_of us) t)

pub any_of-push : (ts : List (Option Bool)) (t : Option Bool) → any_of (ts ++ t ∷ []) ≡ or (any_of ts) t
any_of-push [] t = or-false t
any_of-push (u ∷ us) t = ap (or u) (any_of-push us t) ∙ sym (or-assoc u (any_of us) t)

-- a loop's step, and its end
module _ {X : Type 0} (f : X → Option Bool) (xs : List X) where
  pub all_of-more : (i : ℕ) (d : X) → i < length xs → all_of (map f (take (i + 1) xs)) ≡ and (all_of (map f (take i xs))) (f (get_or xs i d))
  all_of-more i d h = rw (take_more xs i d h, map-append f (take i xs) (get_or xs i d ∷ [])) (all_of-push (map f (take i xs)) (f (get_or xs i d)))

  pub any_of-more : (i : ℕ) (d : X) → i < length xs → any_of (map f (take (i + 1) xs)) ≡ or (any_of (map f (take i xs))) (f (get_or xs i d))
  any_of-more i d h = rw (take_more xs i d h, map-append f (take i xs) (get_or xs i d ∷ [])) (any_of-push (map f (take i xs)) (f (get_or xs i d)))
