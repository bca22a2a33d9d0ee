-- The items at protected places, at the end of a list.
use Rattle.std.proofs.Common.{◌≡◌, ◌≤◌, ℕ, Bool, List, [], ◌∷◌, ◌++◌, length, drop, refl, sym, ap, ◌∙◌}
use Rattle.std.proofs.lemmas.List.{drop_all, append-nil}
use Rattle.session_model.specs.Shown.{where_protected}

none_left : {A : Type 0} (change : A → A) (ps : List Bool) → where_protected change ps [] ≡ []
none_left change [] = refl
none_left change (p ∷ ps) = refl

-- where all items are passed, nothing is left to show
pub all_shown : {A : Type 0} (change : A → A) (ps : List Bool) (items shown all : List A) (n : ℕ) → length items ≤ n → shown ++ where_protected change ps (drop n items) ≡ all → shown ≡ all
all_shown {A} change ps items shown all n h e =
    sym (append-nil shown) ∙ ap (λ (xs : List A). shown ++ xs) (sym (none_left change ps)) ∙ ap (λ (xs : List A). shown ++ where_protected change ps xs) (sym (drop_all n items h)) ∙ e
