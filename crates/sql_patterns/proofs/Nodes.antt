-- What a condition of a pattern matches, node by node.
use Rattle.std.proofs.Common.{◌≡◌, Bool, List, [], ◌∷◌, map, refl, sym, ap, ◌∙◌}
use Rattle.std.specs.Prelude.{◌&&◌}
use Rattle.sql_tree.specs.declared.condition.Cond.{Cond, out-Cond}
use Rattle.sql_tree.specs.declared.condition.Cond.TheVariants as tree
use Rattle.sql_tree.specs.declared.condition.Cond.TheOpen.{Cond-F}
use Rattle.sql_tree.specs.declared.condition.Cond.TheFolds.{fold-roll-Cond}
use Rattle.sql_tree.specs.declared.condition.Cond.TheViews.{out-roll-Cond}
use Rattle.sql_patterns.specs.Matching.{all_match, apply, match_step, cond_matches}

pub all_applied : {A B : Type 0} (test : A → B → Bool) (xs : List A) (ys : List B) → all_match apply (map test xs) ys ≡ all_match test xs ys
all_applied test [] [] = refl
all_applied test [] (y ∷ ys) = refl
all_applied test (x ∷ xs) [] = refl
all_applied test (x ∷ xs) (y ∷ ys) = ap (λ b. test x y && b) (all_applied test xs ys)

module _ (holes : Bool) where
  abbrev Step : Cond-F (Cond → Bool) → Cond → Bool
  Step tests cond = match_step holes tests (out-Cond cond)

  pub match-And : (tests : List Cond) (c : Cond) → cond_matches holes (tree.And tests) c ≡ match_step holes (Cond-F.And (map (cond_matches holes) tests)) (out-Cond c)
  match-And tests c = ap (λ p. cond_matches holes p c) (sym (tree.rolls-And tests)) ∙ (λ i. fold-roll-Cond (Cond → Bool) Step (Cond-F.And tests) i c)

  pub both-And : (tests parts : List Cond) → cond_matches holes (tree.And tests) (tree.And parts) ≡ all_match (cond_matches holes) tests parts
  both-And tests parts =
      match-And tests (tree.And parts) ∙ ap (match_step holes (Cond-F.And (map (cond_matches holes) tests))) (ap out-Cond (sym (tree.rolls-And parts)) ∙ out-roll-Cond (Cond-F.And parts))
      ∙ all_applied (cond_matches holes) tests parts

  pub match-Or : (tests : List Cond) (c : Cond) → cond_matches holes (tree.Or tests) c ≡ match_step holes (Cond-F.Or (map (cond_matches holes) tests)) (out-Cond c)
  match-Or tests c = ap (λ p. cond_matches holes p c) (sym (tree.rolls-Or tests)) ∙ (λ i. fold-roll-Cond (Cond → Bool) Step (Cond-F.Or tests) i c)

  pub both-Or : (tests parts : List Cond) → cond_matches holes (tree.Or tests) (tree.Or parts) ≡ all_match (cond_matches holes) tests parts
  both-Or tests parts =
      match-Or tests (tree.Or parts) ∙ ap (match_step holes (Cond-F.Or (map (cond_matches holes) tests))) (ap out-Cond (sym (tree.rolls-Or parts)) ∙ out-roll-Cond (Cond-F.Or parts))
      ∙ all_applied (cond_matches holes) tests parts
