-- What is mixed of a condition, node by node.
use Rattle.std.proofs.Common.{◌≡◌, ℕ, List, [], ◌∷◌, map, length, refl, sym, ap, ◌∙◌}
use Rattle.std.proofs.lemmas.List.{length-map}
use Rattle.sql_tree.specs.declared.condition.Cond.{Cond}
use Rattle.sql_tree.specs.declared.condition.Cond.TheVariants as tree
use Rattle.sql_tree.specs.declared.condition.Cond.TheOpen.{Cond-F}
use Rattle.sql_tree.specs.declared.condition.Cond.TheFolds.{fold-roll-Cond}
use Rattle.sql_patterns.specs.Fingerprints.{mix, mix_each, run_each, mix_step, mix_cond}

each_run : (parts : List Cond) (hash : ℕ) → run_each (map mix_cond parts) hash ≡ mix_each mix_cond parts hash
each_run [] hash = refl
each_run (c ∷ parts) hash = each_run parts (mix_cond c hash)

pub mix-And : (parts : List Cond) (hash : ℕ) → mix_cond (tree.And parts) hash ≡ mix_each mix_cond parts (mix (length parts) (mix 1 hash))
mix-And parts hash =
    ap (λ c. mix_cond c hash) (sym (tree.rolls-And parts)) ∙ (λ i. fold-roll-Cond (ℕ → ℕ) mix_step (Cond-F.And parts) i hash)
    ∙ ap (λ n. run_each (map mix_cond parts) (mix n (mix 1 hash))) (length-map parts mix_cond) ∙ each_run parts (mix (length parts) (mix 1 hash))

pub mix-Or : (parts : List Cond) (hash : ℕ) → mix_cond (tree.Or parts) hash ≡ mix_each mix_cond parts (mix (length parts) (mix 2 hash))
mix-Or parts hash =
    ap (λ c. mix_cond c hash) (sym (tree.rolls-Or parts)) ∙ (λ i. fold-roll-Cond (ℕ → ℕ) mix_step (Cond-F.Or parts) i hash)
    ∙ ap (λ n. run_each (map mix_cond parts) (mix n (mix 2 hash))) (length-map parts mix_cond) ∙ each_run parts (mix (length parts) (mix 2 hash))
