-- Whether a statement has a parameter, part by part.
use Rattle.std.proofs.Common.{◌≡◌, ℕ, ◌≤◌, Bool, ◌||◌, List, [], ◌∷◌, ◌++◌, length, take, map, Option, refl, ap, sym, ◌∙◌}
use Rattle.std.proofs.lemmas.List.{take_all}
use Rattle.std.specs.List.{flat_map}
use Rattle.sql_tree.specs.declared.condition.Cond as trees
use Rattle.sql_tree.specs.declared.condition.Cond.TheVariants as tree
use Rattle.sql_tree.specs.declared.condition.Cond.TheOpen.{Cond-F}
use Rattle.sql_tree.specs.declared.condition.Cond.TheFolds.{fold-roll-Cond}
use Rattle.sql_tree.specs.declared.statement.SetPair.{SetPair}
use Rattle.sql_tree.specs.declared.statement.Statement.{Statement}
use Rattle.sql_tree.specs.declared.statement.Statement.TheVariants as statement
use Rattle.sql_tree.specs.Spelling.{cond_step, cond_parameters, operand_parameters, option_parameters, parameters}
use Rattle.sql_tree.specs.WellFormed.{has_one}

pub has_one-append : {A : Type 0} (xs ys : List A) → has_one (xs ++ ys) ≡ (has_one xs || has_one ys)
has_one-append [] ys = refl
has_one-append (x ∷ xs) ys = refl

-- the parameters of each
flat_id : (xs : List trees.Cond) → flat_map (λ x. x) (map cond_parameters xs) ≡ flat_map cond_parameters xs
flat_id [] = refl
flat_id (x ∷ xs) = ap (λ w. cond_parameters x ++ w) (flat_id xs)

cond_parameters-And : (all : List trees.Cond) → cond_parameters (tree.And all) ≡ flat_map cond_parameters all
cond_parameters-And all = ap cond_parameters (sym (tree.rolls-And all)) ∙ fold-roll-Cond (List ℕ) cond_step (Cond-F.And all) ∙ flat_id all

cond_parameters-Or : (all : List trees.Cond) → cond_parameters (tree.Or all) ≡ flat_map cond_parameters all
cond_parameters-Or all = ap cond_parameters (sym (tree.rolls-Or all)) ∙ fold-roll-Cond (List ℕ) cond_step (Cond-F.Or all) ∙ flat_id all

-- what was found in all parts
found_in_all : (cond : trees.Cond) (items parts : List trees.Cond) (i : ℕ) (any : Bool) → cond_parameters cond ≡ flat_map cond_parameters parts → items ≡ parts → length items ≤ i
    → any ≡ has_one (flat_map cond_parameters (take i items)) → any ≡ has_one (cond_parameters cond)
found_in_all cond items parts i any e same le found =
    found ∙ ap (λ xs. has_one (flat_map cond_parameters xs)) (take_all i items le ∙ same) ∙ ap has_one (sym e)

pub found_in_and : (cond : trees.Cond) (items parts : List trees.Cond) (i : ℕ) (any : Bool) → cond ≡ tree.And parts → items ≡ parts → length items ≤ i
    → any ≡ has_one (flat_map cond_parameters (take i items)) → any ≡ has_one (cond_parameters cond)
found_in_and cond items parts i any is same le found = found_in_all cond items parts i any (ap cond_parameters is ∙ cond_parameters-And parts) same le found

pub found_in_or : (cond : trees.Cond) (items parts : List trees.Cond) (i : ℕ) (any : Bool) → cond ≡ tree.Or parts → items ≡ parts → length items ≤ i
    → any ≡ has_one (flat_map cond_parameters (take i items)) → any ≡ has_one (cond_parameters cond)
found_in_or cond items parts i any is same le found = found_in_all cond items parts i any (ap cond_parameters is ∙ cond_parameters-Or parts) same le found

pub found_in_update : (tree : Statement) (table : List ℕ) (items sets : List SetPair) (cond : Option trees.Cond) (a b : Bool) → tree ≡ statement.Update table sets cond → items ≡ sets
    → a ≡ has_one (flat_map (λ (p : SetPair). operand_parameters p.value) items) → b ≡ has_one (option_parameters cond) → (a || b) ≡ has_one (parameters tree)
found_in_update tree table items sets cond a b is same h k =
    rw (is, h, k, same) (sym (has_one-append (flat_map (λ (p : SetPair). operand_parameters p.value) sets) (option_parameters cond)))
