-- How deep the nodes of a condition stand, one by one.
use Rattle.std.proofs.Common.{◌≡◌, ℕ, zero, suc, ◌+◌, ◌-◌, ◌≤◌, ◌<◌, Bool, true, false, List, [], ◌∷◌, ◌++◌, map, take, length, get_or, refl, sym, ap, ◌∙◌, subst, arith}
use Rattle.std.specs.Prelude.{nat_lt, max}
use Rattle.std.proofs.lemmas.Bool.{ltb-true, lt-ltb, le-ltb, ltb-false}
use Rattle.std.proofs.Math.Nat.{le-max_left, le-max_right, max-le}
use Rattle.std.proofs.lemmas.Grind.{common_steps}
use Rattle.sql_tree.specs.declared.condition.Op.{Op}
use Rattle.sql_tree.specs.declared.condition.Operand.{Operand}
use Rattle.sql_tree.specs.declared.condition.Cond as trees
use Rattle.sql_tree.specs.declared.condition.Cond.TheVariants as tree
use Rattle.sql_tree.specs.declared.condition.Cond.TheOpen.{Cond-F}
use Rattle.sql_tree.specs.declared.condition.Cond.TheFolds.{fold-roll-Cond}
use Rattle.sql_tree.specs.Shapes.{most, depth_step, node_depth}

pub depth-And : (all : List trees.Cond) → node_depth (tree.And all) ≡ most (map node_depth all) + 1
depth-And all = ap node_depth (sym (tree.rolls-And all)) ∙ fold-roll-Cond ℕ depth_step (Cond-F.And all)

pub depth-Or : (all : List trees.Cond) → node_depth (tree.Or all) ≡ most (map node_depth all) + 1
depth-Or all = ap node_depth (sym (tree.rolls-Or all)) ∙ fold-roll-Cond ℕ depth_step (Cond-F.Or all)

pub depth-Not : (c : trees.Cond) → node_depth (tree.Not c) ≡ node_depth c + 1
depth-Not c = ap node_depth (sym (tree.rolls-Not c)) ∙ fold-roll-Cond ℕ depth_step (Cond-F.Not c)

pub depth-Compare : (l : Operand) (o : Op) (r : Operand) → node_depth (tree.Compare l o r) ≡ 0
depth-Compare l o r = ap node_depth (sym (tree.rolls-Compare l o r)) ∙ fold-roll-Cond ℕ depth_step (Cond-F.Compare l o r)

pub depth-Within : (l : Operand) (list : List Operand) → node_depth (tree.Within l list) ≡ 0
depth-Within l list = ap node_depth (sym (tree.rolls-Within l list)) ∙ fold-roll-Cond ℕ depth_step (Cond-F.Within l list)

pub depth-Null : (c : List ℕ) → node_depth (tree.Null c) ≡ 0
depth-Null c = ap node_depth (sym (tree.rolls-Null c)) ∙ fold-roll-Cond ℕ depth_step (Cond-F.Null c)

-- one more allowed, one more deep
pub one_less : (a n : ℕ) → 1 ≤ a → nat_lt a (n + 1) ≡ nat_lt (a - 1) n
one_less a n h = by (nat_lt (a - 1) n) refl
  where
    by : (b : Bool) → nat_lt (a - 1) n ≡ b → nat_lt a (n + 1) ≡ nat_lt (a - 1) n
    by true e = let k = ltb-true (a - 1) n e in lt-ltb a (n + 1) (omega arith) ∙ sym e
    by false e = let k = ltb-false (a - 1) n e in le-ltb a (n + 1) (omega arith) ∙ sym e

most_of : (all : List trees.Cond) (i : ℕ) (x : trees.Cond) → i < length all → x ≡ get_or all i x → node_depth x ≤ most (map node_depth all)
most_of [] i x h e = absurd (omega arith)
most_of (y ∷ all) zero x h e = subst (λ z. node_depth z ≤ max (node_depth y) (most (map node_depth all))) (sym e) (le-max_left (node_depth y) (most (map node_depth all)))
most_of (y ∷ all) (suc i) x h e =
    let k = most_of all i x (omega arith) e in
    let m = le-max_right (node_depth y) (most (map node_depth all)) in
    omega arith

most_with : (xs : List ℕ) (n a : ℕ) → most xs ≤ a → n ≤ a → most (xs ++ n ∷ []) ≤ a
most_with [] n a h k = max-le k (omega arith)
most_with (x ∷ xs) n a h k =
    let l = le-max_left x (most xs) in
    let r = le-max_right x (most xs) in
    max-le (omega arith) (most_with xs n a (omega arith) k)

above_zero : (n : ℕ) → (n ≡ 0 → ⊥) → 1 ≤ n
above_zero zero e = absurd (e refl)
above_zero (suc n) e = omega arith

-- of a list of conditions in which one stands too deep, or of which all so far do not
module _ (cond : trees.Cond) (all : List trees.Cond) (allowed : ℕ) (is : node_depth cond ≡ most (map node_depth all) + 1) (some : allowed ≡ 0 → ⊥) where
  above : 1 ≤ allowed
  above = above_zero allowed some

  pub one_deeper : (i : ℕ) (x : trees.Cond) → i < length all → x ≡ get_or all i x → true ≡ nat_lt (allowed - 1) (node_depth x) → true ≡ nat_lt allowed (node_depth cond)
  one_deeper i x h e deep =
      let d = ltb-true (allowed - 1) (node_depth x) (sym deep) in
      let m = most_of all i x h e in
      let a = above in
      sym (ap (nat_lt allowed) is ∙ lt-ltb allowed (most (map node_depth all) + 1) (omega arith))

  pub none_deeper : nat_lt (allowed - 1) (most (map node_depth all)) ≡ false → false ≡ nat_lt allowed (node_depth cond)
  none_deeper e = sym (ap (nat_lt allowed) is ∙ one_less allowed (most (map node_depth all)) above ∙ e)

pub no_deeper : (all : List trees.Cond) (i : ℕ) (x : trees.Cond) (a : ℕ) → i < length all → x ≡ get_or all i x → nat_lt a (most (map node_depth (take i all))) ≡ false → false ≡ nat_lt a (node_depth x)
    → nat_lt a (most (map node_depth (take (i + 1) all))) ≡ false
no_deeper all i x a h e low deep =
    let s : map node_depth (take (i + 1) all) ≡ map node_depth (take i all) ++ node_depth x ∷ [] = grind (arith, common_steps) in
    let f = ltb-false a (most (map node_depth (take i all))) low in
    let g = ltb-false a (node_depth x) (sym deep) in
    ap (λ xs. nat_lt a (most xs)) s ∙ le-ltb a (most (map node_depth (take i all) ++ node_depth x ∷ [])) (most_with (map node_depth (take i all)) (node_depth x) a f g)
