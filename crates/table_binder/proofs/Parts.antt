-- An AND or an OR that is bound part by part.
use Rattle.std.proofs.Common.{◌≡◌, ◌∙◌, ap, sym, refl, arith, ℕ, zero, suc, ◌+◌, ◌<◌, ◌≤◌, Bool, true, List, [], ◌∷◌, ◌++◌, map, length, take, get_or, Option}
use Rattle.std.specs.List.{list_all}
use Rattle.std.proofs.lemmas.List.{take_more, map-append}
use Rattle.sql_tree.specs.declared.condition.Operand.{Operand}
use Rattle.sql_tree.specs.declared.condition.Cond.{Cond}
use Rattle.sql_tree.specs.declared.condition.Cond.TheVariants as tree
use Rattle.sql_tree.specs.Shapes.{most, depth_step, node_depth}
use Rattle.sql_tree.specs.WellFormed.{has_two, shaped_step, is_shaped}
use Rattle.table_rows.specs.declared.filter.Filter.{Filter}
use Rattle.table_rows.specs.declared.filter.Filter.TheVariants as filter
use Rattle.table_machine.specs.declared.table.ColumnDef.{ColumnDef}
use Rattle.table_machine.specs.declared.table.LabFault.{LabFault}
use Rattle.table_machine.specs.Faults.{first_of, first_unread, place_fault, cond_places, cond_places_step}
use Rattle.table_machine.specs.Stored.{stored}
use Rattle.table_binder.specs.Bound.{bound_step, bound_cond}
use Rattle.table_binder.proofs.Firsts.{first_of-concat}
use Rattle.table_binder.proofs.Layers.{at-And, at-Or, at-Not}
use Rattle.table_binder.proofs.Meaning.{and_left, and_right}

pub made_more : {X Y : Type 0} (f : X → Y) (xs : List X) (i : ℕ) (x : X) → i < length xs → x ≡ get_or xs i x → (made new : List Y) (y : Y) → made ≡ map f (take i xs) → y ≡ f x → new ≡ made ++ y ∷ []
    → new ≡ map f (take (i + 1) xs)
made_more f xs i x h is made new y m e n =
    n ∙ ap (λ zs. zs ++ y ∷ []) m ∙ ap (λ z. map f (take i xs) ++ z ∷ []) (e ∙ ap f is) ∙ sym (ap (map f) (take_more xs i x h) ∙ map-append f (take i xs) (get_or xs i x ∷ []))

all_at : {X : Type 0} (p : X → Bool) (xs : List X) (i : ℕ) (d : X) → list_all (λ b. b) (map p xs) ≡ true → i < length xs → p (get_or xs i d) ≡ true
all_at p [] i d a h = absurd (omega arith)
all_at p (x ∷ xs) zero d a h = and_left (p x) (list_all (λ b. b) (map p xs)) a
all_at p (x ∷ xs) (suc i) d a h = all_at p xs i d (and_right (p x) (list_all (λ b. b) (map p xs)) a) (let k : i < length xs = omega arith in k)

most_at : {X : Type 0} (f : X → ℕ) (xs : List X) (i : ℕ) (d : X) → i < length xs → f (get_or xs i d) ≤ most (map f xs)
most_at f [] i d h = absurd (omega arith)
most_at f (x ∷ xs) zero d h = omega arith
most_at f (x ∷ xs) (suc i) d h = let k : i < length xs = omega arith in omega (arith, most_at f xs i d k)

below : (a b m d n : ℕ) → a ≡ b → b ≤ m → d ≡ m + 1 → n ≡ d → a < n
below a b m d n e h k l = omega arith

pub smaller_not : (cond part : Cond) → cond ≡ tree.Not part → node_depth part < node_depth cond
smaller_not cond part e = below (node_depth part) (node_depth part) (node_depth part) _ (node_depth cond) refl (omega arith) refl (ap node_depth e ∙ at-Not depth_step part)

pub shaped_not : (cond part : Cond) → cond ≡ tree.Not part → is_shaped cond ≡ true → is_shaped part ≡ true
shaped_not cond part e h = sym (ap is_shaped e ∙ at-Not shaped_step part) ∙ h

-- each part is shaped, and less deep
module _ (cond : Cond) (parts items : List Cond) (i : ℕ) (x : Cond) (is : items ≡ parts) (h : i < length items) (at : x ≡ get_or items i x) (shaped : is_shaped cond ≡ true) where
  in_all : list_all (λ b. b) (map is_shaped parts) ≡ true → is_shaped x ≡ true
  in_all a = ap is_shaped at ∙ all_at is_shaped items i x (ap (λ us. list_all (λ b. b) (map is_shaped us)) is ∙ a) h

  pub shaped_and : cond ≡ tree.And parts → is_shaped x ≡ true
  shaped_and e = in_all (and_right (has_two (map is_shaped parts)) (list_all (λ b. b) (map is_shaped parts)) (sym (ap is_shaped e ∙ at-And shaped_step parts) ∙ shaped))

  less : node_depth x ≤ most (map node_depth parts)
  less = let e : node_depth x ≡ node_depth (get_or items i x) = ap node_depth at in let f : most (map node_depth items) ≡ most (map node_depth parts) = ap (λ us. most (map node_depth us)) is in
      omega (arith, most_at node_depth items i x h)

  pub smaller_and : cond ≡ tree.And parts → node_depth x < node_depth cond
  smaller_and e = below (node_depth x) (node_depth x) (most (map node_depth parts)) _ (node_depth cond) refl less refl (ap node_depth e ∙ at-And depth_step parts)

  pub smaller_or : cond ≡ tree.Or parts → node_depth x < node_depth cond
  smaller_or e = below (node_depth x) (node_depth x) (most (map node_depth parts)) _ (node_depth cond) refl less refl (ap node_depth e ∙ at-Or depth_step parts)

  pub shaped_or : cond ≡ tree.Or parts → is_shaped x ≡ true
  shaped_or e = in_all (and_right (has_two (map is_shaped parts)) (list_all (λ b. b) (map is_shaped parts)) (sym (ap is_shaped e ∙ at-Or shaped_step parts) ∙ shaped))

module _ (given : List Operand) (columns : List ColumnDef) (cond : Cond) (parts items : List Cond) (is : items ≡ parts) where
  abbrev unread : Cond → Option LabFault
  unread u = first_unread (stored given) (cond_places columns u)

  pub unread_and : cond ≡ tree.And parts → first_of unread items ≡ unread cond
  unread_and e = ap (first_of unread) is ∙ first_of-concat (place_fault (stored given)) (cond_places columns) parts
      ∙ sym (ap (first_unread (stored given)) (ap (cond_places columns) e ∙ at-And (cond_places_step columns) parts))

  pub unread_or : cond ≡ tree.Or parts → first_of unread items ≡ unread cond
  unread_or e = ap (first_of unread) is ∙ first_of-concat (place_fault (stored given)) (cond_places columns) parts
      ∙ sym (ap (first_unread (stored given)) (ap (cond_places columns) e ∙ at-Or (cond_places_step columns) parts))

  pub bound_and : (made : List Filter) → made ≡ map (bound_cond given columns) items → cond ≡ tree.And parts → filter.All made ≡ bound_cond given columns cond
  bound_and made h e = ap filter.All (h ∙ ap (map (bound_cond given columns)) is) ∙ sym (ap (bound_cond given columns) e ∙ at-And (bound_step given columns) parts)

  pub bound_or : (made : List Filter) → made ≡ map (bound_cond given columns) items → cond ≡ tree.Or parts → filter.Any made ≡ bound_cond given columns cond
  bound_or made h e = ap filter.Any (h ∙ ap (map (bound_cond given columns)) is) ∙ sym (ap (bound_cond given columns) e ∙ at-Or (bound_step given columns) parts)
