use Rattle.std.proofs.Common.{◌≡◌, ◌∙◌, ap, sym, List, [], ◌∷◌, Bool, true, false, ℕ, ◌<◌, ◌≤◌, length, map, drop, get_or, refl}
use Rattle.std.specs.List.{list_any}
use Rattle.std.proofs.lemmas.List.{drop_all}
use Rattle.std.proofs.lemmas.List.Folds.{list_any_at}
use Rattle.sql_tree.specs.declared.condition.Cond.{Cond}
use Rattle.sql_tree.specs.declared.condition.Cond.TheVariants as tree
use Rattle.table_machine.specs.declared.table.ColumnDef.{ColumnDef}
use Rattle.table_machine.specs.Faults.{is_undone_cond, undone_step}
use Rattle.table_binder.proofs.Layers.{at-And, at-Or}
use Rattle.table_binder.proofs.kinds.+is_cond_undone.Goals as goal

any_map : {X : Type 0} (p : X → Bool) (xs : List X) → list_any (λ b. b) (map p xs) ≡ list_any p xs
any_map p [] = refl
any_map p (x ∷ xs) = ap (λ b. Rattle.std.specs.Prelude.◌||◌ (p x) b) (any_map p xs)

in_and : (columns : List ColumnDef) (cond : Cond) (parts items : List Cond) → cond ≡ tree.And parts → items ≡ parts → list_any (is_undone_cond columns) items ≡ is_undone_cond columns cond
in_and columns cond parts items e f =
    ap (list_any (is_undone_cond columns)) f ∙ sym (any_map (is_undone_cond columns) parts) ∙ sym (ap (is_undone_cond columns) e ∙ at-And (undone_step columns) parts)

in_or : (columns : List ColumnDef) (cond : Cond) (parts items : List Cond) → cond ≡ tree.Or parts → items ≡ parts → list_any (is_undone_cond columns) items ≡ is_undone_cond columns cond
in_or columns cond parts items e f =
    ap (list_any (is_undone_cond columns)) f ∙ sym (any_map (is_undone_cond columns) parts) ∙ sym (ap (is_undone_cond columns) e ∙ at-Or (undone_step columns) parts)

here : {X : Type 0} (p : X → Bool) (xs : List X) (i : ℕ) (x : X) → i < length xs → x ≡ get_or xs i x → p x ≡ true → true ≡ list_any p xs
here p xs i x h is e = sym (list_any_at p xs i x h (sym (ap p is) ∙ e))

ended : {X : Type 0} (p : X → Bool) (xs : List X) (i : ℕ) → length xs ≤ i → list_any p (drop i xs) ≡ list_any p xs → false ≡ list_any p xs
ended p xs i h inv = sym (ap (list_any p) (drop_all i xs h)) ∙ inv

pub returns-then-is_cond_undone : goal.returns-then-is_cond_undone
returns-then-is_cond_undone t c =
    here (is_undone_cond c.args.columns.now) c.as_slice-part-items.result.now c.ands.part-index c.part-item.result c.ands-test.true c.part-item.is (sym c.is_cond_undone.ensures ∙ c.if-is_cond_undone.true)
    ∙ in_and c.args.columns.now c.args.cond.now c.in-And.parts c.as_slice-part-items.result.now c.in-And.is c.as_slice-part-items.ensures

pub returns-then-is_cond_undone-2 : goal.returns-then-is_cond_undone-2
returns-then-is_cond_undone-2 t c =
    here (is_undone_cond c.args.columns.now) c.as_slice-part-items-in-Or.result.now c.ors.part-index c.part-item-in-ors.result c.ors-test.true c.part-item-in-ors.is (sym c.is_cond_undone-in-ors.ensures ∙ c.if-is_cond_undone-2.true)
    ∙ in_or c.args.columns.now c.args.cond.now c.in-Or.parts c.as_slice-part-items-in-Or.result.now c.in-Or.is c.as_slice-part-items-in-Or.ensures

pub returns-after-ands : goal.returns-after-ands
returns-after-ands t c =
    ended (is_undone_cond c.args.columns.now) c.as_slice-part-items.result.now c.ands.part-index c.ands-test.false c.ands.invariant
    ∙ in_and c.args.columns.now c.args.cond.now c.in-And.parts c.as_slice-part-items.result.now c.in-And.is c.as_slice-part-items.ensures

pub returns-after-ors : goal.returns-after-ors
returns-after-ors t c =
    ended (is_undone_cond c.args.columns.now) c.as_slice-part-items-in-Or.result.now c.ors.part-index c.ors-test.false c.ors.invariant
    ∙ in_or c.args.columns.now c.args.cond.now c.in-Or.parts c.as_slice-part-items-in-Or.result.now c.in-Or.is c.as_slice-part-items-in-Or.ensures
