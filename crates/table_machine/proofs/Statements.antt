-- Statements on mapped rows.
use Rattle.std.proofs.Common.{◌≡◌, ℕ, zero, suc, Bool, true, false, cond, List, [], ◌∷◌, ◌++◌, map, length, take, drop, refl, sym, ap, ◌∙◌}
use Rattle.std.specs.Prelude.{Option, Some, None, slice_set, not}
use Rattle.std.specs.List.{AllByRecursion}
use Rattle.std.proofs.lemmas.List.{map-append, length-map}
use Rattle.sql_tree.specs.declared.condition.Operand.{Operand}
use Rattle.sql_tree.specs.declared.condition.Cond.{Cond}
use Rattle.sql_tree.specs.declared.statement.Item.{Item}
use Rattle.sql_tree.specs.declared.statement.Items.TheVariants as items
use Rattle.sql_tree.specs.declared.statement.SetPair.{SetPair}
use Rattle.table_machine.specs.declared.table.ColumnDef.{ColumnDef}
use Rattle.table_machine.specs.Columns.{column_place, kind_of, listed}
use Rattle.table_machine.specs.Logic.{is_true}
use Rattle.table_machine.specs.Sort.{stable_sort}
use Rattle.table_machine.specs.Machine.{Cells, cell_read, cell_of, before, passes, kept, found, behind, up_to, window, item_cells, set_cell, set_named, null_row, new_row, set_all}
use Rattle.table_machine.specs.Carry.{comparisons_of, rewritten_of, set_rewritten, Carries, Respects, RespectsAll, KeepsOrder, ReadsAs, ReadsNamed, SetsAs, WhereCarried, SortCarried, SelectCarried, CountCarried, InsertCarried, UpdateCarried, DeleteCarried}
use Rattle.table_machine.proofs.Carried.{at_map, truth-carried}
use Rattle.table_machine.specs.SortMaps.{stable_sort-map, AreAlike, filter-map, kept_all}

all_by : {X : Type 0} (P Q : X → Type 0) → ((x : X) → P x → Q x) → (xs : List X) → AllByRecursion P xs → AllByRecursion Q xs
all_by P Q h [] a = tt
all_by P Q h (x ∷ xs) a = (h x a.0, all_by P Q h xs a.1)

map_set : {X Y : Type 0} (f : X → Y) (xs : List X) (k : ℕ) (v : X) → slice_set (map f xs) k (f v) ≡ map f (slice_set xs k v)
map_set f [] k v = refl
map_set f (x ∷ xs) zero v = refl
map_set f (x ∷ xs) (suc k) v = ap (λ w. f x ∷ w) (map_set f xs k v)

take_map : {X Y : Type 0} (f : X → Y) (n : ℕ) (xs : List X) → take n (map f xs) ≡ map f (take n xs)
take_map f zero xs = refl
take_map f (suc n) [] = refl
take_map f (suc n) (x ∷ xs) = ap (λ w. f x ∷ w) (take_map f n xs)

drop_map : {X Y : Type 0} (f : X → Y) (n : ℕ) (xs : List X) → drop n (map f xs) ≡ map f (drop n xs)
drop_map f zero xs = refl
drop_map f (suc n) [] = refl
drop_map f (suc n) (x ∷ xs) = drop_map f n xs

behind_map : {X Y : Type 0} (f : X → Y) (n : Option ℕ) (xs : List X) → behind n (map f xs) ≡ map f (behind n xs)
behind_map f None xs = refl
behind_map f (Some n) xs = drop_map f n xs

up_to_map : {X Y : Type 0} (f : X → Y) (n : Option ℕ) (xs : List X) → up_to n (map f xs) ≡ map f (up_to n xs)
up_to_map f None xs = refl
up_to_map f (Some n) xs = take_map f n xs

pub window_map : {X Y : Type 0} (f : X → Y) (limit offset : Option ℕ) (xs : List X) → window limit offset (map f xs) ≡ map f (window limit offset xs)
window_map f limit offset xs = ap (up_to limit) (behind_map f offset xs) ∙ up_to_map f limit (behind offset xs)

maps_as : {X Y Z W : Type 0} (f : X → Y) (p : Y → Z) (q : X → W) (h : W → Z) → ((x : X) → p (f x) ≡ h (q x)) → (xs : List X) → map p (map f xs) ≡ map h (map q xs)
maps_as f p q h e [] = refl
maps_as f p q h e (x ∷ xs) = let d = e x in let rest = maps_as f p q h e xs in cc

alike_all : {X Y : Type 0} (f : X → Y) (p : X → X → Bool) (q : Y → Y → Bool) (good : X → Bool)
    → ((r s : X) → good r ≡ true → good s ≡ true → q (f r) (f s) ≡ p r s) → (xs : List X) → AllByRecursion (λ r. good r ≡ true) xs → AreAlike f p q xs
alike_all f p q good h [] a = tt
alike_all f p q good h (x ∷ xs) a = (all_by (λ r. good r ≡ true) (λ y. q (f y) (f x) ≡ p y x) (λ y g. h y x g a.0) xs a.1, alike_all f p q good h xs a.1)

module _ {C D : Type 0} (cells : Cells C) (others : Cells D) (f : C → D) (g : Operand → Operand) (columns : List ColumnDef) where
  passes_carried : Carries cells others f g columns → (cond : Option Cond) (row : List C) → AllByRecursion (Respects cells others f g columns row) (comparisons_of cond)
      → passes others columns (rewritten_of g cond) (map f row) ≡ passes cells columns cond row
  passes_carried ok None row h = refl
  passes_carried ok (Some cond) row h = ap is_true (truth-carried cells others f g columns ok row cond h)

  all_pass : Carries cells others f g columns → (cond : Option Cond) (rows : List (List C)) → RespectsAll cells others f g columns cond rows
      → AllByRecursion (λ row. passes others columns (rewritten_of g cond) (map f row) ≡ passes cells columns cond row) rows
  all_pass ok cond rows h = all_by (λ row. AllByRecursion (Respects cells others f g columns row) (comparisons_of cond))
      (λ row. passes others columns (rewritten_of g cond) (map f row) ≡ passes cells columns cond row) (passes_carried ok cond) rows h

  pub where_carried : WhereCarried cells others f g columns
  where_carried ok cond rows h = filter-map (map f) (passes cells columns cond) (passes others columns (rewritten_of g cond)) rows (all_pass ok cond rows h)

  pub sort_carried : SortCarried cells others f g columns
  sort_carried keys rows order =
      stable_sort-map (map f) (before cells columns keys) (before others columns keys) rows
      (alike_all (map f) (before cells columns keys) (before others columns keys) order.0 order.2 rows order.1)

  found_carried : Carries cells others f g columns → (cond : Option Cond) (keys : List _) (rows : List (List C)) → RespectsAll cells others f g columns cond rows
      → KeepsOrder cells others f g columns keys rows
      → found others columns (rewritten_of g cond) keys (map (map f) rows) ≡ map (map f) (found cells columns cond keys rows)
  found_carried ok cond keys rows h order =
      ap (stable_sort (before others columns keys)) (where_carried ok cond rows h)
      ∙ sort_carried keys (kept cells columns cond rows) (order.0, kept_all (λ r. order.0 r ≡ true) (passes cells columns cond) rows order.1, order.2)

  cell_carried : Carries cells others f g columns → (row : List C) (name : List ℕ) → cell_of others columns (map f row) name ≡ f (cell_of cells columns row name)
  cell_carried ok row name =
      rw (sym ok.null) (at_map f row (column_place columns name) cells.null)

  items_carried : Carries cells others f g columns → (all : List Item) (row : List C) → item_cells others columns all (map f row) ≡ map f (item_cells cells columns all row)
  items_carried ok [] row = refl
  items_carried ok (i ∷ all) row = let e = cell_carried ok row i.column in let d = items_carried ok all row in cc

  pub count_carried : CountCarried cells others f g columns
  count_carried ok cond rows h = ap length (where_carried ok cond rows h) ∙ length-map (kept cells columns cond rows) (map f)

  counted : Carries cells others f g columns → (n m : ℕ) → n ≡ m → (others.count n ∷ []) ∷ [] ≡ map (map f) ((cells.count m ∷ []) ∷ [])
  counted ok n m e = let d = ok.count m in cc

  pub select_carried : SelectCarried cells others f g columns
  select_carried ok items.All cond keys limit offset rows h order =
      ap (window limit offset) (found_carried ok cond keys rows h order) ∙ window_map (map f) limit offset (found cells columns cond keys rows)
  select_carried ok (items.Count label) cond keys limit offset rows h order =
      ap (window limit offset) (counted ok _ _ (count_carried ok cond rows h)) ∙ window_map (map f) limit offset ((cells.count (length (kept cells columns cond rows)) ∷ []) ∷ [])
  select_carried ok (items.Columns all) cond keys limit offset rows h order =
      ap (map (item_cells others columns all)) (ap (window limit offset) (found_carried ok cond keys rows h order) ∙ window_map (map f) limit offset (found cells columns cond keys rows))
      ∙ maps_as (map f) (item_cells others columns all) (item_cells cells columns all) (map f) (items_carried ok all) (window limit offset (found cells columns cond keys rows))

  set_carried : (name : List ℕ) (v : Operand) (row : List C) → ReadsAs cells others f g columns name v
      → set_cell others columns name (g v) (map f row) ≡ map f (set_cell cells columns name v row)
  set_carried name v row a =
      ap (slice_set (map f row) (column_place columns name)) a ∙ map_set f row (column_place columns name) (cell_read cells (cells.read (kind_of columns name) v))

  named_carried : (names : List (List ℕ)) (values : List Operand) (row : List C) → ReadsNamed cells others f g columns names values
      → set_named others columns names (map g values) (map f row) ≡ map f (set_named cells columns names values row)
  named_carried [] values row a = refl
  named_carried (name ∷ names) [] row a = refl
  named_carried (name ∷ names) (v ∷ values) row a =
      ap (set_named others columns names (map g values)) (set_carried name v row a.0) ∙ named_carried names values (set_cell cells columns name v row) a.1

  nulls_carried : Carries cells others f g columns → (all : List ColumnDef) → map (λ (c : ColumnDef). others.null) all ≡ map f (map (λ (c : ColumnDef). cells.null) all)
  nulls_carried ok [] = refl
  nulls_carried ok (c ∷ cs) = let e = ok.null in let d = nulls_carried ok cs in cc

  new_carried : Carries cells others f g columns → (names : List (List ℕ)) (new : List (List Operand)) → AllByRecursion (ReadsNamed cells others f g columns names) new
      → map (new_row others columns names) (map (map g) new) ≡ map (map f) (map (new_row cells columns names) new)
  new_carried ok names [] a = refl
  new_carried ok names (values ∷ new) a =
      let e : new_row others columns names (map g values) ≡ map f (new_row cells columns names values) =
      ap (set_named others columns names (map g values)) (nulls_carried ok columns) ∙ named_carried names values (null_row cells columns) a.0 in
      let d = new_carried ok names new a.1 in cc

  pub insert_carried : InsertCarried cells others f g columns
  insert_carried ok names new rows a =
      ap (λ w. map (map f) rows ++ w) (new_carried ok (listed columns names) new a) ∙ sym (map-append (map f) rows (map (new_row cells columns (listed columns names)) new))

  sets_carried : (sets : List SetPair) (row : List C) → AllByRecursion (SetsAs cells others f g columns) sets
      → set_all others columns (map (set_rewritten g) sets) (map f row) ≡ map f (set_all cells columns sets row)
  sets_carried [] row a = refl
  sets_carried (p ∷ ps) row a =
      ap (set_all others columns (map (set_rewritten g) ps)) (set_carried p.column p.value row a.0) ∙ sets_carried ps (set_cell cells columns p.column p.value row) a.1

  chosen : (b : Bool) (x y : List C) → cond b (map f x) (map f y) ≡ map f (cond b x y)
  chosen true x y = refl
  chosen false x y = refl

  updated_carried : Carries cells others f g columns → (sets : List SetPair) (cd : Option Cond) (row : List C)
      → AllByRecursion (Respects cells others f g columns row) (comparisons_of cd) → AllByRecursion (SetsAs cells others f g columns) sets
      → cond (passes others columns (rewritten_of g cd) (map f row)) (set_all others columns (map (set_rewritten g) sets) (map f row)) (map f row)
      ≡ map f (cond (passes cells columns cd row) (set_all cells columns sets row) row)
  updated_carried ok sets cd row h a = rw (passes_carried ok cd row h, sets_carried sets row a) (chosen (passes cells columns cd row) (set_all cells columns sets row) row)

  pub update_carried : UpdateCarried cells others f g columns
  update_carried ok sets cd [] h a = refl
  update_carried ok sets cd (row ∷ rows) h a =
      let e = updated_carried ok sets cd row h.0 a in let d = update_carried ok sets cd rows h.1 a in cc

  pub delete_carried : DeleteCarried cells others f g columns
  delete_carried ok cond rows h =
      filter-map (map f) (λ row. not (passes cells columns cond row)) (λ row. not (passes others columns (rewritten_of g cond) row)) rows
      (all_by (λ row. passes others columns (rewritten_of g cond) (map f row) ≡ passes cells columns cond row) _ (λ row e. ap not e) rows (all_pass ok cond rows h))
