-- A served statement, by its parts.
use Rattle.std.proofs.Common.{◌≡◌, ℕ, ℤ, pos, negsuc, int_le, int_lt, nat_eq, ◌<◌, ◌^◌, inl, inr, ◌⊎◌, ◌&&◌, ◌||◌, Bool, true, false, is_none, List, [], ◌∷◌, Option, Some, None, refl, sym, ap, subst, ◌∙◌}
use Rattle.std.specs.Cmp.Lexicographic.{pointwise, bytes_decides}
use Rattle.std.proofs.lemmas.Bool.{and_parts, ltb-true}
use Rattle.sql_tree.specs.declared.condition.Cond.{Cond}
use Rattle.sql_tree.specs.declared.condition.Operand.{Operand}
use Rattle.sql_tree.specs.declared.condition.Operand.TheVariants as operand
use Rattle.sql_tree.specs.declared.statement.Item.{Item}
use Rattle.sql_tree.specs.declared.statement.Items.{Items}
use Rattle.sql_tree.specs.declared.statement.Items.TheVariants as select
use Rattle.sql_tree.specs.declared.statement.OrderKey.{OrderKey}
use Rattle.sql_tree.specs.declared.statement.Statement.{Statement}
use Rattle.sql_tree.specs.declared.statement.Statement.TheVariants as statement
use Rattle.session_model.specs.Notes.{notes, id, body}
use Rattle.session_model.specs.Served.{is_notes, is_column, is_item, are_columns_of, are_items, is_bare, are_columns, is_number, is_row, are_rows, is_served}

-- a column of notes
pub data Column : Type 0 where
  Id : Column
  Body : Column

-- the columns of a SELECT
pub data Chosen : Type 0 where
  One : Column → Chosen
  Two : Column → Column → Chosen

-- the statements that are served
pub data Served : Type 0 where
  Selects : Chosen → Served
  -- with the list of columns or without
  Inserts : (listed : Bool) (number : ℕ) (text : List ℕ) → Served

abbrev pub name_of : Column → List ℕ
name_of Column.Id = id
name_of Column.Body = body

abbrev pub item_of : Column → Item
item_of c = record { column = name_of c; label = None }

abbrev pub items_of : Chosen → List Item
items_of (Chosen.One a) = item_of a ∷ []
items_of (Chosen.Two a b) = item_of a ∷ item_of b ∷ []

abbrev pub list_of : Bool → Option (List (List ℕ))
list_of true = Some (id ∷ body ∷ [])
list_of false = None

abbrev pub row_of : ℕ → List ℕ → List Operand
row_of n text = operand.Number (pos n) ∷ operand.Text text ∷ []

-- an INSERT of a number and another value
abbrev pub inserting : Bool → ℕ → Operand → Statement
inserting listed n v = statement.Insert notes (list_of listed) ((operand.Number (pos n) ∷ v ∷ []) ∷ [])

abbrev pub tree_of : Served → Statement
tree_of (Served.Selects chosen) = statement.Select notes (select.Columns (items_of chosen)) None [] None None
tree_of (Served.Inserts listed n text) = statement.Insert notes (list_of listed) (row_of n text ∷ [])

-- a number that is served is below 2^63
abbrev pub Fits : Served → Type 0
Fits (Served.Selects chosen) = Unit {0}
Fits (Served.Inserts listed n text) = n < 2 ^ 63

-- a statement that has these parts
pub record HasParts (tree : Statement) : Type 0 where
  pub parts : Served
  pub fits : Fits parts
  pub is : tree ≡ tree_of parts

same : (xs ys : List ℕ) → pointwise nat_eq xs ys ≡ true → xs ≡ ys
same xs ys h = (bytes_decides xs ys).0 h

-- ---- SELECT

none_is : {A : Type 0} (o : Option A) → is_none o ≡ true → o ≡ None
none_is None h = refl
none_is (Some a) h = absurd cc

either_name : (a b : Bool) (name : List ℕ) → (a ≡ true → name ≡ id) → (b ≡ true → name ≡ body) → (a || b) ≡ true → (c : Column) × (name ≡ name_of c)
either_name true b name f g h = (Column.Id, f refl)
either_name false b name f g h = (Column.Body, g h)

item_is : (item : Item) → is_item item ≡ true → (c : Column) × (item ≡ item_of c)
item_is item h =
    let parts = and_parts (is_column item.column) (is_none item.label) h in
    let found = either_name (pointwise nat_eq item.column id) (pointwise nat_eq item.column body) item.column (same item.column id) (same item.column body) parts.0 in (
      found.0,
      ap (λ (name : List ℕ). record { column = name; label = item.label }) found.1
          ∙ ap (λ (label : Option (List ℕ)). record { column = name_of found.0; label = label }) (none_is item.label parts.1),
    )

items_are : (items : List Item) → are_columns_of items ≡ true → (chosen : Chosen) × (items ≡ items_of chosen)
items_are [] h = absurd cc
items_are (a ∷ []) h = let x = item_is a h in (Chosen.One x.0, ap (λ (i : Item). i ∷ []) x.1)
items_are (a ∷ b ∷ []) h =
    let parts = and_parts (is_item a) (is_item b) h in
    let x = item_is a parts.0 in
    let y = item_is b parts.1 in
    (Chosen.Two x.0 y.0, ap (λ (i : Item). i ∷ b ∷ []) x.1 ∙ ap (λ (i : Item). item_of x.0 ∷ i ∷ []) y.1)
items_are (a ∷ b ∷ c ∷ more) h = absurd cc

all_items : (all : Items) → are_items all ≡ true → (chosen : Chosen) × (all ≡ select.Columns (items_of chosen))
all_items (select.Columns items) h = let x = items_are items h in (x.0, ap (λ (is : List Item). select.Columns is) x.1)
all_items select.All h = absurd cc
all_items (select.Count label) h = absurd cc

abbrev selecting : List ℕ → Items → Option Cond → List OrderKey → Option ℕ → Option ℕ → Statement
selecting table all cond order limit offset = statement.Select table all cond order limit offset

bare_is : (table : List ℕ) (all : Items) (cond : Option Cond) (order : List OrderKey) (limit offset : Option ℕ) → is_bare cond order limit offset ≡ true → selecting table all cond order limit offset ≡ selecting table all None [] None None
bare_is table all cond [] limit offset h =
    let parts = and_parts (is_none cond) (is_none limit && is_none offset) h in
    let limits = and_parts (is_none limit) (is_none offset) parts.1 in
    ap (λ (c : Option Cond). selecting table all c [] limit offset) (none_is cond parts.0)
    ∙ ap (λ (n : Option ℕ). selecting table all None [] n offset) (none_is limit limits.0)
    ∙ ap (λ (n : Option ℕ). selecting table all None [] None n) (none_is offset limits.1)
bare_is table all cond (key ∷ keys) limit offset h = absurd cc

select_is : (table : List ℕ) (all : Items) (cond : Option Cond) (order : List OrderKey) (limit offset : Option ℕ) → is_served (selecting table all cond order limit offset) ≡ true → HasParts (selecting table all cond order limit offset)
select_is table all cond order limit offset h =
    let whole = and_parts (is_notes table) (is_bare cond order limit offset && are_items all) h in
    let parts = and_parts (is_bare cond order limit offset) (are_items all) whole.1 in
    let chosen = all_items all parts.1 in
    record {
      parts = Served.Selects chosen.0;
      fits = tt;
      is = bare_is table all cond order limit offset parts.0
          ∙ ap (λ (t : List ℕ). selecting t all None [] None None) (same table notes whole.0)
          ∙ ap (λ (x : Items). selecting notes x None [] None None) chosen.1;
    }

-- ---- INSERT

list_is : (columns : Option (List (List ℕ))) → are_columns columns ≡ true → (listed : Bool) × (columns ≡ list_of listed)
list_is None h = (false, refl)
list_is (Some []) h = absurd cc
list_is (Some (a ∷ [])) h = absurd cc
list_is (Some (a ∷ b ∷ [])) h =
    let parts = and_parts (pointwise nat_eq a id) (pointwise nat_eq b body) h in
    (true, ap (λ (x : List ℕ). Some (x ∷ b ∷ [])) (same a id parts.0) ∙ ap (λ (y : List ℕ). Some (id ∷ y ∷ [])) (same b body parts.1))
list_is (Some (a ∷ b ∷ c ∷ more)) h = absurd cc

record IsRow (row : List Operand) : Type 0 where
  number : ℕ
  text : List ℕ
  below : number < 2 ^ 63
  is : row ≡ row_of number text

number_row : (n : ℤ) (text : List ℕ) → is_number n ≡ true → IsRow (operand.Number n ∷ operand.Text text ∷ [])
number_row (pos n) text h = record { number = n; text = text; below = ltb-true n (2 ^ 63) (and_parts (int_le (pos 0) (pos n)) (int_lt (pos n) (pos (2 ^ 63))) h).1; is = refl }
number_row (negsuc n) text h = absurd cc

row_is : (row : List Operand) → is_row row ≡ true → IsRow row
row_is (operand.Number n ∷ operand.Text text ∷ []) h = number_row n text h
row_is row h = absurd cc

insert_is : (table : List ℕ) (columns : Option (List (List ℕ))) (rows : List (List Operand)) → is_served (statement.Insert table columns rows) ≡ true → HasParts (statement.Insert table columns rows)
insert_is table columns [] h = absurd (let whole = and_parts (is_notes table) (are_columns columns && false) h in let parts = and_parts (are_columns columns) false whole.1 in let t : false ≡ true = parts.1 in cc)
insert_is table columns (row ∷ []) h =
    let whole = and_parts (is_notes table) (are_columns columns && is_row row) h in
    let parts = and_parts (are_columns columns) (is_row row) whole.1 in
    let list = list_is columns parts.0 in
    let r = row_is row parts.1 in
    record {
      parts = Served.Inserts list.0 r.number r.text;
      fits = r.below;
      is = ap (λ (t : List ℕ). statement.Insert t columns (row ∷ [])) (same table notes whole.0)
          ∙ ap (λ (l : Option (List (List ℕ))). statement.Insert notes l (row ∷ [])) list.1
          ∙ ap (λ (r : List Operand). statement.Insert notes (list_of list.0) (r ∷ [])) r.is;
    }
insert_is table columns (row ∷ more ∷ rows) h = absurd (let whole = and_parts (is_notes table) (are_columns columns && false) h in let parts = and_parts (are_columns columns) false whole.1 in let t : false ≡ true = parts.1 in cc)

pub parts_of : (tree : Statement) → is_served tree ≡ true → HasParts tree
parts_of (statement.Select table all cond order limit offset) h = select_is table all cond order limit offset h
parts_of (statement.Insert table columns rows) h = insert_is table columns rows h
parts_of statement.Empty h = absurd cc
parts_of (statement.Set name value) h = absurd cc
parts_of (statement.Update table sets cond) h = absurd cc
parts_of (statement.Delete table cond) h = absurd cc

-- what holds of all statements by their parts holds of what is served
pub by_parts : (P : Statement → Type 0) → ((v : Served) → Fits v → P (tree_of v)) → (tree : Statement) → is_served tree ≡ true → P tree
by_parts P each tree h = let p = parts_of tree h in subst P (sym p.is) (each p.parts p.fits)
