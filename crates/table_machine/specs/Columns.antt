-- Columns by their names.
use Rattle.std.specs.Prelude.{ℕ, ◌+◌, nat_eq, Bool, if◌then◌else◌, List, [], ◌∷◌, map, Option, Some, None, slice_get}
use Rattle.std.specs.Cmp.Lexicographic.{pointwise}
use Rattle.std.specs.List.{list_any}
use Rattle.acra_base.specs.declared.kind.ValueKind.{ValueKind}
use Rattle.acra_base.specs.declared.kind.ValueKind.TheVariants as kind
use Rattle.table_machine.specs.declared.table.ColumnDef.{ColumnDef}

abbrev pub same : List ℕ → List ℕ → Bool
same a b = pointwise nat_eq a b

-- where the first element stands that passes; the length where none does
abbrev pub place : {A : Type 0} → (A → Bool) → List A → ℕ
place p [] = 0
place p (a ∷ more) = if p a then 0 else place p more + 1

abbrev pub is_named : List ℕ → ColumnDef → Bool
is_named name column = same column.name name

abbrev pub column_place : List ColumnDef → List ℕ → ℕ
column_place columns name = place (is_named name) columns

abbrev pub has_column : List ColumnDef → List ℕ → Bool
has_column columns name = list_any (is_named name) columns

abbrev pub kind_then : Option ColumnDef → ValueKind
kind_then None = kind.Bytes
kind_then (Some column) = column.kind

-- what the values of a column are
abbrev pub kind_of : List ColumnDef → List ℕ → ValueKind
kind_of columns name = kind_then (slice_get columns (column_place columns name))

-- the columns of an INSERT's rows: without a list they are those of the table, in order
abbrev pub listed : List ColumnDef → Option (List (List ℕ)) → List (List ℕ)
listed columns None = map (λ (c : ColumnDef). c.name) columns
listed columns (Some names) = names
