-- Names that no column has.
use Rattle.std.specs.Prelude.{ℕ, Bool, not, List}
use Rattle.table_machine.specs.declared.table.ColumnDef.{ColumnDef}
use Rattle.table_machine.specs.Columns.{has_column}

abbrev pub is_unknown : List ColumnDef → List ℕ → Bool
is_unknown columns name = not (has_column columns name)
