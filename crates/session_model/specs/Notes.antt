-- The table of this stage: notes, each with a number and a protected text.
use Rattle.std.specs.Prelude.{ℕ, List, [], ◌∷◌, codes, None}
use Rattle.acra_base.specs.declared.kind.ValueKind.TheVariants as kind
use Rattle.table_machine.specs.declared.table.ColumnDef.{ColumnDef}
use Rattle.table_machine.specs.declared.table.TableDef.{TableDef}
use Rattle.table_machine.specs.Tables.{Table}

abbrev pub notes : List ℕ
notes = codes "notes"

abbrev pub id : List ℕ
id = codes "id"

abbrev pub body : List ℕ
body = codes "body"

-- as it is stored: id is int8, body bytea
abbrev pub notes_columns : List ColumnDef
notes_columns = record { name = id; kind = kind.Int64 } ∷ record { name = body; kind = kind.Bytes } ∷ []

abbrev pub notes_def : TableDef
notes_def = record { name = notes; columns = notes_columns; key = None }

-- the tables: notes alone, with these rows
abbrev pub notes_with : {C : Type 0} → List (List C) → List (Table C)
notes_with rows = record { def = notes_def; rows = rows } ∷ []
