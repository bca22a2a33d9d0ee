-- The messages that tell what a statement gives.
use Rattle.std.specs.Prelude.{ℕ, ℤ, pos, negsuc, ◌+◌, ◌^◌, ◌<◌, List, [], ◌∷◌, ◌++◌, map, length, codes}
use Rattle.std.specs.Fmt.{decimal}
use Rattle.acra_base.specs.declared.kind.ValueKind.{ValueKind}
use Rattle.acra_base.specs.declared.kind.ValueKind.TheVariants as kind
use Rattle.pg_wire.specs.declared.back.Field.{Field}
use Rattle.pg_wire.specs.declared.back.ErrorField.{ErrorField}
use Rattle.pg_wire.specs.declared.back.Back.{Back}
use Rattle.pg_wire.specs.declared.back.Back.TheVariants as backs
use Rattle.pg_wire.specs.Backs.{IsBack, back_body}
use Rattle.sql_tree.specs.declared.statement.Statement.{Statement}
use Rattle.sql_tree.specs.declared.statement.Statement.TheVariants as statement
use Rattle.table_machine.specs.declared.table.OutColumn.{OutColumn}
use Rattle.table_machine.specs.declared.table.Outcome.{Outcome}
use Rattle.table_machine.specs.declared.table.Outcome.TheVariants as outcome

-- a message that has a spelling, and is short enough to be written
pub record IsWritable (message : Back) : Type 0 where
  pub spelled : IsBack message
  pub short : length (back_body message) + 4 < 2 ^ 30

-- ---- columns

-- the OIDs of text, bytea, int4 and int8
abbrev pub oid_of : ValueKind → ℕ
oid_of kind.Str = 25
oid_of kind.Bytes = 17
oid_of kind.Int32 = 23
oid_of kind.Int64 = 20

-- a size of -1 varies
abbrev pub size_of : ValueKind → ℤ
size_of kind.Str = negsuc 0
size_of kind.Bytes = negsuc 0
size_of kind.Int32 = pos 4
size_of kind.Int64 = pos 8

abbrev pub field_of : OutColumn → Field
field_of c = record { name = c.name; table = c.table; attribute = c.attribute; kind = oid_of c.kind; size = size_of c.kind; modifier = negsuc 0; format = 0 }

-- ---- errors

abbrev pub error_field : ℕ → List ℕ → ErrorField
error_field code text = record { code = code; text = text }

-- severity twice, code and message
abbrev pub error_of : List ℕ → List ℕ → Back
error_of code text = backs.Error (error_field 83 (codes "ERROR") ∷ error_field 86 (codes "ERROR") ∷ error_field 67 code ∷ error_field 77 text ∷ [])

-- a text that is refused
abbrev pub not_in_profile : Back
not_in_profile = error_of (codes "42601") (codes "lab: not in the profile")

-- a text whose statement has a parameter
abbrev pub wrong_count : Back
wrong_count = error_of (codes "08P01") (codes "lab: wrong count of parameters")

-- ---- what a statement gives

-- the end of the reply to an executed statement, which gave, added, changed or removed so many rows
abbrev pub completed : Statement → ℕ → Back
completed statement.Empty n = backs.EmptyQuery
completed (statement.Set name value) n = backs.Complete (codes "SET")
completed (statement.Select table items cond order limit offset) n = backs.Complete (codes "SELECT " ++ decimal n)
completed (statement.Insert table columns rows) n = backs.Complete (codes "INSERT 0 " ++ decimal n)
completed (statement.Update table sets cond) n = backs.Complete (codes "UPDATE " ++ decimal n)
completed (statement.Delete table cond) n = backs.Complete (codes "DELETE " ++ decimal n)

abbrev pub messages_of : Statement → Outcome → List Back
messages_of tree (outcome.Rows columns rows) = backs.Row (map field_of columns) ∷ map (λ row. backs.Cells row) rows ++ completed tree (length rows) ∷ []
messages_of tree (outcome.Count n) = completed tree n ∷ []
messages_of tree (outcome.Fault fault) = error_of fault.code fault.text ∷ []

-- ---- the session

-- the session is idle
abbrev pub ready : Back
ready = backs.Ready 73

abbrev pub status : List ℕ → List ℕ → Back
status name value = backs.Status (record { name = name; value = value })

-- authentication succeeds, two parameters, the session's number as its process, and the state idle
abbrev pub startup_messages : ℕ → List Back
startup_messages session =
    backs.Auth 0 [] ∷ status (codes "client_encoding") (codes "UTF8") ∷ status (codes "standard_conforming_strings") (codes "on") ∷ backs.KeyData session 0 ∷ ready ∷ []
