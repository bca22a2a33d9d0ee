-- Columns that can be described.
use Rattle.std.specs.Prelude.{◌≤◌, length}
use Rattle.pg_wire.specs.declared.back.Field.{Field}
use Rattle.pg_wire.specs.Backs.{IsField}

-- a column with a name of at most 63 bytes
pub record IsDescribed (f : Field) : Type 0 where
  pub field : IsField f
  pub short : length f.name ≤ 63
