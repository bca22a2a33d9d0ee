-- What a call that reads a value answers.
use Rattle.std.specs.Prelude.{◌≡◌, Result, Ok, Err}
use Rattle.plain_values.specs.declared.refusal.ValueRefusal.{ValueRefusal}
use Rattle.plain_values.specs.declared.refusal.ValueRefusal.TheVariants as refusal
use Rattle.table_machine.specs.declared.cell.Cell.{Cell}
use Rattle.table_rows.specs.declared.reading.ReadRefusal.{ReadRefusal}
use Rattle.table_rows.specs.declared.reading.ReadRefusal.TheVariants as why
use Rattle.table_machine.specs.Machine.{Read, value, bad, beyond}

-- the cell, or why there is none; want of memory is free
abbrev pub IsRead : Read Cell → Result Cell ReadRefusal → Type 0
IsRead r (Ok c) = r ≡ value c
IsRead r (Err why.Bad) = r ≡ bad
IsRead r (Err why.Beyond) = r ≡ beyond
IsRead r (Err why.NoMemory) = Unit {0}

-- why a refused value is not read
abbrev pub refusal_of : ValueRefusal → ReadRefusal
refusal_of refusal.Bad = why.Bad
refusal_of refusal.TooLong = why.Bad
refusal_of refusal.Range = why.Beyond
refusal_of refusal.NoMemory = why.NoMemory
