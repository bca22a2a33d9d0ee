-- Looking at a cell without a copy.
use Rattle.table_machine.specs.declared.cell.Cell.{Cell}
use Rattle.table_machine.specs.declared.cell.Cell.TheVariants as cell
use Rattle.table_rows.specs.declared.seen.Seen.{Seen}
use Rattle.table_rows.specs.declared.seen.Seen.TheVariants as see

abbrev pub seen : Seen → Cell
seen see.Null = cell.Null
seen (see.Int n) = cell.Int n
seen (see.Bytes bytes) = cell.Bytes bytes.now
