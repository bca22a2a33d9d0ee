-- Cells as they are stored.
use Rattle.std.specs.Prelude.{ℕ, ◌-◌, Bool, true, false, List, [], ℤ, pos, take, Option, Some, None, slice_index_or, if◌then◌else◌}
use Rattle.std.specs.declared.cmp.Ordering.{Ordering}
use Rattle.std.specs.Ordering.{nat_cmp, int_cmp, then_cmp}
use Rattle.std.specs.Cmp.Lexicographic.{slice_cmp}
use Rattle.std.specs.Fmt.{signed_decimal}
use Rattle.std.specs.Str.Parse.{signed_digits_value}
use Rattle.acra_base.specs.declared.kind.ValueKind.{ValueKind}
use Rattle.acra_base.specs.declared.kind.ValueKind.TheVariants as kind
use Rattle.plain_values.specs.Values as values
use Rattle.plain_values.specs.Values.{Reading, reading, is_in_range, text_spelling}
use Rattle.sql_tree.specs.declared.condition.Operand.{Operand}
use Rattle.sql_tree.specs.declared.condition.Operand.TheVariants as operand
use Rattle.table_machine.specs.declared.cell.Cell.{Cell}
use Rattle.table_machine.specs.declared.cell.Cell.TheVariants as cell
use Rattle.table_machine.specs.Machine.{Cells, Read, value, bad, beyond}

-- integers by size, texts and bytes by their bytes
abbrev pub compare : Cell → Cell → Option Ordering
compare (cell.Int a) (cell.Int b) = Some (int_cmp a b)
compare (cell.Bytes a) (cell.Bytes b) = Some (slice_cmp nat_cmp a b)
compare _ _ = None

-- integers before bytes, and NULL last
abbrev pub rank : Cell → ℕ
rank (cell.Int n) = 0
rank (cell.Bytes bytes) = 1
rank cell.Null = 2

abbrev pub number_in : Cell → ℤ
number_in (cell.Int n) = n
number_in (cell.Bytes bytes) = pos 0
number_in cell.Null = pos 0

abbrev pub bytes_in : Cell → List ℕ
bytes_in (cell.Int n) = []
bytes_in (cell.Bytes bytes) = bytes
bytes_in cell.Null = []

abbrev pub order : Cell → Cell → Ordering
order = then_cmp (λ a b. nat_cmp (rank a) (rank b)) (then_cmp (λ a b. int_cmp (number_in a) (number_in b)) (λ a b. slice_cmp nat_cmp (bytes_in a) (bytes_in b)))

abbrev pub is_null : Cell → Bool
is_null cell.Null = true
is_null (cell.Int n) = false
is_null (cell.Bytes bytes) = false

abbrev pub prefix : Cell → Cell
prefix (cell.Bytes bytes) = cell.Bytes (take 33 bytes)
prefix (cell.Int n) = cell.Int n
prefix cell.Null = cell.Null

-- ---- reading

-- the cell of a plaintext
abbrev pub integer_cell : List ℕ → Cell
integer_cell text = cell.Int (signed_digits_value 10 text)

abbrev pub plain_cell : ValueKind → List ℕ → Cell
plain_cell kind.Str = cell.Bytes
plain_cell kind.Bytes = cell.Bytes
plain_cell kind.Int32 = integer_cell
plain_cell kind.Int64 = integer_cell

abbrev pub read_as : (List ℕ → Cell) → Reading → Read Cell
read_as as_cell (values.plain text) = value (as_cell text)
read_as as_cell values.bad = bad
read_as as_cell values.out_of_range = beyond
read_as as_cell values.too_long = bad

abbrev pub text_read : ValueKind → Reading → Read Cell
text_read k r = read_as (plain_cell k) r

abbrev pub integer_read : ValueKind → ℤ → Read Cell
integer_read k n = if is_in_range k n then value (cell.Int n) else beyond

-- a number is its decimal text for a text column, and no value of a column of bytes
abbrev pub number_read : ValueKind → ℤ → Read Cell
number_read kind.Str n = value (cell.Bytes (signed_decimal n))
number_read kind.Bytes n = bad
number_read kind.Int32 n = integer_read kind.Int32 n
number_read kind.Int64 n = integer_read kind.Int64 n

-- a literal for a column of this kind
abbrev pub literal_read : ValueKind → Operand → Read Cell
literal_read k (operand.Text text) = text_read k (reading k text)
literal_read k (operand.Number n) = number_read k n
literal_read k operand.NullValue = value cell.Null
literal_read k _ = bad

-- a parameter is the literal of its number, which counts from 1
abbrev pub operand_read : List Operand → ValueKind → Operand → Read Cell
operand_read given k (operand.Parameter n) = literal_read k (slice_index_or given (n - 1) operand.NullValue)
operand_read given k o = literal_read k o

-- the stored cells, where these values are given for the parameters
abbrev pub stored : List Operand → Cells Cell
stored given = record { null = cell.Null; is_null = is_null; compare = compare; order = order; prefix = prefix; read = operand_read given; count = λ n. cell.Int (pos n) }

-- ---- showing

-- the text form of a cell of a column of this kind; None for NULL
abbrev pub spelled : ValueKind → Cell → Option (List ℕ)
spelled k cell.Null = None
spelled k (cell.Int n) = Some (signed_decimal n)
spelled k (cell.Bytes bytes) = Some (text_spelling k bytes)
