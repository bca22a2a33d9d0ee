-- The plaintext tables: the table machine over cells that are public, or an owner's plaintext with what is stored for it.
use Rattle.std.specs.Prelude.{ℕ, ◌-◌, pos, List, [], ◌∷◌, map, Option, Some, None, slice_index_or}
use Rattle.std.specs.declared.cmp.Ordering.{Ordering}
use Rattle.std.specs.Ordering.{nat_cmp, then_cmp}
use Rattle.std.specs.Cmp.Lexicographic.{slice_cmp}
use Rattle.acra_base.specs.declared.kind.ValueKind.{ValueKind}
use Rattle.sql_tree.specs.declared.condition.Operand.{Operand}
use Rattle.sql_tree.specs.declared.condition.Operand.TheVariants as operand
use Rattle.sql_tree.specs.declared.statement.Statement.{Statement}
use Rattle.sql_tree.specs.declared.statement.Statement.TheVariants as statement
use Rattle.table_machine.specs.declared.cell.Cell.{Cell}
use Rattle.table_machine.specs.declared.cell.Cell.TheVariants as cell
use Rattle.table_machine.specs.Machine.{Cells, Read, value, bad, beyond}
use Rattle.table_machine.specs.Stored as stored
use Rattle.session_model.specs.Rewritten.{written}

-- a cell of a plain column, or of a protected one: owner, plaintext, and the bytes that are stored
pub data PlainCell : Type 0 where
  Public : Cell → PlainCell
  Protected : (owner plain stored : List ℕ) → PlainCell

-- ---- comparing

-- of two protected cells owner and plaintext are compared, and not what is stored; NULL is public
abbrev pub compare : PlainCell → PlainCell → Option Ordering
compare (PlainCell.Public a) (PlainCell.Public b) = stored.compare a b
compare (PlainCell.Protected owner plain kept) (PlainCell.Protected other text same) =
    Some (then_cmp (λ (a b : List ℕ × List ℕ). slice_cmp nat_cmp a.0 b.0) (λ (a b : List ℕ × List ℕ). slice_cmp nat_cmp a.1 b.1) (owner, plain) (other, text))
compare _ _ = None

-- the cell in which there is no owner
abbrev pub value_of : PlainCell → Cell
value_of (PlainCell.Public c) = c
value_of (PlainCell.Protected owner plain kept) = cell.Bytes plain

-- ---- values

-- a literal is public
abbrev pub public_read : Read Cell → Read PlainCell
public_read (value c) = value (PlainCell.Public c)
public_read bad = bad
public_read beyond = beyond

-- a parameter, counted from 1, is the cell that is given for it
abbrev pub plain_read : List PlainCell → ValueKind → Operand → Read PlainCell
plain_read given k (operand.Parameter n) = value (slice_index_or given (n - 1) (PlainCell.Public cell.Null))
plain_read given k o = public_read (stored.literal_read k o)

-- the first bytes of a cell are public
abbrev pub prefix : PlainCell → PlainCell
prefix c = PlainCell.Public (stored.prefix (value_of c))

-- the plaintext tables, where these cells are given for the parameters
abbrev pub plain : List PlainCell → Cells PlainCell
plain given = record {
  null = PlainCell.Public cell.Null;
  is_null = λ c. stored.is_null (value_of c);
  compare = compare;
  order = λ a b. stored.order (value_of a) (value_of b);
  prefix = prefix;
  read = plain_read given;
  count = λ n. PlainCell.Public (cell.Int (pos n));
}

-- ---- a client's statement on them

-- the written string is a parameter
abbrev pub placed_value : Operand → Operand
placed_value (operand.Text text) = operand.Parameter 1
placed_value o = o

abbrev pub placed : Statement → Statement
placed (statement.Insert table columns rows) = statement.Insert table columns (map (map placed_value) rows)
placed tree = tree

-- whose cell is the client's, with these stored bytes
abbrev pub given_text : List ℕ → List ℕ → Option (List ℕ) → List PlainCell
given_text owner kept None = []
given_text owner kept (Some text) = PlainCell.Protected owner text kept ∷ []

abbrev pub given : List ℕ → List ℕ → Statement → List PlainCell
given owner kept tree = given_text owner kept (written tree)
