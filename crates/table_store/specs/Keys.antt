-- Stored keys that can't stand, and those before them.
use Rattle.std.specs.Prelude.{◌≡◌, List, [], ◌∷◌, ◌++◌, Bool, if◌then◌else◌, Option, Some, None}
use Rattle.std.specs.List.{list_any}
use Rattle.std.specs.BTreeSet as tree
use Rattle.std.specs.BTreeSet.{BTreeSet}
use Rattle.table_machine.specs.declared.cell.Cell.{Cell}
use Rattle.table_machine.specs.declared.cell.Cell.TheVariants as cells
use Rattle.table_rows.specs.declared.seen.Seen.{Seen}
use Rattle.table_rows.specs.declared.seen.Seen.TheVariants as see
use Rattle.table_machine.specs.declared.table.BrokenKey.{BrokenKey}
use Rattle.table_machine.specs.Faults.{are_equal, broken_behind}
use Rattle.table_machine.specs.Stored.{stored, compare, is_null}
use Rattle.table_store.specs.declared.keys.Key.{Key}
use Rattle.table_store.specs.declared.keys.Key.TheVariants as known
use Rattle.table_store.specs.contracts.keys.KeyOrd.TheImpl as key_ord

abbrev pub broken_stored : List Cell → List Cell → Option BrokenKey
broken_stored earlier keys = broken_behind (stored []) earlier keys

-- whether a key is equal to one of these
abbrev pub is_among : List Cell → Cell → Bool
is_among keys key = list_any (λ c. are_equal (compare key c)) keys

-- the keys before the first that can't stand behind the earlier ones
abbrev pub standing : List Cell → List Cell → List Cell
standing earlier [] = []
standing earlier (key ∷ keys) =
    if is_null key then []
    else if is_among earlier key then []
    else key ∷ standing (earlier ++ key ∷ []) keys

-- ---- keys in order

abbrev pub key_in : Seen → Option Key
key_in see.Null = None
key_in (see.Int n) = Some (known.Int n)
key_in (see.Bytes bytes) = Some (known.Bytes bytes)

abbrev pub cell_of : Key → Cell
cell_of (known.Int n) = cells.Int n
cell_of (known.Bytes bytes) = cells.Bytes bytes.now

abbrev pub has : BTreeSet Key → Key → Bool
has = tree.contains (key_ord.ghosts).cmp

-- a set has exactly the keys in these cells
abbrev pub Holds : BTreeSet Key → List Cell → Type 0
Holds keys all = (key : Key) → has keys key ≡ is_among all (cell_of key)
