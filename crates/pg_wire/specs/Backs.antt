-- The messages of a server and their one spelling.
use Rattle.std.specs.Prelude.{ℕ, ◌≡◌, ◌^◌, ◌<◌, ◌⊎◌, List, [], ◌∷◌, ◌++◌}
use Rattle.std.specs.List.{AllByRecursion}
use Rattle.std.specs.Int.{w16, w32, to_be_bytes, cast_unsigned}
use Rattle.std.specs.Int.RustNames.{FitsSigned}
use Rattle.pg_wire.specs.declared.back.Field.{Field}
use Rattle.pg_wire.specs.declared.back.ErrorField.{ErrorField}
use Rattle.pg_wire.specs.declared.back.Back.{Back}
use Rattle.pg_wire.specs.declared.back.Back.TheVariants as backs
use Rattle.pg_wire.specs.Frames.{frame_bytes}
use Rattle.byte_reader.specs.Fields.{IsText, str}
use Rattle.pg_wire.specs.Parts.{IsPair, pair_bytes, IsWord, AreCounted, counted_items, listed_items}
pub use Rattle.pg_wire.specs.Parts.{IsCell, cell_bytes}

pub record IsField (f : Field) : Type 0 where
  pub name : IsText f.name
  pub table : f.table < 2 ^ 32
  pub attribute : f.attribute < 2 ^ 16
  pub kind : f.kind < 2 ^ 32
  pub size : FitsSigned w16 f.size
  pub modifier : FitsSigned w32 f.modifier
  pub format : f.format < 2

abbrev pub field_bytes : Field → List ℕ
field_bytes f =
    str f.name ++ to_be_bytes w32 f.table ++ to_be_bytes w16 f.attribute ++ to_be_bytes w32 f.kind ++ to_be_bytes w16 (cast_unsigned w16 f.size)
    ++ to_be_bytes w32 (cast_unsigned w32 f.modifier) ++ to_be_bytes w16 f.format

abbrev pub IsErrorField : ErrorField → Type 0
IsErrorField f = (0 < f.code) × (f.code < 256) × IsText f.text

abbrev pub error_bytes : ErrorField → List ℕ
error_bytes f = f.code ∷ str f.text

-- idle, in a transaction, in a failed one
abbrev pub IsState : ℕ → Type 0
IsState b = (b ≡ 73) ⊎ (b ≡ 84) ⊎ (b ≡ 69)

-- what has a spelling
abbrev pub IsBack : Back → Type 0
IsBack (backs.Auth code rest) = code < 2 ^ 32
IsBack (backs.Status pair) = IsPair pair
IsBack (backs.KeyData process key) = (process < 2 ^ 32) × (key < 2 ^ 32)
IsBack (backs.Ready b) = IsState b
IsBack (backs.Row fields) = AreCounted IsField fields
IsBack (backs.Cells cells) = AreCounted IsCell cells
IsBack (backs.Complete tag) = IsText tag
IsBack backs.EmptyQuery = Unit {0}
IsBack (backs.Error fields) = AllByRecursion IsErrorField fields
IsBack (backs.Notice fields) = AllByRecursion IsErrorField fields
IsBack backs.ParseDone = Unit {0}
IsBack backs.BindDone = Unit {0}
IsBack backs.CloseDone = Unit {0}
IsBack backs.NoData = Unit {0}
IsBack (backs.Params types) = AreCounted IsWord types
IsBack backs.Suspended = Unit {0}

abbrev pub back_kind : Back → ℕ
back_kind (backs.Auth code rest) = 82
back_kind (backs.Status pair) = 83
back_kind (backs.KeyData process key) = 75
back_kind (backs.Ready b) = 90
back_kind (backs.Row fields) = 84
back_kind (backs.Cells cells) = 68
back_kind (backs.Complete tag) = 67
back_kind backs.EmptyQuery = 73
back_kind (backs.Error fields) = 69
back_kind (backs.Notice fields) = 78
back_kind backs.ParseDone = 49
back_kind backs.BindDone = 50
back_kind backs.CloseDone = 51
back_kind backs.NoData = 110
back_kind (backs.Params types) = 116
back_kind backs.Suspended = 115

abbrev pub back_body : Back → List ℕ
back_body (backs.Auth code rest) = to_be_bytes w32 code ++ rest
back_body (backs.Status pair) = pair_bytes pair
back_body (backs.KeyData process key) = to_be_bytes w32 process ++ to_be_bytes w32 key
back_body (backs.Ready b) = b ∷ []
back_body (backs.Row fields) = counted_items field_bytes fields
back_body (backs.Cells cells) = counted_items cell_bytes cells
back_body (backs.Complete tag) = str tag
back_body backs.EmptyQuery = []
back_body (backs.Error fields) = listed_items error_bytes fields
back_body (backs.Notice fields) = listed_items error_bytes fields
back_body backs.ParseDone = []
back_body backs.BindDone = []
back_body backs.CloseDone = []
back_body backs.NoData = []
back_body (backs.Params types) = counted_items (to_be_bytes w32) types
back_body backs.Suspended = []

abbrev pub back_frame : Back → List ℕ
back_frame m = frame_bytes (back_kind m) (back_body m)
