-- The fields of which a body is made, in order, each its bytes, and where a body can't be read.
use Rattle.std.specs.Prelude.{ℕ, ◌≡◌, ◌≤◌, ◌⊎◌, List, [], ◌∷◌, ◌++◌, length, take, Option, Some, None, Result, Ok, Err}
use Rattle.std.specs.List.{flat_map}
use Rattle.std.specs.Int.{w16, w32, to_be_bytes, cast_unsigned}
use Rattle.byte_reader.specs.Fields.{str}
use Rattle.pg_wire.specs.declared.front.Pair.{Pair}
use Rattle.pg_wire.specs.declared.front.Front.{Front}
use Rattle.pg_wire.specs.declared.front.Front.TheVariants as fronts
use Rattle.pg_wire.specs.declared.back.Field.{Field}
use Rattle.pg_wire.specs.declared.back.ErrorField.{ErrorField}
use Rattle.pg_wire.specs.declared.back.Back.{Back}
use Rattle.pg_wire.specs.declared.back.Back.TheVariants as backs
use Rattle.pg_wire.specs.declared.frame.ReadBody.{ReadBody}
use Rattle.pg_wire.specs.declared.frame.ReadBody.TheVariants as read
use Rattle.pg_wire.specs.Fronts.{IsFront, front_kind, target_byte}
use Rattle.pg_wire.specs.Backs.{IsBack, back_kind}
use Rattle.pg_wire.specs.Begins.{Begins}

abbrev pub joined : List (List ℕ) → List ℕ
joined fields = flat_map (λ field. field) fields

-- ---- fields

abbrev pub word_fields : ℕ → List (List ℕ)
word_fields n = to_be_bytes w32 n ∷ []

abbrev pub format_fields : ℕ → List (List ℕ)
format_fields n = to_be_bytes w16 n ∷ []

abbrev pub pair_fields : Pair → List (List ℕ)
pair_fields p = str p.name ∷ str p.value ∷ []

-- a length, and the bytes where it isn't NULL
abbrev pub cell_fields : Option (List ℕ) → List (List ℕ)
cell_fields None = to_be_bytes w32 4294967295 ∷ []
cell_fields (Some bytes) = to_be_bytes w32 (length bytes) ∷ bytes ∷ []

abbrev pub column_fields : Field → List (List ℕ)
column_fields f =
    str f.name ∷ to_be_bytes w32 f.table ∷ to_be_bytes w16 f.attribute ∷ to_be_bytes w32 f.kind ∷ to_be_bytes w16 (cast_unsigned w16 f.size)
    ∷ to_be_bytes w32 (cast_unsigned w32 f.modifier) ∷ to_be_bytes w16 f.format ∷ []

abbrev pub error_fields : ErrorField → List (List ℕ)
error_fields f = (f.code ∷ []) ∷ str f.text ∷ []

-- a count, and the fields of each item
abbrev pub counted_fields : {A : Type 0} → (A → List (List ℕ)) → List A → List (List ℕ)
counted_fields fields xs = to_be_bytes w16 (length xs) ∷ flat_map fields xs

-- the fields of each item, and the zero byte that ends them
abbrev pub listed_fields : {A : Type 0} → (A → List (List ℕ)) → List A → List (List ℕ)
listed_fields fields xs = flat_map fields xs ++ (0 ∷ []) ∷ []

abbrev pub front_fields : Front → List (List ℕ)
front_fields (fronts.Startup params) = to_be_bytes w32 196608 ∷ listed_fields pair_fields params
front_fields fronts.SslRequest = to_be_bytes w32 80877103 ∷ []
front_fields fronts.GssRequest = to_be_bytes w32 80877104 ∷ []
front_fields (fronts.Cancel process key) = to_be_bytes w32 80877102 ∷ to_be_bytes w32 process ∷ to_be_bytes w32 key ∷ []
front_fields (fronts.Query text) = str text ∷ []
front_fields (fronts.Parse name text types) = str name ∷ str text ∷ counted_fields word_fields types
front_fields (fronts.Bind portal name formats values results) =
    (str portal ∷ str name ∷ counted_fields format_fields formats) ++ counted_fields cell_fields values ++ counted_fields format_fields results
front_fields (fronts.Describe target name) = (target_byte target ∷ []) ∷ str name ∷ []
front_fields (fronts.Execute portal limit) = str portal ∷ to_be_bytes w32 limit ∷ []
front_fields (fronts.Close target name) = (target_byte target ∷ []) ∷ str name ∷ []
front_fields fronts.Sync = []
front_fields fronts.Flush = []
front_fields (fronts.Password bytes) = bytes ∷ []
front_fields fronts.Terminate = []

abbrev pub back_fields : Back → List (List ℕ)
back_fields (backs.Auth code rest) = to_be_bytes w32 code ∷ rest ∷ []
back_fields (backs.Status pair) = pair_fields pair
back_fields (backs.KeyData process key) = to_be_bytes w32 process ∷ to_be_bytes w32 key ∷ []
back_fields (backs.Ready b) = (b ∷ []) ∷ []
back_fields (backs.Row fields) = counted_fields column_fields fields
back_fields (backs.Cells cells) = counted_fields cell_fields cells
back_fields (backs.Complete tag) = str tag ∷ []
back_fields backs.EmptyQuery = []
back_fields (backs.Error fields) = listed_fields error_fields fields
back_fields (backs.Notice fields) = listed_fields error_fields fields
back_fields backs.ParseDone = []
back_fields backs.BindDone = []
back_fields backs.CloseDone = []
back_fields backs.NoData = []
back_fields (backs.Params types) = counted_fields word_fields types
back_fields backs.Suspended = []

-- ---- places

-- the body begins with the first n of these fields, and they end at this offset
abbrev pub EndsAt : List ℕ → List (List ℕ) → ℕ → ℕ → Type 0
EndsAt body fields n offset = Begins (joined (take n fields)) body × (offset ≡ length (joined (take n fields)))

-- the body's first byte, or the end of whole fields of some message of this type, and no message of this type has whole
-- fields that reach further
pub record IsFaultPlace {M : Type 0} (IsM : M → Type 0) (kind_of : M → ℕ) (fields_of : M → List (List ℕ)) (kind : ℕ) (body : List ℕ) (offset : ℕ) : Type 0 where
  pub begins : (offset ≡ 0) ⊎ ((m : M) × (n : ℕ) × IsM m × (kind ≡ kind_of m) × EndsAt body (fields_of m) n offset)
  pub last : (m : M) (n end : ℕ) → IsM m → kind ≡ kind_of m → EndsAt body (fields_of m) n end → end ≤ offset

abbrev pub IsFrontFault : ℕ → List ℕ → ℕ → Type 0
IsFrontFault = IsFaultPlace IsFront front_kind front_fields

abbrev pub IsBackFault : ℕ → List ℕ → ℕ → Type 0
IsBackFault = IsFaultPlace IsBack back_kind back_fields

-- of the fault's offset, if there is a fault
abbrev pub FaultAt : {M : Type 0} → Result M ReadBody → (ℕ → Type 0) → Type 0
FaultAt (Ok m) P = Unit {0}
FaultAt (Err read.NoMemory) P = Unit {0}
FaultAt (Err (read.BodyFault offset)) P = P offset
