-- What follows a field that is passed over, by what reading it gives. A fault is how many bytes are left where it stands.
use Rattle.std.specs.Prelude.{ℕ, zero, suc, ◌≡◌, ◌+◌, ◌==◌, if◌then◌else◌, List, [], ◌∷◌, length, Result, Ok, Err}
use Rattle.std.specs.Int.{w16, w32}
use Rattle.byte_reader.specs.Fields.{◌>>=◌, be_number_at, str_at}
use Rattle.pg_wire.specs.Bodies.{pair_at, format_at, field_at, cell_at, error_at, state_at, target_at, back_read, front_read}
use Rattle.pg_wire.specs.declared.back.Back.{Back}
use Rattle.pg_wire.specs.declared.front.Front.{Front}
use Rattle.wire_views.specs.declared.fields.Field.TheVariants as field
use Rattle.wire_views.specs.declared.fields.Field as fields

-- only what follows is kept of what is read
abbrev pub past : {A : Type 0} → Result (A × List ℕ) ℕ → Result (List ℕ) ℕ
past (Ok x) = Ok x.1
past (Err left) = Err left

-- what was passed over
abbrev pub Passes : {X : Type 0} → (X → List ℕ) → Result X ℕ → Result (List ℕ) ℕ → Type 0
Passes rest (Ok x) read = read ≡ Ok (rest x)
Passes rest (Err left) read = read ≡ Err left

abbrev pub field_past : fields.Field → List ℕ → Result (List ℕ) ℕ
field_past field.Text bytes = past (str_at bytes)
field_past field.Word bytes = past (be_number_at w32 bytes)
field_past field.Format bytes = past (format_at bytes)
field_past field.Cell bytes = past (cell_at bytes)
field_past field.Pair bytes = past (pair_at bytes)
field_past field.Column bytes = past (field_at bytes)
field_past field.Error bytes = past (error_at bytes)
field_past field.State bytes = past (state_at bytes)
field_past field.Target bytes = past (target_at bytes)

-- as many as a count says
abbrev pub each_past : (List ℕ → Result (List ℕ) ℕ) → ℕ → List ℕ → Result (List ℕ) ℕ
each_past step zero bytes = Ok bytes
each_past step (suc n) bytes = step bytes >>= each_past step n

abbrev pub counted_past : (List ℕ → Result (List ℕ) ℕ) → List ℕ → Result (List ℕ) ℕ
counted_past step bytes = be_number_at w16 bytes >>= λ n. each_past step n.0 n.1

-- up to a zero byte in an item's place, and at most n
abbrev pub ended_past : (List ℕ → Result (List ℕ) ℕ) → ℕ → List ℕ → Result (List ℕ) ℕ
ended_past step zero bytes = Err (length bytes)
ended_past step (suc n) [] = Err 0
ended_past step (suc n) (zero ∷ bytes) = Ok bytes
ended_past step (suc n) (suc b ∷ bytes) = step (suc b ∷ bytes) >>= ended_past step n

abbrev pub listed_past : (List ℕ → Result (List ℕ) ℕ) → List ℕ → Result (List ℕ) ℕ
listed_past step bytes = ended_past step (length bytes) bytes

-- ---- a client's messages, field by field

abbrev pub parse_past : List ℕ → Result (List ℕ) ℕ
parse_past bytes = field_past field.Text bytes >>= λ text. field_past field.Text text >>= counted_past (field_past field.Word)

abbrev pub bind_past : List ℕ → Result (List ℕ) ℕ
bind_past bytes =
    field_past field.Text bytes >>= λ name. field_past field.Text name >>= λ formats. counted_past (field_past field.Format) formats
    >>= λ cells. counted_past (field_past field.Cell) cells >>= counted_past (field_past field.Format)

abbrev pub targeted_past : List ℕ → Result (List ℕ) ℕ
targeted_past bytes = field_past field.Target bytes >>= field_past field.Text

abbrev pub execute_past : List ℕ → Result (List ℕ) ℕ
execute_past bytes = field_past field.Text bytes >>= field_past field.Word

abbrev pub cancel_past : List ℕ → Result (List ℕ) ℕ
cancel_past bytes = field_past field.Word bytes >>= field_past field.Word

-- behind the code of a startup packet, whose body has this length
abbrev pub coded_past : ℕ → ℕ × List ℕ → Result (List ℕ) ℕ
coded_past len code =
    if code.0 == 196608 then listed_past (field_past field.Pair) code.1
    else if code.0 == 80877103 then Ok code.1
    else if code.0 == 80877104 then Ok code.1
    else if code.0 == 80877102 then cancel_past code.1
    else Err len

abbrev pub startup_past : List ℕ → Result (List ℕ) ℕ
startup_past bytes = be_number_at w32 bytes >>= coded_past (length bytes)

-- the body is read as a message, or has a fault at this offset
abbrev pub ChecksBack : ℕ → List ℕ → Result (Unit {0}) ℕ → Type 0
ChecksBack kind body (Ok done) = (m : Back) × (back_read kind body ≡ Ok m)
ChecksBack kind body (Err offset) = (left : ℕ) × (back_read kind body ≡ Err left) × (offset + left ≡ length body)

abbrev pub ChecksFront : ℕ → List ℕ → Result (Unit {0}) ℕ → Type 0
ChecksFront kind body (Ok done) = (m : Front) × (front_read kind body ≡ Ok m)
ChecksFront kind body (Err offset) = (left : ℕ) × (front_read kind body ≡ Err left) × (offset + left ≡ length body)
