-- Where a chain stands: what one who goes on needs of the lines so far.
use Rattle.std.specs.Prelude.{ℕ, ◌≡◌, ◌+◌, ◌%◌, ◌^◌, List, [], ◌∷◌, ◌++◌, length, replicate, codes, Bool, true, false}
use Rattle.std.specs.List.{list_any}
use Rattle.acra_crypto.specs.Hmac.{hmac_sha256}
use Rattle.audit_chain.specs.Kinds.{is_close}
use Rattle.audit_chain.specs.Lines.{IsNote, note_text, line_of, closes}
use Rattle.audit_chain.specs.Chains.{key_after, mac_after, number_after, AllRecompute}
use Rattle.audit_chain.specs.declared.note.Note.{Note}

pub record Point : Type 0 where
  -- of the last line, and 0 before the first
  pub number : ℕ
  -- of the next line
  pub key : List ℕ
  -- of the last line
  pub mac : List ℕ
  -- nothing more may be written
  pub ended : Bool

abbrev pub next_number : Point → ℕ
next_number p = number_after p.number

abbrev pub next_mac : Point → Note → List ℕ
next_mac p note = hmac_sha256 p.key (p.mac ++ note_text (next_number p) note)

-- the line that says a note next
abbrev pub next_line : Point → Note → List ℕ
next_line p note = line_of (note_text (next_number p) note) (next_mac p note)

-- behind that line
abbrev pub point_after : Point → Note → Point
point_after p note = record { number = next_number p; key = hmac_sha256 p.key (codes "next"); mac = next_mac p note; ended = is_close note.kind }

-- the line is the next one
pub record IsNext (p : Point) (line : List ℕ) (note : Note) : Type 0 where
  pub formed : IsNote note
  pub spelled : line ≡ next_line p note
  pub goes : p.ended ≡ false

-- these lines all recompute, and a chain behind them stands here
pub record StandsBehind (key : List ℕ) (lines : List (List ℕ)) (p : Point) : Type 0 where
  pub each : AllRecompute key lines
  pub number : p.number ≡ length lines % 2 ^ 64
  pub next_key : p.key ≡ key_after key (length lines)
  pub mac : p.mac ≡ mac_after key lines
  pub ended : p.ended ≡ list_any closes lines

-- behind no line
abbrev pub start : List ℕ → Point
start key = record { number = 0; key = key; mac = replicate 32 0; ended = false }
