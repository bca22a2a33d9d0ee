-- A DataRow that is written at the end of a buffer, cell by cell, with its length and its count set at the end.
use Rattle.std.specs.Prelude.{ℕ, ◌≡◌, List, ◌∷◌, ◌++◌, length, Option}
use Rattle.std.specs.List.{flat_map}
use Rattle.pg_wire.specs.Parts.{cell_bytes}
use Rattle.wire_views.specs.declared.draft.RowDraft.{RowDraft}

-- the type, the room for the length and for the count, and the cells
abbrev pub draft_bytes : List (Option (List ℕ)) → List ℕ
draft_bytes cells = 68 ∷ 0 ∷ 0 ∷ 0 ∷ 0 ∷ 0 ∷ 0 ∷ flat_map cell_bytes cells

-- behind these bytes of the buffer is the draft of a row with these cells, and nothing more
pub record IsDraft (d : RowDraft) (out before : List ℕ) (cells : List (Option (List ℕ))) : Type 0 where
  pub whole : out ≡ before ++ draft_bytes cells
  pub start : d.start ≡ length before
  pub count : d.count ≡ length cells

-- where these bytes stood in it, others of their number stand now
abbrev pub Overwrites : ℕ → List ℕ → (old new : List ℕ) → Type 0
Overwrites place bytes old new =
    (front stood behind : List ℕ) → old ≡ front ++ (stood ++ behind) → length front ≡ place → length stood ≡ length bytes → new ≡ front ++ (bytes ++ behind)
