-- What a session writes, request by request: the plaintext tables, the cells made for its values, and its replies.
use Rattle.std.specs.Prelude.{ℕ, List, [], ◌∷◌, ◌++◌, Option, Some, None}
use Rattle.rand_chacha.specs.ChaCha.{ChaCha}
use Rattle.acra_devices.specs.Draws.{drawn}
use Rattle.table_machine.specs.Tables.{Table}
use Rattle.session_model.specs.Notes.{notes_with}
use Rattle.session_model.specs.Requests.{Request}
use Rattle.session_model.specs.Plain.{PlainCell}
use Rattle.session_model.specs.Reply.{reply, tables_then}
use Rattle.session_model.specs.Rewritten.{written}
use Rattle.acra_block.specs.Keys.{Key}
use Rattle.lab_session.specs.Cells.{sealed_cell}

-- the cell of a written string takes the next 56 bytes
abbrev pub cell_for : Key → ChaCha → Option (List ℕ) → List ℕ
cell_for keys g None = []
cell_for keys g (Some plain) = sealed_cell keys (drawn 56 g).0 plain

abbrev pub drawn_for : ChaCha → Option (List ℕ) → ChaCha
drawn_for g None = g
drawn_for g (Some plain) = (drawn 56 g).1

abbrev pub written_by : Request → Option (List ℕ)
written_by (Request.Asks text tree) = written tree
written_by request = None

-- ---- a run

-- the plaintext tables, and the generator of the drawn bytes
pub record State : Type 0 where
  pub tables : List (Table PlainCell)
  pub coming : ChaCha

-- the table without rows
abbrev pub started : ChaCha → State
started g = record { tables = notes_with []; coming = g }

abbrev pub state_after : Key → State → Request → State
state_after keys s request = record {
  tables = tables_then keys.owner (cell_for keys s.coming (written_by request)) request s.tables;
  coming = drawn_for s.coming (written_by request);
}

abbrev pub state_after_all : Key → State → List Request → State
state_after_all keys s [] = s
state_after_all keys s (request ∷ requests) = state_after_all keys (state_after keys s request) requests

-- the number of this session
abbrev pub session_number : ℕ
session_number = 1

-- the reply to a request
abbrev pub answer : Key → State → Request → List ℕ
answer keys s request = reply keys.owner session_number request s.tables

-- the replies to the requests, one after the other
abbrev pub answers : Key → State → List Request → List ℕ
answers keys s [] = []
answers keys s (request ∷ requests) = answer keys s request ++ answers keys (state_after keys s request) requests
