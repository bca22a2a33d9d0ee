-- The reply to a request: one function of the client, the request and the plaintext tables.
use Rattle.std.specs.Prelude.{ℕ, List, [], ◌∷◌, ◌++◌}
use Rattle.std.specs.List.{flat_map}
use Rattle.pg_wire.specs.declared.back.Back.{Back}
use Rattle.pg_wire.specs.declared.back.Back.TheVariants as backs
use Rattle.pg_wire.specs.Backs.{back_frame}
use Rattle.sql_tree.specs.declared.statement.Statement.{Statement}
use Rattle.table_machine.specs.Tables.{Table, answered, executed}
use Rattle.machine_replies.specs.Replies.{messages_of, startup_messages, ready}
use Rattle.session_model.specs.Requests.{Request}
use Rattle.session_model.specs.Plain.{PlainCell, plain, placed, given}
use Rattle.session_model.specs.Shown.{told_to}
use Rattle.session_model.specs.Rewritten.{protected_of}
use Rattle.session_model.specs.Refusals.{refusal_message}

abbrev pub reply_bytes : List Back → List ℕ
reply_bytes messages = flat_map back_frame messages

-- what the plaintext tables give a client for its statement, as it is shown; no stored bytes are shown of what it writes
abbrev pub plain_messages : List ℕ → Statement → List (Table PlainCell) → List Back
plain_messages client tree tables = messages_of tree (told_to client (protected_of tree) (answered (plain (given client [] tree)) (placed tree) tables))

-- the byte N declines encryption; the startup is answered by the backend's messages for this session, a statement by
-- those of the plaintext tables, a text without one by EmptyQueryResponse, a text that is refused by its error; the end has
-- no reply
abbrev pub reply : List ℕ → ℕ → Request → List (Table PlainCell) → List ℕ
reply client session (Request.Encrypts how) tables = 78 ∷ []
reply client session (Request.Opens params) tables = reply_bytes (startup_messages session)
reply client session (Request.Asks text tree) tables = reply_bytes (plain_messages client tree tables ++ ready ∷ [])
reply client session (Request.Empties text) tables = reply_bytes (backs.EmptyQuery ∷ ready ∷ [])
reply client session (Request.Refused text cause) tables = reply_bytes (refusal_message cause ∷ ready ∷ [])
reply client session Request.Leaves tables = []

-- the plaintext tables after a client's statement, where these bytes are stored for what it writes
abbrev pub plain_executed : List ℕ → List ℕ → Statement → List (Table PlainCell) → List (Table PlainCell)
plain_executed client stored tree tables = executed (plain (given client stored tree)) (placed tree) tables

abbrev pub tables_then : List ℕ → List ℕ → Request → List (Table PlainCell) → List (Table PlainCell)
tables_then client stored (Request.Asks text tree) tables = plain_executed client stored tree tables
tables_then client stored request tables = tables
