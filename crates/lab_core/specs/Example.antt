-- A session worked to the byte: what the client sends, what it asks, and what it is sent. Each message's bytes stand here
-- as they are: its type, its length, and its content.
use Rattle.std.specs.Prelude.{ℕ, ◌≡◌, pos, List, [], ◌∷◌, ◌++◌, codes, Some, None}
use Rattle.pg_wire.specs.declared.front.Pair.{Pair}
use Rattle.sql_tree.specs.declared.condition.Operand.TheVariants as operand
use Rattle.sql_tree.specs.declared.statement.Item.{Item}
use Rattle.sql_tree.specs.declared.statement.Items.TheVariants as select
use Rattle.sql_tree.specs.declared.statement.Statement.{Statement}
use Rattle.sql_tree.specs.declared.statement.Statement.TheVariants as statement
use Rattle.session_model.specs.Requests.{Request, Splits}
use Rattle.lab_core.specs.Headline.{IsOver, replies_to}

-- ---- what the client asks

abbrev pub user_app : Pair
user_app = record { name = codes "user"; value = codes "app" }

abbrev pub insert_text : List ℕ
insert_text = codes "INSERT INTO notes (id, body) VALUES (1, 'it''s')"

abbrev pub insert_tree : Statement
insert_tree = statement.Insert (codes "notes") (Some (codes "id" ∷ codes "body" ∷ [])) ((operand.Number (pos 1) ∷ operand.Text (codes "it's") ∷ []) ∷ [])

abbrev pub select_text : List ℕ
select_text = codes "SELECT body FROM notes"

abbrev pub body_item : Item
body_item = record { column = codes "body"; label = None }

abbrev pub select_tree : Statement
select_tree = statement.Select (codes "notes") (select.Columns (body_item ∷ [])) None [] None None

abbrev pub example_requests : List Request
example_requests = Request.Opens (user_app ∷ []) ∷ Request.Asks insert_text insert_tree ∷ Request.Asks select_text select_tree ∷ Request.Leaves ∷ []

-- ---- what it sends: 18, 54, 28 and 5 bytes

abbrev pub startup_sent : List ℕ
startup_sent = 0 ∷ 0 ∷ 0 ∷ 18 ∷ 0 ∷ 3 ∷ 0 ∷ 0 ∷ codes "user" ++ 0 ∷ codes "app" ++ 0 ∷ 0 ∷ []

abbrev pub insert_sent : List ℕ
insert_sent = 81 ∷ 0 ∷ 0 ∷ 0 ∷ 53 ∷ codes "INSERT INTO notes (id, body) VALUES (1, 'it''s')" ++ 0 ∷ []

abbrev pub select_sent : List ℕ
select_sent = 81 ∷ 0 ∷ 0 ∷ 0 ∷ 27 ∷ codes "SELECT body FROM notes" ++ 0 ∷ []

abbrev pub terminate_sent : List ℕ
terminate_sent = 88 ∷ 0 ∷ 0 ∷ 0 ∷ 4 ∷ []

abbrev pub example_input : List ℕ
example_input = startup_sent ++ insert_sent ++ select_sent ++ terminate_sent

-- ---- what it is sent: 90, 22 and 65 bytes

-- AuthenticationOk, two times ParameterStatus, BackendKeyData, ReadyForQuery
abbrev pub startup_replied : List ℕ
startup_replied =
    82 ∷ 0 ∷ 0 ∷ 0 ∷ 8 ∷ 0 ∷ 0 ∷ 0 ∷ 0 ∷ []
    ++ 83 ∷ 0 ∷ 0 ∷ 0 ∷ 25 ∷ codes "client_encoding" ++ 0 ∷ codes "UTF8" ++ 0 ∷ []
    ++ 83 ∷ 0 ∷ 0 ∷ 0 ∷ 35 ∷ codes "standard_conforming_strings" ++ 0 ∷ codes "on" ++ 0 ∷ []
    ++ 75 ∷ 0 ∷ 0 ∷ 0 ∷ 12 ∷ 0 ∷ 0 ∷ 0 ∷ 1 ∷ 0 ∷ 0 ∷ 0 ∷ 0 ∷ []
    ++ 90 ∷ 0 ∷ 0 ∷ 0 ∷ 5 ∷ 73 ∷ []

-- CommandComplete, ReadyForQuery
abbrev pub insert_replied : List ℕ
insert_replied = 67 ∷ 0 ∷ 0 ∷ 0 ∷ 15 ∷ codes "INSERT 0 1" ++ 0 ∷ [] ++ 90 ∷ 0 ∷ 0 ∷ 0 ∷ 5 ∷ 73 ∷ []

-- RowDescription with one column of text, DataRow, CommandComplete, ReadyForQuery
abbrev pub select_replied : List ℕ
select_replied =
    84 ∷ 0 ∷ 0 ∷ 0 ∷ 29 ∷ 0 ∷ 1 ∷ codes "body" ++ 0 ∷ 0 ∷ 0 ∷ 64 ∷ 0 ∷ 0 ∷ 2 ∷ 0 ∷ 0 ∷ 0 ∷ 25 ∷ 255 ∷ 255 ∷ 255 ∷ 255 ∷ 255 ∷ 255 ∷ 0 ∷ 0 ∷ []
    ++ 68 ∷ 0 ∷ 0 ∷ 0 ∷ 14 ∷ 0 ∷ 1 ∷ 0 ∷ 0 ∷ 0 ∷ 4 ∷ codes "it's"
    ++ 67 ∷ 0 ∷ 0 ∷ 0 ∷ 13 ∷ codes "SELECT 1" ++ 0 ∷ []
    ++ 90 ∷ 0 ∷ 0 ∷ 0 ∷ 5 ∷ 73 ∷ []

abbrev pub example_reply : List ℕ
example_reply = startup_replied ++ insert_replied ++ select_replied

-- the input is these requests and nothing more, and the replies of session 1 to them are these bytes
abbrev pub ExampleReplies : Type 0
ExampleReplies = Splits example_input example_requests [] × IsOver example_requests [] × (replies_to (codes "app") 1 example_requests ≡ example_reply)
