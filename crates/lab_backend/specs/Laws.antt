-- What the definitions of requests and replies are for.
use Rattle.std.specs.Prelude.{ℕ, ◌≡◌, List}
use Rattle.pg_wire.specs.declared.front.Front.{Front}
use Rattle.pg_wire.specs.declared.back.Back.{Back}
use Rattle.table_machine.specs.declared.cell.Cell.{Cell}
use Rattle.table_machine.specs.Tables.{Table}
use Rattle.lab_backend.specs.Sessions.{Session, StandsFirst}
use Rattle.lab_backend.specs.Backend.{Replies}

-- one request at most stands first in a session
abbrev pub OneOldest : Type 0
OneOldest = (s : Session) (request other : Front) (rest more : List ℕ) → StandsFirst s request rest → StandsFirst s other more → (request ≡ other) × (rest ≡ more)

-- a request and the tables determine the reply and the tables then
abbrev pub OneReply : Type 0
OneReply = (number : ℕ) (request : Front) (tables : List (Table Cell)) (messages others : List Back) (after other : List (Table Cell))
    → Replies number request tables messages after → Replies number request tables others other → (messages ≡ others) × (after ≡ other)
