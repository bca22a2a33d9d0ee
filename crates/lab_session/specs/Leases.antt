-- The leases of a session: which requests need the client's keys, and what is left of the ring.
use Rattle.std.specs.Prelude.{ℕ, ◌≡◌, ◌+◌, ◌^◌, ◌<◌, ◌||◌, Bool, false, is_some, Some, List, count_by}
use Rattle.std.specs.List.{list_any, AllByRecursion}
use Rattle.sql_tree.specs.declared.statement.Items.TheVariants as select
use Rattle.sql_tree.specs.declared.statement.Statement.{Statement}
use Rattle.sql_tree.specs.declared.statement.Statement.TheVariants as statement
use Rattle.session_model.specs.Requests.{Request}
use Rattle.session_model.specs.Rewritten.{written, is_protected}
use Rattle.acra_block.specs.Keys.{Key}
use Rattle.keystore.specs.declared.tickets.Ticket.{Ticket}
use Rattle.keystore.specs.Rings.{RingState, current_of, view_of}
use Rattle.lab_session.specs.Cells.{HasKey}

-- a statement has a place where it writes a string of the protected column
abbrev pub has_place : Statement → Bool
has_place tree = is_some (written tree)

abbrev pub shows_protected : Statement → Bool
shows_protected (statement.Select table (select.Columns items) cond order limit offset) = list_any is_protected items
shows_protected tree = false

abbrev pub needs_lease : Statement → Bool
needs_lease tree = has_place tree || shows_protected tree

abbrev pub is_leased : Request → Bool
is_leased (Request.Asks text tree) = needs_lease tree
is_leased request = false

-- how many of the requests need a lease
abbrev pub leases_of : List Request → ℕ
leases_of requests = count_by is_leased requests

-- each lease for these requests took the next ticket, and was released: all else of the ring is as it was
abbrev pub after_leases : RingState → List Request → RingState
after_leases ring requests = record ring { next_ticket = ring.next_ticket + leases_of requests }

-- the client's current key is this one, and it is lent with a view of the client's keys under a new ticket
pub record Lends (ring : RingState) (who : List ℕ) (key : Key) : Type 0 where
  pub current : current_of ring who ≡ Some key
  pub opens : HasKey (view_of ring who) key
  pub given : AllByRecursion (λ (t : Ticket). t.number < ring.next_ticket) ring.out
  pub room : ring.next_ticket + 1 < 2 ^ 64
