-- What is true of every ring.
use Rattle.std.specs.Prelude.{ℕ, ◌≡◌, ◌==◌, ◌≤◌, ◌<◌, ◌||◌, Bool, true, is_some, List, length}
use Rattle.std.specs.List.{AllByRecursion}
use Rattle.std.specs.declared.cmp.Ordering.TheVariants.{Less}
use Rattle.keystore.specs.declared.phase.OldPhase.{OldPhase}
use Rattle.keystore.specs.declared.phase.OldPhase.TheVariants as old_phases
use Rattle.keystore.specs.declared.phase.OldKey.{OldKey}
use Rattle.keystore.specs.declared.tickets.Ticket.{Ticket}
use Rattle.keystore.specs.Lists.{first, AscendsBy}
use Rattle.keystore.specs.Rings.{ClientKeys, RingState, name_cmp, is_key}

abbrev pub IsBefore : ClientKeys → ClientKeys → Type 0
IsBefore c d = name_cmp c.name d.name ≡ Less

abbrev pub IsOlder : OldKey → OldKey → Type 0
IsOlder j k = j.id < k.id

abbrev pub IsEarlier : Ticket → Ticket → Type 0
IsEarlier s t = s.number < t.number

-- the client has a key of this id
abbrev pub has_old : ℕ → List OldKey → Bool
has_old id past = is_some (first (is_key id) past)

abbrev pub has_id : ℕ → ClientKeys → Bool
has_id id c = (c.id == id) || has_old id c.past

-- no id is of both clients
pub record IsApart (c d : ClientKeys) : Type 0 where
  pub none : (id : ℕ) → has_id id c ≡ true → has_id id d ≡ true → ⊥

-- the ticket at which an old key came into its phase
abbrev pub ticket_of : OldPhase → ℕ
ticket_of (old_phases.Draining ticket) = ticket
ticket_of (old_phases.Swept ticket) = ticket

-- a key that is older than the one with this id
pub record IsPast (current next_ticket : ℕ) (k : OldKey) : Type 0 where
  pub least : 1 ≤ k.id
  pub older : k.id < current
  pub since : ticket_of k.phase ≤ next_ticket

-- a client's ids ascend and are below the next one; there are at most 256
pub record IsKeyed (next_id next_ticket : ℕ) (c : ClientKeys) : Type 0 where
  pub few : length c.past < 256
  pub ascend : AscendsBy IsOlder c.past
  pub each : AllByRecursion (IsPast c.id next_ticket) c.past
  pub least : 1 ≤ c.id
  pub below : c.id < next_id

pub record IsKept (r : RingState) : Type 0 where
  pub names : AscendsBy IsBefore r.clients
  pub few : length r.clients ≤ 256
  pub apart : AscendsBy IsApart r.clients
  pub keyed : AllByRecursion (IsKeyed r.next_id r.next_ticket) r.clients
  pub tickets : AscendsBy IsEarlier r.out
  pub given : AllByRecursion (λ (t : Ticket). t.number < r.next_ticket) r.out
  pub first_id : 1 ≤ r.next_id
  pub first_ticket : 1 ≤ r.next_ticket
