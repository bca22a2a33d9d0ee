-- What may happen to a ring, one call after the other.
use Rattle.std.specs.Prelude.{ℕ, ◌≡◌, ◌≢◌, ◌≤◌, ◌<◌, Bool, if◌then◌else◌, List, [], ◌∷◌, Option, Some, None, is_none, is_some, true}
use Rattle.std.specs.List.{AllByRecursion}
use Rattle.keystore.specs.declared.keys.NewKeys.{NewKeys}
use Rattle.keystore.specs.declared.phase.Phase.{Phase}
use Rattle.keystore.specs.declared.phase.Phase.TheVariants as phases
use Rattle.keystore.specs.declared.tickets.Ticket.{Ticket}
use Rattle.keystore.specs.Lists.{first}
use Rattle.keystore.specs.Rings.{RingState, phase_in, is_ticket, released, abandoned, settled}
use Rattle.keystore.specs.Answers.{add_refusal, with_client, rotate_refusal, with_rotation, with_lease, with_marked, retire_refusal, with_retired}

-- a call that changes a ring, by what it is given; a lease gives the next ticket whatever is lent
pub data Move : Type 0 where
  Add : List ℕ → NewKeys → Move
  Rotate : List ℕ → List ℕ → Move
  Lend : Move
  Release : ℕ → Move
  Abandon : ℕ → Move
  Settle : ℕ → Move
  Mark : List ℕ → ℕ → Move
  Retire : List ℕ → ℕ → Move

-- a call that is refused leaves the ring
abbrev pub moved : RingState → Move → RingState
moved r (Add who keys) = if is_none (add_refusal r who) then with_client r who keys else r
moved r (Rotate who key) = if is_none (rotate_refusal r who) then with_rotation r who key else r
moved r Lend = with_lease r
moved r (Release n) = record r { out = released n r.out }
moved r (Abandon n) = record r { out = abandoned n r.out }
moved r (Settle n) = record r { out = settled n r.out }
moved r (Mark who id) = with_marked r who id
moved r (Retire who id) = if is_none (retire_refusal r who id) then with_retired r who id else r

-- the ring after these calls
abbrev pub after : RingState → List Move → RingState
after r [] = r
after r (m ∷ ms) = after (moved r m) ms

abbrev pub is_out : ℕ → List Ticket → Bool
is_out n out = is_some (first (is_ticket n) out)

-- the least ticket out, which is below n
pub record IsLeastBelow (n m : ℕ) (out : List Ticket) : Type 0 where
  pub below : m < n
  pub there : is_out m out ≡ true
  pub least : AllByRecursion (λ (t : Ticket). m ≤ t.number) out

-- ---- what a lease keeps

-- the calls that take no ticket of this number in
abbrev pub Keeps : ℕ → Move → Type 0
Keeps n (Add who keys) = Unit {0}
Keeps n (Rotate who key) = Unit {0}
Keeps n Lend = Unit {0}
Keeps n (Release m) = m ≢ n
Keeps n (Abandon m) = Unit {0}
Keeps n (Settle m) = m ≢ n
Keeps n (Mark who id) = Unit {0}
Keeps n (Retire who id) = Unit {0}

-- the key is in the ring, and isn't swept
abbrev pub IsUsed : Option Phase → Type 0
IsUsed (Some phases.Current) = Unit {0}
IsUsed (Some (phases.Draining since)) = Unit {0}
IsUsed (Some (phases.Swept since)) = ⊥
IsUsed None = ⊥

-- the key is in the ring, and so among the live keys of its client
abbrev pub is_live : RingState → List ℕ → ℕ → Bool
is_live r who id = is_some (phase_in r who id)
