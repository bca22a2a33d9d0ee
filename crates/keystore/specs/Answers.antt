-- What the ring's calls answer.
use Rattle.std.specs.Prelude.{ℕ, ◌≡◌, ◌==◌, ◌^◌, ◌-◌, ◌+◌, nat_le, ◌||◌, Bool, false, if◌then◌else◌, List, [], ◌∷◌, ◌++◌, length, Option, Some, None, Result, Ok, Err, is_some}
use Rattle.keystore.specs.declared.phase.Phase.{Phase}
use Rattle.keystore.specs.declared.phase.Phase.TheVariants as phases
use Rattle.keystore.specs.declared.refusals.AddRefusal.{AddRefusal}
use Rattle.keystore.specs.declared.refusals.AddRefusal.TheVariants as no_add
use Rattle.keystore.specs.declared.refusals.LeaseRefusal.{LeaseRefusal}
use Rattle.keystore.specs.declared.refusals.LeaseRefusal.TheVariants as no_lease
use Rattle.keystore.specs.declared.refusals.RotateRefusal.{RotateRefusal}
use Rattle.keystore.specs.declared.refusals.RotateRefusal.TheVariants as no_rotation
use Rattle.keystore.specs.declared.refusals.DrainRefusal.{DrainRefusal}
use Rattle.keystore.specs.declared.refusals.DrainRefusal.TheVariants as not_drained
use Rattle.keystore.specs.declared.refusals.RetireRefusal.{RetireRefusal}
use Rattle.keystore.specs.declared.refusals.RetireRefusal.TheVariants as not_retired
use Rattle.keystore.specs.declared.keys.NewKeys.{NewKeys}
use Rattle.keystore.specs.declared.keys.Lease.{Lease}
use Rattle.keystore.specs.Rings.{RingState, ClientKeys, client_of, added, changed, rotated, missing, phase_in, least_below, marked, without, view_of, currents_of}

-- the refusal where there is one; else the answer is as stated, or there was no memory
abbrev pub Answers : {T E : Type 0} → Option E → E → (T → Type 0) → Result T E → Type 0
Answers (Some why) no_memory P result = result ≡ Err why
Answers None no_memory P (Ok value) = P value
Answers None no_memory P (Err why) = why ≡ no_memory

-- the same of a call that takes no memory
abbrev pub Settles : {T E : Type 0} → Option E → (T → Type 0) → Result T E → Type 0
Settles (Some why) P result = result ≡ Err why
Settles None P (Ok value) = P value
Settles None P (Err why) = ⊥

-- numbers of 64 bits; the last one is never given
abbrev pub is_last : ℕ → Bool
is_last n = n == (2 ^ 64 - 1)

-- ---- clients and rotation

abbrev pub add_refusal : RingState → List ℕ → Option AddRefusal
add_refusal r who =
    if is_some (client_of who r.clients) then Some no_add.Exists
    else if nat_le 256 (length r.clients) || is_last r.next_id then Some no_add.TooMany
    else None

abbrev pub new_client : RingState → List ℕ → NewKeys → ClientKeys
new_client r who keys = record { name = who; search = keys.search; id = r.next_id; key = keys.key; past = [] }

abbrev pub with_client : RingState → List ℕ → NewKeys → RingState
with_client r who keys = record r { clients = added (new_client r who keys) r.clients; next_id = r.next_id + 1 }

-- a client has its current key and at most 255 old ones
abbrev pub full_or_last : RingState → ClientKeys → Bool
full_or_last r c = nat_le 255 (length c.past) || is_last r.next_id

abbrev pub rotate_refusal_of : RingState → Option ClientKeys → Option RotateRefusal
rotate_refusal_of r None = Some no_rotation.NoClient
rotate_refusal_of r (Some c) = if full_or_last r c then Some no_rotation.TooMany else None

abbrev pub rotate_refusal : RingState → List ℕ → Option RotateRefusal
rotate_refusal r who = rotate_refusal_of r (client_of who r.clients)

abbrev pub with_rotation : RingState → List ℕ → List ℕ → RingState
with_rotation r who key = record r { clients = changed who (rotated r.next_id key r.next_ticket) r.clients; next_id = r.next_id + 1 }

-- ---- leases

abbrev pub no_key : Option (List ℕ) → Option LeaseRefusal
no_key (Some owner) = Some (no_lease.NoKey owner)
no_key None = None

abbrev pub lease_refusal : RingState → List (List ℕ) → Option LeaseRefusal
lease_refusal r owners = if is_last r.next_ticket then Some no_lease.NoTicket else no_key (missing r owners)

abbrev pub lease_of : RingState → List ℕ → List (List ℕ) → Lease
lease_of r who owners = record { ticket = r.next_ticket; view = view_of r who; currents = currents_of r owners }

-- the next ticket goes out
abbrev pub with_lease : RingState → RingState
with_lease r = record r { next_ticket = r.next_ticket + 1; out = r.out ++ record { number = r.next_ticket; abandoned = false } ∷ [] }

-- ---- the end of a key

abbrev pub leased_drain : Option ℕ → Option DrainRefusal
leased_drain (Some ticket) = Some (not_drained.Leased ticket)
leased_drain None = None

abbrev pub drain_refusal_at : RingState → Option Phase → Option DrainRefusal
drain_refusal_at r None = Some not_drained.NoSuchKey
drain_refusal_at r (Some phases.Current) = Some not_drained.IsCurrent
drain_refusal_at r (Some (phases.Swept ticket)) = Some not_drained.IsSwept
drain_refusal_at r (Some (phases.Draining ticket)) = leased_drain (least_below ticket r.out)

abbrev pub drain_refusal : RingState → List ℕ → ℕ → Option DrainRefusal
drain_refusal r who id = drain_refusal_at r (phase_in r who id)

-- the client and the id of a key that is drained
pub record DrainedKey : Type 0 where
  pub who : List ℕ
  pub id : ℕ

abbrev pub with_marked : RingState → List ℕ → ℕ → RingState
with_marked r who id = record r { clients = changed who (marked id r.next_ticket) r.clients }

abbrev pub leased_retire : Option ℕ → Option RetireRefusal
leased_retire (Some ticket) = Some (not_retired.Leased ticket)
leased_retire None = None

abbrev pub retire_refusal_at : RingState → Option Phase → Option RetireRefusal
retire_refusal_at r None = Some not_retired.NoSuchKey
retire_refusal_at r (Some phases.Current) = Some not_retired.NotSwept
retire_refusal_at r (Some (phases.Draining ticket)) = Some not_retired.NotSwept
retire_refusal_at r (Some (phases.Swept ticket)) = leased_retire (least_below ticket r.out)

abbrev pub retire_refusal : RingState → List ℕ → ℕ → Option RetireRefusal
retire_refusal r who id = retire_refusal_at r (phase_in r who id)

abbrev pub with_retired : RingState → List ℕ → ℕ → RingState
with_retired r who id = record r { clients = changed who (without id) r.clients }
