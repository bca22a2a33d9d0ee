-- The ring: clients with their keys, and the tickets that are out.
use Rattle.std.specs.Prelude.{ℕ, ◌==◌, nat_lt, nat_eq, Bool, true, false, if◌then◌else◌, List, [], ◌∷◌, ◌++◌, map, Option, Some, None, option_map, is_none, min}
use Rattle.std.specs.Option.{option_and_then, option_to_list}
use Rattle.std.specs.List.{flat_map}
use Rattle.std.specs.Ordering.{nat_cmp, is_gt}
use Rattle.std.specs.Cmp.Lexicographic.{slice_cmp, pointwise}
use Rattle.std.specs.declared.cmp.Ordering.{Ordering}
use Rattle.acra_block.specs.Keys.{Key}
use Rattle.acra_block.specs.declared.keys.LiveKey.{LiveKey}
use Rattle.acra_block.specs.declared.keys.KeyView.{KeyView}
use Rattle.keystore.specs.declared.phase.Phase.{Phase}
use Rattle.keystore.specs.declared.phase.Phase.TheVariants as phases
use Rattle.keystore.specs.declared.phase.OldPhase.{OldPhase}
use Rattle.keystore.specs.declared.phase.OldPhase.TheVariants as old_phases
use Rattle.keystore.specs.declared.phase.OldKey.{OldKey}
use Rattle.keystore.specs.declared.keys.KeyLine.{KeyLine}
use Rattle.keystore.specs.declared.tickets.Ticket.{Ticket}
use Rattle.keystore.specs.Lists.{first, edited}

-- a client: its one current key, and the older ones, oldest first; the key of its blind indexes stays
pub record ClientKeys : Type 0 where
  pub name : List ℕ
  pub search : List ℕ
  pub id : ℕ
  pub key : List ℕ
  pub past : List OldKey

pub record RingState : Type 0 where
  pub token_key : List ℕ
  pub store_key : List ℕ
  pub audit_key : List ℕ
  pub clients : List ClientKeys
  pub next_id : ℕ
  pub next_ticket : ℕ
  -- the tickets out, oldest first, each abandoned or not
  pub out : List Ticket

-- a ring that was kept, of which no ticket is out
abbrev pub restored_ring : List ℕ → List ℕ → List ℕ → List ClientKeys → ℕ → RingState
restored_ring token_key store_key audit_key clients next_id =
    record { token_key = token_key; store_key = store_key; audit_key = audit_key; clients = clients; next_id = next_id; next_ticket = 1; out = [] }

-- ---- clients

-- by their bytes
abbrev pub name_cmp : List ℕ → List ℕ → Ordering
name_cmp = slice_cmp nat_cmp

abbrev pub is_named : List ℕ → ClientKeys → Bool
is_named who c = pointwise nat_eq c.name who

abbrev pub client_of : List ℕ → List ClientKeys → Option ClientKeys
client_of who clients = first (is_named who) clients

-- before the first client whose name comes after
abbrev pub added : ClientKeys → List ClientKeys → List ClientKeys
added c [] = c ∷ []
added c (d ∷ ds) = if is_gt (name_cmp d.name c.name) then c ∷ d ∷ ds else d ∷ added c ds

abbrev pub changed : List ℕ → (ClientKeys → ClientKeys) → List ClientKeys → List ClientKeys
changed who f clients = edited (is_named who) (λ c. f c ∷ []) clients

-- ---- keys

abbrev pub is_key : ℕ → OldKey → Bool
is_key id k = k.id == id

abbrev pub phase_of_old : OldPhase → Phase
phase_of_old (old_phases.Draining ticket) = phases.Draining ticket
phase_of_old (old_phases.Swept ticket) = phases.Swept ticket

abbrev pub old_phase_of : Option OldKey → Option OldPhase
old_phase_of found = option_map (λ (k : OldKey). k.phase) found

-- the phase of a client's key
abbrev pub phase_of : ℕ → ClientKeys → Option Phase
phase_of id c = if c.id == id then Some phases.Current else option_map phase_of_old (old_phase_of (first (is_key id) c.past))

-- the phase of the key with this id of the client of this name
abbrev pub phase_in : RingState → List ℕ → ℕ → Option Phase
phase_in r who id = option_and_then (phase_of id) (client_of who r.clients)

-- a client's keys with the numbers of their phases, oldest first
abbrev pub number_of : OldPhase → ℕ
number_of (old_phases.Draining ticket) = 1
number_of (old_phases.Swept ticket) = 2

abbrev pub line_of : OldKey → KeyLine
line_of k = record { id = k.id; phase = number_of k.phase }

abbrev pub lines_of : ClientKeys → List KeyLine
lines_of c = map line_of c.past ++ record { id = c.id; phase = 0 } ∷ []

abbrev pub lines_where : Option ClientKeys → List KeyLine
lines_where (Some c) = lines_of c
lines_where None = []

-- the keys by which a client's cells can be opened
abbrev pub live : OldKey → LiveKey
live k = record { id = k.id; key = k.key }

abbrev pub live_keys : ClientKeys → List LiveKey
live_keys c = map live c.past ++ record { id = c.id; key = c.key } ∷ []

abbrev pub live_keys_of : Option ClientKeys → List LiveKey
live_keys_of (Some c) = live_keys c
live_keys_of None = []

abbrev pub view_of : RingState → List ℕ → KeyView
view_of r who = record { who = who; next_id = r.next_id; keys = live_keys_of (client_of who r.clients) }

abbrev pub current_key : ClientKeys → Key
current_key c = record { owner = c.name; id = c.id; key = c.key; search = c.search }

abbrev pub current_of : RingState → List ℕ → Option Key
current_of r owner = option_map current_key (client_of owner r.clients)

-- the current keys of those owners that are in the ring
abbrev pub currents_of : RingState → List (List ℕ) → List Key
currents_of r owners = flat_map (λ owner. option_to_list (current_of r owner)) owners

-- the first owner without a key
abbrev pub missing : RingState → List (List ℕ) → Option (List ℕ)
missing r owners = first (λ owner. is_none (client_of owner r.clients)) owners

-- the current key drains from this ticket on, and the new one is current
abbrev pub rotated : ℕ → List ℕ → ℕ → ClientKeys → ClientKeys
rotated id key ticket c =
    record c { id = id; key = key; past = c.past ++ record { id = c.id; key = c.key; phase = old_phases.Draining ticket } ∷ [] }

abbrev pub swept_phase : ℕ → OldPhase → OldPhase
swept_phase now (old_phases.Draining since) = old_phases.Swept now
swept_phase now (old_phases.Swept since) = old_phases.Swept since

abbrev pub swept_key : ℕ → OldKey → OldKey
swept_key ticket k = record k { phase = swept_phase ticket k.phase }

-- a draining key is swept at this ticket
abbrev pub marked : ℕ → ℕ → ClientKeys → ClientKeys
marked id ticket c = record c { past = edited (is_key id) (λ k. swept_key ticket k ∷ []) c.past }

abbrev pub without : ℕ → ClientKeys → ClientKeys
without id c = record c { past = edited (is_key id) (λ _. []) c.past }

-- ---- tickets

abbrev pub is_ticket : ℕ → Ticket → Bool
is_ticket n t = t.number == n

-- the least ticket out below a number
abbrev pub lesser : ℕ → Option ℕ → ℕ
lesser n None = n
lesser n (Some m) = min n m

abbrev pub least_below : ℕ → List Ticket → Option ℕ
least_below n [] = None
least_below n (t ∷ ts) = if nat_lt t.number n then Some (lesser t.number (least_below n ts)) else least_below n ts

abbrev pub released : ℕ → List Ticket → List Ticket
released n out = edited (is_ticket n) (λ t. if t.abandoned then t ∷ [] else []) out

abbrev pub abandoned : ℕ → List Ticket → List Ticket
abandoned n out = edited (is_ticket n) (λ t. record t { abandoned = true } ∷ []) out

abbrev pub settled : ℕ → List Ticket → List Ticket
settled n out = edited (is_ticket n) (λ t. if t.abandoned then [] else t ∷ []) out

abbrev pub abandons : Option Ticket → Bool
abandons (Some t) = t.abandoned
abandons None = false

abbrev pub is_abandoned : ℕ → List Ticket → Bool
is_abandoned n out = abandons (first (is_ticket n) out)
