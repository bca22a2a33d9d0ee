-- Each call keeps what is true of every ring.
use Rattle.std.proofs.Common.{◌≡◌, ℕ, ◌<◌, ◌≤◌, ◌+◌, Bool, true, false, if◌then◌else◌, List, [], ◌∷◌, ◌++◌, length, Some, inr, refl, sym, subst, arith, length-append}
use Rattle.std.specs.List.{AllByRecursion}
use Rattle.std.specs.declared.cmp.Ordering.TheVariants.{Less}
use Rattle.std.proofs.lemmas.List.Edits.{length-insert}
use Rattle.keystore.specs.declared.keys.NewKeys.{NewKeys}
use Rattle.keystore.specs.declared.phase.OldPhase.{OldPhase}
use Rattle.keystore.specs.declared.phase.OldPhase.TheVariants as old_phases
use Rattle.keystore.specs.declared.phase.OldKey.{OldKey}
use Rattle.keystore.specs.declared.tickets.Ticket.{Ticket}
use Rattle.keystore.specs.Lists.{first, edited, AscendsBy}
use Rattle.keystore.specs.Rings.{ClientKeys, RingState, name_cmp, is_named, is_key, is_ticket, changed, rotated, marked, without, swept_key, swept_phase, released, abandoned, settled}
use Rattle.keystore.specs.Answers.{new_client, with_client, with_rotation, with_lease, with_marked, with_retired}
use Rattle.keystore.specs.Kept.{has_id, IsBefore, IsOlder, IsEarlier, ticket_of, IsPast, IsKeyed, IsKept}
use Rattle.keystore.specs.Places.{Fits}
use Rattle.keystore.proofs.Items.{all_weaker, all_push, ascends_push, all_edited, ascends_edited, length_edited, IsLike, Narrows}
use Rattle.keystore.proofs.Apart.{apart_added, apart_changed, new_ids, rotated_ids, marked_ids, without_ids}
use Rattle.keystore.proofs.Names.{added_at, all_added, names_added}

-- ---- later numbers

past_later : (id next next' : ℕ) → next ≤ next' → (k : OldKey) → IsPast id next k → IsPast id next' k
past_later id next next' le k h = record { least = h.least; older = h.older; since = omega (arith, h.since) }

keyed_later : (id id' next next' : ℕ) → id ≤ id' → next ≤ next' → (c : ClientKeys) → IsKeyed id next c → IsKeyed id' next' c
keyed_later id id' next next' le le' c h = record {
  few = h.few;
  ascend = h.ascend;
  each = all_weaker (IsPast c.id next) (IsPast c.id next') (past_later c.id next next' le') c.past h.each;
  least = h.least;
  below = omega (arith, h.below);
}

-- ---- a new client

new_keyed : (r : RingState) (who : List ℕ) (keys : NewKeys) → IsKept r → IsKeyed (r.next_id + 1) r.next_ticket (new_client r who keys)
new_keyed r who keys k = record { few = omega arith; ascend = tt; each = tt; least = k.first_id; below = omega arith }

pub kept_added : (r : RingState) (who : List ℕ) (keys : NewKeys) (i : ℕ) → IsKept r → Fits who r.clients i → length r.clients < 256 → IsKept (with_client r who keys)
kept_added r who keys i k fits small = record {
  names = names_added (new_client r who keys) r.clients i fits k.names;
  few = rw (added_at (new_client r who keys) r.clients i fits) (omega (arith, length-insert r.clients i (new_client r who keys) fits.within));
  apart = apart_added r.next_id r.next_ticket (new_client r who keys) (λ id h. new_ids r.next_id id h) r.clients k.keyed k.apart;
  keyed = all_added (IsKeyed (r.next_id + 1) r.next_ticket) (new_client r who keys) r.clients i fits (new_keyed r who keys k)
      (all_weaker (IsKeyed r.next_id r.next_ticket) (IsKeyed (r.next_id + 1) r.next_ticket) (keyed_later r.next_id (r.next_id + 1) r.next_ticket r.next_ticket (omega arith) (omega arith)) r.clients k.keyed);
  tickets = k.tickets;
  given = k.given;
  first_id = omega (arith, k.first_id);
  first_ticket = k.first_ticket;
}

-- ---- a changed client

like_client : (f : ClientKeys → ClientKeys) → ((c : ClientKeys) → (f c).name ≡ c.name) → (c : ClientKeys) → IsLike IsBefore c (f c)
like_client f same c = record {
  left = λ d h. subst (λ (n : List ℕ). name_cmp n d.name ≡ Less) (sym (same c)) h;
  right = λ d h. subst (λ (n : List ℕ). name_cmp d.name n ≡ Less) (sym (same c)) h;
}

names_changed : (who : List ℕ) (f : ClientKeys → ClientKeys) → ((c : ClientKeys) → (f c).name ≡ c.name) → (cs : List ClientKeys) → AscendsBy IsBefore cs → AscendsBy IsBefore (changed who f cs)
names_changed who f same cs h = ascends_edited IsBefore (is_named who) (λ c. f c ∷ []) (like_client f same) cs h

few_changed : (who : List ℕ) (f : ClientKeys → ClientKeys) → ((c : ClientKeys) → (f c).name ≡ c.name) → (cs : List ClientKeys) → length (changed who f cs) ≤ length cs
few_changed who f same cs = length_edited IsBefore (is_named who) (λ c. f c ∷ []) (like_client f same) cs

-- the others stay keyed with a later id
keyed_changed : (who : List ℕ) (f : ClientKeys → ClientKeys) (P Q : ClientKeys → Type 0) → ((c : ClientKeys) → P c → Q c) → (cs : List ClientKeys) → ((c : ClientKeys) → first (is_named who) cs ≡ Some c → P c → Q (f c)) → AllByRecursion P cs → AllByRecursion Q (changed who f cs)
keyed_changed who f P Q later [] this h = tt
keyed_changed who f P Q later (c ∷ cs) this h = by_test (is_named who c) this (λ g. keyed_changed who f P Q later cs g h.1)
  where
    by_test : (b : Bool) → ((d : ClientKeys) → (if b then Some c else first (is_named who) cs) ≡ Some d → P d → Q (f d)) → (((d : ClientKeys) → first (is_named who) cs ≡ Some d → P d → Q (f d)) → AllByRecursion Q (changed who f cs)) → AllByRecursion Q (if b then f c ∷ [] ++ cs else c ∷ changed who f cs)
    by_test true g rest = (g c refl h.0, all_weaker P Q later cs h.1)
    by_test false g rest = (later c h.0, rest g)

-- ---- rotation

rotated_keyed : (id next : ℕ) (key : List ℕ) (c : ClientKeys) → 1 ≤ id → length c.past < 255 → IsKeyed id next c → IsKeyed (id + 1) next (rotated id key next c)
rotated_keyed id next key c least small h = record {
  few = omega (arith, length-append {A = OldKey});
  ascend = ascends_push IsOlder c.past _ h.ascend (all_weaker (IsPast c.id next) (λ k. k.id < c.id) (λ k p. p.older) c.past h.each);
  each = all_push (IsPast id next) c.past _ (all_weaker (IsPast c.id next) (IsPast id next) (λ k p. record { least = p.least; older = omega (arith, p.older, h.below); since = p.since }) c.past h.each)
      (record { least = h.least; older = h.below; since = omega arith });
  least = least;
  below = omega arith;
}

pub kept_rotated : (r : RingState) (who key : List ℕ) (c : ClientKeys) → IsKept r → first (is_named who) r.clients ≡ Some c → length c.past < 255 → IsKept (with_rotation r who key)
kept_rotated r who key c k found small = record {
  names = names_changed who (rotated r.next_id key r.next_ticket) (λ c. refl) r.clients k.names;
  few = omega (arith, k.few, few_changed who (rotated r.next_id key r.next_ticket) (λ c. refl) r.clients);
  apart = apart_changed r.next_id r.next_ticket who (rotated r.next_id key r.next_ticket) (λ id d h. rotated_ids id r.next_id r.next_ticket key d h) r.clients k.keyed k.apart;
  keyed = keyed_changed who (rotated r.next_id key r.next_ticket) (IsKeyed r.next_id r.next_ticket) (IsKeyed (r.next_id + 1) r.next_ticket)
      (keyed_later r.next_id (r.next_id + 1) r.next_ticket r.next_ticket (omega arith) (omega arith)) r.clients
      (λ d e h. let same : d ≡ c = cc in rotated_keyed r.next_id r.next_ticket key d k.first_id (rw same small) h) k.keyed;
  tickets = k.tickets;
  given = k.given;
  first_id = omega (arith, k.first_id);
  first_ticket = k.first_ticket;
}

-- ---- tickets

pub kept_lease : (r : RingState) → IsKept r → IsKept (with_lease r)
kept_lease r k = record {
  names = k.names;
  few = k.few;
  apart = k.apart;
  keyed = all_weaker (IsKeyed r.next_id r.next_ticket) (IsKeyed r.next_id (r.next_ticket + 1)) (keyed_later r.next_id r.next_id r.next_ticket (r.next_ticket + 1) (omega arith) (omega arith)) r.clients k.keyed;
  tickets = ascends_push IsEarlier r.out _ k.tickets k.given;
  given = all_push (λ (t : Ticket). t.number < r.next_ticket + 1) r.out _ (all_weaker (λ (t : Ticket). t.number < r.next_ticket) (λ (t : Ticket). t.number < r.next_ticket + 1) (λ t h. omega (arith, h)) r.out k.given) (omega arith);
  first_id = k.first_id;
  first_ticket = omega (arith, k.first_ticket);
}

kept_out : (r : RingState) (n : ℕ) (f : Ticket → List Ticket) → ((t : Ticket) → Narrows IsEarlier t (f t)) → ((t : Ticket) → t.number < r.next_ticket → AllByRecursion (λ (s : Ticket). s.number < r.next_ticket) (f t)) → IsKept r → IsKept (record r { out = edited (is_ticket n) f r.out })
kept_out r n f narrows given k = record {
  names = k.names;
  few = k.few;
  apart = k.apart;
  keyed = k.keyed;
  tickets = ascends_edited IsEarlier (is_ticket n) f narrows r.out k.tickets;
  given = all_edited (λ (t : Ticket). t.number < r.next_ticket) (is_ticket n) f given r.out k.given;
  first_id = k.first_id;
  first_ticket = k.first_ticket;
}

same_place : (t : Ticket) → IsLike IsEarlier t t
same_place t = record { left = λ s h. h; right = λ s h. h }

narrows_released : (t : Ticket) (b : Bool) → Narrows IsEarlier t (if b then t ∷ [] else [])
narrows_released t true = same_place t
narrows_released t false = tt

given_released : (n : ℕ) (t : Ticket) (b : Bool) → t.number < n → AllByRecursion (λ (s : Ticket). s.number < n) (if b then t ∷ [] else [])
given_released n t true h = (h, tt)
given_released n t false h = tt

narrows_settled : (t : Ticket) (b : Bool) → Narrows IsEarlier t (if b then [] else t ∷ [])
narrows_settled t true = tt
narrows_settled t false = same_place t

given_settled : (n : ℕ) (t : Ticket) (b : Bool) → t.number < n → AllByRecursion (λ (s : Ticket). s.number < n) (if b then [] else t ∷ [])
given_settled n t true h = tt
given_settled n t false h = (h, tt)

pub kept_released : (r : RingState) (n : ℕ) → IsKept r → IsKept (record r { out = released n r.out })
kept_released r n k = kept_out r n (λ t. if t.abandoned then t ∷ [] else []) (λ t. narrows_released t t.abandoned) (λ t. given_released r.next_ticket t t.abandoned) k

pub kept_settled : (r : RingState) (n : ℕ) → IsKept r → IsKept (record r { out = settled n r.out })
kept_settled r n k = kept_out r n (λ t. if t.abandoned then [] else t ∷ []) (λ t. narrows_settled t t.abandoned) (λ t. given_settled r.next_ticket t t.abandoned) k

pub kept_abandoned : (r : RingState) (n : ℕ) → IsKept r → IsKept (record r { out = abandoned n r.out })
kept_abandoned r n k = kept_out r n (λ t. record t { abandoned = true } ∷ []) (λ t. record { left = λ s h. h; right = λ s h. h }) (λ t h. (h, tt)) k

-- ---- the end of a key

-- one client changed, with the same name and within its numbers
kept_changed : (r : RingState) (who : List ℕ) (f : ClientKeys → ClientKeys) → ((c : ClientKeys) → (f c).name ≡ c.name) → ((id : ℕ) (c : ClientKeys) → has_id id (f c) ≡ true → has_id id c ≡ true) → ((c : ClientKeys) → IsKeyed r.next_id r.next_ticket c → IsKeyed r.next_id r.next_ticket (f c)) → IsKept r → IsKept (record r { clients = changed who f r.clients })
kept_changed r who f same ids keyed k = record {
  names = names_changed who f same r.clients k.names;
  few = omega (arith, k.few, few_changed who f same r.clients);
  apart = apart_changed r.next_id r.next_ticket who f (λ id c h. inr (ids id c h)) r.clients k.keyed k.apart;
  keyed = keyed_changed who f (IsKeyed r.next_id r.next_ticket) (IsKeyed r.next_id r.next_ticket) (λ c h. h) r.clients (λ c e h. keyed c h) k.keyed;
  tickets = k.tickets;
  given = k.given;
  first_id = k.first_id;
  first_ticket = k.first_ticket;
}

keyed_edited : (id next key : ℕ) (f : OldKey → List OldKey) → ((k : OldKey) → Narrows IsOlder k (f k)) → ((current : ℕ) (k : OldKey) → IsPast current next k → AllByRecursion (IsPast current next) (f k)) → (c : ClientKeys) → IsKeyed id next c → IsKeyed id next (record c { past = edited (is_key key) f c.past })
keyed_edited id next key f narrows each c h = record {
  few = omega (arith, h.few, length_edited IsOlder (is_key key) f narrows c.past);
  ascend = ascends_edited IsOlder (is_key key) f narrows c.past h.ascend;
  each = all_edited (IsPast c.id next) (is_key key) f (each c.id) c.past h.each;
  least = h.least;
  below = h.below;
}

swept_since : (next : ℕ) (p : OldPhase) → ticket_of p ≤ next → ticket_of (swept_phase next p) ≤ next
swept_since next (old_phases.Draining since) h = omega arith
swept_since next (old_phases.Swept since) h = h

pub kept_marked : (r : RingState) (who : List ℕ) (id : ℕ) → IsKept r → IsKept (with_marked r who id)
kept_marked r who id k = kept_changed r who (marked id r.next_ticket) (λ c. refl) (λ n c h. marked_ids n id r.next_ticket c h)
    (keyed_edited r.next_id r.next_ticket id (λ j. swept_key r.next_ticket j ∷ []) (λ j. record { left = λ z h. h; right = λ z h. h })
    (λ current j h. (record { least = h.least; older = h.older; since = swept_since r.next_ticket j.phase h.since }, tt))) k

pub kept_retired : (r : RingState) (who : List ℕ) (id : ℕ) → IsKept r → IsKept (with_retired r who id)
kept_retired r who id k = kept_changed r who (without id) (λ c. refl) (λ n c h. without_ids n id c h) (keyed_edited r.next_id r.next_ticket id (λ _. []) (λ j. tt) (λ current j h. tt)) k
