-- The ring that a seed draws lends the client's key.
use Rattle.std.proofs.Common.{◌≡◌, ℕ, ◌+◌, ◌^◌, ◌<◌, Bool, if◌then◌else◌, List, [], ◌∷◌, length, Option, Some, None, unwrap_or, refl, sym, ap, subst, ◌∙◌, arith, lit<}
use Rattle.std.specs.Prelude.{IsSome, is_some, option_map}
use Rattle.std.specs.List.{AllByRecursion}
use Rattle.std.proofs.lemmas.Slice.Eq.{bytes_eq-Decides}
use Rattle.rand_chacha.specs.ChaCha.{ChaCha}
use Rattle.acra_block.specs.Keys.{Key}
use Rattle.keystore.specs.declared.tickets.Ticket.{Ticket}
use Rattle.keystore.specs.Lists.{AscendsBy}
use Rattle.keystore.specs.Rings.{ClientKeys, RingState, client_of, current_key, current_of}
use Rattle.keystore.specs.Kept.{IsBefore, IsApart, IsEarlier, IsKeyed, IsKept}
use Rattle.lab_session.specs.ClientKey.{client_drawn, only_key, ring_drawn}

-- a ring with this client alone, whose first ticket is still to be given
record IsFirst (ring : RingState) (k : Key) : Type 0 where
  pub one : ring.clients ≡ only_key k ∷ []
  pub id : k.id ≡ 1
  pub next_id : ring.next_id ≡ 2
  pub next_ticket : ring.next_ticket ≡ 1
  pub none_out : ring.out ≡ []

first_drawn : (ring : RingState) (g : ChaCha) (client : List ℕ) (seed : ℕ) → (ring, g) ≡ ring_drawn client seed → IsFirst ring (client_drawn client seed).0
first_drawn ring g client seed e = subst (λ (p : RingState × ChaCha). IsFirst p.0 (client_drawn client seed).0) (sym e) (record { one = refl; id = refl; next_id = refl; next_ticket = refl; none_out = refl })

-- the client that stands alone is found by its name
found : (name : List ℕ) (c : ClientKeys) → c.name ≡ name → client_of name (c ∷ []) ≡ Some c
found name c e = ap (λ (b : Bool). if b then Some c else None) ((bytes_eq-Decides c.name name).1 e)

module _ (ring : RingState) (g : ChaCha) (client : List ℕ) (seed : ℕ) (e : (ring, g) ≡ ring_drawn client seed) where
  abbrev key : Key
  key = (client_drawn client seed).0

  first : IsFirst ring key
  first = first_drawn ring g client seed e

  is_current : current_of ring client ≡ Some key
  is_current = ap (λ (cs : List ClientKeys). option_map current_key (client_of client cs)) first.one ∙ ap (option_map current_key) (found client (only_key key) refl)

  pub drawn_client : IsSome (current_of ring client)
  drawn_client = ap is_some is_current

  pub drawn_kept : IsKept ring
  drawn_kept =
      let one : IsKeyed ring.next_id ring.next_ticket (only_key key) = record {
        few = lit< tt;
        ascend = tt;
        each = tt;
        least = omega (arith, first.id);
        below = omega (arith, first.id, first.next_id);
      } in
      record {
        names = subst (AscendsBy IsBefore) (sym first.one) (tt, tt);
        few = omega (arith, ap length first.one);
        apart = subst (AscendsBy IsApart) (sym first.one) (tt, tt);
        keyed = subst (AllByRecursion (IsKeyed ring.next_id ring.next_ticket)) (sym first.one) (one, tt);
        tickets = subst (AscendsBy IsEarlier) (sym first.none_out) tt;
        given = subst (AllByRecursion (λ (t : Ticket). t.number < ring.next_ticket)) (sym first.none_out) tt;
        first_id = omega (arith, first.next_id);
        first_ticket = omega (arith, first.next_ticket);
      }

  pub drawn_ids : ring.next_id < 2 ^ 64
  drawn_ids = omega (arith, first.next_id)

  pub drawn_tickets : ring.next_ticket + 2 ^ 48 < 2 ^ 64
  drawn_tickets = omega (arith, first.next_ticket)

  -- the client's current key is the drawn one
  pub drawn_key : (k : Key) → current_of ring client ≡ Some k → (k, g) ≡ client_drawn client seed
  drawn_key k current =
      let same : k ≡ key = ap (λ (o : Option Key). unwrap_or o key) (sym current ∙ is_current) in
      λ i. (same i, (ap (λ (p : RingState × ChaCha). p.1) e) i)
