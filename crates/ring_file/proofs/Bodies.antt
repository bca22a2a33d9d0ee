-- A body that is read is the one that was written, and what was written is read again.
use Rattle.std.proofs.Common.{◌≡◌, ℕ, ◌<◌, ◌≤◌, ◌^◌, Bool, true, false, eqb, leb, List, [], ◌∷◌, ◌++◌, length, Ok, refl, sym, ap, subst, ◌∙◌, arith}
use Rattle.std.specs.List.{AllByRecursion, flat_map}
use Rattle.std.specs.Int.{w16, w64, to_le_bytes}
use Rattle.std.proofs.lemmas.List.{append-nil}
use Rattle.std.proofs.lemmas.Bool.{eqb-true, leb-true, le-leb}
use Rattle.keystore.specs.declared.tickets.Ticket.{Ticket}
use Rattle.keystore.specs.Rings.{ClientKeys, RingState, restored_ring}
use Rattle.keystore.specs.Kept.{IsKeyed}
use Rattle.ring_file.specs.Form.{client_bytes, ring_body, IsFileRing}
use Rattle.byte_reader.proofs.Steps.{bind_ok, ok_is}
use Rattle.byte_reader.proofs.Taken.{IsBytes, Takes, Takes-then, bytes_take, bytes_again}
use Rattle.byte_reader.proofs.Widths.{le_wide16, le_wide64, number_takes, number_again}
use Rattle.byte_reader.specs.Fields.{◌>>=◌, le_number_at, bytes_at, alone}
use Rattle.ring_file.specs.Reading.{next_id_at, client_count_at, clients_at, ring_behind, ring_at, ring_read}
use Rattle.ring_file.proofs.Judged.{checked_ok, checked_again}
use Rattle.ring_file.proofs.Restored.{AreClients, clients_take, clients_again}

next_takes : (bytes : List ℕ) (x : ℕ × List ℕ) → IsBytes bytes → next_id_at bytes ≡ Ok x → Takes bytes (to_le_bytes w64 x.0) x.1 × ((1 ≤ x.0) × (x.0 < 2 ^ 64))
next_takes bytes x fits e =
    let g = checked_ok (le_number_at w64 bytes) (λ n. leb 1 n.0) (length bytes) x e in
    let t = number_takes w64 (2 ^ 64) le_wide64 bytes x fits g.0 in
    (t.0, (leb-true _ _ g.1, t.1))

next_again : (n : ℕ) (rest : List ℕ) → 1 ≤ n → n < 2 ^ 64 → next_id_at (to_le_bytes w64 n ++ rest) ≡ Ok (n, rest)
next_again n rest least fits =
    checked_again (le_number_at w64 (to_le_bytes w64 n ++ rest)) (λ m. leb 1 m.0) (length (to_le_bytes w64 n ++ rest)) (n, rest) (number_again w64 (2 ^ 64) le_wide64 n rest fits) (le-leb _ _ least)

many_takes : (bytes : List ℕ) (x : ℕ × List ℕ) → IsBytes bytes → client_count_at bytes ≡ Ok x → Takes bytes (to_le_bytes w16 x.0) x.1 × (x.0 ≤ 256)
many_takes bytes x fits e =
    let g = checked_ok (le_number_at w16 bytes) (λ n. leb n.0 256) (length bytes) x e in
    ((number_takes w16 (2 ^ 16) le_wide16 bytes x fits g.0).0, leb-true _ _ g.1)

many_again : (n : ℕ) (rest : List ℕ) → n ≤ 256 → client_count_at (to_le_bytes w16 n ++ rest) ≡ Ok (n, rest)
many_again n rest most =
    checked_again (le_number_at w16 (to_le_bytes w16 n ++ rest)) (λ m. leb m.0 256) (length (to_le_bytes w16 n ++ rest)) (n, rest) (number_again w16 (2 ^ 16) le_wide16 n rest (omega (arith, most))) (le-leb _ _ most)

abbrev counted_bytes : ℕ → List ClientKeys → List ℕ
counted_bytes next clients = to_le_bytes w64 next ++ (to_le_bytes w16 (length clients) ++ flat_map client_bytes clients)

-- what is read behind the ring's own keys
record Behind (token store audit bytes : List ℕ) (x : RingState × List ℕ) : Type 0 where
  next : ℕ
  clients : List ClientKeys
  made : x.0 ≡ restored_ring token store audit clients next
  takes : Takes bytes (counted_bytes next clients) x.1
  least : 1 ≤ next
  fits : next < 2 ^ 64
  few : length clients ≤ 256
  are : AreClients next clients

behind_takes : (token store audit bytes : List ℕ) (x : RingState × List ℕ) → IsBytes bytes → ring_behind token store audit bytes ≡ Ok x → Behind token store audit bytes x
behind_takes token store audit bytes x fits e =
    let f = bind_ok (next_id_at bytes) (λ next. client_count_at next.1 >>= λ count. clients_at next.0 count.0 [] count.1 >>= λ clients. Ok (restored_ring token store audit clients.0 next.0, clients.1)) x e in
    let h = bind_ok (client_count_at f.0.1) (λ count. clients_at f.0.0 count.0 [] count.1 >>= λ clients. Ok (restored_ring token store audit clients.0 f.0.0, clients.1)) x f.2 in
    let j = bind_ok (clients_at f.0.0 h.0.0 [] h.0.1) (λ clients. Ok (restored_ring token store audit clients.0 f.0.0, clients.1)) x h.2 in
    let next = next_takes bytes f.0 fits f.1 in
    let count = many_takes f.0.1 h.0 next.0.rest_fits h.1 in
    let all = clients_take f.0.0 h.0.0 [] h.0.1 j.0 count.0.rest_fits (record { names = tt; apart = tt; keyed = tt; files = tt }) j.1 in
    let new-is : j.0.0 ≡ all.new = all.made in
    let taken : Takes h.0.1 (flat_map client_bytes j.0.0) j.0.1 = subst (λ (cs : List ClientKeys). Takes h.0.1 (flat_map client_bytes cs) j.0.1) (sym new-is) all.takes in
    let many : length j.0.0 ≡ h.0.0 = ap length new-is ∙ all.count in
    let counted : Takes f.0.1 (to_le_bytes w16 (length j.0.0)) h.0.1 = subst (λ (n : ℕ). Takes f.0.1 (to_le_bytes w16 n) h.0.1) (sym many) count.0 in
    let t4 = Takes-then f.0.1 (to_le_bytes w16 (length j.0.0)) h.0.1 (flat_map client_bytes j.0.0) j.0.1 counted taken in
    let t3 = Takes-then bytes (to_le_bytes w64 f.0.0) f.0.1 (to_le_bytes w16 (length j.0.0) ++ flat_map client_bytes j.0.0) j.0.1 next.0 t4 in
    let made : RingState × List ℕ = (restored_ring token store audit j.0.0 f.0.0, j.0.1) in
    subst (Behind token store audit bytes) (ok_is made x j.2) (record {
      next = f.0.0;
      clients = j.0.0;
      made = refl;
      takes = t3;
      least = next.1.0;
      fits = next.1.1;
      few = omega (arith, many, count.1);
      are = all.are;
    })

file_ring : (token store audit : List ℕ) (next : ℕ) (clients : List ClientKeys) → length token ≡ 32 → length store ≡ 32 → length audit ≡ 32 → 1 ≤ next → next < 2 ^ 64 → length clients ≤ 256 → AreClients next clients → IsFileRing (restored_ring token store audit clients next)
file_ring token store audit next clients t s a least fits few are = record {
  kept = record {
    names = are.names;
    few = few;
    apart = are.apart;
    keyed = are.keyed;
    tickets = tt;
    given = tt;
    first_id = least;
    first_ticket = omega arith;
  };
  token_key = t;
  store_key = s;
  audit_key = a;
  fits = fits;
  clients = are.files;
  first_ticket = refl;
  none_out = refl;
}

front_takes : (bytes : List ℕ) (x : RingState × List ℕ) → IsBytes bytes → ring_at bytes ≡ Ok x → Takes bytes (ring_body x.0) x.1 × IsFileRing x.0
unfolding ring_at
front_takes bytes x fits e =
    let a = bind_ok (bytes_at 32 bytes) (λ token. bytes_at 32 token.1 >>= λ store. bytes_at 32 store.1 >>= λ audit. ring_behind token.0 store.0 audit.0 audit.1) x e in
    let b = bind_ok (bytes_at 32 a.0.1) (λ store. bytes_at 32 store.1 >>= λ audit. ring_behind a.0.0 store.0 audit.0 audit.1) x a.2 in
    let d = bind_ok (bytes_at 32 b.0.1) (λ audit. ring_behind a.0.0 b.0.0 audit.0 audit.1) x b.2 in
    let token = bytes_take 32 bytes a.0 fits a.1 in
    let store = bytes_take 32 a.0.1 b.0 token.0.rest_fits b.1 in
    let audit = bytes_take 32 b.0.1 d.0 store.0.rest_fits d.1 in
    let rest = behind_takes a.0.0 b.0.0 d.0.0 d.0.1 x audit.0.rest_fits d.2 in
    let counted = counted_bytes rest.next rest.clients in
    let t2 = Takes-then b.0.1 d.0.0 d.0.1 counted x.1 audit.0 rest.takes in
    let t1 = Takes-then a.0.1 b.0.0 b.0.1 (d.0.0 ++ counted) x.1 store.0 t2 in
    let t0 : Takes bytes (ring_body (restored_ring a.0.0 b.0.0 d.0.0 rest.clients rest.next)) x.1 = Takes-then bytes a.0.0 a.0.1 (b.0.0 ++ (d.0.0 ++ counted)) x.1 token.0 t1 in (
      subst (λ (r : RingState). Takes bytes (ring_body r) x.1) (sym rest.made) t0,
      subst IsFileRing (sym rest.made) (file_ring a.0.0 b.0.0 d.0.0 rest.next rest.clients token.1 store.1 audit.1 rest.least rest.fits rest.few rest.are),
    )

alone_ok : {A : Type 0} (x : A × List ℕ) (y : A) (b : Bool) → eqb (length x.1) 0 ≡ b → alone x ≡ Ok y → (length x.1 ≡ 0) × (x.0 ≡ y)
alone_ok x y true e h = (eqb-true _ _ e, ok_is x.0 y (rw e at h))
alone_ok x y false e h = absurd (cc (rw e at h))

nil_is : (xs : List ℕ) → length xs ≡ 0 → xs ≡ []
nil_is [] h = refl
nil_is (x ∷ xs) h = absurd (omega (arith, h))

-- what is read is spelled, and keeps the rules
pub body_takes : (body : List ℕ) (r : RingState) → IsBytes body → ring_read body ≡ Ok r → IsFileRing r × (body ≡ ring_body r)
unfolding ring_read
body_takes body r fits e =
    let a = bind_ok (ring_at body) alone r e in
    let end = alone_ok a.0 r (eqb (length a.0.1) 0) refl a.2 in
    let t = front_takes body a.0 fits a.1 in
    let whole : body ≡ ring_body a.0.0 = t.0.parts ∙ (ap (λ (rest : List ℕ). ring_body a.0.0 ++ rest) (nil_is a.0.1 end.0) ∙ append-nil (ring_body a.0.0)) in
    (subst IsFileRing end.1 t.1, whole ∙ ap ring_body end.1)

restored_is : (r : RingState) → r.next_ticket ≡ 1 → r.out ≡ [] → restored_ring r.token_key r.store_key r.audit_key r.clients r.next_id ≡ r
restored_is r first none =
    ap (λ (t : ℕ). record r { next_ticket = t; out = [] }) (sym first) ∙ ap (λ (out : List Ticket). record r { out = out }) (sym none)

front_again : (r : RingState) → IsFileRing r → ring_at (ring_body r) ≡ Ok (restored_ring r.token_key r.store_key r.audit_key r.clients r.next_id, [])
unfolding ring_at
front_again r is =
    let clients = flat_map client_bytes r.clients in
    let counted = to_le_bytes w16 (length r.clients) ++ clients in
    let next = to_le_bytes w64 r.next_id ++ counted in
    let kept = is.kept in
    let ended : clients_at r.next_id (length r.clients) [] clients ≡ Ok (r.clients, []) =
    ap (clients_at r.next_id (length r.clients) []) (sym (append-nil clients)) ∙ clients_again r.next_id [] r.clients [] is.fits kept.names kept.apart (subst (λ (t : ℕ). AllByRecursion (IsKeyed r.next_id t) r.clients) is.first_ticket kept.keyed) is.clients in
    rw (
      bytes_again 32 r.token_key (r.store_key ++ (r.audit_key ++ next)) is.token_key,
      bytes_again 32 r.store_key (r.audit_key ++ next) is.store_key,
      bytes_again 32 r.audit_key next is.audit_key,
      next_again r.next_id counted kept.first_id is.fits,
      many_again (length r.clients) clients kept.few,
      ended,
    ) refl

pub body_again : (r : RingState) → IsFileRing r → ring_read (ring_body r) ≡ Ok r
unfolding ring_read
body_again r is = rw (front_again r is) (ap (λ (s : RingState). Ok s) (restored_is r is.first_ticket is.none_out))
