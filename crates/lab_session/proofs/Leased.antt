-- The ring of a session, before and after its leases.
use Rattle.std.proofs.Common.{◌≡◌, ℕ, ◌+◌, ◌-◌, ◌^◌, ◌≤◌, ◌<◌, cond, Bool, true, false, if◌then◌else◌, List, [], ◌∷◌, ◌++◌, length, map, Option, Some, None, Result, Ok, Err, refl, sym, ap, subst, ◌∙◌, add_assoc, add-zero, arith, inl, inr}
use Rattle.std.specs.Prelude.{IsSome, is_none, option_map}
use Rattle.std.specs.List.{AllByRecursion, flat_map}
use Rattle.std.specs.Option.{option_to_list}
use Rattle.std.proofs.lemmas.Bool.{eq-eqb, ne_eqb}
use Rattle.std.proofs.lemmas.List.{append-nil, length-append}
use Rattle.std.proofs.lemmas.List.Sums.{sum_by-append, count_by-le-length}
use Rattle.std.proofs.lemmas.Slice.Eq.{bytes_eq-Decides}
use Rattle.rand_chacha.specs.ChaCha.{ChaCha}
use Rattle.acra_block.specs.Keys.{Key, key_of}
use Rattle.pg_wire.specs.Streams.{Stream}
use Rattle.pg_wire.specs.Fronts.{front_kind, front_body}
use Rattle.lab_backend.specs.Backend.{Lab}
use Rattle.session_model.specs.Requests.{Request, request_bytes, message_of}
use Rattle.keystore.specs.declared.phase.OldKey.{OldKey}
use Rattle.keystore.specs.declared.tickets.Ticket.{Ticket}
use Rattle.keystore.specs.Lists.{first}
use Rattle.keystore.specs.Rings.{ClientKeys, RingState, is_named, client_of, live, live_keys_of, view_of, current_key, current_of, currents_of, released, missing}
use Rattle.keystore.specs.declared.keys.Lease.{Lease}
use Rattle.keystore.specs.declared.refusals.LeaseRefusal.{LeaseRefusal}
use Rattle.keystore.specs.declared.refusals.LeaseRefusal.TheVariants as no_lease
use Rattle.keystore.specs.Answers.{Answers, no_key, lease_refusal, lease_of, with_lease}
use Rattle.keystore.specs.Kept.{IsPast, IsKeyed, IsKept}
use Rattle.lab_session.specs.Cells.{HasKey}
use Rattle.lab_session.specs.Runs.{State}
use Rattle.lab_session.specs.Leases.{is_leased, leases_of, after_leases, Lends}
use Rattle.lab_session.specs.declared.said.Said.{Said}
use Rattle.lab_session.specs.Session.{SoFar}
use Rattle.lab_session.specs.Answering.{request_of, Takes, AnswerGives, ServeGives}
use Rattle.lab_session.proofs.Relayed.{frame_length}

-- ---- the client's key

-- what holds of each item, and the test, hold of the first item that passes
first_by_test : {A : Type 0} (p : A → Bool) (P : A → Type 0) (x y : A) (o : Option A) (b : Bool) → p x ≡ b → P x → (o ≡ Some y → (p y ≡ true) × P y) → (if b then Some x else o) ≡ Some y → (p y ≡ true) × P y
first_by_test {A} p P x y o true passes h rest e =
    let same : x ≡ y = cc in
    subst (λ (z : A). (p z ≡ true) × P z) same (passes, h)
first_by_test p P x y o false passes h rest e = rest e

first_is : {A : Type 0} (p : A → Bool) (P : A → Type 0) (xs : List A) (y : A) → AllByRecursion P xs → first p xs ≡ Some y → (p y ≡ true) × P y
first_is p P [] y h e = absurd cc
first_is p P (x ∷ xs) y h e = first_by_test p P x y (first p xs) (p x) refl h.0 (first_is p P xs y h.1) e

-- among older keys and then this one, this one is found by its id
key_last : (id next : ℕ) (key : List ℕ) (past : List OldKey) → AllByRecursion (IsPast id next) past → key_of id (map live past ++ record { id = id; key = key } ∷ []) ≡ Some key
key_last id next key [] h = ap (λ (b : Bool). if b then Some key else None) (eq-eqb id id refl)
key_last id next key (k ∷ ks) h =
    ap (λ (b : Bool). if b then Some k.key else key_of id (map live ks ++ record { id = id; key = key } ∷ [])) (ne_eqb k.id id (λ e. absurd (omega (arith, h.0.older, e))))
    ∙ key_last id next key ks h.1

has_key : (r : RingState) (who : List ℕ) (key : Key) (o : Option ClientKeys) → IsKept r → r.next_id < 2 ^ 64 → client_of who r.clients ≡ o → option_map current_key o ≡ Some key → HasKey (view_of r who) key
has_key r who key None kept ids there e = absurd cc
has_key r who key (Some c) kept ids there e =
    let same : current_key c ≡ key = cc in
    let found = first_is (is_named who) (IsKeyed r.next_id r.next_ticket) r.clients c kept.keyed there in
    subst (HasKey (view_of r who)) same
    (record {
      who = sym ((bytes_eq-Decides c.name who).0 found.0);
      least = found.1.least;
      fits = omega (arith, found.1.below, ids);
      given = found.1.below;
      found = ap (λ (d : Option ClientKeys). key_of c.id (live_keys_of d)) there ∙ key_last c.id r.next_ticket c.key c.past found.1.each;
    })

-- ---- leases

leases_more : (rs : List Request) (r : Request) → leases_of (rs ++ r ∷ []) ≡ leases_of rs + leases_of (r ∷ [])
leases_more rs r = sum_by-append (λ (q : Request). cond (is_leased q) 1 0) rs (r ∷ [])

pub after_more : (ring : RingState) (rs : List Request) (r : Request) → after_leases (after_leases ring rs) (r ∷ []) ≡ after_leases ring (rs ++ r ∷ [])
after_more ring rs r = ap (λ (n : ℕ). record ring { next_ticket = n }) (add_assoc ring.next_ticket (leases_of rs) (leases_of (r ∷ [])) ∙ ap (λ (n : ℕ). ring.next_ticket + n) (sym (leases_more rs r)))

pub after_none : (ring : RingState) → after_leases ring [] ≡ ring
after_none ring = ap (λ (n : ℕ). record ring { next_ticket = n }) (add-zero ring.next_ticket)

pub after_unleased : (ring : RingState) (r : Request) → is_leased r ≡ false → after_leases ring (r ∷ []) ≡ ring
after_unleased ring r e = ap (λ (b : Bool). record ring { next_ticket = ring.next_ticket + (0 + cond b 1 0) }) e ∙ after_none ring

-- a request has bytes
bytes_of : (r : Request) → 1 ≤ length (request_bytes r)
bytes_of r = omega (arith, frame_length (front_kind (message_of r)) (front_body (message_of r)))

requests_within : (rs : List Request) → length rs ≤ length (flat_map request_bytes rs)
requests_within [] = omega arith
requests_within (r ∷ rs) = omega (arith, length-append (request_bytes r) (flat_map request_bytes rs), bytes_of r, requests_within rs)

-- there are no more leases than bytes
pub leases_within : (rs : List Request) → leases_of rs ≤ length (flat_map request_bytes rs)
leases_within rs = omega (arith, requests_within rs, count_by-le-length is_leased rs)

given_later : (n m : ℕ) → n ≤ m → (out : List Ticket) → AllByRecursion (λ (t : Ticket). t.number < n) out → AllByRecursion (λ (t : Ticket). t.number < m) out
given_later n m le [] h = tt
given_later n m le (t ∷ ts) h = (omega (arith, h.0), given_later n m le ts h.1)

-- after these requests the ring lends the client's key as before
pub lends_after : (ring now : RingState) (who : List ℕ) (key : Key) (rs : List Request) → IsKept ring → ring.next_id < 2 ^ 64 → current_of ring who ≡ Some key → ring.next_ticket + leases_of rs + 1 < 2 ^ 64 → now ≡ after_leases ring rs → Lends now who key
lends_after ring now who key rs kept ids current room e =
    subst (λ (r : RingState). Lends r who key) (sym e)
    (record {
      current = current;
      opens = has_key ring who key (client_of who ring.clients) kept ids refl current;
      given = given_later ring.next_ticket (ring.next_ticket + leases_of rs) (omega arith) ring.out kept.given;
      room = room;
    })

pub lent_key : (ring : RingState) (who : List ℕ) (key : Key) → Lends ring who key → currents_of ring (who ∷ []) ≡ key ∷ []
lent_key ring who key l = ap (λ (o : Option Key). option_to_list o ++ []) l.current

-- ---- in a session

pub some_of : {A : Type 0} (o : Option A) → IsSome o → (x : A) × (o ≡ Some x)
some_of (Some x) h = (x, refl)
some_of None h = absurd cc

pub after_same : (ring now : RingState) (rs : List Request) → now ≡ after_leases ring rs → now ≡ after_leases ring (rs ++ [])
after_same ring now rs e = e ∙ ap (after_leases ring) (sym (append-nil rs))

pub after_one : (ring now next : RingState) (rs : List Request) (r : Request) → now ≡ after_leases ring rs → next ≡ after_leases now (r ∷ []) → next ≡ after_leases ring (rs ++ r ∷ [])
after_one ring now next rs r e en = en ∙ ap (λ (n : RingState). after_leases n (r ∷ [])) e ∙ after_more ring rs r

pub after_leaving : (ring now : RingState) (rs : List Request) → now ≡ after_leases ring rs → now ≡ after_leases ring ((rs ++ Request.Leaves ∷ []) ++ [])
after_leaving ring now rs e = after_same ring now (rs ++ Request.Leaves ∷ []) (after_one ring now now rs Request.Leaves e (sym (after_none now)))

-- the ring lends for the request that was taken
pub lends_here : (ring now : RingState) (who : List ℕ) (key : Key) (g0 : ChaCha) (left0 held0 left held : Option (List ℕ)) (g : ChaCha) (lab : Lab) (stream : Stream) (taken : ℕ) (rs : List Request) → IsKept ring → ring.next_id < 2 ^ 64 → ring.next_ticket + 2 ^ 48 < 2 ^ 64
    → current_of ring who ≡ Some key → SoFar key g0 left0 held0 left held g lab stream taken rs → taken ≤ 2 ^ 48 → now ≡ after_leases ring rs → (r : Request) (t : Stream) → Takes stream r t → Lends now who key
lends_here ring now who key g0 left0 held0 left held g lab stream taken rs kept ids tickets current so within e r t k =
    lends_after ring now who key rs kept ids current
    (omega (arith, tickets, within, so.place, so.total, leases_within rs, bytes_of r, ap length k.front, length-append (request_bytes r) k.rest)) e

-- ---- one lease

has_client : (o : Option ClientKeys) (key : Key) → option_map current_key o ≡ Some key → is_none o ≡ false
has_client None key e = absurd cc
has_client (Some c) key e = refl

-- there is a ticket, and a key
pub no_refusal : (ring : RingState) (who : List ℕ) (key : Key) → Lends ring who key → lease_refusal ring (who ∷ []) ≡ None
no_refusal ring who key l =
    ap (λ (b : Bool). if b then Some no_lease.NoTicket else no_key (missing ring (who ∷ []))) (ne_eqb ring.next_ticket (2 ^ 64 - 1) (λ e. absurd (omega (arith, l.room, e))))
    ∙ ap (λ (b : Bool). no_key (if b then Some who else None)) (has_client (client_of who ring.clients) key l.current)

-- so it lends, or there was no memory
pub lends_or : (ring : RingState) (who : List ℕ) → (key : Key) × Lends ring who key → (result : Result Lease LeaseRefusal) → Answers (lease_refusal ring (who ∷ [])) no_lease.NoMemory (λ (lease : Lease). lease ≡ lease_of ring who (who ∷ [])) result
    → Answers None no_lease.NoMemory (λ (lease : Lease). lease ≡ lease_of ring who (who ∷ [])) result
lends_or ring who k result a = subst (λ (o : Option LeaseRefusal). Answers o no_lease.NoMemory (λ (lease : Lease). lease ≡ lease_of ring who (who ∷ [])) result) (no_refusal ring who k.0 k.1) a

-- the newest ticket, released
released_last : (n : ℕ) (out : List Ticket) → AllByRecursion (λ (t : Ticket). t.number < n) out → released n (out ++ record { number = n; abandoned = false } ∷ []) ≡ out
released_last n [] h = ap (λ (b : Bool). if b then [] else record { number = n; abandoned = false } ∷ []) (eq-eqb n n refl)
released_last n (t ∷ ts) h =
    let rest = released n (ts ++ record { number = n; abandoned = false } ∷ []) in
    ap (λ (b : Bool). if b then (if t.abandoned then t ∷ [] else []) ++ (ts ++ record { number = n; abandoned = false } ∷ []) else t ∷ rest) (ne_eqb t.number n (λ e. absurd (omega (arith, h.0, e))))
    ∙ ap (λ (us : List Ticket). t ∷ us) (released_last n ts h.1)

pub lease_released : (ring lent after : RingState) (ticket : ℕ) (r : Request) → AllByRecursion (λ (t : Ticket). t.number < ring.next_ticket) ring.out → is_leased r ≡ true → lent ≡ with_lease ring → ticket ≡ ring.next_ticket
    → after ≡ record lent { out = released ticket lent.out } → after ≡ after_leases ring (r ∷ [])
lease_released ring lent after ticket r given leased el et ea =
    ea
    ∙ ap (λ (l : RingState). record l { out = released ticket l.out }) el
    ∙ ap (λ (n : ℕ). record (with_lease ring) { out = released n (with_lease ring).out }) et
    ∙ ap (λ (out : List Ticket). record (with_lease ring) { out = out }) (released_last ring.next_ticket ring.out given)
    ∙ ap (λ (b : Bool). record ring { next_ticket = ring.next_ticket + (0 + cond b 1 0) }) (sym leased)

-- ---- an answer, with what is left of the ring

pub serves_by : {T E : Type 0} (keys : Key) (awaits : Bool) (s : State) (r : Request) (result : Result T E) (g : ChaCha) (ring after : RingState) (lab lab' : Lab) (old new : Option (List ℕ)) → AnswerGives keys awaits s r result g lab' old new
    → after ≡ after_leases ring (r ∷ []) → ServeGives keys awaits s r result g ring after lab lab' old new
serves_by keys awaits s r (Ok t) g ring after lab lab' old new a e = (a, e)
serves_by keys awaits s r (Err x) g ring after lab lab' old new a e = inr (a, e)

-- what needs no lease leaves the ring
pub serves_unleased : {T E : Type 0} (keys : Key) (awaits : Bool) (s : State) (text : List ℕ) (what one : Said) (result : Result T E) (g : ChaCha) (ring : RingState) (lab lab' : Lab) (old new : Option (List ℕ)) → what ≡ one → is_leased (request_of text one) ≡ false
    → AnswerGives keys awaits s (request_of text what) result g lab' old new → ServeGives keys awaits s (request_of text what) result g ring ring lab lab' old new
serves_unleased keys awaits s text what one result g ring lab lab' old new e none a =
    serves_by keys awaits s (request_of text what) result g ring ring lab lab' old new a (sym (after_unleased ring (request_of text what) (ap (λ (w : Said). is_leased (request_of text w)) e ∙ none)))
