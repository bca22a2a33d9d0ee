-- The moves of a session.
use Rattle.std.proofs.Common.{◌≡◌, ◌≢◌, ℕ, ◌+◌, ◌%◌, ◌^◌, ◌≤◌, inl, inr, ◌&&◌, Bool, true, false, ◌==◌, List, [], ◌∷◌, ◌++◌, length, Option, Ok, Err, refl, sym, ap, subst, ◌∙◌, append_assoc, arith}
use Rattle.std.specs.Prelude.{IsErrOf}
use Rattle.std.specs.List.{flat_map}
use Rattle.std.proofs.lemmas.Bool.{eqb-true}
use Rattle.std.proofs.lemmas.List.{append-nil, length-append}
use Rattle.rand_chacha.specs.ChaCha.{ChaCha}
use Rattle.acra_devices.specs.Known.{Grew, Shrank, IsAtEnd}
use Rattle.acra_devices.specs.Grows.{grew_nothing, grew_then, shrank_nothing, shrank_then}
use Rattle.pg_wire.specs.declared.frame.MessageFault.{MessageFault}
use Rattle.pg_wire.specs.declared.frame.Side.TheVariants as side
use Rattle.pg_wire.specs.declared.front.Pair.{Pair}
use Rattle.pg_wire.specs.declared.front.Front.TheVariants as fronts
use Rattle.pg_wire.specs.Streams.{Stream, fed, new_stream}
use Rattle.pg_wire.specs.Frames.{asks_encryption, IsUnfinished}
use Rattle.pg_wire.specs.Fronts.{front_body}
use Rattle.table_machine.specs.Tables.{Table}
use Rattle.table_machine.specs.declared.cell.Cell.{Cell}
use Rattle.lab_backend.specs.Sessions.{Session, new_session}
use Rattle.lab_backend.specs.Backend.{Lab}
use Rattle.session_model.specs.Notes.{notes_with}
use Rattle.session_model.specs.declared.encryption.Encryption.{Encryption}
use Rattle.session_model.specs.declared.encryption.Encryption.TheVariants as encryption
use Rattle.session_model.specs.Requests.{Request, Phase, phase_after, phase_after_all, is_opening, IsSaid, AreSaid, asking, message_of, request_bytes, stream_of, message_limit}
use Rattle.session_model.specs.BadMessages.{IsBad}
use Rattle.session_model.specs.Standing.{StandFor}
use Rattle.acra_block.specs.Keys.{Key}
use Rattle.lab_session.specs.Cells.{IsStored}
use Rattle.lab_session.specs.Runs.{State, started, state_after, state_after_all, answer, answers}
use Rattle.lab_session.specs.Session.{connection, awaits_startup, PieceRead, PieceTaken, Rests, SoFar, Ends, status_of, may_begin, Ran}
use Rattle.lab_session.specs.Answering.{request_of, phase_of, Takes, NextGives, Answered, Broken}
use Rattle.lab_session.specs.declared.said.Next.{Next}
use Rattle.lab_session.specs.declared.stop.Stop.{Stop}
use Rattle.lab_session.specs.declared.stop.Stop.TheVariants as stops
use Rattle.lab_session.specs.declared.said.Said.{Said}
use Rattle.lab_session.specs.declared.said.Said.TheVariants as said
use Rattle.lab_session.specs.declared.status.Status.{Status}
use Rattle.lab_session.specs.declared.status.Status.TheVariants as ends

-- ---- one request more

frames_more : (rs : List Request) (r : Request) → flat_map request_bytes (rs ++ r ∷ []) ≡ flat_map request_bytes rs ++ request_bytes r
frames_more [] r = append-nil (request_bytes r)
frames_more (q ∷ rs) r = ap (λ (xs : List ℕ). request_bytes q ++ xs) (frames_more rs r) ∙ sym (append_assoc (request_bytes q) (flat_map request_bytes rs) (request_bytes r))

pub stream_next : (rs : List Request) (r : Request) (rest : List ℕ) → stream_of rs (request_bytes r ++ rest) ≡ stream_of (rs ++ r ∷ []) rest
stream_next rs r rest = sym (append_assoc (flat_map request_bytes rs) (request_bytes r) rest) ∙ ap (λ (xs : List ℕ). xs ++ rest) (sym (frames_more rs r))

pub stream_more : (rs : List Request) (pending piece : List ℕ) → stream_of rs pending ++ piece ≡ stream_of rs (pending ++ piece)
stream_more rs pending piece = append_assoc (flat_map request_bytes rs) pending piece

said_more : (p : Phase) (rs : List Request) (r : Request) → AreSaid p rs → IsSaid (phase_after_all p rs) r → AreSaid p (rs ++ r ∷ [])
said_more p [] r h s = (s, tt)
said_more p (q ∷ rs) r h s = (h.0, said_more (phase_after p q) rs r h.1 s)

phase_more : (p : Phase) (rs : List Request) (r : Request) → phase_after_all p (rs ++ r ∷ []) ≡ phase_after (phase_after_all p rs) r
phase_more p [] r = refl
phase_more p (q ∷ rs) r = phase_more (phase_after p q) rs r

state_more : (keys : Key) (s : State) (rs : List Request) (r : Request) → state_after_all keys s (rs ++ r ∷ []) ≡ state_after keys (state_after_all keys s rs) r
state_more keys s [] r = refl
state_more keys s (q ∷ rs) r = state_more keys (state_after keys s q) rs r

answers_more : (keys : Key) (s : State) (rs : List Request) (r : Request) → answers keys s (rs ++ r ∷ []) ≡ answers keys s rs ++ answer keys (state_after_all keys s rs) r
answers_more keys s [] r = append-nil (answer keys s r)
answers_more keys s (q ∷ rs) r =
    ap (λ (xs : List ℕ). answer keys s q ++ xs) (answers_more keys (state_after keys s q) rs r)
    ∙ sym (append_assoc (answer keys s q) (answers keys (state_after keys s q) rs) (answer keys (state_after_all keys (state_after keys s q) rs) r))

-- ---- phases

pub phase_is : (p : Phase) → p ≢ Phase.Over → phase_of (is_opening p) ≡ p
phase_is Phase.Opening n = refl
phase_is Phase.Serving n = refl
phase_is Phase.Over n = absurd (n refl)

startup_ends : (params : List Pair) → asks_encryption (front_body (fronts.Startup params)) ≡ false
startup_ends params = refl

asking_stays : (how : Encryption) → asks_encryption (front_body (asking how)) ≡ true
asking_stays encryption.Tls = refl
asking_stays encryption.Gss = refl

-- where a request was in its place, the client's stream awaits what the session awaits
awaits : (p : Phase) (r : Request) → IsSaid p r → (is_opening p && asks_encryption (front_body (message_of r))) ≡ is_opening (phase_after p r)
awaits Phase.Opening (Request.Encrypts how) h = asking_stays how
awaits Phase.Opening (Request.Opens params) h = startup_ends params
awaits Phase.Opening (Request.Asks text tree) h = absurd h
awaits Phase.Opening (Request.Empties text) h = absurd h
awaits Phase.Opening (Request.Refused text cause) h = absurd h
awaits Phase.Opening Request.Leaves h = absurd h
awaits Phase.Serving (Request.Encrypts how) h = refl
awaits Phase.Serving (Request.Opens params) h = refl
awaits Phase.Serving (Request.Asks text tree) h = refl
awaits Phase.Serving (Request.Empties text) h = refl
awaits Phase.Serving (Request.Refused text cause) h = refl
awaits Phase.Serving Request.Leaves h = refl
awaits Phase.Over (Request.Encrypts how) h = refl
awaits Phase.Over (Request.Opens params) h = refl
awaits Phase.Over (Request.Asks text tree) h = refl
awaits Phase.Over (Request.Empties text) h = refl
awaits Phase.Over (Request.Refused text cause) h = refl
awaits Phase.Over Request.Leaves h = refl

serving_not_over : Phase.Serving ≢ Phase.Over
serving_not_over e = subst (λ (p : Phase). elim p as (λ _. Type 0) [ Phase.Opening ↦ Unit {0} | Phase.Serving ↦ Unit {0} | Phase.Over ↦ ⊥ ]) e tt

opening_not_over : Phase.Opening ≢ Phase.Over
opening_not_over e = subst (λ (p : Phase). elim p as (λ _. Type 0) [ Phase.Opening ↦ Unit {0} | Phase.Serving ↦ Unit {0} | Phase.Over ↦ ⊥ ]) e tt

-- a request that is answered doesn't end the session
goes_on : (p : Phase) (text : List ℕ) (what : Said) → p ≢ Phase.Over → phase_after p (request_of text what) ≢ Phase.Over
goes_on p text (said.Encrypts how) n = n
goes_on p text (said.Opens params) n = serving_not_over
goes_on p text (said.Asks tree) n = n
goes_on p text said.Empties n = n
goes_on p text (said.Refused cause) n = n

small_sum : (n : ℕ) → n ≤ 2 ^ 48 → n % 2 ^ 64 ≡ n
small_sum n h = omega arith

pub length_zero : (xs : List ℕ) → length xs ≡ 0 → xs ≡ []
length_zero [] e = refl
length_zero (x ∷ xs) e = absurd (omega (arith, e))

pub none_left : (xs : List ℕ) → true ≡ (length xs == 0) → xs ≡ []
none_left xs e = length_zero xs (eqb-true (length xs) 0 (sym e))

pub some_left : (xs : List ℕ) → false ≡ (length xs == 0) → xs ≢ []
some_left [] e none = let t : false ≡ true = e in absurd cc
some_left (x ∷ xs) e none = absurd (omega (arith, ap length none))

-- ---- what the code's calls answer

fed_nothing : (s : Stream) → fed s [] ≡ s
fed_nothing s = ap (λ (xs : List ℕ). record { who = s.who; limit = s.limit; opening = s.opening; offset = s.offset; left = xs }) (append-nil s.left)

pub next_is : (E : Type 0) (s t : Stream) (found n : Next) → found ≡ n → NextGives {E = E} s (Ok found) t → NextGives {E = E} s (Ok n) t
next_is E s t found n e h = subst (λ (x : Next). NextGives {E = E} s (Ok x) t) e h

pub piece_of : (left left' : Option (List ℕ)) (s t stream' : Stream) (n room : ℕ) → t ≡ s → PieceRead left left' t stream' n room → PieceRead left left' s stream' n room
piece_of left left' s t stream' n room e p = subst (λ (u : Stream). PieceRead left left' u stream' n room) e p

pub may_stop : (stop : Stop) → (stop ≡ stops.ReadFault → ⊥) → may_begin (status_of stop) ≡ true
may_stop stops.NoMemory h = refl
may_stop stops.WriteFault h = refl
may_stop stops.ReadFault h = absurd (h refl)

pub not_read : (stop : Stop) → (IsErrOf {T = Unit {0}} (Err stop) stops.ReadFault → ⊥) → stop ≡ stops.ReadFault → ⊥
not_read stop h e = h (ap (λ (x : Stop). Err x) e)

-- an unfinished frame stands first
abbrev pub Unfinished : Stream → Type 0
Unfinished s = IsUnfinished side.Client message_limit (is_opening (phase_of s.opening)) s.left

-- where nothing was read, what begins here is as before
pub nothing_read : (left left' : Option (List ℕ)) (s t : Stream) (n room : ℕ) → n ≡ 0 → PieceRead left left' s t n room → Unfinished s → Unfinished t
nothing_read left left' s t n room e p none =
    let same : t ≡ s = p.behind ∙ ap (λ (xs : List ℕ). fed s xs) (length_zero p.piece (p.count ∙ e)) ∙ fed_nothing s in
    subst Unfinished (sym same) none

pub ends_stopped : (stop : Stop) (left : Option (List ℕ)) (rs : List Request) (rest : List ℕ) → Ends (status_of stop) left rs rest
ends_stopped stops.NoMemory left rs rest = tt
ends_stopped stops.WriteFault left rs rest = tt
ends_stopped stops.ReadFault left rs rest = tt

-- ---- moves

pub starts : (keys : Key) (g0 : ChaCha) (left held : Option (List ℕ)) (lab : Lab) (stream : Stream) → lab.tables ≡ notes_with [] → connection lab ≡ new_session → stream ≡ new_stream side.Client message_limit → SoFar keys g0 left held left held g0 lab stream 0 []
starts keys g0 left held lab stream tables el es = record {
  each = tt;
  serving = opening_not_over;
  read = subst (λ (xs : List ℕ). Shrank left left xs) (sym (ap (λ (u : Stream). u.left) es)) (shrank_nothing left);
  sent = grew_nothing held;
  rests = record {
    stand = record { same = tables; meant = record { rows = []; are = refl; each = tt } };
    goes_on = ap (λ (x : Session). x.over) el;
    who = ap (λ (x : Session). x.stream.who) el;
    limit = ap (λ (x : Session). x.stream.limit) el;
    opening = ap (λ (x : Session). x.stream.opening) el;
    idle = ap (λ (x : Session). x.stream.left) el;
  };
  drawn = refl;
  who = ap (λ (u : Stream). u.who) es;
  limit = ap (λ (u : Stream). u.limit) es;
  opening = ap (λ (u : Stream). u.opening) es;
  place = ap (λ (u : Stream). u.offset) es;
  total = sym (rw (ap (λ (u : Stream). u.offset) es, ap (λ (u : Stream). u.left) es) refl);
}

module _ (keys : Key) (g0 : ChaCha) (left0 held0 left held : Option (List ℕ)) (g : ChaCha) (lab : Lab) (stream : Stream) (taken : ℕ) (rs : List Request) (so : SoFar keys g0 left0 held0 left held g lab stream taken rs) where
  pub reads_on : (left' : Option (List ℕ)) (stream' : Stream) (n room : ℕ) → PieceRead left left' stream stream' n room → SoFar keys g0 left0 held0 left' held g lab stream' (taken + n) rs
  reads_on left' stream' n room p = record {
    each = so.each;
    serving = so.serving;
    read = subst (λ (xs : List ℕ). Shrank left0 left' xs) (stream_more rs stream.left p.piece ∙ ap (stream_of rs) (sym (ap (λ (u : Stream). u.left) p.behind))) (shrank_then left0 left left' (stream_of rs stream.left) p.piece so.read p.took);
    sent = so.sent;
    rests = so.rests;
    drawn = so.drawn;
    who = ap (λ (u : Stream). u.who) p.behind ∙ so.who;
    limit = ap (λ (u : Stream). u.limit) p.behind ∙ so.limit;
    opening = ap (λ (u : Stream). u.opening) p.behind ∙ so.opening;
    place = ap (λ (u : Stream). u.offset) p.behind ∙ so.place;
    total = omega (arith, so.total, p.count, ap (λ (u : Stream). u.offset) p.behind, ap (λ (u : Stream). length u.left) p.behind, length-append stream.left p.piece);
  }

  -- the request that was taken is in its place
  pub placed : (r : Request) (t : Stream) → Takes stream r t → IsSaid (phase_after_all Phase.Opening rs) r
  placed r t k = subst (λ (p : Phase). IsSaid p r) (ap phase_of so.opening ∙ phase_is (phase_after_all Phase.Opening rs) so.serving) k.placed

  pub read_of : (r : Request) (t : Stream) → (k : Takes stream r t) → Shrank left0 left (stream_of (rs ++ r ∷ []) k.rest)
  read_of r t k = subst (λ (xs : List ℕ). Shrank left0 left xs) (ap (stream_of rs) k.front ∙ stream_next rs r k.rest) so.read

  phase_here : phase_of stream.opening ≡ phase_after_all Phase.Opening rs
  phase_here = ap phase_of so.opening ∙ phase_is (phase_after_all Phase.Opening rs) so.serving

  pub answers_on : (text : List ℕ) (what : Said) (t : Stream) (g' : ChaCha) (lab' : Lab) (held' : Option (List ℕ)) → taken ≤ 2 ^ 48 → Takes stream (request_of text what) t
      → Answered keys (awaits_startup lab) (state_after_all keys (started g0) rs) (request_of text what) g' lab' held held' → SoFar keys g0 left0 held0 left held' g' lab' t taken (rs ++ request_of text what ∷ [])
  answers_on text what t g' lab' held' small k a =
      let r = request_of text what in
      let p = phase_after_all Phase.Opening rs in
      let here = placed r t k in
      let later : phase_after_all Phase.Opening (rs ++ r ∷ []) ≡ phase_after p r = phase_more Phase.Opening rs r in
      let lab_phase : phase_of (awaits_startup lab) ≡ p = ap phase_of so.rests.opening ∙ phase_is p so.serving in
      let lab_awaits : is_opening (phase_after (phase_of (awaits_startup lab)) r) ≡ is_opening (phase_after_all Phase.Opening (rs ++ r ∷ [])) = ap (λ (q : Phase). is_opening (phase_after q r)) lab_phase ∙ sym (ap is_opening later) in
      let state = state_more keys (started g0) rs r in
      let left_is : t.left ≡ k.rest = ap (λ (u : Stream). u.left) k.after in
      let long : length stream.left ≡ length (request_bytes r) + length k.rest = ap length k.front ∙ length-append (request_bytes r) k.rest in
      let offset : t.offset ≡ stream.offset + length (request_bytes r) = ap (λ (u : Stream). u.offset) k.after ∙ small_sum (stream.offset + length (request_bytes r)) (omega (arith, so.total, long)) in
      record {
        each = said_more Phase.Opening rs r so.each here;
        serving = λ e. goes_on p text what so.serving (sym later ∙ e);
        read = subst (λ (xs : List ℕ). Shrank left0 left (stream_of (rs ++ r ∷ []) xs)) (sym left_is) (read_of r t k);
        sent = subst (λ (xs : List ℕ). Grew held0 held' xs) (sym (answers_more keys (started g0) rs r)) (grew_then held0 held held' _ _ so.sent a.sent);
        rests = subst (λ (b : Bool). Rests keys lab' (state_after_all keys (started g0) (rs ++ r ∷ [])) b) lab_awaits (subst (λ (u : State). Rests keys lab' u (is_opening (phase_after (phase_of (awaits_startup lab)) r))) (sym state) a.rests);
        drawn = a.drawn ∙ ap (λ (u : State). u.coming) (sym state);
        who = ap (λ (u : Stream). u.who) k.after ∙ so.who;
        limit = ap (λ (u : Stream). u.limit) k.after ∙ so.limit;
        opening = ap (λ (u : Stream). u.opening) k.after ∙ ap (λ (b : Bool). b && asks_encryption (front_body (message_of r))) so.opening ∙ awaits p r here ∙ sym (ap is_opening later);
        place = omega (arith, offset, so.place, ap length (frames_more rs r), length-append (flat_map request_bytes rs) (request_bytes r));
        total = omega (arith, so.total, offset, long, ap length left_is);
      }

  -- ---- ends

  -- a session ends that has answered all that it took
  pub ends_here : (status : Status) → Ends status left rs stream.left → Ran keys g0 left0 left held0 held lab.tables status rs [] stream.left
  ends_here status why =
      let none = sym (append-nil rs) in
      record {
        each = subst (λ (qs : List Request). AreSaid Phase.Opening qs) none so.each;
        read = subst (λ (qs : List Request). Shrank left0 left (stream_of qs stream.left)) none so.read;
        why_begun = tt;
        behind = [];
        more = [];
        replies = append-nil (answers keys (started g0) rs ++ []) ∙ append-nil (answers keys (started g0) rs) ∙ ap (answers keys (started g0)) none;
        sent = subst (λ (xs : List ℕ). Grew held0 held xs) (sym (append-nil (answers keys (started g0) rs))) so.sent;
        stand = inl so.rests.stand;
        why = why;
      }

  -- a piece was taken and is lost, or comes before the end
  pub lost : (left' : Option (List ℕ)) (status : Status) → (p : PieceTaken left left') → Ends status left' rs (stream.left ++ p.0) → Ran keys g0 left0 left' held0 held lab.tables status rs [] (stream.left ++ p.0)
  lost left' status p why =
      let none = sym (append-nil rs) in
      record {
        each = subst (λ (qs : List Request). AreSaid Phase.Opening qs) none so.each;
        read = subst (λ (qs : List Request). Shrank left0 left' (stream_of qs (stream.left ++ p.0))) none (subst (λ (xs : List ℕ). Shrank left0 left' xs) (stream_more rs stream.left p.0) (shrank_then left0 left left' (stream_of rs stream.left) p.0 so.read p.1));
        why_begun = tt;
        behind = [];
        more = [];
        replies = append-nil (answers keys (started g0) rs ++ []) ∙ append-nil (answers keys (started g0) rs) ∙ ap (answers keys (started g0)) none;
        sent = subst (λ (xs : List ℕ). Grew held0 held xs) (sym (append-nil (answers keys (started g0) rs))) so.sent;
        stand = inl so.rests.stand;
        why = why;
      }

  -- a bad message stands here
  pub bad_here : (offset : ℕ) (kind : MessageFault) → offset ≡ stream.offset → IsBad (phase_of stream.opening) stream.left kind → Ends (ends.BadClient offset kind) left rs stream.left
  bad_here offset kind eo bad = (eo ∙ so.place, so.serving, subst (λ (p : Phase). IsBad p stream.left kind) phase_here bad)

  -- the input ended inside a message
  pub cut_here : (offset : ℕ) → offset ≡ taken → stream.left ≢ [] → IsAtEnd left → Unfinished stream → Ends (ends.ClientCut offset) left rs stream.left
  cut_here offset eo some ended unfinished = (
    omega (arith, eo, so.total, so.place, length-append (flat_map request_bytes rs) stream.left),
    so.serving,
    record { some = some; unfinished = subst (λ (p : Phase). IsUnfinished side.Client message_limit (is_opening p) stream.left) phase_here unfinished },
    ended,
  )

  -- so many bytes were read
  pub spent_here : 2 ^ 48 ≤ taken → taken ≤ 2 ^ 48 → Ends ends.Spent left rs stream.left
  spent_here least most = omega (arith, so.total, so.place, length-append (flat_map request_bytes rs) stream.left)

  -- a request was begun and not answered whole
  pub breaks_off : (r : Request) (t : Stream) (lab' : Lab) (held' : Option (List ℕ)) (status : Status) → (k : Takes stream r t) → Broken keys (state_after_all keys (started g0) rs) r lab' held held' → may_begin status ≡ true → Ends status left rs k.rest
      → Ran keys g0 left0 left held0 held' lab'.tables status rs (r ∷ []) k.rest
  breaks_off r t lab' held' status k b may why =
      record {
        each = said_more Phase.Opening rs r so.each (placed r t k);
        read = read_of r t k;
        why_begun = may;
        behind = b.sent.0;
        more = b.sent.1;
        replies = append_assoc (answers keys (started g0) rs) b.sent.0 b.sent.1 ∙ ap (λ (xs : List ℕ). answers keys (started g0) rs ++ xs) b.sent.2 ∙ sym (answers_more keys (started g0) rs r);
        sent = grew_then held0 held held' _ _ so.sent b.sent.3;
        stand = elim b.stand [ inl h ↦ inl h | inr h ↦ inr (subst (λ (u : State). StandFor (IsStored keys) lab'.tables u.tables) (sym (state_more keys (started g0) rs r)) h) ];
        why = why;
      }

  -- a request was taken, and nothing was begun of it
  pub unbegun : (lab' : Lab) (held' : Option (List ℕ)) (status : Status) → lab' ≡ lab → held' ≡ held → Ends status left rs stream.left → Ran keys g0 left0 left held0 held' lab'.tables status rs [] stream.left
  unbegun lab' held' status el eh why =
      subst (λ (l : Lab). Ran keys g0 left0 left held0 held' l.tables status rs [] stream.left) (sym el)
      (subst (λ (h : Option (List ℕ)). Ran keys g0 left0 left held0 h lab.tables status rs [] stream.left) (sym eh) (ends_here status why))

  -- the client has left
  pub leaves : (t : Stream) → (k : Takes stream Request.Leaves t) → Ran keys g0 left0 left held0 held lab.tables ends.Done (rs ++ Request.Leaves ∷ []) [] k.rest
  leaves t k =
      let all = rs ++ Request.Leaves ∷ [] in
      let none = sym (append-nil all) in
      let replies : answers keys (started g0) all ≡ answers keys (started g0) rs = answers_more keys (started g0) rs Request.Leaves ∙ append-nil (answers keys (started g0) rs) in
      record {
        each = subst (λ (qs : List Request). AreSaid Phase.Opening qs) none (said_more Phase.Opening rs Request.Leaves so.each (placed Request.Leaves t k));
        read = subst (λ (qs : List Request). Shrank left0 left (stream_of qs k.rest)) none (read_of Request.Leaves t k);
        why_begun = tt;
        behind = [];
        more = [];
        replies = append-nil (answers keys (started g0) all ++ []) ∙ append-nil (answers keys (started g0) all) ∙ ap (answers keys (started g0)) none;
        sent = subst (λ (xs : List ℕ). Grew held0 held xs) (sym (append-nil (answers keys (started g0) all) ∙ replies)) so.sent;
        stand = inl (subst (λ (u : State). StandFor (IsStored keys) lab.tables u.tables) (sym (state_more keys (started g0) rs Request.Leaves)) so.rests.stand);
        why = inr (phase_more Phase.Opening rs Request.Leaves);
      }
