-- From what a session did to what is told of it.
use Rattle.std.proofs.Common.{◌≡◌, ◌≢◌, ℕ, ◌+◌, ◌≤◌, inl, inr, Bool, true, false, Option, Some, None, List, [], ◌∷◌, ◌++◌, length, get_or, unwrap_or, refl, sym, ap, subst, ◌∙◌, arith}
use Rattle.std.specs.List.{flat_map}
use Rattle.std.proofs.lemmas.List.{append-nil, length-append}
use Rattle.rand_chacha.specs.ChaCha.{ChaCha}
use Rattle.acra_devices.specs.Known.{IsAtEnd}
use Rattle.pg_wire.specs.declared.frame.MessageFault.{MessageFault}
use Rattle.pg_wire.specs.declared.frame.MessageFault.TheVariants as message
use Rattle.pg_wire.specs.declared.frame.FrameFault.{FrameFault}
use Rattle.pg_wire.specs.declared.frame.Side.TheVariants as side
use Rattle.pg_wire.specs.Frames.{HasFault}
use Rattle.pg_wire.specs.Fronts.{front_kind, front_body}
use Rattle.table_machine.specs.declared.cell.Cell.{Cell}
use Rattle.table_machine.specs.Tables.{Table}
use Rattle.session_model.specs.Requests.{Request, Phase, phase_after_all, is_opening, IsSaid, AreSaid, message_of, request_bytes, stream_of, NoRequest, Splits, message_limit}
use Rattle.session_model.specs.BadMessages.{IsBad, IsCut}
use Rattle.session_model.proofs.Requested.{said_frame}
use Rattle.session_model.proofs.Faulty.{bad_stays, bad_says_nothing}
use Rattle.acra_block.specs.Keys.{Key}
use Rattle.lab_session.specs.Runs.{started, answers}
use Rattle.command_words.specs.Numbers.{number_of}
use Rattle.lab_core.specs.Words.{IsSession}
use Rattle.lab_session.specs.ClientKey.{client_drawn}
use Rattle.lab_session.specs.Session.{Ran, MayBegin, may_begin}
use Rattle.lab_core.specs.Headline.{WhereTold, replies_to, IsOver, AllAnswered, AnsweredTo, AnsweredCut, AnsweredRead, AnsweredSpent, AnsweredFront, Headline, Due, IsDue, Untouched}
use Rattle.lab_session.specs.declared.status.Status.{Status}
use Rattle.lab_session.specs.declared.status.Status.TheVariants as ends
use Rattle.session_model.proofs.OneStream.{one_stream}
use Rattle.lab_session.proofs.Relayed.{frame_not_empty}
use Rattle.lab_session.proofs.Steps.{stream_more, length_zero}

-- ---- where no request begins

nothing : (p : Phase) (bytes : List ℕ) → bytes ≡ [] → NoRequest p bytes
nothing p bytes none r rest is e = frame_not_empty (front_kind (message_of r)) (front_body (message_of r)) rest (sym e ∙ none)

over_says_nothing : (r : Request) → IsSaid Phase.Over r → ⊥
over_says_nothing (Request.Encrypts how) h = absurd h
over_says_nothing (Request.Opens params) h = absurd h
over_says_nothing (Request.Asks text tree) h = absurd h
over_says_nothing (Request.Empties text) h = absurd h
over_says_nothing (Request.Refused text cause) h = absurd h
over_says_nothing Request.Leaves h = absurd h

over : (p : Phase) (bytes : List ℕ) → p ≡ Phase.Over → NoRequest p bytes
over p bytes e r rest is same = over_says_nothing r (subst (λ (q : Phase). IsSaid q r) e is)

faulty_not_empty : (opening : Bool) (left : List ℕ) (fault : FrameFault) → HasFault side.Client message_limit opening left fault → left ≢ []
faulty_not_empty true left fault h e = absurd (omega (arith, h.1.0, ap length e))
faulty_not_empty false left fault h e = subst (λ (xs : List ℕ). HasFault side.Client message_limit false xs fault) e h

-- what is bad is not nothing
bad_not_empty : (p : Phase) (bytes : List ℕ) (kind : MessageFault) → IsBad p bytes kind → bytes ≢ []
bad_not_empty p bytes (message.Frame fault) h e = faulty_not_empty (is_opening p) bytes fault h e
bad_not_empty p bytes message.Body h e = frame_not_empty h.0 h.1 h.2.rest (sym h.2.front ∙ e)
bad_not_empty p bytes message.Place h e = frame_not_empty (front_kind h.0) (front_body h.0) h.2.rest (sym h.2.front ∙ e)
bad_not_empty p bytes message.Batch h e = absurd h
bad_not_empty p bytes message.Shape h e = absurd h

cut_says_nothing : (p : Phase) (bytes : List ℕ) → IsCut p bytes → NoRequest p bytes
cut_says_nothing p bytes c r rest is e = c.unfinished.no_frame (front_kind (message_of r)) (front_body (message_of r)) rest (said_frame p r is) e

-- ---- ends that begin nothing

none_begun : (status : Status) (begun : List Request) → may_begin status ≡ false → MayBegin status begun → begun ≡ []
none_begun status [] e m = refl
none_begun status (r ∷ []) e m = let t : false ≡ true = sym e ∙ m in absurd cc
none_begun status (r ∷ q ∷ qs) e m = absurd m

cut : (xs ys zs : List ℕ) → (xs ++ ys) ++ zs ≡ xs → ys ≡ []
cut xs ys zs e = length_zero ys (omega (arith, ap length e, length-append (xs ++ ys) zs, length-append xs ys))

-- what a session did that answered all that it took
record Whole (keys : Key) (g0 : ChaCha) (client unread before after : List ℕ) (answered : List Request) (rest : List ℕ) : Type 0 where
  pub each : AreSaid Phase.Opening answered
  pub whole : client ≡ stream_of answered (rest ++ unread)
  pub sent : after ≡ before ++ answers keys (started g0) answered

module _ (keys : Key) (g0 : ChaCha) (client unread before after : List ℕ) (tables : List (Table Cell)) where
  whole : (status : Status) (answered begun : List Request) (rest : List ℕ) → may_begin status ≡ false → Ran keys g0 (Some client) (Some unread) (Some before) (Some after) tables status answered begun rest
      → Whole keys g0 client unread before after answered rest
  whole status answered begun rest may r =
      let none = none_begun status begun may r.why_begun in
      let all : answered ++ begun ≡ answered = ap (λ (qs : List Request). answered ++ qs) none ∙ append-nil answered in
      let sent : r.behind ≡ [] = cut (answers keys (started g0) answered) r.behind r.more (r.replies ∙ ap (answers keys (started g0)) all) in
      record {
        each = subst (λ (qs : List Request). AreSaid Phase.Opening qs) all r.each;
        whole = r.read ∙ stream_more (answered ++ begun) rest unread ∙ ap (λ (qs : List Request). stream_of qs (rest ++ unread)) all;
        sent = r.sent ∙ ap (λ (xs : List ℕ). before ++ (answers keys (started g0) answered ++ xs)) sent ∙ ap (λ (xs : List ℕ). before ++ xs) (append-nil (answers keys (started g0) answered));
      }

-- ---- the headline

one_at_most : (status : Status) (begun : List Request) → MayBegin status begun → length begun ≤ 1
one_at_most status [] m = omega arith
one_at_most status (r ∷ []) m = omega arith
one_at_most status (r ∷ q ∷ qs) m = absurd m

-- the keys of a client, and its session's generator
abbrev keys_of : List ℕ → ℕ → Key
keys_of name seed = (client_drawn name seed).0

module _ (name : List ℕ) (seed : ℕ) (client unread before after : List ℕ) (tables : List (Table Cell)) where
  abbrev Run : Status → List Request → List Request → List ℕ → Type 0
  Run status answered begun rest = Ran (keys_of name seed) (client_drawn name seed).1 (Some client) (Some unread) (Some before) (Some after) tables status answered begun rest

  abbrev All : List Request → List ℕ → Type 0
  All answered rest = Whole (keys_of name seed) (client_drawn name seed).1 client unread before after answered rest

  done : (answered begun : List Request) (rest : List ℕ) → Run ends.Done answered begun rest → AllAnswered name seed client before after
  done answered begun rest r =
      let w : All answered rest = whole _ _ client unread before after tables ends.Done answered begun rest refl r in
      let is_over : IsOver answered (rest ++ unread) = elim r.why [ inl h ↦ inl (ap (λ (xs : List ℕ). xs ++ unread) h.0 ∙ h.1) | inr h ↦ inr h ] in
      let last : NoRequest (phase_after_all Phase.Opening answered) (rest ++ unread) = elim is_over [ inl h ↦ nothing (phase_after_all Phase.Opening answered) (rest ++ unread) h | inr h ↦ over (phase_after_all Phase.Opening answered) (rest ++ unread) h ] in
      record { requests = answered; rest = rest ++ unread; parts = record { whole = w.whole; each = w.each; last = last }; over = is_over; sent = w.sent }

  bad : (offset : ℕ) (kind : MessageFault) (answered begun : List Request) (rest : List ℕ) → Run (ends.BadClient offset kind) answered begun rest → AnsweredTo name seed offset kind client before after
  bad offset kind answered begun rest r =
      let w : All answered rest = whole _ _ client unread before after tables (ends.BadClient offset kind) answered begun rest refl r in
      let here : IsBad (phase_after_all Phase.Opening answered) (rest ++ unread) kind = bad_stays (phase_after_all Phase.Opening answered) rest unread kind r.why.2 in
      record {
        requests = answered;
        rest = rest ++ unread;
        parts = record { whole = w.whole; each = w.each; last = bad_says_nothing (phase_after_all Phase.Opening answered) (rest ++ unread) kind here };
        left = λ o. elim o [ inl h ↦ bad_not_empty (phase_after_all Phase.Opening answered) (rest ++ unread) kind here h | inr h ↦ r.why.1 h ];
        bad = here;
        place = r.why.0;
        sent = w.sent;
      }

  -- an input that ended was read to its end
  no_more : (ended : IsAtEnd (Some unread)) (rest : List ℕ) → rest ++ unread ≡ rest
  no_more ended rest = ap (λ (xs : List ℕ). rest ++ xs) ended ∙ append-nil rest

  cut_off : (offset : ℕ) (answered begun : List Request) (rest : List ℕ) → Run (ends.ClientCut offset) answered begun rest → AnsweredCut name seed offset client before after
  cut_off offset answered begun rest r =
      let w : All answered rest = whole _ _ client unread before after tables (ends.ClientCut offset) answered begun rest refl r in
      let same = no_more r.why.3 rest in
      let parts : client ≡ stream_of answered rest = w.whole ∙ ap (stream_of answered) same in
      record {
        requests = answered;
        rest = rest;
        parts = record { whole = parts; each = w.each; last = cut_says_nothing (phase_after_all Phase.Opening answered) rest r.why.2 };
        left = λ o. elim o [ inl h ↦ r.why.2.some h | inr h ↦ r.why.1 h ];
        cut = r.why.2;
        place = r.why.0 ∙ sym (ap length parts);
        sent = w.sent;
      }

  read : (status : Status) (answered begun : List Request) (rest : List ℕ) → may_begin status ≡ false → Run status answered begun rest → AnsweredRead name seed client unread before after
  read status answered begun rest may r =
      let w : All answered rest = whole _ _ client unread before after tables status answered begun rest may r in
      record { requests = answered; rest = rest; whole = w.whole ∙ sym (stream_more answered rest unread); each = w.each; sent = w.sent }

  spent : (answered begun : List Request) (rest : List ℕ) → Run ends.Spent answered begun rest → AnsweredSpent name seed client unread before after
  spent answered begun rest r =
      let w : All answered rest = whole _ _ client unread before after tables ends.Spent answered begun rest refl r in
      record {
        answered = read ends.Spent answered begun rest refl r;
        spent = ap length (w.whole ∙ sym (stream_more answered rest unread)) ∙ length-append (stream_of answered rest) unread ∙ ap (λ (n : ℕ). n + length unread) r.why;
      }

  front : (status : Status) (answered begun : List Request) (rest : List ℕ) → Run status answered begun rest → AnsweredFront name seed client unread before after
  front status answered begun rest r = record {
    answered = answered;
    begun = begun;
    rest = rest;
    whole = r.read;
    each = r.each;
    one = one_at_most status begun r.why_begun;
    behind = r.behind;
    more = r.more;
    replies = r.replies;
    sent = r.sent;
  }

  told : (status : Status) (answered begun : List Request) (rest : List ℕ) → Run status answered begun rest → Headline name seed status client unread before after
  told ends.Done answered begun rest r = done answered begun rest r
  told (ends.BadClient offset kind) answered begun rest r = bad offset kind answered begun rest r
  told (ends.ClientCut offset) answered begun rest r = cut_off offset answered begun rest r
  told ends.Usage answered begun rest r = absurd r.why
  told ends.ReadFault answered begun rest r = read ends.ReadFault answered begun rest refl r
  told ends.Spent answered begun rest r = spent answered begun rest r
  told ends.WriteFault answered begun rest r = front ends.WriteFault answered begun rest r
  told ends.NoMemory answered begun rest r = front ends.NoMemory answered begun rest r

-- ---- what is due

module _ (name : List ℕ) (seed : ℕ) (client unread before after : List ℕ) where
  due_done : AllAnswered name seed client before after → (requests : List Request) (rest : List ℕ) → Splits client requests rest → Due name seed ends.Done requests rest before after
  due_done h requests rest s =
      let e = one_stream client h.rest rest h.requests requests h.parts s in (
        subst (λ (xs : List ℕ). IsOver requests xs) e.1 (subst (λ (rs : List Request). IsOver rs h.rest) e.0 h.over),
        h.sent ∙ ap (λ (rs : List Request). before ++ replies_to name seed rs) e.0,
      )

  -- the requests and the rest are those of any split
  left_is : (h_requests requests : List Request) (h_rest rest : List ℕ) → h_requests ≡ requests → h_rest ≡ rest → (IsOver h_requests h_rest → ⊥) → IsOver requests rest → ⊥
  left_is h_requests requests h_rest rest er ex left o = left (subst (λ (xs : List ℕ). IsOver h_requests xs) (sym ex) (subst (λ (rs : List Request). IsOver rs rest) (sym er) o))

  due_bad : (offset : ℕ) (kind : MessageFault) → AnsweredTo name seed offset kind client before after → (requests : List Request) (rest : List ℕ) → Splits client requests rest → Due name seed (ends.BadClient offset kind) requests rest before after
  due_bad offset kind h requests rest s =
      let e = one_stream client h.rest rest h.requests requests h.parts s in (
        left_is h.requests requests h.rest rest e.0 e.1 h.left,
        subst (λ (xs : List ℕ). IsBad (phase_after_all Phase.Opening requests) xs kind) e.1 (subst (λ (rs : List Request). IsBad (phase_after_all Phase.Opening rs) h.rest kind) e.0 h.bad),
        h.place ∙ ap (λ (rs : List Request). length (flat_map request_bytes rs)) e.0,
        h.sent ∙ ap (λ (rs : List Request). before ++ replies_to name seed rs) e.0,
      )

  due_cut : (offset : ℕ) → AnsweredCut name seed offset client before after → (requests : List Request) (rest : List ℕ) → Splits client requests rest → Due name seed (ends.ClientCut offset) requests rest before after
  due_cut offset h requests rest s =
      let e = one_stream client h.rest rest h.requests requests h.parts s in (
        left_is h.requests requests h.rest rest e.0 e.1 h.left,
        subst (λ (xs : List ℕ). IsCut (phase_after_all Phase.Opening requests) xs) e.1 (subst (λ (rs : List Request). IsCut (phase_after_all Phase.Opening rs) h.rest) e.0 h.cut),
        h.place ∙ ap length s.whole,
        h.sent ∙ ap (λ (rs : List Request). before ++ replies_to name seed rs) e.0,
      )

  is_due : (status : Status) → Headline name seed status client unread before after → IsDue name seed status client unread before after
  is_due ends.Done h requests rest s = due_done h requests rest s
  is_due (ends.BadClient offset kind) h requests rest s = due_bad offset kind h requests rest s
  is_due (ends.ClientCut offset) h requests rest s = due_cut offset h requests rest s
  is_due ends.Usage h requests rest s = tt
  is_due ends.ReadFault h requests rest s = tt
  is_due ends.Spent h requests rest s = tt
  is_due ends.WriteFault h requests rest s = tt
  is_due ends.NoMemory h requests rest s = tt

-- ---- where it is told

pub headline_of : (name : List ℕ) (seed : ℕ) (left0 left held0 held : Option (List ℕ)) (tables : List (Table Cell)) (status : Status) (answered begun : List Request) (rest : List ℕ)
    → Ran (keys_of name seed) (client_drawn name seed).1 left0 left held0 held tables status answered begun rest → WhereTold left0 left held0 held (Headline name seed status)
headline_of name seed (Some client) (Some unread) (Some before) (Some after) tables status answered begun rest r = told name seed client unread before after tables status answered begun rest r
headline_of name seed None left held0 held tables status answered begun rest r = tt
headline_of name seed (Some client) None held0 held tables status answered begun rest r = tt
headline_of name seed (Some client) (Some unread) None held tables status answered begun rest r = tt
headline_of name seed (Some client) (Some unread) (Some before) None tables status answered begun rest r = tt

pub due_of : (name : List ℕ) (seed : ℕ) (left0 left held0 held : Option (List ℕ)) (tables : List (Table Cell)) (status : Status) (answered begun : List Request) (rest : List ℕ)
    → Ran (keys_of name seed) (client_drawn name seed).1 left0 left held0 held tables status answered begun rest → WhereTold left0 left held0 held (IsDue name seed status)
due_of name seed (Some client) (Some unread) (Some before) (Some after) tables status answered begun rest r = is_due name seed client unread before after status (told name seed client unread before after tables status answered begun rest r)
due_of name seed None left held0 held tables status answered begun rest r = tt
due_of name seed (Some client) None held0 held tables status answered begun rest r = tt
due_of name seed (Some client) (Some unread) None held tables status answered begun rest r = tt
due_of name seed (Some client) (Some unread) (Some before) None tables status answered begun rest r = tt

pub untouched : (left held : Option (List ℕ)) → WhereTold left left held held Untouched
untouched (Some client) (Some before) = (refl, refl)
untouched None held = tt
untouched (Some client) None = tt

-- for want of memory nothing was read or written
pub unmade : (name : List ℕ) (seed : ℕ) (left held : Option (List ℕ)) → WhereTold left left held held (Headline name seed ends.NoMemory)
unmade name seed (Some client) (Some before) = record {
  answered = [];
  begun = [];
  rest = [];
  whole = refl;
  each = tt;
  one = omega arith;
  behind = [];
  more = [];
  replies = refl;
  sent = sym (append-nil before);
}
unmade name seed None held = tt
unmade name seed (Some client) None = tt

-- ---- words

-- the words name one client and one seed
pub one_session : (words : List (List ℕ)) (a b : List ℕ) (m n : ℕ) → IsSession words a m → IsSession words b n → (a ≡ b) × (m ≡ n)
one_session words a b m n s t =
    let same = sym s.shape ∙ t.shape in
    let digits : s.digits ≡ t.digits = ap (λ (ws : List (List ℕ)). get_or ws 2 []) same in (
      ap (λ (ws : List (List ℕ)). get_or ws 1 []) same,
      ap (λ (o : Option ℕ). unwrap_or o 0) (sym s.number ∙ ap number_of digits ∙ t.number),
    )

-- a session that ran under the words ran for any client and seed that they name
pub named : (words : List (List ℕ)) (name : List ℕ) (seed : ℕ) (found : List ℕ) (key : Key) (of : ℕ) (g0 : ChaCha) (left0 left held0 held : Option (List ℕ)) (tables : List (Table Cell)) (status : Status) (answered begun : List Request) (rest : List ℕ)
    → IsSession words found of → IsSession words name seed → (key, g0) ≡ client_drawn found of → Ran key g0 left0 left held0 held tables status answered begun rest
    → Ran (keys_of name seed) (client_drawn name seed).1 left0 left held0 held tables status answered begun rest
named words name seed found key of g0 left0 left held0 held tables status answered begun rest a b drawn r =
    let e = one_session words found name of seed a b in
    let by_seed = subst (λ (d : Key × ChaCha). Ran d.0 d.1 left0 left held0 held tables status answered begun rest) drawn r in
    let by_name = subst (λ (client : List ℕ). Ran (keys_of client of) (client_drawn client of).1 left0 left held0 held tables status answered begun rest) e.0 by_seed in
    subst (λ (n : ℕ). Ran (keys_of name n) (client_drawn name n).1 left0 left held0 held tables status answered begun rest) e.1 by_name
