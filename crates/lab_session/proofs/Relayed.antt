-- A reply is read message by message, and shown as it is read.
use Rattle.std.proofs.Common.{◌≡◌, ℕ, ◌+◌, ◌^◌, ◌≤◌, ◌<◌, ◌==◌, take, drop, if◌then◌else◌, Bool, true, false, ◌&&◌, List, [], ◌∷◌, ◌++◌, length, map, Option, Some, None, Result, Ok, Err, refl, sym, ap, subst, ◌∙◌, append_assoc, arith}
use Rattle.std.specs.Result.{IsErr}
use Rattle.std.specs.List.{flat_map}
use Rattle.std.specs.Int.{w32, to_be_bytes}
use Rattle.std.proofs.lemmas.List.{append-nil, length-append, take-append-drop}
use Rattle.acra_devices.specs.Known.{Grew}
use Rattle.acra_devices.specs.Grows.{grew_nothing, grew_then}
use Rattle.pg_wire.specs.declared.back.Back.{Back}
use Rattle.pg_wire.specs.declared.back.Back.TheVariants as backs
use Rattle.pg_wire.specs.declared.frame.Side.{Side}
use Rattle.pg_wire.proofs.FrameLaws.{one_frame, fault_is_no_frame}
use Rattle.pg_wire.specs.declared.frame.Frame.{Frame}
use Rattle.pg_wire.specs.declared.frame.FrameFault.{FrameFault}
use Rattle.pg_wire.specs.declared.frame.NextFault.{NextFault}
use Rattle.pg_wire.specs.declared.frame.NextFault.TheVariants as next
use Rattle.pg_wire.specs.declared.frame.ReadBody.{ReadBody}
use Rattle.pg_wire.specs.declared.frame.ReadBody.TheVariants as read
use Rattle.pg_wire.specs.declared.frame.Side.TheVariants as side
use Rattle.pg_wire.specs.Frames.{counted, frame_bytes, IsFrame, is_type, asks_encryption, HasFault, IsUnfinished}
use Rattle.pg_wire.specs.Streams.{Stream, GivesFrame, Gives, new_stream, fed}
use Rattle.pg_wire.specs.Backs.{back_kind, back_body, back_frame}
use Rattle.pg_wire.specs.Reading.{SpellsBack, ReadsAs}
use Rattle.machine_replies.specs.Replies.{IsWritable}
use Rattle.session_model.specs.Reply.{reply_bytes}
use Rattle.lab_session.specs.Session.{SentFront}
use Rattle.lab_session.specs.Relaying.{IsReply, Holds, NextIs, Sends}

-- these messages were shown, and those are left
pub record Shown (show : Back → Back) (s : Stream) (messages : List Back) (old new : Option (List ℕ)) : Type 0 where
  pub done : List Back
  pub left : List Back
  pub parts : messages ≡ done ++ left
  pub holds : Holds s left
  pub sent : Grew old new (reply_bytes (map show done))

-- ---- the next message

abbrev reply_limit : ℕ
reply_limit = 2 ^ 30

type_is : (m : Back) → is_type side.Backend (back_kind m) ≡ true
type_is (backs.Auth code rest) = refl
type_is (backs.Status pair) = refl
type_is (backs.KeyData process key) = refl
type_is (backs.Ready b) = refl
type_is (backs.Row fields) = refl
type_is (backs.Cells cells) = refl
type_is (backs.Complete tag) = refl
type_is backs.EmptyQuery = refl
type_is (backs.Error fields) = refl
type_is (backs.Notice fields) = refl
type_is backs.ParseDone = refl
type_is backs.BindDone = refl
type_is backs.CloseDone = refl
type_is backs.NoData = refl
type_is (backs.Params types) = refl
type_is backs.Suspended = refl

pub framed : (m : Back) → IsWritable m → IsFrame side.Backend reply_limit false (back_kind m) (back_body m)
framed m w = (type_is m, omega (arith, w.short), omega (arith, w.short))

counted_length : (body : List ℕ) → 4 ≤ length (counted body)
counted_length body = omega (arith, length-append (to_be_bytes w32 (length body + 4)) body, be_4 (length body + 4))
  where
    be_4 : (n : ℕ) → length (to_be_bytes w32 n) ≡ 4
    be_4 n = refl

by_kind : (b : Bool) (kind : ℕ) (body : List ℕ) → 4 ≤ length (if b then counted body else kind ∷ counted body)
by_kind true kind body = counted_length body
by_kind false kind body = omega (arith, counted_length body)

-- a frame has at least the bytes of its length
pub frame_length : (kind : ℕ) (body : List ℕ) → 4 ≤ length (frame_bytes kind body)
frame_length kind body = by_kind (kind == 0) kind body

pub frame_not_empty : (kind : ℕ) (body rest : List ℕ) → frame_bytes kind body ++ rest ≡ [] → ⊥
frame_not_empty kind body rest e = absurd (omega (arith, ap length e, length-append (frame_bytes kind body) rest, frame_length kind body))

-- the frame that is given is the first message's
pub record First (kind : ℕ) (body : List ℕ) (messages : List Back) (t : Stream) : Type 0 where
  pub message : Back
  pub others : List Back
  pub parts : messages ≡ message ∷ others
  pub spelled : SpellsBack kind body message
  pub holds : Holds t others

fixed : (s : Stream) (messages : List Back) (kind : ℕ) (body : List ℕ) → Holds s messages → IsFrame s.who s.limit s.opening kind body → IsFrame side.Backend reply_limit false kind body
fixed s messages kind body h f =
    subst (λ (b : Bool). IsFrame side.Backend reply_limit b kind body) h.opening
    (subst (λ (n : ℕ). IsFrame side.Backend n s.opening kind body) h.limit (subst (λ (w : Side). IsFrame w s.limit s.opening kind body) h.who f))

pub first_frame : (s t : Stream) (frame : Frame) (messages : List Back) → GivesFrame s frame t → Holds s messages → First frame.kind frame.body messages t
first_frame s t frame [] gives h =
    absurd (frame_not_empty frame.kind frame.body gives.rest (sym gives.front ∙ h.rest.0))
first_frame s t frame (m ∷ ms) gives h =
    let same = one_frame side.Backend reply_limit false frame.kind (back_kind m) frame.body (back_body m) gives.rest (flat_map back_frame ms) (fixed s (m ∷ ms) frame.kind frame.body h gives.is) (framed m h.rest.1.0) (sym gives.front ∙ h.rest.0) in
    let after = gives.after in
    record {
      message = m;
      others = ms;
      parts = refl;
      spelled = (h.rest.1.0.spelled, same.0, same.1);
      holds = record {
        who = ap (λ (u : Stream). u.who) after ∙ h.who;
        limit = ap (λ (u : Stream). u.limit) after ∙ h.limit;
        opening = ap (λ (u : Stream). u.opening) after ∙ ap (λ (b : Bool). b && asks_encryption frame.body) h.opening;
        rest = (ap (λ (u : Stream). u.left) after ∙ same.2, h.rest.1.1);
      };
    }

pub first_read : (found : Back) (kind : ℕ) (body : List ℕ) (messages : List Back) (t : Stream) → First kind body messages t → ((m : Back) → SpellsBack kind body m → found ≡ m) → NextIs (Some found) messages t
first_read found kind body messages t f only =
    subst (λ (ms : List Back). NextIs (Some found) ms t) (sym f.parts) (only f.message f.spelled, f.holds)

pub none_left : (s t : Stream) (messages : List Back) → IsUnfinished s.who s.limit s.opening s.left → Holds s messages → NextIs None messages t
none_left s t [] u h = tt
none_left s t (m ∷ ms) u h =
    let f : IsFrame s.who s.limit s.opening (back_kind m) (back_body m) =
    subst (λ (b : Bool). IsFrame s.who s.limit b (back_kind m) (back_body m)) (sym h.opening)
    (subst (λ (n : ℕ). IsFrame s.who n false (back_kind m) (back_body m)) (sym h.limit) (subst (λ (w : Side). IsFrame w reply_limit false (back_kind m) (back_body m)) (sym h.who) (framed m h.rest.1.0))) in
    absurd (u.no_frame (back_kind m) (back_body m) (flat_map back_frame ms) f h.rest.0)

fault_of : (s : Stream) (messages : List Back) (fault : FrameFault) → Holds s messages → HasFault s.who s.limit s.opening s.left fault → HasFault side.Backend reply_limit false s.left fault
fault_of s messages fault h f =
    subst (λ (b : Bool). HasFault side.Backend reply_limit b s.left fault) h.opening
    (subst (λ (n : ℕ). HasFault side.Backend n s.opening s.left fault) h.limit (subst (λ (w : Side). HasFault w s.limit s.opening s.left fault) h.who f))

pub no_fault : (s : Stream) (messages : List Back) (fault : FrameFault) → Holds s messages → HasFault s.who s.limit s.opening s.left fault → ⊥
no_fault s [] fault h f = subst (λ (xs : List ℕ). HasFault side.Backend reply_limit false xs fault) h.rest.0 (fault_of s [] fault h f)
no_fault s (m ∷ ms) fault h f =
    fault_is_no_frame side.Backend reply_limit false s.left fault (back_kind m) (back_body m) (flat_map back_frame ms) (fault_of s (m ∷ ms) fault h f) (framed m h.rest.1.0) h.rest.0

-- ---- the answers of the code's calls

pub gave : (s t : Stream) (found : Option Frame) (frame : Frame) → found ≡ Some frame → Gives s (Ok found) t → GivesFrame s frame t
gave s t found frame e h = subst (λ (o : Option Frame). Gives s (Ok o) t) e h

pub gave_none : (s t : Stream) (found : Option Frame) (messages : List Back) → found ≡ None → Gives s (Ok found) t → Holds s messages → NextIs None messages t
gave_none s t found messages e g h = none_left s t messages (subst (λ (o : Option Frame). Gives s (Ok o) t) e g).0 h

pub gave_fault : (s t : Stream) (messages : List Back) (why : NextFault) (offset : ℕ) (fault : FrameFault) → why ≡ next.Frame offset fault → Gives s (Err why) t → Holds s messages → ⊥
gave_fault s t messages why offset fault e g h = no_fault s messages fault h (subst (λ (w : NextFault). Gives s (Err w) t) e g).1

pub unread : (why : ReadBody) (offset : ℕ) (kind : ℕ) (body : List ℕ) (messages : List Back) (t : Stream) → why ≡ read.BodyFault offset → First kind body messages t → ((m : Back) → SpellsBack kind body m → ReadsAs (Err why) m) → ⊥
unread why offset kind body messages t e f only = subst (λ (w : ReadBody). ReadsAs (Err w) f.message) e (only f.message f.spelled)

-- ---- a reply as far as it was shown

module _ (show : Back → Back) where
  shown_bytes : (done left : List Back) → reply_bytes (map show (done ++ left)) ≡ reply_bytes (map show done) ++ reply_bytes (map show left)
  shown_bytes [] left = refl
  shown_bytes (m ∷ done) left = ap (λ (xs : List ℕ). back_frame (show m) ++ xs) (shown_bytes done left) ∙ sym (append_assoc (back_frame (show m)) (reply_bytes (map show done)) (reply_bytes (map show left)))

  pub begins : (reply : List ℕ) (s : Stream) (old : Option (List ℕ)) (messages : List Back) → s ≡ fed (new_stream side.Backend reply_limit) reply → IsReply reply messages → Shown show s messages old old
  begins reply s old messages e h = record {
    done = [];
    left = messages;
    parts = refl;
    holds = record { who = ap (λ (u : Stream). u.who) e; limit = ap (λ (u : Stream). u.limit) e; opening = ap (λ (u : Stream). u.opening) e; rest = (ap (λ (u : Stream). u.left) e ∙ h.0, h.1) };
    sent = grew_nothing old;
  }

  -- a list of which the first message is known
  pub record Next (s t : Stream) (messages : List Back) (old mid : Option (List ℕ)) (message : Back) : Type 0 where
    pub done : List Back
    pub others : List Back
    pub parts : messages ≡ done ++ message ∷ others
    pub holds : Holds t others
    pub sent : Grew old mid (reply_bytes (map show done))
    pub before : s.left ≡ back_frame message ++ t.left

  next_of : (s t : Stream) (done left : List Back) (old mid : Option (List ℕ)) (message : Back) → Holds s left → Grew old mid (reply_bytes (map show done)) → NextIs (Some message) left t → Next s t (done ++ left) old mid message
  next_of s t done [] old mid message h g n = absurd n
  next_of s t done (m ∷ ms) old mid message h g n = record {
    done = done;
    others = ms;
    parts = ap (λ (x : Back). done ++ x ∷ ms) (sym n.0);
    holds = n.1;
    sent = g;
    before = h.rest.0 ∙ ap (λ (x : Back). back_frame x ++ flat_map back_frame ms) (sym n.0) ∙ ap (λ (xs : List ℕ). back_frame message ++ xs) (sym n.1.rest.0);
  }

  pub next_shown : (s t : Stream) (messages : List Back) (old mid : Option (List ℕ)) (found : Option Back) (message : Back) → Shown show s messages old mid → found ≡ Some message → ((ms : List Back) → Holds s ms → NextIs found ms t) →
      Next s t messages old mid message
  next_shown s t messages old mid found message h e n =
      subst (λ (ms : List Back). Next s t ms old mid message) (sym h.parts) (next_of s t h.done h.left old mid message h.holds h.sent (subst (λ (o : Option Back). NextIs o h.left t) e (n h.left h.holds)))

  pub one_more : (s t : Stream) (messages : List Back) (old mid new : Option (List ℕ)) (message : Back) → Next s t messages old mid message → Grew mid new (back_frame (show message)) → Shown show t messages old new
  one_more s t messages old mid new message n g = record {
    done = n.done ++ message ∷ [];
    left = n.others;
    parts = n.parts ∙ sym (append_assoc n.done (message ∷ []) n.others);
    holds = n.holds;
    sent = subst (λ (xs : List ℕ). Grew old new xs) (ap (λ (xs : List ℕ). reply_bytes (map show n.done) ++ xs) (sym (append-nil (back_frame (show message)))) ∙ sym (shown_bytes n.done (message ∷ []))) (grew_then old mid new _ _ n.sent g);
  }

  pub breaks : (s t : Stream) (messages : List Back) (old mid new : Option (List ℕ)) (message : Back) → Next s t messages old mid message → SentFront mid new (back_frame (show message)) → SentFront old new (reply_bytes (map show messages))
  breaks s t messages old mid new message n f =
      let front = reply_bytes (map show n.done) in
      let rest = reply_bytes (map show n.others) in (
        front ++ f.0,
        f.1 ++ rest,
        append_assoc front f.0 (f.1 ++ rest) ∙ ap (λ (xs : List ℕ). front ++ xs) (sym (append_assoc f.0 f.1 rest) ∙ ap (λ (xs : List ℕ). xs ++ rest) f.2)
            ∙ sym (shown_bytes n.done (message ∷ n.others)) ∙ ap (λ (ms : List Back). reply_bytes (map show ms)) (sym n.parts),
        grew_then old mid new front f.0 n.sent f.3,
      )

  pub stopped : (s : Stream) (messages : List Back) (old new : Option (List ℕ)) → Shown show s messages old new → SentFront old new (reply_bytes (map show messages))
  stopped s messages old new h = (
    reply_bytes (map show h.done),
    reply_bytes (map show h.left),
    sym (shown_bytes h.done h.left) ∙ ap (λ (ms : List Back). reply_bytes (map show ms)) (sym h.parts),
    h.sent,
  )

  all_done : (done left : List Back) (t : Stream) (old new : Option (List ℕ)) → Grew old new (reply_bytes (map show done)) → NextIs None left t → Grew old new (reply_bytes (map show (done ++ left)))
  all_done done [] t old new g n = subst (λ (ms : List Back). Grew old new (reply_bytes (map show ms))) (sym (append-nil done)) g
  all_done done (m ∷ ms) t old new g n = absurd n

  pub ended : (s t : Stream) (messages : List Back) (old new : Option (List ℕ)) (found : Option Back) → Shown show s messages old new → found ≡ None → ((ms : List Back) → Holds s ms → NextIs found ms t) → Grew old new (reply_bytes (map show messages))
  ended s t messages old new found h e n =
      subst (λ (ms : List Back). Grew old new (reply_bytes (map show ms))) (sym h.parts) (all_done h.done h.left t old new h.sent (subst (λ (o : Option Back). NextIs o h.left t) e (n h.left h.holds)))

  pub smaller : (s t : Stream) (messages : List Back) (old mid : Option (List ℕ)) (message : Back) → Next s t messages old mid message → length t.left < length s.left
  smaller s t messages old mid message n = omega (arith, ap length n.before, length-append (back_frame message) t.left, frame_length (back_kind message) (back_body message))

-- nothing was sent
pub nothing_sent : (held : Option (List ℕ)) (bytes : List ℕ) → SentFront held held bytes
nothing_sent held bytes = ([], bytes, refl, grew_nothing held)

-- what was sent, by bytes that are equal
pub sent_as : {T E : Type 0} (old new : Option (List ℕ)) (result : Result T E) (bytes all : List ℕ) → bytes ≡ all → Sends old new result bytes → Sends old new result all
sent_as old new result bytes all e h = subst (λ (xs : List ℕ). Sends old new result xs) e h

-- an error, before anything was sent
pub failed_sends : {T E : Type 0} (old : Option (List ℕ)) (result : Result T E) (all : List ℕ) → IsErr result → Sends old old result all
failed_sends old (Ok t) all h = absurd cc
failed_sends old (Err e) all h = ([], all, refl, grew_nothing old)

-- a front of the bytes was sent
pub front_sent : (old new : Option (List ℕ)) (bytes all : List ℕ) (n : ℕ) → bytes ≡ all → Grew old new (take n bytes) → SentFront old new all
front_sent old new bytes all n e g = (take n bytes, drop n bytes, take-append-drop n bytes ∙ e, g)
