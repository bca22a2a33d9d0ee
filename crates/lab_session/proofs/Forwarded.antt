-- The backend executes the request that it is sent, and no other.
use Rattle.std.proofs.Common.{◌≡◌, ℕ, ◌⊎◌, inl, inr, ◌&&◌, Bool, true, false, List, [], ◌++◌, map, Option, Result, Ok, Err, sym, ap, subst, ◌∙◌}
use Rattle.std.specs.List.{flat_map}
use Rattle.std.proofs.lemmas.List.{append-nil}
use Rattle.acra_devices.specs.Known.{Grew}
use Rattle.acra_devices.specs.Grows.{grew_nothing}
use Rattle.pg_wire.specs.declared.front.Front.{Front}
use Rattle.pg_wire.specs.declared.back.Back.{Back}
use Rattle.pg_wire.specs.declared.frame.Side.TheVariants as side
use Rattle.pg_wire.specs.Frames.{IsFrame, asks_encryption}
use Rattle.pg_wire.specs.Fronts.{front_kind, front_body, front_frame}
use Rattle.pg_wire.specs.Backs.{back_frame}
use Rattle.pg_wire.proofs.FrameLaws.{one_frame}
use Rattle.pg_wire.proofs.OneMessage.{one_front}
use Rattle.table_machine.specs.declared.cell.Cell.{Cell}
use Rattle.table_machine.specs.Tables.{Table}
use Rattle.lab_backend.specs.Sessions.{Session, IsRequest, Begins, StandsFirst, session_fed, text_limit}
use Rattle.lab_backend.specs.Backend.{Lab, Replies, Executes, Idles, Fails, ExecuteGives}
use Rattle.session_model.specs.Reply.{reply_bytes}
use Rattle.lab_session.specs.Runs.{session_number}
use Rattle.lab_session.specs.Session.{connection, awaits_startup}
use Rattle.lab_session.specs.Relaying.{IsReply, Sends, IsIdle, CanSend, Breaks, ForwardGives}
use Rattle.lab_session.proofs.Relayed.{nothing_sent}

-- the backend that was idle, and was fed this request
pub record IsFed (lab : Lab) (request : Front) (lab' : Lab) : Type 0 where
  pub idle : IsIdle lab
  pub can : CanSend (awaits_startup lab) request
  pub session : connection lab' ≡ session_fed (connection lab) (front_frame request)
  pub tables : lab'.tables ≡ lab.tables

module _ (lab : Lab) (request : Front) (lab' : Lab) (f : IsFed lab request lab') where
  left_is : (connection lab').stream.left ≡ front_frame request
  left_is = ap (λ (x : Session). x.stream.left) f.session ∙ ap (λ (xs : List ℕ). xs ++ front_frame request) f.idle.idle

  opening_is : awaits_startup lab' ≡ awaits_startup lab
  opening_is = ap (λ (x : Session). x.stream.opening) f.session

  limit_is : (connection lab').stream.limit ≡ text_limit
  limit_is = ap (λ (x : Session). x.stream.limit) f.session ∙ f.idle.limit

  framed : IsFrame side.Client (connection lab').stream.limit (awaits_startup lab') (front_kind request) (front_body request)
  framed =
      subst (λ (b : Bool). IsFrame side.Client (connection lab').stream.limit b (front_kind request) (front_body request)) (sym opening_is)
      (subst (λ (n : ℕ). IsFrame side.Client n (awaits_startup lab) (front_kind request) (front_body request)) (sym limit_is) f.can.framed)

  -- a request that stands first is this one, and nothing follows it
  first_is : (other : Front) (rest : List ℕ) → StandsFirst (connection lab') other rest → (other ≡ request) × (rest ≡ [])
  first_is other rest s =
      let begins = s.begins in
      let whole : front_frame other ++ rest ≡ front_frame request ++ [] = sym begins.front ∙ left_is ∙ sym (append-nil (front_frame request)) in
      let one = one_frame side.Client (connection lab').stream.limit (awaits_startup lab') (front_kind other) (front_kind request) (front_body other) (front_body request) rest [] begins.framed framed whole in
      (one_front other request begins.spelled f.can.spelled one.0 one.1, one.2)

  stands : StandsFirst (connection lab') request []
  stands = record {
    goes_on = ap (λ (x : Session). x.over) f.session ∙ f.idle.goes_on;
    begins = record {
      placed = subst (λ (b : Bool). IsRequest b request) (sym opening_is) f.can.placed;
      spelled = f.can.spelled;
      framed = framed;
      front = left_is ∙ sym (append-nil (front_frame request));
    };
  }

  pub never_idles : (after : Lab) (old new : List ℕ) → Idles session_number lab' after old new → ⊥
  never_idles after old new i = i.none request [] stands

  replies_as : (other : Front) (messages : List Back) (after : Lab) → other ≡ request → Replies session_number other lab'.tables messages after.tables → Replies session_number request lab.tables messages after.tables
  replies_as other messages after e r =
      subst (λ (q : Front). Replies session_number q lab.tables messages after.tables) e
      (subst (λ (ts : List (Table Cell)). Replies session_number other ts messages after.tables) f.tables r)

  -- the reply that was made of this request
  pub record MakesReply (after : Lab) (reply : List ℕ) : Type 0 where
    pub messages : List Back
    pub replies : Replies session_number request lab.tables messages after.tables
    pub is : IsReply reply messages
    pub idle : IsIdle after
    pub opening : awaits_startup after ≡ (awaits_startup lab && asks_encryption (front_body request))

  pub makes_reply : (after : Lab) (old reply : List ℕ) → old ≡ [] → Executes session_number lab' after old reply → MakesReply after reply
  makes_reply after old reply eo x =
      let one = first_is x.request x.rest x.first in
      let session = x.session in
      record {
        messages = x.messages;
        replies = replies_as x.request x.messages after one.0 x.replied;
        is = (x.reply ∙ ap (λ (xs : List ℕ). xs ++ flat_map back_frame x.messages) eo, x.writable);
        idle = record {
          goes_on = ap (λ (y : Session). y.over) session ∙ ap (λ (y : Session). y.over) f.session ∙ f.idle.goes_on;
          who = ap (λ (y : Session). y.stream.who) session ∙ ap (λ (y : Session). y.stream.who) f.session ∙ f.idle.who;
          limit = ap (λ (y : Session). y.stream.limit) session ∙ limit_is;
          idle = ap (λ (y : Session). y.stream.left) session ∙ one.1;
        };
        opening = ap (λ (y : Session). y.stream.opening) session ∙ ap (λ (b : Bool). b && asks_encryption (front_body x.request)) opening_is ∙ ap (λ (q : Front). awaits_startup lab && asks_encryption (front_body q)) one.0;
      }

  pub forwards : {T E : Type 0} (show : Back → Back) (after : Lab) (reply : List ℕ) (old new : Option (List ℕ)) (result : Result T E) → MakesReply after reply → ((messages : List Back) → IsReply reply messages → Sends old new result (reply_bytes (map show messages)))
      → ForwardGives show lab request result after old new
  forwards show after reply old new (Ok t) m sends = record { messages = m.messages; replies = m.replies; idle = m.idle; opening = m.opening; sent = sends m.messages m.is }
  forwards show after reply old new (Err e) m sends = inr (record { messages = m.messages; replies = m.replies; sent = sends m.messages m.is })

  pub fails : (show : Back → Back) (after : Lab) (old new : List ℕ) (held : Option (List ℕ)) → Fails session_number lab' after old new → ((after.tables ≡ lab.tables) × Grew held held []) ⊎ Breaks show lab request after held held
  fails show after old new held x =
      elim x.tables [
        | inl same ↦ inl (same ∙ f.tables, grew_nothing held)
        | inr b ↦
            inr (record {
              messages = b.messages;
              replies = replies_as b.request b.messages after (first_is b.request b.rest b.first).0 b.replied;
              sent = nothing_sent held (reply_bytes (map show b.messages));
            })
      ]

pub is_fed : (lab : Lab) (request : Front) (lab' : Lab) (start written shown : List ℕ) → IsIdle lab → CanSend (awaits_startup lab) request → start ≡ [] → written ≡ start ++ front_frame request → shown ≡ written
    → connection lab' ≡ session_fed (connection lab) shown → lab'.tables ≡ lab.tables → IsFed lab request lab'
is_fed lab request lab' start written shown idle can e0 e1 e2 session tables = record {
  idle = idle;
  can = can;
  session = session ∙ ap (λ (xs : List ℕ). session_fed (connection lab) xs) (e2 ∙ e1 ∙ ap (λ (xs : List ℕ). xs ++ front_frame request) e0);
  tables = tables;
}

pub when_true : (E : Type 0) (lab after : Lab) (old new : List ℕ) (b : Bool) → b ≡ true → ExecuteGives {E = E} session_number lab (Ok b) after old new → Executes session_number lab after old new
when_true E lab after old new b e h = subst (λ (x : Bool). ExecuteGives {E = E} session_number lab (Ok x) after old new) e h

pub when_false : (E : Type 0) (lab after : Lab) (old new : List ℕ) (b : Bool) → b ≡ false → ExecuteGives {E = E} session_number lab (Ok b) after old new → Idles session_number lab after old new
when_false E lab after old new b e h = subst (λ (x : Bool). ExecuteGives {E = E} session_number lab (Ok x) after old new) e h
