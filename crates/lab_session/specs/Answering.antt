-- What a client asks next, and what answering it does.
use Rattle.std.specs.Prelude.{ℕ, ◌≡◌, ◌⊎◌, Bool, true, false, Option, Result, Ok, Err, List, [], ◌∷◌, ◌++◌}
use Rattle.rand_chacha.specs.ChaCha.{ChaCha}
use Rattle.acra_devices.specs.Known.{Grew}
use Rattle.pg_wire.specs.declared.front.Front.TheVariants as fronts
use Rattle.pg_wire.specs.Streams.{Stream, behind}
use Rattle.pg_wire.specs.Frames.{IsFrame, IsUnfinished}
use Rattle.pg_wire.specs.declared.frame.Side.TheVariants as side
use Rattle.pg_wire.specs.Fronts.{IsFront, front_kind, front_body}
use Rattle.lab_backend.specs.Backend.{Lab}
use Rattle.session_model.specs.Requests.{Request, Phase, phase_after, is_opening, IsSaid, message_of, request_bytes, message_limit}
use Rattle.session_model.specs.Meanings.{has_short_strings}
use Rattle.session_model.specs.BadMessages.{IsBad}
use Rattle.session_model.specs.Standing.{StandFor}
use Rattle.acra_block.specs.Keys.{Key}
use Rattle.keystore.specs.Rings.{RingState}
use Rattle.lab_session.specs.Cells.{IsStored}
use Rattle.lab_session.specs.Runs.{State, cell_for, drawn_for, state_after, answer}
use Rattle.hex.specs.Hex.{IsBytes}
use Rattle.sql_tree.specs.declared.statement.Statement.{Statement}
use Rattle.sql_tree.specs.Canonical.{canon}
use Rattle.session_model.specs.Served.{IsServed}
use Rattle.session_model.specs.Rewritten.{written, rewritten, protected_of}
use Rattle.lab_session.specs.declared.plan.Plan.{Plan}
use Rattle.lab_session.specs.Session.{Rests, SentFront}
use Rattle.lab_session.specs.Leases.{after_leases}
use Rattle.lab_session.specs.declared.said.Said.{Said}
use Rattle.lab_session.specs.declared.said.Said.TheVariants as said
use Rattle.lab_session.specs.declared.said.Next.{Next}
use Rattle.lab_session.specs.declared.said.Next.TheVariants as next

-- the request that was understood so; the text of a statement is no longer known
abbrev pub request_of : List ℕ → Said → Request
request_of text (said.Encrypts how) = Request.Encrypts how
request_of text (said.Opens params) = Request.Opens params
request_of text (said.Asks tree) = Request.Asks text tree
request_of text said.Empties = Request.Empties text
request_of text (said.Refused cause) = Request.Refused text cause

-- before the startup message, or after it
abbrev pub phase_of : Bool → Phase
phase_of true = Phase.Opening
phase_of false = Phase.Serving

-- whether a startup packet is awaited behind a request
abbrev pub awaits_after : Bool → Request → Bool
awaits_after awaits r = is_opening (phase_after (phase_of awaits) r)

-- ---- reading

-- a request in its place stands first, and was taken
pub record Takes (s : Stream) (r : Request) (t : Stream) : Type 0 where
  pub rest : List ℕ
  pub placed : IsSaid (phase_of s.opening) r
  pub front : s.left ≡ request_bytes r ++ rest
  pub after : t ≡ behind s (front_kind (message_of r)) (front_body (message_of r)) rest

-- what stands first in a client's stream
abbrev pub NextGives : {E : Type 0} → Stream → Result Next E → Stream → Type 0
NextGives s (Ok (next.Said what)) t = (text : List ℕ) × Takes s (request_of text what) t
NextGives s (Ok next.Leaves) t = Takes s Request.Leaves t
NextGives s (Ok (next.Bad offset kind)) t = (offset ≡ s.offset) × IsBad (phase_of s.opening) s.left kind
NextGives s (Ok next.Waiting) t = IsUnfinished side.Client message_limit (is_opening (phase_of s.opening)) s.left × (t ≡ s)
NextGives s (Err e) t = Unit {0}

-- ---- a statement as it is sent on

-- the text that is sent for a statement
abbrev pub sent_text : Key → ChaCha → Statement → List ℕ
sent_text keys g tree = canon (rewritten (cell_for keys g (written tree)) tree)

-- the request for a statement, the protected columns of its result, and the generator then
pub record IsPlan (keys : Key) (g g' : ChaCha) (tree : Statement) (plan : Plan) : Type 0 where
  pub request : plan.request ≡ fronts.Query (sent_text keys g tree)
  pub protected : plan.protected.items ≡ protected_of tree
  pub bytes : IsBytes (cell_for keys g (written tree))
  pub drawn : g' ≡ drawn_for g (written tree)

-- ---- answering

-- what may be answered now
abbrev pub CanAnswer : Bool → Said → Type 0
CanAnswer opening (said.Encrypts how) = opening ≡ true
CanAnswer opening (said.Opens params) = (opening ≡ true) × IsFront (fronts.Startup params) × IsFrame side.Client message_limit true 0 (front_body (fronts.Startup params))
CanAnswer opening (said.Asks tree) = (opening ≡ false) × IsServed tree × (has_short_strings tree ≡ true)
CanAnswer opening said.Empties = opening ≡ false
CanAnswer opening (said.Refused cause) = opening ≡ false

-- the request was executed and its reply sent
pub record Answered (keys : Key) (awaits : Bool) (s : State) (r : Request) (g : ChaCha) (lab : Lab) (old new : Option (List ℕ)) : Type 0 where
  pub rests : Rests keys lab (state_after keys s r) (awaits_after awaits r)
  pub drawn : g ≡ (state_after keys s r).coming
  pub sent : Grew old new (answer keys s r)

-- the request was executed or not, and a front of its reply sent
pub record Broken (keys : Key) (s : State) (r : Request) (lab : Lab) (old new : Option (List ℕ)) : Type 0 where
  pub stand : StandFor (IsStored keys) lab.tables s.tables ⊎ StandFor (IsStored keys) lab.tables (state_after keys s r).tables
  pub sent : SentFront old new (answer keys s r)

abbrev pub AnswerGives : {T E : Type 0} → Key → Bool → State → Request → Result T E → ChaCha → Lab → Option (List ℕ) → Option (List ℕ) → Type 0
AnswerGives keys awaits s r (Ok t) g lab old new = Answered keys awaits s r g lab old new
AnswerGives keys awaits s r (Err e) g lab old new = Broken keys s r lab old new

-- ---- answering under a lease

-- the keys weren't lent for want of memory, so nothing was begun
pub record Unbegun (ring ring' : RingState) (lab lab' : Lab) (old new : Option (List ℕ)) : Type 0 where
  pub ring_is : ring' ≡ ring
  pub lab_is : lab' ≡ lab
  pub sent : new ≡ old

-- what an answer does, and what is left of the ring
abbrev pub ServeGives : {T E : Type 0} → Key → Bool → State → Request → Result T E → ChaCha → RingState → RingState → Lab → Lab → Option (List ℕ) → Option (List ℕ) → Type 0
ServeGives keys awaits s r (Ok t) g ring ring' lab lab' old new = Answered keys awaits s r g lab' old new × (ring' ≡ after_leases ring (r ∷ []))
ServeGives keys awaits s r (Err e) g ring ring' lab lab' old new =
    Unbegun ring ring' lab lab' old new ⊎ (Broken keys s r lab' old new × (ring' ≡ after_leases ring (r ∷ [])))
