-- The headline: what a client is sent, by the bytes that it sent.
use Rattle.std.specs.Prelude.{ℕ, ◌≡◌, ◌+◌, ◌^◌, ◌≤◌, ◌⊎◌, Option, Some, List, [], ◌++◌, length}
use Rattle.std.specs.List.{flat_map}
use Rattle.pg_wire.specs.declared.frame.MessageFault.{MessageFault}
use Rattle.session_model.specs.Requests.{Request, Phase, phase_after_all, AreSaid, request_bytes, stream_of, Splits}
use Rattle.session_model.specs.BadMessages.{IsBad, IsCut}
use Rattle.lab_session.specs.Runs.{started, answers}
use Rattle.lab_session.specs.ClientKey.{client_drawn}
use Rattle.lab_session.specs.declared.status.Status.{Status}
use Rattle.lab_session.specs.declared.status.Status.TheVariants as ends

-- where a source and a sink tell their content before and after
abbrev pub WhereTold : Option (List ℕ) → Option (List ℕ) → Option (List ℕ) → Option (List ℕ) → (List ℕ → List ℕ → List ℕ → List ℕ → Type 0) → Type 0
WhereTold (Some client) (Some unread) (Some before) (Some after) P = P client unread before after
WhereTold left unread before after P = Unit {0}

-- the replies to a client's requests under a seed
abbrev pub replies_to : List ℕ → ℕ → List Request → List ℕ
replies_to name seed requests = let drawn = client_drawn name seed in answers drawn.0 (started drawn.1) requests

-- the input is whole requests, or goes on behind the end of the session
abbrev pub IsOver : List Request → List ℕ → Type 0
IsOver requests rest = (rest ≡ []) ⊎ (phase_after_all Phase.Opening requests ≡ Phase.Over)

module _ (name : List ℕ) (seed : ℕ) where
  -- all requests are answered
  pub record AllAnswered (client before after : List ℕ) : Type 0 where
    pub requests : List Request
    pub rest : List ℕ
    pub parts : Splits client requests rest
    pub over : IsOver requests rest
    pub sent : after ≡ before ++ replies_to name seed requests

  -- a bad message stands at this offset: the requests before it are answered
  pub record AnsweredTo (offset : ℕ) (kind : MessageFault) (client before after : List ℕ) : Type 0 where
    pub requests : List Request
    pub rest : List ℕ
    pub parts : Splits client requests rest
    pub left : IsOver requests rest → ⊥
    pub bad : IsBad (phase_after_all Phase.Opening requests) rest kind
    pub place : offset ≡ length (flat_map request_bytes requests)
    pub sent : after ≡ before ++ replies_to name seed requests

  -- the input ends at this offset, inside a message: the requests before it are answered
  pub record AnsweredCut (offset : ℕ) (client before after : List ℕ) : Type 0 where
    pub requests : List Request
    pub rest : List ℕ
    pub parts : Splits client requests rest
    pub left : IsOver requests rest → ⊥
    pub cut : IsCut (phase_after_all Phase.Opening requests) rest
    pub place : offset ≡ length client
    pub sent : after ≡ before ++ replies_to name seed requests

  -- the requests from the front on are answered, each of them whole
  pub record AnsweredRead (client unread before after : List ℕ) : Type 0 where
    pub requests : List Request
    pub rest : List ℕ
    pub whole : client ≡ stream_of requests rest ++ unread
    pub each : AreSaid Phase.Opening requests
    pub sent : after ≡ before ++ replies_to name seed requests

  -- so many bytes were read
  pub record AnsweredSpent (client unread before after : List ℕ) : Type 0 where
    pub answered : AnsweredRead client unread before after
    pub spent : length client ≡ 2 ^ 48 + length unread

  -- all requests but the last are answered whole, and the last of them in part
  pub record AnsweredFront (client unread before after : List ℕ) : Type 0 where
    pub answered : List Request
    pub begun : List Request
    pub rest : List ℕ
    pub whole : client ≡ stream_of (answered ++ begun) rest ++ unread
    pub each : AreSaid Phase.Opening (answered ++ begun)
    pub one : length begun ≤ 1
    -- what was sent of the last reply, and what was not
    pub behind : List ℕ
    pub more : List ℕ
    pub replies : replies_to name seed answered ++ behind ++ more ≡ replies_to name seed (answered ++ begun)
    pub sent : after ≡ before ++ (replies_to name seed answered ++ behind)

  abbrev pub Headline : Status → List ℕ → List ℕ → List ℕ → List ℕ → Type 0
  Headline ends.Done client unread before after = AllAnswered client before after
  Headline (ends.BadClient offset kind) client unread before after = AnsweredTo offset kind client before after
  Headline (ends.ClientCut offset) client unread before after = AnsweredCut offset client before after
  Headline ends.Usage client unread before after = ⊥
  Headline ends.ReadFault client unread before after = AnsweredRead client unread before after
  Headline ends.Spent client unread before after = AnsweredSpent client unread before after
  Headline ends.WriteFault client unread before after = AnsweredFront client unread before after
  Headline ends.NoMemory client unread before after = AnsweredFront client unread before after

  -- what is due, where the input is these requests and then what begins with none
  abbrev pub Due : Status → List Request → List ℕ → List ℕ → List ℕ → Type 0
  Due ends.Done requests rest before after = IsOver requests rest × (after ≡ before ++ replies_to name seed requests)
  Due (ends.BadClient offset kind) requests rest before after =
      (IsOver requests rest → ⊥) × IsBad (phase_after_all Phase.Opening requests) rest kind × (offset ≡ length (flat_map request_bytes requests)) × (after ≡ before ++ replies_to name seed requests)
  Due (ends.ClientCut offset) requests rest before after =
      (IsOver requests rest → ⊥) × IsCut (phase_after_all Phase.Opening requests) rest × (offset ≡ length (stream_of requests rest)) × (after ≡ before ++ replies_to name seed requests)
  Due status requests rest before after = Unit {0}

  abbrev pub IsDue : Status → List ℕ → List ℕ → List ℕ → List ℕ → Type 0
  IsDue status client unread before after = (requests : List Request) (rest : List ℕ) → Splits client requests rest → Due status requests rest before after

-- nothing was read or written
abbrev pub Untouched : List ℕ → List ℕ → List ℕ → List ℕ → Type 0
Untouched client unread before after = (unread ≡ client) × (after ≡ before)
