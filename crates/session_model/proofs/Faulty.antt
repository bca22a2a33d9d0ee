-- A bad message has one fault, which stays, and is no request.
use Rattle.std.proofs.Common.{◌≡◌, ℕ, true, false, List, ◌++◌, refl, sym, ap, ◌∙◌, append_assoc}
use Rattle.pg_wire.specs.declared.front.Front.{Front}
use Rattle.pg_wire.specs.declared.frame.FrameFault.{FrameFault}
use Rattle.pg_wire.specs.declared.frame.MessageFault.{MessageFault}
use Rattle.pg_wire.specs.declared.frame.MessageFault.TheVariants as message
use Rattle.pg_wire.specs.declared.frame.Side.TheVariants as side
use Rattle.pg_wire.specs.Frames.{frame_bytes, HasFault}
use Rattle.pg_wire.specs.Fronts.{front_kind, front_body}
use Rattle.pg_wire.proofs.FrameLaws.{one_frame, fault_is_no_frame, fault_stays, one_fault}
use Rattle.pg_wire.proofs.OneMessage.{one_front}
use Rattle.session_model.specs.Requests.{Request, Phase, IsSaid, NoRequest, message_of, message_limit, is_opening}
use Rattle.session_model.specs.BadMessages.{StandsFirst, is_placed, IsBad, IsCut}
use Rattle.session_model.proofs.Requested.{said_frame, said_spells, said_placed}

module _ (phase : Phase) (bytes : List ℕ) where
  abbrev Stands : ℕ → List ℕ → Type 0
  Stands kind body = StandsFirst phase bytes kind body

  same_first : (k j : ℕ) (b c : List ℕ) → Stands k b → Stands j c → (k ≡ j) × (b ≡ c)
  same_first k j b c s t =
      let one = one_frame side.Client message_limit (is_opening phase) k j b c s.rest t.rest s.framed t.framed (sym s.front ∙ t.front) in
      (one.0, one.1)

  framed_faultless : (fault : FrameFault) (k : ℕ) (b : List ℕ) → HasFault side.Client message_limit (is_opening phase) bytes fault → Stands k b → ⊥
  framed_faultless fault k b h s = fault_is_no_frame side.Client message_limit (is_opening phase) bytes fault k b s.rest h s.framed s.front

  -- what spells no message is none that stands first
  bodiless : IsBad phase bytes message.Body → IsBad phase bytes message.Place → ⊥
  bodiless a b =
      let e = same_first a.0 (front_kind b.0) a.1 (front_body b.0) a.2 b.2 in
      a.3 b.0 (b.1, e.0, e.1)

  pub one_bad : (f g : MessageFault) → IsBad phase bytes f → IsBad phase bytes g → f ≡ g
  one_bad (message.Frame f) (message.Frame g) a b = ap (λ (x : FrameFault). message.Frame x) (one_fault side.Client message_limit (is_opening phase) bytes f g a b)
  one_bad (message.Frame f) message.Body a b = absurd (framed_faultless f b.0 b.1 a b.2)
  one_bad (message.Frame f) message.Place a b = absurd (framed_faultless f (front_kind b.0) (front_body b.0) a b.2)
  one_bad (message.Frame f) message.Batch a b = absurd b
  one_bad (message.Frame f) message.Shape a b = absurd b
  one_bad message.Body (message.Frame g) a b = absurd (framed_faultless g a.0 a.1 b a.2)
  one_bad message.Body message.Body a b = refl
  one_bad message.Body message.Place a b = absurd (bodiless a b)
  one_bad message.Body message.Batch a b = absurd b
  one_bad message.Body message.Shape a b = absurd b
  one_bad message.Place (message.Frame g) a b = absurd (framed_faultless g (front_kind a.0) (front_body a.0) b a.2)
  one_bad message.Place message.Body a b = absurd (bodiless b a)
  one_bad message.Place message.Place a b = refl
  one_bad message.Place message.Batch a b = absurd b
  one_bad message.Place message.Shape a b = absurd b
  one_bad message.Batch g a b = absurd a
  one_bad message.Shape g a b = absurd a

  stands_still : (more : List ℕ) (kind : ℕ) (body : List ℕ) → Stands kind body → StandsFirst phase (bytes ++ more) kind body
  stands_still more kind body s = record { rest = s.rest ++ more; framed = s.framed; front = ap (λ (xs : List ℕ). xs ++ more) s.front ∙ append_assoc (frame_bytes kind body) s.rest more }

  pub bad_stays : (more : List ℕ) (f : MessageFault) → IsBad phase bytes f → IsBad phase (bytes ++ more) f
  bad_stays more (message.Frame f) a = fault_stays side.Client message_limit (is_opening phase) bytes more f a
  bad_stays more message.Body a = (a.0, a.1, stands_still more a.0 a.1 a.2, a.3)
  bad_stays more message.Place a = (a.0, a.1, stands_still more (front_kind a.0) (front_body a.0) a.2, a.3)
  bad_stays more message.Batch a = absurd a
  bad_stays more message.Shape a = absurd a

  -- a request that stands first
  request_first : (r : Request) (rest : List ℕ) → IsSaid phase r → bytes ≡ frame_bytes (front_kind (message_of r)) (front_body (message_of r)) ++ rest → Stands (front_kind (message_of r)) (front_body (message_of r))
  request_first r rest is e = record { rest = rest; framed = said_frame phase r is; front = e }

  out_of_place : (m : Front) (r : Request) → m ≡ message_of r → IsSaid phase r → is_placed m phase ≡ false → ⊥
  out_of_place m r e is out = let t : true ≡ false = sym (said_placed phase r is) ∙ ap (λ (x : Front). is_placed x phase) (sym e) ∙ out in absurd cc

  pub bad_says_nothing : (f : MessageFault) → IsBad phase bytes f → NoRequest phase bytes
  bad_says_nothing (message.Frame f) a r rest is e = framed_faultless f (front_kind (message_of r)) (front_body (message_of r)) a (request_first r rest is e)
  bad_says_nothing message.Body a r rest is e =
      let same = same_first a.0 (front_kind (message_of r)) a.1 (front_body (message_of r)) a.2 (request_first r rest is e) in
      a.3 (message_of r) (said_spells phase r is, same.0, same.1)
  bad_says_nothing message.Place a r rest is e =
      let same = same_first (front_kind a.0) (front_kind (message_of r)) (front_body a.0) (front_body (message_of r)) a.2 (request_first r rest is e) in
      out_of_place a.0 r (one_front a.0 (message_of r) a.1 (said_spells phase r is) same.0 same.1) is a.3
  bad_says_nothing message.Batch a r rest is e = absurd a
  bad_says_nothing message.Shape a r rest is e = absurd a

  pub bad_is_uncut : (f : MessageFault) → IsBad phase bytes f → IsCut phase bytes → ⊥
  bad_is_uncut (message.Frame f) a c = c.unfinished.no_fault f a
  bad_is_uncut message.Body a c = c.unfinished.no_frame a.0 a.1 a.2.rest a.2.framed a.2.front
  bad_is_uncut message.Place a c = c.unfinished.no_frame (front_kind a.0) (front_body a.0) a.2.rest a.2.framed a.2.front
  bad_is_uncut message.Batch a c = absurd a
  bad_is_uncut message.Shape a c = absurd a
