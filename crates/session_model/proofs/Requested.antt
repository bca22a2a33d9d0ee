-- A request in its place is a frame there that spells a message which has its place there.
use Rattle.std.proofs.Common.{◌≡◌, true, refl, lit≤, lit<}
use Rattle.pg_wire.specs.declared.frame.Side.TheVariants as side
use Rattle.pg_wire.specs.Frames.{IsFrame}
use Rattle.pg_wire.specs.Fronts.{IsFront, front_kind, front_body}
use Rattle.session_model.specs.declared.encryption.Encryption.{Encryption}
use Rattle.session_model.specs.declared.encryption.Encryption.TheVariants as encryption
use Rattle.session_model.specs.Requests.{Request, Phase, IsSaid, asking, message_of, message_limit, is_opening}
use Rattle.session_model.specs.BadMessages.{is_placed}

asking_frame : (how : Encryption) → IsFrame side.Client message_limit true (front_kind (asking how)) (front_body (asking how))
asking_frame encryption.Tls = (refl, lit≤ tt, lit≤ tt)
asking_frame encryption.Gss = (refl, lit≤ tt, lit≤ tt)

asking_spells : (how : Encryption) → IsFront (asking how)
asking_spells encryption.Tls = tt
asking_spells encryption.Gss = tt

asking_placed : (how : Encryption) → is_placed (asking how) Phase.Opening ≡ true
asking_placed encryption.Tls = refl
asking_placed encryption.Gss = refl

pub said_frame : (p : Phase) (r : Request) → IsSaid p r → IsFrame side.Client message_limit (is_opening p) (front_kind (message_of r)) (front_body (message_of r))
said_frame Phase.Opening (Request.Encrypts how) h = asking_frame how
said_frame Phase.Opening (Request.Opens params) h = h.1
said_frame Phase.Opening (Request.Asks text tree) h = absurd h
said_frame Phase.Opening (Request.Empties text) h = absurd h
said_frame Phase.Opening (Request.Refused text cause) h = absurd h
said_frame Phase.Opening Request.Leaves h = absurd h
said_frame Phase.Serving (Request.Encrypts how) h = absurd h
said_frame Phase.Serving (Request.Opens params) h = absurd h
said_frame Phase.Serving (Request.Asks text tree) h = h.framed
said_frame Phase.Serving (Request.Empties text) h = h.framed
said_frame Phase.Serving (Request.Refused text cause) h = h.framed
said_frame Phase.Serving Request.Leaves h = (refl, lit≤ tt, lit< tt)
said_frame Phase.Over (Request.Encrypts how) h = absurd h
said_frame Phase.Over (Request.Opens params) h = absurd h
said_frame Phase.Over (Request.Asks text tree) h = absurd h
said_frame Phase.Over (Request.Empties text) h = absurd h
said_frame Phase.Over (Request.Refused text cause) h = absurd h
said_frame Phase.Over Request.Leaves h = absurd h

pub said_spells : (p : Phase) (r : Request) → IsSaid p r → IsFront (message_of r)
said_spells Phase.Opening (Request.Encrypts how) h = asking_spells how
said_spells Phase.Opening (Request.Opens params) h = h.0
said_spells Phase.Opening (Request.Asks text tree) h = absurd h
said_spells Phase.Opening (Request.Empties text) h = absurd h
said_spells Phase.Opening (Request.Refused text cause) h = absurd h
said_spells Phase.Opening Request.Leaves h = absurd h
said_spells Phase.Serving (Request.Encrypts how) h = absurd h
said_spells Phase.Serving (Request.Opens params) h = absurd h
said_spells Phase.Serving (Request.Asks text tree) h = h.no_zero
said_spells Phase.Serving (Request.Empties text) h = h.no_zero
said_spells Phase.Serving (Request.Refused text cause) h = h.no_zero
said_spells Phase.Serving Request.Leaves h = tt
said_spells Phase.Over (Request.Encrypts how) h = absurd h
said_spells Phase.Over (Request.Opens params) h = absurd h
said_spells Phase.Over (Request.Asks text tree) h = absurd h
said_spells Phase.Over (Request.Empties text) h = absurd h
said_spells Phase.Over (Request.Refused text cause) h = absurd h
said_spells Phase.Over Request.Leaves h = absurd h

pub said_placed : (p : Phase) (r : Request) → IsSaid p r → is_placed (message_of r) p ≡ true
said_placed Phase.Opening (Request.Encrypts how) h = asking_placed how
said_placed Phase.Opening (Request.Opens params) h = refl
said_placed Phase.Opening (Request.Asks text tree) h = absurd h
said_placed Phase.Opening (Request.Empties text) h = absurd h
said_placed Phase.Opening (Request.Refused text cause) h = absurd h
said_placed Phase.Opening Request.Leaves h = absurd h
said_placed Phase.Serving (Request.Encrypts how) h = absurd h
said_placed Phase.Serving (Request.Opens params) h = absurd h
said_placed Phase.Serving (Request.Asks text tree) h = refl
said_placed Phase.Serving (Request.Empties text) h = refl
said_placed Phase.Serving (Request.Refused text cause) h = refl
said_placed Phase.Serving Request.Leaves h = refl
said_placed Phase.Over (Request.Encrypts how) h = absurd h
said_placed Phase.Over (Request.Opens params) h = absurd h
said_placed Phase.Over (Request.Asks text tree) h = absurd h
said_placed Phase.Over (Request.Empties text) h = absurd h
said_placed Phase.Over (Request.Refused text cause) h = absurd h
said_placed Phase.Over Request.Leaves h = absurd h
