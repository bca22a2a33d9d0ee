-- What a frame of the client asks.
use Rattle.std.specs.Prelude.{ℕ, ◌≡◌, false, List}
use Rattle.pg_wire.specs.declared.front.Front.{Front}
use Rattle.pg_wire.specs.declared.front.Front.TheVariants as fronts
use Rattle.pg_wire.specs.declared.frame.MessageFault.TheVariants as message
use Rattle.pg_wire.specs.Reading.{SpellsFront}
use Rattle.session_model.specs.declared.meaning.Meaning.TheVariants as meaning
use Rattle.session_model.specs.Meanings.{Means}
use Rattle.session_model.specs.Requests.{Phase, asking}
use Rattle.session_model.specs.BadMessages.{is_placed}
use Rattle.lab_session.specs.declared.said.Said.TheVariants as said
use Rattle.lab_session.specs.declared.said.Next.{Next}
use Rattle.lab_session.specs.declared.said.Next.TheVariants as next

-- what a frame at this offset asks
abbrev pub IsUnderstood : ℕ → ℕ → List ℕ → Next → Type 0
IsUnderstood place kind body (next.Said (said.Encrypts how)) = SpellsFront kind body (asking how)
IsUnderstood place kind body (next.Said (said.Opens params)) = SpellsFront kind body (fronts.Startup params)
IsUnderstood place kind body (next.Said (said.Asks tree)) = (text : List ℕ) × SpellsFront kind body (fronts.Query text) × Means text (meaning.Serves tree)
IsUnderstood place kind body (next.Said said.Empties) = (text : List ℕ) × SpellsFront kind body (fronts.Query text) × Means text meaning.Nothing
IsUnderstood place kind body (next.Said (said.Refused cause)) = (text : List ℕ) × SpellsFront kind body (fronts.Query text) × Means text (meaning.Refused cause)
IsUnderstood place kind body next.Leaves = SpellsFront kind body fronts.Terminate
IsUnderstood place kind body (next.Bad offset message.Body) = (offset ≡ place) × ((m : Front) → SpellsFront kind body m → ⊥)
IsUnderstood place kind body (next.Bad offset message.Place) = (offset ≡ place) × ((m : Front) × SpellsFront kind body m × ((phase : Phase) → is_placed m phase ≡ false))
IsUnderstood place kind body found = ⊥
