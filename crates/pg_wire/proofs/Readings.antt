-- What a reader of messages returned.
use Rattle.std.proofs.Common.{◌≡◌, ℕ, ◌-◌, List, length, Result, Ok, Err, sym, ap, ◌∙◌, arith}
use Rattle.pg_wire.specs.declared.frame.ReadBody.{ReadBody}
use Rattle.pg_wire.specs.declared.frame.ReadBody.TheVariants as read
use Rattle.pg_wire.specs.declared.front.Front.{Front}
use Rattle.pg_wire.specs.declared.back.Back.{Back}
use Rattle.pg_wire.specs.Reading.{SpellsFront, SpellsBack, ReadsAs, ReadsExactly}
use Rattle.pg_wire.specs.Bodies.{back_read, front_read}
use Rattle.byte_reader.proofs.Steps.{ok_is}
use Rattle.pg_wire.proofs.Within.{back_left, front_left}
use Rattle.pg_wire.proofs.FrontMessages.{front_again}
use Rattle.pg_wire.proofs.BackMessages.{back_again}

-- what is read exactly is what is known to be read
as_known : {M : Type 0} (body : List ℕ) (r : Result M ReadBody) (reading : Result M ℕ) (m : M) → reading ≡ Ok m → ReadsExactly body r reading → ReadsAs r m
as_known body (Ok found) reading m e h = ok_is found m (sym h ∙ e)
as_known body (Err read.NoMemory) reading m e h = tt
as_known body (Err (read.BodyFault offset)) reading m e h = absurd (cc (sym h.1 ∙ e))

pub back_offset : (kind : ℕ) (body : List ℕ) (left : ℕ) → back_read kind body ≡ Err left → ReadsExactly body (Err (read.BodyFault (length body - left))) (back_read kind body)
back_offset kind body left e = (left, e, omega (arith, back_left kind body left e))

pub back_only : (kind : ℕ) (body : List ℕ) (r : Result Back ReadBody) (m : Back) → ReadsExactly body r (back_read kind body) → SpellsBack kind body m → ReadsAs r m
back_only kind body r m h s = as_known body r (back_read kind body) m (ap (λ (k : ℕ). back_read k body) s.1 ∙ ap (back_read _) s.2 ∙ back_again m s.0) h

pub front_offset : (kind : ℕ) (body : List ℕ) (left : ℕ) → front_read kind body ≡ Err left → ReadsExactly body (Err (read.BodyFault (length body - left))) (front_read kind body)
front_offset kind body left e = (left, e, omega (arith, front_left kind body left e))

pub front_only : (kind : ℕ) (body : List ℕ) (r : Result Front ReadBody) (m : Front) → ReadsExactly body r (front_read kind body) → SpellsFront kind body m → ReadsAs r m
front_only kind body r m h s = as_known body r (front_read kind body) m (ap (λ (k : ℕ). front_read k body) s.1 ∙ ap (front_read _) s.2 ∙ front_again m s.0) h

-- what spells a message has no fault
pub back_unspelled : (kind : ℕ) (body : List ℕ) (left : ℕ) (m : Back) → back_read kind body ≡ Err left → SpellsBack kind body m → ⊥
back_unspelled kind body left m e s = back_only kind body (Err (read.BodyFault (length body - left))) m (back_offset kind body left e) s

-- what spells a message has no fault
pub front_unspelled : (kind : ℕ) (body : List ℕ) (left : ℕ) (m : Front) → front_read kind body ≡ Err left → SpellsFront kind body m → ⊥
front_unspelled kind body left m e s = front_only kind body (Err (read.BodyFault (length body - left))) m (front_offset kind body left e) s
