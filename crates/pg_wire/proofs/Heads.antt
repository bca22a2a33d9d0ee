-- The head of a message, from that of what follows its type byte.
use Rattle.std.proofs.Common.{◌≡◌, ℕ, zero, suc, ◌≤◌, true, false, List, [], ◌∷◌, ◌++◌, length, get_or, take, drop, ◌-◌, refl, sym, ap, subst, ◌∙◌, arith}
use Rattle.std.proofs.lemmas.Bool.{ne_eqb}
use Rattle.std.proofs.lemmas.List.{take_rest}
use Rattle.pg_wire.specs.declared.frame.Side.{Side}
use Rattle.pg_wire.specs.declared.frame.Side.TheVariants as side
use Rattle.pg_wire.specs.declared.frame.FrameFault.{FrameFault}
use Rattle.pg_wire.specs.declared.frame.FrameFault.TheVariants as faults
use Rattle.pg_wire.specs.declared.head.Head.{Head}
use Rattle.pg_wire.specs.declared.head.Head.TheVariants as heads
use Rattle.pg_wire.specs.Frames.{is_type, counted, frame_bytes, IsFrame, HasFault}
use Rattle.pg_wire.specs.Heads.{IsCountedShort, IsCounted, IsHead}

-- the type of a message isn't 0
pub not_zero : (who : Side) → is_type who 0 ≡ true → ⊥
not_zero side.Client h = absurd cc
not_zero side.Backend h = absurd cc

pub message_bytes : (who : Side) (kind : ℕ) (body : List ℕ) → is_type who kind ≡ true → frame_bytes kind body ≡ kind ∷ counted body
message_bytes who zero body h = absurd (not_zero who h)
message_bytes who (suc k) body h = rw (ne_eqb (suc k) 0 (λ e. absurd (omega arith))) refl

no_fault : (who : Side) (limit t : ℕ) (rest : List ℕ) → is_type who t ≡ true → IsCountedShort 4 limit rest → (fault : FrameFault) → HasFault who limit false (t ∷ rest) fault → ⊥
no_fault who limit t rest typed short (faults.UnknownType u) h = absurd cc
no_fault who limit t rest typed short (faults.BadLength n) h = short.no_fault h.1.0 (faults.BadLength n) h.1.1 h.1.2
no_fault who limit t rest typed short (faults.TooLong n) h = short.no_fault h.1.0 (faults.TooLong n) h.1.1 h.1.2

no_frame : (who : Side) (limit t : ℕ) (rest : List ℕ) → IsCountedShort 4 limit rest → (kind : ℕ) (body after : List ℕ) → IsFrame who limit false kind body → t ∷ rest ≡ frame_bytes kind body ++ after → ⊥
no_frame who limit t rest short kind body after is e =
    let whole : t ∷ rest ≡ kind ∷ (counted body ++ after) = e ∙ ap (λ (xs : List ℕ). xs ++ after) (message_bytes who kind body is.0) in
    short.no_body body after (record { least_kept = omega arith; most_kept = is.1; fits = is.2 }) cc

pub message_head_is : (who : Side) (limit t : ℕ) (rest : List ℕ) (head : Head) → is_type who t ≡ true → IsCounted t 4 limit rest head → IsHead who limit false (t ∷ rest) head
message_head_is who limit t rest (heads.Whole kind body after) typed h =
    let is : is_type who kind ≡ true = rw (h.0) typed in
    ((is, h.1.most_kept, h.1.fits), cc (message_bytes who kind body.now is))
message_head_is who limit t rest heads.Unfinished typed h = record { no_fault = no_fault who limit t rest typed h; no_frame = no_frame who limit t rest h }
message_head_is who limit t rest (heads.Fault (faults.UnknownType u)) typed h = absurd h.2
message_head_is who limit t rest (heads.Fault (faults.BadLength n)) typed h = (typed, h)
message_head_is who limit t rest (heads.Fault (faults.TooLong n)) typed h = (typed, h)

pub message_head_at : (who : Side) (limit : ℕ) (bytes : List ℕ) (head : Head) → 1 ≤ length bytes → is_type who (get_or bytes 0 0) ≡ true
    → IsCounted (get_or bytes 0 0) 4 limit (take (length bytes - 1) (drop 1 bytes)) head → IsHead who limit false bytes head
message_head_at who limit [] head some typed h = absurd (omega arith)
message_head_at who limit (t ∷ rest) head some typed h =
    message_head_is who limit t rest head typed (subst (λ (r : List ℕ). IsCounted t 4 limit r head) (take_rest (t ∷ rest) 1) h)

-- the head of a startup packet, which has no type byte
no_startup : (who : Side) (limit : ℕ) (bytes : List ℕ) → IsCountedShort 8 10000 bytes → (kind : ℕ) (body after : List ℕ) → IsFrame who limit true kind body → bytes ≡ frame_bytes kind body ++ after → ⊥
no_startup who limit bytes short kind body after is e =
    let whole : frame_bytes kind body ≡ counted body = rw (is.0) refl in
    short.no_body body after (record { least_kept = omega (arith, is.1); most_kept = is.2; fits = omega (arith, is.2) }) (e ∙ ap (λ (xs : List ℕ). xs ++ after) whole)

pub startup_head_is : (who : Side) (limit : ℕ) (bytes : List ℕ) (head : Head) → IsCounted 0 8 10000 bytes head → IsHead who limit true bytes head
startup_head_is who limit bytes (heads.Whole kind body after) h =
    let whole : frame_bytes kind body.now ≡ counted body.now = rw (h.0) refl in
    ((h.0, omega (arith, h.1.least_kept), h.1.most_kept), h.2 ∙ ap (λ (xs : List ℕ). xs ++ after.now) (sym whole))
startup_head_is who limit bytes heads.Unfinished h = record { no_fault = λ fault f. h.no_fault f.0 fault f.1 f.2; no_frame = no_startup who limit bytes h }
startup_head_is who limit bytes (heads.Fault fault) h = h
