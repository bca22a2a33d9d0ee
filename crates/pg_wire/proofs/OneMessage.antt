-- No two messages have one spelling.
use Rattle.std.proofs.Common.{◌≡◌, ℕ, sym, ap, ◌∙◌}
use Rattle.pg_wire.specs.declared.front.Front.{Front}
use Rattle.pg_wire.specs.declared.back.Back.{Back}
use Rattle.pg_wire.specs.Fronts.{IsFront, front_kind, front_body}
use Rattle.pg_wire.specs.Backs.{IsBack, back_kind, back_body}
use Rattle.pg_wire.specs.Bodies.{front_read, back_read}
use Rattle.byte_reader.proofs.Steps.{ok_is}
use Rattle.pg_wire.proofs.FrontMessages.{front_again}
use Rattle.pg_wire.proofs.BackMessages.{back_again}

pub one_front : (a b : Front) → IsFront a → IsFront b → front_kind a ≡ front_kind b → front_body a ≡ front_body b → a ≡ b
one_front a b is js kinds bodies = ok_is a b (sym (front_again a is) ∙ ap (λ (k : ℕ). front_read k (front_body a)) kinds ∙ ap (front_read (front_kind b)) bodies ∙ front_again b js)

pub one_back : (a b : Back) → IsBack a → IsBack b → back_kind a ≡ back_kind b → back_body a ≡ back_body b → a ≡ b
one_back a b is js kinds bodies = ok_is a b (sym (back_again a is) ∙ ap (λ (k : ℕ). back_read k (back_body a)) kinds ∙ ap (back_read (back_kind b)) bodies ∙ back_again b js)
