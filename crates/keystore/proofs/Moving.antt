-- Tickets over a list of calls.
use Rattle.std.proofs.Common.{◌≤◌, Bool, true, false, if◌then◌else◌, List, [], ◌∷◌, is_none, arith}
use Rattle.keystore.specs.Rings.{RingState}
use Rattle.keystore.specs.Answers.{add_refusal, with_client, rotate_refusal, with_rotation, retire_refusal, with_retired}
use Rattle.keystore.specs.Moves.{Move, Add, Rotate, Lend, Release, Abandon, Settle, Mark, Retire, moved, after}

next_by_test : (r s : RingState) (b : Bool) → r.next_ticket ≤ s.next_ticket → r.next_ticket ≤ (if b then s else r).next_ticket
next_by_test r s true h = h
next_by_test r s false h = omega arith

pub next_moved : (r : RingState) (m : Move) → r.next_ticket ≤ (moved r m).next_ticket
next_moved r (Add who keys) = next_by_test r (with_client r who keys) (is_none (add_refusal r who)) (omega arith)
next_moved r (Rotate who key) = next_by_test r (with_rotation r who key) (is_none (rotate_refusal r who)) (omega arith)
next_moved r Lend = omega arith
next_moved r (Release n) = omega arith
next_moved r (Abandon n) = omega arith
next_moved r (Settle n) = omega arith
next_moved r (Mark who id) = omega arith
next_moved r (Retire who id) = next_by_test r (with_retired r who id) (is_none (retire_refusal r who id)) (omega arith)

pub next_after : (r : RingState) (ms : List Move) → r.next_ticket ≤ (after r ms).next_ticket
next_after r [] = omega arith
next_after r (m ∷ ms) = let one = next_moved r m in let rest = next_after (moved r m) ms in omega (arith, one, rest)
