use Rattle.audit_chain.specs.Walks.{IsAt}
use Rattle.std.proofs.Common.{List, ℕ, ◌++◌, take}
use Rattle.audit_chain.proofs.walk.Walk.take_all.Given as goal

abbrev pub invariant-bytes : goal.invariant-bytes
invariant-bytes l = (key bytes : List ℕ) → IsAt key l.initial.self bytes → IsAt key l.self (bytes ++ take l.byte-index l.piece)
