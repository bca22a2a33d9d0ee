use Rattle.std.proofs.Common.{ℕ, ◌≡◌, ◌-◌, ◌^◌, ◌≤◌}
use Rattle.audit_chain.specs.Reads.{SoFar}
use Rattle.audit_chain.proofs.reading.read_log.Given as goal

abbrev pub invariant-pieces : goal.invariant-pieces
invariant-pieces g l = record {
  so_far : SoFar l.fn.key (g.S.Source.left l.fn.source) (g.S.Source.left l.source) l.walk l.taken;
  within : l.taken ≤ 2 ^ 48;
  stayed : g.S.Source.read_faults l.source ≡ g.S.Source.read_faults l.fn.source;
  later : g.S.Source.read_faults l.fn.source ≤ g.S.Source.read_faults l.source;
}

abbrev pub decreases-pieces : goal.decreases-pieces
decreases-pieces g l = 2 ^ 48 - l.taken
