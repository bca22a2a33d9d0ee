use Rattle.std.proofs.Common.{◌≡◌, ◌-◌, ◌≤◌, length}
use Rattle.acra_devices.specs.Known.{Shrank}
use Rattle.ring_file.proofs.whole.read_file.Given as goal

abbrev pub invariant-pieces : goal.invariant-pieces
invariant-pieces g l = record {
  took : Shrank (g.S.Source.left l.fn.source) (g.S.Source.left l.source) l.bytes;
  short : length l.bytes ≤ l.limit;
  stayed : g.S.Source.read_faults l.source ≡ g.S.Source.read_faults l.fn.source;
  later : g.S.Source.read_faults l.fn.source ≤ g.S.Source.read_faults l.source;
}

abbrev pub decreases-pieces : goal.decreases-pieces
decreases-pieces g l = l.limit - length l.bytes
