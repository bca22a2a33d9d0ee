use Rattle.std.proofs.Common.{◌≡◌, Some, List, ◌+◌, ◌-◌, ◌*◌, ◌^◌, ◌≤◌, length}
use Rattle.acra_block.specs.Keys.{Key}
use Rattle.keystore.specs.Rings.{current_of}
use Rattle.session_model.specs.Requests.{Request}
use Rattle.lab_session.specs.Leases.{after_leases}
use Rattle.lab_session.specs.Session.{SoFar}
use Rattle.lab_session.proofs.session.first_session.Given as goal

-- some requests were answered, each lease for them was released, and no count of faults fell
abbrev pub invariant-session : goal.invariant-session
invariant-session g l = record {
  so_far : (key : Key) × (requests : List Request) × (current_of l.fn.ring l.who ≡ Some key)
      × SoFar key l.fn.random (g.S.Source.left l.fn.input) (g.K.Sink.held l.fn.output) (g.S.Source.left l.input) (g.K.Sink.held l.output) l.random l.backend l.framer l.taken requests
      × (l.ring ≡ after_leases l.fn.ring requests);
  within : l.taken ≤ 2 ^ 48;
  reads : g.S.Source.read_faults l.fn.input ≤ g.S.Source.read_faults l.input;
  writes : g.K.Sink.write_faults l.fn.output ≤ g.K.Sink.write_faults l.output;
}

-- what is still to be read counts twice
abbrev pub decreases-session : goal.decreases-session
decreases-session g l = 2 * (2 ^ 48 - l.taken) + length l.framer.left
