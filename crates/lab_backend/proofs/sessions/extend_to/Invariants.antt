use Rattle.std.proofs.Common.{◌≡◌, ℕ, vec_len}
use Rattle.lab_backend.specs.Sessions.{session_at}
use Rattle.lab_backend.proofs.sessions.extend_to.Given as goal

abbrev pub invariant-more : goal.invariant-more
invariant-more l = record {
  same : (n : ℕ) → session_at l.connections.items n ≡ session_at l.initial.connections.items n;
  long : l._number ≡ vec_len l.connections;
}
