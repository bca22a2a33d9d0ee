use Rattle.std.proofs.Common.{◌≤◌, List, length}
use Rattle.pg_wire.specs.declared.back.Back.{Back}
use Rattle.session_model.specs.Shown.{shown_message}
use Rattle.lab_session.specs.Cells.{opened_by}
use Rattle.lab_session.specs.Relaying.{IsReply}
use Rattle.lab_session.proofs.Relayed.{Shown}
use Rattle.lab_session.proofs.relay.relay.Given as goal

-- the messages that were shown, and those that are left
abbrev pub invariant-messages : goal.invariant-messages
invariant-messages g l = record {
  shown : (messages : List Back) → IsReply l.fn.reply messages → Shown (shown_message (opened_by l.view) l.protected) l.framer messages (g.K.Sink.held l.fn.output) (g.K.Sink.held l.output);
  later : g.K.Sink.write_faults l.fn.output ≤ g.K.Sink.write_faults l.output;
}

abbrev pub decreases-messages : goal.decreases-messages
decreases-messages g l = length l.framer.left
