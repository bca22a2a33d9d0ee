use Rattle.std.proofs.Common.{◌++◌, List, ℕ, sym, subst, ap, ◌∙◌}
use Rattle.pg_wire.specs.Backs.{back_frame}
use Rattle.machine_replies.specs.Replies.{IsWritable}
use Rattle.lab_session.proofs.Showable.{shown_writable}
use Rattle.lab_session.proofs.Relayed.{sent_as, failed_sends}
use Rattle.lab_session.proofs.relay.send_shown.Goals as goal

pub write_back-requires-clause-spelled : goal.write_back-requires-clause-spelled
write_back-requires-clause-spelled g c =
    (subst IsWritable (sym c.in_ok-shown.ensures) (shown_writable c.args.view.now c.args.protected.now c.args.message c.requires)).spelled

pub write_back-requires-clause-short : goal.write_back-requires-clause-short
write_back-requires-clause-short g c =
    (subst IsWritable (sym c.in_ok-shown.ensures) (shown_writable c.args.view.now c.args.protected.now c.args.message c.requires)).short

pub returns-in_err-write_back-clause-sent : goal.returns-in_err-write_back-clause-sent
returns-in_err-write_back-clause-sent g c = failed_sends _ _ _ c.from_residual-in_err-write_back.ensures.0

pub returns-clause-sent : goal.returns-clause-sent
returns-clause-sent g c = sent_as _ _ c.send.result _ _ (c.deref.ensures.value ∙ c.in_ok-write_back.ensures.ok ∙ ap (λ (xs : List ℕ). xs ++ back_frame c.in_ok-shown.shown) c.new-frame.ensures.items ∙ ap back_frame c.in_ok-shown.ensures) c.send.ensures.sent
