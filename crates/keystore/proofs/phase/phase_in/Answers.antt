use Rattle.std.proofs.Common.{ap, sym}
use Rattle.keystore.specs.Rings.{is_key, old_phase_of}
use Rattle.keystore.proofs.Items.{first_at}
use Rattle.keystore.proofs.phase.phase_in.Goals as goal

pub returns-in-Some : goal.returns-in-Some
returns-in-Some c = sym (ap old_phase_of (first_at (is_key c.args.id) c.args.past.now c.in-Some.place _ c.in-Some.ensures))
