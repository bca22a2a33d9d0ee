use Rattle.std.proofs.Common.{rules}
use Rattle.ring_file.proofs.Names.{all_bytes}
use Rattle.ring_file.proofs.clients.id_text.Goals as goal

pub returns-in-Ok : goal.returns-in-Ok
returns-in-Ok c = rw (all_bytes c.args.text.now c.in-Ok.ensures.ok.1.each) (search rules)
