use Rattle.std.proofs.Common.{ap, sym, ◌∙◌}
use Rattle.ring_file.specs.Reading.{id_or_zero}
use Rattle.ring_file.proofs.Lasts.{last_at}
use Rattle.ring_file.proofs.ids.last_id.Goals as goal

pub returns-in-Some : goal.returns-in-Some
returns-in-Some c = ap id_or_zero (c.in-Some.ensures.value ∙ sym (last_at c.args.past.now))
