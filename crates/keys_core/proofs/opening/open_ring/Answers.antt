use Rattle.std.proofs.Common.{◌==◌, length, sym, ◌∙◌}
use Rattle.keys_core.specs.Work.{read_file}
use Rattle.keys_core.proofs.Draws.{opens_new}
use Rattle.keys_core.proofs.opening.open_ring.Goals as goal

pub returns-then-is_empty-clause-ring : goal.returns-then-is_empty-clause-ring
returns-then-is_empty-clause-ring g c =
    opens_new c.args.makes (length c.args.bytes.now == 0) (read_file c.args.master.now c.args.bytes.now) c.draw.new.out c.ring_of.result c.if-makes.true (sym c.is_empty.ensures ∙ c.if-is_empty.true) c.ring_of.ensures
