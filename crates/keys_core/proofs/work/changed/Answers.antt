use Rattle.std.proofs.Common.{◌≡◌, length, [], sym, ◌∙◌, arith}
use Rattle.acra_devices.specs.declared.device.Failed.{Failed}
use Rattle.keys_core.proofs.Again.{reads_back}
use Rattle.keys_core.proofs.Draws.{drew_ok, one_made}
use Rattle.keys_core.proofs.work.changed.Goals as goal

pub returns-in-Ok-clause-kept : goal.returns-in-Ok-clause-kept
returns-in-Ok-clause-kept g c rules =
    let full : length c.draw.new.out ≡ 12 = omega arith in
    reads_back c.args.master.now c.draw.new.out c.from_vec-in-Ok.result c.args.ring.now full (rules c.in-Ok.ensures.kept) (c.from_vec-in-Ok.ensures ∙ (rw c.new-file.ensures.items at c.in-Ok.ensures.ok))

pub returns-in-Err-clause-drawn : goal.returns-in-Err-clause-drawn
returns-in-Err-clause-drawn g c =
    let full : length c.draw.new.out ≡ 12 = omega arith in
    one_made 12 [] (g.R.Random.coming c.args.random.now) (g.R.Random.coming c.draw.new.self)
    (drew_ok {E = Failed} 12 (g.R.Random.coming c.args.random.now) (g.R.Random.coming c.draw.new.self) c.draw.result c.draw.new.out full c.draw.ensures.bytes (sym c.is_err.ensures.value ∙ c.if-is_err.false))
