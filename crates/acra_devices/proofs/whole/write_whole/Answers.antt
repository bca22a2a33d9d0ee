use Rattle.std.proofs.Common.{List, ℕ, ◌+◌, ◌≤◌, length, arith, subst, ◌∙◌}
use Rattle.std.proofs.lemmas.List.{length-drop}
use Rattle.acra_devices.specs.Known.{Grew}
use Rattle.acra_devices.specs.Grows.{grew_then, take_then}
use Rattle.acra_devices.proofs.whole.write_whole.Goals as goal

pub loop-done-preserved : goal.loop-done-preserved
loop-done-preserved g c =
    let inv = c.loop-done.invariant in
    let n = c.in-Ok.count in
    let most : c.loop-done.done + n ≤ length c.args.bytes.now = omega (arith, c.in-Ok.ensures.bound.most, length-drop c.loop-done.done c.args.bytes.now) in
    record {
      within = most;
      written = subst (λ (bs : List ℕ). Grew (g.K.Sink.held c.args.sink.now) (g.K.Sink.held c.write.new.self) bs) (take_then c.loop-done.done n c.args.bytes.now) (grew_then _ _ _ _ _ inv.written c.in-Ok.ensures.bytes);
      stayed = c.in-Ok.ensures.cause.stayed ∙ inv.stayed;
    }
