use Rattle.std.proofs.Common.{◌≡◌, drop, List, ℕ, ◌+◌, ◌-◌, length, take, arith, ap, ◌∙◌}
use Rattle.std.proofs.lemmas.List.{take_at, length-take}
use Rattle.acra_devices.specs.Grows.{shrank_at}
use Rattle.acra_devices.proofs.wire.Wire.read.Goals as goal

pub returns-clause-bytes : goal.returns-clause-bytes
returns-clause-bytes c =
    let at = c.args.self.now.at in
    let n = c.min-count.result in
    let room : length c.copy_from_slice.new.self ≡ n = c.copy_from_slice.ensures.len ∙ omega (arith, length-take n c.args.buf.now) in
    let same : at + n - at ≡ n = omega arith in
    let given = c.copy_from_slice.ensures.after ∙ ap (λ (k : ℕ). take k (drop at c.deref.result.now)) same ∙ ap (λ (xs : List ℕ). take n (drop at xs)) c.deref.ensures.value in
    shrank_at c.args.self.now.whole c.args.self.now.input.items at n _ (omega (arith, c.deref.ensures.len)) (take_at c.copy_from_slice.new.self _ n room ∙ given)
