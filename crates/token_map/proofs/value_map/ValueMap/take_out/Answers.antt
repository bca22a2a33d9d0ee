use Rattle.token_map.proofs.value_map.ValueMap.take_out.Goals as goal
use Rattle.token_map.proofs.Keys.{keyed}
use Rattle.std.proofs.Common.{◌≡◌, ◌∙◌, true, None, sym}
use Rattle.token_map.specs.Index.{value_key}

pub returns : goal.returns
returns c =
    let one : c.args.want.now.consistent ≡ true = sym c.is_consistent.ensures ∙ c.if-not-is_consistent.false in
    let same : c.as_slice.result.now ≡ value_key c.args.want.now = c.as_slice.ensures ∙ c.new-key.ensures in
    keyed c.args.want.now one c.as_slice.result.now same c.args.self.now (record { alloc = c.args.self.now.alloc; tokens = c.remove.new.self }) None c.remove.ensures.updates
