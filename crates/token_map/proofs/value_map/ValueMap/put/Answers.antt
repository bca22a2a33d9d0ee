use Rattle.token_map.proofs.value_map.ValueMap.put.Goals as goal
use Rattle.token_map.proofs.Keys.{keyed}
use Rattle.std.proofs.Common.{◌≡◌, ◌∙◌, true, Some, sym}
use Rattle.token_map.specs.Index.{value_key}

pub returns-clause-ok : goal.returns-clause-ok
returns-clause-ok c =
    let one : c.args.want.now.consistent ≡ true = sym c.is_consistent.ensures ∙ c.if-not-is_consistent.false in
    let same : c.in_ok-key.key.items ≡ value_key c.args.want.now = c.in_ok-key.ensures.items ∙ c.as_slice.ensures ∙ c.new-key.ensures in
    keyed c.args.want.now one c.in_ok-key.key.items same c.args.self.now (record { alloc = c.args.self.now.alloc; tokens = c.insert.new.self }) (Some c.args.token) c.in_ok-insert.ensures.updates
