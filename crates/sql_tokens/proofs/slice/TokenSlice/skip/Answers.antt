use Rattle.std.proofs.Common.{List, ap, drop, ◌∙◌}
use Rattle.sql_tokens.specs.declared.token.Placed.{Placed}
use Rattle.sql_tokens.proofs.Keeping.{all_rest, placed_rest}
use Rattle.sql_tokens.proofs.slice.TokenSlice.skip.Goals as goal

pub new-requires : goal.new-requires
new-requires c = all_rest c.self.inside.bytes.now c.self.inside.numbers.now c.self.inside.entries.now c.min-count.result c.self.invariant

pub returns : goal.returns
returns c =
    c.new.ensures
    ∙ placed_rest c.self.inside.bytes.now c.self.inside.numbers.now c.self.inside.entries.now c.args.count c.min-count.result c.min-count.ensures
    ∙ ap (λ (ps : List Placed). drop c.args.count ps) c.self.view_is
