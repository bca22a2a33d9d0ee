use Rattle.std.proofs.Common.{List, ap, length, sym, ◌∙◌}
use Rattle.sql_tokens.specs.declared.token.Placed.{Placed}
use Rattle.sql_tokens.proofs.Keeping.{placed_length}
use Rattle.sql_tokens.proofs.slice.TokenSlice.len.Goals as goal

pub returns : goal.returns
returns c = sym (placed_length c.self.inside.bytes.now c.self.inside.numbers.now c.self.inside.entries.now) ∙ ap (λ (ps : List Placed). length ps) c.self.view_is
