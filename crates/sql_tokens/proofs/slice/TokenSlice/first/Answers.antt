use Rattle.std.proofs.Common.{List, subst}
use Rattle.std.specs.Prelude.{Some}
use Rattle.sql_tokens.specs.Seen.{IsFirst}
use Rattle.sql_tokens.specs.declared.token.Placed.{Placed}
use Rattle.sql_tokens.proofs.Keeping.{first_is}
use Rattle.sql_tokens.proofs.slice.TokenSlice.first.Goals as goal

pub returns-in-len1-up : goal.returns-in-len1-up
returns-in-len1-up c =
    subst (λ (ps : List Placed). IsFirst ps (Some c.look.result)) c.self.view_is
    (first_is c.self.inside.bytes.now c.self.inside.numbers.now c.self.inside.entries.now _ c.look.result c.in-len1-up.len_at_least c.look.ensures.seen c.look.ensures.sound)
