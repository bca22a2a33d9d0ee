use Rattle.std.proofs.Common.{sym, ◌∙◌}
use Rattle.pg_wire.proofs.Heads.{message_head_at}
use Rattle.pg_wire.proofs.head.message_head.Goals as goal

pub returns-else-not-is_type : goal.returns-else-not-is_type
returns-else-not-is_type c = message_head_at _ _ _ _ c.in-len1-up.len_at_least (sym c.is_type.ensures ∙ c.if-not-is_type.false) c.counted_head.ensures
