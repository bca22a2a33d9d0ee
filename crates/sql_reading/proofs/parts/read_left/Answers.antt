use Rattle.std.proofs.Common.{ap}
use Rattle.sql_tree.specs.declared.condition.Operand.TheVariants as operand
use Rattle.sql_reading.proofs.Named.{last_is}
use Rattle.sql_readers.specs.Productions.{left}
use Rattle.sql_reading.proofs.Steps.{gives_ended, ended, ended_seen, gives_seen, gives_same, gives_call, gives_name, ended_name}
use Rattle.sql_reading.proofs.parts.read_left.Goals as goal

pub returns-then-eat_call : goal.returns-then-eat_call
unfolding left
returns-then-eat_call c = gives_seen _ _ _ _ _ _ (gives_call _ _ _ _ _ _ _ _ c.if-eat_call.ensures c.read_prefix.ensures)

pub returns-in_err-first : goal.returns-in_err-first
unfolding left
returns-in_err-first c = gives_ended _ _ _ _ _ (ended_seen _ (ended_name _ _ c.if-eat_call.ensures (ended _ _ _ _ _ c.from_residual.ensures.1 c.in_err-first.ensures)))

pub returns : goal.returns
unfolding left
returns c =
    let first = c.in_ok-first.ensures in
    gives_seen _ _ _ _ _ _ (gives_name _ _ _ _ _ _ _ _ _ _ c.if-eat_call.ensures first.2
    (gives_same _ _ _ _ _ _ (λ rest. ap operand.Column (last_is first.0 rest c.in_ok-first.first first.1)) c.read_named.ensures))
