use Rattle.sql_tree.specs.declared.statement.Statement.TheVariants as statement
use Rattle.sql_readers.specs.Productions.{set}
use Rattle.sql_reading.proofs.Steps.{gives_ended, ended, ended_first, ended_second, both_ok}
use Rattle.sql_reading.proofs.statements.read_set.Goals as goal

pub returns-in_err-name : goal.returns-in_err-name
unfolding set
returns-in_err-name c = gives_ended _ _ _ _ _ (ended_first _ (ended _ _ _ _ _ c.from_residual.ensures.1 c.in_err-name.ensures))

pub returns-in_err-read_set_sign : goal.returns-in_err-read_set_sign
unfolding set
returns-in_err-read_set_sign c =
    gives_ended _ _ _ _ _
    (ended_second c.in_ok-name.ensures.2 (ended_first _ (ended _ _ _ _ _ c.from_residual-in_err-read_set_sign.ensures.1 c.in_err-read_set_sign.ensures)))

pub returns-in_err-value : goal.returns-in_err-value
unfolding set
returns-in_err-value c =
    gives_ended _ _ _ _ _
    (ended_second c.in_ok-name.ensures.2
    (ended_second c.in_ok-read_set_sign.ensures.2 (ended _ _ _ _ _ c.from_residual-in_err-value.ensures.1 c.in_err-value.ensures)))

pub returns : goal.returns
unfolding set
returns c =
    let name = c.in_ok-name.ensures in
    let value = c.in_ok-value.ensures in
    ((name.0, (c.in_ok-read_set_sign.ensures.0, value.0)), (λ i. record { statement = statement.Set (name.1 i) (value.1 i); deepest = 0 }), both_ok c.in_ok-name.ensures.2 (both_ok c.in_ok-read_set_sign.ensures.2 c.in_ok-value.ensures.2))
