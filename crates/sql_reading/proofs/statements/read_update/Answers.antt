use Rattle.sql_tree.specs.declared.statement.Statement.TheVariants as statement
use Rattle.sql_readers.specs.Productions.{update}
use Rattle.sql_reading.proofs.Steps.{gives_ended, ended, ended_seen, ended_first, ended_second, seen_ok, both_ok}
use Rattle.sql_reading.proofs.statements.read_update.Goals as goal

pub returns-in_err-table : goal.returns-in_err-table
unfolding update
returns-in_err-table c = gives_ended _ _ _ _ _ (ended_first _ (ended _ _ _ _ _ c.from_residual.ensures.1 c.in_err-table.ensures))

pub returns-in_err-word : goal.returns-in_err-word
unfolding update
returns-in_err-word c =
    gives_ended _ _ _ _ _
    (ended_second c.in_ok-table.ensures.2
    (ended_first _ (ended_seen _ (ended_first _ (ended _ _ _ _ _ c.from_residual-in_err-word.ensures.1 c.in_err-word.ensures)))))

pub returns-in_err-sets : goal.returns-in_err-sets
unfolding update
returns-in_err-sets c =
    gives_ended _ _ _ _ _
    (ended_second c.in_ok-table.ensures.2
    (ended_first _ (ended_seen _ (ended_second c.in_ok-word.ensures.2 (ended _ _ _ _ _ c.from_residual-in_err-sets.ensures.1 c.in_err-sets.ensures)))))

pub returns-in_err-filter : goal.returns-in_err-filter
unfolding update
returns-in_err-filter c =
    gives_ended _ _ _ _ _
    (ended_second c.in_ok-table.ensures.2
    (ended_second (seen_ok _ (both_ok c.in_ok-word.ensures.2 c.in_ok-sets.ensures.2))
    (ended _ _ _ _ _ c.from_residual-in_err-filter.ensures.1 c.in_err-filter.ensures)))

pub returns : goal.returns
unfolding update
returns c =
    let table = c.in_ok-table.ensures in
    let sets = c.in_ok-sets.ensures in
    let filter = c.in_ok-filter.ensures in (
      (table.0, (sets.0, filter.0)),
      (λ i. record { statement = statement.Update (table.1 i) (sets.1 i) (filter.1 i).cond; deepest = (filter.1 i).deepest }),
      both_ok c.in_ok-table.ensures.2 (both_ok (seen_ok _ (both_ok c.in_ok-word.ensures.2 c.in_ok-sets.ensures.2)) c.in_ok-filter.ensures.2),
    )
