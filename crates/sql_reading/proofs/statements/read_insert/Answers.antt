use Rattle.sql_tree.specs.declared.statement.Statement.TheVariants as statement
use Rattle.sql_readers.specs.Productions.{insert}
use Rattle.sql_reading.proofs.Steps.{gives_ended, ended, ended_seen, ended_first, ended_second, seen_ok, both_ok}
use Rattle.sql_reading.proofs.statements.read_insert.Goals as goal

pub returns-in_err-word : goal.returns-in_err-word
unfolding insert
returns-in_err-word c = gives_ended _ _ _ _ _ (ended_seen _ (ended_first _ (ended _ _ _ _ _ c.from_residual.ensures.1 c.in_err-word.ensures)))

pub returns-in_err-table : goal.returns-in_err-table
unfolding insert
returns-in_err-table c =
    gives_ended _ _ _ _ _
    (ended_seen _ (ended_second c.in_ok-word.ensures.2 (ended_first _ (ended _ _ _ _ _ c.from_residual-in_err-table.ensures.1 c.in_err-table.ensures))))

pub returns-in_err-columns : goal.returns-in_err-columns
unfolding insert
returns-in_err-columns c =
    gives_ended _ _ _ _ _
    (ended_seen _
    (ended_second c.in_ok-word.ensures.2
    (ended_second c.in_ok-table.ensures.2 (ended_first _ (ended _ _ _ _ _ c.from_residual-in_err-columns.ensures.1 c.in_err-columns.ensures)))))

pub returns-in_err-word-2 : goal.returns-in_err-word-2
unfolding insert
returns-in_err-word-2 c =
    gives_ended _ _ _ _ _
    (ended_seen _
    (ended_second c.in_ok-word.ensures.2
    (ended_second c.in_ok-table.ensures.2
    (ended_second c.in_ok-columns.ensures.2
    (ended_seen _ (ended_first _ (ended _ _ _ _ _ c.from_residual-in_err-word-2.ensures.1 c.in_err-word-2.ensures)))))))

pub returns-in_err-rows : goal.returns-in_err-rows
unfolding insert
returns-in_err-rows c =
    gives_ended _ _ _ _ _
    (ended_seen _
    (ended_second c.in_ok-word.ensures.2
    (ended_second c.in_ok-table.ensures.2
    (ended_second c.in_ok-columns.ensures.2
    (ended_seen _ (ended_second c.in_ok-word-2.ensures.2 (ended _ _ _ _ _ c.from_residual-in_err-rows.ensures.1 c.in_err-rows.ensures)))))))

pub returns : goal.returns
unfolding insert
returns c =
    let table = c.in_ok-table.ensures in
    let columns = c.in_ok-columns.ensures in
    let rows = c.in_ok-rows.ensures in (
      (table.0, (columns.0, rows.0)),
      (λ i. record { statement = statement.Insert (table.1 i) (columns.1 i) (rows.1 i); deepest = 0 }),
      seen_ok _
          (both_ok c.in_ok-word.ensures.2
          (both_ok c.in_ok-table.ensures.2 (both_ok c.in_ok-columns.ensures.2 (seen_ok _ (both_ok c.in_ok-word-2.ensures.2 c.in_ok-rows.ensures.2))))),
    )
