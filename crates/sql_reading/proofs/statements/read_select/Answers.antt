use Rattle.sql_tree.specs.declared.statement.Statement.TheVariants as statement
use Rattle.sql_readers.specs.Productions.{select_of}
use Rattle.sql_readers.specs.Productions.{select}
use Rattle.sql_reading.proofs.Steps.{gives_ended, ended, ended_seen, ended_first, ended_second, seen_ok, both_ok}
use Rattle.sql_reading.proofs.statements.read_select.Goals as goal

pub returns-in_err-items : goal.returns-in_err-items
unfolding select
returns-in_err-items c = gives_ended _ _ _ _ _ (ended_seen _ (ended_first _ (ended _ _ _ _ _ c.from_residual.ensures.1 c.in_err-items.ensures)))

pub returns-in_err-word : goal.returns-in_err-word
unfolding select
returns-in_err-word c =
    gives_ended _ _ _ _ _
    (ended_seen _
    (ended_second c.in_ok-items.ensures.2
    (ended_first _ (ended_seen _ (ended_first _ (ended _ _ _ _ _ c.from_residual-in_err-word.ensures.1 c.in_err-word.ensures))))))

pub returns-in_err-table : goal.returns-in_err-table
unfolding select
returns-in_err-table c =
    gives_ended _ _ _ _ _
    (ended_seen _
    (ended_second c.in_ok-items.ensures.2
    (ended_first _ (ended_seen _ (ended_second c.in_ok-word.ensures.2 (ended _ _ _ _ _ c.from_residual-in_err-table.ensures.1 c.in_err-table.ensures))))))

pub returns-in_err-filter : goal.returns-in_err-filter
unfolding select
returns-in_err-filter c =
    gives_ended _ _ _ _ _
    (ended_seen _
    (ended_second c.in_ok-items.ensures.2
    (ended_second (seen_ok _ (both_ok c.in_ok-word.ensures.2 c.in_ok-table.ensures.2))
    (ended_first _ (ended _ _ _ _ _ c.from_residual-in_err-filter.ensures.1 c.in_err-filter.ensures)))))

pub returns-in_err-order : goal.returns-in_err-order
unfolding select
returns-in_err-order c =
    gives_ended _ _ _ _ _
    (ended_seen _
    (ended_second c.in_ok-items.ensures.2
    (ended_second (seen_ok _ (both_ok c.in_ok-word.ensures.2 c.in_ok-table.ensures.2))
    (ended_second c.in_ok-filter.ensures.2 (ended_first _ (ended _ _ _ _ _ c.from_residual-in_err-order.ensures.1 c.in_err-order.ensures))))))

pub returns-in_err-limit : goal.returns-in_err-limit
unfolding select
returns-in_err-limit c =
    gives_ended _ _ _ _ _
    (ended_seen _
    (ended_second c.in_ok-items.ensures.2
    (ended_second (seen_ok _ (both_ok c.in_ok-word.ensures.2 c.in_ok-table.ensures.2))
    (ended_second c.in_ok-filter.ensures.2
    (ended_second c.in_ok-order.ensures.2 (ended_first _ (ended _ _ _ _ _ c.from_residual-in_err-limit.ensures.1 c.in_err-limit.ensures)))))))

pub returns-in_err-offset : goal.returns-in_err-offset
unfolding select
returns-in_err-offset c =
    gives_ended _ _ _ _ _
    (ended_seen _
    (ended_second c.in_ok-items.ensures.2
    (ended_second (seen_ok _ (both_ok c.in_ok-word.ensures.2 c.in_ok-table.ensures.2))
    (ended_second c.in_ok-filter.ensures.2
    (ended_second c.in_ok-order.ensures.2
    (ended_second c.in_ok-limit.ensures.2 (ended _ _ _ _ _ c.from_residual-in_err-offset.ensures.1 c.in_err-offset.ensures)))))))

pub returns : goal.returns
unfolding select
returns c =
    let items = c.in_ok-items.ensures in
    let table = c.in_ok-table.ensures in
    let filter = c.in_ok-filter.ensures in
    let order = c.in_ok-order.ensures in
    let limit = c.in_ok-limit.ensures in
    let offset = c.in_ok-offset.ensures in (
      select_of (items.0, (table.0, (filter.0, (order.0, (limit.0, offset.0))))),
      (λ i. record { statement = statement.Select (table.1 i) (items.1 i) (filter.1 i).cond (order.1 i) (limit.1 i) (offset.1 i); deepest = (filter.1 i).deepest }),
      seen_ok _
          (both_ok c.in_ok-items.ensures.2
          (both_ok (seen_ok _ (both_ok c.in_ok-word.ensures.2 c.in_ok-table.ensures.2))
          (both_ok c.in_ok-filter.ensures.2 (both_ok c.in_ok-order.ensures.2 (both_ok c.in_ok-limit.ensures.2 c.in_ok-offset.ensures.2))))),
    )
