use Rattle.std.proofs.Common.{◌≡◌, ◌∙◌, sym, map, arith}
use Rattle.std.proofs.lemmas.Result.{IfOk-weaker}
use Rattle.table_store.specs.Finding.{found_by, kept_by}
use Rattle.table_store.proofs.Windows.{found_unsorted}
use Rattle.table_store.proofs.queries.found.Goals as goal

pub returns-then-is_empty : goal.returns-then-is_empty
returns-then-is_empty c =
    IfOk-weaker c.kept.result
    (λ v. map (λ r. r.now) v.items ≡ kept_by c.args.filter.now c.args.rows.now)
    (λ v. map (λ r. r.now) v.items ≡ found_by c.args.filter.now c.args.keys.now c.args.rows.now)
    (λ v e. e ∙ sym (found_unsorted c.args.filter.now c.args.keys.now c.args.rows.now (grind arith)))
    c.kept.ensures
