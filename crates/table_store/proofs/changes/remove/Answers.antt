use Rattle.std.proofs.Common.{rules}
use Rattle.std.specs.Prelude.{not}
use Rattle.std.proofs.lemmas.Fn.{filter_same}
use Rattle.table_rows.specs.Filters as filters
use Rattle.table_store.proofs.changes.remove.Goals as goal

pub returns : goal.returns
returns c = filter_same _ (λ row. not (filters.passes c.args.condition.now row)) _ (λ row b f' k. search rules) _ _ c.retain.ensures.filtered
