use Rattle.std.proofs.Common.{sym, ◌∙◌}
use Rattle.table_store.proofs.Walked.{none_equal}
use Rattle.table_store.proofs.keys.has_key.Goals as goal

pub returns-in-None : goal.returns-in-None
returns-in-None c = λ all held. none_equal c.args.cell all (sym c.key_in.ensures ∙ c.in-None.is)
