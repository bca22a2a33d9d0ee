use Rattle.lab_backend.proofs.HasParameter.{found_in_update}
use Rattle.lab_backend.proofs.parameters.has_parameter.Goals as goal

pub returns-in-Update : goal.returns-in-Update
returns-in-Update c =
    found_in_update c.args.statement.now c.in-Update.table c.as_slice-in-Update.result.now c.in-Update.sets c.in-Update.cond c.has_parameter_in_pairs.result c.has_parameter_in_filter-in-Update.result c.in-Update.is c.as_slice-in-Update.ensures
    c.has_parameter_in_pairs.ensures c.has_parameter_in_filter-in-Update.ensures
