use Rattle.std.proofs.Common.{arith}
use Rattle.lab_backend.proofs.Rows.{fields-writable}
use Rattle.lab_backend.proofs.Written.{on_ok_always}
use Rattle.lab_backend.proofs.results.write_fields.Goals as goal

pub write_back-requires-clause-short : goal.write_back-requires-clause-short
write_back-requires-clause-short c = (fields-writable c.args.fields c.requires (omega arith)).short

pub returns-clause-writable : goal.returns-clause-writable
returns-clause-writable c = on_ok_always c.write_back.result (fields-writable c.args.fields c.requires (omega arith))
