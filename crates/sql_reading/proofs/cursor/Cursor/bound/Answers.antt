use Rattle.std.proofs.Common.{refl, ap, arith}
use Rattle.sql_tokens.specs.Seen.{seen}
use Rattle.sql_reading.proofs.Taken.{bound_taken}
use Rattle.sql_reading.proofs.cursor.Cursor.bound.Goals as goal

pub returns : goal.returns
returns c = bound_taken (seen c.in-Some.token) c.in-Number.number _ _ _ c.in-Some.ensures.is (ap seen c.in-Number.is) refl (omega arith) c.skip.ensures
