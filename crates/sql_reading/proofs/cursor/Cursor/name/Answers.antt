use Rattle.std.proofs.Common.{ap, ◌∙◌}
use Rattle.sql_tokens.specs.Seen.{seen}
use Rattle.sql_reading.proofs.Taken.{name_taken}
use Rattle.sql_reading.proofs.cursor.Cursor.name.Goals as goal

pub returns : goal.returns
returns c = name_taken (seen c.in-Some.token) c.in-Name.name.now c.in-Name.quoted _ _ _ c.in-Some.ensures.is (ap seen c.in-Name.is) c.skip.ensures (c.new-copy.ensures ∙ c.in_ok-copied.ensures)
