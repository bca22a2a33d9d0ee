use Rattle.ring_file.proofs.Long.{long_master}
use Rattle.ring_file.proofs.master.read_master.Goals as goal

pub returns-in-Err-TooLong-clause-key : goal.returns-in-Err-TooLong-clause-key
returns-in-Err-TooLong-clause-key g c text e told = long_master text (rw c.in-Err-TooLong.field-0-is at (c.in-Err-TooLong.ensures.whole text e told))
