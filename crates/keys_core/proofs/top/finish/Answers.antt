use Rattle.keys_core.proofs.Runs.{front_of}
use Rattle.keys_core.proofs.top.finish.Goals as goal

pub returns-in-Err-write_whole-clause-done : goal.returns-in-Err-write_whole-clause-done
returns-in-Err-write_whole-clause-done g c k k' h h' ek ek' eh eh' =
    (c.in-Ok.ensures.kept k k' ek ek', front_of h h' c.args.work.now.line _ _ _ (rw c.as_slice.ensures at c.in-Err-write_whole.ensures.written) (rw c.as_slice.ensures at c.in-Err-write_whole.ensures.done) eh eh')
