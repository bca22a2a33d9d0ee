use Rattle.std.proofs.Common.{◌+◌, ◌*◌}
use Rattle.turnstile_tally.proofs.crowd.+count_all+fn-count_all-join+arg3.Given as goal

abbrev pub decreases-count_all : goal.decreases-count_all
decreases-count_all g l = 2 * l.threads + 1

abbrev pub decreases-join+arg3 : goal.decreases-join+arg3
decreases-join+arg3 g l = 2 * l.threads
