use Rattle.std.proofs.Common.{◌≡◌, take, true}
use Rattle.std.specs.List.{list_all}
use Rattle.sql_tokens.specs.Runs.{run_test}
use Rattle.sql_tokens.proofs.runs.Run.len_in.Given as goal

abbrev pub invariant-bytes : goal.invariant-bytes
invariant-bytes l = list_all (run_test l.self) (take l.place l.text) ≡ true
