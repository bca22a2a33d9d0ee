use Rattle.std.proofs.Common.{true, false, [], map, ◌∙◌}
use Rattle.table_rows.specs.Looking.{seen}
use Rattle.table_store.specs.Changing.{keys_in}
use Rattle.table_store.specs.Keys.{standing}
use Rattle.table_store.proofs.Walked.{behind}
use Rattle.table_store.proofs.keys.first_broken.Goals as goal

pub returns-then-any_has_key : goal.returns-then-any_has_key
returns-then-any_has_key c =
    let keys = map seen c.args.cells.now in
    let e = c.in_ok-keys.ensures in
    behind (keys_in c.args.place c.args.rows.now) keys c.any_has_key.result true (c.any_has_key.ensures (standing [] keys) e.0) c.if-any_has_key.true

pub returns : goal.returns
returns c =
    let keys = map seen c.args.cells.now in
    let e = c.in_ok-keys.ensures in
    e.1 ∙ behind (keys_in c.args.place c.args.rows.now) keys c.any_has_key.result false (c.any_has_key.ensures (standing [] keys) e.0) c.if-any_has_key.false
