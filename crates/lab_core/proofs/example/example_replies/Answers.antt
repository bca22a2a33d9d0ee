use Rattle.std.proofs.Common.{codes}
use Rattle.lab_session.specs.ClientKey.{client_drawn}
use Rattle.lab_core.proofs.Worked.{example_splits, example_over, example_answers}
use Rattle.lab_core.proofs.example.example_replies.Goals as goal

pub returns : goal.returns
returns c =
    let drawn = client_drawn (codes "app") 1 in
    (example_splits, example_over, example_answers drawn.0.id drawn.0.key drawn.0.search drawn.1)
