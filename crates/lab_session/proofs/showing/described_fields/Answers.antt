use Rattle.std.proofs.Common.{drop}
use Rattle.session_model.specs.Shown.{as_text}
use Rattle.lab_session.proofs.Protecting.{all_shown}
use Rattle.lab_session.proofs.showing.described_fields.Goals as goal

pub returns : goal.returns
returns c = all_shown as_text (drop c.fields.place c.args.protected.now) c.args.fields.now _ _ c.fields.place c.fields-test.false c.fields.invariant
