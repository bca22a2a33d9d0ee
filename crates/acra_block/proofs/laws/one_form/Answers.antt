use Rattle.acra_block.proofs.Formed.{form_is, is_form}
use Rattle.acra_block.proofs.laws.one_form.Goals as goal

pub returns : goal.returns
returns c = record { form = λ bytes c small. (form_is bytes c small, is_form bytes c) }
