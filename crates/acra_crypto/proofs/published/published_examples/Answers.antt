use Rattle.acra_crypto.proofs.Examples.{examples}
use Rattle.acra_crypto.proofs.published.published_examples.Goals as goal

pub returns : goal.returns
returns c = examples
