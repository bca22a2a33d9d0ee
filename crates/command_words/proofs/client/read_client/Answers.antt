use Rattle.command_words.proofs.Texts.{client_again}
use Rattle.command_words.proofs.client.read_client.Goals as goal

pub returns-in-Ok-clause-exact : goal.returns-in-Ok-clause-exact
returns-in-Ok-clause-exact c = client_again _ _ _ c.as_bytes.ensures.value c.in-Ok.ensures.ok.0 c.in-Ok.ensures.ok.1
