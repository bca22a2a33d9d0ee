use Rattle.enc_config.proofs.Ordered.{one_policy, one_refusal, no_refusal}
use Rattle.enc_config.proofs.laws.one_answer.Goals as goal

pub returns : goal.returns
returns c = record {
  policy = one_policy c.args.text.now;
  refusal = one_refusal c.args.text.now;
  either = no_refusal c.args.text.now;
}
