use Rattle.censor.proofs.Answered.{one_censor, one_refusal, no_refusal}
use Rattle.censor.proofs.laws.one_answer.Goals as goal

pub returns : goal.returns
returns c = record {
  censor = one_censor c.args.text.now;
  refusal = one_refusal c.args.text.now;
  either = no_refusal c.args.text.now;
}
