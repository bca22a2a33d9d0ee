use Rattle.std.proofs.Common.{arith}
use Rattle.plain_values.proofs.Spelled.{text_reads_back, binary_reads_back}
use Rattle.plain_values.proofs.laws.spelled_again.Goals as goal

pub returns : goal.returns
returns c = record {
  text = text_reads_back c.args.kind c.args.value.now (λ i. let h = c.type_inv.value i in omega arith) c.requires;
  binary = binary_reads_back c.args.kind c.args.value.now c.requires;
}
