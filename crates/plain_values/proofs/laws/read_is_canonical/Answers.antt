use Rattle.plain_values.proofs.Canonical.{text_is_canonical, binary_is_canonical}
use Rattle.plain_values.proofs.laws.read_is_canonical.Goals as goal

pub returns : goal.returns
returns c = record {
  text = text_is_canonical c.args.kind c.args.value.now;
  binary = binary_is_canonical c.args.kind c.args.declared c.args.value.now;
}
