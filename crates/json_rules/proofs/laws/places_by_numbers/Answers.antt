use Rattle.json_rules.proofs.Ordered.{less_if_before, before_if_less, text_first}
use Rattle.json_rules.proofs.laws.places_by_numbers.Goals as goal

pub returns : goal.returns
returns c = record {
  parts = λ p q a b. (less_if_before p q a b, before_if_less p q a b);
  text = text_first;
}
