use Rattle.std.proofs.Common.{nat_eq}
use Rattle.std.proofs.lemmas.Bool.Decides.{Decides-eqb}
use Rattle.std.proofs.lemmas.List.Elements.{contains_decides, Decides-contains}
use Rattle.acra_devices.proofs.calls.Calls.fails.Goals as goal

pub returns-clause-answer : goal.returns-clause-answer
returns-clause-answer c =
    let failing = c.args.self.now.failing.items in
    let call = c.args.self.now.made in
    Decides-contains failing call c.contains.result (contains_decides nat_eq Decides-eqb failing call c.contains.result (rw c.deref.ensures.value at c.contains.ensures.cases))
