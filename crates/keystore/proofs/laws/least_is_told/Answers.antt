use Rattle.keystore.proofs.Least.{told_is_least, least_told}
use Rattle.keystore.proofs.laws.least_is_told.Goals as goal

pub returns : goal.returns
returns c = record { least = λ n m out. (told_is_least n m out, least_told n m out) }
