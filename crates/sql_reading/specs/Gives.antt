-- What a call that reads did.
use Rattle.std.specs.Prelude.{◌≡◌, List, Result, Ok, Err}
use Rattle.sql_tokens.specs.declared.token.Token.{Token}
use Rattle.sql_reading.specs.declared.stop.Stop.{Stop}
use Rattle.sql_reading.specs.declared.stop.Stop.TheVariants as stop
use Rattle.sql_readers.specs.Readers.{Reader}
use Rattle.sql_readers.specs.Reads.{Reads}

-- it found what is made of the part that is read, and left what follows; or it left what begins with the first token that does
-- not fit
abbrev pub Gives : {D V : Type 0} → (D → V) → Reader D → List Token → Result V Stop → List Token → Type 0
Gives {D} made p old (Ok v) new = (d : D) × (v ≡ made d) × Reads p old (Ok (d, new))
Gives made p old (Err stop.Syntax) new = Reads p old (Err new)
Gives made p old (Err stop.NoMemory) new = Unit {0}
