use Rattle.token_records.proofs.Recorded.{record_once}
use Rattle.token_records.proofs.laws.one_record.Goals as goal

pub returns : goal.returns
returns g c = record_once (g.A.Aead.sealed c.args._aead.now) (g.A.Aead.opened c.args._aead.now) (g.met.A.Aead.opens c.args._aead.now)
