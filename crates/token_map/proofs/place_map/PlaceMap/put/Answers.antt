use Rattle.token_map.proofs.place_map.PlaceMap.put.Goals as goal
use Rattle.token_map.proofs.Slots.{placed}
use Rattle.std.proofs.Common.{Some}

pub returns-clause-ok : goal.returns-clause-ok
returns-clause-ok c =
    placed c.args.kind c.args.token c.slot_of.result c.slot_of.ensures c.args.self.now (record { places = c.insert.new.self }) (Some c.args.place) c.in_ok-insert.ensures.updates
