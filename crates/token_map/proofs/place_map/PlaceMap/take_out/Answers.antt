use Rattle.token_map.proofs.place_map.PlaceMap.take_out.Goals as goal
use Rattle.token_map.proofs.Slots.{placed}
use Rattle.std.proofs.Common.{None}

pub returns : goal.returns
returns c =
    placed c.args.kind c.args.token c.slot_of.result c.slot_of.ensures c.args.self.now (record { places = c.remove.new.self }) None c.remove.ensures.updates
