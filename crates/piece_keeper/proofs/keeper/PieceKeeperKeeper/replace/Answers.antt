use Rattle.std.proofs.Common.{ap}
use Rattle.piece_keeper.proofs.Behind.{cause_own}
use Rattle.piece_keeper.proofs.keeper.PieceKeeperKeeper.replace.Goals as goal

pub returns-in_default-clause-cause : goal.returns-in_default-clause-cause
returns-in_default-clause-cause g c =
    cause_own (g.K.Keeper.keeper_faults c.args.self.now.below) (g.K.Keeper.keeper_faults c.count.new.self.below) c.args.self.now.faults c.count.new.self.faults _
    (ap g.K.Keeper.keeper_faults c.count.ensures.below) c.count.ensures.later c.count.ensures.more
