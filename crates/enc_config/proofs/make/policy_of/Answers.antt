use Rattle.std.proofs.Common.{◌∙◌, map, ap}
use Rattle.enc_config.specs.Policies.{table_of}
use Rattle.enc_config.proofs.Made.{sizes, take_whole}
use Rattle.enc_config.proofs.make.policy_of.Goals as goal

pub new-requires : goal.new-requires
new-requires c = sizes c.args.schemas.now _ (c.from_vec.ensures ∙ c.each.invariant ∙ ap (map table_of) (take_whole _ _ c.each-test.false)) c.requires.sizes c.requires.each
