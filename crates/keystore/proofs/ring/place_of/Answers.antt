use Rattle.std.proofs.Common.{rules}
use Rattle.std.proofs.lemmas.Fn.{always_returns_same}
use Rattle.keystore.specs.declared.client.Client.{Client}
use Rattle.keystore.specs.Rings.{name_cmp}
use Rattle.keystore.proofs.Names.{searched}
use Rattle.keystore.proofs.ring.place_of.Goals as goal

pub returns : goal.returns
returns c =
    let facts = c.binary_search_by.ensures in
    searched c.args.who.now c.args.clients.now c.requires _ facts.bound (facts.position (λ (d : Client). name_cmp d.name c.args.who.now) (always_returns_same _ _ _ (λ a r g called. search rules)))
