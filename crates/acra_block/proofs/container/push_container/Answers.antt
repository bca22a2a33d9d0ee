use Rattle.std.proofs.Common.{ℕ, List, ◌++◌, length, ap, ◌∙◌, rules}
use Rattle.acra_block.specs.Containers.{header, data_key, key_nonce, value_nonce}
use Rattle.acra_block.proofs.Pieces.{five_pieces}
use Rattle.acra_block.proofs.container.push_container.Goals as goal

pub returns : goal.returns
returns g c =
    let sealed = g.A.Aead.sealed c.args.aead.now in
    let k = c.args.key.now in
    let extra = c.args.extra.now in
    let version = c.args.version in
    let drawn = c.args.draws.now in
    let plain = c.args.plain.now in
    five_pieces c.args.out.now.items c.extend_from_slice.new.self.items c.extend_from_slice-2.new.self.items c.seal.new.out.items c.extend_from_slice-3.new.self.items c.seal-2.new.out.items
    (header version k.id (length plain)) (key_nonce drawn) (sealed k.key (key_nonce drawn) extra (data_key drawn)) (value_nonce drawn) (sealed (data_key drawn) (value_nonce drawn) extra plain)
    (c.in_ok-extend_from_slice.ensures.items ∙ ap (λ (xs : List ℕ). c.args.out.now.items ++ xs) (c.header.ensures ∙ ap (λ (n : ℕ). header version n (length plain)) c.id.ensures.value))
    (search rules) (search rules) (search rules) (search rules)
