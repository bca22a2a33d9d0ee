use Rattle.std.proofs.Common.{◌≡◌, ◌/◌, ◌%◌, ◌^◌, ap, ◌∙◌, arith, rules, bit_and}
use lib.Bits.{and_mask}
use Rattle.acra_crypto.specs.Nibbles.{fours, nibble_product, tables_of}
use Rattle.acra_crypto.proofs.Linear.{table_entry}
use Rattle.acra_crypto.proofs.ghash.HashKey.entry.Goals as goal

pub returns : goal.returns
returns c =
    let h = c.args.self.now.h in
    let from = c.args.word / 2 ^ c.args.low in
    let made : c.args.self.now.tables ≡ tables_of h = search rules in
    let low : bit_and from 15 ≡ from % 16 = and_mask from 4 in
    table_entry c.args.self.now.tables h c.args.place (bit_and from 15) made c.requires.place (omega (arith, low)) ∙ ap (nibble_product (fours c.args.place h)) low
