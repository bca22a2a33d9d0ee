use Rattle.std.proofs.Common.{sym, ◌∙◌, true≢false}
use Rattle.std.proofs.lemmas.Int.{to_z-of_z}
use mir.Syntax.{w64}
use Rattle.plain_values.proofs.Integers.{fits_from_range}
use Rattle.plain_values.proofs.Spelled.{is_number}
use Rattle.plain_values.proofs.spelling.canonical_number.Goals as goal

pub number_of-requires : goal.number_of-requires
number_of-requires c = (is_number c.args.kind c.args.plain.now c.requires.canonical c.requires.integer).text

pub unreachable-requires : goal.unreachable-requires
unreachable-requires c = true≢false (sym ((is_number c.args.kind c.args.plain.now c.requires.canonical c.requires.integer).wide) ∙ c.in-None.ensures)

pub returns-clause-within : goal.returns-clause-within
returns-clause-within c =
    let number = is_number c.args.kind c.args.plain.now c.requires.canonical c.requires.integer in
    rw (c.in-Some.ensures, to_z-of_z w64 _ (fits_from_range _ number.wide)) number.range
