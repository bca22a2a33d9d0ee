use Rattle.std.proofs.Common.{◌∙◌, ap, sym, map, take}
use Rattle.std.specs.List.{list_any}
use Rattle.table_machine.specs.Columns.{same}
use Rattle.std.proofs.Common.{Some}
use Rattle.table_binder.proofs.Firsts.{again, not_again}
use Rattle.table_binder.proofs.names.twice_in.Goals as goal

pub returns-then-is_among : goal.returns-then-is_among
returns-then-is_among g c =
    ap Some c.name-name.ensures ∙ again g.T.Named.name c.args.items.now c.items.index c.index-items-index.result c.items-test.true c.index-items-index.is c.items.invariant
    (sym (ap (λ n. list_any (same n) (map g.T.Named.name (take c.items.index c.args.items.now))) c.name-name.ensures) ∙ sym c.is_among.ensures ∙ c.if-is_among.true)

pub items-preserved : goal.items-preserved
items-preserved g c =
    not_again g.T.Named.name c.args.items.now c.items.index c.index-items-index.result c.items-test.true c.index-items-index.is c.items.invariant
    (sym (ap (λ n. list_any (same n) (map g.T.Named.name (take c.items.index c.args.items.now))) c.name-name.ensures) ∙ sym c.is_among.ensures ∙ c.if-is_among.false)
