use Rattle.std.proofs.Common.{◌∙◌, ap, sym, map}
use Rattle.sql_tree.specs.declared.statement.OrderKey.{OrderKey}
use Rattle.table_machine.specs.Faults.{first, item_names, where_names, set_names, names_in}
use Rattle.table_binder.specs.Naming.{is_unknown}
use Rattle.table_binder.proofs.Firsts.{two}
use Rattle.table_binder.proofs.names.unknown_name.Goals as goal

pub returns-in-Select : goal.returns-in-Select
returns-in-Select c =
    let p = is_unknown c.args.columns.now in
    c.or_else-in-Select.ensures
    ∙ two p (item_names c.in-Select.items) _ _ _ c.unknown_in_items.ensures
    (c.or_else.ensures ∙ two p (where_names c.in-Select.cond) _ _ _ c.unknown_in_where.ensures (c.unknown_in.ensures ∙ ap (λ ks. first p (map (λ (k : OrderKey). k.column) ks)) c.as_slice.ensures))
    ∙ sym (ap (λ t. first p (names_in t)) c.in-Select.is)

pub returns-in-Update : goal.returns-in-Update
returns-in-Update c =
    let p = is_unknown c.args.columns.now in
    c.or_else-in-Update.ensures
    ∙ two p (set_names c.in-Update.sets) _ _ _ (c.unknown_in-in-Update.ensures ∙ ap (λ ss. first p (set_names ss)) c.as_slice-in-Update.ensures) c.unknown_in_where-in-Update.ensures
    ∙ sym (ap (λ t. first p (names_in t)) c.in-Update.is)
