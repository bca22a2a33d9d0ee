use Rattle.std.proofs.Common.{List, subst, sym, ap, ◌∙◌, ◌++◌, ◌∷◌, []}
use Rattle.sql_tokens.specs.declared.token.Placed.{Placed}
use Rattle.sql_tokens.specs.declared.tokens.Entry.{Entry}
use Rattle.sql_tokens.specs.Kept.{AllFit, placed_all}
use Rattle.sql_tokens.proofs.Keeping.{on_err, all_kept, placed_kept, all_pushed, placed_pushed}
use Rattle.sql_tokens.proofs.tokens.Tokens.push.Goals as goal

pub invariant_of-self : goal.invariant_of-self
invariant_of-self c = all_kept _ _ _ _ c.self.inside.entries.items c.mark_of.ensures.bytes c.mark_of.ensures.numbers c.self.invariant

pub returns-in_err-mark-clause-err : goal.returns-in_err-mark-clause-err
returns-in_err-mark-clause-err c = on_err c.from_residual.result (placed_kept _ _ _ _ c.self.inside.entries.items c.mark_of.ensures.bytes c.mark_of.ensures.numbers c.self.invariant ∙ c.self.view_is)

pub invariant_of-self-in_err-push : goal.invariant_of-self-in_err-push
invariant_of-self-in_err-push c =
    subst (λ (es : List Entry). AllFit c.mark_of.new.bytes.items c.mark_of.new.numbers.items es) (sym c.in_err-push.ensures.items)
    (all_kept _ _ _ _ c.self.inside.entries.items c.mark_of.ensures.bytes c.mark_of.ensures.numbers c.self.invariant)

pub returns-in_err-push-clause-err : goal.returns-in_err-push-clause-err
returns-in_err-push-clause-err c =
    on_err c.from_residual-in_err-push.result
    (ap (λ (es : List Entry). placed_all c.mark_of.new.bytes.items c.mark_of.new.numbers.items es) c.in_err-push.ensures.items
    ∙ placed_kept _ _ _ _ c.self.inside.entries.items c.mark_of.ensures.bytes c.mark_of.ensures.numbers c.self.invariant
    ∙ c.self.view_is)

pub invariant_of-self-2 : goal.invariant_of-self-2
invariant_of-self-2 c =
    subst (λ (es : List Entry). AllFit c.mark_of.new.bytes.items c.mark_of.new.numbers.items es) (sym c.in_ok-push.ensures.items)
    (all_pushed _ _ _ _ c.self.inside.entries.items _ c.mark_of.ensures.bytes c.mark_of.ensures.numbers c.self.invariant c.in_ok-mark.ensures.fits)

pub returns-clause-ok : goal.returns-clause-ok
returns-clause-ok c =
    ap (λ (es : List Entry). placed_all c.mark_of.new.bytes.items c.mark_of.new.numbers.items es) c.in_ok-push.ensures.items
    ∙ placed_pushed _ _ _ _ c.self.inside.entries.items _ c.args.placed.token c.mark_of.ensures.bytes c.mark_of.ensures.numbers c.self.invariant c.in_ok-mark.ensures.kept
    ∙ ap (λ (ps : List Placed). ps ++ c.args.placed ∷ []) c.self.view_is
