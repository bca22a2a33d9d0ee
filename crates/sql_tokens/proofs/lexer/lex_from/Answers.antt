use Rattle.std.proofs.Common.{◌∷◌, ◌++◌, [], sym, ◌∙◌, ap, length, ◌-◌}
use Rattle.std.specs.Prelude.{Some, None}
use Rattle.std.proofs.lemmas.List.{append-nil}
use Rattle.sql_tokens.proofs.Whole.{none_yet, one_more, whole_end, whole_bad, from_place}
use Rattle.sql_tokens.proofs.lexer.lex_from.Goals as goal

pub pieces-init : goal.pieces-init
pieces-init c = none_yet _ _ _ _ c.requires.inside (c.new-cursor.ensures ∙ from_place c.args.text.now c.args.from)

pub returns-in-End-clause-lexes : goal.returns-in-End-clause-lexes
returns-in-End-clause-lexes c = let front = rw c.in-Ok.is at c.front.ensures.reads in let h = rw c.in-End.is at front in whole_end _ _ _ _ _ c.pieces.invariant h.0

pub pieces-preserved-in-Gap : goal.pieces-preserved-in-Gap
pieces-preserved-in-Gap c = let front = rw c.in-Ok.is at c.front.ensures.reads in let h = rw c.in-Gap.is at front in one_more _ _ _ _ _ _ _ None c.pieces.invariant h (sym (append-nil c.pieces.tokens))

pub pieces-preserved : goal.pieces-preserved
pieces-preserved c = let front = rw c.in-Ok.is at c.front.ensures.reads in let h = rw c.in-Token.is at front in one_more _ _ _ _ _ _ _ (Some c.in-Token.token) c.pieces.invariant h ((rw c.in-Ok-push.is at c.push.ensures.ok) ∙ ap (λ n. c.pieces.tokens ++ record { token = c.in-Token.token; place = length c.args.text.now - n } ∷ []) c.len.ensures)

pub returns-in-Bad-clause-lexes : goal.returns-in-Bad-clause-lexes
returns-in-Bad-clause-lexes c = let front = rw c.in-Ok.is at c.front.ensures.reads in let h = rw c.in-Bad.is at front in whole_bad _ _ _ _ _ _ c.pieces.invariant h ((rw c.in-Ok.is at c.front.ensures.some) c.in-Bad.is) c.len.ensures
