use Rattle.std.proofs.Common.{◌≡◌, false, ◌∙◌, sym, ap}
use Rattle.audit_chain.specs.Points.{Point}
use Rattle.audit_chain.proofs.Behind.{appended_stands}
use Rattle.audit_chain.proofs.chain.Chain.append.Goals as goal

pub returns-in-Ok-append-clause-stands : goal.returns-in-Ok-append-clause-stands
returns-in-Ok-append-clause-stands g c key lines s =
    let goes : c.args.self.now.ended ≡ false = ap (λ (p : Point). p.ended) (sym c.self.view_is) ∙ c.if-self.false in
    appended_stands key lines c.args.self.now c.advance.new.self c.args.note.now c.in-Ok.line.mac s c.in-Ok.ensures.formed goes c.in-Ok.ensures.mac c.advance.ensures
