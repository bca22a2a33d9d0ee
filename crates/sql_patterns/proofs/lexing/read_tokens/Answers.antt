use Rattle.std.proofs.Common.{◌∙◌, sym, ap, arith}
use Rattle.std.specs.Prelude.{◌+◌}
use Rattle.sql_patterns.proofs.Segments.{none_yet, whole, place_within, no_hole, one_more, less_left}
use Rattle.sql_patterns.proofs.lexing.read_tokens.Goals as goal

pub segments-init : goal.segments-init
segments-init c = none_yet _ _ c.new-tokens.ensures

pub returns-in_default-fault : goal.returns-in_default-fault
returns-in_default-fault c = whole c.args.text.now c.segments.tokens c.segments.from c.segments.invariant _ (rw c.in_default-fault.is at c.in-Ok.ensures.lexes)

pub hole_at-requires : goal.hole_at-requires
hole_at-requires c =
    let h = place_within c.args.text.now c.segments.tokens c.segments.from c.segments.invariant _ c.in-Some.place (rw c.in-Some.is at c.in-Ok.ensures.lexes) in
    let high = h.1 in omega arith

pub returns-in_default-hole_at : goal.returns-in_default-hole_at
returns-in_default-hole_at c =
    no_hole c.args.text.now c.segments.tokens c.segments.from c.segments.invariant _ c.in-Some.place (rw c.in-Some.is at c.in-Ok.ensures.lexes)
    (sym c.hole_at.ensures.whole ∙ c.in_default-hole_at.is)

pub segments-smaller : goal.segments-smaller
segments-smaller c =
    less_left c.args.text.now c.segments.from c.in-Some.place c.len.result c.in-Some-hole_at.hole
    (place_within c.args.text.now c.segments.tokens c.segments.from c.segments.invariant _ c.in-Some.place (rw c.in-Some.is at c.in-Ok.ensures.lexes)) c.len.ensures

pub segments-preserved : goal.segments-preserved
segments-preserved c =
    one_more c.args.text.now c.segments.tokens c.segments.from c.segments.invariant _ c.in-Some.place (rw c.in-Some.is at c.in-Ok.ensures.lexes) c.in-Some-hole_at.hole _ _
    (sym c.hole_at.ensures.whole ∙ c.in-Some-hole_at.is) c.in-Some-hole_at.ensures.inside c.in-Ok-push_hole.ensures (ap (λ n. c.in-Some.place + n) c.len.ensures)
