use Rattle.std.proofs.Common.{◌∙◌, sym, arith}
use Rattle.sql_tokens.proofs.Nesting.{closes, opens, goes_on, never_closed, all_closed}
use Rattle.sql_tokens.proofs.cursor.nested_len.Goals as goal

pub returns-then-depth-eq0-clause-some : goal.returns-then-depth-eq0-clause-some
returns-then-depth-eq0-clause-some c = c.bytes.invariant.same ∙ closes _ c.bytes.at c.bytes-test.true c.bytes.depth c.bytes.invariant.least (sym c.if-are.ensures) ∙ all_closed _ _ c.if-depth-eq0.true

pub bytes-preserved-then-are : goal.bytes-preserved-then-are
bytes-preserved-then-are c = record { same = c.bytes.invariant.same ∙ closes _ c.bytes.at c.bytes-test.true c.bytes.depth c.bytes.invariant.least (sym c.if-are.ensures); within = omega (arith, c.bytes-test.true); least = omega (arith, c.if-depth-eq0.false, c.bytes.invariant.least); most = omega (arith, c.bytes.invariant.most) }

pub bytes-preserved-then-are-2 : goal.bytes-preserved-then-are-2
bytes-preserved-then-are-2 c = record { same = c.bytes.invariant.same ∙ opens _ c.bytes.at c.bytes-test.true c.bytes.depth c.bytes.invariant.least (sym c.if-are.ensures) (sym c.if-are-2.ensures); within = omega (arith, c.bytes-test.true); least = omega arith; most = omega (arith, c.bytes.invariant.most) }

pub bytes-preserved : goal.bytes-preserved
bytes-preserved c = record { same = c.bytes.invariant.same ∙ goes_on _ c.bytes.at c.bytes-test.true c.bytes.depth c.bytes.invariant.least (sym c.if-are.ensures) (sym c.if-are-2.ensures); within = omega (arith, c.bytes-test.true); least = c.bytes.invariant.least; most = omega (arith, c.bytes.invariant.most) }

pub returns-clause-none : goal.returns-clause-none
returns-clause-none c = c.bytes.invariant.same ∙ never_closed _ c.bytes.at c.bytes.depth (omega (arith, c.bytes-test.false)) c.bytes.invariant.least
