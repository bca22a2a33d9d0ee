use Rattle.std.proofs.Common.{rules, ◌≡◌, ℕ, zero, suc, ◌+◌, ◌-◌, ◌*◌, length, ap, ◌∙◌, refl, arith, length-append, suc-mul}
use Rattle.turnstile_tally.proofs.crowd.+count_all+fn-count_all-join+arg3.Goals as goal

-- one thread more
one_more : (threads each : ℕ) → (threads ≡ 0 → ⊥) → each + (threads - 1) * each ≡ threads * each
one_more zero each some = absurd (some refl)
one_more (suc n) each some = let same : suc n - 1 ≡ n = omega arith in rw same (omega (arith, suc-mul n each))

pub returns-clause-places : goal.returns-clause-places
returns-clause-places g t c =
    let joined = c.join.ensures.seat in
    let mine : length c.join-one.result.0.places ≡ length c.args.seat.places + c.args.each = search rules in
    let others : length c.in_ok-other.other.places ≡ 0 = ap (λ s. length s.places) c.in_ok-other.ensures.new in
    let theirs : length c.in_ok-rest.field-0.places ≡ length c.in_ok-other.other.places + (c.args.threads - 1) * c.args.each = search rules in (
      ap length joined.places ∙ (length-append c.join-one.result.0.places c.in_ok-rest.field-0.places ∙ omega (arith, mine, theirs, others, one_more c.args.threads c.args.each c.if-threads-eq0.false)),
      joined.once,
    )
