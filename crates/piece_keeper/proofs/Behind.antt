-- A failure of one's own beside the counted failures of the keeper below.
use Rattle.std.proofs.Common.{◌≡◌, ℕ, ◌+◌, ◌-◌, ◌^◌, ◌≤◌, min, Err, arith}
use Rattle.acra_devices.specs.Causes.{HasCause}

pub cause_own : {T E : Type 0} (b c f n : ℕ) (e : E) → c ≡ b → f ≤ n → n ≡ min (f + 1) (2 ^ 64 - 1) → HasCause {T = T} (b + f) (c + n) (Err e)
cause_own b c f n e same later is = record { later = omega (arith, same, later); stayed = tt; failed = omega (arith, same, later, is) }
