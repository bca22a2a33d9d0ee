-- A tally: two counts, of which each call raises one.
use Rattle.std.specs.Prelude.{◌≡◌, ℕ, ◌+◌, ◌^◌, ◌-◌, min, List, [], ◌∷◌}
use Rattle.turnstile_tally.specs.declared.machine.Side.{Side}
use Rattle.turnstile_tally.specs.declared.machine.Side.TheVariants.{Left, Right}
use Rattle.turnstile_tally.specs.declared.machine.Tally.{Tally}

abbrev pub more : ℕ → ℕ
more n = min (n + 1) (2 ^ 64 - 1)

abbrev pub raised : Tally → Side → Tally
raised t Left = record { left = more t.left; right = t.right }
raised t Right = record { left = t.left; right = more t.right }

abbrev pub count : Tally → Side → ℕ
count t Left = t.left
count t Right = t.right

-- a call raises its side, and is answered by the counts
abbrev pub Counts : Tally → Side → Tally → Tally → Type 0
Counts before side reply after = (after ≡ raised before side) × (reply ≡ after)

abbrev pub other : Side → Side
other Left = Right
other Right = Left

abbrev pub is : Side → Side → ℕ
is Left Left = 1
is Left Right = 0
is Right Left = 0
is Right Right = 1

-- how many entries of the history are calls of the side
abbrev pub calls : Side → List (Side × Tally) → ℕ
calls side [] = 0
calls side (e ∷ es) = is side e.0 + calls side es
