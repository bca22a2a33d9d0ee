-- What a connection in memory tells, while it is whole.
use Rattle.std.specs.Prelude.{ℕ, List, drop, Option, None, Some, if◌then◌else◌}
use Rattle.acra_devices.specs.declared.wire.Wire.{Wire}

-- what reads will give
abbrev pub wire_left : Wire → Option (List ℕ)
wire_left w = if w.whole then Some (drop w.at w.input.items) else None

-- what it has taken
abbrev pub wire_held : Wire → Option (List ℕ)
wire_held w = if w.whole then Some w.taken.items else None
