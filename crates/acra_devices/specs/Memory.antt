-- The devices in memory.
use Rattle.std.specs.Prelude.{ℕ, Bool, List, Option}
use Rattle.acra_devices.specs.declared.memory.SureLink.{SureLink}
use Rattle.acra_devices.specs.declared.memory.MemLink.{MemLink}
use Rattle.acra_devices.specs.Wires.{wire_left, wire_held}

-- what reads will give
abbrev pub sure_left : SureLink → Option (List ℕ)
sure_left s = wire_left s.wire

-- what it has taken
abbrev pub sure_held : SureLink → Option (List ℕ)
sure_held s = wire_held s.wire

-- whether it tells its content
abbrev pub sure_whole : SureLink → Bool
sure_whole s = s.wire.whole

abbrev pub mem_left : MemLink → Option (List ℕ)
mem_left s = wire_left s.wire

abbrev pub mem_held : MemLink → Option (List ℕ)
mem_held s = wire_held s.wire

abbrev pub mem_whole : MemLink → Bool
mem_whole s = s.wire.whole

-- the numbers of the calls that fail
abbrev pub mem_failing : MemLink → List ℕ
mem_failing s = s.calls.failing.items

-- how many calls were made
abbrev pub mem_calls : MemLink → ℕ
mem_calls s = s.calls.made
