-- The keepers in memory.
use Rattle.std.specs.Prelude.{ℕ, Bool, List, Option}
use Rattle.acra_devices.specs.declared.keeping.SureKeeper.{SureKeeper}
use Rattle.acra_devices.specs.declared.keeping.MemKeeper.{MemKeeper}
use Rattle.acra_devices.specs.Shelves.{shelf_kept}

-- the pieces that it keeps
abbrev pub sure_kept : SureKeeper → Option (List (List ℕ))
sure_kept k = shelf_kept k.shelf

-- whether it tells them
abbrev pub sure_keeper_whole : SureKeeper → Bool
sure_keeper_whole k = k.shelf.whole

abbrev pub mem_kept : MemKeeper → Option (List (List ℕ))
mem_kept k = shelf_kept k.shelf

abbrev pub mem_keeper_whole : MemKeeper → Bool
mem_keeper_whole k = k.shelf.whole

-- the numbers of the calls that fail
abbrev pub keeper_failing : MemKeeper → List ℕ
keeper_failing k = k.calls.failing.items

-- how many calls were made
abbrev pub keeper_calls : MemKeeper → ℕ
keeper_calls k = k.calls.made
