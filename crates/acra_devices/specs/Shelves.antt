-- What keepers in memory tell.
use Rattle.std.specs.Prelude.{ℕ, List, Option, None, Some, if◌then◌else◌}
use Rattle.acra_devices.specs.declared.shelf.Shelf.{Shelf}

-- the pieces, while it is whole
abbrev pub shelf_kept : Shelf → Option (List (List ℕ))
shelf_kept s = if s.whole then Some s.pieces.items else None
