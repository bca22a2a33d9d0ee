-- Pieces behind their lengths.
use Rattle.std.specs.Prelude.{ℕ, List, map, drop, Option, option_map}

-- the pieces that stand behind lengths of 4 bytes
abbrev pub behind_lengths : Option (List (List ℕ)) → Option (List (List ℕ))
behind_lengths kept = option_map (map (drop 4)) kept
