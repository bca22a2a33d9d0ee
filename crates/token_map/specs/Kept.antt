-- That the maps find what the list has.
use Rattle.std.specs.Prelude.{ℕ, ◌≡◌, List}
use Rattle.token_rule.specs.Entries.{Entry}
use Rattle.token_map.specs.declared.place_map.PlaceMap.{PlaceMap}
use Rattle.token_map.specs.declared.value_map.ValueMap.{ValueMap}
use Rattle.token_map.specs.Index.{place_of, is_slot, keyed_token}
use Rattle.token_map.specs.PlaceMaps.{place_at}
use Rattle.token_map.specs.ValueMaps.{token_at}
use Rattle.token_map.specs.Made.{IsMade}

pub record IsKept (entries : List Entry) (by_token : PlaceMap) (by_value : ValueMap) : Type 0 where
  pub places : (kind token : ℕ) → place_at by_token kind token ≡ place_of (is_slot kind token) entries
  pub tokens : (key : List ℕ) → token_at by_value key ≡ keyed_token entries key
  pub made : IsMade entries
