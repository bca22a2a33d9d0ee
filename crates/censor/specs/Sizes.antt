-- The sizes of a censor.
use Rattle.std.specs.Prelude.{ℕ, ◌+◌, ◌-◌, ◌≤◌, ◌<◌, List, length}
use Rattle.std.specs.List.{HoldsAt}
use Rattle.censor.specs.declared.handler.Handler.{Handler}

-- at most 1,024 entries in each of the three lists
pub record AreFew (h : Handler) : Type 0 where
  pub queries : h.queries ≤ 1024
  pub tables : h.tables ≤ 1024
  pub within : h.queries + h.tables ≤ length h.entries
  pub patterns : length h.entries - h.queries - h.tables ≤ 1024

-- at most 256 handlers
pub record HasSizes (handlers : List Handler) : Type 0 where
  pub most : length handlers ≤ 256
  pub each : (i : ℕ) → i < length handlers → HoldsAt AreFew handlers i
