-- What a map of places finds.
use Rattle.std.specs.Prelude.{ℕ, ◌==◌, ◌&&◌, Bool, Option}
use Rattle.std.specs.declared.cmp.Ordering.{Ordering}
use Rattle.std.specs.Ordering.{nat_cmp, ordering_then}
use Rattle.std.specs.BTreeMap.{get}
use Rattle.acra_base.specs.declared.kind.ValueKind.{ValueKind}
use Rattle.token_rule.specs.Rule.{kind_byte}
use Rattle.token_map.specs.declared.place_map.Slot.{Slot}
use Rattle.token_map.specs.declared.place_map.PlaceMap.{PlaceMap}

-- by the kind's byte, then by the token
abbrev pub slot_cmp : Slot → Slot → Ordering
slot_cmp x y = ordering_then (nat_cmp x.kind y.kind) (nat_cmp x.token y.token)

-- the place at the token, whose kind has this byte
abbrev pub place_at : PlaceMap → ℕ → ℕ → Option ℕ
place_at m kind token = get slot_cmp m.places (record { kind = kind; token = token })

-- this token of this kind
abbrev pub is_at : ValueKind → ℕ → ℕ → ℕ → Bool
is_at kind token k t = (kind_byte kind == k) && (token == t)
