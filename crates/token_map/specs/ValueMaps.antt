-- What a map of values finds.
use Rattle.std.specs.Prelude.{ℕ, List, Option}
use Rattle.std.specs.declared.cmp.Ordering.{Ordering}
use Rattle.std.specs.Ordering.{nat_cmp}
use Rattle.std.specs.Cmp.Lexicographic.{slice_cmp}
use Rattle.std.specs.BTreeMap.{get_by}
use Rattle.std.specs.declared.vec.Vec.{Vec}
use Rattle.token_map.specs.declared.value_map.ValueMap.{ValueMap}

-- by the bytes
abbrev pub key_cmp : {Z : Type 0} → Vec ℕ Z → Vec ℕ Z → Ordering
key_cmp x y = slice_cmp nat_cmp x.items y.items

-- the token at the key of these bytes
abbrev pub token_at : ValueMap → List ℕ → Option ℕ
token_at m key = get_by (λ k. slice_cmp nat_cmp key k.items) m.tokens
