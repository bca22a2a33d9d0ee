-- What a map of places finds after a change at one token.
use Rattle.std.proofs.Common.{◌≡◌, ℕ, Bool, ◌&&◌, ◌==◌, Option, cond, sym, ap, ◌∙◌}
use Rattle.std.specs.declared.cmp.Ordering.{Ordering}
use Rattle.std.specs.Ordering.{is_eq, nat_cmp, ordering_then}
use Rattle.std.specs.Cmp.{tied_then, unsigned_ties}
use Rattle.std.specs.BTreeMap.{UpdatesBy}
use Rattle.acra_base.specs.declared.kind.ValueKind.{ValueKind}
use Rattle.token_rule.specs.Rule.{kind_byte}
use Rattle.token_map.specs.declared.place_map.Slot.{Slot}
use Rattle.token_map.specs.declared.place_map.PlaceMap.{PlaceMap}
use Rattle.token_map.specs.PlaceMaps.{slot_cmp, place_at, is_at}

both_tie : (a b : Bool) (p q : Ordering) → a ≡ is_eq p → b ≡ is_eq q → is_eq (ordering_then p q) ≡ (a && b)
both_tie a b p q e f = rw (e, f) (sym (tied_then p q))

slot_ties : (x y : Slot) → is_eq (slot_cmp x y) ≡ ((x.kind == y.kind) && (x.token == y.token))
slot_ties x y = both_tie (x.kind == y.kind) (x.token == y.token) (nat_cmp x.kind y.kind) (nat_cmp x.token y.token) (unsigned_ties x.kind y.kind) (unsigned_ties x.token y.token)

pub placed : (kind : ValueKind) (token : ℕ) (s : Slot) → s ≡ record { kind = kind_byte kind; token = token }
    → (m n : PlaceMap) (w : Option ℕ) → UpdatesBy slot_cmp (slot_cmp s) m.places n.places w
    → (k t : ℕ) → place_at n k t ≡ cond (is_at kind token k t) w (place_at m k t)
placed kind token s e m n w h k t =
    h.0 (record { kind = k; token = t })
    ∙ ap (λ b. cond b w (place_at m k t)) (slot_ties s (record { kind = k; token = t }) ∙ ap (λ (x : Slot). (x.kind == k) && (x.token == t)) e)
