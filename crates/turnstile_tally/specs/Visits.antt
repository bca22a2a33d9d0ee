-- Calls of seats at the places of the one history.
use Rattle.std.specs.Prelude.{◌≡◌, ℕ, ◌<◌, ◌++◌, [], ◌∷◌, Some, slice_get}
use Rattle.turnstile.specs.Seats.{Sitting}

module _ {C R : Type 0} where
  -- two calls of one seat stand with their replies at two more places of its own, in the order in which they were made
  pub record StandInOrder (before : Sitting C R) (first : C) (one : R) (second : C) (two : R) (after : Sitting C R) : Type 0 where
    pub i : ℕ
    pub j : ℕ
    pub places : after.places ≡ (before.places ++ i ∷ []) ++ j ∷ []
    pub order : i < j
    pub first_stands : slice_get after.known i ≡ Some (first, one)
    pub second_stands : slice_get after.known j ≡ Some (second, two)

  -- a call of each of two seats stands with its reply at a place of its own in the one history
  pub record StandBoth (seat : Sitting C R) (first : C) (one : R) (other : Sitting C R) (second : C) (two : R) (after : Sitting C R) : Type 0 where
    pub i : ℕ
    pub j : ℕ
    pub places : after.places ≡ (seat.places ++ i ∷ []) ++ (other.places ++ j ∷ [])
    pub apart : i ≡ j → ⊥
    pub first_stands : slice_get after.known i ≡ Some (first, one)
    pub second_stands : slice_get after.known j ≡ Some (second, two)
