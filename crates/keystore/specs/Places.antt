-- Where an item stands in a list.
use Rattle.std.specs.Prelude.{ℕ, ◌≡◌, ◌<◌, ◌≤◌, Bool, true, false, List, length, slice_index_or, Option, Some, None, Result, Ok, Err}
use Rattle.std.specs.declared.cmp.Ordering.TheVariants.{Less, Greater}
use Rattle.keystore.specs.Lists.{first}
use Rattle.keystore.specs.Rings.{ClientKeys, name_cmp}

-- the first item that passes stands there
pub record Stands {A : Type 0} (p : A → Bool) (xs : List A) (i : ℕ) : Type 0 where
  pub within : i < length xs
  pub passes : (d : A) → p (slice_index_or xs i d) ≡ true
  pub before : (k : ℕ) (d : A) → k < i → p (slice_index_or xs k d) ≡ false

abbrev pub IsPlace : {A : Type 0} → (A → Bool) → List A → Option ℕ → Type 0
IsPlace p xs (Some i) = Stands p xs i
IsPlace p xs None = first p xs ≡ None

-- the client of this name would go there
pub record Fits (who : List ℕ) (clients : List ClientKeys) (i : ℕ) : Type 0 where
  pub within : i ≤ length clients
  pub before : (k : ℕ) (d : ClientKeys) → k < i → name_cmp (slice_index_or clients k d).name who ≡ Less
  pub after : (k : ℕ) (d : ClientKeys) → i ≤ k → k < length clients → name_cmp (slice_index_or clients k d).name who ≡ Greater

-- the client of this name stands there
pub record IsClientAt (who : List ℕ) (clients : List ClientKeys) (i : ℕ) : Type 0 where
  pub within : i < length clients
  pub before : (k : ℕ) (d : ClientKeys) → k < i → name_cmp (slice_index_or clients k d).name who ≡ Less
  pub same : (d : ClientKeys) → (slice_index_or clients i d).name ≡ who

abbrev pub IsPlaced : List ℕ → List ClientKeys → Result ℕ ℕ → Type 0
IsPlaced who clients (Ok i) = IsClientAt who clients i
IsPlaced who clients (Err i) = Fits who clients i
