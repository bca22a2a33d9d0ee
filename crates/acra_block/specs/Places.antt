-- Where cells stand, and the extra data that their seals are bound to.
use Rattle.std.specs.Prelude.{ℕ, ◌≡◌, ◌==◌, if◌then◌else◌, List, ◌∷◌, ◌++◌, true}
use Rattle.acra_base.specs.Names.{is_name}
use Rattle.acra_block.specs.declared.place.CellPlace.{CellPlace}

-- the owner's name, and from version 2 on a zero byte, the table's name, a zero byte and the column's name
abbrev pub extra_of : ℕ → CellPlace → List ℕ → List ℕ
extra_of version place owner = if version == 2 then owner ++ (0 ∷ (place.table ++ (0 ∷ place.column))) else owner

-- a column of a table
pub record IsPlace (place : CellPlace) : Type 0 where
  pub table : is_name place.table ≡ true
  pub column : is_name place.column ≡ true

-- a seal under a key and a nonce that is one for two extras, which no clause of a lawful cipher excludes
pub record SealsTwo (sealed : List ℕ → List ℕ → List ℕ → List ℕ → List ℕ) (extra other : List ℕ) : Type 0 where
  pub key : List ℕ
  pub nonce : List ℕ
  pub value : List ℕ
  pub another : List ℕ
  pub apart : extra ≡ other → ⊥
  pub same : sealed key nonce extra value ≡ sealed key nonce other another
