-- The keys of clients.
use Rattle.std.specs.Prelude.{ℕ, ◌==◌, if◌then◌else◌, List, [], ◌∷◌, Option, Some, None}
use Rattle.acra_block.specs.declared.keys.LiveKey.{LiveKey}

-- a client's current key: of its containers, and of its blind indexes
pub record Key : Type 0 where
  pub owner : List ℕ
  pub id : ℕ
  pub key : List ℕ
  pub search : List ℕ

-- the key of this id
abbrev pub key_of : ℕ → List LiveKey → Option (List ℕ)
key_of id [] = None
key_of id (k ∷ ks) = if k.id == id then Some k.key else key_of id ks
