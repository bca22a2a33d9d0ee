-- A body as fields, one behind the other: which bytes may stand as a field, by its own rules and the fields before it.
-- Numbers are little-endian.
use Rattle.std.specs.Prelude.{ℕ, zero, suc, ◌≡◌, ◌==◌, ◌-◌, ◌≤◌, ◌<◌, ◌⊎◌, Bool, true, false, List, [], ◌∷◌, ◌++◌, length, take, drop, Option, Some, None}
use Rattle.std.specs.List.{flat_map, list_all, list_any}
use Rattle.std.specs.Int.{w16, w64, from_le_bytes}
use Rattle.std.specs.declared.cmp.Ordering.TheVariants.{Less}
use Rattle.acra_base.specs.Client.{is_id_byte}
use Rattle.keystore.specs.Rings.{name_cmp}

-- what the fields before say that bears on those to come
pub record Told : Type 0 where
  -- the id that the next key of the ring gets
  pub next : ℕ
  -- the name before, where there is one
  pub name : Option (List ℕ)
  -- the id before in the same client, or 0
  pub last : ℕ
  -- all ids before
  pub taken : List ℕ

-- the field that is awaited; left is how many clients are yet to come, and more how many keys of the same client
pub data Awaits : Type 0 where
  TokenKey : Awaits
  StoreKey : Awaits
  AuditKey : Awaits
  NextId : Awaits
  ClientCount : (next : ℕ) → Awaits
  -- the end, where no client is left
  NameLength : (told : Told) (left : ℕ) → Awaits
  Name : (told : Told) (left : ℕ) (count : ℕ) → Awaits
  SearchKey : (told : Told) (left : ℕ) → Awaits
  KeyCount : (told : Told) (left : ℕ) → Awaits
  Id : (told : Told) (left : ℕ) (more : ℕ) → Awaits
  Phase : (told : Told) (left : ℕ) (more : ℕ) → Awaits
  KeyBytes : (told : Told) (left : ℕ) (more : ℕ) → Awaits

abbrev pub number16 : List ℕ → ℕ
number16 = from_le_bytes w16

abbrev pub number64 : List ℕ → ℕ
number64 = from_le_bytes w64

abbrev pub ComesAfter : Option (List ℕ) → List ℕ → Type 0
ComesAfter None name = Unit {0}
ComesAfter (Some before) name = name_cmp before name ≡ Less

abbrev pub is_among : ℕ → List ℕ → Bool
is_among id ids = list_any (λ i. i == id) ids

-- these bytes may stand as the field that is awaited, and what is awaited behind it
abbrev pub Follows : Awaits → List ℕ → Awaits → Type 0
Follows Awaits.TokenKey field after = (length field ≡ 32) × (after ≡ Awaits.StoreKey)
Follows Awaits.StoreKey field after = (length field ≡ 32) × (after ≡ Awaits.AuditKey)
Follows Awaits.AuditKey field after = (length field ≡ 32) × (after ≡ Awaits.NextId)
Follows Awaits.NextId field after = (length field ≡ 8) × (1 ≤ number64 field) × (after ≡ Awaits.ClientCount (number64 field))
-- at most 256 clients
Follows (Awaits.ClientCount next) field after =
    (length field ≡ 2) × (number16 field ≤ 256) × (after ≡ Awaits.NameLength (record { next = next; name = None; last = 0; taken = [] }) (number16 field))
Follows (Awaits.NameLength told zero) field after = ⊥
Follows (Awaits.NameLength told (suc left)) field after = (count : ℕ) × (field ≡ count ∷ []) × (1 ≤ count) × (count ≤ 64) × (after ≡ Awaits.Name told left count)
-- names ascend
Follows (Awaits.Name told left count) field after =
    (length field ≡ count) × (list_all is_id_byte field ≡ true) × ComesAfter told.name field × (after ≡ Awaits.SearchKey (record told { name = Some field }) left)
Follows (Awaits.SearchKey told left) field after = (length field ≡ 32) × (after ≡ Awaits.KeyCount told left)
-- 1 to 256 keys
Follows (Awaits.KeyCount told left) field after = (length field ≡ 2) × (1 ≤ number16 field) × (number16 field ≤ 256) × (after ≡ Awaits.Id told left (number16 field - 1))
-- ids ascend within a client from 1 on, are below the next one, and stand nowhere before
Follows (Awaits.Id told left more) field after =
    (length field ≡ 8) × (told.last < number64 field) × (number64 field < told.next) × (is_among (number64 field) told.taken ≡ false)
    × (after ≡ Awaits.Phase (record told { last = number64 field; taken = told.taken ++ number64 field ∷ [] }) left more)
-- the last key of a client is current, those before it drain or are swept
Follows (Awaits.Phase told left zero) field after = (field ≡ 0 ∷ []) × (after ≡ Awaits.KeyBytes told left zero)
Follows (Awaits.Phase told left (suc more)) field after = ((field ≡ 1 ∷ []) ⊎ (field ≡ 2 ∷ [])) × (after ≡ Awaits.KeyBytes told left (suc more))
Follows (Awaits.KeyBytes told left zero) field after = (length field ≡ 32) × (after ≡ Awaits.NameLength (record told { last = 0 }) left)
Follows (Awaits.KeyBytes told left (suc more)) field after = (length field ≡ 32) × (after ≡ Awaits.Id told left more)

-- these fields may stand one behind the other
abbrev pub Fields : Awaits → List (List ℕ) → Awaits → Type 0
Fields start [] end = start ≡ end
Fields start (field ∷ fields) end = (next : Awaits) × Follows start field next × Fields next fields end

abbrev pub joined : List (List ℕ) → List ℕ
joined fields = flat_map (λ field. field) fields

-- no client is left
abbrev pub IsEnd : Awaits → Type 0
IsEnd (Awaits.NameLength told zero) = Unit {0}
IsEnd other = ⊥

-- the body is made of fields from the start to the end
pub record IsWhole (body : List ℕ) : Type 0 where
  pub fields : List (List ℕ)
  pub at : Awaits
  pub follow : Fields Awaits.TokenKey fields at
  pub ended : IsEnd at
  pub parts : body ≡ joined fields

abbrev pub NoField : Awaits → List ℕ → Type 0
NoField at bytes = (field more : List ℕ) (after : Awaits) → Follows at field after → bytes ≡ field ++ more → ⊥

-- fields from the start make the bytes before this place, and at it begins no field that may stand there; behind the
-- end there is a byte
pub record IsFaultPlace (body : List ℕ) (place : ℕ) : Type 0 where
  pub fields : List (List ℕ)
  pub at : Awaits
  pub follow : Fields Awaits.TokenKey fields at
  pub before : take place body ≡ joined fields
  pub within : place ≤ length body
  pub none : NoField at (drop place body)
  pub behind : IsEnd at → place < length body
