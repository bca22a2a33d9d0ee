-- The form of a ring's file: a mark, a nonce, and the sealed body. Numbers are little-endian.
use Rattle.std.specs.Prelude.{ℕ, ◌≡◌, ◌+◌, ◌^◌, ◌<◌, List, [], ◌∷◌, ◌++◌, length, codes}
use Rattle.std.specs.List.{flat_map, AllByRecursion}
use Rattle.std.specs.Int.{w16, w64, to_le_bytes}
use Rattle.acra_base.specs.Client.{IsClientId}
use Rattle.acra_block.specs.Containers.{Sealing}
use Rattle.keystore.specs.declared.phase.OldKey.{OldKey}
use Rattle.keystore.specs.Rings.{ClientKeys, RingState, number_of}
use Rattle.keystore.specs.Kept.{ticket_of, IsKept}

-- a key: its id, the number of its phase, and its bytes
abbrev pub key_bytes : ℕ → ℕ → List ℕ → List ℕ
key_bytes id phase key = to_le_bytes w64 id ++ phase ∷ key

abbrev pub old_bytes : OldKey → List ℕ
old_bytes k = key_bytes k.id (number_of k.phase) k.key

-- a client: its name behind the name's length, the key of its blind indexes, and its keys behind their count, the
-- current one last
abbrev pub client_bytes : ClientKeys → List ℕ
client_bytes c = length c.name ∷ (c.name ++ (c.search ++ (to_le_bytes w16 (length c.past + 1) ++ (flat_map old_bytes c.past ++ key_bytes c.id 0 c.key))))

-- the ring's own keys, the next id, and the clients behind their count
abbrev pub ring_body : RingState → List ℕ
ring_body r =
    r.token_key ++ (r.store_key ++ (r.audit_key ++ (to_le_bytes w64 r.next_id ++ (to_le_bytes w16 (length r.clients) ++ flat_map client_bytes r.clients))))

abbrev pub mark : List ℕ
mark = codes "AKR1"

-- the mark is also what the seal is bound to
abbrev pub ring_file : Sealing → List ℕ → List ℕ → RingState → List ℕ
ring_file sealed master nonce r = mark ++ (nonce ++ sealed master nonce mark (ring_body r))

-- ---- a ring that a file keeps: its tickets aren't kept, so none is out, and each phase began at the first one

pub record IsFileKey (k : OldKey) : Type 0 where
  pub key : length k.key ≡ 32
  pub since : ticket_of k.phase ≡ 1

pub record IsFileClient (c : ClientKeys) : Type 0 where
  pub name : IsClientId c.name
  pub search : length c.search ≡ 32
  pub key : length c.key ≡ 32
  pub past : AllByRecursion IsFileKey c.past

pub record IsFileRing (r : RingState) : Type 0 where
  pub kept : IsKept r
  pub token_key : length r.token_key ≡ 32
  pub store_key : length r.store_key ≡ 32
  pub audit_key : length r.audit_key ≡ 32
  pub fits : r.next_id < 2 ^ 64
  pub clients : AllByRecursion IsFileClient r.clients
  pub first_ticket : r.next_ticket ≡ 1
  pub none_out : r.out ≡ []
