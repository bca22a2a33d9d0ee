-- The key of a session's client, and the ring that lends it, by the seed.
use Rattle.std.specs.Prelude.{ℕ, List, [], ◌∷◌, take, drop}
use Rattle.rand_chacha.specs.ChaCha.{ChaCha}
use Rattle.acra_devices.specs.Draws.{drawn, seeded}
use Rattle.acra_block.specs.Keys.{Key}
use Rattle.keystore.specs.Rings.{ClientKeys, RingState}

-- the key of the client, whose id is 1, and the generator after it
abbrev pub client_drawn : List ℕ → ℕ → Key × ChaCha
client_drawn client seed =
    let keys = drawn 64 (drawn 96 (seeded seed)).1 in
    (record { owner = client; id = 1; key = take 32 keys.0; search = take 32 (drop 32 keys.0) }, keys.1)

-- the client with this key alone
abbrev pub only_key : Key → ClientKeys
only_key k = record { name = k.owner; search = k.search; id = k.id; key = k.key; past = [] }

-- the ring with that client alone, and the generator after it: its own keys are the bytes before the client's
abbrev pub ring_drawn : List ℕ → ℕ → RingState × ChaCha
ring_drawn client seed =
    let own = (drawn 96 (seeded seed)).0 in
    let keys = client_drawn client seed in
    (record { token_key = take 32 own; store_key = take 32 (drop 32 own); audit_key = take 32 (drop 64 own); clients = only_key keys.0 ∷ []; next_id = 2; next_ticket = 1; out = [] }, keys.1)
