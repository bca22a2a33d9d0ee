-- The generator whose listed calls fail.
use Rattle.std.specs.Prelude.{ℕ, List}
use Rattle.rand_chacha.specs.ChaCha.{ChaCha}
use Rattle.acra_devices.specs.declared.seeding.SeedRandom.{SeedRandom}

-- its generator
abbrev pub seed_state : SeedRandom → ChaCha
seed_state r = r.random

-- the numbers of the calls that fail
abbrev pub seed_failing : SeedRandom → List ℕ
seed_failing r = r.calls.failing.items

-- how many calls were made
abbrev pub seed_calls : SeedRandom → ℕ
seed_calls r = r.calls.made
