-- How many bytes are drawn.
use Rattle.std.proofs.Common.{◌≡◌, ℕ, ◌*◌, zero, suc, length, ◌∙◌, arith, refl}
use Rattle.std.specs.Int.{w32, to_le_bytes}
use Rattle.std.proofs.lemmas.List.{length-append, length-take}
use Rattle.rand_core.specs.Steps.{word_bytes}
use Rattle.rand_chacha.specs.ChaCha.{ChaCha, next_word}
use Rattle.acra_devices.specs.Draws.{drawn}

le_4 : (n : ℕ) → length (to_le_bytes w32 n) ≡ 4
le_4 n = refl

word_bytes_length : (step : ChaCha → ℕ × ChaCha) (k : ℕ) (g : ChaCha) → length (word_bytes (to_le_bytes w32) step k g).0 ≡ 4 * k
unfolding word_bytes
word_bytes_length step zero g = refl
word_bytes_length step (suc k) g =
    let before = word_bytes (to_le_bytes w32) step k g in
    omega (arith, length-append before.0 (to_le_bytes w32 (step before.1).0), word_bytes_length step k g, le_4 (step before.1).0)

pub drawn_length : (g : ChaCha) → length (drawn 56 g).0 ≡ 56
drawn_length g = length-take 56 (word_bytes (to_le_bytes w32) (next_word 10) 14 g).0 ∙ omega (arith, word_bytes_length (next_word 10) 14 g)
