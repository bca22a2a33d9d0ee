-- What the stream of a generator gives is what the generator draws.
use Rattle.std.proofs.Common.{◌≡◌, ℕ, List, length, ap, sym, ◌∙◌, refl}
use Rattle.rand_core.specs.Stream.{fill_bytes}
use Rattle.rand_core.specs.Steps.{stream_of, steps_u32}
use Rattle.rand_chacha.specs.ChaCha.{ChaCha, next_word}
use Rattle.acra_devices.specs.Draws.{drawn}

stream_drawn : (n : ℕ) (g : ChaCha) → fill_bytes n (stream_of (steps_u32 (next_word 10)) g) ≡ ((drawn n g).0, stream_of (steps_u32 (next_word 10)) (drawn n g).1)
unfolding fill_bytes stream_of
stream_drawn n g = refl

pub told_draw : (n : ℕ) (g h : ChaCha) (out : List ℕ) → length out ≡ n → (out, h) ≡ drawn n g → (out, stream_of (steps_u32 (next_word 10)) h) ≡ fill_bytes (length out) (stream_of (steps_u32 (next_word 10)) g)
told_draw n g h out l e =
    ap (λ (p : List ℕ × ChaCha). (p.0, stream_of (steps_u32 (next_word 10)) p.1)) e ∙ sym (stream_drawn n g) ∙ ap (λ (k : ℕ). fill_bytes k (stream_of (steps_u32 (next_word 10)) g)) (sym l)
