-- Lists of bytes. Under a key of bytes, what a seal of bytes opens to is bytes too.
use Rattle.std.specs.Prelude.{ℕ, zero, suc, ◌≡◌, ◌+◌, ◌-◌, ◌*◌, ◌/◌, ◌%◌, ◌^◌, ◌<◌, ◌≤◌, ◌==◌, Bool, true, false, if◌then◌else◌, List, [], ◌∷◌, ◌++◌, map, length, take, drop, slice_index, bit_xor, Some}
use Rattle.std.specs.List.{AllByRecursion, range_with_len}
use Rattle.std.proofs.Common.{arith, subst}
use Rattle.std.proofs.lemmas.Nat.{xor_of_8}
use Rattle.std.proofs.lemmas.Option.{cond_some}
use Rattle.acra_crypto.specs.Aes.{xtimes, affine_bit, number_of_bits, affine, inverse, sub_byte, block_of, sub_bytes, shift_rows, add_round_key, word, xor_word, rot_word, sub_word, power_of_x, rcon, key_word, next_word, expanded, key_schedule, round_key, last_round, after_rounds, encrypted, aes256}
use Rattle.acra_crypto.specs.Gcm.{inc32, xor_bytes, masked, gctr, block_count, body_of, tag_of, tag, first_counter, gcm_opened, aes256_gcm_opened}
use Rattle.acra_crypto.specs.Trial.{trial_open, masked as trial_masked}

abbrev pub AreBytes : List ℕ → Type 0
AreBytes xs = AllByRecursion (λ b. b < 2 ^ 8) xs

-- ---- parts of lists of bytes

pub byte_at : (xs : List ℕ) (i : ℕ) → AreBytes xs → slice_index xs i < 2 ^ 8
byte_at [] i h = omega arith
byte_at (x ∷ xs) zero h = h.0
byte_at (x ∷ xs) (suc i) h = byte_at xs i h.1

pub bytes_append : (xs ys : List ℕ) → AreBytes xs → AreBytes ys → AreBytes (xs ++ ys)
bytes_append [] ys g h = h
bytes_append (x ∷ xs) ys g h = (g.0, bytes_append xs ys g.1 h)

pub bytes_take : (n : ℕ) (xs : List ℕ) → AreBytes xs → AreBytes (take n xs)
bytes_take zero xs h = tt
bytes_take (suc n) [] h = tt
bytes_take (suc n) (x ∷ xs) h = (h.0, bytes_take n xs h.1)

pub bytes_drop : (n : ℕ) (xs : List ℕ) → AreBytes xs → AreBytes (drop n xs)
bytes_drop zero xs h = h
bytes_drop (suc n) [] h = tt
bytes_drop (suc n) (x ∷ xs) h = bytes_drop n xs h.1

bytes_map : (f : ℕ → ℕ) → ((i : ℕ) → f i < 2 ^ 8) → (is : List ℕ) → AreBytes (map f is)
bytes_map f small [] = tt
bytes_map f small (i ∷ is) = (small i, bytes_map f small is)

bytes_block : (f : ℕ → ℕ) → ((i : ℕ) → f i < 2 ^ 8) → AreBytes (block_of f)
bytes_block f small = bytes_map f small (range_with_len 0 16)

bytes_if : (b : Bool) (xs ys : List ℕ) → AreBytes xs → AreBytes ys → AreBytes (if b then xs else ys)
bytes_if true xs ys g h = g
bytes_if false xs ys g h = h

-- ---- AES

bit_times : (b p : ℕ) → b < 2 → b * p ≤ p
bit_times zero p h = omega arith
bit_times (suc zero) p h = omega arith
bit_times (suc (suc b)) p h = absurd (omega (arith, h))

number_small : (f : ℕ → ℕ) → ((i : ℕ) → f i < 2) → (n : ℕ) → number_of_bits f n < 2 ^ n
unfolding number_of_bits
number_small f bit zero = omega arith
number_small f bit (suc n) = omega (arith, number_small f bit n, bit_times (f n) (2 ^ n) (bit n))

pub sub_byte_small : (b : ℕ) → sub_byte b < 2 ^ 8
unfolding sub_byte affine
sub_byte_small b = number_small (affine_bit (inverse b)) (λ i. omega arith) 8

xtimes_small : (b : ℕ) → b < 2 ^ 8 → xtimes b < 2 ^ 8
unfolding xtimes
xtimes_small b h = xor_of_8 (b * 2 % 256) (b / 128 * 27) (omega arith) (omega (arith, h))

power_small : (n : ℕ) → power_of_x n < 2 ^ 8
unfolding power_of_x
power_small zero = omega arith
power_small (suc n) = xtimes_small (power_of_x n) (power_small n)

zero_small : 0 < 2 ^ 8
zero_small = omega arith

xor_at : (a b : List ℕ) (i j : ℕ) → AreBytes a → AreBytes b → bit_xor (slice_index a i) (slice_index b j) < 2 ^ 8
xor_at a b i j g h = xor_of_8 (slice_index a i) (slice_index b j) (byte_at a i g) (byte_at b j h)

bytes_word : (w : List ℕ) (i : ℕ) → AreBytes w → AreBytes (word w i)
bytes_word w i h = (byte_at w (4 * i) h, (byte_at w (4 * i + 1) h, (byte_at w (4 * i + 2) h, (byte_at w (4 * i + 3) h, tt))))

bytes_xor_word : (a b : List ℕ) → AreBytes a → AreBytes b → AreBytes (xor_word a b)
bytes_xor_word a b g h = (xor_at a b 0 0 g h, (xor_at a b 1 1 g h, (xor_at a b 2 2 g h, (xor_at a b 3 3 g h, tt))))

bytes_sub_word : (a : List ℕ) → AreBytes (sub_word a)
bytes_sub_word a = (sub_byte_small (slice_index a 0), (sub_byte_small (slice_index a 1), (sub_byte_small (slice_index a 2), (sub_byte_small (slice_index a 3), tt))))

bytes_rcon : (j : ℕ) → AreBytes (rcon j)
bytes_rcon j = (power_small (j - 1), (zero_small, (zero_small, (zero_small, tt))))

bytes_key_word : (previous : List ℕ) (i : ℕ) → AreBytes previous → AreBytes (key_word previous i)
bytes_key_word previous i h =
    bytes_if (i % 8 == 0) (xor_word (sub_word (rot_word previous)) (rcon (i / 8))) (if i % 8 == 4 then sub_word previous else previous)
    (bytes_xor_word (sub_word (rot_word previous)) (rcon (i / 8)) (bytes_sub_word (rot_word previous)) (bytes_rcon (i / 8)))
    (bytes_if (i % 8 == 4) (sub_word previous) previous (bytes_sub_word previous) h)

bytes_next_word : (w : List ℕ) (i : ℕ) → AreBytes w → AreBytes (next_word w i)
bytes_next_word w i h = bytes_xor_word (word w (i - 8)) (key_word (word w (i - 1)) i) (bytes_word w (i - 8) h) (bytes_key_word (word w (i - 1)) i (bytes_word w (i - 1) h))

bytes_expanded : (key : List ℕ) (n : ℕ) → AreBytes key → AreBytes (expanded key n)
unfolding expanded
bytes_expanded key zero h = h
bytes_expanded key (suc n) h = let before = bytes_expanded key n h in bytes_append (expanded key n) (next_word (expanded key n) (n + 8)) before (bytes_next_word (expanded key n) (n + 8) before)

bytes_round_key : (w : List ℕ) (n : ℕ) → AreBytes w → AreBytes (round_key w n)
bytes_round_key w n h = bytes_block (λ i. slice_index w (16 * n + i)) (λ i. byte_at w (16 * n + i) h)

bytes_last_round : (s k : List ℕ) → AreBytes k → AreBytes (last_round s k)
unfolding last_round
bytes_last_round s k h =
    let substituted : AreBytes (sub_bytes s) = bytes_block (λ i. sub_byte (slice_index s i)) (λ i. sub_byte_small (slice_index s i)) in
    let moved : AreBytes (shift_rows (sub_bytes s)) = bytes_block (λ i. slice_index (sub_bytes s) ((i + 4 * (i % 4)) % 16)) (λ i. byte_at (sub_bytes s) ((i + 4 * (i % 4)) % 16) substituted) in
    bytes_block (λ i. bit_xor (slice_index (shift_rows (sub_bytes s)) i) (slice_index k i)) (λ i. xor_at (shift_rows (sub_bytes s)) k i i moved h)

pub bytes_aes256 : (key s : List ℕ) → AreBytes key → AreBytes (aes256 key s)
unfolding aes256 encrypted
bytes_aes256 key s h = bytes_last_round (after_rounds (key_schedule key) s 13) (round_key (key_schedule key) 14) (bytes_round_key (key_schedule key) 14 (bytes_expanded key 52 h))

-- ---- GCM

bytes_xor : (s mask : List ℕ) → AreBytes s → AreBytes mask → AreBytes (xor_bytes s mask)
unfolding xor_bytes
bytes_xor [] mask g h = tt
bytes_xor (x ∷ xs) mask g h = (xor_of_8 x (slice_index mask 0) g.0 (byte_at mask 0 h), bytes_xor xs (drop 1 mask) g.1 (bytes_drop 1 mask h))

bytes_masked : (n : ℕ) (cipher : List ℕ → List ℕ) (counter s : List ℕ) → ((b : List ℕ) → AreBytes (cipher b)) → AreBytes s → AreBytes (masked n cipher counter s)
unfolding masked
bytes_masked zero cipher counter s g h = tt
bytes_masked (suc n) cipher counter s g h =
    bytes_append (xor_bytes (take 16 s) (cipher counter)) (masked n cipher (inc32 counter) (drop 16 s))
    (bytes_xor (take 16 s) (cipher counter) (bytes_take 16 s h) (g counter))
    (bytes_masked n cipher (inc32 counter) (drop 16 s) g (bytes_drop 16 s h))

pub gcm_bytes : (key nonce extra sealed plain : List ℕ) → AreBytes key → AreBytes sealed → aes256_gcm_opened key nonce extra sealed ≡ Some plain → AreBytes plain
unfolding gcm_opened
gcm_bytes key nonce extra sealed plain g h e =
    let parts = cond_some _ (gctr (aes256 key) (inc32 (first_counter nonce)) (body_of sealed)) plain e in
    let body : AreBytes (body_of sealed) = bytes_take (length sealed - 16) sealed h in
    subst AreBytes parts.1 (bytes_masked (block_count (body_of sealed)) (aes256 key) (inc32 (first_counter nonce)) (body_of sealed) (λ b. bytes_aes256 key b g) body)

-- ---- the trial cipher

bytes_trial_masked : (key nonce : List ℕ) (i : ℕ) (xs : List ℕ) → AreBytes key → AreBytes nonce → AreBytes xs → AreBytes (trial_masked key nonce i xs)
bytes_trial_masked key nonce i [] g n h = tt
bytes_trial_masked key nonce i (x ∷ xs) g n h = (
  xor_of_8 (bit_xor x (slice_index key (i % 32))) (slice_index nonce (i % 12)) (xor_of_8 x (slice_index key (i % 32)) h.0 (byte_at key (i % 32) g)) (byte_at nonce (i % 12) n),
  bytes_trial_masked key nonce (i + 1) xs g n h.1,
)

pub trial_bytes : (key nonce sealed plain : List ℕ) → AreBytes key → AreBytes nonce → AreBytes sealed → trial_open key nonce sealed ≡ Some plain → AreBytes plain
trial_bytes key nonce sealed plain g n h e =
    let parts = cond_some _ (trial_masked key nonce 0 (take (length sealed - 16) sealed)) plain e in
    subst AreBytes parts.1 (bytes_trial_masked key nonce 0 (take (length sealed - 16) sealed) g n (bytes_take (length sealed - 16) sealed h))
