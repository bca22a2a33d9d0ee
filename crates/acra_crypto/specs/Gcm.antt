-- The Galois counter mode (NIST SP 800-38D) of a cipher on blocks of 16 bytes, with nonces of 96 bits and tags of 128.
-- Section numbers are the standard's. A block that is multiplied is the number whose 128 bits it spells, the first one highest.
use Rattle.std.specs.Prelude.{ℕ, zero, suc, ◌+◌, ◌-◌, ◌*◌, ◌/◌, ◌%◌, ◌^◌, List, [], ◌∷◌, ◌++◌, length, take, drop, replicate, slice_index, bit_xor, nat_eq, Option, Some, None, if◌then◌else◌}
use Rattle.std.specs.Cmp.Lexicographic.{pointwise}
use Rattle.std.specs.Int.{bit_at, w32, w64, w128, from_be_bytes, to_be_bytes}
use Rattle.acra_crypto.specs.Aes.{aes256}

-- ---- the product of two blocks (6.3)

-- R: 11100001, and 120 zeros
abbrev pub reduction : ℕ
reduction = 0xe1 * 2 ^ 120

-- a block one bit to the right, with R added if its last bit was set
unfoldable pub shifted : ℕ → ℕ
shifted v = bit_xor (v / 2) (v % 2 * reduction)

-- Z after the lowest n bits of x, from the highest down, with Z and V before them: V is added for each bit that is set
unfoldable pub sum_of_bits : ℕ → ℕ → ℕ → ℕ → ℕ
sum_of_bits zero x z v = z
sum_of_bits (suc n) x z v = sum_of_bits n x (bit_xor z (bit_at x n * v)) (shifted v)

-- X • Y: from Z 0 = 0 and V 0 = Y
abbrev pub block_product : ℕ → ℕ → ℕ
block_product x y = sum_of_bits 128 x 0 y

-- ---- GHASH (6.4)

-- the number that a block spells; a shorter one is read as if zeros filled it up
unfoldable pub block_number : List ℕ → ℕ
block_number s = from_be_bytes w128 s

-- the first n blocks of a string
unfoldable pub blocks : ℕ → List ℕ → List ℕ
blocks zero s = []
blocks (suc n) s = block_number (take 16 s) ∷ blocks n (drop 16 s)

-- Y after these blocks, from a Y before them
unfoldable pub ghash_from : ℕ → ℕ → List ℕ → ℕ
ghash_from h y [] = y
ghash_from h y (x ∷ xs) = ghash_from h (block_product (bit_xor y x) h) xs

-- GHASH of a string of whole blocks
abbrev pub ghash : ℕ → List ℕ → ℕ
ghash h s = ghash_from h 0 (blocks (length s / 16) s)

-- ---- GCTR (6.2, 6.5)

-- inc 32: one is added to the last 32 bits
unfoldable pub inc32 : List ℕ → List ℕ
inc32 block = take 12 block ++ to_be_bytes w32 ((from_be_bytes w32 (drop 12 block) + 1) % 2 ^ 32)

-- a string with the first bytes of a mask added
unfoldable pub xor_bytes : List ℕ → List ℕ → List ℕ
xor_bytes [] mask = []
xor_bytes (x ∷ xs) mask = bit_xor x (slice_index mask 0) ∷ xor_bytes xs (drop 1 mask)

-- the first n blocks of a string, each with its counter block's encryption added
unfoldable pub masked : ℕ → (List ℕ → List ℕ) → List ℕ → List ℕ → List ℕ
masked zero cipher counter s = []
masked (suc n) cipher counter s = xor_bytes (take 16 s) (cipher counter) ++ masked n cipher (inc32 counter) (drop 16 s)

-- how many blocks a string begins
abbrev pub block_count : List ℕ → ℕ
block_count s = (length s + 15) / 16

abbrev pub gctr : (List ℕ → List ℕ) → List ℕ → List ℕ → List ℕ
gctr cipher counter s = masked (block_count s) cipher counter s

-- ---- sealing (7.1)

-- H
abbrev pub hash_key : (List ℕ → List ℕ) → ℕ
hash_key cipher = block_number (cipher (replicate 16 0))

-- J 0
abbrev pub first_counter : List ℕ → List ℕ
first_counter nonce = nonce ++ to_be_bytes w32 1

-- a string, filled up to whole blocks with zeros
abbrev pub filled : List ℕ → List ℕ
filled s = s ++ replicate ((16 - length s % 16) % 16) 0

-- the two lengths in bits
abbrev pub lengths : List ℕ → List ℕ → List ℕ
lengths extra text = to_be_bytes w64 (length extra * 8 % 2 ^ 64) ++ to_be_bytes w64 (length text * 8 % 2 ^ 64)

-- T, of a ciphertext and what is authenticated beside it
unfoldable pub tag : (List ℕ → List ℕ) → List ℕ → List ℕ → List ℕ → List ℕ
tag cipher nonce extra text =
    xor_bytes (to_be_bytes w128 (ghash (hash_key cipher) (filled extra ++ filled text ++ lengths extra text))) (cipher (first_counter nonce))

-- a seal with this ciphertext: it, and its tag
abbrev pub with_tag : (List ℕ → List ℕ) → List ℕ → List ℕ → List ℕ → List ℕ
with_tag cipher nonce extra text = text ++ tag cipher nonce extra text

-- GCM-AE
unfoldable pub gcm_sealed : (List ℕ → List ℕ) → List ℕ → List ℕ → List ℕ → List ℕ
gcm_sealed cipher nonce extra plain = with_tag cipher nonce extra (gctr cipher (inc32 (first_counter nonce)) plain)

-- AES-256-GCM
abbrev pub aes256_gcm : List ℕ → List ℕ → List ℕ → List ℕ → List ℕ
aes256_gcm key nonce extra plain = gcm_sealed (aes256 key) nonce extra plain

-- ---- opening (7.2)

-- what is before the last 16 bytes of a string, and these; of a shorter string, nothing and all of it
abbrev pub body_of : List ℕ → List ℕ
body_of sealed = take (length sealed - 16) sealed

abbrev pub tag_of : List ℕ → List ℕ
tag_of sealed = drop (length sealed - 16) sealed

-- GCM-AD: the value, where the string ends with the tag of what is before it
unfoldable pub gcm_opened : (List ℕ → List ℕ) → List ℕ → List ℕ → List ℕ → Option (List ℕ)
gcm_opened cipher nonce extra sealed =
    if pointwise nat_eq (tag_of sealed) (tag cipher nonce extra (body_of sealed)) then Some (gctr cipher (inc32 (first_counter nonce)) (body_of sealed)) else None

-- AES-256-GCM
abbrev pub aes256_gcm_opened : List ℕ → List ℕ → List ℕ → List ℕ → Option (List ℕ)
aes256_gcm_opened key nonce extra sealed = gcm_opened (aes256 key) nonce extra sealed
