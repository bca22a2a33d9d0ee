-- The trial cipher and its laws.
use Rattle.std.specs.Prelude.{ℕ, ◌≡◌, ◌+◌, ◌-◌, ◌%◌, List, [], ◌∷◌, ◌++◌, length, replicate, take, drop, slice_index, bit_xor, nat_eq, Option, Some, None, if◌then◌else◌}
use Rattle.std.specs.Cmp.Lexicographic.{pointwise, same_text}
use Rattle.std.proofs.Common.{refl, sym, ap, ◌∙◌, arith}
use Rattle.std.proofs.lemmas.List.{length-append, take-append-drop, take_at, drop_at}
use Rattle.std.proofs.lemmas.Option.{cond_some}
use lib.Bits.{xor_assoc, xor_self, xor_zero_r}

-- each byte from place i on, with a byte of the key and one of the nonce
abbrev pub masked : List ℕ → List ℕ → ℕ → List ℕ → List ℕ
masked key nonce i [] = []
masked key nonce i (x ∷ xs) = bit_xor (bit_xor x (slice_index key (i % 32))) (slice_index nonce (i % 12)) ∷ masked key nonce (i + 1) xs

-- 16 bytes of hexadecimal 54
abbrev pub trial_tag : List ℕ
trial_tag = replicate 16 84

-- no cipher: the masked bytes, and the tag
abbrev pub trial_seal : List ℕ → List ℕ → List ℕ → List ℕ
trial_seal key nonce plain = masked key nonce 0 plain ++ trial_tag

-- what ends with the tag opens to what is masked before it
abbrev pub trial_open : List ℕ → List ℕ → List ℕ → Option (List ℕ)
trial_open key nonce text = if pointwise nat_eq (drop (length text - 16) text) trial_tag then Some (masked key nonce 0 (take (length text - 16) text)) else None

pub xor_twice : (x k n : ℕ) → bit_xor (bit_xor (bit_xor (bit_xor x k) n) k) n ≡ x
xor_twice x k n =
    let m = bit_xor k n in
    xor_assoc (bit_xor (bit_xor x k) n) k n ∙ ap (λ (y : ℕ). bit_xor y m) (xor_assoc x k n) ∙ xor_assoc x m m ∙ ap (bit_xor x) (xor_self m) ∙ xor_zero_r x

-- masking twice gives the bytes back
pub masked_twice : (key nonce : List ℕ) (i : ℕ) (xs : List ℕ) → masked key nonce i (masked key nonce i xs) ≡ xs
masked_twice key nonce i [] = refl
masked_twice key nonce i (x ∷ xs) = rw (xor_twice x (slice_index key (i % 32)) (slice_index nonce (i % 12)), masked_twice key nonce (i + 1) xs) refl

pub length-masked : (key nonce : List ℕ) (i : ℕ) (xs : List ℕ) → length (masked key nonce i xs) ≡ length xs
length-masked key nonce i [] = refl
length-masked key nonce i (x ∷ xs) = rw (length-masked key nonce (i + 1) xs) refl

pub trial_longer : (key nonce p : List ℕ) → length (trial_seal key nonce p) ≡ length p + 16
trial_longer key nonce p = length-append (masked key nonce 0 p) (replicate 16 84) ∙ rw (length-masked key nonce 0 p) refl

pub trial_opens : (key nonce p : List ℕ) → trial_open key nonce (trial_seal key nonce p) ≡ Some p
trial_opens key nonce p =
    let body = masked key nonce 0 p in
    let len : length (body ++ trial_tag) - 16 ≡ length body = omega (arith, length-append body trial_tag) in
    let tag : drop (length (body ++ trial_tag) - 16) (body ++ trial_tag) ≡ trial_tag = drop_at body trial_tag (length (body ++ trial_tag) - 16) (sym len) in
    let front : take (length (body ++ trial_tag) - 16) (body ++ trial_tag) ≡ body = take_at body trial_tag (length (body ++ trial_tag) - 16) (sym len) in
    rw (tag, front, masked_twice key nonce 0 p) refl

pub trial_only : (key nonce s p : List ℕ) → trial_open key nonce s ≡ Some p → s ≡ trial_seal key nonce p
trial_only key nonce s p h =
    let n = length s - 16 in
    let body = masked key nonce 0 (take n s) in
    let parts = cond_some (pointwise nat_eq (drop n s) trial_tag) body p h in
    let tag : drop n s ≡ trial_tag = same_text (drop n s) trial_tag (sym parts.0) in
    let front : take n s ≡ masked key nonce 0 p = sym (masked_twice key nonce 0 (take n s)) ∙ ap (λ (xs : List ℕ). masked key nonce 0 xs) parts.1 in
    sym (take-append-drop n s) ∙ ap (λ (xs : List ℕ). xs ++ drop n s) front ∙ ap (λ (xs : List ℕ). masked key nonce 0 p ++ xs) tag
