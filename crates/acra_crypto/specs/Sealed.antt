-- The laws of seals: a seal is 16 bytes longer than its value, opens to it, and is all that opens to it.
use Rattle.std.specs.Prelude.{ℕ, zero, suc, ◌≡◌, ◌+◌, ◌*◌, ◌/◌, ◌<◌, ◌≤◌, List, [], ◌∷◌, ◌++◌, length, take, drop, slice_index, bit_xor, ◌-◌, nat_eq, Some}
use Rattle.std.specs.Cmp.Lexicographic.{pointwise, same_text}
use Rattle.std.proofs.Common.{refl, sym, ap, ◌∙◌, arith, inl, inr, length-append, true}
use Rattle.std.proofs.lemmas.Bool.{cases_lt, eq-eqb}
use Rattle.std.proofs.lemmas.List.{append-nil, take_at, drop_at, take_all, drop_all, take-append-drop, length-take-le}
use Rattle.std.proofs.lemmas.Option.{cond_some}
use Rattle.std.proofs.Math.Seq.{take-add, drop-append_seam}
use lib.Bits.{xor_assoc, xor_self, xor_zero_r}
use Rattle.acra_crypto.specs.Gcm.{xor_bytes, masked, inc32, gctr, block_count, tag, gcm_sealed, gcm_opened, body_of, tag_of, with_tag, first_counter}

pub xor_twice : (x k : ℕ) → bit_xor (bit_xor x k) k ≡ x
xor_twice x k = xor_assoc x k k ∙ ap (bit_xor x) (xor_self k) ∙ xor_zero_r x

pub xor_bytes_twice : (s mask : List ℕ) → xor_bytes (xor_bytes s mask) mask ≡ s
unfolding xor_bytes
xor_bytes_twice [] mask = refl
xor_bytes_twice (x ∷ xs) mask = rw (xor_twice x (slice_index mask 0), xor_bytes_twice xs (drop 1 mask)) refl

pub length-xor_bytes : (s mask : List ℕ) → length (xor_bytes s mask) ≡ length s
unfolding xor_bytes
length-xor_bytes [] mask = refl
length-xor_bytes (x ∷ xs) mask = ap (λ (n : ℕ). suc n) (length-xor_bytes xs (drop 1 mask))

pub masked_nil : (n : ℕ) (cipher : List ℕ → List ℕ) (counter : List ℕ) → masked n cipher counter [] ≡ []
unfolding masked xor_bytes
masked_nil zero cipher counter = refl
masked_nil (suc n) cipher counter = masked_nil n cipher (inc32 counter)

-- n blocks are as long as they were
pub length-masked : (n : ℕ) (cipher : List ℕ → List ℕ) (counter s : List ℕ) → length (masked n cipher counter s) ≡ length (take (n * 16) s)
unfolding masked
length-masked zero cipher counter s = refl
length-masked (suc n) cipher counter s =
    let first = length-xor_bytes (take 16 s) (cipher counter) in
    let rest = length-masked n cipher (inc32 counter) (drop 16 s) in
    let both = length-append (xor_bytes (take 16 s) (cipher counter)) (masked n cipher (inc32 counter) (drop 16 s)) in
    let count : suc n * 16 ≡ 16 + n * 16 = omega arith in
    both ∙ rw (first, rest, count, take-add 16 (n * 16) s) (sym (length-append (take 16 s) (take (n * 16) (drop 16 s))))

-- a piece that isn't past the first block, with what comes after it
split_front : (a b : List ℕ) → length a ≡ 16 → (take 16 (a ++ b) ≡ a) × (drop 16 (a ++ b) ≡ b)
split_front a b h = (take_at a b 16 h, ap (λ (n : ℕ). drop n (a ++ b)) (sym h) ∙ drop-append_seam a b)

pub masked_twice : (n : ℕ) (cipher : List ℕ → List ℕ) (counter s : List ℕ) → masked n cipher counter (masked n cipher counter s) ≡ take (n * 16) s
unfolding masked
masked_twice zero cipher counter s = refl
masked_twice (suc n) cipher counter s =
    let first = xor_bytes (take 16 s) (cipher counter) in
    let rest = masked n cipher (inc32 counter) (drop 16 s) in
    let count : suc n * 16 ≡ 16 + n * 16 = omega arith in
    let whole : take 16 s ++ take (n * 16) (drop 16 s) ≡ take (suc n * 16) s = rw count (sym (take-add 16 (n * 16) s)) in
    let back : xor_bytes first (cipher counter) ≡ take 16 s = xor_bytes_twice (take 16 s) (cipher counter) in
    let again : masked n cipher (inc32 counter) rest ≡ take (n * 16) (drop 16 s) = masked_twice n cipher (inc32 counter) (drop 16 s) in
    let long : 16 ≤ length s → (take 16 (first ++ rest) ≡ first) × (drop 16 (first ++ rest) ≡ rest) =
    λ (h : 16 ≤ length s). split_front first rest (length-xor_bytes (take 16 s) (cipher counter) ∙ length-take-le 16 s h) in
    let short : length s < 16 → (take 16 (first ++ rest) ≡ first) × (drop 16 (first ++ rest) ≡ rest) =
    λ (h : length s < 16).
    let nothing : rest ≡ [] = ap (masked n cipher (inc32 counter)) (drop_all 16 s (omega arith)) ∙ masked_nil n cipher (inc32 counter) in
    let same : first ++ rest ≡ first = ap (λ (t : List ℕ). first ++ t) nothing ∙ append-nil first in
    let few : length first ≤ 16 = omega (arith, length-xor_bytes (take 16 s) (cipher counter), ap length (take_all 16 s (omega arith))) in
    (ap (take 16) same ∙ take_all 16 first few, ap (drop 16) same ∙ drop_all 16 first few ∙ sym nothing) in
    let parts : (take 16 (first ++ rest) ≡ first) × (drop 16 (first ++ rest) ≡ rest) =
    elim (cases_lt (length s) 16) [ inl h ↦ short h | inr h ↦ long h ] in
    rw (parts.0, parts.1, back, again) whole

pub length-gctr : (cipher : List ℕ → List ℕ) (counter s : List ℕ) → length (gctr cipher counter s) ≡ length s
length-gctr cipher counter s = length-masked (block_count s) cipher counter s ∙ ap length (take_all (block_count s * 16) s (omega arith))

-- the same mask again gives the string back
pub gctr_twice : (cipher : List ℕ → List ℕ) (counter s : List ℕ) → gctr cipher counter (gctr cipher counter s) ≡ s
gctr_twice cipher counter s =
    let same : block_count (gctr cipher counter s) ≡ block_count s = ap (λ (n : ℕ). (n + 15) / 16) (length-gctr cipher counter s) in
    ap (λ (n : ℕ). masked n cipher counter (gctr cipher counter s)) same ∙ masked_twice (block_count s) cipher counter s ∙ take_all (block_count s * 16) s (omega arith)

pub length-tag : (cipher : List ℕ → List ℕ) (nonce extra text : List ℕ) → length (tag cipher nonce extra text) ≡ 16
unfolding tag
length-tag cipher nonce extra text = length-xor_bytes _ (cipher (first_counter nonce))

pub length-gcm_sealed : (cipher : List ℕ → List ℕ) (nonce extra plain : List ℕ) → length (gcm_sealed cipher nonce extra plain) ≡ length plain + 16
unfolding gcm_sealed
length-gcm_sealed cipher nonce extra plain =
    let counter = inc32 (first_counter nonce) in
    let text = gctr cipher counter plain in
    let both = length-append text (tag cipher nonce extra text) in
    omega (arith, both, length-tag cipher nonce extra text, length-gctr cipher counter plain)

-- a string is the same text as itself
pub same_itself : (xs : List ℕ) → pointwise nat_eq xs xs ≡ true
same_itself [] = refl
same_itself (x ∷ xs) = rw (eq-eqb x x refl, same_itself xs) refl

-- a string that ends with 16 bytes
pub body_is : (body end : List ℕ) → length end ≡ 16 → body_of (body ++ end) ≡ body
body_is body end l = take_at body end (length (body ++ end) - 16) (omega (arith, length-append body end))

pub tag_is : (body end : List ℕ) → length end ≡ 16 → tag_of (body ++ end) ≡ end
tag_is body end l = drop_at body end (length (body ++ end) - 16) (omega (arith, length-append body end))

-- a string that ends with the tag of its front
pub opened_with_tag : (cipher : List ℕ → List ℕ) (nonce extra body : List ℕ)
    → gcm_opened cipher nonce extra (with_tag cipher nonce extra body) ≡ Some (gctr cipher (inc32 (first_counter nonce)) body)
unfolding gcm_opened
opened_with_tag cipher nonce extra body =
    let end = tag cipher nonce extra body in
    let l = length-tag cipher nonce extra body in
    rw (body_is body end l, tag_is body end l, same_itself end) refl

-- a seal opens to its value
pub gcm_opens : (cipher : List ℕ → List ℕ) (nonce extra plain : List ℕ) → gcm_opened cipher nonce extra (gcm_sealed cipher nonce extra plain) ≡ Some plain
unfolding gcm_sealed
gcm_opens cipher nonce extra plain =
    let counter = inc32 (first_counter nonce) in
    opened_with_tag cipher nonce extra (gctr cipher counter plain) ∙ ap (λ (p : List ℕ). Some p) (gctr_twice cipher counter plain)

-- what opens to a value is its seal
pub gcm_only : (cipher : List ℕ → List ℕ) (nonce extra sealed plain : List ℕ) → gcm_opened cipher nonce extra sealed ≡ Some plain → sealed ≡ gcm_sealed cipher nonce extra plain
unfolding gcm_opened gcm_sealed
gcm_only cipher nonce extra sealed plain h =
    let counter = inc32 (first_counter nonce) in
    let body = body_of sealed in
    let parts = cond_some (pointwise nat_eq (tag_of sealed) (tag cipher nonce extra body)) (gctr cipher counter body) plain h in
    let end : tag_of sealed ≡ tag cipher nonce extra body = same_text (tag_of sealed) (tag cipher nonce extra body) (sym parts.0) in
    let front : body ≡ gctr cipher counter plain = sym (gctr_twice cipher counter body) ∙ ap (gctr cipher counter) parts.1 in
    sym (take-append-drop (length sealed - 16) sealed) ∙ ap (λ (x : List ℕ). body ++ x) end ∙ ap (with_tag cipher nonce extra) front
