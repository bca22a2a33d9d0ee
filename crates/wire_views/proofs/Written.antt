-- Bytes that are overwritten one by one.
use Rattle.std.proofs.Common.{◌≡◌, ℕ, ◌+◌, ◌<◌, List, [], ◌∷◌, ◌++◌, length, take, drop, get_or, set, length-append, length-set, length-take-le, append_assoc, sym, ap, ◌∙◌, arith}
use Rattle.std.proofs.lemmas.List.{set_at, take_more, drop_more}

-- so many of the bytes stand in the place of those that stood there
pub record SoFar (place i : ℕ) (bytes old now : List ℕ) : Type 0 where
  pub long : length now ≡ length old
  pub over : (front stood behind : List ℕ) → old ≡ front ++ (stood ++ behind) → length front ≡ place → length stood ≡ length bytes → now ≡ front ++ (take i bytes ++ (drop i stood ++ behind))

module _ (place i : ℕ) (bytes old now : List ℕ) (low : i < length bytes) (so_far : SoFar place i bytes old now) where
  abbrev byte : ℕ
  byte = get_or bytes i 0

  set_one : (front done behind : List ℕ) (s : ℕ) → length front ≡ place → length done ≡ i → set (front ++ (done ++ s ∷ behind)) (place + i) byte ≡ front ++ (done ++ byte ∷ behind)
  set_one front done behind s f d =
      let l = length-append front done in
      ap (λ (xs : List ℕ). set xs (place + i) byte) (sym (append_assoc front done (s ∷ behind))) ∙ set_at (front ++ done) s behind byte (place + i) (omega arith)
      ∙ append_assoc front done (byte ∷ behind)

  pub one_byte : SoFar place (i + 1) bytes old (set now (place + i) (get_or bytes i 0))
  one_byte = record {
    long = length-set now (place + i) byte ∙ so_far.long;
    over = λ front stood behind e f g.
        let here : drop i stood ≡ get_or stood i 0 ∷ drop (i + 1) stood = drop_more stood i 0 (omega arith) in
        let shown = so_far.over front stood behind e f g ∙ ap (λ (xs : List ℕ). front ++ (take i bytes ++ (xs ++ behind))) here in
        let few : length (take i bytes) ≡ i = length-take-le i bytes (omega arith) in
        let more : take (i + 1) bytes ++ (drop (i + 1) stood ++ behind) ≡ take i bytes ++ byte ∷ (drop (i + 1) stood ++ behind) =
        ap (λ (xs : List ℕ). xs ++ (drop (i + 1) stood ++ behind)) (take_more bytes i 0 low) ∙ append_assoc (take i bytes) (byte ∷ []) (drop (i + 1) stood ++ behind) in
        ap (λ (xs : List ℕ). set xs (place + i) byte) shown ∙ set_one front (take i bytes) (drop (i + 1) stood ++ behind) (get_or stood i 0) f few
        ∙ ap (λ (xs : List ℕ). front ++ xs) (sym more);
  }
