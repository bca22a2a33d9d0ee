-- A container opens to a value exactly where it is that value's container, for any lawful cipher.
use Rattle.std.proofs.Common.{◌≡◌, ℕ, ◌+◌, List, [], ◌++◌, length, take, drop, Option, Some, refl, sym, ap, ◌∙◌, append_assoc, arith}
use Rattle.std.specs.Option.{option_and_then}
use Rattle.std.proofs.lemmas.Option.{option_and_then_some}
use Rattle.std.proofs.lemmas.List.{take_at, drop_at, length-append, length-take, length-drop, drop-drop, take-append-drop, append-nil}
use Rattle.acra_crypto.specs.Bytes.{AreBytes, bytes_append, bytes_take, bytes_drop}
use Rattle.acra_block.specs.declared.container.Container.{Container}
use Rattle.acra_block.specs.Containers.{Sealing, Opening, header, data_key, key_nonce, value_nonce, container, IsContainer, opened_key, opened_value, opened_container, IsSpelling}

header_length : (version id n : ℕ) → length (header version id n) ≡ 24
header_length version id n = refl

-- the five parts of a container, by place
pub record Parts (bytes h a b c d : List ℕ) : Type 0 where
  pub long : length bytes ≡ 96 + length d
  pub head : take 24 bytes ≡ h
  pub first : take 12 (drop 24 bytes) ≡ a
  pub wrapped : take 48 (drop 36 bytes) ≡ b
  pub second : take 12 (drop 84 bytes) ≡ c
  pub last : drop 96 bytes ≡ d

pub parts_of : (bytes h a b c d : List ℕ) → bytes ≡ h ++ a ++ b ++ c ++ d → length h ≡ 24 → length a ≡ 12 → length b ≡ 48 → length c ≡ 12 → Parts bytes h a b c d
parts_of bytes h a b c d e lh la lb lc =
    let e1 : bytes ≡ h ++ (a ++ (b ++ (c ++ d))) = e ∙ simp append_assoc in
    let d1 : drop 24 bytes ≡ a ++ (b ++ (c ++ d)) = ap (λ (xs : List ℕ). drop 24 xs) e1 ∙ drop_at h (a ++ (b ++ (c ++ d))) 24 lh in
    let d2 : drop 36 bytes ≡ b ++ (c ++ d) = sym (drop-drop 12 24 bytes) ∙ ap (λ (xs : List ℕ). drop 12 xs) d1 ∙ drop_at a (b ++ (c ++ d)) 12 la in
    let d3 : drop 84 bytes ≡ c ++ d = sym (drop-drop 48 36 bytes) ∙ ap (λ (xs : List ℕ). drop 48 xs) d2 ∙ drop_at b (c ++ d) 48 lb in
    record {
      long = omega (arith, ap length e1, length-append h (a ++ (b ++ (c ++ d))), length-append a (b ++ (c ++ d)), length-append b (c ++ d), length-append c d);
      head = ap (λ (xs : List ℕ). take 24 xs) e1 ∙ take_at h (a ++ (b ++ (c ++ d))) 24 lh;
      first = ap (λ (xs : List ℕ). take 12 xs) d1 ∙ take_at a (b ++ (c ++ d)) 12 la;
      wrapped = ap (λ (xs : List ℕ). take 48 xs) d2 ∙ take_at b (c ++ d) 48 lb;
      second = ap (λ (xs : List ℕ). take 12 xs) d3 ∙ take_at c d 12 lc;
      last = sym (drop-drop 12 84 bytes) ∙ ap (λ (xs : List ℕ). drop 12 xs) d3 ∙ drop_at c d 12 lc;
    }

-- a list is its pieces between these places
five_parts : (bytes : List ℕ) → bytes ≡ take 24 bytes ++ take 12 (drop 24 bytes) ++ take 48 (drop 36 bytes) ++ take 12 (drop 84 bytes) ++ drop 96 bytes
five_parts bytes =
    let d1 : drop 24 bytes ≡ take 12 (drop 24 bytes) ++ drop 36 bytes = sym (take-append-drop 12 (drop 24 bytes)) ∙ ap (λ (xs : List ℕ). take 12 (drop 24 bytes) ++ xs) (drop-drop 12 24 bytes) in
    let d2 : drop 36 bytes ≡ take 48 (drop 36 bytes) ++ drop 84 bytes = sym (take-append-drop 48 (drop 36 bytes)) ∙ ap (λ (xs : List ℕ). take 48 (drop 36 bytes) ++ xs) (drop-drop 48 36 bytes) in
    let d3 : drop 84 bytes ≡ take 12 (drop 84 bytes) ++ drop 96 bytes = sym (take-append-drop 12 (drop 84 bytes)) ∙ ap (λ (xs : List ℕ). take 12 (drop 84 bytes) ++ xs) (drop-drop 12 84 bytes) in
    joined bytes (take 24 bytes) (drop 24 bytes) (take 12 (drop 24 bytes)) (drop 36 bytes) (take 48 (drop 36 bytes)) (drop 84 bytes) (take 12 (drop 84 bytes)) (drop 96 bytes) (sym (take-append-drop 24 bytes)) d1 d2 d3
  where
    joined : (w h r a s b t c d : List ℕ) → w ≡ h ++ r → r ≡ a ++ s → s ≡ b ++ t → t ≡ c ++ d → w ≡ h ++ a ++ b ++ c ++ d
    joined w h r a s b t c d e1 e2 e3 e4 = rw (e1, e2, e3, e4) (simp append_assoc)

module _ (sealed : Sealing) (opened : Opening) (opens : (k n e p : List ℕ) → opened k n e (sealed k n e p) ≡ Some p)
    (only : (k n e s p : List ℕ) → opened k n e s ≡ Some p → s ≡ sealed k n e p) (longer : (k n e p : List ℕ) → length (sealed k n e p) ≡ length p + 16) where
  pub sealed_parts : (extra : List ℕ) (version id : ℕ) (key drawn plain bytes : List ℕ) → length drawn ≡ 56 → bytes ≡ container sealed extra version id key drawn plain
      → Parts bytes (header version id (length plain)) (key_nonce drawn) (sealed key (key_nonce drawn) extra (data_key drawn)) (value_nonce drawn) (sealed (data_key drawn) (value_nonce drawn) extra plain)
  sealed_parts extra version id key drawn plain bytes full e =
      let lk : length (data_key drawn) ≡ 32 = length-take 32 drawn ∙ omega (arith, full) in
      let lf : length (key_nonce drawn) ≡ 12 = length-take 12 (drop 32 drawn) ∙ omega (arith, full, length-drop 32 drawn) in
      let ls : length (value_nonce drawn) ≡ 12 = length-take 12 (drop 44 drawn) ∙ omega (arith, full, length-drop 44 drawn) in
      parts_of bytes _ _ _ _ _ e (header_length version id (length plain)) lf (longer key (key_nonce drawn) extra (data_key drawn) ∙ omega (arith, lk)) ls

  pub container_opens : (extra : List ℕ) (version id : ℕ) (key drawn plain bytes : List ℕ) → length drawn ≡ 56 → bytes ≡ container sealed extra version id key drawn plain → opened_container opened extra key bytes ≡ Some plain
  container_opens extra version id key drawn plain bytes full e =
      let p = sealed_parts extra version id key drawn plain bytes full e in
      let key_opens : opened_key opened extra key bytes ≡ Some (data_key drawn) =
      ap (λ (n : List ℕ). opened key n extra (take 48 (drop 36 bytes))) p.first ∙ ap (λ (s : List ℕ). opened key (key_nonce drawn) extra s) p.wrapped ∙ opens key (key_nonce drawn) extra (data_key drawn) in
      let value_opens : opened_value opened extra bytes (data_key drawn) ≡ Some plain =
      ap (λ (n : List ℕ). opened (data_key drawn) n extra (drop 96 bytes)) p.second ∙ ap (λ (s : List ℕ). opened (data_key drawn) (value_nonce drawn) extra s) p.last ∙ opens (data_key drawn) (value_nonce drawn) extra plain in
      ap (λ (o : Option (List ℕ)). option_and_then (opened_value opened extra bytes) o) key_opens ∙ value_opens

module _ (sealed : Sealing) (opened : Opening) (opens : (k n e p : List ℕ) → opened k n e (sealed k n e p) ≡ Some p)
    (only : (k n e s p : List ℕ) → opened k n e s ≡ Some p → s ≡ sealed k n e p) (longer : (k n e p : List ℕ) → length (sealed k n e p) ≡ length p + 16)
    (within : (k n e s p : List ℕ) → AreBytes k → AreBytes n → AreBytes s → opened k n e s ≡ Some p → AreBytes p) where
  -- what a container is made of, by what its two seals open to
  spelled_by : (extra : List ℕ) (key bytes plain inner : List ℕ) (c : Container) → AreBytes key → AreBytes bytes → IsContainer bytes c → opened_key opened extra key bytes ≡ Some inner → opened_value opened extra bytes inner ≡ Some plain
      → (length plain ≡ c.length) × IsSpelling sealed extra c.version c.id key bytes plain
  spelled_by extra key bytes plain inner c in_key in_bytes is ke ve =
      let first = take 12 (drop 24 bytes) in
      let second = take 12 (drop 84 bytes) in
      let wrapped : take 48 (drop 36 bytes) ≡ sealed key first extra inner = only key first extra (take 48 (drop 36 bytes)) inner ke in
      let value : drop 96 bytes ≡ sealed inner second extra plain = only inner second extra (drop 96 bytes) plain ve in
      let lf : length first ≡ 12 = length-take 12 (drop 24 bytes) ∙ omega (arith, is.long, length-drop 24 bytes) in
      let ls : length second ≡ 12 = length-take 12 (drop 84 bytes) ∙ omega (arith, is.long, length-drop 84 bytes) in
      let lw : length (take 48 (drop 36 bytes)) ≡ 48 = length-take 48 (drop 36 bytes) ∙ omega (arith, is.long, length-drop 36 bytes) in
      let li : length inner ≡ 32 = omega (arith, lw, ap length wrapped, longer key first extra inner) in
      let lp : length plain ≡ c.length = omega (arith, is.long, length-drop 96 bytes, ap length value, longer inner second extra plain) in
      let bi : AreBytes inner = within key first extra (take 48 (drop 36 bytes)) inner in_key (bytes_take 12 (drop 24 bytes) (bytes_drop 24 bytes in_bytes)) (bytes_take 48 (drop 36 bytes) (bytes_drop 36 bytes in_bytes)) ke in
      let drawn = inner ++ (first ++ second) in
      let dk : data_key drawn ≡ inner = take_at inner (first ++ second) 32 li in
      let behind : drop 32 drawn ≡ first ++ second = drop_at inner (first ++ second) 32 li in
      let kn : key_nonce drawn ≡ first = ap (λ (xs : List ℕ). take 12 xs) behind ∙ take_at first second 12 lf in
      let last : drop 44 drawn ≡ second = sym (drop-drop 12 32 drawn) ∙ ap (λ (xs : List ℕ). drop 12 xs) behind ∙ drop_at first second 12 lf in
      let vn : value_nonce drawn ≡ second = ap (λ (xs : List ℕ). take 12 xs) last ∙ take_all second 12 ls in (
        lp,
        record {
          drawn = drawn;
          full = omega (arith, length-append inner (first ++ second), length-append first second, li, lf, ls);
          in_bytes = bytes_append inner (first ++ second) bi (bytes_append first second (bytes_take 12 (drop 24 bytes) (bytes_drop 24 bytes in_bytes)) (bytes_take 12 (drop 84 bytes) (bytes_drop 84 bytes in_bytes)));
          made = five_parts bytes ∙ same (take 24 bytes) first (take 48 (drop 36 bytes)) second (drop 96 bytes) (header c.version c.id (length plain)) (key_nonce drawn) (sealed key (key_nonce drawn) extra (data_key drawn)) (value_nonce drawn) (sealed (data_key drawn) (value_nonce drawn) extra plain)
              (is.head ∙ ap (header c.version c.id) (sym lp)) (sym kn) (wrapped ∙ ap (λ (xs : List ℕ). sealed key xs extra inner) (sym kn) ∙ ap (λ (xs : List ℕ). sealed key (key_nonce drawn) extra xs) (sym dk)) (sym vn)
              (value ∙ ap (λ (xs : List ℕ). sealed xs second extra plain) (sym dk) ∙ ap (λ (xs : List ℕ). sealed (data_key drawn) xs extra plain) (sym vn));
        },
      )
    where
      take_all : (xs : List ℕ) (n : ℕ) → length xs ≡ n → take n xs ≡ xs
      take_all xs n e = ap (λ (ys : List ℕ). take n ys) (sym (append-nil xs)) ∙ take_at xs [] n e

      same : (h a b c d h' a' b' c' d' : List ℕ) → h ≡ h' → a ≡ a' → b ≡ b' → c ≡ c' → d ≡ d' → h ++ a ++ b ++ c ++ d ≡ h' ++ a' ++ b' ++ c' ++ d'
      same h a b c d h' a' b' c' d' e1 e2 e3 e4 e5 = rw (e1, e2, e3, e4, e5) refl

  pub plain_spelled : (extra key bytes plain : List ℕ) (c : Container) → AreBytes key → AreBytes bytes → IsContainer bytes c → opened_container opened extra key bytes ≡ Some plain → (length plain ≡ c.length) × IsSpelling sealed extra c.version c.id key bytes plain
  plain_spelled extra key bytes plain c in_key in_bytes is e =
      option_and_then_some (opened_value opened extra bytes) (opened_key opened extra key bytes) plain e (λ inner ke ve. spelled_by extra key bytes plain inner c in_key in_bytes is ke ve)

  pub spelled_plain : (extra key bytes plain : List ℕ) (c : Container) → (length plain ≡ c.length) × IsSpelling sealed extra c.version c.id key bytes plain → opened_container opened extra key bytes ≡ Some plain
  spelled_plain extra key bytes plain c h = container_opens sealed opened opens only longer extra c.version c.id key h.1.drawn plain bytes h.1.full h.1.made
