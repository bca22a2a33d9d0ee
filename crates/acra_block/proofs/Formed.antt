-- The form of a container, by a test and by its header.
use Rattle.std.proofs.Common.{◌≡◌, ℕ, zero, suc, nat_eq, nat_le, ◌+◌, ◌-◌, ◌^◌, ◌≤◌, ◌<◌, Bool, true, false, List, [], ◌∷◌, length, take, drop, get_or, Some, None, refl, sym, ap, subst, ◌∙◌, arith, if◌then◌else◌}
use Rattle.std.specs.Cmp.Lexicographic.{pointwise, bytes_decides}
use Rattle.std.specs.Int.{w64, to_le_bytes, from_le_bytes}
use Rattle.std.proofs.lemmas.Bool.{le-leb, leb-true, and_parts}
use Rattle.std.proofs.lemmas.List.{length-take, length-drop, drop-take}
use Rattle.std.proofs.lemmas.Nat.{from_le_bytes-to_le_bytes_8}
use Rattle.acra_block.specs.declared.container.Container.{Container}
use Rattle.acra_block.specs.Containers.{header, told_id, told_version, is_container, container_of, IsContainer}

abbrev AreBytes : List ℕ → Type 0
AreBytes bytes = (i : ℕ) → get_or bytes i 0 < 256

word_fits : (bytes : List ℕ) → length bytes ≡ 8 → AreBytes bytes → from_le_bytes w64 bytes < 2 ^ 64
word_fits (a ∷ b ∷ c ∷ d ∷ e ∷ f ∷ g ∷ h ∷ []) len small = omega (arith, small 0, small 1, small 2, small 3, small 4, small 5, small 6, small 7)
word_fits [] len small = absurd (omega (arith, len))
word_fits (a ∷ []) len small = absurd (omega (arith, len))
word_fits (a ∷ b ∷ []) len small = absurd (omega (arith, len))
word_fits (a ∷ b ∷ c ∷ []) len small = absurd (omega (arith, len))
word_fits (a ∷ b ∷ c ∷ d ∷ []) len small = absurd (omega (arith, len))
word_fits (a ∷ b ∷ c ∷ d ∷ e ∷ []) len small = absurd (omega (arith, len))
word_fits (a ∷ b ∷ c ∷ d ∷ e ∷ f ∷ []) len small = absurd (omega (arith, len))
word_fits (a ∷ b ∷ c ∷ d ∷ e ∷ f ∷ g ∷ []) len small = absurd (omega (arith, len))
word_fits (a ∷ b ∷ c ∷ d ∷ e ∷ f ∷ g ∷ h ∷ i ∷ more) len small = absurd (omega (arith, len))

drop_bytes : (n : ℕ) (bytes : List ℕ) → AreBytes bytes → AreBytes (drop n bytes)
drop_bytes zero bytes h = h
drop_bytes (suc n) [] h = λ i. omega arith
drop_bytes (suc n) (b ∷ bytes) h = drop_bytes n bytes (λ i. h (suc i))

take_bytes : (n : ℕ) (bytes : List ℕ) → AreBytes bytes → (i : ℕ) → get_or (take n bytes) i 0 < 256
take_bytes zero bytes h i = omega arith
take_bytes (suc n) [] h i = omega arith
take_bytes (suc n) (b ∷ bytes) h zero = h zero
take_bytes (suc n) (b ∷ bytes) h (suc i) = take_bytes n bytes (λ j. h (suc j)) i

id_fits : (bytes : List ℕ) → 112 ≤ length bytes → AreBytes bytes → told_id bytes < 2 ^ 64
id_fits bytes long small =
    word_fits (take 8 (drop 13 bytes)) (length-take 8 (drop 13 bytes) ∙ omega (arith, length-drop 13 bytes)) (take_bytes 8 (drop 13 bytes) (drop_bytes 13 bytes small))

abbrev none : List ℕ
none = []

take_none : (n : ℕ) → take n none ≡ none
take_none zero = refl
take_none (suc n) = refl

take_less : (n m : ℕ) (xs : List ℕ) → take n (take (n + m) xs) ≡ take n xs
take_less zero m xs = refl
take_less (suc n) m [] = ap (take (suc n)) (take_none (suc n + m))
take_less (suc n) m (x ∷ xs) = let e : suc n + m ≡ suc (n + m) = omega arith in ap (λ (k : ℕ). take (suc n) (take k (x ∷ xs))) e ∙ ap (λ (ys : List ℕ). x ∷ ys) (take_less n m xs)

-- the id behind a header that is known
id_again : (bytes : List ℕ) (version id n : ℕ) → id < 2 ^ 64 → take 24 bytes ≡ header version id n → told_id bytes ≡ id
id_again bytes version id n fits head =
    let narrow : take 8 (drop 13 (take 24 bytes)) ≡ take 8 (drop 13 bytes) = ap (take 8) (drop-take 13 11 bytes) ∙ take_less 8 3 (drop 13 bytes) in
    let there : take 8 (drop 13 bytes) ≡ to_le_bytes w64 id = sym narrow ∙ ap (λ (xs : List ℕ). take 8 (drop 13 xs)) head in
    ap (from_le_bytes w64) there ∙ from_le_bytes-to_le_bytes_8 id fits

at_take : (n i : ℕ) (xs : List ℕ) → i < n → get_or (take n xs) i 0 ≡ get_or xs i 0
at_take zero i xs h = absurd (omega (arith, h))
at_take (suc n) i [] h = refl
at_take (suc n) zero (x ∷ xs) h = refl
at_take (suc n) (suc i) (x ∷ xs) h = at_take n i xs (omega (arith, h))

-- and its version
version_again : (bytes : List ℕ) (version id n : ℕ) → 1 ≤ version → take 24 bytes ≡ header version id n → told_version bytes ≡ version
version_again bytes version id n first head =
    let place : get_or bytes 12 0 ≡ version - 1 = sym (at_take 24 12 bytes (omega arith)) ∙ ap (λ (xs : List ℕ). get_or xs 12 0) head in
    omega (arith, first, place)

-- the test's parts
record Tested (bytes : List ℕ) : Type 0 where
  long : 112 ≤ length bytes
  short : length bytes ≤ 112 + 2 ^ 18
  least : 1 ≤ told_id bytes
  last : told_version bytes ≤ 2
  head : take 24 bytes ≡ header (told_version bytes) (told_id bytes) (length bytes - 112)

tested : (bytes : List ℕ) → is_container bytes ≡ true → Tested bytes
tested bytes e =
    let a = and_parts _ _ e in
    let b = and_parts _ _ a.0 in
    let c = and_parts _ _ b.0 in
    let d = and_parts _ _ c.0 in
    record {
      long = leb-true 112 (length bytes) d.0;
      short = leb-true (length bytes) (112 + 2 ^ 18) d.1;
      least = leb-true 1 (told_id bytes) c.1;
      last = leb-true (told_version bytes) 2 b.1;
      head = (bytes_decides (take 24 bytes) (header (told_version bytes) (told_id bytes) (length bytes - 112))).0 a.1;
    }

some_is : (a b : Container) → Some a ≡ Some b → a ≡ b
some_is a b e = cc

pub form_is : (bytes : List ℕ) (c : Container) → AreBytes bytes → container_of bytes ≡ Some c → IsContainer bytes c
form_is bytes c small e = by (is_container bytes) (tested bytes) e where
  by : (b : Bool) → (b ≡ true → Tested bytes) → (if b then Some (record { id = told_id bytes; version = told_version bytes; length = length bytes - 112 }) else None) ≡ Some c → IsContainer bytes c
  by true is h =
      let t = is refl in
      subst (IsContainer bytes) (some_is (record { id = told_id bytes; version = told_version bytes; length = length bytes - 112 }) c h)
      (record { least = t.least; fits = id_fits bytes t.long small; first = omega arith; last = t.last; short = omega (arith, t.short); long = omega (arith, t.long); head = t.head })
  by false is h = absurd cc

abbrev told : ℕ → ℕ → ℕ → Container
told i v m = record { id = i; version = v; length = m }

pub is_form : (bytes : List ℕ) (c : Container) → IsContainer bytes c → container_of bytes ≡ Some c
is_form bytes c h =
    let id : told_id bytes ≡ c.id = id_again bytes c.version c.id c.length h.fits h.head in
    let version : told_version bytes ≡ c.version = version_again bytes c.version c.id c.length h.first h.head in
    let n : length bytes - 112 ≡ c.length = omega (arith, h.long) in
    let least : nat_le 1 (told_id bytes) ≡ true = le-leb 1 (told_id bytes) (omega (arith, h.least, id)) in
    let last : nat_le (told_version bytes) 2 ≡ true = le-leb (told_version bytes) 2 (omega (arith, h.last, version)) in
    let head : pointwise nat_eq (take 24 bytes) (header (told_version bytes) (told_id bytes) (length bytes - 112)) ≡ true =
    (bytes_decides (take 24 bytes) (header (told_version bytes) (told_id bytes) (length bytes - 112))).1
    (h.head ∙ ap (λ (v : ℕ). header v c.id c.length) (sym version) ∙ ap (λ (i : ℕ). header (told_version bytes) i c.length) (sym id) ∙ ap (header (told_version bytes) (told_id bytes)) (sym n)) in
    rw (le-leb 112 (length bytes) (omega (arith, h.long)))
    (rw (le-leb (length bytes) (112 + 2 ^ 18) (omega (arith, h.long, h.short)))
    (rw least
    (rw last
    (rw head
    (ap (λ (i : ℕ). Some (told i (told_version bytes) (length bytes - 112))) id ∙ ap (λ (v : ℕ). Some (told c.id v (length bytes - 112))) version ∙ ap (λ (m : ℕ). Some (told c.id c.version m)) n)))))

-- what tells a container is long enough for one
pub told_long : (bytes : List ℕ) (c : Container) → container_of bytes ≡ Some c → 112 ≤ length bytes
told_long bytes c e = by (is_container bytes) (tested bytes) e where
  by : (b : Bool) → (b ≡ true → Tested bytes) → (if b then Some (record { id = told_id bytes; version = told_version bytes; length = length bytes - 112 }) else None) ≡ Some c → 112 ≤ length bytes
  by true is h = (is refl).long
  by false is h = absurd cc
