-- What is unfinished is the front of a frame that is longer.
use Rattle.std.proofs.Common.{◌≡◌, ℕ, suc, ◌+◌, ◌-◌, ◌^◌, ◌≤◌, ◌<◌, Bool, true, false, List, [], ◌∷◌, ◌++◌, length, get_or, take, drop, replicate, refl, sym, ap, ◌∙◌, append_assoc, arith, inl, inr}
use Rattle.std.specs.Int.{w32, from_be_bytes, to_be_bytes}
use Rattle.std.proofs.lemmas.Bool.{cases_lt}
use Rattle.std.proofs.lemmas.List.{take-append-drop, length-append, length-take, length-drop, length-replicate, get_or_append_left, get_or-append_right, get_or-replicate, get_or_past}
use Rattle.pg_wire.specs.declared.frame.Side.{Side}
use Rattle.pg_wire.specs.declared.frame.Side.TheVariants as side
use Rattle.pg_wire.specs.declared.frame.FrameFault.TheVariants as faults
use Rattle.pg_wire.specs.Frames.{is_type, counted, LengthIs, IsUnfinished}
use Rattle.pg_wire.specs.Prefixes.{BeginsFrame}
use Rattle.pg_wire.proofs.Heads.{message_bytes}
use Rattle.byte_reader.proofs.Widths.{be_wide32}
use Rattle.byte_reader.proofs.Taken.{IsBytes, IsBytes-take}

-- a length and a body of some length begin with these bytes, and are longer
record BeginsCounted (bytes : List ℕ) : Type 0 where
  body : List ℕ
  more : List ℕ
  fits : length body + 4 < 2 ^ 32
  whole : counted body ≡ bytes ++ more
  longer : more ≡ [] → ⊥

some_left : (xs : List ℕ) → 1 ≤ length xs → xs ≡ [] → ⊥
some_left xs some e = omega (arith, ap length e)

-- four bytes and as many as they tell
told_body : (front body : List ℕ) → length front ≡ 4 → IsBytes front → length body + 4 ≡ from_be_bytes w32 front → counted body ≡ front ++ body
told_body front body four fits told = ap (λ (n : ℕ). to_be_bytes w32 n ++ body) told ∙ ap (λ (xs : List ℕ). xs ++ body) (be_wide32.back front four fits)

-- ---- less than a length

filled : List ℕ → List ℕ
filled bytes = bytes ++ replicate (4 - length bytes) 255

filled-length : (bytes : List ℕ) → length bytes < 4 → length (filled bytes) ≡ 4
unfolding filled
filled-length bytes short = omega (arith, length-append bytes (replicate (4 - length bytes) 255), length-replicate {A = ℕ} (4 - length bytes) 255)

filled-last : (bytes : List ℕ) → length bytes < 4 → get_or (filled bytes) 3 0 ≡ 255
unfolding filled
filled-last bytes short = get_or-append_right bytes (replicate (4 - length bytes) 255) (length bytes) 3 0 refl (omega arith) ∙ get_or-replicate {A = ℕ} (4 - length bytes) (3 - length bytes) 255 0 (omega arith)

filled-fits : (bytes : List ℕ) → length bytes < 4 → IsBytes bytes → IsBytes (filled bytes)
unfolding filled
filled-fits bytes short fits i =
    let ends : List ℕ = replicate (4 - length bytes) 255 in
    elim (cases_lt i (length bytes)) [
      | inl lt ↦ rw (get_or_append_left bytes ends 0 i lt) (fits i)
      | inr le ↦ elim (cases_lt (i - length bytes) (4 - length bytes)) [
        | inl lt ↦ rw (get_or-append_right bytes ends (length bytes) i 0 refl le, get_or-replicate {A = ℕ} (4 - length bytes) (i - length bytes) 255 0 lt) (omega arith)
        | inr ge ↦ rw (get_or-append_right bytes ends (length bytes) i 0 refl le, get_or_past ends (i - length bytes) 0 (omega (arith, length-replicate {A = ℕ} (4 - length bytes) 255))) (omega arith)
      ]
    ]

told_least : (front : List ℕ) → get_or front 3 0 ≡ 255 → 4 ≤ from_be_bytes w32 front
told_least front last = omega (arith, last)

short_begins : (bytes : List ℕ) → IsBytes bytes → length bytes < 4 → BeginsCounted bytes
unfolding filled
short_begins bytes fits short =
    let ends : List ℕ = replicate (4 - length bytes) 255 in
    let front = filled bytes in
    let front-fits = filled-fits bytes short fits in
    let n = from_be_bytes w32 front in
    let least : 4 ≤ n = told_least front (filled-last bytes short) in
    let body : List ℕ = replicate (n - 4) 0 in
    let told : length body + 4 ≡ n = omega (arith, length-replicate {A = ℕ} (n - 4) 0) in
    let below = be_wide32.below front front-fits in record {
      body = body;
      more = ends ++ body;
      fits = omega (arith, below, told);
      whole = told_body front body (filled-length bytes short) front-fits told ∙ append_assoc bytes ends body;
      longer = some_left (ends ++ body) (omega (arith, length-append ends body, length-replicate {A = ℕ} (4 - length bytes) 255));
    }

-- ---- a length, and less than it tells

at_least : (a b : ℕ) → (a < b → ⊥) → b ≤ a
at_least a b h = elim (cases_lt a b) [ inl lt ↦ absurd (h lt) | inr le ↦ le ]

long_begins : (least most : ℕ) (bytes : List ℕ) → IsBytes bytes → 4 ≤ least → 4 ≤ length bytes → ((n : ℕ) → LengthIs bytes n → n < least → ⊥) → ((n : ℕ) → LengthIs bytes n → least ≤ n → most < n → ⊥)
    → ((body rest : List ℕ) → least ≤ length body + 4 → length body + 4 ≤ most → length body + 4 < 2 ^ 32 → bytes ≡ counted body ++ rest → ⊥) → BeginsCounted bytes
long_begins least most bytes fits four long not_below not_above no_body =
    let front = take 4 bytes in
    let behind = drop 4 bytes in
    let n = from_be_bytes w32 front in
    let front-fits = IsBytes-take 4 bytes fits in
    let front-four : length front ≡ 4 = omega (arith, length-take 4 bytes) in
    let told : LengthIs bytes n = (long, refl) in
    let low : least ≤ n = at_least n least (not_below n told) in
    let high : n ≤ most = at_least most n (not_above n told low) in
    let below : n < 2 ^ 32 = be_wide32.below front front-fits in
    let parts : front ++ behind ≡ bytes = take-append-drop 4 bytes in
    let behind-len : length behind ≡ length bytes - 4 = length-drop 4 bytes in
    elim (cases_lt (length bytes) n) [
      | inl lt ↦
          let ends : List ℕ = replicate (n - length bytes) 0 in
          let body-told : length (behind ++ ends) + 4 ≡ n = omega (arith, length-append behind ends, length-replicate {A = ℕ} (n - length bytes) 0, behind-len) in record {
            body = behind ++ ends;
            more = ends;
            fits = omega (arith, body-told, below);
            whole = told_body front (behind ++ ends) front-four front-fits body-told ∙ sym (append_assoc front behind ends) ∙ ap (λ (xs : List ℕ). xs ++ ends) parts;
            longer = some_left ends (omega (arith, length-replicate {A = ℕ} (n - length bytes) 0));
          }
      | inr ge ↦
          let body = take (n - 4) behind in
          let body-told : length body + 4 ≡ n = omega (arith, length-take (n - 4) behind, behind-len) in
          let whole : bytes ≡ counted body ++ drop (n - 4) behind =
          sym parts ∙ ap (λ (xs : List ℕ). front ++ xs) (sym (take-append-drop (n - 4) behind)) ∙ sym (append_assoc front body (drop (n - 4) behind))
          ∙ ap (λ (xs : List ℕ). xs ++ drop (n - 4) behind) (sym (told_body front body front-four front-fits body-told)) in
          absurd (no_body body (drop (n - 4) behind) (omega (arith, body-told, low)) (omega (arith, body-told, high)) (omega (arith, body-told, below)) whole)
    ]

counted_begins : (least most : ℕ) (bytes : List ℕ) → IsBytes bytes → 4 ≤ least → ((n : ℕ) → LengthIs bytes n → n < least → ⊥) → ((n : ℕ) → LengthIs bytes n → least ≤ n → most < n → ⊥)
    → ((body rest : List ℕ) → least ≤ length body + 4 → length body + 4 ≤ most → length body + 4 < 2 ^ 32 → bytes ≡ counted body ++ rest → ⊥) → BeginsCounted bytes
counted_begins least most bytes fits four not_below not_above no_body =
    elim (cases_lt (length bytes) 4) [
      | inl short ↦ short_begins bytes fits short
      | inr long ↦ long_begins least most bytes fits four long not_below not_above no_body
    ]

-- ---- frames

startup_begins : (who : Side) (limit : ℕ) (bytes : List ℕ) → IsBytes bytes → IsUnfinished who limit true bytes → BeginsFrame who true bytes
startup_begins who limit bytes fits un =
    let h =
    counted_begins 8 10000 bytes fits (omega arith) (λ n told lt. un.no_fault (faults.BadLength n) (n, told, (refl, lt))) (λ n told low gt. un.no_fault (faults.TooLong n) (n, told, (refl, low, gt)))
    (λ body rest low high small e. un.no_frame 0 body rest (refl, omega arith, high) e) in record {
      kind = 0;
      body = h.body;
      more = h.more;
      is_kind = refl;
      fits = h.fits;
      whole = h.whole;
      longer = h.longer;
    }

no_bytes_begin : (who : Side) (kind : ℕ) → is_type who kind ≡ true → BeginsFrame who false []
no_bytes_begin who kind typed = record {
  kind = kind;
  body = [];
  more = kind ∷ counted [];
  is_kind = typed;
  fits = omega arith;
  whole = message_bytes who kind [] typed;
  longer = λ e. absurd cc;
}

message_begins : (who : Side) (limit t : ℕ) (bytes : List ℕ) → IsBytes bytes → IsUnfinished who limit false (t ∷ bytes) → is_type who t ≡ true → BeginsFrame who false (t ∷ bytes)
message_begins who limit t bytes fits un typed =
    let h =
    counted_begins 4 limit bytes fits (omega arith) (λ n told lt. un.no_fault (faults.BadLength n) (typed, (n, told, (refl, lt)))) (λ n told low gt. un.no_fault (faults.TooLong n) (typed, (n, told, (refl, low, gt))))
    (λ body rest low high small e. un.no_frame t body rest (typed, high, small) (ap (λ (xs : List ℕ). t ∷ xs) e ∙ ap (λ (xs : List ℕ). xs ++ rest) (sym (message_bytes who t body typed)))) in record {
      kind = t;
      body = h.body;
      more = h.more;
      is_kind = typed;
      fits = h.fits;
      whole = message_bytes who t h.body typed ∙ ap (λ (xs : List ℕ). t ∷ xs) h.whole;
      longer = h.longer;
    }

-- what is unfinished is the front of a longer frame
pub unfinished_begins : (who : Side) (limit : ℕ) (opening : Bool) (bytes : List ℕ) → IsBytes bytes → IsUnfinished who limit opening bytes → BeginsFrame who opening bytes
unfinished_begins who limit true bytes fits un = startup_begins who limit bytes fits un
unfinished_begins side.Client limit false [] fits un = no_bytes_begin side.Client 81 refl
unfinished_begins side.Backend limit false [] fits un = no_bytes_begin side.Backend 82 refl
unfinished_begins who limit false (t ∷ bytes) fits un = by (is_type who t) refl where
  by : (b : Bool) → is_type who t ≡ b → BeginsFrame who false (t ∷ bytes)
  by true e = message_begins who limit t bytes (λ i. fits (suc i)) un e
  by false e = absurd (un.no_fault (faults.UnknownType t) (refl, e))
