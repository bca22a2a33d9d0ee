-- Frames and faults of one stream.
use Rattle.std.proofs.Common.{◌≡◌, ℕ, ◌+◌, ◌^◌, ◌≤◌, ◌<◌, Bool, true, false, List, [], ◌∷◌, ◌++◌, length, take, drop, refl, sym, ap, ◌∙◌, arith}
use Rattle.std.specs.Int.{w32, from_be_bytes}
use Rattle.std.proofs.lemmas.List.{take_at, append_cancel_left, take-append-le, length-append}
use Rattle.std.proofs.lemmas.Nat.{from_be_bytes-to_be_bytes_4}
use Rattle.pg_wire.specs.declared.frame.Side.{Side}
use Rattle.pg_wire.specs.declared.frame.FrameFault.{FrameFault}
use Rattle.pg_wire.specs.declared.frame.FrameFault.TheVariants as faults
use Rattle.pg_wire.specs.Frames.{counted, frame_bytes, IsFrame, LengthIs, BadLengthIs, HasFault}
use Rattle.pg_wire.proofs.Heads.{message_bytes}

-- ---- what follows a type byte

-- the length that a counted body tells
counted_length : (body rest : List ℕ) → length body + 4 < 2 ^ 32 → from_be_bytes w32 (take 4 (counted body ++ rest)) ≡ length body + 4
counted_length body rest fits = from_be_bytes-to_be_bytes_4 (length body + 4) fits

length_told : (bytes body rest : List ℕ) (n : ℕ) → length body + 4 < 2 ^ 32 → bytes ≡ counted body ++ rest → LengthIs bytes n → length body + 4 ≡ n
length_told bytes body rest n fits e told = sym (counted_length body rest fits) ∙ ap (λ (xs : List ℕ). from_be_bytes w32 (take 4 xs)) (sym e) ∙ told.1

one_counted : (b c x y : List ℕ) → length b + 4 < 2 ^ 32 → length c + 4 < 2 ^ 32 → counted b ++ x ≡ counted c ++ y → (b ≡ c) × (x ≡ y)
one_counted b c x y fb fc e =
    let told : length b + 4 ≡ length c + 4 = sym (counted_length b x fb) ∙ ap (λ (xs : List ℕ). from_be_bytes w32 (take 4 xs)) e ∙ counted_length c y fc in
    let len : length c ≡ length b = omega arith in
    let parts : b ++ x ≡ c ++ y = ap (λ (xs : List ℕ). drop 4 xs) e in
    let same : b ≡ c = sym (take_at b x (length b) refl) ∙ ap (λ (xs : List ℕ). take (length b) xs) parts ∙ take_at c y (length b) len in
    (same, append_cancel_left b x y (parts ∙ ap (λ (xs : List ℕ). xs ++ y) (sym same)))

startup_bytes : (kind : ℕ) (body : List ℕ) → kind ≡ 0 → frame_bytes kind body ≡ counted body
startup_bytes kind body e = ap (λ (k : ℕ). frame_bytes k body) e

-- ---- frames

-- no frame begins another
pub one_frame : (who : Side) (limit : ℕ) (opening : Bool) (k j : ℕ) (b c x y : List ℕ) → IsFrame who limit opening k b → IsFrame who limit opening j c
    → frame_bytes k b ++ x ≡ frame_bytes j c ++ y → (k ≡ j) × (b ≡ c) × (x ≡ y)
one_frame who limit true k j b c x y is js e =
    let counts : counted b ++ x ≡ counted c ++ y = ap (λ (xs : List ℕ). xs ++ x) (sym (startup_bytes k b is.0)) ∙ e ∙ ap (λ (xs : List ℕ). xs ++ y) (startup_bytes j c js.0) in
    let same = one_counted b c x y (omega arith) (omega arith) counts in
    (is.0 ∙ sym js.0, same.0, same.1)
one_frame who limit false k j b c x y is js e =
    let whole : k ∷ (counted b ++ x) ≡ j ∷ (counted c ++ y) = ap (λ (xs : List ℕ). xs ++ x) (sym (message_bytes who k b is.0)) ∙ e ∙ ap (λ (xs : List ℕ). xs ++ y) (message_bytes who j c js.0) in
    let same = one_counted b c x y is.2 js.2 (ap (λ (xs : List ℕ). drop 1 xs) whole) in
    (cc, same.0, same.1)

-- ---- faults

in_bounds : (least most n : ℕ) (fault : FrameFault) → BadLengthIs least most n fault → least ≤ n → n ≤ most → ⊥
in_bounds least most n (faults.BadLength m) h le ge = omega arith
in_bounds least most n (faults.TooLong m) h le ge = omega arith
in_bounds least most n (faults.UnknownType t) h le ge = h

no_counted : (least most : ℕ) (bytes body rest : List ℕ) (fault : FrameFault) → ((n : ℕ) × LengthIs bytes n × BadLengthIs least most n fault)
    → least ≤ length body + 4 → length body + 4 ≤ most → length body + 4 < 2 ^ 32 → bytes ≡ counted body ++ rest → ⊥
no_counted least most bytes body rest fault h le ge fits e =
    let n-is = length_told bytes body rest h.0 fits e h.1 in
    in_bounds least most h.0 fault h.2 (omega arith) (omega arith)

-- where there is a fault no frame stands
pub fault_is_no_frame : (who : Side) (limit : ℕ) (opening : Bool) (bytes : List ℕ) (fault : FrameFault) (k : ℕ) (b rest : List ℕ) → HasFault who limit opening bytes fault → IsFrame who limit opening k b → bytes ≡ frame_bytes k b ++ rest → ⊥
fault_is_no_frame who limit true bytes fault k b rest h is e =
    no_counted 8 10000 bytes b rest fault h (omega arith) is.2 (omega arith) (e ∙ ap (λ (xs : List ℕ). xs ++ rest) (startup_bytes k b is.0))
fault_is_no_frame who limit false [] fault k b rest h is e = h
fault_is_no_frame who limit false (t ∷ bytes) (faults.UnknownType u) k b rest h is e =
    let whole : t ∷ bytes ≡ k ∷ (counted b ++ rest) = e ∙ ap (λ (xs : List ℕ). xs ++ rest) (message_bytes who k b is.0) in
    absurd (cc (h.1, is.0))
fault_is_no_frame who limit false (t ∷ bytes) (faults.BadLength n) k b rest h is e =
    let whole : t ∷ bytes ≡ k ∷ (counted b ++ rest) = e ∙ ap (λ (xs : List ℕ). xs ++ rest) (message_bytes who k b is.0) in
    no_counted 4 limit bytes b rest (faults.BadLength n) h.1 (omega arith) is.1 is.2 (ap (λ (xs : List ℕ). drop 1 xs) whole)
fault_is_no_frame who limit false (t ∷ bytes) (faults.TooLong n) k b rest h is e =
    let whole : t ∷ bytes ≡ k ∷ (counted b ++ rest) = e ∙ ap (λ (xs : List ℕ). xs ++ rest) (message_bytes who k b is.0) in
    no_counted 4 limit bytes b rest (faults.TooLong n) h.1 (omega arith) is.1 is.2 (ap (λ (xs : List ℕ). drop 1 xs) whole)

length_stays : (bytes more : List ℕ) (n : ℕ) → LengthIs bytes n → LengthIs (bytes ++ more) n
length_stays bytes more n h = (omega (arith, length-append bytes more), ap (from_be_bytes w32) (take-append-le 4 bytes more h.0) ∙ h.1)

-- a fault stays, whatever comes
pub fault_stays : (who : Side) (limit : ℕ) (opening : Bool) (bytes more : List ℕ) (fault : FrameFault) → HasFault who limit opening bytes fault → HasFault who limit opening (bytes ++ more) fault
fault_stays who limit true bytes more fault h = (h.0, length_stays bytes more h.0 h.1, h.2)
fault_stays who limit false [] more fault h = absurd h
fault_stays who limit false (t ∷ bytes) more (faults.UnknownType u) h = h
fault_stays who limit false (t ∷ bytes) more (faults.BadLength n) h = (h.0, (h.1.0, length_stays bytes more h.1.0 h.1.1, h.1.2))
fault_stays who limit false (t ∷ bytes) more (faults.TooLong n) h = (h.0, (h.1.0, length_stays bytes more h.1.0 h.1.1, h.1.2))

one_bad_length : (least most m n : ℕ) (f g : FrameFault) → m ≡ n → BadLengthIs least most m f → BadLengthIs least most n g → f ≡ g
one_bad_length least most m n (faults.BadLength a) (faults.BadLength b) e h i = cc
one_bad_length least most m n (faults.TooLong a) (faults.TooLong b) e h i = cc
one_bad_length least most m n (faults.BadLength a) (faults.TooLong b) e h i = absurd (omega arith)
one_bad_length least most m n (faults.TooLong a) (faults.BadLength b) e h i = absurd (omega arith)
one_bad_length least most m n (faults.UnknownType t) g e h i = absurd h
one_bad_length least most m n f (faults.UnknownType t) e h i = absurd i

told_once : (least most : ℕ) (bytes : List ℕ) (f g : FrameFault) → ((n : ℕ) × LengthIs bytes n × BadLengthIs least most n f) → ((n : ℕ) × LengthIs bytes n × BadLengthIs least most n g) → f ≡ g
told_once least most bytes f g h i = one_bad_length least most h.0 i.0 f g (sym h.1.1 ∙ i.1.1) h.2 i.2

-- a stream has one fault
pub one_fault : (who : Side) (limit : ℕ) (opening : Bool) (bytes : List ℕ) (f g : FrameFault) → HasFault who limit opening bytes f → HasFault who limit opening bytes g → f ≡ g
one_fault who limit true bytes f g h i = told_once 8 10000 bytes f g h i
one_fault who limit false [] f g h i = absurd h
one_fault who limit false (t ∷ bytes) (faults.UnknownType a) (faults.UnknownType b) h i = cc
one_fault who limit false (t ∷ bytes) (faults.UnknownType a) (faults.BadLength b) h i = absurd (cc (h.1, i.0))
one_fault who limit false (t ∷ bytes) (faults.UnknownType a) (faults.TooLong b) h i = absurd (cc (h.1, i.0))
one_fault who limit false (t ∷ bytes) (faults.BadLength a) (faults.UnknownType b) h i = absurd (cc (h.0, i.1))
one_fault who limit false (t ∷ bytes) (faults.TooLong a) (faults.UnknownType b) h i = absurd (cc (h.0, i.1))
one_fault who limit false (t ∷ bytes) (faults.BadLength a) (faults.BadLength b) h i = told_once 4 limit bytes (faults.BadLength a) (faults.BadLength b) h.1 i.1
one_fault who limit false (t ∷ bytes) (faults.BadLength a) (faults.TooLong b) h i = told_once 4 limit bytes (faults.BadLength a) (faults.TooLong b) h.1 i.1
one_fault who limit false (t ∷ bytes) (faults.TooLong a) (faults.BadLength b) h i = told_once 4 limit bytes (faults.TooLong a) (faults.BadLength b) h.1 i.1
one_fault who limit false (t ∷ bytes) (faults.TooLong a) (faults.TooLong b) h i = told_once 4 limit bytes (faults.TooLong a) (faults.TooLong b) h.1 i.1
