-- Lists of items that are read are those that were written, and what was written is read again.
use Rattle.std.proofs.Common.{◌≡◌, ℕ, zero, suc, ◌^◌, ◌<◌, ◌≤◌, List, [], ◌∷◌, ◌++◌, length, Result, Ok, refl, sym, ap, subst, ◌∙◌, append_assoc, arith}
use Rattle.std.specs.List.{flat_map, AllByRecursion}
use Rattle.std.specs.Int.{w16, to_be_bytes}
use Rattle.std.proofs.lemmas.List.{length-append}
use Rattle.pg_wire.specs.Parts.{AreCounted, counted_items, listed_items}
use Rattle.byte_reader.proofs.Widths.{be_wide16, number_takes, number_again}
use Rattle.byte_reader.proofs.Steps.{bind_ok, ok_is}
use Rattle.byte_reader.proofs.Taken.{IsBytes, IsBytes-rest, Takes, Takes-then}
use Rattle.byte_reader.specs.Fields.{◌>>=◌, be_number_at}
use Rattle.pg_wire.specs.Bodies.{◌followed_by◌, items_at, counted_at, ended_at, listed_at}

-- an item with its spelling
pub record IsItem {A : Type 0} (item : List ℕ → Result (A × List ℕ) ℕ) (spell : A → List ℕ) (Fits : A → Type 0) : Type 0 where
  pub takes : (bytes : List ℕ) (x : A × List ℕ) → IsBytes bytes → item bytes ≡ Ok x → Takes bytes (spell x.0) x.1 × Fits x.0
  pub again : (x : A) (rest : List ℕ) → Fits x → item (spell x ++ rest) ≡ Ok (x, rest)

-- ---- as many as a count says

pub items_take : {A : Type 0} (item : List ℕ → Result (A × List ℕ) ℕ) (spell : A → List ℕ) (Fits : A → Type 0) → IsItem item spell Fits
    → (n : ℕ) (bytes : List ℕ) (x : List A × List ℕ) → IsBytes bytes → items_at item n bytes ≡ Ok x → Takes bytes (flat_map spell x.0) x.1 × (length x.0 ≡ n) × AllByRecursion Fits x.0
unfolding items_at
items_take {A} item spell Fits is zero bytes x fits e =
    subst (λ (y : List A × List ℕ). Takes bytes (flat_map spell y.0) y.1 × (length y.0 ≡ 0) × AllByRecursion Fits y.0) (ok_is ([], bytes) x e) (record { parts = refl; rest_fits = fits }, refl, tt)
items_take {A} item spell Fits is (suc n) bytes x fits e =
    let a = bind_ok (item bytes) (λ first. items_at item n first.1 >>= λ others. Ok (first.0 ∷ others.0, others.1)) x e in
    let b = bind_ok (items_at item n a.0.1) (λ others. Ok (a.0.0 ∷ others.0, others.1)) x a.2 in
    let first = is.takes bytes a.0 fits a.1 in
    let second = items_take item spell Fits is n a.0.1 b.0 first.0.rest_fits b.1 in
    let both = Takes-then bytes (spell a.0.0) a.0.1 (flat_map spell b.0.0) b.0.1 first.0 second.0 in
    let made : List A × List ℕ = (a.0.0 ∷ b.0.0, b.0.1) in
    subst (λ (y : List A × List ℕ). Takes bytes (flat_map spell y.0) y.1 × (length y.0 ≡ suc n) × AllByRecursion Fits y.0) (ok_is made x b.2) (both, ap suc second.1, (first.1, second.2))

pub items_again : {A : Type 0} (item : List ℕ → Result (A × List ℕ) ℕ) (spell : A → List ℕ) (Fits : A → Type 0) → IsItem item spell Fits
    → (xs : List A) (rest : List ℕ) → AllByRecursion Fits xs → items_at item (length xs) (flat_map spell xs ++ rest) ≡ Ok (xs, rest)
unfolding items_at
items_again item spell Fits is [] rest fits = refl
items_again item spell Fits is (x ∷ xs) rest fits =
    let regrouped : flat_map spell (x ∷ xs) ++ rest ≡ spell x ++ (flat_map spell xs ++ rest) = append_assoc (spell x) (flat_map spell xs) rest in
    ap (items_at item (suc (length xs))) regrouped ∙ rw (is.again x (flat_map spell xs ++ rest) fits.0, items_again item spell Fits is xs rest fits.1) refl

pub counted_takes : {A : Type 0} (item : List ℕ → Result (A × List ℕ) ℕ) (spell : A → List ℕ) (Fits : A → Type 0) → IsItem item spell Fits
    → (bytes : List ℕ) (x : List A × List ℕ) → IsBytes bytes → counted_at item bytes ≡ Ok x → Takes bytes (counted_items spell x.0) x.1 × AreCounted Fits x.0
unfolding counted_at
counted_takes item spell Fits is bytes x fits e =
    let a = bind_ok (be_number_at w16 bytes) (λ n. items_at item n.0 n.1) x e in
    let first = number_takes w16 (2 ^ 16) be_wide16 bytes a.0 fits a.1 in
    let second = items_take item spell Fits is a.0.0 a.0.1 x first.0.rest_fits a.2 in
    let both = Takes-then bytes (to_be_bytes w16 a.0.0) a.0.1 (flat_map spell x.0) x.1 first.0 second.0 in
    (subst (λ (k : ℕ). Takes bytes (to_be_bytes w16 k ++ flat_map spell x.0) x.1) (sym second.1) both, (omega (arith, second.1, first.1), second.2))

pub counted_again : {A : Type 0} (item : List ℕ → Result (A × List ℕ) ℕ) (spell : A → List ℕ) (Fits : A → Type 0) → IsItem item spell Fits
    → (xs : List A) (rest : List ℕ) → AreCounted Fits xs → counted_at item (counted_items spell xs ++ rest) ≡ Ok (xs, rest)
unfolding counted_at
counted_again item spell Fits is xs rest fits =
    let regrouped : counted_items spell xs ++ rest ≡ to_be_bytes w16 (length xs) ++ (flat_map spell xs ++ rest) = append_assoc (to_be_bytes w16 (length xs)) (flat_map spell xs) rest in
    ap (counted_at item) regrouped ∙ rw (number_again w16 (2 ^ 16) be_wide16 (length xs) (flat_map spell xs ++ rest) fits.0) (items_again item spell Fits is xs rest fits.1)

pub counted_item : {A : Type 0} {item : List ℕ → Result (A × List ℕ) ℕ} {spell : A → List ℕ} {Fits : A → Type 0} → IsItem item spell Fits → IsItem (counted_at item) (counted_items spell) (AreCounted Fits)
counted_item {A} {item} {spell} {Fits} is = record { takes = counted_takes item spell Fits is; again = counted_again item spell Fits is }

-- ---- one behind another

both_takes : {A B : Type 0} (a : List ℕ → Result (A × List ℕ) ℕ) (b : List ℕ → Result (B × List ℕ) ℕ) (sa : A → List ℕ) (sb : B → List ℕ) (Fa : A → Type 0) (Fb : B → Type 0) → IsItem a sa Fa → IsItem b sb Fb
    → (bytes : List ℕ) (x : (A × B) × List ℕ) → IsBytes bytes → (a followed_by b) bytes ≡ Ok x → Takes bytes (sa x.0.0 ++ sb x.0.1) x.1 × (Fa x.0.0 × Fb x.0.1)
both_takes {A} {B} a b sa sb Fa Fb ia ib bytes x fits e =
    let p = bind_ok (a bytes) (λ first. b first.1 >>= λ second. Ok ((first.0, second.0), second.1)) x e in
    let q = bind_ok (b p.0.1) (λ second. Ok ((p.0.0, second.0), second.1)) x p.2 in
    let t = ia.takes bytes p.0 fits p.1 in
    let u = ib.takes p.0.1 q.0 t.0.rest_fits q.1 in
    let made : (A × B) × List ℕ = ((p.0.0, q.0.0), q.0.1) in
    subst (λ (y : (A × B) × List ℕ). Takes bytes (sa y.0.0 ++ sb y.0.1) y.1 × (Fa y.0.0 × Fb y.0.1)) (ok_is made x q.2) (Takes-then bytes (sa p.0.0) p.0.1 (sb q.0.0) q.0.1 t.0 u.0, (t.1, u.1))

both_again : {A B : Type 0} (a : List ℕ → Result (A × List ℕ) ℕ) (b : List ℕ → Result (B × List ℕ) ℕ) (sa : A → List ℕ) (sb : B → List ℕ) (Fa : A → Type 0) (Fb : B → Type 0) → IsItem a sa Fa → IsItem b sb Fb
    → (x : A × B) (rest : List ℕ) → Fa x.0 × Fb x.1 → (a followed_by b) ((sa x.0 ++ sb x.1) ++ rest) ≡ Ok (x, rest)
both_again a b sa sb Fa Fb ia ib x rest is =
    ap (a followed_by b) (append_assoc (sa x.0) (sb x.1) rest) ∙ rw (ia.again x.0 (sb x.1 ++ rest) is.0, ib.again x.1 rest is.1) refl

pub both_item : {A B : Type 0} {a : List ℕ → Result (A × List ℕ) ℕ} {b : List ℕ → Result (B × List ℕ) ℕ} {sa : A → List ℕ} {sb : B → List ℕ} {Fa : A → Type 0} {Fb : B → Type 0} → IsItem a sa Fa → IsItem b sb Fb
    → IsItem (a followed_by b) (λ x. sa x.0 ++ sb x.1) (λ x. Fa x.0 × Fb x.1)
both_item {A} {B} {a} {b} {sa} {sb} {Fa} {Fb} ia ib = record { takes = both_takes a b sa sb Fa Fb ia ib; again = both_again a b sa sb Fa Fb ia ib }

-- ---- up to a zero byte

-- an item that doesn't begin with a zero byte
pub record IsListed {A : Type 0} (item : List ℕ → Result (A × List ℕ) ℕ) (spell : A → List ℕ) (Fits : A → Type 0) : Type 0 where
  pub takes : (b : ℕ) (bytes : List ℕ) (x : A × List ℕ) → IsBytes (suc b ∷ bytes) → item (suc b ∷ bytes) ≡ Ok x → Takes (suc b ∷ bytes) (spell x.0) x.1 × Fits x.0
  pub again : (x : A) (rest : List ℕ) → Fits x → item (spell x ++ rest) ≡ Ok (x, rest)
  pub begins : (x : A) → Fits x → (b : ℕ) × (tail : List ℕ) × (spell x ≡ suc b ∷ tail)

ended_takes : {A : Type 0} (item : List ℕ → Result (A × List ℕ) ℕ) (spell : A → List ℕ) (Fits : A → Type 0) → IsListed item spell Fits
    → (n : ℕ) (bytes : List ℕ) (x : List A × List ℕ) → IsBytes bytes → ended_at item n bytes ≡ Ok x → Takes bytes (listed_items spell x.0) x.1 × AllByRecursion Fits x.0
unfolding ended_at
ended_takes item spell Fits is zero bytes x fits e = absurd cc
ended_takes item spell Fits is (suc n) [] x fits e = absurd cc
ended_takes {A} item spell Fits is (suc n) (zero ∷ bytes) x fits e =
    subst (λ (y : List A × List ℕ). Takes (0 ∷ bytes) (listed_items spell y.0) y.1 × AllByRecursion Fits y.0) (ok_is ([], bytes) x e) (record { parts = refl; rest_fits = IsBytes-rest 0 bytes fits }, tt)
ended_takes {A} item spell Fits is (suc n) (suc c ∷ bytes) x fits e =
    let a = bind_ok (item (suc c ∷ bytes)) (λ first. ended_at item n first.1 >>= λ others. Ok (first.0 ∷ others.0, others.1)) x e in
    let b = bind_ok (ended_at item n a.0.1) (λ others. Ok (a.0.0 ∷ others.0, others.1)) x a.2 in
    let first = is.takes c bytes a.0 fits a.1 in
    let second = ended_takes item spell Fits is n a.0.1 b.0 first.0.rest_fits b.1 in
    let both = Takes-then (suc c ∷ bytes) (spell a.0.0) a.0.1 (listed_items spell b.0.0) b.0.1 first.0 second.0 in
    let regrouped : spell a.0.0 ++ listed_items spell b.0.0 ≡ listed_items spell (a.0.0 ∷ b.0.0) = sym (append_assoc (spell a.0.0) (flat_map spell b.0.0) (0 ∷ [])) in
    let made : List A × List ℕ = (a.0.0 ∷ b.0.0, b.0.1) in
    subst (λ (y : List A × List ℕ). Takes (suc c ∷ bytes) (listed_items spell y.0) y.1 × AllByRecursion Fits y.0) (ok_is made x b.2)
    (subst (λ (t : List ℕ). Takes (suc c ∷ bytes) t b.0.1) regrouped both, (first.1, second.1))

pub listed_takes : {A : Type 0} (item : List ℕ → Result (A × List ℕ) ℕ) (spell : A → List ℕ) (Fits : A → Type 0) → IsListed item spell Fits
    → (bytes : List ℕ) (x : List A × List ℕ) → IsBytes bytes → listed_at item bytes ≡ Ok x → Takes bytes (listed_items spell x.0) x.1 × AllByRecursion Fits x.0
listed_takes item spell Fits is bytes x fits e = ended_takes item spell Fits is (length bytes) bytes x fits e

ended_again : {A : Type 0} (item : List ℕ → Result (A × List ℕ) ℕ) (spell : A → List ℕ) (Fits : A → Type 0) → IsListed item spell Fits
    → (n : ℕ) (xs : List A) (rest : List ℕ) → AllByRecursion Fits xs → length xs < n → ended_at item n (listed_items spell xs ++ rest) ≡ Ok (xs, rest)
unfolding ended_at
ended_again item spell Fits is zero xs rest fits lt = absurd (omega arith)
ended_again item spell Fits is (suc n) [] rest fits lt = refl
ended_again item spell Fits is (suc n) (x ∷ xs) rest fits lt =
    let behind = listed_items spell xs ++ rest in
    let begin = is.begins x fits.0 in
    let regrouped : listed_items spell (x ∷ xs) ++ rest ≡ spell x ++ behind = ap (λ (t : List ℕ). t ++ rest) (append_assoc (spell x) (flat_map spell xs) (0 ∷ [])) ∙ append_assoc (spell x) (listed_items spell xs) rest in
    let opened : spell x ++ behind ≡ suc begin.0 ∷ (begin.1 ++ behind) = ap (λ (t : List ℕ). t ++ behind) begin.2 in
    let one : item (suc begin.0 ∷ (begin.1 ++ behind)) ≡ Ok (x, behind) = ap item (sym opened) ∙ is.again x behind fits.0 in
    ap (ended_at item (suc n)) (regrouped ∙ opened) ∙ rw (one, ended_again item spell Fits is n xs rest fits.1 (omega arith)) refl

length_listed : {A : Type 0} (item : List ℕ → Result (A × List ℕ) ℕ) (spell : A → List ℕ) (Fits : A → Type 0) → IsListed item spell Fits
    → (xs : List A) → AllByRecursion Fits xs → length xs ≤ length (flat_map spell xs)
length_listed item spell Fits is [] fits = omega arith
length_listed item spell Fits is (x ∷ xs) fits =
    omega (arith, length_listed item spell Fits is xs fits.1, length-append (spell x) (flat_map spell xs), ap length (is.begins x fits.0).2)

pub listed_again : {A : Type 0} (item : List ℕ → Result (A × List ℕ) ℕ) (spell : A → List ℕ) (Fits : A → Type 0) → IsListed item spell Fits
    → (xs : List A) (rest : List ℕ) → AllByRecursion Fits xs → listed_at item (listed_items spell xs ++ rest) ≡ Ok (xs, rest)
listed_again item spell Fits is xs rest fits =
    ended_again item spell Fits is (length (listed_items spell xs ++ rest)) xs rest fits
    (omega (arith, length_listed item spell Fits is xs fits, length-append (listed_items spell xs) rest, length-append (flat_map spell xs) (0 ∷ [])))
