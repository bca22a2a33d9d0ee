-- The place where a message's body can't be read, by how far its readers get.
use Rattle.std.proofs.Common.{◌≡◌, ℕ, ◌-◌, ◌≤◌, ◌⊎◌, Bool, true, false, cond, eqb, List, [], ◌∷◌, ◌++◌, length, take, Result, Ok, Err, refl, sym, ap, subst, ◌∙◌, arith, inl, inr}
use Rattle.std.specs.List.{flat_map}
use Rattle.std.specs.Int.{w16, to_be_bytes}
use Rattle.std.proofs.lemmas.Bool.{eqb-true}
use Rattle.std.proofs.lemmas.List.{length-append}
use Rattle.std.proofs.Math.Seq.{take-append_seam}
use Rattle.byte_reader.specs.Fields.{◌>>=◌, alone}
use Rattle.byte_reader.proofs.Taken.{IsBytes}
use Rattle.byte_reader.proofs.Faults.{err_is}
use Rattle.pg_wire.specs.Parts.{counted_items, listed_items}
use Rattle.pg_wire.specs.Bodies.{mapped}
use Rattle.pg_wire.specs.Places.{joined, counted_fields, listed_fields, EndsAt, IsFaultPlace}
use Rattle.pg_wire.proofs.Placing.{Stops, Places, joined-append, nothing_places, alone_stops}

-- ---- fields are the body

items_joined : {A : Type 0} (spell : A → List ℕ) (fields : A → List (List ℕ)) → ((x : A) → spell x ≡ joined (fields x)) → (xs : List A) → flat_map spell xs ≡ joined (flat_map fields xs)
items_joined spell fields same [] = refl
items_joined spell fields same (x ∷ xs) =
    ap (λ (w : List ℕ). w ++ flat_map spell xs) (same x) ∙ ap (λ (w : List ℕ). joined (fields x) ++ w) (items_joined spell fields same xs) ∙ sym (joined-append (fields x) (flat_map fields xs))

pub counted_joined : {A : Type 0} (spell : A → List ℕ) (fields : A → List (List ℕ)) → ((x : A) → spell x ≡ joined (fields x)) → (xs : List A) → counted_items spell xs ≡ joined (counted_fields fields xs)
counted_joined spell fields same xs = ap (λ (w : List ℕ). to_be_bytes w16 (length xs) ++ w) (items_joined spell fields same xs)

pub listed_joined : {A : Type 0} (spell : A → List ℕ) (fields : A → List (List ℕ)) → ((x : A) → spell x ≡ joined (fields x)) → (xs : List A) → listed_items spell xs ≡ joined (listed_fields fields xs)
listed_joined spell fields same xs = ap (λ (w : List ℕ). w ++ 0 ∷ []) (items_joined spell fields same xs) ∙ sym (joined-append (flat_map fields xs) ((0 ∷ []) ∷ []))

-- ---- arms

pub unit_places : Places {A = Unit {0}} (λ bytes. Ok (tt, bytes)) (λ u. []) (λ u. Unit {0})
unit_places = nothing_places tt tt (λ u h. refl) refl

-- a fault of what is read of a body stands at its first byte, or behind whole fields of a message of kind k
pub record Faulty (M : Type 0) (IsM : M → Type 0) (kind_of : M → ℕ) (fields_of : M → List (List ℕ)) (k : ℕ) (body : List ℕ) (read : Result (M × List ℕ) ℕ) : Type 0 where
  pub stops : (left : ℕ) → (read >>= alone) ≡ Err left → (left ≡ length body) ⊎ Stops fields_of (λ m. IsM m × (k ≡ kind_of m)) body left

pub no_faulty : {M : Type 0} {IsM : M → Type 0} {kind_of : M → ℕ} {fields_of : M → List (List ℕ)} {kind : ℕ} {body : List ℕ} → Faulty M IsM kind_of fields_of kind body (Err (length body))
no_faulty {M} {IsM} {kind_of} {fields_of} {kind} {body} = record { stops = λ left e. inl (sym (err_is {A = M} (length body) left e)) }

pub faulty_or : {M : Type 0} {IsM : M → Type 0} {kind_of : M → ℕ} {fields_of : M → List (List ℕ)} {k kind : ℕ} {body : List ℕ} {read other : Result (M × List ℕ) ℕ}
    → Faulty M IsM kind_of fields_of k body read → Faulty M IsM kind_of fields_of kind body other → Faulty M IsM kind_of fields_of kind body (cond (eqb kind k) read other)
faulty_or {M} {IsM} {kind_of} {fields_of} {k} {kind} {body} {read} {other} here there = record { stops = by (eqb kind k) (eqb-true kind k) } where
  by : (b : Bool) → (b ≡ true → kind ≡ k) → (left : ℕ) → (cond b read other >>= alone) ≡ Err left → (left ≡ length body) ⊎ Stops fields_of (λ m. IsM m × (kind ≡ kind_of m)) body left
  by true same left e = subst (λ (j : ℕ). (left ≡ length body) ⊎ Stops fields_of (λ m. IsM m × (j ≡ kind_of m)) body left) (sym (same refl)) (here.stops left e)
  by false same left e = there.stops left e

-- a message made of what is read
pub faulty_of : {A M : Type 0} {IsM : M → Type 0} {kind_of : M → ℕ} {fields_of : M → List (List ℕ)} {r : List ℕ → Result (A × List ℕ) ℕ} {fields : A → List (List ℕ)} {Fits : A → Type 0} (k : ℕ) (body : List ℕ) (made : A → M)
    → IsBytes body → Places r fields Fits → ((v : A) → Fits v → IsM (made v) × (k ≡ kind_of (made v)) × (fields_of (made v) ≡ fields v)) → Faulty M IsM kind_of fields_of k body (mapped made (r body))
faulty_of {A} {M} {IsM} {kind_of} {fields_of} {r} {fields} {Fits} k body made bs p shown = record { stops = by } where
  by : (left : ℕ) → (mapped made (r body) >>= alone) ≡ Err left → (left ≡ length body) ⊎ Stops fields_of (λ m. IsM m × (k ≡ kind_of m)) body left
  by left e =
      let s = alone_stops made p body left bs e in
      let h = shown s.value s.fits in
      inr (record { value = made s.value; front = s.front; behind = s.behind; rest = s.rest; fits = (h.0, h.1); cut = h.2 ∙ s.cut; begins = s.begins; at = s.at })

-- ---- places

place_begins : {M : Type 0} {IsM : M → Type 0} {kind_of : M → ℕ} {fields_of : M → List (List ℕ)} (kind : ℕ) (body : List ℕ) (left : ℕ) → Stops fields_of (λ m. IsM m × (kind ≡ kind_of m)) body left
    → (m : M) × (n : ℕ) × IsM m × (kind ≡ kind_of m) × EndsAt body (fields_of m) n (length body - left)
place_begins {M} {IsM} {kind_of} {fields_of} kind body left s =
    let all : take (length s.front) (fields_of s.value) ≡ s.front = ap (take (length s.front)) s.cut ∙ take-append_seam s.front s.behind in
    let text : body ≡ joined (take (length s.front) (fields_of s.value)) ++ s.rest = s.begins ∙ ap (λ (fs : List (List ℕ)). joined fs ++ s.rest) (sym all) in
    let size : length body - left ≡ length (joined (take (length s.front) (fields_of s.value))) =
    omega (arith, ap length text, length-append (joined (take (length s.front) (fields_of s.value))) s.rest, s.at) in
    (s.value, length s.front, s.fits.0, s.fits.1, ((s.rest, text), size))

place_last : (body fields rest : List ℕ) (left end : ℕ) → body ≡ fields ++ rest → end ≡ length fields → left ≤ length rest → end ≤ length body - left
place_last body fields rest left end e at le = omega (arith, ap length e, length-append fields rest)

pub is_place : {M : Type 0} {IsM : M → Type 0} {kind_of : M → ℕ} {fields_of : M → List (List ℕ)} (kind : ℕ) (body : List ℕ) (left : ℕ)
    → (left ≡ length body) ⊎ Stops fields_of (λ m. IsM m × (kind ≡ kind_of m)) body left
    → ((m : M) (n : ℕ) (rest : List ℕ) → IsM m → kind ≡ kind_of m → body ≡ joined (take n (fields_of m)) ++ rest → left ≤ length rest)
    → IsFaultPlace IsM kind_of fields_of kind body (length body - left)
is_place {M} {IsM} {kind_of} {fields_of} kind body left stops most = record {
  begins = elim stops [ inl e ↦ inl (omega arith) | inr s ↦ inr (place_begins kind body left s) ];
  last = λ m n end is k at. place_last body (joined (take n (fields_of m))) at.0.0 left end at.0.1 at.1 (most m n at.0.0 is k at.0.1);
}

-- a body has one such place
pub one_place : {M : Type 0} {IsM : M → Type 0} {kind_of : M → ℕ} {fields_of : M → List (List ℕ)} (kind : ℕ) (body : List ℕ) (a b : ℕ)
    → IsFaultPlace IsM kind_of fields_of kind body a → IsFaultPlace IsM kind_of fields_of kind body b → a ≡ b
one_place {M} {IsM} {kind_of} {fields_of} kind body a b pa pb = let x = no_further a b pb pa in let y = no_further b a pa pb in omega (arith, x, y) where
  no_further : (x y : ℕ) → IsFaultPlace IsM kind_of fields_of kind body y → IsFaultPlace IsM kind_of fields_of kind body x → x ≤ y
  no_further x y py px = elim px.begins [ inl e ↦ omega arith | inr h ↦ py.last h.0 h.1 x h.2 h.3 h.4 ]
