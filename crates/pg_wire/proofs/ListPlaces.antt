-- How far readers of lists get.
use Rattle.std.proofs.Common.{◌≡◌, ℕ, zero, suc, ◌^◌, ◌<◌, ◌≤◌, List, [], ◌∷◌, ◌++◌, length, get_or, take, drop, Result, Ok, Err, refl, sym, ap, subst, ◌∙◌, append_assoc, arith, inl, inr}
use Rattle.std.specs.List.{flat_map, AllByRecursion}
use Rattle.std.specs.Int.{w16, to_be_bytes}
use Rattle.std.proofs.lemmas.List.{nil_from_length, length-append, take-append-drop}
use Rattle.std.proofs.Math.Seq.{take-nil}
use Rattle.byte_reader.specs.Fields.{◌>>=◌, be_number_at}
use Rattle.byte_reader.proofs.Steps.{bind_ok, ok_is}
use Rattle.byte_reader.proofs.Taken.{IsBytes, IsBytes-rest, Takes, Takes-then}
use Rattle.byte_reader.proofs.Widths.{be_wide16, number_takes, number_again}
use Rattle.byte_reader.proofs.Faults.{bind_err, number_left}
use Rattle.byte_reader.proofs.Within.{Within, be_number_within}
use Rattle.pg_wire.specs.Parts.{AreCounted}
use Rattle.pg_wire.specs.Bodies.{items_at, counted_at, ended_at, listed_at, mapped}
use Rattle.pg_wire.specs.Places.{joined, counted_fields, listed_fields}
use Rattle.pg_wire.proofs.Items.{IsItem}
use Rattle.pg_wire.proofs.Placing.{Stops, Places, Goes, joined-append, bind_within, place_within, single_places, nothing_places, as_places, map_places, then_places, split_take, whole_then}

-- ---- as many as a count says

abbrev pub AreItems : {A : Type 0} → (A → Type 0) → ℕ → List A → Type 0
AreItems Fits n xs = (length xs ≡ n) × AllByRecursion Fits xs

first_fits : {A : Type 0} (fields : A → List (List ℕ)) (Fits : A → Type 0) (some : A) (n : ℕ) (xs : List A) → AreItems Fits (suc n) xs
    → Fits (get_or xs 0 some) × (flat_map fields xs ≡ fields (get_or xs 0 some) ++ flat_map fields (drop 1 xs))
first_fits fields Fits some n [] h = absurd (omega (arith, h.0))
first_fits fields Fits some n (x ∷ xs) h = (h.1.0, refl)

others_go : {A : Type 0} (fields : A → List (List ℕ)) (Fits : A → Type 0) (some x : A) (n : ℕ) (xs : List A) → AreItems Fits (suc n) xs × (get_or xs 0 some ≡ x)
    → Goes (flat_map fields) (AreItems Fits n) (λ ys. flat_map fields (drop 1 ys)) (λ ys. x ∷ ys) (λ ys. drop 1 ys) xs
others_go fields Fits some x n [] h = absurd (omega (arith, h.0.0))
others_go fields Fits some x n (y ∷ ys) h = record { fits = (omega (arith, h.0.0), h.0.1.1); same = ap (λ z. z ∷ ys) (sym h.1); spelled = refl }

pub items_places : {A : Type 0} {item : List ℕ → Result (A × List ℕ) ℕ} {fields : A → List (List ℕ)} {Fits : A → Type 0} → Places item fields Fits → (n : ℕ) → Places (items_at item n) (flat_map fields) (AreItems Fits n)
unfolding items_at
items_places {A} {item} {fields} {Fits} p zero = nothing_places [] (refl, tt) (λ xs h. nil_from_length xs h.0) refl
items_places {A} {item} {fields} {Fits} p (suc n) =
    then_places {later = λ xs. flat_map fields (drop 1 xs)} (λ (xs : List A). get_or xs 0 p.some) (λ x bytes. mapped (λ xs. x ∷ xs) (items_at item n bytes)) p
    (λ x fx. map_places (λ (xs : List A). x ∷ xs) (λ xs. drop 1 xs) (items_places p n) (λ xs h. ((ap suc h.0, (fx, h.1)), refl)) (λ xs h. others_go fields Fits p.some x n xs h) (λ xs h. refl))
    (λ xs h. first_fits fields Fits p.some n xs h)

count_item : IsItem (be_number_at w16) (to_be_bytes w16) (λ n. n < 2 ^ 16)
count_item = record { takes = number_takes w16 (2 ^ 16) be_wide16; again = number_again w16 (2 ^ 16) be_wide16 }

pub count_places : Places (be_number_at w16) (λ n. to_be_bytes w16 n ∷ []) (λ n. n < 2 ^ 16)
count_places = single_places count_item 0 (omega arith) (be_number_within w16) (number_left w16)

pub counted_places : {A : Type 0} {item : List ℕ → Result (A × List ℕ) ℕ} {fields : A → List (List ℕ)} {Fits : A → Type 0} → Places item fields Fits → Places (counted_at item) (counted_fields fields) (AreCounted Fits)
unfolding counted_at
counted_places {A} {item} {fields} {Fits} p =
    then_places {later = flat_map fields} (λ (xs : List A). length xs) (λ n bytes. items_at item n bytes) count_places
    (λ n small. as_places (items_places p n) (λ xs h. ((omega (arith, h.0), h.1), h.0)) (λ xs h. ((h.1, h.0.1), refl)))
    (λ xs h. (h.0, refl))

-- ---- up to a zero byte

-- an item that doesn't begin with a zero byte, read as item where one doesn't stand
pub record ListPlaces {A : Type 0} (item : List ℕ → Result (A × List ℕ) ℕ) (fields : A → List (List ℕ)) (Fits : A → Type 0) : Type 0 where
  pub own : List ℕ → Result (A × List ℕ) ℕ
  pub agree : (b : ℕ) (bytes : List ℕ) → item (suc b ∷ bytes) ≡ own (suc b ∷ bytes)
  pub places : Places own fields Fits
  pub begins : (v : A) → Fits v → (b : ℕ) × (tail : List ℕ) × (joined (fields v) ≡ suc b ∷ tail)

listed-cons : {A : Type 0} (fields : A → List (List ℕ)) (x : A) (xs : List A) → listed_fields fields (x ∷ xs) ≡ fields x ++ listed_fields fields xs
listed-cons fields x xs = append_assoc (fields x) (flat_map fields xs) ((0 ∷ []) ∷ [])

-- an item that was read takes a byte
item_shorter : {A : Type 0} {item : List ℕ → Result (A × List ℕ) ℕ} {fields : A → List (List ℕ)} {Fits : A → Type 0} → ListPlaces item fields Fits → (bytes : List ℕ) (v : A) (rest : List ℕ) → Fits v → bytes ≡ joined (fields v) ++ rest
    → length rest < length bytes
item_shorter {A} {item} {fields} {Fits} l bytes v rest fv e = let b = l.begins v fv in omega (arith, ap length e, length-append (joined (fields v)) rest, ap length b.2)

-- where an item's fields are not whole, and a zero byte stands, none of them has bytes
no_bytes : (a b tail rest bytes : List ℕ) (c : ℕ) → a ++ b ≡ suc c ∷ tail → 0 ∷ bytes ≡ a ++ rest → length bytes ≤ length rest
no_bytes [] b tail rest bytes c e h = omega (arith, ap length h)
no_bytes (d ∷ a) b tail rest bytes c e h = absurd (cc (e, h))

-- the first item can't be read
stops_here : {A : Type 0} (fields : A → List (List ℕ)) (Fits : A → Type 0) (bytes : List ℕ) (left : ℕ) → Stops fields Fits bytes left → Stops (listed_fields fields) (AllByRecursion Fits) bytes left
stops_here {A} fields Fits bytes left s = record {
  value = s.value ∷ [];
  front = s.front;
  behind = s.behind ++ (0 ∷ []) ∷ [];
  rest = s.rest;
  fits = (s.fits, tt);
  cut = listed-cons fields s.value [] ∙ ap (λ (fs : List (List ℕ)). fs ++ (0 ∷ []) ∷ []) s.cut ∙ append_assoc s.front s.behind ((0 ∷ []) ∷ []);
  begins = s.begins;
  at = s.at;
}

-- an item behind the first can't be read
stops_later : {A : Type 0} (fields : A → List (List ℕ)) (Fits : A → Type 0) (bytes : List ℕ) (left : ℕ) (x : A) (rest : List ℕ) → Fits x → bytes ≡ joined (fields x) ++ rest → Stops (listed_fields fields) (AllByRecursion Fits) rest left
    → Stops (listed_fields fields) (AllByRecursion Fits) bytes left
stops_later {A} fields Fits bytes left x rest fx e s = record {
  value = x ∷ s.value;
  front = fields x ++ s.front;
  behind = s.behind;
  rest = s.rest;
  fits = (fx, s.fits);
  cut = listed-cons fields x s.value ∙ ap (λ (fs : List (List ℕ)). fields x ++ fs) s.cut ∙ sym (append_assoc (fields x) s.front s.behind);
  begins = e ∙ ap (λ (w : List ℕ). joined (fields x) ++ w) s.begins ∙ sym (append_assoc (joined (fields x)) (joined s.front) s.rest) ∙ ap (λ (w : List ℕ). w ++ s.rest) (sym (joined-append (fields x) s.front));
  at = s.at;
}

-- nothing is left where an item or a zero byte must stand
stops_end : {A : Type 0} (fields : A → List (List ℕ)) (Fits : A → Type 0) (left : ℕ) → 0 ≡ left → Stops (listed_fields fields) (AllByRecursion Fits) [] left
stops_end fields Fits left e = record { value = []; front = []; behind = (0 ∷ []) ∷ []; rest = []; fits = tt; cut = refl; begins = refl; at = e }

abbrev failed_list : {A : Type 0} → ℕ → Result (List A × List ℕ) ℕ
failed_list left = Err left

left_is : {A : Type 0} (l left : ℕ) → failed_list {A = A} l ≡ failed_list left → l ≡ left
left_is l left e = cc

ended_stops : {A : Type 0} {item : List ℕ → Result (A × List ℕ) ℕ} {fields : A → List (List ℕ)} {Fits : A → Type 0} → ListPlaces item fields Fits
    → (n : ℕ) (bytes : List ℕ) (left : ℕ) → IsBytes bytes → length bytes ≤ n → ended_at item n bytes ≡ Err left → Stops (listed_fields fields) (AllByRecursion Fits) bytes left
unfolding ended_at
ended_stops {A} {item} {fields} {Fits} l zero [] left bs le e = stops_end fields Fits left (left_is {A = A} 0 left e)
ended_stops l zero (b ∷ bytes) left bs le e = absurd (omega arith)
ended_stops {A} {item} {fields} {Fits} l (suc n) [] left bs le e = stops_end fields Fits left (left_is {A = A} 0 left e)
ended_stops l (suc n) (zero ∷ bytes) left bs le e = absurd cc
ended_stops {A} {item} {fields} {Fits} l (suc n) (suc b ∷ bytes) left bs le e =
    let all = suc b ∷ bytes in
    elim (bind_err (item all) (λ first. ended_at item n first.1 >>= λ others. Ok (first.0 ∷ others.0, others.1)) left e) [
      | inl h ↦ stops_here fields Fits all left (l.places.stops all left bs (sym (l.agree b bytes) ∙ h))
      | inr h ↦
          let t = l.places.takes all h.0 bs (sym (l.agree b bytes) ∙ h.1) in
          let shorter = item_shorter l all h.0.0 h.0.1 t.1 t.0.parts in
          elim (bind_err (ended_at item n h.0.1) (λ others. Ok (h.0.0 ∷ others.0, others.1)) left h.2) [
            | inl g ↦ stops_later fields Fits all left h.0.0 h.0.1 t.1 t.0.parts (ended_stops l n h.0.1 left t.0.rest_fits (omega (arith, shorter)) g)
            | inr g ↦ absurd (cc g.2)
          ]
    ]

-- what is left is no more than there was
ended_bounded : {A : Type 0} {item : List ℕ → Result (A × List ℕ) ℕ} {fields : A → List (List ℕ)} {Fits : A → Type 0} → ListPlaces item fields Fits → (n : ℕ) (bytes : List ℕ) → IsBytes bytes → Within (length bytes) (ended_at item n bytes)
unfolding ended_at
ended_bounded l zero bytes bs = omega arith
ended_bounded l (suc n) [] bs = omega arith
ended_bounded l (suc n) (zero ∷ bytes) bs = omega arith
ended_bounded {A} {item} {fields} {Fits} l (suc n) (suc b ∷ bytes) bs =
    let all = suc b ∷ bytes in
    bind_within (length all) (item all) (λ first. ended_at item n first.1 >>= λ others. Ok (first.0 ∷ others.0, others.1))
    (subst (λ (y : Result (A × List ℕ) ℕ). Within (length all) y) (sym (l.agree b bytes)) (place_within l.places all bs))
    (λ first is.
    let t = l.places.takes all first bs (sym (l.agree b bytes) ∙ is) in
    bind_within (length first.1) (ended_at item n first.1) (λ others. Ok (first.0 ∷ others.0, others.1)) (ended_bounded l n first.1 t.0.rest_fits) (λ others is'. omega arith))

-- the fields of the first item are not whole
in_item : {A : Type 0} {item : List ℕ → Result (A × List ℕ) ℕ} {fields : A → List (List ℕ)} {Fits : A → Type 0} → ListPlaces item fields Fits
    → (n : ℕ) (bytes rest : List ℕ) (x : A) (k : ℕ) → Fits x → IsBytes bytes → bytes ≡ joined (take k (fields x)) ++ rest → length bytes ≤ n → Within (length rest) (ended_at item n bytes)
unfolding ended_at
in_item l zero [] rest x k fx bs e le = omega arith
in_item l zero (b ∷ bytes) rest x k fx bs e le = absurd (omega arith)
in_item l (suc n) [] rest x k fx bs e le = omega arith
in_item {A} {item} {fields} {Fits} l (suc n) (zero ∷ bytes) rest x k fx bs e le =
    let b = l.begins x fx in
    let whole : joined (take k (fields x)) ++ joined (drop k (fields x)) ≡ suc b.0 ∷ b.1 = sym (joined-append (take k (fields x)) (drop k (fields x))) ∙ ap joined (take-append-drop k (fields x)) ∙ b.2 in
    no_bytes (joined (take k (fields x))) (joined (drop k (fields x))) b.1 rest bytes b.0 whole e
in_item {A} {item} {fields} {Fits} l (suc n) (suc b ∷ bytes) rest x k fx bs e le =
    let all = suc b ∷ bytes in
    bind_within (length rest) (item all) (λ first. ended_at item n first.1 >>= λ others. Ok (first.0 ∷ others.0, others.1))
    (subst (λ (y : Result (A × List ℕ) ℕ). Within (length rest) y) (sym (l.agree b bytes)) (l.places.most all rest x k fx bs e))
    (λ first is.
    let t = l.places.takes all first bs (sym (l.agree b bytes) ∙ is) in
    bind_within (length first.1) (ended_at item n first.1) (λ others. Ok (first.0 ∷ others.0, others.1)) (ended_bounded l n first.1 t.0.rest_fits) (λ others is'. omega arith))

-- the first item is whole, and what is behind it is read this far
past_item : {A : Type 0} {item : List ℕ → Result (A × List ℕ) ℕ} {fields : A → List (List ℕ)} {Fits : A → Type 0} → ListPlaces item fields Fits
    → (n m : ℕ) (bytes more : List ℕ) (x : A) → Fits x → bytes ≡ joined (fields x) ++ more → length bytes ≤ suc n → Within m (ended_at item n more) → Within m (ended_at item (suc n) bytes)
unfolding ended_at
past_item {A} {item} {fields} {Fits} l n m [] more x fx e le h = absurd (omega (arith, item_shorter l [] x more fx e))
past_item {A} {item} {fields} {Fits} l n m (zero ∷ bytes) more x fx e le h =
    let b = l.begins x fx in
    let clash : 0 ∷ bytes ≡ suc b.0 ∷ (b.1 ++ more) = e ∙ ap (λ (w : List ℕ). w ++ more) b.2 in
    absurd cc
past_item {A} {item} {fields} {Fits} l n m (suc b ∷ bytes) more x fx e le h =
    let one : item (suc b ∷ bytes) ≡ Ok (x, more) = l.agree b bytes ∙ ap l.own e ∙ l.places.again x more fx in
    subst (λ (y : Result (A × List ℕ) ℕ). Within m (y >>= λ first. ended_at item n first.1 >>= λ others. Ok (first.0 ∷ others.0, others.1))) (sym one)
    (bind_within m (ended_at item n more) (λ others. Ok (x ∷ others.0, others.1)) h (λ others is. omega arith))

-- a zero byte ends the list
end_most : {A : Type 0} (item : List ℕ → Result (A × List ℕ) ℕ) (n : ℕ) (bytes rest : List ℕ) → bytes ≡ 0 ∷ rest → length bytes ≤ n → Within (length rest) (ended_at item n bytes)
unfolding ended_at
end_most item zero bytes rest e le = absurd (omega (arith, ap length e))
end_most {A} item (suc n) bytes rest e le = subst (λ (w : List ℕ). Within (length rest) (ended_at item (suc n) w)) (sym e) (omega arith)

none_most : {A : Type 0} (item : List ℕ → Result (A × List ℕ) ℕ) (bytes rest : List ℕ) → length bytes ≤ 0 → Within (length rest) (ended_at item zero bytes)
unfolding ended_at
none_most item bytes rest le = omega arith

ended_most : {A : Type 0} {item : List ℕ → Result (A × List ℕ) ℕ} {fields : A → List (List ℕ)} {Fits : A → Type 0} → ListPlaces item fields Fits
    → (xs : List A) (n : ℕ) (bytes rest : List ℕ) (k : ℕ) → AllByRecursion Fits xs → IsBytes bytes → bytes ≡ joined (take k (listed_fields fields xs)) ++ rest → length bytes ≤ n → Within (length rest) (ended_at item n bytes)
ended_most {A} {item} l [] n bytes rest zero fits bs e le = subst (λ (m : ℕ). Within m (ended_at item n bytes)) (ap length e) (ended_bounded l n bytes bs)
ended_most {A} {item} l [] n bytes rest (suc k) fits bs e le = end_most item n bytes rest (e ∙ ap (λ (fs : List (List ℕ)). (0 ∷ joined fs) ++ rest) (take-nil k)) le
ended_most {A} {item} {fields} {Fits} l (x ∷ xs) zero bytes rest k fits bs e le = none_most item bytes rest le
ended_most {A} {item} {fields} {Fits} l (x ∷ xs) (suc n) bytes rest k fits bs e le =
    let begun : bytes ≡ joined (take k (fields x ++ listed_fields fields xs)) ++ rest = e ∙ ap (λ (fs : List (List ℕ)). joined (take k fs) ++ rest) (listed-cons fields x xs) in
    elim (split_take k (fields x) (listed_fields fields xs)) [
      | inl s ↦ in_item l (suc n) bytes rest x k fits.0 bs (begun ∙ ap (λ (fs : List (List ℕ)). joined fs ++ rest) s.1) le
      | inr s ↦
          let more = joined (take s.0 (listed_fields fields xs)) ++ rest in
          let grouped : bytes ≡ joined (fields x) ++ more = whole_then bytes rest (fields x) (take s.0 (listed_fields fields xs)) (begun ∙ ap (λ (fs : List (List ℕ)). joined fs ++ rest) s.1) in
          let shorter = item_shorter l bytes x more fits.0 grouped in
          let t = l.places.takes bytes (x, more) bs (ap l.own grouped ∙ l.places.again x more fits.0) in
          past_item l n (length rest) bytes more x fits.0 grouped le (ended_most l xs n more rest s.0 fits.1 t.0.rest_fits refl (omega (arith, shorter)))
    ]

ended_takes : {A : Type 0} {item : List ℕ → Result (A × List ℕ) ℕ} {fields : A → List (List ℕ)} {Fits : A → Type 0} → ListPlaces item fields Fits
    → (n : ℕ) (bytes : List ℕ) (x : List A × List ℕ) → IsBytes bytes → ended_at item n bytes ≡ Ok x → Takes bytes (joined (listed_fields fields x.0)) x.1 × AllByRecursion Fits x.0
unfolding ended_at
ended_takes l zero bytes x bs e = absurd cc
ended_takes l (suc n) [] x bs e = absurd cc
ended_takes {A} {item} {fields} {Fits} l (suc n) (zero ∷ bytes) x bs e =
    subst (λ (y : List A × List ℕ). Takes (0 ∷ bytes) (joined (listed_fields fields y.0)) y.1 × AllByRecursion Fits y.0) (ok_is ([], bytes) x e) (record { parts = refl; rest_fits = IsBytes-rest 0 bytes bs }, tt)
ended_takes {A} {item} {fields} {Fits} l (suc n) (suc b ∷ bytes) x bs e =
    let all = suc b ∷ bytes in
    let a = bind_ok (item all) (λ first. ended_at item n first.1 >>= λ others. Ok (first.0 ∷ others.0, others.1)) x e in
    let c = bind_ok (ended_at item n a.0.1) (λ others. Ok (a.0.0 ∷ others.0, others.1)) x a.2 in
    let t = l.places.takes all a.0 bs (sym (l.agree b bytes) ∙ a.1) in
    let u = ended_takes l n a.0.1 c.0 t.0.rest_fits c.1 in
    let both = Takes-then all (joined (fields a.0.0)) a.0.1 (joined (listed_fields fields c.0.0)) c.0.1 t.0 u.0 in
    let same : joined (fields a.0.0) ++ joined (listed_fields fields c.0.0) ≡ joined (listed_fields fields (a.0.0 ∷ c.0.0)) =
    sym (joined-append (fields a.0.0) (listed_fields fields c.0.0)) ∙ ap joined (sym (listed-cons fields a.0.0 c.0.0)) in
    subst (λ (y : List A × List ℕ). Takes all (joined (listed_fields fields y.0)) y.1 × AllByRecursion Fits y.0) (ok_is (a.0.0 ∷ c.0.0, c.0.1) x c.2)
    (subst (λ (w : List ℕ). Takes all w c.0.1) same both, (t.1, u.1))

-- one item, and those behind it
again_more : {A : Type 0} {item : List ℕ → Result (A × List ℕ) ℕ} {fields : A → List (List ℕ)} {Fits : A → Type 0} → ListPlaces item fields Fits
    → (n : ℕ) (bytes more rest : List ℕ) (x : A) (xs : List A) → Fits x → bytes ≡ joined (fields x) ++ more → ended_at item n more ≡ Ok (xs, rest) → ended_at item (suc n) bytes ≡ Ok (x ∷ xs, rest)
unfolding ended_at
again_more l n [] more rest x xs fx e h = absurd (omega (arith, item_shorter l [] x more fx e))
again_more l n (zero ∷ bytes) more rest x xs fx e h =
    let b = l.begins x fx in
    let clash : 0 ∷ bytes ≡ suc b.0 ∷ (b.1 ++ more) = e ∙ ap (λ (w : List ℕ). w ++ more) b.2 in
    absurd cc
again_more {A} {item} l n (suc b ∷ bytes) more rest x xs fx e h =
    let one : item (suc b ∷ bytes) ≡ Ok (x, more) = l.agree b bytes ∙ ap l.own e ∙ l.places.again x more fx in
    ap (λ (y : Result (A × List ℕ) ℕ). y >>= λ first. ended_at item n first.1 >>= λ others. Ok (first.0 ∷ others.0, others.1)) one
    ∙ ap (λ (y : Result (List A × List ℕ) ℕ). y >>= λ others. Ok (x ∷ others.0, others.1)) h

ended_again : {A : Type 0} {item : List ℕ → Result (A × List ℕ) ℕ} {fields : A → List (List ℕ)} {Fits : A → Type 0} → ListPlaces item fields Fits
    → (xs : List A) (n : ℕ) (bytes rest : List ℕ) → AllByRecursion Fits xs → bytes ≡ joined (listed_fields fields xs) ++ rest → length bytes ≤ n → ended_at item n bytes ≡ Ok (xs, rest)
unfolding ended_at
ended_again l [] zero bytes rest fits e le = absurd (omega (arith, ap length e))
ended_again {A} {item} l [] (suc n) bytes rest fits e le = ap (ended_at item (suc n)) e
ended_again {A} {item} {fields} {Fits} l (x ∷ xs) zero bytes rest fits e le =
    let more = joined (listed_fields fields xs) ++ rest in
    let grouped : bytes ≡ joined (fields x) ++ more = whole_then bytes rest (fields x) (listed_fields fields xs) (e ∙ ap (λ (fs : List (List ℕ)). joined fs ++ rest) (listed-cons fields x xs)) in
    absurd (omega (arith, item_shorter l bytes x more fits.0 grouped))
ended_again {A} {item} {fields} {Fits} l (x ∷ xs) (suc n) bytes rest fits e le =
    let more = joined (listed_fields fields xs) ++ rest in
    let grouped : bytes ≡ joined (fields x) ++ more = whole_then bytes rest (fields x) (listed_fields fields xs) (e ∙ ap (λ (fs : List (List ℕ)). joined fs ++ rest) (listed-cons fields x xs)) in
    let shorter = item_shorter l bytes x more fits.0 grouped in
    again_more l n bytes more rest x xs fits.0 grouped (ended_again l xs n more rest fits.1 refl (omega (arith, shorter)))

pub listed_places : {A : Type 0} {item : List ℕ → Result (A × List ℕ) ℕ} {fields : A → List (List ℕ)} {Fits : A → Type 0} → ListPlaces item fields Fits → Places (listed_at item) (listed_fields fields) (AllByRecursion Fits)
listed_places {A} {item} {fields} {Fits} l = record {
  some = [];
  some_fits = tt;
  takes = λ bytes x bs e. ended_takes l (length bytes) bytes x bs e;
  again = λ xs rest fits. ended_again l xs (length (joined (listed_fields fields xs) ++ rest)) (joined (listed_fields fields xs) ++ rest) rest fits refl (omega arith);
  stops = λ bytes left bs e. ended_stops l (length bytes) bytes left bs (omega arith) e;
  most = λ bytes rest xs k fits bs e. ended_most l xs (length bytes) bytes rest k fits bs e (omega arith);
}
