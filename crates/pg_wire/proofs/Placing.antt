-- How far readers get: as far as the whole fields of any value with which the bytes begin.
use Rattle.std.proofs.Common.{◌≡◌, ℕ, zero, suc, ◌+◌, ◌-◌, ◌≤◌, List, [], ◌∷◌, ◌++◌, length, take, Result, Ok, Err, refl, sym, ap, subst, ◌∙◌, append_assoc, arith, inl, inr, ◌⊎◌}
use Rattle.std.proofs.lemmas.Bool.{cases_lt}
use Rattle.std.proofs.lemmas.Grind.{flat_map-append}
use Rattle.std.proofs.lemmas.List.{append-nil, take-append-le}
use Rattle.std.proofs.Math.Seq.{take-nil, take-append-add}
use Rattle.byte_reader.specs.Fields.{◌>>=◌, alone}
use Rattle.byte_reader.proofs.Steps.{bind_ok, ok_is}
use Rattle.byte_reader.proofs.Taken.{IsBytes, Takes, Takes-then}
use Rattle.byte_reader.proofs.Within.{Within, within_more}
use Rattle.pg_wire.specs.Bodies.{◌followed_by◌, mapped}
use Rattle.pg_wire.specs.Places.{joined}
use Rattle.byte_reader.proofs.Faults.{err_is, bind_err, alone_err}
use Rattle.pg_wire.proofs.Items.{IsItem}
use Rattle.pg_wire.proofs.Within.{within_mapped}

-- behind whole fields of some value so many bytes are left
pub record Stops {A : Type 0} (fields : A → List (List ℕ)) (Fits : A → Type 0) (bytes : List ℕ) (left : ℕ) : Type 0 where
  pub value : A
  pub front : List (List ℕ)
  pub behind : List (List ℕ)
  pub rest : List ℕ
  pub fits : Fits value
  pub cut : fields value ≡ front ++ behind
  pub begins : bytes ≡ joined front ++ rest
  pub at : length rest ≡ left

-- a reader of values with these fields
pub record Places {A : Type 0} (r : List ℕ → Result (A × List ℕ) ℕ) (fields : A → List (List ℕ)) (Fits : A → Type 0) : Type 0 where
  pub some : A
  pub some_fits : Fits some
  pub takes : (bytes : List ℕ) (x : A × List ℕ) → IsBytes bytes → r bytes ≡ Ok x → Takes bytes (joined (fields x.0)) x.1 × Fits x.0
  pub again : (v : A) (rest : List ℕ) → Fits v → r (joined (fields v) ++ rest) ≡ Ok (v, rest)
  pub stops : (bytes : List ℕ) (left : ℕ) → IsBytes bytes → r bytes ≡ Err left → Stops fields Fits bytes left
  pub most : (bytes rest : List ℕ) (v : A) (n : ℕ) → Fits v → IsBytes bytes → bytes ≡ joined (take n (fields v)) ++ rest → Within (length rest) (r bytes)

pub joined-append : (a b : List (List ℕ)) → joined (a ++ b) ≡ joined a ++ joined b
joined-append a b = flat_map-append (λ (field : List ℕ). field) a b

-- ---- steps

pub within_ok : {A : Type 0} (r : Result (A × List ℕ) ℕ) (v : A) (rest : List ℕ) → r ≡ Ok (v, rest) → Within (length rest) r
within_ok r v rest e = rw e (omega arith)

pub bind_within : {A B : Type 0} (n : ℕ) (r : Result (A × List ℕ) ℕ) (f : A × List ℕ → Result (B × List ℕ) ℕ) → Within n r → ((x : A × List ℕ) → r ≡ Ok x → Within (length x.1) (f x)) → Within n (r >>= f)
bind_within n (Ok x) f h g = within_more (length x.1) n (f x) h (g x refl)
bind_within n (Err left) f h g = h

abbrev failed : {A : Type 0} → ℕ → Result A ℕ
failed left = Err left

pub mapped_err : {A B : Type 0} (f : A → B) (r : Result (A × List ℕ) ℕ) (left : ℕ) → mapped f r ≡ Err left → r ≡ Err left
mapped_err f (Ok x) left e = absurd cc
mapped_err {A} {B} f (Err l) left e = ap (λ (n : ℕ). failed {A = A × List ℕ} n) (err_is {A = B × List ℕ} l left e)

pub place_within : {A : Type 0} {r : List ℕ → Result (A × List ℕ) ℕ} {fields : A → List (List ℕ)} {Fits : A → Type 0} → Places r fields Fits → (bytes : List ℕ) → IsBytes bytes → Within (length bytes) (r bytes)
place_within p bytes bs = p.most bytes bytes p.some 0 p.some_fits bs refl

-- ---- one field

pub single_places : {A : Type 0} {r : List ℕ → Result (A × List ℕ) ℕ} {spell : A → List ℕ} {Fits : A → Type 0} → IsItem r spell Fits → (some : A) → Fits some → ((bytes : List ℕ) → Within (length bytes) (r bytes))
    → ((bytes : List ℕ) (left : ℕ) → r bytes ≡ Err left → left ≡ length bytes) → Places r (λ v. spell v ∷ []) Fits
single_places {A} {r} {spell} {Fits} is one one_fits bounded whole =
    record { some = one; some_fits = one_fits; takes = took; again = read_again; stops = stopped; most = furthest } where
      took : (bytes : List ℕ) (x : A × List ℕ) → IsBytes bytes → r bytes ≡ Ok x → Takes bytes (joined (spell x.0 ∷ [])) x.1 × Fits x.0
      took bytes x bs e = let t = is.takes bytes x bs e in (subst (λ (w : List ℕ). Takes bytes w x.1) (sym (append-nil (spell x.0))) t.0, t.1)

      read_again : (v : A) (rest : List ℕ) → Fits v → r (joined (spell v ∷ []) ++ rest) ≡ Ok (v, rest)
      read_again v rest fv = ap (λ (w : List ℕ). r (w ++ rest)) (append-nil (spell v)) ∙ is.again v rest fv

      stopped : (bytes : List ℕ) (left : ℕ) → IsBytes bytes → r bytes ≡ Err left → Stops (λ v. spell v ∷ []) Fits bytes left
      stopped bytes left bs e = record { value = one; front = []; behind = spell one ∷ []; rest = bytes; fits = one_fits; cut = refl; begins = refl; at = sym (whole bytes left e) }

      furthest : (bytes rest : List ℕ) (v : A) (n : ℕ) → Fits v → IsBytes bytes → bytes ≡ joined (take n (spell v ∷ [])) ++ rest → Within (length rest) (r bytes)
      furthest bytes rest v zero fv bs e = subst (λ (n : ℕ). Within n (r bytes)) (ap length e) (bounded bytes)
      furthest bytes rest v (suc n) fv bs e =
          let parts : bytes ≡ spell v ++ rest = e ∙ ap (λ (w : List ℕ). w ++ rest) (ap (λ (fs : List (List ℕ)). spell v ++ joined fs) (take-nil n) ∙ append-nil (spell v)) in
          within_ok (r bytes) v rest (ap r parts ∙ is.again v rest fv)

-- ---- no field

pub nothing_places : {A : Type 0} {fields : A → List (List ℕ)} {Fits : A → Type 0} (c : A) → Fits c → ((v : A) → Fits v → v ≡ c) → fields c ≡ [] → Places (λ bytes. Ok (c, bytes)) fields Fits
nothing_places {A} {fields} {Fits} c c_fits only none =
    record { some = c; some_fits = c_fits; takes = took; again = read_again; stops = λ bytes left bs e. absurd cc; most = furthest } where
      no_fields : (v : A) → Fits v → fields v ≡ []
      no_fields v fv = ap fields (only v fv) ∙ none

      took : (bytes : List ℕ) (x : A × List ℕ) → IsBytes bytes → ◌≡◌ {A = Result (A × List ℕ) ℕ} (Ok (c, bytes)) (Ok x) → Takes bytes (joined (fields x.0)) x.1 × Fits x.0
      took bytes x bs e =
          let here : Takes bytes (joined (fields c)) bytes = record { parts = ap (λ (fs : List (List ℕ)). joined fs ++ bytes) (sym none); rest_fits = bs } in
          subst (λ (y : A × List ℕ). Takes bytes (joined (fields y.0)) y.1 × Fits y.0) (ok_is (c, bytes) x e) (here, c_fits)

      read_again : (v : A) (rest : List ℕ) → Fits v → ◌≡◌ {A = Result (A × List ℕ) ℕ} (Ok (c, joined (fields v) ++ rest)) (Ok (v, rest))
      read_again v rest fv =
          let is : c ≡ v = sym (only v fv) in
          let text : joined (fields v) ++ rest ≡ rest = ap (λ (fs : List (List ℕ)). joined fs ++ rest) (no_fields v fv) in
          ap (λ (w : List ℕ). Ok (c, w)) text ∙ ap (λ (y : A). Ok (y, rest)) is

      furthest : (bytes rest : List ℕ) (v : A) (n : ℕ) → Fits v → IsBytes bytes → bytes ≡ joined (take n (fields v)) ++ rest → length bytes ≤ length rest
      furthest bytes rest v n fv bs e =
          let same : bytes ≡ rest = e ∙ ap (λ (fs : List (List ℕ)). joined (take n fs) ++ rest) (no_fields v fv) ∙ ap (λ (fs : List (List ℕ)). joined fs ++ rest) (take-nil n) in
          omega (arith, ap length same)

-- ---- the same values or readers in other words

pub same_places : {A : Type 0} {r s : List ℕ → Result (A × List ℕ) ℕ} {fields : A → List (List ℕ)} {Fits : A → Type 0} → ((bytes : List ℕ) → s bytes ≡ r bytes) → Places r fields Fits → Places s fields Fits
same_places {A} {r} {s} {fields} {Fits} same p = record {
  some = p.some;
  some_fits = p.some_fits;
  takes = λ bytes x bs e. p.takes bytes x bs (sym (same bytes) ∙ e);
  again = λ v rest fv. same (joined (fields v) ++ rest) ∙ p.again v rest fv;
  stops = λ bytes left bs e. p.stops bytes left bs (sym (same bytes) ∙ e);
  most = λ bytes rest v n fv bs e. subst (λ (y : Result (A × List ℕ) ℕ). Within (length rest) y) (sym (same bytes)) (p.most bytes rest v n fv bs e);
}

pub as_places : {A : Type 0} {r : List ℕ → Result (A × List ℕ) ℕ} {fields shown : A → List (List ℕ)} {Fits Right : A → Type 0} → Places r fields Fits → ((v : A) → Fits v → Right v) → ((v : A) → Right v → Fits v × (shown v ≡ fields v))
    → Places r shown Right
as_places {A} {r} {fields} {shown} {Fits} {Right} p there back = record {
  some = p.some;
  some_fits = there p.some p.some_fits;
  takes = took;
  again = λ v rest rv. let b = back v rv in ap (λ (fs : List (List ℕ)). r (joined fs ++ rest)) b.1 ∙ p.again v rest b.0;
  stops = stopped;
  most = λ bytes rest v n rv bs e. let b = back v rv in p.most bytes rest v n b.0 bs (e ∙ ap (λ (fs : List (List ℕ)). joined (take n fs) ++ rest) b.1);
} where
  took : (bytes : List ℕ) (x : A × List ℕ) → IsBytes bytes → r bytes ≡ Ok x → Takes bytes (joined (shown x.0)) x.1 × Right x.0
  took bytes x bs e =
      let t = p.takes bytes x bs e in
      let right = there x.0 t.1 in
      (subst (λ (fs : List (List ℕ)). Takes bytes (joined fs) x.1) (sym (back x.0 right).1) t.0, right)

  stopped : (bytes : List ℕ) (left : ℕ) → IsBytes bytes → r bytes ≡ Err left → Stops shown Right bytes left
  stopped bytes left bs e =
      let s = p.stops bytes left bs e in
      let right = there s.value s.fits in
      record { value = s.value; front = s.front; behind = s.behind; rest = s.rest; fits = right; cut = (back s.value right).1 ∙ s.cut; begins = s.begins; at = s.at }

-- what goes back to a value that is read
pub record Goes {A B : Type 0} (fields : A → List (List ℕ)) (Fits : A → Type 0) (shown : B → List (List ℕ)) (made : A → B) (back : B → A) (b : B) : Type 0 where
  pub fits : Fits (back b)
  pub same : made (back b) ≡ b
  pub spelled : shown b ≡ fields (back b)

pub map_places : {A B : Type 0} {r : List ℕ → Result (A × List ℕ) ℕ} {fields : A → List (List ℕ)} {Fits : A → Type 0} {shown : B → List (List ℕ)} {Right : B → Type 0} (made : A → B) (back : B → A) → Places r fields Fits
    → ((a : A) → Fits a → Right (made a)) → ((b : B) → Right b → Goes fields Fits shown made back b) → ((a : A) → Fits a → shown (made a) ≡ fields a) → Places (λ bytes. mapped made (r bytes)) shown Right
map_places {A} {B} {r} {fields} {Fits} {shown} {Right} made back p there goes spelled =
    record { some = made p.some; some_fits = there p.some p.some_fits; takes = took; again = read_again; stops = stopped; most = furthest } where
      took : (bytes : List ℕ) (x : B × List ℕ) → IsBytes bytes → mapped made (r bytes) ≡ Ok x → Takes bytes (joined (shown x.0)) x.1 × Right x.0
      took bytes x bs e =
          let a = bind_ok (r bytes) (λ y. Ok (made y.0, y.1)) x e in
          let t = p.takes bytes a.0 bs a.1 in
          let here : Takes bytes (joined (shown (made a.0.0))) a.0.1 = subst (λ (fs : List (List ℕ)). Takes bytes (joined fs) a.0.1) (sym (spelled a.0.0 t.1)) t.0 in
          subst (λ (y : B × List ℕ). Takes bytes (joined (shown y.0)) y.1 × Right y.0) (ok_is (made a.0.0, a.0.1) x a.2) (here, there a.0.0 t.1)

      read_again : (b : B) (rest : List ℕ) → Right b → mapped made (r (joined (shown b) ++ rest)) ≡ Ok (b, rest)
      read_again b rest right =
          let g = goes b right in
          ap (λ (fs : List (List ℕ)). mapped made (r (joined fs ++ rest))) g.spelled ∙ ap (mapped made) (p.again (back b) rest g.fits) ∙ ap (λ (y : B). Ok (y, rest)) g.same

      stopped : (bytes : List ℕ) (left : ℕ) → IsBytes bytes → mapped made (r bytes) ≡ Err left → Stops shown Right bytes left
      stopped bytes left bs e =
          let s = p.stops bytes left bs (mapped_err made (r bytes) left e) in record {
            value = made s.value;
            front = s.front;
            behind = s.behind;
            rest = s.rest;
            fits = there s.value s.fits;
            cut = spelled s.value s.fits ∙ s.cut;
            begins = s.begins;
            at = s.at;
          }

      furthest : (bytes rest : List ℕ) (b : B) (n : ℕ) → Right b → IsBytes bytes → bytes ≡ joined (take n (shown b)) ++ rest → Within (length rest) (mapped made (r bytes))
      furthest bytes rest b n right bs e =
          let g = goes b right in
          within_mapped (length rest) made (r bytes) (p.most bytes rest (back b) n g.fits bs (e ∙ ap (λ (fs : List (List ℕ)). joined (take n fs) ++ rest) g.spelled))

-- ---- one behind another

-- the first fields are not all of these, or they are all and some of the next
pub split_take : (n : ℕ) (a b : List (List ℕ)) → ((n ≤ length a) × (take n (a ++ b) ≡ take n a)) ⊎ ((k : ℕ) × (take n (a ++ b) ≡ a ++ take k b))
split_take n a b =
    elim (cases_lt (length a) n) [
      | inl lt ↦ inr (n - length a, let e : n ≡ length a + (n - length a) = omega arith in ap (λ (m : ℕ). take m (a ++ b)) e ∙ take-append-add a b (n - length a))
      | inr le ↦ inl (le, take-append-le n a b le)
    ]

-- what is behind a value whose fields are whole
pub whole_then : (bytes rest : List ℕ) (a more : List (List ℕ)) → bytes ≡ joined (a ++ more) ++ rest → bytes ≡ joined a ++ (joined more ++ rest)
whole_then bytes rest a more e = e ∙ ap (λ (w : List ℕ). w ++ rest) (joined-append a more) ∙ append_assoc (joined a) (joined more) rest

-- a value, and those behind it that begin with it
pub then_places : {A C : Type 0} {r : List ℕ → Result (A × List ℕ) ℕ} {fields : A → List (List ℕ)} {Fits : A → Type 0} {later shown : C → List (List ℕ)} {Right : C → Type 0} (first : C → A)
    (k : A → List ℕ → Result (C × List ℕ) ℕ) → Places r fields Fits → ((x : A) → Fits x → Places (k x) later (λ c. Right c × (first c ≡ x))) → ((c : C) → Right c → Fits (first c) × (shown c ≡ fields (first c) ++ later c))
    → Places (λ bytes. r bytes >>= λ x. k x.0 x.1) shown Right
then_places {A} {C} {r} {fields} {Fits} {later} {shown} {Right} first k p q parts =
    record { some = (q p.some p.some_fits).some; some_fits = (q p.some p.some_fits).some_fits.0; takes = took; again = read_again; stops = stopped; most = furthest } where
      took : (bytes : List ℕ) (c : C × List ℕ) → IsBytes bytes → (r bytes >>= λ x. k x.0 x.1) ≡ Ok c → Takes bytes (joined (shown c.0)) c.1 × Right c.0
      took bytes c bs e =
          let a = bind_ok (r bytes) (λ x. k x.0 x.1) c e in
          let t = p.takes bytes a.0 bs a.1 in
          let u = (q a.0.0 t.1).takes a.0.1 c t.0.rest_fits a.2 in
          let both = Takes-then bytes (joined (fields a.0.0)) a.0.1 (joined (later c.0)) c.1 t.0 u.0 in
          let same : fields a.0.0 ++ later c.0 ≡ shown c.0 = ap (λ (x : A). fields x ++ later c.0) (sym u.1.1) ∙ sym (parts c.0 u.1.0).1 in
          (subst (λ (w : List ℕ). Takes bytes w c.1) (sym (joined-append (fields a.0.0) (later c.0)) ∙ ap joined same) both, u.1.0)

      read_again : (c : C) (rest : List ℕ) → Right c → (r (joined (shown c) ++ rest) >>= λ x. k x.0 x.1) ≡ Ok (c, rest)
      read_again c rest right =
          let h = parts c right in
          let more = joined (later c) ++ rest in
          let grouped : joined (shown c) ++ rest ≡ joined (fields (first c)) ++ more = whole_then (joined (shown c) ++ rest) rest (fields (first c)) (later c) (ap (λ (fs : List (List ℕ)). joined fs ++ rest) h.1) in
          ap (λ (w : List ℕ). r w >>= λ x. k x.0 x.1) grouped ∙ ap (λ (y : Result (A × List ℕ) ℕ). y >>= λ x. k x.0 x.1) (p.again (first c) more h.0)
          ∙ (q (first c) h.0).again c rest (right, refl)

      behind_first : (bytes : List ℕ) (left : ℕ) (x : A × List ℕ) → Takes bytes (joined (fields x.0)) x.1 → Stops later (λ c. Right c × (first c ≡ x.0)) x.1 left → Stops shown Right bytes left
      behind_first bytes left x t s = record {
        value = s.value;
        front = fields x.0 ++ s.front;
        behind = s.behind;
        rest = s.rest;
        fits = s.fits.0;
        cut = (parts s.value s.fits.0).1 ∙ ap (λ (y : A). fields y ++ later s.value) s.fits.1 ∙ ap (λ (fs : List (List ℕ)). fields x.0 ++ fs) s.cut ∙ sym (append_assoc (fields x.0) s.front s.behind);
        begins = t.parts ∙ ap (λ (w : List ℕ). joined (fields x.0) ++ w) s.begins ∙ sym (append_assoc (joined (fields x.0)) (joined s.front) s.rest) ∙ ap (λ (w : List ℕ). w ++ s.rest) (sym (joined-append (fields x.0) s.front));
        at = s.at;
      }

      in_first : (bytes : List ℕ) (left : ℕ) → Stops fields Fits bytes left → Stops shown Right bytes left
      in_first bytes left s =
          let next = q s.value s.fits in record {
            value = next.some;
            front = s.front;
            behind = s.behind ++ later next.some;
            rest = s.rest;
            fits = next.some_fits.0;
            cut = (parts next.some next.some_fits.0).1 ∙ ap (λ (y : A). fields y ++ later next.some) next.some_fits.1 ∙ ap (λ (fs : List (List ℕ)). fs ++ later next.some) s.cut ∙ append_assoc s.front s.behind (later next.some);
            begins = s.begins;
            at = s.at;
          }

      stopped : (bytes : List ℕ) (left : ℕ) → IsBytes bytes → (r bytes >>= λ x. k x.0 x.1) ≡ Err left → Stops shown Right bytes left
      stopped bytes left bs e =
          elim (bind_err (r bytes) (λ x. k x.0 x.1) left e) [
            | inl h ↦ in_first bytes left (p.stops bytes left bs h)
            | inr h ↦ let t = p.takes bytes h.0 bs h.1 in behind_first bytes left h.0 t.0 ((q h.0.0 t.1).stops h.0.1 left t.0.rest_fits h.2)
          ]

      furthest : (bytes rest : List ℕ) (c : C) (n : ℕ) → Right c → IsBytes bytes → bytes ≡ joined (take n (shown c)) ++ rest → Within (length rest) (r bytes >>= λ x. k x.0 x.1)
      furthest bytes rest c n right bs e =
          let h = parts c right in
          let x = first c in
          let begun : bytes ≡ joined (take n (fields x ++ later c)) ++ rest = e ∙ ap (λ (fs : List (List ℕ)). joined (take n fs) ++ rest) h.1 in
          elim (split_take n (fields x) (later c)) [
            | inl s ↦
                bind_within (length rest) (r bytes) (λ y. k y.0 y.1) (p.most bytes rest x n h.0 bs (begun ∙ ap (λ (fs : List (List ℕ)). joined fs ++ rest) s.1))
                (λ y is. let t = p.takes bytes y bs is in place_within (q y.0 t.1) y.1 t.0.rest_fits)
            | inr s ↦
                let more = joined (take s.0 (later c)) ++ rest in
                let grouped : bytes ≡ joined (fields x) ++ more = whole_then bytes rest (fields x) (take s.0 (later c)) (begun ∙ ap (λ (fs : List (List ℕ)). joined fs ++ rest) s.1) in
                let one : r bytes ≡ Ok (x, more) = ap r grouped ∙ p.again x more h.0 in
                let t = p.takes bytes (x, more) bs one in
                subst (λ (y : Result (A × List ℕ) ℕ). Within (length rest) (y >>= λ z. k z.0 z.1)) (sym one) ((q x h.0).most more rest c s.0 (right, refl) t.0.rest_fits refl)
          ]

pub both_places : {A B : Type 0} {a : List ℕ → Result (A × List ℕ) ℕ} {b : List ℕ → Result (B × List ℕ) ℕ} {fa : A → List (List ℕ)} {fb : B → List (List ℕ)} {Fa : A → Type 0} {Fb : B → Type 0} → Places a fa Fa → Places b fb Fb
    → Places (a followed_by b) (λ x. fa x.0 ++ fb x.1) (λ x. Fa x.0 × Fb x.1)
both_places {A} {B} {a} {b} {fa} {fb} {Fa} {Fb} pa pb =
    then_places {later = λ c. fb c.1} (λ (c : A × B). c.0) (λ x bytes. mapped (λ y. (x, y)) (b bytes)) pa
    (λ x fx. map_places (λ y. (x, y)) (λ c. c.1) pb (λ y fy. ((fx, fy), refl)) (λ c h. record { fits = h.0.1; same = ap (λ (z : A). (z, c.1)) (sym h.1); spelled = refl }) (λ y fy. refl))
    (λ c h. (h.0, refl))

-- ---- a body that must end

pub alone_stops : {A B : Type 0} {r : List ℕ → Result (A × List ℕ) ℕ} {fields : A → List (List ℕ)} {Fits : A → Type 0} (made : A → B) → Places r fields Fits → (bytes : List ℕ) (left : ℕ) → IsBytes bytes → (mapped made (r bytes) >>= alone) ≡ Err left
    → Stops fields Fits bytes left
alone_stops {A} {B} {r} {fields} {Fits} made p bytes left bs e =
    elim (bind_err (mapped made (r bytes)) alone left e) [
      | inl h ↦ p.stops bytes left bs (mapped_err made (r bytes) left h)
      | inr h ↦ let a = bind_ok (r bytes) (λ y. Ok (made y.0, y.1)) h.0 h.1 in behind_all a.0 a.1 (ap (λ (y : B × List ℕ). length y.1) (ok_is (made a.0.0, a.0.1) h.0 a.2) ∙ sym (alone_err h.0 left h.2))
    ] where
      behind_all : (x : A × List ℕ) → r bytes ≡ Ok x → length x.1 ≡ left → Stops fields Fits bytes left
      behind_all x is at =
          let t = p.takes bytes x bs is in
          record { value = x.0; front = fields x.0; behind = []; rest = x.1; fits = t.1; cut = sym (append-nil (fields x.0)); begins = t.0.parts; at = at }
