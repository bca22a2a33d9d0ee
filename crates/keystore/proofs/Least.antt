-- The least ticket out.
use Rattle.std.proofs.Common.{◌≡◌, ℕ, ◌<◌, ◌≤◌, Bool, true, false, if◌then◌else◌, ltb, min, List, [], ◌∷◌, Option, Some, None, slice_get, is_some, eqb, inl, inr, refl, subst, ap, sym, arith}
use Rattle.std.specs.List.{AllByRecursion}
use Rattle.std.proofs.lemmas.Bool.Decides.{nat_tests}
use Rattle.keystore.specs.declared.tickets.Ticket.{Ticket}
use Rattle.std.proofs.lemmas.Bool.{cases_lt}
use Rattle.keystore.specs.Lists.{first, AscendsBy}
use Rattle.keystore.specs.Rings.{is_ticket, lesser, least_below}
use Rattle.keystore.specs.Kept.{IsEarlier}
use Rattle.keystore.specs.Moves.{is_out, IsLeastBelow}
use Rattle.keystore.proofs.Items.{all_weaker}

abbrev pub IsAbove : ℕ → Option ℕ → Type 0
IsAbove m None = Unit {0}
IsAbove m (Some n) = m ≤ n

lesser_above : (m n : ℕ) (o : Option ℕ) → m ≤ n → IsAbove m o → m ≤ lesser n o
lesser_above m n None h k = h
lesser_above m n (Some l) h k = omega arith

lesser_same : (m : ℕ) (o : Option ℕ) → IsAbove m o → lesser m o ≡ m
lesser_same m None h = refl
lesser_same m (Some n) h = omega arith

above_by_test : (m n : ℕ) (o : Option ℕ) (b : Bool) → m ≤ n → IsAbove m o → IsAbove m (if b then Some (lesser n o) else o)
above_by_test m n o true h k = lesser_above m n o h k
above_by_test m n o false h k = k

above : (m n : ℕ) (ts : List Ticket) → AllByRecursion (λ (t : Ticket). m < t.number) ts → IsAbove m (least_below n ts)
above m n [] h = tt
above m n (t ∷ ts) h = above_by_test m t.number (least_below n ts) (ltb t.number n) (omega (arith, h.0)) (above m n ts h.1)

none_below : (m n : ℕ) (ts : List Ticket) → n ≤ m → AllByRecursion (λ (t : Ticket). m < t.number) ts → least_below n ts ≡ None
none_below m n [] le h = refl
none_below m n (t ∷ ts) le h = let over : ltb t.number n ≡ false = grind (arith, nat_tests, h.0) in rw over (none_below m n ts le h.1)

pub least_first : (n : ℕ) (t : Ticket) (ts : List Ticket) → AscendsBy IsEarlier (t ∷ ts) → t.number < n → least_below n (t ∷ ts) ≡ Some t.number
least_first n t ts h lt = let under : ltb t.number n ≡ true = grind (arith, nat_tests) in rw under (ap Some (lesser_same t.number (least_below n ts) (above t.number n ts h.0)))

pub least_none : (n : ℕ) (t : Ticket) (ts : List Ticket) → AscendsBy IsEarlier (t ∷ ts) → n ≤ t.number → least_below n (t ∷ ts) ≡ None
least_none n t ts h le = let over : ltb t.number n ≡ false = grind (arith, nat_tests) in rw over (none_below t.number n ts le h.0)

-- by what stands first
pub least_at_first : (n : ℕ) (out : List Ticket) (t : Ticket) → AscendsBy IsEarlier out → Some t ≡ slice_get out 0 → t.number < n → Some t.number ≡ least_below n out
least_at_first n [] t h e lt = cc
least_at_first n (u ∷ us) t h e lt = let same : t ≡ u = cc in rw same (sym (least_first n u us h (rw same at lt)))

pub none_at_first : (n : ℕ) (out : List Ticket) (t : Ticket) → AscendsBy IsEarlier out → Some t ≡ slice_get out 0 → n ≤ t.number → None ≡ least_below n out
none_at_first n [] t h e le = cc
none_at_first n (u ∷ us) t h e le = let same : t ≡ u = cc in sym (least_none n u us h (rw same at le))

-- ---- what is told is the least ticket out, whatever the order

abbrev NoneBelow : ℕ → List Ticket → Type 0
NoneBelow n out = AllByRecursion (λ (t : Ticket). n ≤ t.number) out

pub out_by_test : (t : Ticket) (o : Option Ticket) (b : Bool) → is_some o ≡ true → is_some (if b then Some t else o) ≡ true
out_by_test t o true h = refl
out_by_test t o false h = h

out_first : (t : Ticket) (ts : List Ticket) → is_out t.number (t ∷ ts) ≡ true
out_first t ts = let same : eqb t.number t.number ≡ true = grind (arith, nat_tests) in rw same refl

out_later : (m : ℕ) (t : Ticket) (ts : List Ticket) → is_out m ts ≡ true → is_out m (t ∷ ts) ≡ true
out_later m t ts h = out_by_test t (first (is_ticket m) ts) (eqb t.number m) h

least_here : (n k : ℕ) (t : Ticket) (ts : List Ticket) → t.number < n → t.number ≤ k → AllByRecursion (λ (u : Ticket). k ≤ u.number) ts → IsLeastBelow n t.number (t ∷ ts)
least_here n k t ts lt le each = record {
  below = lt;
  there = out_first t ts;
  least = (omega arith, all_weaker (λ (u : Ticket). k ≤ u.number) (λ (u : Ticket). t.number ≤ u.number) (λ u h. omega (arith, h)) ts each);
}

least_there : (n l : ℕ) (t : Ticket) (ts : List Ticket) → l ≤ t.number → IsLeastBelow n l ts → IsLeastBelow n l (t ∷ ts)
least_there n l t ts le h = record { below = h.below; there = out_later l t ts h.there; least = (le, h.least) }

abbrev IsSound : ℕ → List Ticket → Option ℕ → Type 0
IsSound n out None = NoneBelow n out
IsSound n out (Some m) = IsLeastBelow n m out

lesser_sound : (n : ℕ) (t : Ticket) (ts : List Ticket) (o : Option ℕ) → t.number < n → IsSound n ts o → IsLeastBelow n (lesser t.number o) (t ∷ ts)
lesser_sound n t ts None lt h = least_here n n t ts lt (omega arith) h
lesser_sound n t ts (Some l) lt h = elim (cases_lt l t.number) [
  | inl less ↦ let same : l ≡ min t.number l = omega arith in subst (λ (m : ℕ). IsLeastBelow n m (t ∷ ts)) same (least_there n l t ts (omega arith) h)
  | inr more ↦ let same : t.number ≡ min t.number l = omega arith in subst (λ (m : ℕ). IsLeastBelow n m (t ∷ ts)) same (least_here n l t ts lt more h.least)
]

over_sound : (n : ℕ) (t : Ticket) (ts : List Ticket) (o : Option ℕ) → n ≤ t.number → IsSound n ts o → IsSound n (t ∷ ts) o
over_sound n t ts None le h = (le, h)
over_sound n t ts (Some l) le h = least_there n l t ts (omega (arith, h.below)) h

sound : (n : ℕ) (out : List Ticket) → IsSound n out (least_below n out)
sound n [] = tt
sound n (t ∷ ts) = elim (cases_lt t.number n) [
  | inl less ↦ let under : ltb t.number n ≡ true = grind (arith, nat_tests) in rw under (lesser_sound n t ts (least_below n ts) less (sound n ts))
  | inr more ↦ let over : ltb t.number n ≡ false = grind (arith, nat_tests) in rw over (over_sound n t ts (least_below n ts) more (sound n ts))
]

pub told_is_least : (n m : ℕ) (out : List Ticket) → least_below n out ≡ Some m → IsLeastBelow n m out
told_is_least n m out h = subst (IsSound n out) h (sound n out)

at_by_test : (P : ℕ → Type 0) (m : ℕ) (t : Ticket) (o : Option Ticket) (b : Bool) → (b ≡ true → t.number ≡ m) → is_some (if b then Some t else o) ≡ true → P t.number → (is_some o ≡ true → P m) → P m
at_by_test P m t o true same h this rest = subst P (same refl) this
at_by_test P m t o false same h this rest = rest h

-- what holds of each ticket out holds of one that is out
at_out : (P : ℕ → Type 0) (m : ℕ) (out : List Ticket) → is_out m out ≡ true → AllByRecursion (λ (t : Ticket). P t.number) out → P m
at_out P m [] h each = cc
at_out P m (t ∷ ts) h each = at_by_test P m t (first (is_ticket m) ts) (eqb t.number m) (λ e. grind (arith, nat_tests)) h each.0 (λ g. at_out P m ts g each.1)

least_by_sound : (n m : ℕ) (out : List Ticket) (o : Option ℕ) → IsSound n out o → IsLeastBelow n m out → o ≡ Some m
least_by_sound n m out None none h = let over = at_out (λ k. n ≤ k) m out h.there none in absurd (omega (arith, h.below, over))
least_by_sound n m out (Some l) s h =
    let up = at_out (λ k. l ≤ k) m out h.there s.least in
    let down = at_out (λ k. m ≤ k) l out s.there h.least in
    let same : l ≡ m = omega (arith, up, down) in
    ap Some same

pub least_told : (n m : ℕ) (out : List Ticket) → IsLeastBelow n m out → least_below n out ≡ Some m
least_told n m out h = least_by_sound n m out (least_below n out) (sound n out) h

-- where a ticket below the bound is out, one is told
pub none_is_out : (n m : ℕ) (out : List Ticket) → is_out m out ≡ true → m < n → least_below n out ≡ None → ⊥
none_is_out n m out there lt e = let over = at_out (λ k. n ≤ k) m out there (subst (IsSound n out) e (sound n out)) in omega (arith, over, lt)
