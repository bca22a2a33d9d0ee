-- A log says one thing.
use Rattle.std.proofs.Common.{◌≡◌, ℕ, ◌+◌, ◌<◌, ◌≤◌, ◌⊎◌, inl, inr, Bool, true, false, ◌&&◌, not, List, [], ◌∷◌, ◌++◌, length, refl, sym, ap, subst, ◌∙◌, arith, append_assoc, length-append}
use Rattle.std.specs.Prelude.{◌==◌}
use Rattle.std.specs.List.{list_all, flat_map, AllByRecursion}
use Rattle.std.proofs.lemmas.List.{append-nil}
use Rattle.std.proofs.lemmas.List.Folds.{list_all-append}
use Rattle.audit_chain.specs.Chains.{Recomputes, AllRecompute}
use Rattle.audit_chain.specs.Findings.{written, is_one_line, Finding, Begins, IsBadLine, IsCutShort, IsTooLong, Stops, FindsIn}
use Rattle.audit_chain.proofs.Splitting.{both}
use Rattle.audit_chain.proofs.Walking.{IsSingle}
use Rattle.audit_chain.proofs.Short.{recomputed_short}

-- ---- the first newline

head_single : (b : ℕ) (bs : List ℕ) → IsSingle (b ∷ bs) → (not (b == 10) ≡ true) × IsSingle bs
head_single b bs h = both (not (b == 10)) (is_one_line bs) h

newline_here : {X : Type 0} (b : ℕ) → b ≡ 10 → not (b == 10) ≡ true → X
newline_here b e h = let at : not (10 == 10) ≡ true = subst (λ (x : ℕ). not (x == 10) ≡ true) e h in absurd cc

first_line : (a b c d : List ℕ) → IsSingle a → IsSingle b → a ++ 10 ∷ c ≡ b ++ 10 ∷ d → (a ≡ b) × (c ≡ d)
first_line [] [] c d ha hb e = (refl, cc)
first_line [] (y ∷ b) c d ha hb e = let at : y ≡ 10 = cc in newline_here y at (head_single y b hb).0
first_line (x ∷ a) [] c d ha hb e = let at : x ≡ 10 = cc in newline_here x at (head_single x a ha).0
first_line (x ∷ a) (y ∷ b) c d ha hb e =
    let rest = first_line a b c d (head_single x a ha).1 (head_single y b hb).1 cc in
    let tails : a ≡ b = rest.0 in
    let heads : x ≡ y = cc in
    (cc, rest.1)

-- a front without a newline is no longer than the line that it begins
front_short : (front behind line rest : List ℕ) → IsSingle front → front ++ behind ≡ line ++ 10 ∷ rest → length front ≤ length line
front_short [] behind line rest h e = omega arith
front_short (x ∷ front) behind [] rest h e = let at : x ≡ 10 = cc in newline_here x at (head_single x front h).0
front_short (x ∷ front) behind (y ∷ line) rest h e = omega (arith, front_short front behind line rest (head_single x front h).1 cc)

has_newline : {X : Type 0} (text line rest : List ℕ) → IsSingle text → text ≡ line ++ 10 ∷ rest → X
has_newline text line rest h e =
    let l = front_short text [] line rest h (append-nil text ∙ e) in
    absurd (omega (arith, ap length e, length-append line (10 ∷ rest), l))

nothing_before : {X : Type 0} (front behind : List ℕ) → [] ≡ front ++ behind → 0 < length front → X
nothing_before front behind e some = absurd (omega (arith, ap length e, length-append front behind, some))

-- ---- what stops at a place

-- nothing stops where a line follows that recomputes
goes_on : {X : Type 0} (key : List ℕ) (ends : Bool) (lines : List (List ℕ)) (line behind rest : List ℕ) (f : Finding) → Stops key ends lines rest f → rest ≡ line ++ 10 ∷ behind → IsSingle line → Recomputes key lines line → X
goes_on key ends lines line behind rest (Finding.Whole found) s e single r = absurd (omega (arith, ap length (sym s.1 ∙ e), length-append line (10 ∷ behind)))
goes_on key ends lines line behind rest (Finding.Broken n) s e single r =
    elim s.1 [
      | inl bad ↦ absurd (bad.bad (subst (λ (l : List ℕ). Recomputes key lines l) (first_line line bad.line behind bad.behind single bad.single (sym e ∙ bad.parts)).0 r))
      | inr cut ↦ has_newline rest line behind cut.1.single e
    ]
goes_on key ends lines line behind rest (Finding.Long n) s e single r =
    let front : length s.1.front ≤ length line = front_short s.1.front s.1.behind line behind s.1.single (sym s.1.parts ∙ e) in
    absurd (omega (arith, front, s.1.long, recomputed_short key lines line r))
goes_on key ends lines line behind rest Finding.Spent s e single r = has_newline rest line behind s.1 e

whole_or : {X : Type 0} (key : List ℕ) (ends : Bool) (lines : List (List ℕ)) (rest : List ℕ) (n : ℕ) → rest ≡ [] → IsBadLine key lines rest ⊎ ((ends ≡ true) × IsCutShort rest) → X
whole_or key ends lines rest n e s =
    elim s [
      | inl bad ↦ absurd (omega (arith, ap length (sym e ∙ bad.parts), length-append bad.line (10 ∷ bad.behind)))
      | inr cut ↦ absurd (omega (arith, cut.1.some, ap length e))
    ]

broken_or_long : {X : Type 0} (key : List ℕ) (ends : Bool) (lines : List (List ℕ)) (rest : List ℕ) → IsBadLine key lines rest ⊎ ((ends ≡ true) × IsCutShort rest) → IsTooLong rest → X
broken_or_long key ends lines rest s long =
    elim s [
      | inl bad ↦ absurd (omega (arith, long.long, bad.short, front_short long.front long.behind bad.line bad.behind long.single (sym long.parts ∙ bad.parts)))
      | inr cut ↦ absurd (omega (arith, cut.1.short, long.long, ap length long.parts, length-append long.front long.behind))
    ]

broken_or_spent : {X : Type 0} (key : List ℕ) (ends : Bool) (lines : List (List ℕ)) (rest : List ℕ) → IsBadLine key lines rest ⊎ ((ends ≡ true) × IsCutShort rest) → ends ≡ false → IsSingle rest → X
broken_or_spent key ends lines rest s e single =
    elim s [
      | inl bad ↦ has_newline rest bad.line bad.behind single bad.parts
      | inr cut ↦ let both_ways : true ≡ false = sym cut.0 ∙ e in absurd cc
    ]

long_or_short : {X : Type 0} (rest : List ℕ) → IsTooLong rest → length rest ≤ 512 → X
long_or_short rest long short = absurd (omega (arith, short, long.long, ap length long.parts, length-append long.front long.behind))

whole_or_long : {X : Type 0} (rest : List ℕ) → rest ≡ [] → IsTooLong rest → X
whole_or_long rest e long = long_or_short rest long (omega (arith, ap length e))

ends_or : {X : Type 0} (ends : Bool) → ends ≡ true → ends ≡ false → X
ends_or ends t f = let both_ways : true ≡ false = sym t ∙ f in absurd cc

one_stop : (key : List ℕ) (ends : Bool) (lines : List (List ℕ)) (rest : List ℕ) (f g : Finding) → Stops key ends lines rest f → Stops key ends lines rest g → f ≡ g
one_stop key ends lines rest (Finding.Whole a) (Finding.Whole b) s t = ap Finding.Whole (s.2 ∙ sym t.2)
one_stop key ends lines rest (Finding.Whole a) (Finding.Broken n) s t = whole_or key ends lines rest n s.1 t.1
one_stop key ends lines rest (Finding.Whole a) (Finding.Long n) s t = whole_or_long rest s.1 t.1
one_stop key ends lines rest (Finding.Whole a) Finding.Spent s t = ends_or ends s.0 t.0
one_stop key ends lines rest (Finding.Broken m) (Finding.Whole b) s t = whole_or key ends lines rest m t.1 s.1
one_stop key ends lines rest (Finding.Broken m) (Finding.Broken n) s t = ap Finding.Broken (s.0 ∙ sym t.0)
one_stop key ends lines rest (Finding.Broken m) (Finding.Long n) s t = broken_or_long key ends lines rest s.1 t.1
one_stop key ends lines rest (Finding.Broken m) Finding.Spent s t = broken_or_spent key ends lines rest s.1 t.0 t.1
one_stop key ends lines rest (Finding.Long m) (Finding.Whole b) s t = whole_or_long rest t.1 s.1
one_stop key ends lines rest (Finding.Long m) (Finding.Broken n) s t = broken_or_long key ends lines rest t.1 s.1
one_stop key ends lines rest (Finding.Long m) (Finding.Long n) s t = ap Finding.Long (s.0 ∙ sym t.0)
one_stop key ends lines rest (Finding.Long m) Finding.Spent s t = long_or_short rest s.1 t.2
one_stop key ends lines rest Finding.Spent (Finding.Whole b) s t = ends_or ends t.0 s.0
one_stop key ends lines rest Finding.Spent (Finding.Broken n) s t = broken_or_spent key ends lines rest t.1 s.0 s.1
one_stop key ends lines rest Finding.Spent (Finding.Long n) s t = long_or_short rest t.1 s.2
one_stop key ends lines rest Finding.Spent Finding.Spent s t = refl

-- ---- the place is one

behind_one : (done : List (List ℕ)) (line : List ℕ) (lines : List (List ℕ)) → done ++ line ∷ lines ≡ (done ++ line ∷ []) ++ lines
behind_one done line lines = sym (append_assoc done (line ∷ []) lines)

one_place : (key : List ℕ) (ends : Bool) (done ls ms : List (List ℕ)) (xs ys : List ℕ) (f g : Finding) → written ls ++ xs ≡ written ms ++ ys → AllByRecursion IsSingle ls → AllByRecursion IsSingle ms
    → AllRecompute key (done ++ ls) → AllRecompute key (done ++ ms) → Stops key ends (done ++ ls) xs f → Stops key ends (done ++ ms) ys g → (ls ≡ ms) × (xs ≡ ys)
one_place key ends done [] [] xs ys f g e hl hm al am s t = (refl, e)
one_place key ends done [] (m ∷ ms) xs ys f g e hl hm al am s t =
    goes_on key ends done m (written ms ++ ys) xs f (subst (λ (l : List (List ℕ)). Stops key ends l xs f) (append-nil done) s) (e ∙ append_assoc (m ++ 10 ∷ []) (written ms) ys ∙ append_assoc m (10 ∷ []) (written ms ++ ys)) hm.0 (am done m ms refl)
one_place key ends done (l ∷ ls) [] xs ys f g e hl hm al am s t =
    goes_on key ends done l (written ls ++ xs) ys g (subst (λ (k : List (List ℕ)). Stops key ends k ys g) (append-nil done) t) (sym e ∙ append_assoc (l ++ 10 ∷ []) (written ls) xs ∙ append_assoc l (10 ∷ []) (written ls ++ xs)) hl.0 (al done l ls refl)
one_place key ends done (l ∷ ls) (m ∷ ms) xs ys f g e hl hm al am s t =
    let left : written (l ∷ ls) ++ xs ≡ l ++ 10 ∷ (written ls ++ xs) = append_assoc (l ++ 10 ∷ []) (written ls) xs ∙ append_assoc l (10 ∷ []) (written ls ++ xs) in
    let right : written (m ∷ ms) ++ ys ≡ m ++ 10 ∷ (written ms ++ ys) = append_assoc (m ++ 10 ∷ []) (written ms) ys ∙ append_assoc m (10 ∷ []) (written ms ++ ys) in
    let first = first_line l m (written ls ++ xs) (written ms ++ ys) hl.0 hm.0 (sym left ∙ e ∙ right) in
    let same : l ≡ m = first.0 in
    let moved : (done ++ m ∷ ms) ≡ (done ++ l ∷ []) ++ ms = behind_one done m ms ∙ ap (λ (k : List ℕ). (done ++ k ∷ []) ++ ms) (sym same) in
    let rest = one_place key ends (done ++ l ∷ []) ls ms xs ys f g first.1 hl.1 hm.1
    (subst (AllRecompute key) (behind_one done l ls) al)
    (subst (AllRecompute key) moved am)
    (subst (λ (k : List (List ℕ)). Stops key ends k xs f) (behind_one done l ls) s)
    (subst (λ (k : List (List ℕ)). Stops key ends k ys g) moved t) in
    let tails : ls ≡ ms = rest.0 in
    (cc, rest.1)

pub one_finding : (key bytes : List ℕ) (ends : Bool) (f g : Finding) → FindsIn key bytes ends f → FindsIn key bytes ends g → f ≡ g
one_finding key bytes ends f g p q =
    let b : Begins key bytes p.0 p.1 = p.2 in
    let d : Begins key bytes q.0 q.1 = q.2 in
    let same = one_place key ends [] p.0 q.0 p.1 q.1 f g (sym b.whole ∙ d.whole) b.single d.single b.each d.each p.3 q.3 in
    one_stop key ends p.0 p.1 f g p.3 (subst (λ (xs : List ℕ). Stops key ends p.0 xs g) (sym same.1) (subst (λ (ls : List (List ℕ)). Stops key ends ls q.1 g) (sym same.0) q.3))
