-- No id is of two clients.
use Rattle.std.proofs.Common.{◌≡◌, ℕ, ◌<◌, ◌⊎◌, ◌||◌, inl, inr, Bool, true, false, if◌then◌else◌, eqb, List, [], ◌∷◌, ◌++◌, Option, Some, None, is_some, refl, arith}
use Rattle.std.specs.List.{AllByRecursion}
use Rattle.std.specs.Ordering.{is_gt}
use Rattle.std.proofs.lemmas.Bool.Decides.{nat_tests}
use Rattle.keystore.specs.declared.phase.OldPhase.TheVariants as old_phases
use Rattle.keystore.specs.declared.phase.OldKey.{OldKey}
use Rattle.keystore.specs.Lists.{first, edited, AscendsBy}
use Rattle.keystore.specs.Rings.{ClientKeys, name_cmp, is_named, is_key, added, changed, rotated, marked, without, swept_key}
use Rattle.keystore.specs.Kept.{has_old, has_id, IsApart, IsPast, IsKeyed}

or_cases : (a b : Bool) → (a || b) ≡ true → (a ≡ true) ⊎ (b ≡ true)
or_cases true b h = inl refl
or_cases false b h = inr h

or_left : (a b : Bool) → a ≡ true → (a || b) ≡ true
or_left true b h = refl
or_left false b h = cc

or_right : (a b : Bool) → b ≡ true → (a || b) ≡ true
or_right true b h = refl
or_right false b h = h

is_same : (m n : ℕ) → eqb m n ≡ true → m ≡ n
is_same m n h = grind (arith, nat_tests)

-- ---- the ids of one client

past_by_test : (current now id : ℕ) (k : OldKey) (o : Option OldKey) (b : Bool) → (b ≡ true → k.id ≡ id) → IsPast current now k → (is_some o ≡ true → id < current) → is_some (if b then Some k else o) ≡ true → id < current
past_by_test current now id k o true same p rest h = let e = same refl in omega (arith, p.older, e)
past_by_test current now id k o false same p rest h = rest h

past_below : (current now id : ℕ) (ks : List OldKey) → AllByRecursion (IsPast current now) ks → has_old id ks ≡ true → id < current
past_below current now id [] p h = cc
past_below current now id (k ∷ ks) p h = past_by_test current now id k (first (is_key id) ks) (eqb k.id id) (is_same k.id id) p.0 (past_below current now id ks p.1) h

pub id_below : (next now id : ℕ) (c : ClientKeys) → IsKeyed next now c → has_id id c ≡ true → id < next
id_below next now id c k h = elim (or_cases (eqb c.id id) (has_old id c.past) h) [
  | inl here ↦ let same = is_same c.id id here in omega (arith, k.below, same)
  | inr old ↦ let older = past_below c.id now id c.past k.each old in omega (arith, k.below, older)
]

push_by_test : (id : ℕ) (j k : OldKey) (o o' : Option OldKey) (b : Bool) → (is_some o' ≡ true → (is_some o ≡ true) ⊎ (k.id ≡ id)) → is_some (if b then Some j else o') ≡ true → (is_some (if b then Some j else o) ≡ true) ⊎ (k.id ≡ id)
push_by_test id j k o o' true rest h = inl refl
push_by_test id j k o o' false rest h = rest h

last_by_test : (id : ℕ) (k : OldKey) (o : Option OldKey) (b : Bool) → (b ≡ true → k.id ≡ id) → is_some (if b then Some k else o) ≡ true → (is_some o ≡ true) ⊎ (k.id ≡ id)
last_by_test id k o true same h = inr (same refl)
last_by_test id k o false same h = inl h

has_push : (id : ℕ) (ks : List OldKey) (k : OldKey) → has_old id (ks ++ k ∷ []) ≡ true → (has_old id ks ≡ true) ⊎ (k.id ≡ id)
has_push id [] k h = last_by_test id k None (eqb k.id id) (is_same k.id id) h
has_push id (j ∷ js) k h = push_by_test id j k (first (is_key id) js) (first (is_key id) (js ++ k ∷ [])) (eqb j.id id) (has_push id js k) h

pub rotated_ids : (id next now : ℕ) (key : List ℕ) (c : ClientKeys) → has_id id (rotated next key now c) ≡ true → (next ≡ id) ⊎ (has_id id c ≡ true)
rotated_ids id next now key c h = elim (or_cases (eqb next id) (has_old id (rotated next key now c).past) h) [
  | inl here ↦ inl (is_same next id here)
  | inr old ↦ elim (has_push id c.past (record { id = c.id; key = c.key; phase = old_phases.Draining now }) old) [
    | inl older ↦ inr (or_right (eqb c.id id) (has_old id c.past) older)
    | inr same ↦ inr (or_left (eqb c.id id) (has_old id c.past) (let here : eqb c.id id ≡ true = grind (arith, nat_tests) in here))
  ]
]

both_by_test : (j k : OldKey) (o o' : Option OldKey) (b : Bool) → (is_some o' ≡ true → is_some o ≡ true) → is_some (if b then Some j else o') ≡ true → is_some (if b then Some k else o) ≡ true
both_by_test j k o o' true rest h = refl
both_by_test j k o o' false rest h = rest h

tail_by_test : (k : OldKey) (o : Option OldKey) (b : Bool) → is_some o ≡ true → is_some (if b then Some k else o) ≡ true
tail_by_test k o true h = refl
tail_by_test k o false h = h

-- an edit that gives no new id
module _ (id key : ℕ) (f : OldKey → List OldKey) (narrows : (k : OldKey) (ks : List OldKey) → has_old id (f k ++ ks) ≡ true → has_old id (k ∷ ks) ≡ true) where
  edit_by_test : (k : OldKey) (ks : List OldKey) (b : Bool) → (has_old id (edited (is_key key) f ks) ≡ true → has_old id ks ≡ true) → has_old id (if b then f k ++ ks else k ∷ edited (is_key key) f ks) ≡ true → has_old id (k ∷ ks) ≡ true
  edit_by_test k ks true rest h = narrows k ks h
  edit_by_test k ks false rest h = both_by_test k k (first (is_key id) ks) (first (is_key id) (edited (is_key key) f ks)) (eqb k.id id) rest h

  edit_ids : (ks : List OldKey) → has_old id (edited (is_key key) f ks) ≡ true → has_old id ks ≡ true
  edit_ids [] h = h
  edit_ids (k ∷ ks) h = edit_by_test k ks (eqb k.id key) (edit_ids ks) h

same_old : (id : ℕ) (c : ClientKeys) (ks : List OldKey) → (has_old id ks ≡ true → has_old id c.past ≡ true) → has_id id (record c { past = ks }) ≡ true → has_id id c ≡ true
same_old id c ks f h = elim (or_cases (eqb c.id id) (has_old id ks) h) [
  | inl here ↦ or_left (eqb c.id id) (has_old id c.past) here
  | inr old ↦ or_right (eqb c.id id) (has_old id c.past) (f old)
]

pub marked_ids : (id key now : ℕ) (c : ClientKeys) → has_id id (marked key now c) ≡ true → has_id id c ≡ true
marked_ids id key now c h = same_old id c (marked key now c).past (edit_ids id key (λ k. swept_key now k ∷ []) (λ k ks g. both_by_test (swept_key now k) k (first (is_key id) ks) (first (is_key id) ks) (eqb k.id id) (λ x. x) g) c.past) h

pub without_ids : (id key : ℕ) (c : ClientKeys) → has_id id (without key c) ≡ true → has_id id c ≡ true
without_ids id key c h = same_old id c (without key c).past (edit_ids id key (λ _. []) (λ k ks g. tail_by_test k (first (is_key id) ks) (eqb k.id id) g) c.past) h

-- ---- the ids of all clients

module _ (R : ClientKeys → ClientKeys → Type 0) (P : ClientKeys → Type 0) (who : List ℕ) (f : ClientKeys → ClientKeys) (left : (x y : ClientKeys) → P x → P y → R x y → R (f x) y) (right : (x y : ClientKeys) → P x → P y → R x y → R x (f y)) where
  right_by_test : (x y : ClientKeys) (ys zs : List ClientKeys) (b : Bool) → P x → P y → R x y → AllByRecursion (R x) ys → AllByRecursion (R x) zs → AllByRecursion (R x) (if b then f y ∷ [] ++ ys else y ∷ zs)
  right_by_test x y ys zs true p q h k l = (right x y p q h, k)
  right_by_test x y ys zs false p q h k l = (h, l)

  all_right : (x : ClientKeys) (ys : List ClientKeys) → P x → AllByRecursion P ys → AllByRecursion (R x) ys → AllByRecursion (R x) (changed who f ys)
  all_right x [] p q h = tt
  all_right x (y ∷ ys) p q h = right_by_test x y ys (changed who f ys) (is_named who y) p q.0 h.0 h.1 (all_right x ys p q.1 h.1)

  all_left : (x : ClientKeys) (ys : List ClientKeys) → P x → AllByRecursion P ys → AllByRecursion (R x) ys → AllByRecursion (R (f x)) ys
  all_left x [] p q h = tt
  all_left x (y ∷ ys) p q h = (left x y p q.0 h.0, all_left x ys p q.1 h.1)

  left_by_test : (x : ClientKeys) (xs ys : List ClientKeys) (b : Bool) → AllByRecursion (R (f x)) xs → AscendsBy R xs → AllByRecursion (R x) ys → AscendsBy R ys → AscendsBy R (if b then f x ∷ [] ++ xs else x ∷ ys)
  left_by_test x xs ys true h k l m = (h, k)
  left_by_test x xs ys false h k l m = (l, m)

  pub pairs_changed : (xs : List ClientKeys) → AllByRecursion P xs → AscendsBy R xs → AscendsBy R (changed who f xs)
  pairs_changed [] p h = tt
  pairs_changed (x ∷ xs) p h = left_by_test x xs (changed who f xs) (is_named who x) (all_left x xs p.0 p.1 h.0) h.1 (all_right x xs p.0 p.1 h.0) (pairs_changed xs p.1 h.1)

-- where a change gives a client no id but its own and the next one
pub apart_changed : (next now : ℕ) (who : List ℕ) (f : ClientKeys → ClientKeys) → ((id : ℕ) (c : ClientKeys) → has_id id (f c) ≡ true → (next ≡ id) ⊎ (has_id id c ≡ true)) → (cs : List ClientKeys) → AllByRecursion (IsKeyed next now) cs → AscendsBy IsApart cs → AscendsBy IsApart (changed who f cs)
apart_changed next now who f narrows cs keyed h = pairs_changed IsApart (IsKeyed next now) who f
    (λ x y p q r. record { none = λ id a b. elim (narrows id x a) [ inl same ↦ let less = id_below next now id y q b in absurd (omega (arith, less, same)) | inr old ↦ r.none id old b ] })
    (λ x y p q r. record { none = λ id a b. elim (narrows id y b) [ inl same ↦ let less = id_below next now id x p a in absurd (omega (arith, less, same)) | inr old ↦ r.none id a old ] })
    cs keyed h

added_by_test : (P : ClientKeys → Type 0) (c d : ClientKeys) (ds es : List ClientKeys) (b : Bool) → P c → P d → AllByRecursion P ds → AllByRecursion P es → AllByRecursion P (if b then c ∷ d ∷ ds else d ∷ es)
added_by_test P c d ds es true p q h k = (p, (q, h))
added_by_test P c d ds es false p q h k = (q, k)

all_with : (P : ClientKeys → Type 0) (c : ClientKeys) (ds : List ClientKeys) → P c → AllByRecursion P ds → AllByRecursion P (added c ds)
all_with P c [] p h = (p, tt)
all_with P c (d ∷ ds) p h = added_by_test P c d ds (added c ds) (is_gt (name_cmp d.name c.name)) p h.0 h.1 (all_with P c ds p h.1)

pairs_by_test : (R : ClientKeys → ClientKeys → Type 0) (c d : ClientKeys) (ds es : List ClientKeys) (b : Bool) → AllByRecursion (R c) (d ∷ ds) → AscendsBy R (d ∷ ds) → AllByRecursion (R d) es → AscendsBy R es → AscendsBy R (if b then c ∷ d ∷ ds else d ∷ es)
pairs_by_test R c d ds es true h k l m = (h, k)
pairs_by_test R c d ds es false h k l m = (l, m)

pairs_added : (R : ClientKeys → ClientKeys → Type 0) (c : ClientKeys) (ds : List ClientKeys) → AscendsBy R ds → AllByRecursion (λ d. R d c) ds → AllByRecursion (R c) ds → AscendsBy R (added c ds)
pairs_added R c [] h k l = (tt, tt)
pairs_added R c (d ∷ ds) h k l = pairs_by_test R c d ds (added c ds) (is_gt (name_cmp d.name c.name)) l h (all_with (R d) c ds k.0 h.0) (pairs_added R c ds h.1 k.1 l.1)

all_from : (P Q : ClientKeys → Type 0) (ds : List ClientKeys) → ((d : ClientKeys) → P d → Q d) → AllByRecursion P ds → AllByRecursion Q ds
all_from P Q [] f h = tt
all_from P Q (d ∷ ds) f h = (f d h.0, all_from P Q ds f h.1)

-- a client whose only id is the next one
pub apart_added : (next now : ℕ) (c : ClientKeys) → ((id : ℕ) → has_id id c ≡ true → next ≡ id) → (cs : List ClientKeys) → AllByRecursion (IsKeyed next now) cs → AscendsBy IsApart cs → AscendsBy IsApart (added c cs)
apart_added next now c only cs keyed h = pairs_added IsApart c cs h
    (all_from (IsKeyed next now) (λ d. IsApart d c) cs (λ d q. record { none = λ id a b. let less = id_below next now id d q a in let same = only id b in absurd (omega (arith, less, same)) }) keyed)
    (all_from (IsKeyed next now) (IsApart c) cs (λ d q. record { none = λ id a b. let less = id_below next now id d q b in let same = only id a in absurd (omega (arith, less, same)) }) keyed)

pub new_ids : (next id : ℕ) → (eqb next id || false) ≡ true → next ≡ id
new_ids next id h = elim (or_cases (eqb next id) false h) [ inl here ↦ is_same next id here | inr none ↦ cc ]
