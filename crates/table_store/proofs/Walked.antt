-- The keys that stand before the first that doesn't, and a set of them.
use Rattle.std.proofs.Common.{◌≡◌, ℕ, ◌<◌, ◌+◌, Bool, true, false, ◌||◌, not, cond, List, [], ◌∷◌, ◌++◌, map, length, take, drop, get_or, subst, refl, sym, ap, ◌∙◌, append_assoc, Option, Some, None}
use Rattle.std.specs.Bool.{OnFalse}
use Rattle.std.specs.List.{list_any}
use Rattle.std.specs.BTreeSet as tree
use Rattle.std.specs.BTreeSet.{BTreeSet}
use Rattle.std.specs.Cmp.{int_cmp_total}
use Rattle.std.specs.Cmp.Lexicographic.{slice_cmp, nat_list_cmp_total}
use Rattle.std.specs.Ordering.{is_eq, int_cmp, nat_cmp}
use Rattle.std.proofs.lemmas.List.{take_more, drop_more, map-append}
use Rattle.std.proofs.lemmas.List.Folds.{list_any-append}
use Rattle.table_machine.specs.declared.cell.Cell.{Cell}
use Rattle.table_rows.specs.declared.seen.Seen.{Seen}
use Rattle.table_rows.specs.declared.seen.Seen.TheVariants as see
use Rattle.table_machine.specs.declared.table.BrokenKey.{BrokenKey}
use Rattle.table_machine.specs.declared.table.BrokenKey.TheVariants as broken
use Rattle.table_machine.specs.Faults.{are_equal}
use Rattle.table_machine.specs.Stored.{compare, is_null}
use Rattle.table_rows.specs.Looking.{seen}
use Rattle.table_store.specs.declared.keys.Key.{Key}
use Rattle.table_store.specs.declared.keys.Key.TheVariants as known
use Rattle.table_store.specs.contracts.keys.KeyOrd.TheImpl as key_ord
use Rattle.table_store.specs.Keys.{broken_stored, standing, is_among, key_in, cell_of, has, Holds}
use Rattle.table_binder.proofs.Firsts as firsts
use Rattle.table_rows.specs.Filters.{cell_at}
use Rattle.table_store.specs.Changing.{keys_in}
use Rattle.table_store.proofs.Broken.{plus_nil}
use Rattle.table_store.proofs.Unequal.{reversed, symmetric}

-- keys compare as their cells do
alike : (k q : Key) → is_eq ((key_ord.ghosts).cmp k q) ≡ are_equal (compare (cell_of q) (cell_of k))
alike (known.Int a) (known.Int b) = ap is_eq (int_cmp_total.antisymm a b) ∙ reversed (int_cmp b a)
alike (known.Bytes a) (known.Bytes b) = ap is_eq (nat_list_cmp_total.antisymm a.now b.now) ∙ reversed (slice_cmp nat_cmp b.now a.now)
alike (known.Int a) (known.Bytes b) = refl
alike (known.Bytes a) (known.Int b) = refl

abbrev inside : Cell → Option Key → Cell
inside c (Some key) = cell_of key
inside c None = c

some_key : (c : Seen) (key : Key) → key_in c ≡ Some key → (cell_of key ≡ seen c) × (is_null (seen c) ≡ false)
some_key see.Null key e = cc
some_key (see.Int n) key e = (ap (inside (cell_of key)) (sym e), refl)
some_key (see.Bytes b) key e = (ap (inside (cell_of key)) (sym e), refl)

-- ---- the set of the keys so far

any_join : (p : Cell → Bool) (xs : List Cell) (y : Cell) → list_any p (xs ++ y ∷ []) ≡ cond (p y) true (list_any p xs)
any_join p [] y = at (p y)
  where
    at : (b : Bool) → (b || false) ≡ cond b true false
    at true = refl
    at false = refl
any_join p (x ∷ xs) y = ap (λ w. p x || w) (any_join p xs y) ∙ at (p x) (p y) (list_any p xs)
  where
    at : (a b c : Bool) → (a || cond b true c) ≡ cond b true (a || c)
    at true true c = refl
    at true false c = refl
    at false true c = refl
    at false false c = refl

pub holds_same : (old new : BTreeSet Key) (all : List Cell) → new.keys ≡ old.keys → Holds old all → Holds new all
holds_same old new all e h = λ k. ap (λ (ks : List Key). list_any (λ q. is_eq ((key_ord.ghosts).cmp k q)) ks) e ∙ h k

pub holds_more : (old new : BTreeSet Key) (k : Key) (c : Cell) (all : List Cell) → cell_of k ≡ c → tree.Updates (key_ord.ghosts).cmp old new k true → Holds old all → Holds new (all ++ c ∷ [])
holds_more old new k c all is u h = λ q.
    u.0 q
    ∙ (ap (λ w. cond w true (has old q)) (alike k q ∙ ap (λ w. are_equal (compare (cell_of q) w)) is)
    ∙ (ap (λ w. cond (are_equal (compare (cell_of q) c)) true w) (h q)
    ∙ sym (any_join (λ w. are_equal (compare (cell_of q) w)) all c)))

-- ---- the next cell

module _ (earlier rest more : List Cell) (c : Cell) (is : rest ≡ c ∷ more) (some : is_null c ≡ false) where
  broken_at : (b : Bool) → is_among earlier c ≡ b → broken_stored earlier (c ∷ more) ≡ cond b (Some broken.Twice) (broken_stored (earlier ++ c ∷ []) more)
  broken_at b e = rw (some, e) refl

  standing_at : (b : Bool) → is_among earlier c ≡ b → standing earlier (c ∷ more) ≡ cond b [] (c ∷ standing (earlier ++ c ∷ []) more)
  standing_at b e = rw (some, e) refl

  pub broken_twice : (out : Option BrokenKey) → is_among earlier c ≡ true → broken_stored earlier rest ≡ out → Some broken.Twice ≡ out
  broken_twice out e f = sym (ap (broken_stored earlier) is ∙ broken_at true e) ∙ f

  pub broken_more : (out : Option BrokenKey) → is_among earlier c ≡ false → broken_stored earlier rest ≡ out → broken_stored (earlier ++ c ∷ []) more ≡ out
  broken_more out e f = sym (ap (broken_stored earlier) is ∙ broken_at false e) ∙ f

  pub standing_more : (out : List Cell) → is_among earlier c ≡ false → earlier ++ standing earlier rest ≡ out → (earlier ++ c ∷ []) ++ standing (earlier ++ c ∷ []) more ≡ out
  standing_more out e f = append_assoc earlier (c ∷ []) (standing (earlier ++ c ∷ []) more) ∙ (sym (ap (λ w. earlier ++ w) (ap (standing earlier) is ∙ standing_at false e)) ∙ f)

  pub standing_twice : (out : List Cell) → is_among earlier c ≡ true → earlier ++ standing earlier rest ≡ out → out ≡ earlier
  standing_twice out e f = sym f ∙ (ap (λ w. earlier ++ w) (ap (standing earlier) is ∙ standing_at true e) ∙ plus_nil earlier)

-- ---- behind rows

none_among : (rows : List Cell) → list_any (is_among []) rows ≡ false
none_among [] = refl
none_among (r ∷ rows) = none_among rows

more_among : (rows keys : List Cell) (k : Cell) → list_any (is_among (k ∷ keys)) rows ≡ (is_among rows k || list_any (is_among keys) rows)
more_among [] keys k = refl
more_among (r ∷ rows) keys k =
    ap (λ w. (are_equal (compare r k) || is_among keys r) || w) (more_among rows keys k)
    ∙ (ap (λ w. (w || is_among keys r) || (is_among rows k || list_any (is_among keys) rows)) (symmetric r k)
    ∙ at (are_equal (compare k r)) (is_among keys r) (is_among rows k) (list_any (is_among keys) rows))
  where
    at : (a b c d : Bool) → ((a || b) || (c || d)) ≡ ((a || c) || (b || d))
    at true b c d = refl
    at false true true d = refl
    at false true false d = refl
    at false false c d = refl

-- a key that is NULL or not, equal to an earlier one or not, to a row's or not
behind_step : (rows rest : List Cell) (k : Cell) (after : Option BrokenKey) (n e r : Bool) → is_among rows k ≡ r
    → cond n (Some broken.Null) (cond (r || e) (Some broken.Twice) (cond (list_any (is_among rest) rows) (Some broken.Twice) after))
    ≡ cond (list_any (is_among (cond n [] (cond e [] (k ∷ rest)))) rows) (Some broken.Twice) (cond n (Some broken.Null) (cond e (Some broken.Twice) after))
behind_step rows rest k after true e r q = rw (none_among rows) refl
behind_step rows rest k after false true true q = rw (none_among rows) refl
behind_step rows rest k after false true false q = rw (none_among rows) refl
behind_step rows rest k after false false true q = rw (more_among rows rest k, q) refl
behind_step rows rest k after false false false q = rw (more_among rows rest k, q) refl

behind_rows : (rows earlier keys : List Cell) → broken_stored (rows ++ earlier) keys ≡ cond (list_any (is_among (standing earlier keys)) rows) (Some broken.Twice) (broken_stored earlier keys)
behind_rows rows earlier [] = rw (none_among rows) refl
behind_rows rows earlier (k ∷ keys) =
    ap (λ w. cond (is_null k) (Some broken.Null) (cond w (Some broken.Twice) (broken_stored ((rows ++ earlier) ++ k ∷ []) keys))) (list_any-append (λ c. are_equal (compare k c)) rows earlier)
    ∙ (ap (λ w. cond (is_null k) (Some broken.Null) (cond (is_among rows k || is_among earlier k) (Some broken.Twice) w)) (ap (λ w. broken_stored w keys) (append_assoc rows earlier (k ∷ [])) ∙ behind_rows rows (earlier ++ k ∷ []) keys)
    ∙ behind_step rows (standing (earlier ++ k ∷ []) keys) k (broken_stored (earlier ++ k ∷ []) keys) (is_null k) (is_among earlier k) (is_among rows k) refl)

-- where a row has one of the keys that stand, or none has
pub behind : (rows keys : List Cell) (found b : Bool) → found ≡ list_any (is_among (standing [] keys)) rows → found ≡ b → cond b (Some broken.Twice) (broken_stored [] keys) ≡ broken_stored rows keys
behind rows keys found b e f =
    sym (ap (λ w. broken_stored w keys) (sym (plus_nil rows)) ∙ (behind_rows rows [] keys ∙ ap (λ w. cond w (Some broken.Twice) (broken_stored [] keys)) (sym e ∙ f)))

-- ---- the walk over cells

module _ (raw : List Seen) (i : ℕ) (keys : BTreeSet Key) (k : Key) (h : i < length raw) (is : key_in (get_or raw i see.Null) ≡ Some k)
    (held : Holds keys (map seen (take i raw)))
    (same : broken_stored (map seen (take i raw)) (map seen (drop i raw)) ≡ broken_stored [] (map seen raw))
    (before : map seen (take i raw) ++ standing (map seen (take i raw)) (map seen (drop i raw)) ≡ standing [] (map seen raw)) where
  abbrev earlier : List Cell
  earlier = map seen (take i raw)

  abbrev cell : Cell
  cell = seen (get_or raw i see.Null)

  left : map seen (drop i raw) ≡ cell ∷ map seen (drop (i + 1) raw)
  left = ap (map seen) (drop_more raw i see.Null h)

  taken : map seen (take (i + 1) raw) ≡ earlier ++ cell ∷ []
  taken = ap (map seen) (take_more raw i see.Null h) ∙ map-append seen (take i raw) (get_or raw i see.Null ∷ [])

  among : (b : Bool) → has keys k ≡ b → is_among earlier cell ≡ b
  among b e = ap (is_among earlier) (sym (some_key (get_or raw i see.Null) k is).0) ∙ (sym (held k) ∙ e)

  filled : is_null cell ≡ false
  filled = (some_key (get_or raw i see.Null) k is).1

  pub found_twice : (new : BTreeSet Key) → new.keys ≡ keys.keys → has keys k ≡ true → Holds new (standing [] (map seen raw)) × (Some broken.Twice ≡ broken_stored [] (map seen raw))
  found_twice new e f = (
    subst (Holds new) (sym (standing_twice earlier (map seen (drop i raw)) (map seen (drop (i + 1) raw)) cell left filled (standing [] (map seen raw)) (among true f) before)) (holds_same keys new earlier e held),
    broken_twice earlier (map seen (drop i raw)) (map seen (drop (i + 1) raw)) cell left filled (broken_stored [] (map seen raw)) (among true f) same,
  )

  pub found_more : (new : BTreeSet Key) → tree.Updates (key_ord.ghosts).cmp keys new k true → has keys k ≡ false
      → Holds new (map seen (take (i + 1) raw))
      × (broken_stored (map seen (take (i + 1) raw)) (map seen (drop (i + 1) raw)) ≡ broken_stored [] (map seen raw))
      × (map seen (take (i + 1) raw) ++ standing (map seen (take (i + 1) raw)) (map seen (drop (i + 1) raw)) ≡ standing [] (map seen raw))
  found_more new u f = (
    subst (Holds new) (sym taken) (holds_more keys new k cell earlier (some_key (get_or raw i see.Null) k is).0 u held),
    ap (λ w. broken_stored w (map seen (drop (i + 1) raw))) taken ∙ broken_more earlier (map seen (drop i raw)) (map seen (drop (i + 1) raw)) cell left filled (broken_stored [] (map seen raw)) (among false f) same,
    ap (λ w. w ++ standing w (map seen (drop (i + 1) raw))) taken ∙ standing_more earlier (map seen (drop i raw)) (map seen (drop (i + 1) raw)) cell left filled (standing [] (map seen raw)) (among false f) before,
  )

-- ---- a cell among rows

module _ (keys : BTreeSet Key) (all : List Cell) (held : Holds keys all) (c : Seen) where
  pub key_among : (key : Key) → key_in c ≡ Some key → has keys key ≡ is_among all (seen c)
  key_among key e = held key ∙ ap (is_among all) (some_key c key e).0

pub none_equal : (c : Seen) (all : List Cell) → key_in c ≡ None → false ≡ is_among all (seen c)
none_equal see.Null [] e = refl
none_equal see.Null (a ∷ all) e = none_equal see.Null all e
none_equal (see.Int n) all e = cc
none_equal (see.Bytes b) all e = cc

-- ---- the next row

module _ (p : Cell → Bool) (place : ℕ) (rows : List (List Cell)) (i : ℕ) (row : List Cell) (h : i < length rows) (is : row ≡ get_or rows i row)
    (found : Bool) (e : found ≡ p (cell_at row place)) (inv : list_any p (keys_in place (drop i rows)) ≡ list_any p (keys_in place rows)) where
  any_here : (b : Bool) → found ≡ b → list_any p (keys_in place (drop i rows)) ≡ (b || list_any p (keys_in place (drop (i + 1) rows)))
  any_here b f = ap (λ rs. list_any p (keys_in place rs)) (firsts.drop_more rows i row h is) ∙ ap (λ w. w || list_any p (keys_in place (drop (i + 1) rows))) (sym e ∙ f)

  pub row_found : found ≡ true → true ≡ list_any p (keys_in place rows)
  row_found f = sym (any_here true f) ∙ inv

  pub row_passed : found ≡ false → list_any p (keys_in place (drop (i + 1) rows)) ≡ list_any p (keys_in place rows)
  row_passed f = sym (any_here false f) ∙ inv

pub turned : (a b : Bool) → a ≡ not b → b ≡ not a
turned true true e = cc
turned true false e = refl
turned false true e = refl
turned false false e = cc

pub on_false : {P : Type 0} (b : Bool) → b ≡ false → OnFalse b P → P
on_false true e p = cc
on_false false e p = p
