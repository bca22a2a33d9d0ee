-- The key's fold says that the keys differ.
use Rattle.std.proofs.Common.{◌≡◌, ◌<◌, ◌+◌, ℕ, zero, suc, Bool, true, false, true≢false, List, [], ◌∷◌, ◌++◌, length, slice_index_or, refl, sym, ap, ◌∙◌, subst, ⊎_elim, append_assoc, arith, Option, Some, None}
use Rattle.std.specs.Prelude.{option_map}
use Rattle.std.specs.List.{list_any}
use Rattle.std.specs.Cmp.{int_cmp_total}
use Rattle.std.specs.Cmp.Lexicographic.{slice_cmp, nat_list_cmp_total}
use Rattle.std.specs.declared.cmp.Ordering.{Ordering}
use Rattle.std.specs.declared.cmp.Ordering.TheVariants.{Less, Equal, Greater}
use Rattle.std.specs.Ordering.{is_eq, nat_cmp, int_cmp, ordering_reverse}
use Rattle.std.proofs.lemmas.Bool.{cases_lt}
use Rattle.std.proofs.lemmas.List.{get_or-map, get_or_at, get_or_append_left, length-map, length-append}
use Rattle.std.proofs.lemmas.List.Folds.{list_any_at}
use Rattle.table_machine.specs.declared.cell.Cell.{Cell}
use Rattle.table_machine.specs.declared.cell.Cell.TheVariants as cell
use Rattle.table_machine.specs.declared.table.ColumnDef.{ColumnDef}
use Rattle.table_machine.specs.declared.table.TableDef.{TableDef}
use Rattle.table_machine.specs.Faults.{are_equal, key_fault, broken_fault, key_name}
use Rattle.table_machine.specs.Reordered.{IsPermutationOf, rows_at}
use Rattle.table_machine.specs.Stored.{stored, compare, is_null}
use Rattle.table_machine.specs.Tables.{Table}
use Rattle.table_store.specs.Keys.{broken_stored}
use Rattle.table_store.specs.Changing.{KeyHolds, keys_in}
use Rattle.table_store.specs.Differing.{Differ, KeysDiffer, AllDiffer, KeyIsExact}
use Rattle.table_store.specs.Shelves.{AllHold}
use Rattle.table_store.proofs.Broken.{stands}
use Rattle.table_store.proofs.Keyed.{key_given, none_inside}

-- ---- equality goes both ways

pub reversed : (o : Ordering) → is_eq (ordering_reverse o) ≡ is_eq o
reversed Less = refl
reversed Equal = refl
reversed Greater = refl

pub symmetric : (a b : Cell) → are_equal (compare a b) ≡ are_equal (compare b a)
symmetric (cell.Int a) (cell.Int b) = ap is_eq (int_cmp_total.antisymm a b) ∙ reversed (int_cmp b a)
symmetric (cell.Bytes a) (cell.Bytes b) = ap is_eq (nat_list_cmp_total.antisymm a b) ∙ reversed (slice_cmp nat_cmp b a)
symmetric (cell.Int a) (cell.Bytes b) = refl
symmetric (cell.Int a) cell.Null = refl
symmetric (cell.Bytes a) (cell.Int b) = refl
symmetric (cell.Bytes a) cell.Null = refl
symmetric cell.Null (cell.Int b) = refl
symmetric cell.Null (cell.Bytes b) = refl
symmetric cell.Null cell.Null = refl

abbrev key_at : List Cell → ℕ → Cell
key_at keys i = slice_index_or keys i cell.Null

yes_or_no : {A : Type 0} (b : Bool) → (b ≡ true → A) → (b ≡ false → A) → A
yes_or_no true t f = t refl
yes_or_no false t f = f refl

none_at : (p : Cell → Bool) (xs : List Cell) → list_any p xs ≡ false → (j : ℕ) → j < length xs → p (key_at xs j) ≡ false
none_at p xs e j h = yes_or_no (p (key_at xs j)) (λ t. absurd (true≢false (sym (list_any_at p xs j cell.Null h t) ∙ e))) (λ f. f)

none_any : (p : Cell → Bool) (xs : List Cell) → ((j : ℕ) → j < length xs → p (key_at xs j) ≡ false) → list_any p xs ≡ false
none_any p [] f = refl
none_any p (x ∷ xs) f = rw (f 0 (omega arith)) (none_any p xs (λ j h. f (suc j) (omega arith)))

-- ---- from the fold

-- a key is not NULL, and not equal to one before it
record Fresh (earlier keys : List Cell) (i : ℕ) : Type 0 where
  some : is_null (key_at keys i) ≡ false
  new : (j : ℕ) → j < length earlier + i → are_equal (compare (key_at keys i) (key_at (earlier ++ keys) j)) ≡ false

fresh : (earlier keys : List Cell) → broken_stored earlier keys ≡ None → (i : ℕ) → i < length keys → Fresh earlier keys i
fresh earlier [] e i h = absurd (omega arith)
fresh earlier (key ∷ keys) e zero h =
    let s = stands earlier key keys e in
    record {
      some = s.some;
      new = λ j l.
          let within : j < length earlier = omega arith in
          ap (λ w. are_equal (compare key w)) (get_or_append_left earlier (key ∷ keys) cell.Null j within) ∙ none_at (λ c. are_equal (compare key c)) earlier s.new j within;
    }
fresh earlier (key ∷ keys) e (suc i) h =
    let s = stands earlier key keys e in
    let r = fresh (earlier ++ key ∷ []) keys s.rest i (omega arith) in
    record {
      some = r.some;
      new = λ j l.
          let long = length-append earlier (key ∷ []) in
          ap (λ w. are_equal (compare (key_at keys i) (key_at w j))) (sym (append_assoc earlier (key ∷ []) keys)) ∙ r.new j (omega arith);
    }

pub differ : (keys : List Cell) → broken_stored [] keys ≡ None → Differ keys
differ keys e = record {
  some = λ i h. (fresh [] keys e i h).some;
  once = λ i j h g q. ⊎_elim
      (λ l. absurd (true≢false (sym q ∙ (symmetric (key_at keys i) (key_at keys j) ∙ (fresh [] keys e j g).new i (omega arith)))))
      (λ l. ⊎_elim
      (λ m. absurd (true≢false (sym q ∙ (fresh [] keys e i h).new j (omega arith))))
      (λ m. omega arith)
      (cases_lt j i))
      (cases_lt i j);
}

-- ---- to the fold

pub stand : (earlier keys : List Cell) → Differ (earlier ++ keys) → broken_stored earlier keys ≡ None
stand earlier [] d = refl
stand earlier (key ∷ keys) d =
    let long = length-append earlier (key ∷ keys) in
    let at : key_at (earlier ++ key ∷ keys) (length earlier) ≡ key = get_or_at earlier key keys cell.Null (length earlier) refl in
    let some : is_null key ≡ false = ap is_null (sym at) ∙ d.some (length earlier) (omega arith) in
    let new : list_any (λ c. are_equal (compare key c)) earlier ≡ false =
    none_any (λ c. are_equal (compare key c)) earlier
    (λ j h. yes_or_no (are_equal (compare key (key_at earlier j)))
    (λ t.
    let there = get_or_append_left earlier (key ∷ keys) cell.Null j h in
    let q : are_equal (compare (key_at (earlier ++ key ∷ keys) (length earlier)) (key_at (earlier ++ key ∷ keys) j)) ≡ true =
    (ap (λ w. are_equal (compare w (key_at (earlier ++ key ∷ keys) j))) at ∙ ap (λ w. are_equal (compare key w)) there) ∙ t in
    let same = d.once (length earlier) j (omega arith) (omega arith) q in absurd (omega arith))
    (λ f. f)) in
    rw (some, new) (stand (earlier ++ key ∷ []) keys (subst Differ (sym (append_assoc earlier (key ∷ []) keys)) d))

-- ---- the key of a table

pub holds_differ : (columns : List ColumnDef) (key : Option ℕ) (rows : List (List Cell)) → key_fault (stored []) columns key rows ≡ None → KeysDiffer key rows
holds_differ columns None rows e = tt
holds_differ columns (Some k) rows e = differ (keys_in k rows) (none_inside (broken_fault (key_name (stored []) columns k)) (broken_stored [] (keys_in k rows)) e)

pub differ_holds : (columns : List ColumnDef) (key : Option ℕ) (rows : List (List Cell)) → KeysDiffer key rows → key_fault (stored []) columns key rows ≡ None
differ_holds columns None rows d = refl
differ_holds columns (Some k) rows d = ap (option_map (broken_fault (key_name (stored []) columns k))) (stand [] (keys_in k rows) d)

pub key_is_exact : KeyIsExact
key_is_exact given def rows = (
  λ e. holds_differ def.columns def.key rows (sym (key_given given def.columns def.key rows) ∙ e),
  λ d. key_given given def.columns def.key rows ∙ differ_holds def.columns def.key rows d,
)

pub all_differ : (tables : List (Table Cell)) → AllHold tables → AllDiffer tables
all_differ [] h = tt
all_differ (t ∷ tables) h = (holds_differ t.def.columns t.def.key t.rows h.0, all_differ tables h.1)

-- ---- in another order

module _ (place : ℕ) (places : List ℕ) (rows : List (List Cell)) (all : IsPermutationOf places (length rows)) where
  at : (i : ℕ) → i < length places → key_at (keys_in place (rows_at places rows)) i ≡ key_at (keys_in place rows) (slice_index_or places i 0)
  at i h =
      let within = all.below i h in
      get_or-map (λ row. slice_index_or row place cell.Null) (rows_at places rows) i [] cell.Null (let l = length-map places (λ p. slice_index_or rows p []) in omega arith)
      ∙ (ap (λ row. slice_index_or row place cell.Null) (get_or-map (λ p. slice_index_or rows p []) places i 0 [] h)
      ∙ sym (get_or-map (λ row. slice_index_or row place cell.Null) rows (slice_index_or places i 0) [] cell.Null within))

  many : length (keys_in place (rows_at places rows)) ≡ length places
  many = length-map (rows_at places rows) (λ row. slice_index_or row place cell.Null) ∙ length-map places (λ p. slice_index_or rows p [])

  old : length (keys_in place rows) ≡ length rows
  old = length-map rows (λ row. slice_index_or row place cell.Null)

  below : (i : ℕ) → i < length places → slice_index_or places i 0 < length (keys_in place rows)
  below i h = subst (λ w. slice_index_or places i 0 < w) (sym old) (all.below i h)

  differ_at : Differ (keys_in place rows) → Differ (keys_in place (rows_at places rows))
  differ_at d = record {
    some = λ i h. let w = subst (λ n. i < n) many h in ap is_null (at i w) ∙ d.some (slice_index_or places i 0) (below i w);
    once = λ i j h g q.
        let w = subst (λ n. i < n) many h in
        let v = subst (λ n. j < n) many g in
        let r = sym (ap (λ x. are_equal (compare x (key_at (keys_in place (rows_at places rows)) j))) (at i w) ∙ ap (λ x. are_equal (compare (key_at (keys_in place rows) (slice_index_or places i 0)) x)) (at j v)) ∙ q in
        all.once i j w v (d.once (slice_index_or places i 0) (slice_index_or places j 0) (below i w) (below j v) r);
  }

pub reordered_holds : (def : TableDef) (places : List ℕ) (rows : List (List Cell)) → IsPermutationOf places (length rows) → KeyHolds def rows → KeyHolds def (rows_at places rows)
reordered_holds def places rows all h = by def.key (holds_differ def.columns def.key rows h)
  where
    by : (key : Option ℕ) → KeysDiffer key rows → key_fault (stored []) def.columns key (rows_at places rows) ≡ None
    by None d = refl
    by (Some k) d = differ_holds def.columns (Some k) (rows_at places rows) (differ_at k places rows all d)
