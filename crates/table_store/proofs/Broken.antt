-- The first key that can't stand.
use Rattle.std.proofs.Common.{◌≡◌, Bool, true, false, ◌||◌, cond, List, [], ◌∷◌, ◌++◌, map, refl, sym, ap, ◌∙◌, append_assoc, Option, Some, None}
use Rattle.std.specs.Prelude.{filter}
use Rattle.std.specs.List.{list_any}
use Rattle.sql_tree.specs.declared.condition.Operand.{Operand}
use Rattle.table_machine.specs.declared.cell.Cell.{Cell}
use Rattle.table_machine.specs.declared.table.BrokenKey.{BrokenKey}
use Rattle.table_machine.specs.declared.table.BrokenKey.TheVariants as broken
use Rattle.table_machine.specs.Faults.{are_equal, broken_behind}
use Rattle.table_machine.specs.Stored.{stored, compare, is_null}
use Rattle.table_store.specs.Keys.{broken_stored}

pub plus_nil : (xs : List Cell) → xs ++ [] ≡ xs
plus_nil [] = refl
plus_nil (x ∷ xs) = ap (λ w. x ∷ w) (plus_nil xs)

-- whatever is given for parameters
pub broken_given : (given : List Operand) (earlier keys : List Cell) → broken_behind (stored given) earlier keys ≡ broken_stored earlier keys
broken_given given earlier [] = refl
broken_given given earlier (key ∷ keys) = ap (λ w. cond (is_null key) (Some broken.Null) (cond (list_any (λ c. are_equal (compare key c)) earlier) (Some broken.Twice) w)) (broken_given given (earlier ++ key ∷ []) keys)

-- what a key that stands tells
pub record Stands (earlier : List Cell) (key : Cell) (keys : List Cell) : Type 0 where
  pub some : is_null key ≡ false
  pub new : list_any (λ c. are_equal (compare key c)) earlier ≡ false
  pub rest : broken_stored (earlier ++ key ∷ []) keys ≡ None

parts : (a b : Bool) (rest : Option BrokenKey) → cond a (Some broken.Null) (cond b (Some broken.Twice) rest) ≡ None → (a ≡ false) × (b ≡ false) × (rest ≡ None)
parts true b rest e = cc
parts false true rest e = cc
parts false false rest e = (refl, refl, e)

pub stands : (earlier : List Cell) (key : Cell) (keys : List Cell) → broken_stored earlier (key ∷ keys) ≡ None → Stands earlier key keys
stands earlier key keys e =
    let p = parts (is_null key) (list_any (λ c. are_equal (compare key c)) earlier) (broken_stored (earlier ++ key ∷ []) keys) e in
    record { some = p.0; new = p.1; rest = p.2 }

-- behind keys that stand
pub broken_append : (earlier xs ys : List Cell) → broken_stored earlier xs ≡ None → broken_stored earlier (xs ++ ys) ≡ broken_stored (earlier ++ xs) ys
broken_append earlier [] ys e = ap (λ w. broken_stored w ys) (sym (plus_nil earlier))
broken_append earlier (x ∷ xs) ys e =
    let s = stands earlier x xs e in
    (rw (s.some, s.new) (broken_append (earlier ++ x ∷ []) xs ys s.rest)) ∙ ap (λ w. broken_stored w ys) (append_assoc earlier (x ∷ []) xs)

-- ---- fewer keys stand too

-- no key equals one of the fewer that equals none of the more
abbrev IsFewer : List Cell → List Cell → Type 0
IsFewer less more = (key : Cell) → list_any (λ c. are_equal (compare key c)) more ≡ false → list_any (λ c. are_equal (compare key c)) less ≡ false

neither : (a b : Bool) → (a || b) ≡ false → (a ≡ false) × (b ≡ false)
neither true b e = cc
neither false b e = (refl, e)

any_append : (p : Cell → Bool) (xs : List Cell) (y : Cell) (more : List Cell) → list_any p (xs ++ y ∷ more) ≡ false → (list_any p (xs ++ more) ≡ false) × (p y ≡ false)
any_append p [] y more e = let h = neither (p y) (list_any p more) e in (h.1, h.0)
any_append p (x ∷ xs) y more e =
    let h = neither (p x) (list_any p (xs ++ y ∷ more)) e in let r = any_append p xs y more h.1 in
    (rw h.0 r.0, r.1)

any_join : (p : Cell → Bool) (xs : List Cell) (y : Cell) → list_any p xs ≡ false → p y ≡ false → list_any p (xs ++ y ∷ []) ≡ false
any_join p [] y e f = rw f refl
any_join p (x ∷ xs) y e f = let h = neither (p x) (list_any p xs) e in rw h.0 (any_join p xs y h.1 f)

fewer_both : (less more : List Cell) (key : Cell) → IsFewer less more → IsFewer (less ++ key ∷ []) (more ++ key ∷ [])
fewer_both less more key few other e =
    let p = any_append (λ c. are_equal (compare other c)) more key [] e in
    let kept : list_any (λ c. are_equal (compare other c)) more ≡ false = ap (λ w. list_any (λ c. are_equal (compare other c)) w) (sym (plus_nil more)) ∙ p.0 in
    any_join (λ c. are_equal (compare other c)) less key (few other kept) p.1

fewer_one : (less more : List Cell) (key : Cell) → IsFewer less more → IsFewer less (more ++ key ∷ [])
fewer_one less more key few other e =
    let p = any_append (λ c. are_equal (compare other c)) more key [] e in
    few other (ap (λ w. list_any (λ c. are_equal (compare other c)) w) (sym (plus_nil more)) ∙ p.0)

kept_step : {R : Type 0} (key_of : R → Cell) (less : List Cell) (row : R) (kept : List R) (b : Bool)
    → is_null (key_of row) ≡ false → list_any (λ c. are_equal (compare (key_of row) c)) less ≡ false
    → broken_stored (less ++ key_of row ∷ []) (map key_of kept) ≡ None → broken_stored less (map key_of kept) ≡ None
    → broken_stored less (map key_of (cond b (row ∷ kept) kept)) ≡ None
kept_step key_of less row kept true some new with without = rw (some, new) with
kept_step key_of less row kept false some new with without = without

-- the keys of rows that are kept stand where all do
pub broken_kept : {R : Type 0} (key_of : R → Cell) (keep : R → Bool) (less more : List Cell) → IsFewer less more → (rows : List R)
    → broken_stored more (map key_of rows) ≡ None → broken_stored less (map key_of (filter keep rows)) ≡ None
broken_kept key_of keep less more few [] e = refl
broken_kept key_of keep less more few (row ∷ rows) e =
    let s = stands more (key_of row) (map key_of rows) e in
    kept_step key_of less row (filter keep rows) (keep row) s.some (few (key_of row) s.new)
    (broken_kept key_of keep (less ++ key_of row ∷ []) (more ++ key_of row ∷ []) (fewer_both less more (key_of row) few) rows s.rest)
    (broken_kept key_of keep less (more ++ key_of row ∷ []) (fewer_one less more (key_of row) few) rows s.rest)

pub filter_holds : {R : Type 0} (key_of : R → Cell) (keep : R → Bool) (rows : List R) → broken_stored [] (map key_of rows) ≡ None → broken_stored [] (map key_of (filter keep rows)) ≡ None
filter_holds key_of keep rows e = broken_kept key_of keep [] [] (λ key none. none) rows e
