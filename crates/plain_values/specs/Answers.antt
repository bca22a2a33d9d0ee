-- Why a value is refused.
use Rattle.std.specs.Prelude.{ℕ, ℤ, ◌≡◌, ◌++◌, List, Result, Ok, Err}
use Rattle.std.specs.Fmt.{signed_decimal}
use Rattle.plain_values.specs.Values.{Reading, plain, bad, out_of_range, too_long}
use Rattle.plain_values.specs.declared.refusal.ValueRefusal.{ValueRefusal}
use Rattle.plain_values.specs.declared.refusal.ValueRefusal.TheVariants.{Bad, Range, TooLong, NoMemory}

-- why a reading is refused; want of memory is free
abbrev pub IsWhy : Reading → ValueRefusal → Type 0
IsWhy r Bad = r ≡ bad
IsWhy r Range = r ≡ out_of_range
IsWhy r TooLong = r ≡ too_long
IsWhy r NoMemory = Unit {0}

-- a reading appends its plaintext
abbrev pub Appends : Reading → List ℕ → List ℕ → Type 0
Appends (plain t) old new = new ≡ old ++ t
Appends bad old new = ⊥
Appends out_of_range old new = ⊥
Appends too_long old new = ⊥

-- what a call that reads a value answers: the plaintext appended, or the refusal, with nothing appended
abbrev pub Answers : {U : Type 0} → Reading → List ℕ → List ℕ → Result U ValueRefusal → Type 0
Answers r old new (Ok u) = Appends r old new
Answers r old new (Err why) = IsWhy r why × (new ≡ old)

-- a reading is that of a number, or is refused; no memory is needed
abbrev pub IsNumber : Reading → Result ℤ ValueRefusal → Type 0
IsNumber r (Ok n) = r ≡ plain (signed_decimal n)
IsNumber r (Err Bad) = r ≡ bad
IsNumber r (Err Range) = r ≡ out_of_range
IsNumber r (Err TooLong) = ⊥
IsNumber r (Err NoMemory) = ⊥
