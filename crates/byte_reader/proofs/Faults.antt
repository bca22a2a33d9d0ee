-- A field that can't be read is a fault at its first byte.
use Rattle.std.proofs.Common.{◌≡◌, ℕ, ◌⊎◌, Bool, true, false, cond, eqb, ltb, List, length, take, drop, Option, Some, None, Result, Ok, Err, refl, sym, ap, inl, inr}
use Rattle.std.specs.List.{position}
use Rattle.std.specs.Int.{Width, byte_len, from_be_bytes}
use Rattle.byte_reader.specs.Fields.{◌>>=◌, be_number_at, bytes_at, around, str_at, alone}

abbrev failed : {A : Type 0} → ℕ → Result A ℕ
failed left = Err left

pub err_is : {A : Type 0} (l left : ℕ) → failed {A = A} l ≡ failed left → l ≡ left
err_is l left e = cc

-- a chain that failed, at its first step or behind it
pub bind_err : {A B : Type 0} (r : Result A ℕ) (f : A → Result B ℕ) (left : ℕ) → (r >>= f) ≡ Err left → (r ≡ Err left) ⊎ ((x : A) × (r ≡ Ok x) × (f x ≡ Err left))
bind_err (Ok x) f left e = inr (x, refl, e)
bind_err {A} {B} (Err l) f left e = inl (ap (λ (n : ℕ). failed {A = A} n) (err_is {A = B} l left e))

-- a test that failed
pub guard_err : {A : Type 0} (b : Bool) (d : ℕ) (x : A) (left : ℕ) → cond b (Err d) (Ok x) ≡ Err left → left ≡ d
guard_err {A} true d x left h = sym (err_is {A = A} d left h)
guard_err false d x left h = absurd cc

-- a test that kept nothing
pub kept_err : {A : Type 0} (b : Bool) (d : ℕ) (x : A) (left : ℕ) → cond b (Ok x) (Err d) ≡ Err left → left ≡ d
kept_err true d x left h = absurd cc
kept_err {A} false d x left h = sym (err_is {A = A} d left h)

pub number_left : (w : Width) (bytes : List ℕ) (left : ℕ) → be_number_at w bytes ≡ Err left → left ≡ length bytes
number_left w bytes left e = guard_err (ltb (length bytes) (byte_len w)) (length bytes) (from_be_bytes w (take (byte_len w) bytes), drop (byte_len w) bytes) left e

pub bytes_left : (n : ℕ) (bytes : List ℕ) (left : ℕ) → bytes_at n bytes ≡ Err left → left ≡ length bytes
bytes_left n bytes left e = guard_err (ltb (length bytes) n) (length bytes) (take n bytes, drop n bytes) left e

pub str_left : (bytes : List ℕ) (left : ℕ) → str_at bytes ≡ Err left → left ≡ length bytes
unfolding str_at
str_left bytes left e = by (position (λ (b : ℕ). eqb b 0) bytes) e where
  by : (o : Option ℕ) → around bytes o ≡ Err left → left ≡ length bytes
  by None h = sym (err_is {A = List ℕ × List ℕ} (length bytes) left h)
  by (Some i) h = absurd cc

-- bytes behind a value that must be the last
pub alone_err : {A : Type 0} (x : A × List ℕ) (left : ℕ) → alone x ≡ Err left → left ≡ length x.1
alone_err {A} x left e = kept_err (eqb (length x.1) 0) (length x.1) x.0 left e
