-- No more is left behind a field, or at a fault, than there was.
use Rattle.std.proofs.Common.{◌≡◌, ℕ, ◌+◌, ◌≤◌, Bool, true, false, cond, eqb, ltb, List, [], ◌∷◌, length, take, drop, Option, Some, None, Result, Ok, Err, arith}
use Rattle.std.specs.List.{position}
use Rattle.std.specs.Int.{Width, byte_len, from_be_bytes, from_le_bytes}
use Rattle.std.proofs.lemmas.List.{length-drop}
use Rattle.byte_reader.specs.Fields.{◌>>=◌, byte_at, number_at, be_number_at, le_number_at, bytes_at, around, str_at, alone}

abbrev pub Within : {A : Type 0} → ℕ → Result (A × List ℕ) ℕ → Type 0
Within n (Ok x) = length x.1 ≤ n
Within n (Err left) = left ≤ n

pub within_more : {A : Type 0} (m n : ℕ) (r : Result (A × List ℕ) ℕ) → m ≤ n → Within m r → Within n r
within_more m n (Ok x) le h = omega arith
within_more m n (Err left) le h = omega arith

-- one step after another
pub within_bind : {A B : Type 0} (n : ℕ) (r : Result (A × List ℕ) ℕ) (f : A × List ℕ → Result (B × List ℕ) ℕ) → Within n r → ((x : A × List ℕ) → Within (length x.1) (f x)) → Within n (r >>= f)
within_bind n (Ok x) f h g = within_more (length x.1) n (f x) h (g x)
within_bind n (Err left) f h g = h

-- a test between two steps
pub within_cond : {A : Type 0} (n : ℕ) (b : Bool) (r s : Result (A × List ℕ) ℕ) → Within n r → Within n s → Within n (cond b r s)
within_cond n true r s p q = p
within_cond n false r s p q = q

pub byte_within : (bytes : List ℕ) → Within (length bytes) (byte_at bytes)
byte_within [] = omega arith
byte_within (b ∷ bytes) = omega arith

pub number_within : (from : Width → List ℕ → ℕ) (w : Width) (bytes : List ℕ) → Within (length bytes) (number_at from w bytes)
number_within from w bytes =
    within_cond (length bytes) (ltb (length bytes) (byte_len w)) (Err (length bytes)) (Ok (from w (take (byte_len w) bytes), drop (byte_len w) bytes)) (omega arith) (omega (arith, length-drop (byte_len w) bytes))

pub be_number_within : (w : Width) (bytes : List ℕ) → Within (length bytes) (be_number_at w bytes)
be_number_within w bytes = number_within from_be_bytes w bytes

pub le_number_within : (w : Width) (bytes : List ℕ) → Within (length bytes) (le_number_at w bytes)
le_number_within w bytes = number_within from_le_bytes w bytes

pub bytes_within : (n : ℕ) (bytes : List ℕ) → Within (length bytes) (bytes_at n bytes)
bytes_within n bytes = within_cond (length bytes) (ltb (length bytes) n) (Err (length bytes)) (Ok (take n bytes, drop n bytes)) (omega arith) (omega (arith, length-drop n bytes))

around_within : (bytes : List ℕ) (o : Option ℕ) → Within (length bytes) (around bytes o)
around_within bytes None = omega arith
around_within bytes (Some i) = omega (arith, length-drop (i + 1) bytes)

pub str_within : (bytes : List ℕ) → Within (length bytes) (str_at bytes)
unfolding str_at
str_within bytes = around_within bytes (position (λ (b : ℕ). eqb b 0) bytes)

err_is : {A : Type 0} (l left : ℕ) → ◌≡◌ {A = Result A ℕ} (Err l) (Err left) → l ≡ left
err_is l left e = cc

-- where all must be read, a fault stands in what there was
pub alone_within : {M : Type 0} (n left : ℕ) (r : Result (M × List ℕ) ℕ) → Within n r → (r >>= alone) ≡ Err left → left ≤ n
alone_within {M} n left (Ok x) h e = by (eqb (length x.1) 0) e where
  by : (b : Bool) → cond b (Ok x.0) (Err (length x.1)) ≡ Err left → left ≤ n
  by true e' = absurd cc
  by false e' = omega (arith, err_is {A = M} (length x.1) left e')
alone_within {M} n left (Err l) h e = omega (arith, err_is {A = M} l left e)
