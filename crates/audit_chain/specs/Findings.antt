-- What the bytes of a log say: its lines from the first on that recompute, and what stands behind them.
use Rattle.std.specs.Prelude.{ℕ, ◌≡◌, ◌==◌, ◌+◌, ◌^◌, ◌<◌, ◌≤◌, ◌⊎◌, nat_lt, List, [], ◌∷◌, ◌++◌, length, take, Bool, true, false, not}
use Rattle.std.specs.List.{list_all, flat_map, AllByRecursion}
use Rattle.audit_chain.specs.Chains.{Recomputes, AllRecompute}

-- the bytes of lines: a newline ends each
abbrev pub written : List (List ℕ) → List ℕ
written lines = flat_map (λ line. line ++ 10 ∷ []) lines

abbrev pub is_one_line : List ℕ → Bool
is_one_line text = list_all (λ b. not (b == 10)) text

pub data Finding : Type 0 where
  -- the log is these lines, which all recompute
  Whole : List (List ℕ) → Finding
  -- the line with this number is the first that doesn't recompute
  Broken : ℕ → Finding
  -- all before the line with this number recompute, and it is longer than 512 bytes
  Long : ℕ → Finding
  -- the log has 2^48 bytes and maybe more, and nothing else is found in them
  Spent : Finding

-- the bytes begin with these lines, which all recompute, and end with this rest
pub record Begins (key bytes : List ℕ) (lines : List (List ℕ)) (rest : List ℕ) : Type 0 where
  pub whole : bytes ≡ written lines ++ rest
  pub single : AllByRecursion (λ line. is_one_line line ≡ true) lines
  pub each : AllRecompute key lines

-- a line follows that doesn't recompute behind these
pub record IsBadLine (key : List ℕ) (lines : List (List ℕ)) (rest : List ℕ) : Type 0 where
  pub line : List ℕ
  pub behind : List ℕ
  pub parts : rest ≡ line ++ 10 ∷ behind
  pub single : is_one_line line ≡ true
  pub short : length line ≤ 512
  pub bad : Recomputes key lines line → ⊥

-- the bytes of a line, without a newline
pub record IsCutShort (rest : List ℕ) : Type 0 where
  pub some : 0 < length rest
  pub single : is_one_line rest ≡ true
  pub short : length rest ≤ 512

-- more than 512 bytes follow without a newline
pub record IsTooLong (rest : List ℕ) : Type 0 where
  pub front : List ℕ
  pub behind : List ℕ
  pub parts : rest ≡ front ++ behind
  pub single : is_one_line front ≡ true
  pub long : length front ≡ 513

-- what is found where bytes are these lines and this rest, and the log ends with them or not
abbrev pub Stops : List ℕ → Bool → List (List ℕ) → List ℕ → Finding → Type 0
Stops key ends lines rest (Whole found) = (ends ≡ true) × (rest ≡ []) × (found ≡ lines)
Stops key ends lines rest (Broken n) = (n ≡ length lines + 1) × (IsBadLine key lines rest ⊎ ((ends ≡ true) × IsCutShort rest))
Stops key ends lines rest (Long n) = (n ≡ length lines + 1) × IsTooLong rest
Stops key ends lines rest Spent = (ends ≡ false) × (is_one_line rest ≡ true) × (length rest ≤ 512)

abbrev pub FindsIn : List ℕ → List ℕ → Bool → Finding → Type 0
FindsIn key bytes ends finding = (lines : List (List ℕ)) × (rest : List ℕ) × Begins key bytes lines rest × Stops key ends lines rest finding

-- what is found in a log under a key, of which 2^48 bytes are read
abbrev pub Finds : List ℕ → List ℕ → Finding → Type 0
Finds key log finding = FindsIn key (take (2 ^ 48) log) (nat_lt (length log) (2 ^ 48)) finding

-- two findings in a log are one
abbrev pub OneFinding : Type 0
OneFinding = (key log : List ℕ) (f g : Finding) → Finds key log f → Finds key log g → f ≡ g
