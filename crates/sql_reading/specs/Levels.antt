-- Reading a condition with what is open on a stack: what was read so far, as derivations, and what of it the stack holds.
use Rattle.std.specs.Prelude.{ℕ, nat_le, if◌then◌else◌, zero, suc, ◌+◌, ◌≡◌, ◌≤◌, ◌<◌, max, List, [], ◌∷◌, map, length, Result, Ok, Err}
use Rattle.sql_tokens.specs.declared.keyword.Keyword.{Keyword}
use Rattle.sql_tokens.specs.declared.keyword.Keyword.TheVariants as word
use Rattle.sql_tokens.specs.declared.sign.Sign.TheVariants as sign
use Rattle.sql_tokens.specs.declared.token.Token.{Token}
use Rattle.sql_tree.specs.declared.condition.Cond as trees
use Rattle.sql_tree.specs.declared.condition.Cond.TheVariants as tree
use Rattle.sql_tree.specs.Conditions as conditions
use Rattle.sql_tree.specs.Conditions.{Cond, Conj, Neg, cond_tree, cond_open, conj_parts, conj_open, neg_tree, neg_open, and_of}
use Rattle.sql_reading.specs.declared.levels.Level.{Level}
use Rattle.sql_reading.specs.declared.levels.Depth.{Depth}
use Rattle.sql_reading.specs.declared.levels.Next.{Next}
use Rattle.sql_reading.specs.declared.levels.Next.TheVariants.{Part, Done}
use Rattle.sql_reading.specs.declared.made.Nested.{Nested}
use Rattle.sql_reading.specs.declared.stop.Stop.{Stop}
use Rattle.sql_reading.specs.declared.stop.Stop.TheVariants as stop
use Rattle.sql_readers.specs.Readers.{Read, Reader, after, both, repeated}
use Rattle.sql_readers.specs.Looks.{is_word}
use Rattle.sql_readers.specs.Productions.{word_reader, sign_reader, conj_of, cond_of, conj, disjunction, neg, cond}
use Rattle.sql_readers.specs.Reads.{Reads}

-- what was read between two parentheses, or of the whole condition: the parts of the OR, those of the AND, and the NOTs before the next part
pub record Parts : Type 0 where
  pub ors : List Conj
  pub ands : List Neg
  pub nots : ℕ

-- before anything is read
abbrev pub nothing : Parts
nothing = record { ors = []; ands = []; nots = 0 }

-- a conjunction of the parts so far, one more, and those behind an AND each
abbrev pub conj_from : List Neg → Neg → List (Unit {0} × Neg) → Conj
conj_from [] n more = conj_of n more
conj_from (first ∷ rest) n more = conditions.and first (conj_from rest n more)

abbrev pub cond_from : List Conj → Conj → List (Unit {0} × Conj) → Cond
cond_from [] c more = cond_of c more
cond_from (first ∷ rest) c more = conditions.or first (cond_from rest c more)

-- NOTs before a part
abbrev pub nots_before : ℕ → Neg → Neg
nots_before zero x = x
nots_before (suc n) x = nots_before n (conditions.not x)

-- ---- what the stack holds

abbrev pub nots_of : ℕ → trees.Cond → trees.Cond
nots_of zero x = x
nots_of (suc n) x = nots_of n (tree.Not x)

abbrev pub conj_tree : Conj → trees.Cond
conj_tree c = and_of (conj_parts c)

abbrev pub held : Parts → Level
held p = record { ors = map conj_tree p.ors; ands = map neg_tree p.ands; nots = p.nots }

-- ---- how many are open

abbrev pub most : {A : Type 0} → (A → ℕ) → List A → ℕ
most f [] = 0
most f (x ∷ xs) = max (f x) (most f xs)

abbrev pub parts_open : Parts → ℕ
parts_open p = max (most conj_open p.ors) (most neg_open p.ands)

-- around a level, the innermost first
abbrev pub base : List Parts → ℕ
base [] = 0
base (p ∷ around) = base around + p.nots + 1

abbrev pub reached : List Parts → Parts → ℕ
reached [] here = max here.nots (parts_open here)
reached (p ∷ around) here = max (reached around p) (base (p ∷ around) + max here.nots (parts_open here))

-- ---- what the rest of the text makes of what was read

-- given enough to go, however deep and however far
pub record Wide {A : Type 0} (p : ℕ → Reader A) (ts : List Token) (given : Read A) : Type 0 where
  pub enough : ℕ
  pub gives : (m n : ℕ) → enough ≤ m → enough ≤ n → p m n ts ≡ given

pub record WideMany {A : Type 0} (w : Keyword) (p : ℕ → Reader A) (ts : List Token) (given : Read (List (Unit {0} × A))) : Type 0 where
  pub enough : ℕ
  pub gives : (m n k : ℕ) → enough ≤ m → enough ≤ n → enough ≤ k → repeated (is_word w) (both (word_reader w) (p m)) k n ts ≡ given

abbrev pub negs : ℕ → Reader Neg
negs m n = neg m

abbrev pub conjs : ℕ → Reader Conj
conjs m = conj (negs m)

abbrev pub conds : ℕ → Reader Cond
conds m = disjunction (negs m)

-- a part was read so, and with those behind a word each it makes this
abbrev pub Rest : {A B : Type 0} → Keyword → (ℕ → Reader A) → (A → List (Unit {0} × A) → B) → Read A → Read B → Type 0
Rest w p from (Err left) given = given ≡ Err left
Rest {A} w p from (Ok x) given = (L : Read (List (Unit {0} × A))) × WideMany w p x.1 L × (given ≡ after (λ more left. Ok (from x.0 more, left)) L)

abbrev pub nots_read : ℕ → Read Neg → Read Neg
nots_read n r = after (λ x left. Ok (nots_before n x, left)) r

abbrev pub LevelIs : Parts → Read Neg → Read Cond → Type 0
LevelIs here r given = (C : Read Conj) × Rest word.And negs (conj_from here.ands) (nots_read here.nots r) C × Rest word.Or conjs (cond_from here.ors) C given

abbrev pub closed : Read Cond → Read Neg
closed r = after (λ d left. after (λ x rest. Ok (conditions.parens d, rest)) (sign_reader sign.Close 0 left)) r

-- the next part is read so, and the whole so
abbrev pub Finish : List Parts → Parts → Read Neg → Read Cond → Type 0
Finish [] here r given = LevelIs here r given
Finish (p ∷ around) here r given = (D : Read Cond) × LevelIs here r D × Finish around p (closed D) given

-- what is left is owed: a part comes
abbrev pub Owes : List Token → List Parts → Parts → List Token → Type 0
Owes whole around here ts = (r : Read Neg) → Wide negs ts r → (given : Read Cond) → Finish around here r given → Wide conds whole given

-- a part was read
abbrev pub OwesRest : List Token → List Parts → Parts → Neg → List Token → Type 0
OwesRest whole around here x ts = (given : Read Cond) → Finish around here (Ok (x, ts)) given → Wide conds whole given

-- ---- the stack

abbrev pub level_nots : Level → ℕ
level_nots l = l.nots

abbrev pub parts_nots : Parts → ℕ
parts_nots p = p.nots

-- the outer levels, the innermost first, and the level stand for what was read
pub record Stands (outer : List Level) (level : Level) (depth : Depth) (around : List Parts) (here : Parts) : Type 0 where
  pub nots_around : map level_nots outer ≡ map parts_nots around
  pub nots_here : level.nots ≡ here.nots
  pub trees_around : depth.deepest ≤ 128 → outer ≡ map held around
  pub trees_here : depth.deepest ≤ 128 → level ≡ held here
  pub count : depth.count ≡ base around + here.nots

-- before a part
pub record Before (whole : List Token) (outer : List Level) (level : Level) (depth : Depth) (ts : List Token) : Type 0 where
  pub around : List Parts
  pub here : Parts
  pub stands : Stands outer level depth around here
  pub deepest : depth.deepest ≡ reached around here
  pub owes : Owes whole around here ts

-- behind a part
pub record Behind (whole : List Token) (outer : List Level) (level : Level) (depth : Depth) (part : trees.Cond) (ts : List Token) : Type 0 where
  pub around : List Parts
  pub here : Parts
  pub stands : Stands outer level depth around here
  pub by : Neg
  pub is_part : depth.deepest ≤ 128 → part ≡ neg_tree by
  pub deepest : depth.deepest ≡ max (reached around here) (base around + here.nots + neg_open by)
  pub owes : OwesRest whole around here by ts

-- the condition, where it is kept
abbrev pub kept_as : Depth → trees.Cond → Nested
kept_as depth c = record { cond = (if nat_le depth.deepest 128 then c else tree.And []); deepest = depth.deepest }

-- the whole was read
pub record IsRead (whole : List Token) (depth : Depth) (tree : trees.Cond) (ts : List Token) : Type 0 where
  pub by : Cond
  pub reads : Reads cond whole (Ok (by, ts))
  pub deepest : depth.deepest ≡ cond_open by
  pub is_tree : depth.deepest ≤ 128 → tree ≡ cond_tree by

-- what comes behind a part: another part, or nothing, or what does not fit
abbrev pub Settles : List Level → Level → Depth → trees.Cond → List Token → Result Next Stop → List Level → Depth → List Token → Type 0
Settles outer level depth part old (Ok (Part next)) outer' depth' new =
    (length new < length old) × ((whole : List Token) → Behind whole outer level depth part old → Before whole outer' next depth' new)
Settles outer level depth part old (Ok (Done tree)) outer' depth' new = (whole : List Token) → Behind whole outer level depth part old → IsRead whole depth' tree new
Settles outer level depth part old (Err stop.Syntax) outer' depth' new = (whole : List Token) → Behind whole outer level depth part old → Reads cond whole (Err new)
Settles outer level depth part old (Err stop.NoMemory) outer' depth' new = Unit {0}
