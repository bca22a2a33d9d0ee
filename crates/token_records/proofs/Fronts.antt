-- What stands before a seal is read as it was written, and what is read is what was written.
use Rattle.std.proofs.Common.{◌≡◌, ℕ, ◌<◌, ◌^◌, Bool, true, false, cond, eqb, ltb, nat_lt, if◌then◌else◌, List, [], ◌∷◌, ◌++◌, length, Option, Some, None, Result, Ok, Err, refl, sym, ap, subst, ◌∙◌, append_assoc, arith}
use Rattle.std.specs.Int.{w64, to_le_bytes, to_be_bytes}
use Rattle.std.proofs.lemmas.Bool.{ltb-true, lt-ltb, eqb-true}
use Rattle.acra_base.specs.declared.kind.ValueKind.{ValueKind}
use Rattle.acra_base.specs.declared.kind.ValueKind.TheVariants as kinds
use Rattle.byte_reader.specs.Fields.{◌>>=◌, byte_at, le_number_at, be_number_at, bytes_at}
use Rattle.byte_reader.proofs.Steps.{bind_ok, ok_is}
use Rattle.byte_reader.proofs.Taken.{IsBytes, Takes, Takes-then, byte_takes, bytes_take, bytes_again}
use Rattle.byte_reader.proofs.Widths.{le_wide64, be_wide64, number_takes, number_again}
use Rattle.token_rule.specs.Rule.{Want, kind_byte, number_count}
use Rattle.token_records.specs.Records.{consistent_byte, record_head}
use Rattle.token_records.specs.Reading.{Front, want_of, kind_of, mark_of, known, kind_at, mark_at, token_at, front_behind, front_at}

known_ok : {A : Type 0} (left : ℕ) (o : Option A) (rest : List ℕ) (x : A × List ℕ) → known left o rest ≡ Ok x → (o ≡ Some x.0) × (rest ≡ x.1)
known_ok left None rest x e = absurd cc
known_ok left (Some y) rest x e = (cc, cc)

-- a test that did not fail
kept_ok : {A : Type 0} (b : Bool) (d : ℕ) (x y : A) → cond b (Ok x) (Err d) ≡ Ok y → (b ≡ true) × (x ≡ y)
kept_ok true d x y e = (refl, cc)
kept_ok false d x y e = absurd cc

kind_read : (b : ℕ) (k : ValueKind) → kind_of b ≡ Some k → b ≡ kind_byte k
kind_read b k e = by (eqb b 0) (eqb b 1) (eqb b 2) (eqb b 3) refl refl refl refl e where
  some : (a c : ValueKind) → ◌≡◌ {A = Option ValueKind} (Some a) (Some c) → kind_byte a ≡ kind_byte c
  some a c h = ap kind_byte cc

  by : (p q r s : Bool) → eqb b 0 ≡ p → eqb b 1 ≡ q → eqb b 2 ≡ r → eqb b 3 ≡ s
      → (if p then Some kinds.Int32 else if q then Some kinds.Int64 else if r then Some kinds.Str else if s then Some kinds.Bytes else None) ≡ Some k → b ≡ kind_byte k
  by true q r s h0 h1 h2 h3 h = eqb-true b 0 h0 ∙ some kinds.Int32 k h
  by false true r s h0 h1 h2 h3 h = eqb-true b 1 h1 ∙ some kinds.Int64 k h
  by false false true s h0 h1 h2 h3 h = eqb-true b 2 h2 ∙ some kinds.Str k h
  by false false false true h0 h1 h2 h3 h = eqb-true b 3 h3 ∙ some kinds.Bytes k h
  by false false false false h0 h1 h2 h3 h = absurd cc

kind_again : (k : ValueKind) → kind_of (kind_byte k) ≡ Some k
kind_again kinds.Int32 = refl
kind_again kinds.Int64 = refl
kind_again kinds.Str = refl
kind_again kinds.Bytes = refl

mark_read : (b : ℕ) (m : Bool) → mark_of b ≡ Some m → b ≡ consistent_byte m
mark_read b m e = by (eqb b 0) (eqb b 1) refl refl e where
  some : (a c : Bool) → ◌≡◌ {A = Option Bool} (Some a) (Some c) → consistent_byte a ≡ consistent_byte c
  some a c h = ap consistent_byte cc

  by : (p q : Bool) → eqb b 0 ≡ p → eqb b 1 ≡ q → (if p then Some false else if q then Some true else None) ≡ Some m → b ≡ consistent_byte m
  by true q h0 h1 h = eqb-true b 0 h0 ∙ some false m h
  by false true h0 h1 h = eqb-true b 1 h1 ∙ some true m h
  by false false h0 h1 h = absurd cc

mark_again : (m : Bool) → mark_of (consistent_byte m) ≡ Some m
mark_again true = refl
mark_again false = refl

-- a byte that stands for something
known_takes : {A : Type 0} (of : ℕ → Option A) (to : A → ℕ) → ((b : ℕ) (x : A) → of b ≡ Some x → b ≡ to x) → (bytes : List ℕ) (x : A × List ℕ) → IsBytes bytes
    → (byte_at bytes >>= λ b. known (length bytes) (of b.0) b.1) ≡ Ok x → Takes bytes (to x.0 ∷ []) x.1
known_takes of to read bytes x fits e =
    let a = bind_ok (byte_at bytes) (λ b. known (length bytes) (of b.0) b.1) x e in
    let k = known_ok (length bytes) (of a.0.0) a.0.1 x a.2 in
    subst (λ (b : ℕ). Takes bytes (b ∷ []) x.1) (read a.0.0 x.0 k.0) (subst (λ (r : List ℕ). Takes bytes (a.0.0 ∷ []) r) k.1 (byte_takes bytes a.0 fits a.1))

token_takes : (kind : ValueKind) (bytes : List ℕ) (x : ℕ × List ℕ) → IsBytes bytes → token_at kind bytes ≡ Ok x → Takes bytes (to_be_bytes w64 x.0) x.1 × (x.0 < number_count kind)
token_takes kind bytes x fits e =
    let a = bind_ok (be_number_at w64 bytes) (λ n. if nat_lt n.0 (number_count kind) then Ok n else Err (length bytes)) x e in
    let k = kept_ok (ltb a.0.0 (number_count kind)) (length bytes) a.0 x a.2 in
    let below : a.0.0 < number_count kind = ltb-true _ _ k.0 in
    subst (λ (y : ℕ × List ℕ). Takes bytes (to_be_bytes w64 y.0) y.1 × (y.0 < number_count kind)) k.1 ((number_takes w64 (2 ^ 64) be_wide64 bytes a.0 fits a.1).0, below)

-- all numbers of tokens have 64 bits
pub count_fits : (kind : ValueKind) (n : ℕ) → n < number_count kind → n < 2 ^ 64
count_fits kinds.Int32 n h = omega arith
count_fits kinds.Int64 n h = h
count_fits kinds.Str n h = h
count_fits kinds.Bytes n h = h

token_again : (kind : ValueKind) (n : ℕ) (rest : List ℕ) → n < number_count kind → token_at kind (to_be_bytes w64 n ++ rest) ≡ Ok (n, rest)
token_again kind n rest h = rw (number_again w64 (2 ^ 64) be_wide64 n rest (count_fits kind n h), lt-ltb _ _ h) refl

-- what stands behind the kind and the mark
abbrev behind : List ℕ → ℕ → ℕ → List ℕ
behind owner serial token = length owner ∷ (owner ++ (to_le_bytes w64 serial ++ to_be_bytes w64 token))

record IsBehind (kind : ValueKind) (consistent : Bool) (bytes : List ℕ) (x : Front × List ℕ) : Type 0 where
  takes : Takes bytes (behind x.0.owner x.0.serial x.0.token ++ x.0.nonce) x.1
  same_kind : kind ≡ x.0.kind
  same_mark : consistent ≡ x.0.consistent
  full : length x.0.nonce ≡ 12
  fits : x.0.serial < 2 ^ 64
  within : x.0.token < number_count kind

behind_takes : (kind : ValueKind) (consistent : Bool) (bytes : List ℕ) (x : Front × List ℕ) → IsBytes bytes → front_behind kind consistent bytes ≡ Ok x → IsBehind kind consistent bytes x
behind_takes kind consistent bytes x fits e =
    let last : List ℕ → ℕ → ℕ → List ℕ × List ℕ → Result (Front × List ℕ) ℕ =
    λ owner serial token nonce. Ok (record { kind = kind; consistent = consistent; owner = owner; serial = serial; token = token; nonce = nonce.0 }, nonce.1) in
    let a = bind_ok (byte_at bytes) (λ count. bytes_at count.0 count.1 >>= λ owner. le_number_at w64 owner.1 >>= λ serial. token_at kind serial.1 >>= λ token. bytes_at 12 token.1 >>= last owner.0 serial.0 token.0) x e in
    let b = bind_ok (bytes_at a.0.0 a.0.1) (λ owner. le_number_at w64 owner.1 >>= λ serial. token_at kind serial.1 >>= λ token. bytes_at 12 token.1 >>= last owner.0 serial.0 token.0) x a.2 in
    let c = bind_ok (le_number_at w64 b.0.1) (λ serial. token_at kind serial.1 >>= λ token. bytes_at 12 token.1 >>= last b.0.0 serial.0 token.0) x b.2 in
    let d = bind_ok (token_at kind c.0.1) (λ token. bytes_at 12 token.1 >>= last b.0.0 c.0.0 token.0) x c.2 in
    let f = bind_ok (bytes_at 12 d.0.1) (last b.0.0 c.0.0 d.0.0) x d.2 in
    let count = byte_takes bytes a.0 fits a.1 in
    let owner = bytes_take a.0.0 a.0.1 b.0 count.rest_fits b.1 in
    let serial = number_takes w64 (2 ^ 64) le_wide64 b.0.1 c.0 owner.0.rest_fits c.1 in
    let token = token_takes kind c.0.1 d.0 serial.0.rest_fits d.1 in
    let nonce = bytes_take 12 d.0.1 f.0 token.0.rest_fits f.1 in
    let made : Front × List ℕ = (record { kind = kind; consistent = consistent; owner = b.0.0; serial = c.0.0; token = d.0.0; nonce = f.0.0 }, f.0.1) in
    subst (IsBehind kind consistent bytes) (ok_is made x f.2) (record {
      takes = joined bytes a.0.0 a.0.1 b.0.0 b.0.1 (to_le_bytes w64 c.0.0) c.0.1 (to_be_bytes w64 d.0.0) d.0.1 f.0.0 f.0.1 count (sym owner.1) owner.0 serial.0 token.0 nonce.0;
      same_kind = refl;
      same_mark = refl;
      full = nonce.1;
      fits = serial.1;
      within = token.1;
    })
  where
    joined : (b0 : List ℕ) (n : ℕ) (b1 o b2 s b3 t b4 m b5 : List ℕ) → Takes b0 (n ∷ []) b1 → n ≡ length o → Takes b1 o b2 → Takes b2 s b3 → Takes b3 t b4 → Takes b4 m b5
        → Takes b0 ((length o ∷ (o ++ (s ++ t))) ++ m) b5
    joined b0 n b1 o b2 s b3 t b4 m b5 p0 e p1 p2 p3 p4 =
        let all : Takes b0 ((n ∷ []) ++ (o ++ (s ++ (t ++ m)))) b5 =
        Takes-then b0 (n ∷ []) b1 (o ++ (s ++ (t ++ m))) b5 p0 (Takes-then b1 o b2 (s ++ (t ++ m)) b5 p1 (Takes-then b2 s b3 (t ++ m) b5 p2 (Takes-then b3 t b4 m b5 p3 p4))) in
        let group : o ++ (s ++ (t ++ m)) ≡ (o ++ (s ++ t)) ++ m = sym (append_assoc o (s ++ t) m ∙ ap (λ (r : List ℕ). o ++ r) (append_assoc s t m)) in
        subst (λ (k : ℕ). Takes b0 (k ∷ ((o ++ (s ++ t)) ++ m)) b5) e (subst (λ (r : List ℕ). Takes b0 (n ∷ r) b5) group all)

-- what was read, whatever the plaintext
pub record IsFront (bytes : List ℕ) (front : Front) (seal : List ℕ) : Type 0 where
  pub made : bytes ≡ record_head (want_of front []) front.serial front.token ++ (front.nonce ++ seal)
  pub full : length front.nonce ≡ 12
  pub fits : front.serial < 2 ^ 64
  pub within : front.token < number_count front.kind

pub front_takes : (bytes : List ℕ) (x : Front × List ℕ) → IsBytes bytes → front_at bytes ≡ Ok x → IsFront bytes x.0 x.1
unfolding front_at
front_takes bytes x fits e =
    let a = bind_ok (kind_at bytes) (λ kind. mark_at kind.1 >>= λ mark. front_behind kind.0 mark.0 mark.1) x e in
    let b = bind_ok (mark_at a.0.1) (λ mark. front_behind a.0.0 mark.0 mark.1) x a.2 in
    let kind = known_takes kind_of kind_byte kind_read bytes a.0 fits a.1 in
    let mark = known_takes mark_of consistent_byte mark_read a.0.1 b.0 kind.rest_fits b.1 in
    let rest = behind_takes a.0.0 b.0.0 b.0.1 x mark.rest_fits b.2 in
    let all = Takes-then bytes (kind_byte a.0.0 ∷ []) a.0.1 (consistent_byte b.0.0 ∷ (behind x.0.owner x.0.serial x.0.token ++ x.0.nonce)) x.1 kind
    (Takes-then a.0.1 (consistent_byte b.0.0 ∷ []) b.0.1 (behind x.0.owner x.0.serial x.0.token ++ x.0.nonce) x.1 mark rest.takes) in
    record {
      made = all.parts ∙ headed (kind_byte a.0.0) (kind_byte x.0.kind) (consistent_byte b.0.0) (consistent_byte x.0.consistent) (behind x.0.owner x.0.serial x.0.token) x.0.nonce x.1 (ap kind_byte rest.same_kind) (ap consistent_byte rest.same_mark);
      full = rest.full;
      fits = rest.fits;
      within = subst (λ (k : ValueKind). x.0.token < number_count k) rest.same_kind rest.within;
    }
  where
    headed : (a a' b b' : ℕ) (c n s : List ℕ) → a ≡ a' → b ≡ b' → (a ∷ (b ∷ (c ++ n))) ++ s ≡ (a' ∷ (b' ∷ c)) ++ (n ++ s)
    headed a a' b b' c n s p q = rw (p, q, append_assoc c n s) refl

pub front_again : (want : Want) (serial token : ℕ) (nonce seal : List ℕ) → serial < 2 ^ 64 → token < number_count want.kind → length nonce ≡ 12
    → front_at (record_head want serial token ++ (nonce ++ seal)) ≡ Ok (record { kind = want.kind; consistent = want.consistent; owner = want.owner; serial = serial; token = token; nonce = nonce }, seal)
unfolding front_at
front_again want serial token nonce seal fits within full =
    let group : (want.owner ++ (to_le_bytes w64 serial ++ to_be_bytes w64 token)) ++ (nonce ++ seal) ≡ want.owner ++ (to_le_bytes w64 serial ++ (to_be_bytes w64 token ++ (nonce ++ seal))) =
    append_assoc want.owner (to_le_bytes w64 serial ++ to_be_bytes w64 token) (nonce ++ seal) ∙ ap (λ (r : List ℕ). want.owner ++ r) (append_assoc (to_le_bytes w64 serial) (to_be_bytes w64 token) (nonce ++ seal)) in
    ap (λ (r : List ℕ). front_at (kind_byte want.kind ∷ (consistent_byte want.consistent ∷ (length want.owner ∷ r)))) group
    ∙ rw (
      kind_again want.kind,
      mark_again want.consistent,
      bytes_again (length want.owner) want.owner (to_le_bytes w64 serial ++ (to_be_bytes w64 token ++ (nonce ++ seal))) refl,
      number_again w64 (2 ^ 64) le_wide64 serial (to_be_bytes w64 token ++ (nonce ++ seal)) fits,
      token_again want.kind token (nonce ++ seal) within,
      bytes_again 12 nonce seal full,
    ) refl
