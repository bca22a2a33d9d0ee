-- Records by their fronts and seals.
use Rattle.std.proofs.Common.{◌≡◌, ℕ, ◌+◌, ◌≤◌, List, [], ◌++◌, length, take, Option, Some, None, Result, Ok, Err, IfOk, IfSome, sym, ap, subst, ◌∙◌, arith}
use Rattle.std.specs.Int.{w64, to_le_bytes, to_be_bytes}
use Rattle.std.proofs.lemmas.List.{take_at, length-append}
use Rattle.acra_base.specs.declared.no_memory.NoMemory.{NoMemory}
use Rattle.byte_reader.proofs.Steps.{ok_is}
use Rattle.token_rule.specs.Rule.{Want}
use Rattle.token_records.specs.declared.record.Record.{Record}
use Rattle.token_records.specs.Records.{Sealing, record_head, IsRecord, ReadsAs}
use Rattle.token_records.specs.Reading.{Front, want_of, Seals, front_at}
use Rattle.token_records.proofs.Fronts.{IsFront, front_again}

head_length : (want : Want) (serial token : ℕ) → length (record_head want serial token) ≡ 19 + length want.owner
head_length want serial token =
    omega (arith, length-append want.owner (to_le_bytes w64 serial ++ to_be_bytes w64 token), length-append (to_le_bytes w64 serial) (to_be_bytes w64 token))

-- how long a record is, at least
pub front_long : (bytes : List ℕ) (front : Front) (seal : List ℕ) → IsFront bytes front seal → 19 + length front.owner ≤ length bytes
front_long bytes front seal f =
    let head = record_head (want_of front []) front.serial front.token in
    omega (arith, ap length f.made, length-append head (front.nonce ++ seal), head_length (want_of front []) front.serial front.token)

head_is : (bytes : List ℕ) (want : Want) (serial token : ℕ) (rest : List ℕ) → bytes ≡ record_head want serial token ++ rest → take (19 + length want.owner) bytes ≡ record_head want serial token
head_is bytes want serial token rest made = ap (take (19 + length want.owner)) made ∙ take_at (record_head want serial token) rest (19 + length want.owner) (head_length want serial token)

-- a front with the seal of a plaintext behind it is a record
pub front_record : (sealed : Sealing) (store_key bytes : List ℕ) (front : Front) (seal plain : List ℕ) → IsFront bytes front seal → Seals sealed store_key (take (19 + length front.owner) bytes) seal front plain
    → IsRecord sealed store_key bytes (want_of front plain) front.serial front.token
front_record sealed store_key bytes front seal plain f s =
    let head = record_head (want_of front plain) front.serial front.token in
    let told : seal ≡ sealed store_key front.nonce head plain =
    s.made ∙ ap (λ (h : List ℕ). sealed store_key front.nonce h plain) (head_is bytes (want_of front plain) front.serial front.token (front.nonce ++ seal) f.made) in
    record {
      nonce = front.nonce;
      full = f.full;
      is = s.is;
      fits = f.fits;
      within = f.within;
      made = f.made ∙ ap (λ (r : List ℕ). head ++ (front.nonce ++ r)) told;
    }

-- what an answer found for the front, it found for the bytes
pub found_record : (sealed : Sealing) (store_key bytes : List ℕ) (front : Front) (seal : List ℕ) (result : Result (Option Record) NoMemory) → IsFront bytes front seal
    → IfOk result (λ found. IfSome found (λ r. Seals sealed store_key (take (19 + length front.owner) bytes) seal front r.want.plain × (r.want ≡ want_of front r.want.plain) × (r.serial ≡ front.serial) × (r.token ≡ front.token)))
    → IfOk result (λ found. IfSome found (λ r. IsRecord sealed store_key bytes r.want r.serial r.token))
found_record sealed store_key bytes front seal (Ok (Some r)) f h =
    told r.want (want_of front r.want.plain) r.serial front.serial r.token front.token h.1 h.2 h.3 (front_record sealed store_key bytes front seal r.want.plain f h.0)
  where
    told : (w v : Want) (s u t n : ℕ) → w ≡ v → s ≡ u → t ≡ n → IsRecord sealed store_key bytes v u n → IsRecord sealed store_key bytes w s t
    told w v s u t n p q o r = rw (p, q, o) r
found_record sealed store_key bytes front seal (Ok None) f h = tt
found_record sealed store_key bytes front seal (Err fault) f h = tt

-- what the front of a record is
abbrev pub front_in : Want → ℕ → ℕ → List ℕ → Front
front_in want serial token nonce = record { kind = want.kind; consistent = want.consistent; owner = want.owner; serial = serial; token = token; nonce = nonce }

pub record_front : (sealed : Sealing) (store_key bytes : List ℕ) (want : Want) (serial token : ℕ) (r : IsRecord sealed store_key bytes want serial token)
    → front_at bytes ≡ Ok (front_in want serial token r.nonce, sealed store_key r.nonce (record_head want serial token) want.plain)
record_front sealed store_key bytes want serial token r =
    ap front_at r.made ∙ front_again want serial token r.nonce (sealed store_key r.nonce (record_head want serial token) want.plain) r.fits r.within r.full

record_seals : (sealed : Sealing) (store_key bytes : List ℕ) (want : Want) (serial token : ℕ) (r : IsRecord sealed store_key bytes want serial token)
    → Seals sealed store_key (take (19 + length want.owner) bytes) (sealed store_key r.nonce (record_head want serial token) want.plain) (front_in want serial token r.nonce) want.plain
record_seals sealed store_key bytes want serial token r = record {
  is = r.is;
  made = ap (λ (h : List ℕ). sealed store_key r.nonce h want.plain) (sym (head_is bytes want serial token (r.nonce ++ sealed store_key r.nonce (record_head want serial token) want.plain) r.made));
}

-- an answer for the front is one for the record
pub record_reads : (sealed : Sealing) (store_key bytes : List ℕ) (front : Front) (seal : List ℕ) (result : Result (Option Record) NoMemory) → front_at bytes ≡ Ok (front, seal)
    → ((plain : List ℕ) → Seals sealed store_key (take (19 + length front.owner) bytes) seal front plain → ReadsAs result (want_of front plain) front.serial front.token)
    → (want : Want) (serial token : ℕ) → IsRecord sealed store_key bytes want serial token → ReadsAs result want serial token
record_reads sealed store_key bytes front seal result e h want serial token r =
    let found : Front × List ℕ = (front, seal) in
    let made : Front × List ℕ = (front_in want serial token r.nonce, sealed store_key r.nonce (record_head want serial token) want.plain) in
    let same : found ≡ made = ok_is found made (sym e ∙ record_front sealed store_key bytes want serial token r) in
    subst (λ (y : Front × List ℕ). (plain : List ℕ) → Seals sealed store_key (take (19 + length y.0.owner) bytes) y.1 y.0 plain → ReadsAs result (want_of y.0 plain) y.0.serial y.0.token) same h
    want.plain (record_seals sealed store_key bytes want serial token r)

-- bytes without a front are no record
pub no_record : (sealed : Sealing) (store_key bytes : List ℕ) (left : ℕ) → front_at bytes ≡ Err left → (want : Want) (serial token : ℕ) → IsRecord sealed store_key bytes want serial token → ⊥
no_record sealed store_key bytes left e want serial token r =
    let made : Front × List ℕ = (front_in want serial token r.nonce, sealed store_key r.nonce (record_head want serial token) want.plain) in
    let both : ◌≡◌ {A = Result (Front × List ℕ) ℕ} (Err left) (Ok made) = sym e ∙ record_front sealed store_key bytes want serial token r in
    absurd cc

-- the same bytes are the record of one token
pub record_once : (sealed : Sealing) (opened : List ℕ → List ℕ → List ℕ → List ℕ → Option (List ℕ)) → ((k n e p : List ℕ) → opened k n e (sealed k n e p) ≡ Some p) → (store_key bytes : List ℕ) (want other : Want) (serial later token another : ℕ)
    → IsRecord sealed store_key bytes want serial token → IsRecord sealed store_key bytes other later another → (want ≡ other) × (serial ≡ later) × (token ≡ another)
record_once sealed opened opens store_key bytes want other serial later token another r s =
    let a : Front × List ℕ = (front_in want serial token r.nonce, sealed store_key r.nonce (record_head want serial token) want.plain) in
    let b : Front × List ℕ = (front_in other later another s.nonce, sealed store_key s.nonce (record_head other later another) other.plain) in
    let same : a ≡ b = ok_is a b (sym (record_front sealed store_key bytes want serial token r) ∙ record_front sealed store_key bytes other later another s) in
    let open_by : Front × List ℕ → Option (List ℕ) = λ y. opened store_key y.0.nonce (record_head (want_of y.0 []) y.0.serial y.0.token) y.1 in
    let plain : ◌≡◌ {A = Option (List ℕ)} (Some want.plain) (Some other.plain) =
    sym (opens store_key r.nonce (record_head want serial token) want.plain) ∙ (ap open_by same ∙ opens store_key s.nonce (record_head other later another) other.plain) in (
      wanted want.plain other.plain a b plain same,
      ap (λ (y : Front × List ℕ). y.0.serial) same,
      ap (λ (y : Front × List ℕ). y.0.token) same,
    )
  where
    wanted : (p q : List ℕ) (a b : Front × List ℕ) → ◌≡◌ {A = Option (List ℕ)} (Some p) (Some q) → a ≡ b → want_of a.0 p ≡ want_of b.0 q
    wanted p q a b e f = cc
