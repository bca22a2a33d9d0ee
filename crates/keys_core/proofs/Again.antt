-- A ring that was made by the work keeps the rules of ring files, and its file reads back.
use Rattle.std.proofs.Common.{◌≡◌, ℕ, ◌<◌, ◌+◌, ◌-◌, ◌^◌, ◌||◌, Bool, true, false, if◌then◌else◌, eqb, List, [], ◌∷◌, ◌++◌, length, drop, Option, Some, None, Result, Ok, Err, IfOk, refl, ap, ◌∙◌, arith}
use Rattle.std.specs.List.{AllByRecursion}
use Rattle.std.specs.Ordering.{is_gt}
use Rattle.std.proofs.lemmas.List.{length-take, length-drop}
use Rattle.std.proofs.lemmas.Bool.{eqb-false}
use Rattle.acra_base.specs.Client.{IsClientId}
use Rattle.acra_crypto.specs.Aes.{aes256}
use Rattle.acra_crypto.specs.Gcm.{aes256_gcm, aes256_gcm_opened}
use Rattle.acra_crypto.specs.Sealed.{gcm_opens}
use Rattle.keystore.specs.declared.keys.NewKeys.{NewKeys}
use Rattle.keystore.specs.declared.phase.OldKey.{OldKey}
use Rattle.keystore.specs.declared.refusals.AddRefusal.{AddRefusal}
use Rattle.keystore.specs.Lists.{edited}
use Rattle.keystore.specs.Rings.{RingState, ClientKeys, name_cmp, is_named, is_key, added, without}
use Rattle.keystore.specs.Kept.{IsKept}
use Rattle.keystore.specs.Answers.{Answers, add_refusal, new_client, with_client, with_retired, is_last}
use Rattle.ring_file.specs.Form.{ring_body, ring_file, IsFileRing, IsFileClient, IsFileKey}
use Rattle.ring_file.specs.Files.{file_body}
use Rattle.ring_file.proofs.Sealed.{file_opens}
use Rattle.ring_file.proofs.Bodies.{body_again}
use Rattle.keys_core.specs.Work.{new_keys, placed, read_body}
use Rattle.keys_core.specs.declared.work.Work.{Work}
use Rattle.keys_core.specs.Again.{ReadsBack, HasFile, MakesFile}
use Rattle.ring_file.specs.Master.{master_of}

-- ---- what is kept reads back

opens : (k n e p : List ℕ) → aes256_gcm_opened k n e (aes256_gcm k n e p) ≡ Some p
opens k n e p = gcm_opens (aes256 k) n e p

pub reads_back : (key nonce file : List ℕ) (r : RingState) → length nonce ≡ 12 → IsFileRing r → file ≡ ring_file aes256_gcm key nonce r → ReadsBack key file
reads_back key nonce file r full rules made = record {
  ring = r;
  spells = record { nonce = nonce; full = full; rules = rules; made = made };
  again =
      ap (λ (bytes : List ℕ). read_body (file_body aes256_gcm_opened key bytes)) made
      ∙ (ap read_body (file_opens aes256_gcm aes256_gcm_opened opens key nonce (ring_body r) full) ∙ ap (placed (length (ring_body r))) (body_again r rules));
}

-- ---- a ring with a client more

no_refusal : (some : Bool) (many last : Bool) (exists too_many : AddRefusal) → (if some then Some exists else if many || last then Some too_many else None) ≡ None → last ≡ false
no_refusal true many last exists too_many e = absurd (cc e)
no_refusal false true last exists too_many e = absurd (cc e)
no_refusal false false true exists too_many e = absurd (cc e)
no_refusal false false false exists too_many e = refl

all_added_by : (P : ClientKeys → Type 0) (c d : ClientKeys) (ds rest : List ClientKeys) (b : Bool) → P c → P d → AllByRecursion P ds → AllByRecursion P rest → AllByRecursion P (if b then c ∷ d ∷ ds else d ∷ rest)
all_added_by P c d ds rest true p q h r = (p, (q, h))
all_added_by P c d ds rest false p q h r = (q, r)

all_added : (P : ClientKeys → Type 0) (c : ClientKeys) (ds : List ClientKeys) → P c → AllByRecursion P ds → AllByRecursion P (added c ds)
all_added P c [] p h = (p, tt)
all_added P c (d ∷ ds) p h = all_added_by P c d ds (added c ds) (is_gt (name_cmp d.name c.name)) p h.0 h.1 (all_added P c ds p h.1)

not_last : (n : ℕ) → is_last n ≡ false → n < 2 ^ 64 → n + 1 < 2 ^ 64
not_last n e fits = omega (arith, other n e)
  where
    other : (n : ℕ) → eqb n (2 ^ 64 - 1) ≡ false → n ≡ 2 ^ 64 - 1 → ⊥
    other n e = eqb-false n (2 ^ 64 - 1) e

pub client_file_ring : (r : RingState) (who : List ℕ) (keys : NewKeys) → IsFileRing r → add_refusal r who ≡ None → IsClientId who → length keys.key ≡ 32 → length keys.search ≡ 32 → IsKept (with_client r who keys) → IsFileRing (with_client r who keys)
client_file_ring r who keys is none name key search kept = record {
  kept = kept;
  token_key = is.token_key;
  store_key = is.store_key;
  audit_key = is.audit_key;
  fits = not_last r.next_id (no_refusal _ _ (is_last r.next_id) _ _ none) is.fits;
  clients = all_added IsFileClient (new_client r who keys) r.clients (record { name = name; search = search; key = key; past = tt }) is.clients;
  first_ticket = is.first_ticket;
  none_out = is.none_out;
}

-- ---- a ring with a key less

all_append : {A : Type 0} (P : A → Type 0) (xs ys : List A) → AllByRecursion P xs → AllByRecursion P ys → AllByRecursion P (xs ++ ys)
all_append P [] ys p q = q
all_append P (x ∷ xs) ys p q = (p.0, all_append P xs ys p.1 q)

all_edited_by : {A : Type 0} (P : A → Type 0) (x : A) (made xs rest : List A) (b : Bool) → P x → AllByRecursion P made → AllByRecursion P xs → AllByRecursion P rest → AllByRecursion P (if b then made ++ xs else x ∷ rest)
all_edited_by P x made xs rest true p m h r = all_append P made xs m h
all_edited_by P x made xs rest false p m h r = (p, r)

all_edited : {A : Type 0} (P : A → Type 0) (p : A → Bool) (f : A → List A) → ((x : A) → P x → AllByRecursion P (f x)) → (xs : List A) → AllByRecursion P xs → AllByRecursion P (edited p f xs)
all_edited P p f made [] h = tt
all_edited P p f made (x ∷ xs) h = all_edited_by P x (f x) xs (edited p f xs) (p x) h.0 (made x h.0) h.1 (all_edited P p f made xs h.1)

client_without : (id : ℕ) (c : ClientKeys) → IsFileClient c → IsFileClient (without id c)
client_without id c is = record {
  name = is.name;
  search = is.search;
  key = is.key;
  past = all_edited IsFileKey (is_key id) (λ (k : OldKey). []) (λ k p. tt) c.past is.past;
}

pub retired_file_ring : (r : RingState) (who : List ℕ) (id : ℕ) → IsFileRing r → IsKept (with_retired r who id) → IsFileRing (with_retired r who id)
retired_file_ring r who id is kept = record {
  kept = kept;
  token_key = is.token_key;
  store_key = is.store_key;
  audit_key = is.audit_key;
  fits = is.fits;
  clients = all_edited IsFileClient (is_named who) (λ (c : ClientKeys). without id c ∷ []) (λ c p. (client_without id c p, tt)) r.clients is.clients;
  first_ticket = is.first_ticket;
  none_out = is.none_out;
}

pub answers_none : {T E : Type 0} (o : Option E) (no_memory : E) (P : T → Type 0) (v : T) → Answers o no_memory P (Ok v) → o ≡ None
answers_none {T} {E} (Some why) no_memory P v h = let same : ◌≡◌ {A = Result T E} (Ok v) (Err why) = h in absurd cc
answers_none None no_memory P v h = refl

-- ---- the work's file

pub new_keys_long : (drawn : List ℕ) (keys : NewKeys) → length drawn ≡ 64 → keys ≡ new_keys drawn → (length keys.key ≡ 32) × (length keys.search ≡ 32)
new_keys_long drawn keys long e = (
  omega (arith, ap (λ (k : NewKeys). length k.key) e, length-take 32 drawn),
  omega (arith, ap (λ (k : NewKeys). length k.search) e, length-take 32 (drop 32 drawn), length-drop 32 drawn),
)

pub makes_file : {E : Type 0} (key : List ℕ) (result : Result Work E) → IfOk result (λ w. HasFile key w) → IfOk result (λ w. MakesFile key w)
makes_file key (Ok w) h = λ done. h
makes_file key (Err why) h = tt

pub with_key : {E : Type 0} (m key : List ℕ) (result : Result Work E) → master_of m ≡ Some key → IfOk result (λ w. MakesFile key w) → IfOk result (λ w. (k : List ℕ) × ((master_of m ≡ Some k) × MakesFile k w))
with_key m key (Ok w) e h = (key, (e, h))
with_key m key (Err why) e h = tt
