-- Clients that are read are those that were written, and what was written is read again.
use Rattle.std.proofs.Common.{◌≡◌, ℕ, zero, suc, ◌<◌, ◌≤◌, ◌+◌, ◌-◌, ◌^◌, ◌==◌, ◌&&◌, true, false, eqb, leb, List, [], ◌∷◌, ◌++◌, length, Ok, refl, sym, ap, subst, ◌∙◌, append_assoc, arith}
use Rattle.std.specs.List.{AllByRecursion, flat_map, list_any, list_all}
use Rattle.std.specs.Int.{w16, w64, to_le_bytes}
use Rattle.std.proofs.lemmas.List.{append-nil}
use Rattle.std.proofs.lemmas.Bool.{eqb-true, leb-true, le-leb}
use Rattle.std.specs.declared.cmp.Ordering.TheVariants.{Less}
use Rattle.acra_base.specs.Client.{IsClientId, is_id_byte}
use Rattle.keystore.specs.declared.phase.OldKey.{OldKey}
use Rattle.keystore.specs.Lists.{AscendsBy}
use Rattle.keystore.specs.Rings.{ClientKeys, name_cmp}
use Rattle.keystore.specs.Kept.{IsBefore, IsApart, IsPast, IsKeyed, has_id, has_old}
use Rattle.keystore.proofs.Items.{all_push, ascends_push, all_weaker}
use Rattle.ring_file.specs.Form.{key_bytes, old_bytes, client_bytes, IsFileKey, IsFileClient}
use Rattle.byte_reader.proofs.Steps.{bind_ok, ok_is}
use Rattle.byte_reader.proofs.Taken.{IsBytes, Takes, Takes-then, byte_takes, bytes_take, bytes_again}
use Rattle.byte_reader.proofs.Widths.{le_wide16, number_takes, number_again}
use Rattle.byte_reader.specs.Fields.{◌>>=◌, byte_at, le_number_at, bytes_at}
use Rattle.ring_file.specs.Reading.{name_length_at, key_count_at, current_at, last_of, comes_after, can_be_name, name_at, can_be_id, id_at, old_keys_at, keys_at, client_at, clients_at}
use Rattle.ring_file.proofs.Names.{all_bytes, each_byte}
use Rattle.ring_file.proofs.Judged.{checked_ok, checked_again}
use Rattle.ring_file.proofs.Rules.{both_true, ascends_front, last_below, below_last, id_can, can_id, own_id, old_id, first_old, all_ids, free_apart, apart_free, last_before, before_last, or_second}
use Rattle.ring_file.proofs.Keys.{id_takes, id_again, IsPastOf, olds_take, olds_again}

-- a client that may stand behind these
pub record IsClientOf (next : ℕ) (before : List ClientKeys) (c : ClientKeys) : Type 0 where
  pub file : IsFileClient c
  pub keyed : IsKeyed next 1 c
  pub names : AllByRecursion (λ (d : ClientKeys). IsBefore d c) before
  pub apart : AllByRecursion (λ (d : ClientKeys). IsApart d c) before

-- ---- the name

name_takes : (before : List ClientKeys) (n : ℕ) (bytes : List ℕ) (x : List ℕ × List ℕ) → IsBytes bytes → AscendsBy IsBefore before → 1 ≤ n → n ≤ 64 → name_at before n bytes ≡ Ok x
    → Takes bytes x.0 x.1 × ((length x.0 ≡ n) × (IsClientId x.0 × AllByRecursion (λ (d : ClientKeys). name_cmp d.name x.0 ≡ Less) before))
unfolding name_at
name_takes before n bytes x fits up least most e =
    let g = checked_ok (bytes_at n bytes) (λ name. can_be_name before name.0) (length bytes) x e in
    let t = bytes_take n bytes x fits g.0 in
    let can = both_true (list_all is_id_byte x.0) (comes_after (last_of before) x.0) g.1 in
    (t.0, (t.1, (record { least = omega (arith, t.1); most = omega (arith, t.1); each = each_byte x.0 can.0 }, last_before before x.0 up can.1)))

name_again : (before : List ClientKeys) (name rest : List ℕ) → IsClientId name → AllByRecursion (λ (d : ClientKeys). name_cmp d.name name ≡ Less) before → name_at before (length name) (name ++ rest) ≡ Ok (name, rest)
unfolding name_at
name_again before name rest is after =
    let can : can_be_name before name ≡ true = rw (all_bytes name is.each, before_last before name after) refl in
    checked_again (bytes_at (length name) (name ++ rest)) (λ n. can_be_name before n.0) (length (name ++ rest)) (name, rest) (bytes_again (length name) name rest refl) can

-- ---- the keys

current_takes : (bytes : List ℕ) (x : ℕ × List ℕ) → IsBytes bytes → current_at bytes ≡ Ok x → Takes bytes (0 ∷ []) x.1
current_takes bytes x fits e =
    let g = checked_ok (byte_at bytes) (λ n. n.0 == 0) (length bytes) x e in
    let same : x.0 ≡ 0 = eqb-true x.0 0 g.1 in
    subst (λ (n : ℕ). Takes bytes (n ∷ []) x.1) same (byte_takes bytes x fits g.0)

count_takes : (bytes : List ℕ) (x : ℕ × List ℕ) → IsBytes bytes → key_count_at bytes ≡ Ok x → Takes bytes (to_le_bytes w16 x.0) x.1 × ((1 ≤ x.0) × (x.0 ≤ 256))
count_takes bytes x fits e =
    let g = checked_ok (le_number_at w16 bytes) (λ n. leb 1 n.0 && leb n.0 256) (length bytes) x e in
    let can = both_true (leb 1 x.0) (leb x.0 256) g.1 in
    ((number_takes w16 (2 ^ 16) le_wide16 bytes x fits g.0).0, (leb-true _ _ can.0, leb-true _ _ can.1))

count_again : (n : ℕ) (rest : List ℕ) → 1 ≤ n → n ≤ 256 → key_count_at (to_le_bytes w16 n ++ rest) ≡ Ok (n, rest)
count_again n rest least most =
    let can : (leb 1 n && leb n 256) ≡ true = rw (le-leb _ _ least, le-leb _ _ most) refl in
    checked_again (le_number_at w16 (to_le_bytes w16 n ++ rest)) (λ m. leb 1 m.0 && leb m.0 256) (length (to_le_bytes w16 n ++ rest)) (n, rest) (number_again w16 (2 ^ 16) le_wide16 n rest (omega (arith, most))) can

past_each : (next : ℕ) (before : List ClientKeys) (id : ℕ) (ks : List OldKey) → AllByRecursion (IsPastOf next before) ks → AllByRecursion (λ (k : OldKey). k.id < id) ks → AllByRecursion (IsPast id 1) ks
past_each next before id [] h below = tt
past_each next before id (k ∷ ks) h below =
    let since = h.0.file.since in
    (record { least = h.0.least; older = below.0; since = omega (arith, since) }, past_each next before id ks h.1 below.1)

record KeysTaken (next : ℕ) (before : List ClientKeys) (name search bytes : List ℕ) (x : ClientKeys × List ℕ) : Type 0 where
  named : x.0.name ≡ name
  searched : x.0.search ≡ search
  takes : Takes bytes (to_le_bytes w16 (length x.0.past + 1) ++ (flat_map old_bytes x.0.past ++ key_bytes x.0.id 0 x.0.key)) x.1
  key : length x.0.key ≡ 32
  past : AllByRecursion IsFileKey x.0.past
  keyed : IsKeyed next 1 x.0
  apart : AllByRecursion (λ (d : ClientKeys). IsApart d x.0) before

keys_take : (next : ℕ) (before : List ClientKeys) (name search bytes : List ℕ) (x : ClientKeys × List ℕ) → IsBytes bytes → keys_at next before name search bytes ≡ Ok x → KeysTaken next before name search bytes x
unfolding keys_at
keys_take next before name search bytes x fits e =
    let a = bind_ok (key_count_at bytes) (λ count. old_keys_at next before (count.0 - 1) [] count.1 >>= λ past. id_at next before past.0 past.1 >>= λ id. current_at id.1 >>= λ current. bytes_at 32 current.1 >>= λ key. Ok (record { name = name; search = search; id = id.0; key = key.0; past = past.0 }, key.1)) x e in
    let b = bind_ok (old_keys_at next before (a.0.0 - 1) [] a.0.1) (λ past. id_at next before past.0 past.1 >>= λ id. current_at id.1 >>= λ current. bytes_at 32 current.1 >>= λ key. Ok (record { name = name; search = search; id = id.0; key = key.0; past = past.0 }, key.1)) x a.2 in
    let d = bind_ok (id_at next before b.0.0 b.0.1) (λ id. current_at id.1 >>= λ current. bytes_at 32 current.1 >>= λ key. Ok (record { name = name; search = search; id = id.0; key = key.0; past = b.0.0 }, key.1)) x b.2 in
    let f = bind_ok (current_at d.0.1) (λ current. bytes_at 32 current.1 >>= λ key. Ok (record { name = name; search = search; id = d.0.0; key = key.0; past = b.0.0 }, key.1)) x d.2 in
    let h = bind_ok (bytes_at 32 f.0.1) (λ key. Ok (record { name = name; search = search; id = d.0.0; key = key.0; past = b.0.0 }, key.1)) x f.2 in
    let count = count_takes bytes a.0 fits a.1 in
    let olds = olds_take next before (a.0.0 - 1) [] a.0.1 b.0 count.0.rest_fits tt tt b.1 in
    let past-is : b.0.0 ≡ olds.new = olds.made in
    let past-takes : Takes a.0.1 (flat_map old_bytes b.0.0) b.0.1 = subst (λ (ks : List OldKey). Takes a.0.1 (flat_map old_bytes ks) b.0.1) (sym past-is) olds.takes in
    let many : length b.0.0 + 1 ≡ a.0.0 = omega (arith, ap length past-is, olds.count, count.1.0) in
    let id = id_takes next before b.0.0 b.0.1 d.0 olds.takes.rest_fits d.1 in
    let can = id_can next before b.0.0 d.0.0 id.1 in
    let below = last_below b.0.0 d.0.0 olds.ascend can.0 in
    let current = current_takes d.0.1 f.0 id.0.rest_fits f.1 in
    let key = bytes_take 32 f.0.1 h.0 current.rest_fits h.1 in
    let t3 = Takes-then d.0.1 (0 ∷ []) f.0.1 h.0.0 h.0.1 current key.0 in
    let t2 = Takes-then b.0.1 (to_le_bytes w64 d.0.0) d.0.1 (0 ∷ h.0.0) h.0.1 id.0 t3 in
    let t1 = Takes-then a.0.1 (flat_map old_bytes b.0.0) b.0.1 (key_bytes d.0.0 0 h.0.0) h.0.1 past-takes t2 in
    let counted : Takes bytes (to_le_bytes w16 (length b.0.0 + 1)) a.0.1 = subst (λ (n : ℕ). Takes bytes (to_le_bytes w16 n) a.0.1) (sym many) count.0 in
    let t0 = Takes-then bytes (to_le_bytes w16 (length b.0.0 + 1)) a.0.1 (flat_map old_bytes b.0.0 ++ key_bytes d.0.0 0 h.0.0) h.0.1 counted t1 in
    let c : ClientKeys = record { name = name; search = search; id = d.0.0; key = h.0.0; past = b.0.0 } in
    let frees = all_weaker (IsPastOf next before) (λ (k : OldKey). list_any (has_id k.id) before ≡ false) (λ k p. p.free) b.0.0 olds.each in
    let made : ClientKeys × List ℕ = (c, h.0.1) in
    let taken : KeysTaken next before name search bytes made = record {
      named = refl;
      searched = refl;
      takes = t0;
      key = key.1;
      past = all_weaker (IsPastOf next before) IsFileKey (λ k p. p.file) b.0.0 olds.each;
      keyed = record {
        few = omega (arith, many, count.1.1);
        ascend = olds.ascend;
        each = past_each next before d.0.0 b.0.0 olds.each below;
        least = omega (arith, can.0);
        below = can.1.0;
      };
      apart = free_apart before c (all_ids (λ (n : ℕ). list_any (has_id n) before ≡ false) c can.1.1 frees);
    } in
    subst (KeysTaken next before name search bytes) (ok_is made x h.2) taken

-- each of a client's old keys is one of the client's
own_olds_of : (ks : List OldKey) → AllByRecursion (λ (k : OldKey). has_old k.id ks ≡ true) ks
own_olds_of [] = tt
own_olds_of (k ∷ ks) = (first_old k ks, all_weaker (λ (j : OldKey). has_old j.id ks ≡ true) (λ (j : OldKey). has_old j.id (k ∷ ks) ≡ true) (λ j h. old_id j.id k ks h) ks (own_olds_of ks))

own_olds : (c : ClientKeys) → AllByRecursion (λ (k : OldKey). has_id k.id c ≡ true) c.past
own_olds c = all_weaker (λ (k : OldKey). has_old k.id c.past ≡ true) (λ (k : OldKey). has_id k.id c ≡ true) (λ k h. or_second (eqb c.id k.id) (has_old k.id c.past) h) c.past (own_olds_of c.past)

past_of : (next : ℕ) (before : List ClientKeys) (c : ClientKeys) → IsClientOf next before c → (ks : List OldKey) → AllByRecursion (λ (k : OldKey). has_id k.id c ≡ true) ks → AllByRecursion (IsPast c.id 1) ks → AllByRecursion IsFileKey ks → AllByRecursion (IsPastOf next before) ks
past_of next before c is [] own past files = tt
past_of next before c is (k ∷ ks) own past files = (
  record { least = past.0.least; below = omega (arith, past.0.older, is.keyed.below); free = apart_free before c k.id is.apart own.0; file = files.0 },
  past_of next before c is ks own.1 past.1 files.1,
)

keys_again : (next : ℕ) (before : List ClientKeys) (c : ClientKeys) (rest : List ℕ) → next < 2 ^ 64 → IsClientOf next before c
    → keys_at next before c.name c.search ((to_le_bytes w16 (length c.past + 1) ++ (flat_map old_bytes c.past ++ key_bytes c.id 0 c.key)) ++ rest) ≡ Ok (c, rest)
unfolding keys_at
keys_again next before c rest fits is =
    let n = length c.past + 1 in
    let behind_id = 0 ∷ (c.key ++ rest) in
    let behind_past = to_le_bytes w64 c.id ++ behind_id in
    let behind_count = flat_map old_bytes c.past ++ behind_past in
    let g1 : (to_le_bytes w16 n ++ (flat_map old_bytes c.past ++ key_bytes c.id 0 c.key)) ++ rest ≡ to_le_bytes w16 n ++ behind_count =
    append_assoc (to_le_bytes w16 n) (flat_map old_bytes c.past ++ key_bytes c.id 0 c.key) rest
    ∙ ap (λ (t : List ℕ). to_le_bytes w16 n ++ t) (append_assoc (flat_map old_bytes c.past) (key_bytes c.id 0 c.key) rest ∙ ap (λ (t : List ℕ). flat_map old_bytes c.past ++ t) (append_assoc (to_le_bytes w64 c.id) (0 ∷ c.key) rest)) in
    let few = is.keyed.few in
    let least : 1 ≤ n = omega arith in
    let most : n ≤ 256 = omega (arith, few) in
    let one : n - 1 ≡ length c.past = omega arith in
    let each = past_of next before c is c.past (own_olds c) is.keyed.each is.file.past in
    let olds = olds_again next before [] c.past behind_past fits is.keyed.ascend each in
    let olds_n : old_keys_at next before (n - 1) [] behind_count ≡ Ok (c.past, behind_past) = ap (λ (m : ℕ). old_keys_at next before m [] behind_count) one ∙ olds in
    let free = apart_free before c c.id is.apart (own_id c) in
    let older = all_weaker (IsPast c.id 1) (λ (k : OldKey). k.id < c.id) (λ k p. p.older) c.past is.keyed.each in
    let can : can_be_id next before c.past c.id ≡ true = can_id next before c.past c.id (below_last c.past c.id is.keyed.least older) is.keyed.below free in
    let small : c.id < 2 ^ 64 = omega (arith, is.keyed.below) in
    ap (keys_at next before c.name c.search) g1
    ∙ rw (count_again n behind_count least most, olds_n, id_again next before c.past c.id behind_id small can, bytes_again 32 c.key rest is.file.key) refl

-- ---- a client

client_takes : (next : ℕ) (before : List ClientKeys) (bytes : List ℕ) (x : ClientKeys × List ℕ) → IsBytes bytes → AscendsBy IsBefore before → client_at next before bytes ≡ Ok x → Takes bytes (client_bytes x.0) x.1 × IsClientOf next before x.0
unfolding client_at
client_takes next before bytes x fits up e =
    let a = bind_ok (name_length_at bytes) (λ len. name_at before len.0 len.1 >>= λ name. bytes_at 32 name.1 >>= λ search. keys_at next before name.0 search.0 search.1) x e in
    let b = bind_ok (name_at before a.0.0 a.0.1) (λ name. bytes_at 32 name.1 >>= λ search. keys_at next before name.0 search.0 search.1) x a.2 in
    let d = bind_ok (bytes_at 32 b.0.1) (λ search. keys_at next before b.0.0 search.0 search.1) x b.2 in
    let len = checked_ok (byte_at bytes) (λ n. leb 1 n.0 && leb n.0 64) (length bytes) a.0 a.1 in
    let bounds = both_true (leb 1 a.0.0) (leb a.0.0 64) len.1 in
    let first = byte_takes bytes a.0 fits len.0 in
    let name = name_takes before a.0.0 a.0.1 b.0 first.rest_fits up (leb-true _ _ bounds.0) (leb-true _ _ bounds.1) b.1 in
    let search = bytes_take 32 b.0.1 d.0 name.0.rest_fits d.1 in
    let keys = keys_take next before b.0.0 d.0.0 d.0.1 x search.0.rest_fits d.2 in
    let c = x.0 in
    let tail = to_le_bytes w16 (length c.past + 1) ++ (flat_map old_bytes c.past ++ key_bytes c.id 0 c.key) in
    let t2 = Takes-then b.0.1 d.0.0 d.0.1 tail x.1 search.0 keys.takes in
    let t1 = Takes-then a.0.1 b.0.0 b.0.1 (d.0.0 ++ tail) x.1 name.0 t2 in
    let counted : Takes bytes (length b.0.0 ∷ []) a.0.1 = subst (λ (n : ℕ). Takes bytes (n ∷ []) a.0.1) (sym name.1.0) first in
    let t0 = Takes-then bytes (length b.0.0 ∷ []) a.0.1 (b.0.0 ++ (d.0.0 ++ tail)) x.1 counted t1 in
    let named : Takes bytes (length c.name ∷ (c.name ++ (d.0.0 ++ tail))) x.1 = subst (λ (t : List ℕ). Takes bytes (length t ∷ (t ++ (d.0.0 ++ tail))) x.1) (sym keys.named) t0 in
    let whole : Takes bytes (length c.name ∷ (c.name ++ (c.search ++ tail))) x.1 = subst (λ (t : List ℕ). Takes bytes (length c.name ∷ (c.name ++ (t ++ tail))) x.1) (sym keys.searched) named in (
      whole,
      record {
        file = record {
          name = subst IsClientId (sym keys.named) name.1.1.0;
          search = ap length keys.searched ∙ search.1;
          key = keys.key;
          past = keys.past;
        };
        keyed = keys.keyed;
        names = subst (λ (t : List ℕ). AllByRecursion (λ (d : ClientKeys). name_cmp d.name t ≡ Less) before) (sym keys.named) name.1.1.1;
        apart = keys.apart;
      },
    )

client_again : (next : ℕ) (before : List ClientKeys) (c : ClientKeys) (rest : List ℕ) → next < 2 ^ 64 → IsClientOf next before c → client_at next before (client_bytes c ++ rest) ≡ Ok (c, rest)
unfolding client_at
client_again next before c rest fits is =
    let tail = to_le_bytes w16 (length c.past + 1) ++ (flat_map old_bytes c.past ++ key_bytes c.id 0 c.key) in
    let g1 : (c.name ++ (c.search ++ tail)) ++ rest ≡ c.name ++ (c.search ++ (tail ++ rest)) = append_assoc c.name (c.search ++ tail) rest ∙ ap (λ (t : List ℕ). c.name ++ t) (append_assoc c.search tail rest) in
    let regrouped : client_bytes c ++ rest ≡ length c.name ∷ (c.name ++ (c.search ++ (tail ++ rest))) = ap (λ (t : List ℕ). length c.name ∷ t) g1 in
    let id = is.file.name in
    let can : (leb 1 (length c.name) && leb (length c.name) 64) ≡ true = rw (le-leb _ _ (let l : 1 ≤ length c.name = omega (arith, id.least) in l), le-leb _ _ id.most) refl in
    let len : name_length_at (length c.name ∷ (c.name ++ (c.search ++ (tail ++ rest)))) ≡ Ok (length c.name, c.name ++ (c.search ++ (tail ++ rest))) = rw can refl in
    ap (client_at next before) regrouped
    ∙ rw (len, name_again before c.name (c.search ++ (tail ++ rest)) id is.names, bytes_again 32 c.search (tail ++ rest) is.file.search) (keys_again next before c rest fits is)

-- ---- clients

pub record AreClients (next : ℕ) (cs : List ClientKeys) : Type 0 where
  pub names : AscendsBy IsBefore cs
  pub apart : AscendsBy IsApart cs
  pub keyed : AllByRecursion (IsKeyed next 1) cs
  pub files : AllByRecursion IsFileClient cs

pub record ClientsTaken (next n : ℕ) (before : List ClientKeys) (bytes : List ℕ) (x : List ClientKeys × List ℕ) : Type 0 where
  pub new : List ClientKeys
  pub made : x.0 ≡ before ++ new
  pub count : length new ≡ n
  pub takes : Takes bytes (flat_map client_bytes new) x.1
  pub are : AreClients next x.0

pub clients_take : (next n : ℕ) (before : List ClientKeys) (bytes : List ℕ) (x : List ClientKeys × List ℕ) → IsBytes bytes → AreClients next before → clients_at next n before bytes ≡ Ok x → ClientsTaken next n before bytes x
unfolding clients_at
clients_take next zero before bytes x fits are e =
    let made : List ClientKeys × List ℕ = (before, bytes) in
    subst (ClientsTaken next 0 before bytes) (ok_is made x e) (record { new = []; made = sym (append-nil before); count = refl; takes = record { parts = refl; rest_fits = fits }; are = are })
clients_take next (suc n) before bytes x fits are e =
    let a = bind_ok (client_at next before bytes) (λ client. clients_at next n (before ++ client.0 ∷ []) client.1) x e in
    let c = a.0.0 in
    let t = client_takes next before bytes a.0 fits are.names a.1 in
    let now : AreClients next (before ++ c ∷ []) = record {
      names = ascends_push IsBefore before c are.names t.1.names;
      apart = ascends_push IsApart before c are.apart t.1.apart;
      keyed = all_push (IsKeyed next 1) before c are.keyed t.1.keyed;
      files = all_push IsFileClient before c are.files t.1.file;
    } in
    let rest = clients_take next n (before ++ c ∷ []) a.0.1 x t.0.rest_fits now a.2 in
    record {
      new = c ∷ rest.new;
      made = rest.made ∙ append_assoc before (c ∷ []) rest.new;
      count = ap suc rest.count;
      takes = Takes-then bytes (client_bytes c) a.0.1 (flat_map client_bytes rest.new) x.1 t.0 rest.takes;
      are = rest.are;
    }

pub clients_again : (next : ℕ) (before new : List ClientKeys) (rest : List ℕ) → next < 2 ^ 64 → AscendsBy IsBefore (before ++ new) → AscendsBy IsApart (before ++ new) → AllByRecursion (IsKeyed next 1) new → AllByRecursion IsFileClient new
    → clients_at next (length new) before (flat_map client_bytes new ++ rest) ≡ Ok (before ++ new, rest)
unfolding clients_at
clients_again next before [] rest fits names apart keyed files = ap (λ (cs : List ClientKeys). Ok (cs, rest)) (sym (append-nil before))
clients_again next before (c ∷ cs) rest fits names apart keyed files =
    let is : IsClientOf next before c = record { file = files.0; keyed = keyed.0; names = ascends_front IsBefore before c cs names; apart = ascends_front IsApart before c cs apart } in
    let regrouped : flat_map client_bytes (c ∷ cs) ++ rest ≡ client_bytes c ++ (flat_map client_bytes cs ++ rest) = append_assoc (client_bytes c) (flat_map client_bytes cs) rest in
    let one : client_at next before (flat_map client_bytes (c ∷ cs) ++ rest) ≡ Ok (c, flat_map client_bytes cs ++ rest) = ap (client_at next before) regrouped ∙ client_again next before c (flat_map client_bytes cs ++ rest) fits is in
    let grouped : (before ++ c ∷ []) ++ cs ≡ before ++ (c ∷ cs) = append_assoc before (c ∷ []) cs in
    let others = clients_again next (before ++ c ∷ []) cs rest fits (subst (AscendsBy IsBefore) (sym grouped) names) (subst (AscendsBy IsApart) (sym grouped) apart) keyed.1 files.1 in
    rw one (others ∙ ap (λ (all : List ClientKeys). Ok (all, rest)) grouped)
