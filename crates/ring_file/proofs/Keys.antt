-- Keys that are read are those that were written, and what was written is read again.
use Rattle.std.proofs.Common.{◌≡◌, ℕ, zero, suc, ◌<◌, ◌≤◌, ◌^◌, Bool, true, false, if◌then◌else◌, eqb, List, [], ◌∷◌, ◌++◌, length, Ok, Err, refl, sym, ap, subst, ◌∙◌, append_assoc, arith}
use Rattle.std.specs.List.{AllByRecursion, flat_map, list_any}
use Rattle.std.specs.Int.{w64, to_le_bytes}
use Rattle.std.proofs.lemmas.List.{append-nil}
use Rattle.std.proofs.lemmas.Bool.{eqb-true}
use Rattle.keystore.specs.declared.phase.OldPhase.{OldPhase}
use Rattle.keystore.specs.declared.phase.OldPhase.TheVariants as old_phases
use Rattle.keystore.specs.declared.phase.OldKey.{OldKey}
use Rattle.keystore.specs.Lists.{AscendsBy}
use Rattle.keystore.specs.Rings.{ClientKeys, number_of}
use Rattle.keystore.specs.Kept.{IsOlder, has_id, ticket_of}
use Rattle.keystore.proofs.Items.{all_push, ascends_push}
use Rattle.ring_file.specs.Form.{old_bytes, IsFileKey}
use Rattle.byte_reader.proofs.Steps.{bind_ok, ok_is}
use Rattle.byte_reader.proofs.Taken.{IsBytes, Takes, Takes-then, byte_takes, bytes_take, bytes_again}
use Rattle.byte_reader.proofs.Widths.{le_wide64, number_takes, number_again}
use Rattle.byte_reader.specs.Fields.{◌>>=◌, byte_at, le_number_at, bytes_at}
use Rattle.ring_file.specs.Reading.{old_phase_in, old_phase_at, can_be_id, id_at, old_key_at, old_keys_at}
use Rattle.ring_file.proofs.Judged.{checked_ok, checked_again}
use Rattle.ring_file.proofs.Rules.{ascends_front, last_below, below_last, id_can, can_id}

-- ---- ids and phases

pub id_takes : (next : ℕ) (before : List ClientKeys) (past : List OldKey) (bytes : List ℕ) (x : ℕ × List ℕ) → IsBytes bytes → id_at next before past bytes ≡ Ok x
    → Takes bytes (to_le_bytes w64 x.0) x.1 × (can_be_id next before past x.0 ≡ true)
unfolding id_at
id_takes next before past bytes x fits e =
    let g = checked_ok (le_number_at w64 bytes) (λ n. can_be_id next before past n.0) (length bytes) x e in
    ((number_takes w64 (2 ^ 64) le_wide64 bytes x fits g.0).0, g.1)

pub id_again : (next : ℕ) (before : List ClientKeys) (past : List OldKey) (id : ℕ) (rest : List ℕ) → id < 2 ^ 64 → can_be_id next before past id ≡ true → id_at next before past (to_le_bytes w64 id ++ rest) ≡ Ok (id, rest)
unfolding id_at
id_again next before past id rest fits h =
    checked_again (le_number_at w64 (to_le_bytes w64 id ++ rest)) (λ n. can_be_id next before past n.0) (length (to_le_bytes w64 id ++ rest)) (id, rest) (number_again w64 (2 ^ 64) le_wide64 id rest fits) h

record IsPhaseOf (n : ℕ) (rest : List ℕ) (x : OldPhase × List ℕ) : Type 0 where
  number : number_of x.0 ≡ n
  since : ticket_of x.0 ≡ 1
  behind : x.1 ≡ rest

phase_by_test : (left n : ℕ) (rest : List ℕ) (x : OldPhase × List ℕ) (a b : Bool) → eqb n 1 ≡ a → eqb n 2 ≡ b → (if a then Ok (old_phases.Draining 1, rest) else if b then Ok (old_phases.Swept 1, rest) else Err left) ≡ Ok x → IsPhaseOf n rest x
phase_by_test left n rest x true b p q e =
    let made : OldPhase × List ℕ = (old_phases.Draining 1, rest) in
    subst (IsPhaseOf n rest) (ok_is made x e) (record { number = sym (eqb-true n 1 p); since = refl; behind = refl })
phase_by_test left n rest x false true p q e =
    let made : OldPhase × List ℕ = (old_phases.Swept 1, rest) in
    subst (IsPhaseOf n rest) (ok_is made x e) (record { number = sym (eqb-true n 2 q); since = refl; behind = refl })
phase_by_test left n rest x false false p q e = absurd cc

cons_same : (m n : ℕ) (xs ys : List ℕ) → m ≡ n → xs ≡ ys → m ∷ xs ≡ n ∷ ys
cons_same m n xs ys p q = rw (p, q) refl

phase_takes : (bytes : List ℕ) (x : OldPhase × List ℕ) → IsBytes bytes → old_phase_at bytes ≡ Ok x → Takes bytes (number_of x.0 ∷ []) x.1 × (ticket_of x.0 ≡ 1)
phase_takes bytes x fits e =
    let a = bind_ok (byte_at bytes) (old_phase_in (length bytes)) x e in
    let p = phase_by_test (length bytes) a.0.0 a.0.1 x (eqb a.0.0 1) (eqb a.0.0 2) refl refl a.2 in
    let t = byte_takes bytes a.0 fits a.1 in
    (record { parts = t.parts ∙ cons_same a.0.0 (number_of x.0) a.0.1 x.1 (sym p.number) (sym p.behind); rest_fits = subst IsBytes (sym p.behind) t.rest_fits }, p.since)

phase_again : (p : OldPhase) (rest : List ℕ) → ticket_of p ≡ 1 → old_phase_at (number_of p ∷ rest) ≡ Ok (p, rest)
phase_again (old_phases.Draining t) rest e = rw e refl
phase_again (old_phases.Swept t) rest e = rw e refl

-- ---- a key that was current

pub record IsPastOf (next : ℕ) (before : List ClientKeys) (k : OldKey) : Type 0 where
  pub least : 1 ≤ k.id
  pub below : k.id < next
  pub free : list_any (has_id k.id) before ≡ false
  pub file : IsFileKey k

old_takes : (next : ℕ) (before : List ClientKeys) (past : List OldKey) (bytes : List ℕ) (x : OldKey × List ℕ) → IsBytes bytes → old_key_at next before past bytes ≡ Ok x
    → Takes bytes (old_bytes x.0) x.1 × ((can_be_id next before past x.0.id ≡ true) × IsFileKey x.0)
unfolding old_key_at
old_takes next before past bytes x fits e =
    let a = bind_ok (id_at next before past bytes) (λ id. old_phase_at id.1 >>= λ phase. bytes_at 32 phase.1 >>= λ key. Ok (record { id = id.0; key = key.0; phase = phase.0 }, key.1)) x e in
    let b = bind_ok (old_phase_at a.0.1) (λ phase. bytes_at 32 phase.1 >>= λ key. Ok (record { id = a.0.0; key = key.0; phase = phase.0 }, key.1)) x a.2 in
    let d = bind_ok (bytes_at 32 b.0.1) (λ key. Ok (record { id = a.0.0; key = key.0; phase = b.0.0 }, key.1)) x b.2 in
    let i = id_takes next before past bytes a.0 fits a.1 in
    let p = phase_takes a.0.1 b.0 i.0.rest_fits b.1 in
    let k = bytes_take 32 b.0.1 d.0 p.0.rest_fits d.1 in
    let tail = Takes-then a.0.1 (number_of b.0.0 ∷ []) b.0.1 d.0.0 d.0.1 p.0 k.0 in
    let whole = Takes-then bytes (to_le_bytes w64 a.0.0) a.0.1 (number_of b.0.0 ∷ d.0.0) d.0.1 i.0 tail in
    let made : OldKey × List ℕ = (record { id = a.0.0; key = d.0.0; phase = b.0.0 }, d.0.1) in
    subst (λ (y : OldKey × List ℕ). Takes bytes (old_bytes y.0) y.1 × ((can_be_id next before past y.0.id ≡ true) × IsFileKey y.0)) (ok_is made x d.2)
    (whole, (i.1, record { key = k.1; since = p.1 }))

old_again : (next : ℕ) (before : List ClientKeys) (past : List OldKey) (k : OldKey) (rest : List ℕ) → k.id < 2 ^ 64 → can_be_id next before past k.id ≡ true → IsFileKey k
    → old_key_at next before past (old_bytes k ++ rest) ≡ Ok (k, rest)
unfolding old_key_at
old_again next before past k rest fits can file =
    let behind = number_of k.phase ∷ (k.key ++ rest) in
    let regrouped : old_bytes k ++ rest ≡ to_le_bytes w64 k.id ++ behind = append_assoc (to_le_bytes w64 k.id) (number_of k.phase ∷ k.key) rest in
    ap (old_key_at next before past) regrouped
    ∙ rw (id_again next before past k.id behind fits can, phase_again k.phase (k.key ++ rest) file.since, bytes_again 32 k.key rest file.key) refl

-- ---- all keys of a client that were current

pub record PastTaken (next : ℕ) (before : List ClientKeys) (n : ℕ) (past : List OldKey) (bytes : List ℕ) (x : List OldKey × List ℕ) : Type 0 where
  pub new : List OldKey
  pub made : x.0 ≡ past ++ new
  pub count : length new ≡ n
  pub takes : Takes bytes (flat_map old_bytes new) x.1
  pub ascend : AscendsBy IsOlder x.0
  pub each : AllByRecursion (IsPastOf next before) x.0

pub olds_take : (next : ℕ) (before : List ClientKeys) (n : ℕ) (past : List OldKey) (bytes : List ℕ) (x : List OldKey × List ℕ) → IsBytes bytes → AscendsBy IsOlder past → AllByRecursion (IsPastOf next before) past
    → old_keys_at next before n past bytes ≡ Ok x → PastTaken next before n past bytes x
unfolding old_keys_at
olds_take next before zero past bytes x fits up each e =
    let made : List OldKey × List ℕ = (past, bytes) in
    subst (PastTaken next before 0 past bytes) (ok_is made x e) (record {
      new = [];
      made = sym (append-nil past);
      count = refl;
      takes = record { parts = refl; rest_fits = fits };
      ascend = up;
      each = each;
    })
olds_take next before (suc n) past bytes x fits up each e =
    let a = bind_ok (old_key_at next before past bytes) (λ key. old_keys_at next before n (past ++ key.0 ∷ []) key.1) x e in
    let k = a.0.0 in
    let t = old_takes next before past bytes a.0 fits a.1 in
    let can = id_can next before past k.id t.1.0 in
    let below = last_below past k.id up can.0 in
    let this : IsPastOf next before k = record { least = omega (arith, can.0); below = can.1.0; free = can.1.1; file = t.1.1 } in
    let rest = olds_take next before n (past ++ k ∷ []) a.0.1 x t.0.rest_fits (ascends_push IsOlder past k up below) (all_push (IsPastOf next before) past k each this) a.2 in
    record {
      new = k ∷ rest.new;
      made = rest.made ∙ append_assoc past (k ∷ []) rest.new;
      count = ap suc rest.count;
      takes = Takes-then bytes (old_bytes k) a.0.1 (flat_map old_bytes rest.new) x.1 t.0 rest.takes;
      ascend = rest.ascend;
      each = rest.each;
    }

pub olds_again : (next : ℕ) (before : List ClientKeys) (past new : List OldKey) (rest : List ℕ) → next < 2 ^ 64 → AscendsBy IsOlder (past ++ new) → AllByRecursion (IsPastOf next before) new
    → old_keys_at next before (length new) past (flat_map old_bytes new ++ rest) ≡ Ok (past ++ new, rest)
unfolding old_keys_at
olds_again next before past [] rest fits up each = ap (λ (ks : List OldKey). Ok (ks, rest)) (sym (append-nil past))
olds_again next before past (k ∷ ks) rest fits up each =
    let this = each.0 in
    let older = ascends_front IsOlder past k ks up in
    let can : can_be_id next before past k.id ≡ true = can_id next before past k.id (below_last past k.id this.least older) this.below this.free in
    let small : k.id < 2 ^ 64 = omega (arith, this.below) in
    let regrouped : flat_map old_bytes (k ∷ ks) ++ rest ≡ old_bytes k ++ (flat_map old_bytes ks ++ rest) = append_assoc (old_bytes k) (flat_map old_bytes ks) rest in
    let one : old_key_at next before past (flat_map old_bytes (k ∷ ks) ++ rest) ≡ Ok (k, flat_map old_bytes ks ++ rest) = ap (old_key_at next before past) regrouped ∙ old_again next before past k (flat_map old_bytes ks ++ rest) small can this.file in
    let grouped : (past ++ k ∷ []) ++ ks ≡ past ++ (k ∷ ks) = append_assoc past (k ∷ []) ks in
    let others = olds_again next before (past ++ k ∷ []) ks rest fits (subst (AscendsBy IsOlder) (sym grouped) up) each.1 in
    rw one (others ∙ ap (λ (all : List OldKey). Ok (all, rest)) grouped)
