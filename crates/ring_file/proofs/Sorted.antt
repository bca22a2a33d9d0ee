-- The keys of a client that is read ascend by their ids.
use Rattle.std.proofs.Common.{◌≡◌, ℕ, zero, suc, ◌-◌, true, List, [], ◌∷◌, ◌++◌, Ok, subst}
use Rattle.keystore.specs.declared.phase.OldKey.{OldKey}
use Rattle.keystore.specs.Lists.{AscendsBy}
use Rattle.keystore.specs.Rings.{ClientKeys}
use Rattle.keystore.specs.Kept.{IsOlder}
use Rattle.keystore.proofs.Items.{ascends_push}
use Rattle.std.specs.Int.{w64}
use Rattle.byte_reader.proofs.Steps.{bind_ok, ok_is}
use Rattle.byte_reader.specs.Fields.{◌>>=◌, le_number_at, bytes_at}
use Rattle.ring_file.specs.Reading.{name_length_at, key_count_at, current_at, old_phase_at, name_at, can_be_id, id_at, old_key_at, old_keys_at, keys_at, client_at}
use Rattle.std.proofs.Common.{length}
use Rattle.ring_file.proofs.Judged.{checked_ok}
use Rattle.ring_file.proofs.Rules.{last_below, id_can}

id_ok : (next : ℕ) (before : List ClientKeys) (past : List OldKey) (bytes : List ℕ) (x : ℕ × List ℕ) → id_at next before past bytes ≡ Ok x → can_be_id next before past x.0 ≡ true
unfolding id_at
id_ok next before past bytes x e = (checked_ok (le_number_at w64 bytes) (λ n. can_be_id next before past n.0) (length bytes) x e).1

pub key_ok : (next : ℕ) (before : List ClientKeys) (past : List OldKey) (bytes : List ℕ) (x : OldKey × List ℕ) → old_key_at next before past bytes ≡ Ok x → can_be_id next before past x.0.id ≡ true
unfolding old_key_at
key_ok next before past bytes x e =
    let a = bind_ok (id_at next before past bytes) (λ id. old_phase_at id.1 >>= λ phase. bytes_at 32 phase.1 >>= λ key. Ok (record { id = id.0; key = key.0; phase = phase.0 }, key.1)) x e in
    let b = bind_ok (old_phase_at a.0.1) (λ phase. bytes_at 32 phase.1 >>= λ key. Ok (record { id = a.0.0; key = key.0; phase = phase.0 }, key.1)) x a.2 in
    let d = bind_ok (bytes_at 32 b.0.1) (λ key. Ok (record { id = a.0.0; key = key.0; phase = b.0.0 }, key.1)) x b.2 in
    let made : OldKey × List ℕ = (record { id = a.0.0; key = d.0.0; phase = b.0.0 }, d.0.1) in
    subst (λ (y : OldKey × List ℕ). can_be_id next before past y.0.id ≡ true) (ok_is made x d.2) (id_ok next before past bytes a.0 a.1)

pub keys_ok : (next : ℕ) (before : List ClientKeys) (n : ℕ) (past : List OldKey) (bytes : List ℕ) (x : List OldKey × List ℕ) → AscendsBy IsOlder past → old_keys_at next before n past bytes ≡ Ok x → AscendsBy IsOlder x.0
unfolding old_keys_at
keys_ok next before zero past bytes x up e =
    let made : List OldKey × List ℕ = (past, bytes) in
    subst (λ (y : List OldKey × List ℕ). AscendsBy IsOlder y.0) (ok_is made x e) up
keys_ok next before (suc n) past bytes x up e =
    let a = bind_ok (old_key_at next before past bytes) (λ key. old_keys_at next before n (past ++ key.0 ∷ []) key.1) x e in
    let can = id_can next before past a.0.0.id (key_ok next before past bytes a.0 a.1) in
    keys_ok next before n (past ++ a.0.0 ∷ []) a.0.1 x (ascends_push IsOlder past a.0.0 up (last_below past a.0.0.id up can.0)) a.2

pub keys_sorted : (next : ℕ) (before : List ClientKeys) (name search bytes : List ℕ) (x : ClientKeys × List ℕ) → keys_at next before name search bytes ≡ Ok x → AscendsBy IsOlder x.0.past
unfolding keys_at
keys_sorted next before name search bytes x e =
    let a = bind_ok (key_count_at bytes) (λ count. old_keys_at next before (count.0 - 1) [] count.1 >>= λ past. id_at next before past.0 past.1 >>= λ id. current_at id.1 >>= λ current. bytes_at 32 current.1 >>= λ key. Ok (record { name = name; search = search; id = id.0; key = key.0; past = past.0 }, key.1)) x e in
    let b = bind_ok (old_keys_at next before (a.0.0 - 1) [] a.0.1) (λ past. id_at next before past.0 past.1 >>= λ id. current_at id.1 >>= λ current. bytes_at 32 current.1 >>= λ key. Ok (record { name = name; search = search; id = id.0; key = key.0; past = past.0 }, key.1)) x a.2 in
    let d = bind_ok (id_at next before b.0.0 b.0.1) (λ id. current_at id.1 >>= λ current. bytes_at 32 current.1 >>= λ key. Ok (record { name = name; search = search; id = id.0; key = key.0; past = b.0.0 }, key.1)) x b.2 in
    let f = bind_ok (current_at d.0.1) (λ current. bytes_at 32 current.1 >>= λ key. Ok (record { name = name; search = search; id = d.0.0; key = key.0; past = b.0.0 }, key.1)) x d.2 in
    let h = bind_ok (bytes_at 32 f.0.1) (λ key. Ok (record { name = name; search = search; id = d.0.0; key = key.0; past = b.0.0 }, key.1)) x f.2 in
    let made : ClientKeys × List ℕ = (record { name = name; search = search; id = d.0.0; key = h.0.0; past = b.0.0 }, h.0.1) in
    subst (λ (y : ClientKeys × List ℕ). AscendsBy IsOlder y.0.past) (ok_is made x h.2) (keys_ok next before (a.0.0 - 1) [] a.0.1 b.0 tt b.1)

pub client_sorted : (next : ℕ) (before : List ClientKeys) (bytes : List ℕ) (x : ClientKeys × List ℕ) → client_at next before bytes ≡ Ok x → AscendsBy IsOlder x.0.past
unfolding client_at
client_sorted next before bytes x e =
    let a = bind_ok (name_length_at bytes) (λ len. name_at before len.0 len.1 >>= λ name. bytes_at 32 name.1 >>= λ search. keys_at next before name.0 search.0 search.1) x e in
    let b = bind_ok (name_at before a.0.0 a.0.1) (λ name. bytes_at 32 name.1 >>= λ search. keys_at next before name.0 search.0 search.1) x a.2 in
    let d = bind_ok (bytes_at 32 b.0.1) (λ search. keys_at next before b.0.0 search.0 search.1) x b.2 in
    keys_sorted next before b.0.0 d.0.0 d.0.1 x d.2
