-- One key or one client more.
use Rattle.std.proofs.Common.{◌≡◌, ℕ, suc, ◌-◌, ◌+◌, ◌<◌, ◌≤◌, List, [], ◌∷◌, ◌++◌, Result, Ok, Err, refl, sym, ap, ◌∙◌, arith}
use Rattle.keystore.specs.declared.phase.OldKey.{OldKey}
use Rattle.keystore.specs.Rings.{ClientKeys}
use Rattle.byte_reader.specs.declared.unread.Unread.{Unread}
use Rattle.byte_reader.specs.declared.unread.Unread.TheVariants as unread
use Rattle.byte_reader.specs.Readers.{Fails}
use Rattle.byte_reader.specs.Fields.{◌>>=◌}
use Rattle.ring_file.specs.Reading.{old_key_at, old_keys_at, client_at, clients_at}

left_over : (count counter : ℕ) → counter < count → count - counter ≡ suc (count - (counter + 1))
left_over count counter lt = omega arith

none_left : (count counter : ℕ) → count ≤ counter → count - counter ≡ 0
none_left count counter le = omega arith

keys_then : (next n : ℕ) (before : List ClientKeys) (past : List OldKey) (rest : List ℕ) (r : Result (OldKey × List ℕ) ℕ) → old_key_at next before past rest ≡ r → old_keys_at next before (suc n) past rest ≡ (r >>= λ key. old_keys_at next before n (past ++ key.0 ∷ []) key.1)
unfolding old_keys_at
keys_then next n before past rest r e = rw e refl

pub keys_go : (next count counter : ℕ) (before : List ClientKeys) (past : List OldKey) (rest : List ℕ) (k : OldKey) (after : List ℕ) (total : Result (List OldKey × List ℕ) ℕ) → counter < count → old_key_at next before past rest ≡ Ok (k, after)
    → old_keys_at next before (count - counter) past rest ≡ total → old_keys_at next before (count - (counter + 1)) (past ++ k ∷ []) after ≡ total
keys_go next count counter before past rest k after total lt e h =
    sym (keys_then next (count - (counter + 1)) before past rest (Ok (k, after)) e) ∙ (ap (λ (n : ℕ). old_keys_at next before n past rest) (sym (left_over count counter lt)) ∙ h)

pub keys_fail : (next count counter : ℕ) (before : List ClientKeys) (past : List OldKey) (rest : List ℕ) (why : Unread) (total : Result (List OldKey × List ℕ) ℕ) → counter < count → Fails why (old_key_at next before past rest)
    → old_keys_at next before (count - counter) past rest ≡ total → Fails why total
keys_fail next count counter before past rest unread.NoMemory total lt e h = tt
keys_fail next count counter before past rest (unread.At left) total lt e h =
    sym h ∙ (ap (λ (n : ℕ). old_keys_at next before n past rest) (left_over count counter lt) ∙ keys_then next (count - (counter + 1)) before past rest (Err left) e)

pub keys_done : (next count counter : ℕ) (before : List ClientKeys) (past : List OldKey) (rest : List ℕ) (total : Result (List OldKey × List ℕ) ℕ) → count ≤ counter
    → old_keys_at next before (count - counter) past rest ≡ total → total ≡ Ok (past, rest)
unfolding old_keys_at
keys_done next count counter before past rest total le h = sym h ∙ ap (λ (n : ℕ). old_keys_at next before n past rest) (none_left count counter le)

clients_then : (next n : ℕ) (before : List ClientKeys) (rest : List ℕ) (r : Result (ClientKeys × List ℕ) ℕ) → client_at next before rest ≡ r → clients_at next (suc n) before rest ≡ (r >>= λ client. clients_at next n (before ++ client.0 ∷ []) client.1)
unfolding clients_at
clients_then next n before rest r e = rw e refl

pub clients_go : (next count counter : ℕ) (before : List ClientKeys) (rest : List ℕ) (c : ClientKeys) (after : List ℕ) (total : Result (List ClientKeys × List ℕ) ℕ) → counter < count → client_at next before rest ≡ Ok (c, after)
    → clients_at next (count - counter) before rest ≡ total → clients_at next (count - (counter + 1)) (before ++ c ∷ []) after ≡ total
clients_go next count counter before rest c after total lt e h =
    sym (clients_then next (count - (counter + 1)) before rest (Ok (c, after)) e) ∙ (ap (λ (n : ℕ). clients_at next n before rest) (sym (left_over count counter lt)) ∙ h)

pub clients_fail : (next count counter : ℕ) (before : List ClientKeys) (rest : List ℕ) (why : Unread) (total : Result (List ClientKeys × List ℕ) ℕ) → counter < count → Fails why (client_at next before rest)
    → clients_at next (count - counter) before rest ≡ total → Fails why total
clients_fail next count counter before rest unread.NoMemory total lt e h = tt
clients_fail next count counter before rest (unread.At left) total lt e h =
    sym h ∙ (ap (λ (n : ℕ). clients_at next n before rest) (left_over count counter lt) ∙ clients_then next (count - (counter + 1)) before rest (Err left) e)

pub clients_done : (next count counter : ℕ) (before : List ClientKeys) (rest : List ℕ) (total : Result (List ClientKeys × List ℕ) ℕ) → count ≤ counter
    → clients_at next (count - counter) before rest ≡ total → total ≡ Ok (before, rest)
unfolding clients_at
clients_done next count counter before rest total le h = sym h ∙ ap (λ (n : ℕ). clients_at next n before rest) (none_left count counter le)
