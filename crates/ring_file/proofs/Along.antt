-- Reading goes along fields: a field by itself, keys, and clients.
use Rattle.std.proofs.Common.{◌≡◌, ℕ, zero, suc, ◌-◌, ◌&&◌, ◌==◌, Bool, true, false, if◌then◌else◌, eqb, leb, ltb, List, [], ◌∷◌, ◌++◌, length, take, drop, Option, Some, None, Result, Ok, Err, refl, sym, ap, subst, ◌∙◌, inl, inr, ◌⊎◌}
use Rattle.std.specs.List.{list_any, list_all}
use Rattle.std.specs.Int.{Width, w16, w64, byte_len, from_le_bytes}
use Rattle.std.proofs.lemmas.Bool.{leb-true, le-leb, eqb-true}
use Rattle.acra_base.specs.Client.{is_id_byte}
use Rattle.keystore.specs.declared.phase.OldPhase.{OldPhase}
use Rattle.keystore.specs.declared.phase.OldPhase.TheVariants as old_phases
use Rattle.keystore.specs.declared.phase.OldKey.{OldKey}
use Rattle.keystore.specs.Lists.{AscendsBy}
use Rattle.keystore.specs.Rings.{ClientKeys, RingState, name_cmp, restored_ring}
use Rattle.keystore.specs.Kept.{IsOlder, has_id, has_old}
use Rattle.keystore.proofs.Items.{ascends_push}
use Rattle.byte_reader.specs.Fields.{◌>>=◌, le_number_at, bytes_at}
use Rattle.ring_file.specs.Reading.{judged, next_id_at, client_count_at, key_count_at, name_length_at, old_phase_in, old_phase_at, current_at, last_of, comes_after, can_be_name, name_at, can_be_id, id_at, old_key_at, old_keys_at, keys_at, client_at, clients_at, ring_behind, ring_at}
use Rattle.ring_file.specs.Fields.{Told, Awaits, number16, number64, ComesAfter, IsEnd}
use Rattle.ring_file.proofs.Rules.{both_true, either_false, is_less, last_below, id_can, can_id}
use Rattle.ring_file.proofs.Sorted.{key_ok, keys_ok}
use Rattle.ring_file.proofs.Walks.{Went, Tells, went_none, went_one, stuck_here, judged_tells, Rules, so_tells, bind_if, byte_tells, tells_then}
use Rattle.ring_file.proofs.Rows.{name_in, told_of, told_at, told_key, told_client, among_taken, old_free, none_of_both}

number_tells : (s : Awaits) (w : Width) (can : ℕ → Bool) (after : ℕ → Awaits) (bytes : List ℕ) → (IsEnd s → ⊥) → Rules s (byte_len w) (from_le_bytes w) (λ f. can (from_le_bytes w f)) after
    → Tells s bytes after (le_number_at w bytes >>= λ n. judged (can n.0) (length bytes) n)
number_tells s w can after bytes going rules =
    let n = byte_len w in
    subst (Tells s bytes after) (sym (bind_if (ltb (length bytes) n) (length bytes) (from_le_bytes w (take n bytes), drop n bytes) (λ n. judged (can n.0) (length bytes) n)))
    (so_tells s n (from_le_bytes w) (λ f. can (from_le_bytes w f)) after bytes going rules)

key_tells : (s t : Awaits) (bytes : List ℕ) → (IsEnd s → ⊥) → Rules s 32 (λ f. f) (λ f. true) (λ f. t) → Tells s bytes (λ f. t) (bytes_at 32 bytes)
key_tells s t bytes going rules = so_tells s 32 (λ f. f) (λ f. true) (λ f. t) bytes going rules

-- ---- fields by themselves

pub next_tells : (bytes : List ℕ) → Tells Awaits.NextId bytes (λ n. Awaits.ClientCount n) (next_id_at bytes)
next_tells bytes =
    number_tells Awaits.NextId w64 (λ n. leb 1 n) (λ n. Awaits.ClientCount n) bytes (λ e. e)
    (λ f len can. (len, leb-true _ _ can, refl), λ f t h. (h.0, le-leb _ _ h.1))

pub many_tells : (next : ℕ) (bytes : List ℕ) → Tells (Awaits.ClientCount next) bytes (λ n. Awaits.NameLength (told_at next []) n) (client_count_at bytes)
many_tells next bytes =
    number_tells (Awaits.ClientCount next) w16 (λ n. leb n 256) (λ n. Awaits.NameLength (told_at next []) n) bytes (λ e. e)
    (λ f len can. (len, leb-true _ _ can, refl), λ f t h. (h.0, le-leb _ _ h.1))

count_tells : (told : Told) (left : ℕ) (bytes : List ℕ) → Tells (Awaits.KeyCount told left) bytes (λ n. Awaits.Id told left (n - 1)) (key_count_at bytes)
count_tells told left bytes =
    number_tells (Awaits.KeyCount told left) w16 (λ n. leb 1 n && leb n 256) (λ n. Awaits.Id told left (n - 1)) bytes (λ e. e) (
      λ f len can. let two = both_true (leb 1 (number16 f)) (leb (number16 f) 256) can in (len, leb-true _ _ two.0, leb-true _ _ two.1, refl),
      λ f t h. (h.0, rw (le-leb _ _ h.1, le-leb _ _ h.2) refl),
    )

head_same : (b c : ℕ) (rest g more : List ℕ) → g ≡ c ∷ [] → b ∷ rest ≡ g ++ more → b ≡ c
head_same b c rest g more p e = let q : b ∷ rest ≡ c ∷ more = e ∙ ap (λ (t : List ℕ). t ++ more) p in cc

length_tells : (told : Told) (left : ℕ) (bytes : List ℕ) → Tells (Awaits.NameLength told (suc left)) bytes (λ n. Awaits.Name told left n) (name_length_at bytes)
length_tells told left bytes =
    byte_tells (Awaits.NameLength told (suc left)) (λ n. Awaits.Name told left n) (λ bytes n. judged (leb 1 n.0 && leb n.0 64) (length bytes) n) bytes (λ e. e) (λ g t h. ap length h.1)
    (λ b rest. judged_tells (leb 1 b && leb b 64) (Awaits.NameLength told (suc left)) (b ∷ rest) (b ∷ []) (b, rest) (λ n. Awaits.Name told left n) (λ e. e) refl
    (λ can. let two = both_true (leb 1 b) (leb b 64) can in (b, refl, leb-true _ _ two.0, leb-true _ _ two.1, refl))
    (λ cannot g more t h e. let same = head_same b h.0 rest g more h.1 e in
    let can : (leb 1 h.0 && leb h.0 64) ≡ true = rw (le-leb _ _ h.2, le-leb _ _ h.3) refl in
    let both : true ≡ false = sym can ∙ (ap (λ (n : ℕ). leb 1 n && leb n 64) (sym same) ∙ cannot) in cc both))

current_tells : (told : Told) (left : ℕ) (bytes : List ℕ) → Tells (Awaits.Phase told left zero) bytes (λ n. Awaits.KeyBytes told left zero) (current_at bytes)
current_tells told left bytes =
    byte_tells (Awaits.Phase told left zero) (λ n. Awaits.KeyBytes told left zero) (λ bytes n. judged (n.0 == 0) (length bytes) n) bytes (λ e. e) (λ g t h. ap length h.0)
    (λ b rest. judged_tells (b == 0) (Awaits.Phase told left zero) (b ∷ rest) (b ∷ []) (b, rest) (λ n. Awaits.KeyBytes told left zero) (λ e. e) refl
    (λ can. (ap (λ (n : ℕ). n ∷ []) (eqb-true b 0 can), refl))
    (λ cannot g more t h e. let same = head_same b 0 rest g more h.0 e in
    let both : true ≡ false = ap (λ (n : ℕ). eqb n 0) (sym same) ∙ cannot in cc both))

-- ---- fields behind others

name_tells : (next left n : ℕ) (before : List ClientKeys) (bytes : List ℕ) → Tells (Awaits.Name (told_at next before) left n) bytes (λ f. Awaits.SearchKey (told_of next before [] (Some f)) left) (name_at before n bytes)
unfolding name_at
name_tells next left n before bytes =
    let s = Awaits.Name (told_at next before) left n in
    let after : List ℕ → Awaits = λ f. Awaits.SearchKey (told_of next before [] (Some f)) left in
    subst (Tells s bytes after) (sym (bind_if (ltb (length bytes) n) (length bytes) (take n bytes, drop n bytes) (λ name. judged (can_be_name before name.0) (length bytes) name)))
    (so_tells s n (λ f. f) (can_be_name before) after bytes (λ e. e) (
      λ f len can. let two = both_true (list_all is_id_byte f) (comes_after (last_of before) f) can in (len, two.0, behind (last_of before) f two.1, refl),
      λ f t h. (h.0, rw (h.1, ahead (last_of before) f h.2) refl),
    )) where
      behind : (o : Option ClientKeys) (f : List ℕ) → comes_after o f ≡ true → ComesAfter (name_in o) f
      behind None f h = tt
      behind (Some c) f h = is_less (name_cmp c.name f) h

      ahead : (o : Option ClientKeys) (f : List ℕ) → ComesAfter (name_in o) f → comes_after o f ≡ true
      ahead None f h = refl
      ahead (Some c) f h = rw h refl

abbrev with_id : Told → ℕ → Told
with_id told id = record told { last = id; taken = told.taken ++ id ∷ [] }

id_tells : (next left more : ℕ) (before : List ClientKeys) (past : List OldKey) (name : Option (List ℕ)) (bytes : List ℕ) → AscendsBy IsOlder past
    → Tells (Awaits.Id (told_of next before past name) left more) bytes (λ id. Awaits.Phase (with_id (told_of next before past name) id) left more) (id_at next before past bytes)
unfolding id_at
id_tells next left more before past name bytes up =
    number_tells (Awaits.Id (told_of next before past name) left more) w64 (can_be_id next before past) (λ id. Awaits.Phase (with_id (told_of next before past name) id) left more) bytes (λ e. e) (
      λ f len can. let id = number64 f in
          let a = id_can next before past id can in
          let free = none_of_both (list_any (has_id id) before) (has_old id past) a.1.1 (old_free id past (last_below past id up a.0)) in
          (len, a.0, a.1.0, among_taken id before past ∙ free, refl),
      λ f t h. (h.0, can_id next before past (number64 f) h.1 h.2 (either_false (list_any (has_id (number64 f)) before) (has_old (number64 f) past) (sym (among_taken (number64 f) before past) ∙ h.3)).0),
    )

phase_long : (g : List ℕ) → (g ≡ 1 ∷ []) ⊎ (g ≡ 2 ∷ []) → length g ≡ 1
phase_long g (inl h) = ap length h
phase_long g (inr h) = ap length h

no_phase : (b : ℕ) (rest g more : List ℕ) → eqb b 1 ≡ false → eqb b 2 ≡ false → (g ≡ 1 ∷ []) ⊎ (g ≡ 2 ∷ []) → b ∷ rest ≡ g ++ more → ⊥
no_phase b rest g more p q (inl h) e = let both : true ≡ false = ap (λ (n : ℕ). eqb n 1) (sym (head_same b 1 rest g more h e)) ∙ p in cc both
no_phase b rest g more p q (inr h) e = let both : true ≡ false = ap (λ (n : ℕ). eqb n 2) (sym (head_same b 2 rest g more h e)) ∙ q in cc both

phase_by_test : (told : Told) (left more b : ℕ) (rest : List ℕ) (x y : Bool) → eqb b 1 ≡ x → eqb b 2 ≡ y
    → Tells {A = OldPhase} (Awaits.Phase told left (suc more)) (b ∷ rest) (λ p. Awaits.KeyBytes told left (suc more)) (if x then Ok (old_phases.Draining 1, rest) else if y then Ok (old_phases.Swept 1, rest) else Err (length (b ∷ rest)))
phase_by_test told left more b rest true y p q =
    went_one (Awaits.Phase told left (suc more)) (Awaits.KeyBytes told left (suc more)) (b ∷ rest) (b ∷ []) rest (inl (ap (λ (n : ℕ). n ∷ []) (eqb-true b 1 p)), refl) refl
phase_by_test told left more b rest false true p q =
    went_one (Awaits.Phase told left (suc more)) (Awaits.KeyBytes told left (suc more)) (b ∷ rest) (b ∷ []) rest (inr (ap (λ (n : ℕ). n ∷ []) (eqb-true b 2 q)), refl) refl
phase_by_test told left more b rest false false p q =
    stuck_here (Awaits.Phase told left (suc more)) (b ∷ rest) (λ g after t h e. no_phase b rest g after p q h.0 e) (λ e. absurd e)

phase_tells : (told : Told) (left more : ℕ) (bytes : List ℕ) → Tells (Awaits.Phase told left (suc more)) bytes (λ p. Awaits.KeyBytes told left (suc more)) (old_phase_at bytes)
phase_tells told left more bytes =
    byte_tells (Awaits.Phase told left (suc more)) (λ p. Awaits.KeyBytes told left (suc more)) (λ bytes n. old_phase_in (length bytes) n) bytes (λ e. e) (λ g u h. phase_long g h.0)
    (λ b rest. phase_by_test told left more b rest (eqb b 1) (eqb b 2) refl refl)

-- ---- keys

old_tells : (next left more : ℕ) (before : List ClientKeys) (past : List OldKey) (name : Option (List ℕ)) (bytes : List ℕ) → AscendsBy IsOlder past
    → Tells (Awaits.Id (told_of next before past name) left (suc more)) bytes (λ k. Awaits.Id (told_of next before (past ++ k ∷ []) name) left more) (old_key_at next before past bytes)
unfolding old_key_at
old_tells next left more before past name bytes up =
    let told = told_of next before past name in
    let ends : OldKey → Awaits = λ k. Awaits.Id (told_of next before (past ++ k ∷ []) name) left more in
    tells_then (Awaits.Id told left (suc more)) bytes (λ id. Awaits.Phase (with_id told id) left (suc more)) ends (id_at next before past bytes)
    (λ id. old_phase_at id.1 >>= λ phase. bytes_at 32 phase.1 >>= λ key. Ok (record { id = id.0; key = key.0; phase = phase.0 }, key.1))
    (id_tells next left (suc more) before past name bytes up)
    (λ id _. tells_then (Awaits.Phase (with_id told id.0) left (suc more)) id.1 (λ p. Awaits.KeyBytes (with_id told id.0) left (suc more)) ends (old_phase_at id.1)
    (λ phase. bytes_at 32 phase.1 >>= λ key. Ok (record { id = id.0; key = key.0; phase = phase.0 }, key.1))
    (phase_tells (with_id told id.0) left more id.1)
    (λ phase _. tells_then (Awaits.KeyBytes (with_id told id.0) left (suc more)) phase.1 (λ f. Awaits.Id (with_id told id.0) left more) ends (bytes_at 32 phase.1)
    (λ key. Ok (record { id = id.0; key = key.0; phase = phase.0 }, key.1))
    (key_tells (Awaits.KeyBytes (with_id told id.0) left (suc more)) (Awaits.Id (with_id told id.0) left more) phase.1 (λ e. e) (λ f len can. (len, refl), λ f t h. (h.0, refl)))
    (λ key _. let k : OldKey = record { id = id.0; key = key.0; phase = phase.0 } in
    subst (λ (t : Told). Went (Awaits.Id (with_id told id.0) left more) key.1 (Awaits.Id t left more) key.1) (told_key next before past k name) (went_none (Awaits.Id (with_id told id.0) left more) key.1))))

olds_tell : (next left more : ℕ) (before : List ClientKeys) (past : List OldKey) (name : Option (List ℕ)) (bytes : List ℕ) → AscendsBy IsOlder past
    → Tells (Awaits.Id (told_of next before past name) left more) bytes (λ ks. Awaits.Id (told_of next before ks name) left zero) (old_keys_at next before more past bytes)
unfolding old_keys_at
olds_tell next left zero before past name bytes up = went_none (Awaits.Id (told_of next before past name) left zero) bytes
olds_tell next left (suc more) before past name bytes up =
    tells_then (Awaits.Id (told_of next before past name) left (suc more)) bytes (λ k. Awaits.Id (told_of next before (past ++ k ∷ []) name) left more) (λ ks. Awaits.Id (told_of next before ks name) left zero) (old_key_at next before past bytes)
    (λ key. old_keys_at next before more (past ++ key.0 ∷ []) key.1)
    (old_tells next left more before past name bytes up)
    (λ key e. olds_tell next left more before (past ++ key.0 ∷ []) name key.1
    (let can = id_can next before past key.0.id (key_ok next before past bytes key e) in ascends_push IsOlder past key.0 up (last_below past key.0.id up can.0)))

abbrev at_client : ℕ → ℕ → List ClientKeys → ClientKeys → Awaits
at_client next left before c = Awaits.NameLength (told_at next (before ++ c ∷ [])) left

last_tells : (next left : ℕ) (before : List ClientKeys) (past : List OldKey) (name search bytes : List ℕ) → AscendsBy IsOlder past
    → Tells {A = ClientKeys} (Awaits.Id (told_of next before past (Some name)) left zero) bytes (at_client next left before)
    (id_at next before past bytes >>= λ id. current_at id.1 >>= λ current. bytes_at 32 current.1 >>= λ key. Ok (record { name = name; search = search; id = id.0; key = key.0; past = past }, key.1))
last_tells next left before past name search bytes up =
    let told = told_of next before past (Some name) in
    let ends = at_client next left before in
    tells_then (Awaits.Id told left zero) bytes (λ id. Awaits.Phase (with_id told id) left zero) ends (id_at next before past bytes)
    (λ id. current_at id.1 >>= λ current. bytes_at 32 current.1 >>= λ key. Ok (record { name = name; search = search; id = id.0; key = key.0; past = past }, key.1))
    (id_tells next left zero before past (Some name) bytes up)
    (λ id _. tells_then (Awaits.Phase (with_id told id.0) left zero) id.1 (λ p. Awaits.KeyBytes (with_id told id.0) left zero) ends (current_at id.1)
    (λ current. bytes_at 32 current.1 >>= λ key. Ok (record { name = name; search = search; id = id.0; key = key.0; past = past }, key.1))
    (current_tells (with_id told id.0) left id.1)
    (λ current _. let at = Awaits.NameLength (record (with_id told id.0) { last = 0 }) left in
    tells_then (Awaits.KeyBytes (with_id told id.0) left zero) current.1 (λ f. at) ends (bytes_at 32 current.1)
    (λ key. Ok (record { name = name; search = search; id = id.0; key = key.0; past = past }, key.1))
    (key_tells (Awaits.KeyBytes (with_id told id.0) left zero) at current.1 (λ e. e) (λ f len can. (len, refl), λ f t h. (h.0, refl)))
    (λ key _. let c : ClientKeys = record { name = name; search = search; id = id.0; key = key.0; past = past } in
    subst (λ (t : Told). Went at key.1 (Awaits.NameLength t left) key.1) (told_client next before c) (went_none at key.1))))

keys_tell : (next left : ℕ) (before : List ClientKeys) (name search bytes : List ℕ)
    → Tells (Awaits.KeyCount (told_of next before [] (Some name)) left) bytes (at_client next left before) (keys_at next before name search bytes)
unfolding keys_at
keys_tell next left before name search bytes =
    let told = told_of next before [] (Some name) in
    let ends = at_client next left before in
    tells_then (Awaits.KeyCount told left) bytes (λ n. Awaits.Id told left (n - 1)) ends (key_count_at bytes)
    (λ count. old_keys_at next before (count.0 - 1) [] count.1 >>= λ past. id_at next before past.0 past.1 >>= λ id. current_at id.1 >>= λ current. bytes_at 32 current.1 >>= λ key. Ok (record { name = name; search = search; id = id.0; key = key.0; past = past.0 }, key.1))
    (count_tells told left bytes)
    (λ count _. tells_then (Awaits.Id told left (count.0 - 1)) count.1 (λ ks. Awaits.Id (told_of next before ks (Some name)) left zero) ends (old_keys_at next before (count.0 - 1) [] count.1)
    (λ past. id_at next before past.0 past.1 >>= λ id. current_at id.1 >>= λ current. bytes_at 32 current.1 >>= λ key. Ok (record { name = name; search = search; id = id.0; key = key.0; past = past.0 }, key.1))
    (olds_tell next left (count.0 - 1) before [] (Some name) count.1 tt)
    (λ past e. last_tells next left before past.0 name search past.1 (keys_ok next before (count.0 - 1) [] count.1 past tt e)))

-- ---- clients

client_tells : (next left : ℕ) (before : List ClientKeys) (bytes : List ℕ) → Tells (Awaits.NameLength (told_at next before) (suc left)) bytes (at_client next left before) (client_at next before bytes)
unfolding client_at
client_tells next left before bytes =
    let ends = at_client next left before in
    tells_then (Awaits.NameLength (told_at next before) (suc left)) bytes (λ n. Awaits.Name (told_at next before) left n) ends (name_length_at bytes)
    (λ len. name_at before len.0 len.1 >>= λ name. bytes_at 32 name.1 >>= λ search. keys_at next before name.0 search.0 search.1)
    (length_tells (told_at next before) left bytes)
    (λ len _. tells_then (Awaits.Name (told_at next before) left len.0) len.1 (λ f. Awaits.SearchKey (told_of next before [] (Some f)) left) ends (name_at before len.0 len.1)
    (λ name. bytes_at 32 name.1 >>= λ search. keys_at next before name.0 search.0 search.1)
    (name_tells next left len.0 before len.1)
    (λ name _. let told = told_of next before [] (Some name.0) in
    tells_then (Awaits.SearchKey told left) name.1 (λ f. Awaits.KeyCount told left) ends (bytes_at 32 name.1)
    (λ search. keys_at next before name.0 search.0 search.1)
    (key_tells (Awaits.SearchKey told left) (Awaits.KeyCount told left) name.1 (λ e. e) (λ f len can. (len, refl), λ f t h. (h.0, refl)))
    (λ search _. keys_tell next left before name.0 search.0 search.1)))

pub clients_tell : (next left : ℕ) (before : List ClientKeys) (bytes : List ℕ) → Tells (Awaits.NameLength (told_at next before) left) bytes (λ cs. Awaits.NameLength (told_at next cs) zero) (clients_at next left before bytes)
unfolding clients_at
clients_tell next zero before bytes = went_none (Awaits.NameLength (told_at next before) zero) bytes
clients_tell next (suc left) before bytes =
    tells_then (Awaits.NameLength (told_at next before) (suc left)) bytes (at_client next left before) (λ cs. Awaits.NameLength (told_at next cs) zero) (client_at next before bytes)
    (λ client. clients_at next left (before ++ client.0 ∷ []) client.1)
    (client_tells next left before bytes)
    (λ client _. clients_tell next left (before ++ client.0 ∷ []) client.1)

-- ---- the body

abbrev pub at_ring : RingState → Awaits
at_ring r = Awaits.NameLength (told_at r.next_id r.clients) zero

behind_tells : (token store audit bytes : List ℕ) → Tells Awaits.NextId bytes at_ring (ring_behind token store audit bytes)
behind_tells token store audit bytes =
    tells_then Awaits.NextId bytes (λ n. Awaits.ClientCount n) at_ring (next_id_at bytes)
    (λ next. client_count_at next.1 >>= λ count. clients_at next.0 count.0 [] count.1 >>= λ clients. Ok (restored_ring token store audit clients.0 next.0, clients.1))
    (next_tells bytes)
    (λ next _. tells_then (Awaits.ClientCount next.0) next.1 (λ n. Awaits.NameLength (told_at next.0 []) n) at_ring (client_count_at next.1)
    (λ count. clients_at next.0 count.0 [] count.1 >>= λ clients. Ok (restored_ring token store audit clients.0 next.0, clients.1))
    (many_tells next.0 next.1)
    (λ count _. tells_then (Awaits.NameLength (told_at next.0 []) count.0) count.1 (λ cs. Awaits.NameLength (told_at next.0 cs) zero) at_ring (clients_at next.0 count.0 [] count.1)
    (λ clients. Ok (restored_ring token store audit clients.0 next.0, clients.1))
    (clients_tell next.0 count.0 [] count.1)
    (λ clients _. went_none (Awaits.NameLength (told_at next.0 clients.0) zero) clients.1)))

own_tells : (s t : Awaits) (bytes : List ℕ) (f : List ℕ × List ℕ → Result (RingState × List ℕ) ℕ) → (IsEnd s → ⊥) → Rules s 32 (λ f. f) (λ f. true) (λ f. t) → ((x : List ℕ × List ℕ) → Tells t x.1 at_ring (f x)) → Tells s bytes at_ring (bytes_at 32 bytes >>= f)
own_tells s t bytes f going rules h = tells_then s bytes (λ f. t) at_ring (bytes_at 32 bytes) f (key_tells s t bytes going rules) (λ x _. h x)

pub ring_tells : (bytes : List ℕ) → Tells Awaits.TokenKey bytes at_ring (ring_at bytes)
unfolding ring_at
ring_tells bytes =
    own_tells Awaits.TokenKey Awaits.StoreKey bytes (λ token. bytes_at 32 token.1 >>= λ store. bytes_at 32 store.1 >>= λ audit. ring_behind token.0 store.0 audit.0 audit.1) (λ e. e) (λ f len can. (len, refl), λ f t h. (h.0, refl))
    (λ token. own_tells Awaits.StoreKey Awaits.AuditKey token.1 (λ store. bytes_at 32 store.1 >>= λ audit. ring_behind token.0 store.0 audit.0 audit.1) (λ e. e) (λ f len can. (len, refl), λ f t h. (h.0, refl))
    (λ store. own_tells Awaits.AuditKey Awaits.NextId store.1 (λ audit. ring_behind token.0 store.0 audit.0 audit.1) (λ e. e) (λ f len can. (len, refl), λ f t h. (h.0, refl))
    (λ audit. behind_tells token.0 store.0 audit.0 audit.1)))
