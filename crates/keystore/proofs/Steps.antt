-- What the calls on clients answer, and what they leave.
use Rattle.std.proofs.Common.{◌≡◌, ◌≢◌, ℕ, ◌<◌, ◌≤◌, ◌+◌, ◌-◌, ◌^◌, ◌⊎◌, ◌||◌, nat_le, true, false, List, [], ◌∷◌, length, get_or, set, Some, Ok, Err, refl, ap, sym, subst, ◌∙◌, arith, inl, inr}
use Rattle.std.specs.List.{insert}
use Rattle.std.proofs.lemmas.Bool.Decides.{nat_tests}
use Rattle.keystore.specs.declared.refusals.AddRefusal.TheVariants as no_add
use Rattle.keystore.specs.declared.refusals.RotateRefusal.TheVariants as no_rotation
use Rattle.keystore.specs.declared.keys.NewKeys.{NewKeys}
use Rattle.keystore.specs.Lists.{first}
use Rattle.keystore.specs.Rings.{ClientKeys, RingState, is_named, changed, rotated}
use Rattle.keystore.specs.Answers.{Answers, is_last, add_refusal, new_client, with_client, full_or_last, rotate_refusal, with_rotation}
use Rattle.keystore.specs.Places.{Fits, IsClientAt}
use Rattle.keystore.proofs.Items.{first_at, edited_none}
use Rattle.keystore.proofs.Names.{stands_at, absent, added_at}
use Rattle.keystore.proofs.Edits.{edit_sets}

nobody : ClientKeys
nobody = record { name = []; search = []; id = 0; key = []; past = [] }

full_test : (n id : ℕ) → (256 ≤ n) ⊎ (id ≡ 2 ^ 64 - 1) → (nat_le 256 n || is_last id) ≡ true
full_test n id (inl h) = grind (arith, nat_tests)
full_test n id (inr h) = grind (arith, nat_tests)

room_test : (n id : ℕ) → n < 256 → id ≢ 2 ^ 64 - 1 → (nat_le 256 n || is_last id) ≡ false
room_test n id h k = grind (arith, nat_tests)

-- s is the view of the fields, and r the ring
module _ (s r : RingState) (e : s ≡ r) (who : List ℕ) where
  pub add_exists : (i : ℕ) → IsClientAt who s.clients i → Answers {T = ℕ} (add_refusal r who) no_add.NoMemory (λ id. id ≡ r.next_id) (Err no_add.Exists)
  add_exists i h = subst (λ (q : RingState). Answers {T = ℕ} (add_refusal q who) no_add.NoMemory (λ id. id ≡ q.next_id) (Err no_add.Exists)) e
      (rw (first_at (is_named who) s.clients i nobody (stands_at who s.clients i h)) refl)

  pub add_many : (i : ℕ) → Fits who s.clients i → (256 ≤ length s.clients) ⊎ (s.next_id ≡ 2 ^ 64 - 1) → Answers {T = ℕ} (add_refusal r who) no_add.NoMemory (λ id. id ≡ r.next_id) (Err no_add.TooMany)
  add_many i h many = subst (λ (q : RingState). Answers {T = ℕ} (add_refusal q who) no_add.NoMemory (λ id. id ≡ q.next_id) (Err no_add.TooMany)) e
      (rw (absent who s.clients i h) (rw (full_test (length s.clients) s.next_id many) refl))

  pub add_no_memory : (i : ℕ) → Fits who s.clients i → length s.clients < 256 → s.next_id ≢ 2 ^ 64 - 1 → Answers {T = ℕ} (add_refusal r who) no_add.NoMemory (λ id. id ≡ r.next_id) (Err no_add.NoMemory)
  add_no_memory i h small more = subst (λ (q : RingState). Answers {T = ℕ} (add_refusal q who) no_add.NoMemory (λ id. id ≡ q.next_id) (Err no_add.NoMemory)) e
      (rw (absent who s.clients i h) (rw (room_test (length s.clients) s.next_id small more) refl))

  pub add_done : (i : ℕ) → Fits who s.clients i → length s.clients < 256 → s.next_id ≢ 2 ^ 64 - 1 → Answers {T = ℕ} (add_refusal r who) no_add.NoMemory (λ id. id ≡ r.next_id) (Ok s.next_id)
  add_done i h small more = subst (λ (q : RingState). Answers {T = ℕ} (add_refusal q who) no_add.NoMemory (λ id. id ≡ q.next_id) (Ok s.next_id)) e
      (rw (absent who s.clients i h) (rw (room_test (length s.clients) s.next_id small more) refl))

  pub add_leaves : (i : ℕ) (keys : NewKeys) (cs : List ClientKeys) → Fits who s.clients i → cs ≡ insert s.clients i (new_client s who keys) → record s { clients = cs; next_id = s.next_id + 1 } ≡ with_client r who keys
  add_leaves i keys cs h is = subst (λ (q : RingState). record s { clients = cs; next_id = s.next_id + 1 } ≡ with_client q who keys) e
      (ap (λ (ds : List ClientKeys). record s { clients = ds; next_id = s.next_id + 1 }) (is ∙ sym (added_at (new_client s who keys) s.clients i h)))

full_keys : (r : RingState) (c : ClientKeys) → (255 ≤ length c.past) ⊎ (r.next_id ≡ 2 ^ 64 - 1) → full_or_last r c ≡ true
full_keys r c (inl h) = grind (arith, nat_tests)
full_keys r c (inr h) = grind (arith, nat_tests)

room_keys : (r : RingState) (c : ClientKeys) → length c.past < 255 → r.next_id ≢ 2 ^ 64 - 1 → full_or_last r c ≡ false
room_keys r c h k = grind (arith, nat_tests)

module _ (s r : RingState) (e : s ≡ r) (who : List ℕ) where
  pub rotate_nobody : (i : ℕ) → Fits who s.clients i → Answers {T = ℕ} (rotate_refusal r who) no_rotation.NoMemory (λ id. id ≡ r.next_id) (Err no_rotation.NoClient)
  rotate_nobody i h = subst (λ (q : RingState). Answers {T = ℕ} (rotate_refusal q who) no_rotation.NoMemory (λ id. id ≡ q.next_id) (Err no_rotation.NoClient)) e
      (rw (absent who s.clients i h) refl)

  module _ (i : ℕ) (c : ClientKeys) (h : IsClientAt who s.clients i) (is : c ≡ get_or s.clients i c) where
    pub rotate_found : first (is_named who) s.clients ≡ Some c
    rotate_found = first_at (is_named who) s.clients i c (stands_at who s.clients i h) ∙ ap Some (sym is)

    pub rotate_many : (255 ≤ length c.past) ⊎ (s.next_id ≡ 2 ^ 64 - 1) → Answers {T = ℕ} (rotate_refusal r who) no_rotation.NoMemory (λ id. id ≡ r.next_id) (Err no_rotation.TooMany)
    rotate_many many = subst (λ (q : RingState). Answers {T = ℕ} (rotate_refusal q who) no_rotation.NoMemory (λ id. id ≡ q.next_id) (Err no_rotation.TooMany)) e
        (rw rotate_found (rw (full_keys s c many) refl))

    pub rotate_no_memory : length c.past < 255 → s.next_id ≢ 2 ^ 64 - 1 → Answers {T = ℕ} (rotate_refusal r who) no_rotation.NoMemory (λ id. id ≡ r.next_id) (Err no_rotation.NoMemory)
    rotate_no_memory small more = subst (λ (q : RingState). Answers {T = ℕ} (rotate_refusal q who) no_rotation.NoMemory (λ id. id ≡ q.next_id) (Err no_rotation.NoMemory)) e
        (rw rotate_found (rw (room_keys s c small more) refl))

    pub rotate_done : length c.past < 255 → s.next_id ≢ 2 ^ 64 - 1 → Answers {T = ℕ} (rotate_refusal r who) no_rotation.NoMemory (λ id. id ≡ r.next_id) (Ok s.next_id)
    rotate_done small more = subst (λ (q : RingState). Answers {T = ℕ} (rotate_refusal q who) no_rotation.NoMemory (λ id. id ≡ q.next_id) (Ok s.next_id)) e
        (rw rotate_found (rw (room_keys s c small more) refl))

    -- one client changed at its place
    pub set_changed : (f : ClientKeys → ClientKeys) (d : ClientKeys) → d ≡ f c → set s.clients i d ≡ changed who f s.clients
    set_changed f d g = edit_sets (is_named who) (λ x. f x ∷ []) s.clients i c (stands_at who s.clients i h) is d (ap (λ (x : ClientKeys). x ∷ []) (sym g))

    pub rotate_leaves : (key : List ℕ) (d : ClientKeys) → d ≡ rotated s.next_id key s.next_ticket c → record s { clients = set s.clients i d; next_id = s.next_id + 1 } ≡ with_rotation r who key
    rotate_leaves key d g = subst (λ (q : RingState). record s { clients = set s.clients i d; next_id = s.next_id + 1 } ≡ with_rotation q who key) e
        (ap (λ (ds : List ClientKeys). record s { clients = ds; next_id = s.next_id + 1 }) (set_changed (rotated s.next_id key s.next_ticket) d g))

-- one client changed, or none where it isn't there
module _ (s r : RingState) (e : s ≡ r) (who : List ℕ) (f : RingState → ClientKeys → ClientKeys) where
  pub change_leaves : (i : ℕ) (c d : ClientKeys) → IsClientAt who s.clients i → c ≡ get_or s.clients i c → d ≡ f s c → record s { clients = set s.clients i d } ≡ record r { clients = changed who (f r) r.clients }
  change_leaves i c d h is g = subst (λ (q : RingState). record s { clients = set s.clients i d } ≡ record q { clients = changed who (f q) q.clients }) e
      (ap (λ (cs : List ClientKeys). record s { clients = cs }) (set_changed s s refl who i c h is (f s) d g))

  pub change_nobody : (i : ℕ) → Fits who s.clients i → r ≡ record r { clients = changed who (f r) r.clients }
  change_nobody i h = subst (λ (q : RingState). q ≡ record q { clients = changed who (f q) q.clients }) e
      (ap (λ (cs : List ClientKeys). record s { clients = cs }) (sym (edited_none (is_named who) (λ c. f s c ∷ []) s.clients (absent who s.clients i h))))
