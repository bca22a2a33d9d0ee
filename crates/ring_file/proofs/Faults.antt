-- Where a body can't be read is the one place at which its fields end.
use Rattle.std.proofs.Common.{◌≡◌, ℕ, zero, suc, ◌+◌, ◌-◌, ◌<◌, Bool, true, false, eqb, List, [], ◌∷◌, ◌++◌, length, take, drop, get_or, Result, Ok, Err, refl, sym, ap, subst, ◌∙◌, append_assoc, arith, inl, inr}
use Rattle.std.proofs.lemmas.Bool.{eqb-true}
use Rattle.std.proofs.lemmas.List.{append-nil, length-append, length-drop, take_at, drop_at, take-append-drop}
use Rattle.keystore.specs.Rings.{RingState}
use Rattle.byte_reader.specs.Fields.{◌>>=◌, alone}
use Rattle.ring_file.specs.Form.{ring_body, IsFileRing}
use Rattle.ring_file.specs.Reading.{ring_at, ring_read}
use Rattle.ring_file.specs.Fields.{Awaits, Follows, Fields, joined, IsEnd, IsWhole, NoField, IsFaultPlace}
use Rattle.ring_file.proofs.Bodies.{body_takes, body_again}
use Rattle.ring_file.proofs.Walks.{Stuck, Tells}
use Rattle.ring_file.proofs.Along.{at_ring, ring_tells}

abbrev failed : {A : Type 0} → ℕ → Result A ℕ
failed left = Err left

err_is : {A : Type 0} (l left : ℕ) → failed {A = A} l ≡ failed left → l ≡ left
err_is l left e = cc

-- ---- a reading that failed

alone_err : (x : RingState × List ℕ) (left : ℕ) (b : Bool) → eqb (length x.1) 0 ≡ b → alone x ≡ Err left → (length x.1 ≡ left) × (0 < left)
alone_err x left true e h = absurd (cc (rw e at h))
alone_err x left false e h =
    let same : length x.1 ≡ left = err_is (length x.1) left (rw e at h) in
    (same, positive (length x.1) left same e) where
      positive : (n left : ℕ) → n ≡ left → eqb n 0 ≡ false → 0 < left
      positive zero left p q = absurd (cc q)
      positive (suc n) left p q = omega (arith, p)

stuck_by : (body : List ℕ) (r : Result (RingState × List ℕ) ℕ) (left : ℕ) → Tells Awaits.TokenKey body at_ring r → (r >>= alone) ≡ Err left → Stuck Awaits.TokenKey body left
stuck_by body (Ok x) left h e =
    let rest = alone_err x left (eqb (length x.1) 0) refl e in
    record { fields = h.fields; at = at_ring x.0; follow = h.follow; rest = x.1; parts = h.parts; count = rest.0; none = λ field more after k p. absurd k; behind = λ end. rest.1 }
stuck_by body (Err l) left h e = subst (Stuck Awaits.TokenKey body) (err_is l left e) h

fault_of : (body : List ℕ) (left : ℕ) → Stuck Awaits.TokenKey body left → IsFaultPlace body (length body - left)
fault_of body left s =
    let place = length body - left in
    let whole : length body ≡ length (joined s.fields) + length s.rest = ap length s.parts ∙ length-append (joined s.fields) s.rest in
    let here : length (joined s.fields) ≡ place = omega (arith, whole, s.count) in
    let front : take place body ≡ joined s.fields = ap (take place) s.parts ∙ take_at (joined s.fields) s.rest place here in
    let behind : drop place body ≡ s.rest = ap (drop place) s.parts ∙ drop_at (joined s.fields) s.rest place here in
    record {
      fields = s.fields;
      at = s.at;
      follow = s.follow;
      before = front;
      within = omega arith;
      none = subst (NoField s.at) (sym behind) s.none;
      behind = λ end. let more = s.behind end in omega (arith, more, whole, s.count);
    }

pub fault_place : (body : List ℕ) (left : ℕ) → ring_read body ≡ Err left → IsFaultPlace body (length body - left)
unfolding ring_read
fault_place body left e = fault_of body left (stuck_by body (ring_at body) left (ring_tells body) e)

-- ---- a reading that didn't

whole_by : (body : List ℕ) (r : Result (RingState × List ℕ) ℕ) (ring : RingState) → Tells Awaits.TokenKey body at_ring r → (r >>= alone) ≡ Ok ring → IsWhole body
whole_by body (Ok x) ring h e = record { fields = h.fields; at = at_ring x.0; follow = h.follow; ended = tt; parts = h.parts ∙ (ap (λ (t : List ℕ). joined h.fields ++ t) (none_left x.1 (ended (eqb (length x.1) 0) refl e)) ∙ append-nil (joined h.fields)) } where
  ended : (b : Bool) → eqb (length x.1) 0 ≡ b → alone x ≡ Ok ring → length x.1 ≡ 0
  ended true p q = eqb-true _ _ p
  ended false p q = absurd (cc (rw p at q))

  none_left : (xs : List ℕ) → length xs ≡ 0 → xs ≡ []
  none_left [] p = refl
  none_left (x ∷ xs) p = absurd (omega (arith, p))
whole_by body (Err l) ring h e = absurd cc

pub read_whole : (body : List ℕ) (ring : RingState) → ring_read body ≡ Ok ring → IsWhole body
unfolding ring_read
read_whole body ring e = whole_by body (ring_at body) ring (ring_tells body) e

pub ring_whole : (r : RingState) → IsFileRing r → IsWhole (ring_body r)
ring_whole r is = read_whole (ring_body r) r (body_again r is)

-- ---- fields are of one length, and one thing is awaited behind them

wide : Awaits → ℕ
wide Awaits.TokenKey = 32
wide Awaits.StoreKey = 32
wide Awaits.AuditKey = 32
wide Awaits.NextId = 8
wide (Awaits.ClientCount next) = 2
wide (Awaits.NameLength told left) = 1
wide (Awaits.Name told left count) = count
wide (Awaits.SearchKey told left) = 32
wide (Awaits.KeyCount told left) = 2
wide (Awaits.Id told left more) = 8
wide (Awaits.Phase told left more) = 1
wide (Awaits.KeyBytes told left more) = 32

one_byte : (field : List ℕ) (b : ℕ) → field ≡ b ∷ [] → length field ≡ 1
one_byte field b e = ap length e

is_wide : (s t : Awaits) (f : List ℕ) → Follows s f t → length f ≡ wide s
unfolding wide
is_wide Awaits.TokenKey t f h = h.0
is_wide Awaits.StoreKey t f h = h.0
is_wide Awaits.AuditKey t f h = h.0
is_wide Awaits.NextId t f h = h.0
is_wide (Awaits.ClientCount next) t f h = h.0
is_wide (Awaits.NameLength told zero) t f h = absurd h
is_wide (Awaits.NameLength told (suc left)) t f h = one_byte f h.0 h.1
is_wide (Awaits.Name told left count) t f h = h.0
is_wide (Awaits.SearchKey told left) t f h = h.0
is_wide (Awaits.KeyCount told left) t f h = h.0
is_wide (Awaits.Id told left more) t f h = h.0
is_wide (Awaits.Phase told left zero) t f h = one_byte f 0 h.0
is_wide (Awaits.Phase told left (suc more)) t f h = elim h.0 [ inl e ↦ one_byte f 1 e | inr e ↦ one_byte f 2 e ]
is_wide (Awaits.KeyBytes told left zero) t f h = h.0
is_wide (Awaits.KeyBytes told left (suc more)) t f h = h.0

same_byte : (f : List ℕ) (b c : ℕ) → f ≡ b ∷ [] → f ≡ c ∷ [] → b ≡ c
same_byte f b c p q = let e : b ∷ [] ≡ c ∷ [] = sym p ∙ q in cc

one_next : (s t u : Awaits) (f : List ℕ) → Follows s f t → Follows s f u → t ≡ u
one_next Awaits.TokenKey t u f h k = h.1 ∙ sym k.1
one_next Awaits.StoreKey t u f h k = h.1 ∙ sym k.1
one_next Awaits.AuditKey t u f h k = h.1 ∙ sym k.1
one_next Awaits.NextId t u f h k = h.2 ∙ sym k.2
one_next (Awaits.ClientCount next) t u f h k = h.2 ∙ sym k.2
one_next (Awaits.NameLength told zero) t u f h k = absurd h
one_next (Awaits.NameLength told (suc left)) t u f h k = h.4 ∙ (ap (λ (n : ℕ). Awaits.Name told left n) (same_byte f h.0 k.0 h.1 k.1) ∙ sym k.4)
one_next (Awaits.Name told left count) t u f h k = h.3 ∙ sym k.3
one_next (Awaits.SearchKey told left) t u f h k = h.1 ∙ sym k.1
one_next (Awaits.KeyCount told left) t u f h k = h.3 ∙ sym k.3
one_next (Awaits.Id told left more) t u f h k = h.4 ∙ sym k.4
one_next (Awaits.Phase told left zero) t u f h k = h.1 ∙ sym k.1
one_next (Awaits.Phase told left (suc more)) t u f h k = h.1 ∙ sym k.1
one_next (Awaits.KeyBytes told left zero) t u f h k = h.1 ∙ sym k.1
one_next (Awaits.KeyBytes told left (suc more)) t u f h k = h.1 ∙ sym k.1

front_same : (n : ℕ) (f g x y : List ℕ) → length f ≡ n → length g ≡ n → f ++ x ≡ g ++ y → (f ≡ g) × (x ≡ y)
front_same n f g x y p q e =
    (sym (take_at f x n p) ∙ (ap (take n) e ∙ take_at g y n q), sym (drop_at f x n p) ∙ (ap (drop n) e ∙ drop_at g y n q))

ends_whole : (s : Awaits) (f : List ℕ) (t : Awaits) → IsEnd s → Follows s f t → ⊥
ends_whole Awaits.TokenKey f t e h = e
ends_whole Awaits.StoreKey f t e h = e
ends_whole Awaits.AuditKey f t e h = e
ends_whole Awaits.NextId f t e h = e
ends_whole (Awaits.ClientCount next) f t e h = e
ends_whole (Awaits.NameLength told zero) f t e h = h
ends_whole (Awaits.NameLength told (suc left)) f t e h = e
ends_whole (Awaits.Name told left count) f t e h = e
ends_whole (Awaits.SearchKey told left) f t e h = e
ends_whole (Awaits.KeyCount told left) f t e h = e
ends_whole (Awaits.Id told left more) f t e h = e
ends_whole (Awaits.Phase told left more) f t e h = e
ends_whole (Awaits.KeyBytes told left more) f t e h = e

-- two ways along the same bytes, behind which no field follows, come to one place
pub record Same (t u : Awaits) (x y : List ℕ) : Type 0 where
  pub at : t ≡ u
  pub rest : x ≡ y

same_end : (s t u : Awaits) (fs gs : List (List ℕ)) (x y : List ℕ) → Fields s fs t → Fields s gs u → NoField t x → NoField u y → joined fs ++ x ≡ joined gs ++ y → Same t u x y
same_end s t u [] [] x y h k n m e = record { at = sym h ∙ k; rest = e }
same_end s t u [] (g ∷ gs) x y h k n m e = absurd (subst (λ (v : Awaits). NoField v x) (sym h) n g (joined gs ++ y) k.0 k.1 (e ∙ append_assoc g (joined gs) y))
same_end s t u (f ∷ fs) [] x y h k n m e = absurd (subst (λ (v : Awaits). NoField v y) (sym k) m f (joined fs ++ x) h.0 h.1 (sym e ∙ append_assoc f (joined fs) x))
same_end s t u (f ∷ fs) (g ∷ gs) x y h k n m e =
    let parts : f ++ (joined fs ++ x) ≡ g ++ (joined gs ++ y) = sym (append_assoc f (joined fs) x) ∙ (e ∙ append_assoc g (joined gs) y) in
    let front = front_same (wide s) f g (joined fs ++ x) (joined gs ++ y) (is_wide s h.0 f h.1) (is_wide s k.0 g k.1) parts in
    let next : h.0 ≡ k.0 = one_next s h.0 k.0 f h.1 (subst (λ (d : List ℕ). Follows s d k.0) (sym front.0) k.1) in
    same_end h.0 t u fs gs x y h.2 (subst (λ (v : Awaits). Fields v gs u) (sym next) k.2) n m front.1

cut_at : (body : List ℕ) (place : ℕ) (fields : List (List ℕ)) → take place body ≡ joined fields → body ≡ joined fields ++ drop place body
cut_at body place fields e = sym (take-append-drop place body) ∙ ap (λ (t : List ℕ). t ++ drop place body) e

pub one_place : (body : List ℕ) (a b : ℕ) → IsFaultPlace body a → IsFaultPlace body b → a ≡ b
one_place body a b p q =
    let pa = cut_at body a p.fields p.before in
    let pb = cut_at body b q.fields q.before in
    let same = same_end Awaits.TokenKey p.at q.at p.fields q.fields (drop a body) (drop b body) p.follow q.follow p.none q.none (sym pa ∙ pb) in
    omega (arith, ap length same.rest, length-drop a body, length-drop b body, p.within, q.within)

pub whole_no_fault : (body : List ℕ) (place : ℕ) → IsWhole body → IsFaultPlace body place → ⊥
whole_no_fault body place w p =
    let cut = cut_at body place p.fields p.before in
    let none : NoField w.at [] = λ field more after h e. ends_whole w.at field after w.ended h in
    let same = same_end Awaits.TokenKey w.at p.at w.fields p.fields [] (drop place body) w.follow p.follow none p.none (append-nil (joined w.fields) ∙ (sym w.parts ∙ cut)) in
    let more = p.behind (subst IsEnd same.at w.ended) in
    omega (arith, ap length same.rest, length-drop place body, more)

spelled_by : (body : List ℕ) (r : Result RingState ℕ) → ((i : ℕ) → get_or body i 0 < 256) → ring_read body ≡ r → IsWhole body → (ring : RingState) × IsFileRing ring × (body ≡ ring_body ring)
spelled_by body (Ok ring) fits e w = let t = body_takes body ring fits e in (ring, t.0, t.1)
spelled_by body (Err left) fits e w = absurd (whole_no_fault body (length body - left) w (fault_place body left e))

pub whole_spelled : (body : List ℕ) → ((i : ℕ) → get_or body i 0 < 256) → IsWhole body → (ring : RingState) × IsFileRing ring × (body ≡ ring_body ring)
whole_spelled body fits w = spelled_by body (ring_read body) fits refl w
