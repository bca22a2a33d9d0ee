-- How far fields reach.
use Rattle.std.proofs.Common.{◌≡◌, ℕ, ◌<◌, ◌≤◌, ltb, Bool, true, false, if◌then◌else◌, List, [], ◌∷◌, ◌++◌, length, take, drop, Result, Ok, Err, refl, sym, ap, subst, ◌∙◌, append_assoc, arith}
use Rattle.std.proofs.lemmas.Bool.{ltb-true, ltb-false}
use Rattle.std.proofs.lemmas.Grind.{flat_map-append}
use Rattle.std.proofs.lemmas.List.{append-nil, length-append, length-take, take_at, take-append-drop}
use Rattle.byte_reader.specs.Fields.{◌>>=◌, byte_at}
use Rattle.ring_file.specs.Reading.{judged}
use Rattle.ring_file.specs.Fields.{Awaits, Follows, Fields, joined, IsEnd, NoField}

-- fields lead from here to there
pub record Went (s : Awaits) (bytes : List ℕ) (t : Awaits) (rest : List ℕ) : Type 0 where
  pub fields : List (List ℕ)
  pub follow : Fields s fields t
  pub parts : bytes ≡ joined fields ++ rest

-- and to where none follows
pub record Stuck (s : Awaits) (bytes : List ℕ) (left : ℕ) : Type 0 where
  pub fields : List (List ℕ)
  pub at : Awaits
  pub follow : Fields s fields at
  pub rest : List ℕ
  pub parts : bytes ≡ joined fields ++ rest
  pub count : length rest ≡ left
  pub none : NoField at rest
  pub behind : IsEnd at → 0 < left

abbrev pub Tells : {A : Type 0} → Awaits → List ℕ → (A → Awaits) → Result (A × List ℕ) ℕ → Type 0
Tells s bytes after (Ok x) = Went s bytes (after x.0) x.1
Tells s bytes after (Err left) = Stuck s bytes left

pub fields_then : (s t u : Awaits) (fs gs : List (List ℕ)) → Fields s fs t → Fields t gs u → Fields s (fs ++ gs) u
fields_then s t u [] gs h k = subst (λ (v : Awaits). Fields v gs u) (sym h) k
fields_then s t u (f ∷ fs) gs h k = (h.0, h.1, fields_then h.0 t u fs gs h.2 k)

joined_then : (fs gs : List (List ℕ)) (a b c : List ℕ) → a ≡ joined fs ++ b → b ≡ joined gs ++ c → a ≡ joined (fs ++ gs) ++ c
joined_then fs gs a b c p q =
    p ∙ (ap (λ (t : List ℕ). joined fs ++ t) q ∙ (sym (append_assoc (joined fs) (joined gs) c) ∙ ap (λ (t : List ℕ). t ++ c) (sym (flat_map-append (λ (f : List ℕ). f) fs gs))))

pub went_none : (s : Awaits) (bytes : List ℕ) → Went s bytes s bytes
went_none s bytes = record { fields = []; follow = refl; parts = refl }

pub went_one : (s t : Awaits) (bytes field rest : List ℕ) → Follows s field t → bytes ≡ field ++ rest → Went s bytes t rest
went_one s t bytes field rest h e = record { fields = field ∷ []; follow = (t, h, refl); parts = e ∙ ap (λ (f : List ℕ). f ++ rest) (sym (append-nil field)) }

pub went_then : (s t u : Awaits) (a b c : List ℕ) → Went s a t b → Went t b u c → Went s a u c
went_then s t u a b c p q = record { fields = p.fields ++ q.fields; follow = fields_then s t u p.fields q.fields p.follow q.follow; parts = joined_then p.fields q.fields a b c p.parts q.parts }

pub went_stuck : (s t : Awaits) (a b : List ℕ) (left : ℕ) → Went s a t b → Stuck t b left → Stuck s a left
went_stuck s t a b left p q = record {
  fields = p.fields ++ q.fields;
  at = q.at;
  follow = fields_then s t q.at p.fields q.fields p.follow q.follow;
  rest = q.rest;
  parts = joined_then p.fields q.fields a b q.rest p.parts q.parts;
  count = q.count;
  none = q.none;
  behind = q.behind;
}

pub stuck_here : (s : Awaits) (bytes : List ℕ) → NoField s bytes → (IsEnd s → 0 < length bytes) → Stuck s bytes (length bytes)
stuck_here s bytes none behind = record { fields = []; at = s; follow = refl; rest = bytes; parts = refl; count = refl; none = none; behind = behind }

tells_behind : {B : Type 0} (s t : Awaits) (a b : List ℕ) (ends : B → Awaits) (q : Result (B × List ℕ) ℕ) → Went s a t b → Tells t b ends q → Tells s a ends q
tells_behind s t a b ends (Ok y) p q = went_then s t (ends y.0) a b y.1 p q
tells_behind s t a b ends (Err left) p q = went_stuck s t a b left p q

-- a reading, and another behind it
pub tells_then : {A B : Type 0} (s : Awaits) (bytes : List ℕ) (after : A → Awaits) (ends : B → Awaits) (r : Result (A × List ℕ) ℕ) (f : A × List ℕ → Result (B × List ℕ) ℕ)
    → Tells s bytes after r → ((x : A × List ℕ) → r ≡ Ok x → Tells (after x.0) x.1 ends (f x)) → Tells s bytes ends (r >>= f)
tells_then s bytes after ends (Ok x) f h g = tells_behind s (after x.0) bytes x.1 ends (f x) h (g x refl)
tells_then s bytes after ends (Err left) f h g = h

-- ---- a field

pub judged_tells : {A : Type 0} (c : Bool) (s : Awaits) (bytes field : List ℕ) (x : A × List ℕ) (after : A → Awaits) → (IsEnd s → ⊥) → bytes ≡ field ++ x.1
    → (c ≡ true → Follows s field (after x.0)) → (c ≡ false → NoField s bytes) → Tells s bytes after (judged c (length bytes) x)
judged_tells true s bytes field x after going parts hold fail = went_one s (after x.0) bytes field x.1 (hold refl) parts
judged_tells false s bytes field x after going parts hold fail = stuck_here s bytes (fail refl) (λ e. absurd (going e))

-- a field of n bytes, where it can be so
abbrev pub read_so : {A : Type 0} → ℕ → (List ℕ → A) → (List ℕ → Bool) → List ℕ → Result (A × List ℕ) ℕ
read_so n value can bytes = if ltb (length bytes) n then Err (length bytes) else judged (can (take n bytes)) (length bytes) (value (take n bytes), drop n bytes)

abbrev pub Rules : {A : Type 0} → Awaits → ℕ → (List ℕ → A) → (List ℕ → Bool) → (A → Awaits) → Type 0
Rules s n value can after = ((f : List ℕ) → length f ≡ n → can f ≡ true → Follows s f (after (value f))) × ((f : List ℕ) (t : Awaits) → Follows s f t → (length f ≡ n) × (can f ≡ true))

no_short : (s : Awaits) (n : ℕ) (can : List ℕ → Bool) (bytes : List ℕ) → ((f : List ℕ) (t : Awaits) → Follows s f t → (length f ≡ n) × (can f ≡ true)) → length bytes < n → NoField s bytes
no_short s n can bytes rule short field more after h e = let len = (rule field after h).0 in omega (arith, ap length e, length-append field more, len, short)

no_other : (s : Awaits) (n : ℕ) (can : List ℕ → Bool) (bytes : List ℕ) → ((f : List ℕ) (t : Awaits) → Follows s f t → (length f ≡ n) × (can f ≡ true)) → can (take n bytes) ≡ false → NoField s bytes
no_other s n can bytes rule cannot field more after h e =
    let r = rule field after h in
    let front : take n bytes ≡ field = ap (take n) e ∙ take_at field more n r.0 in
    let both : true ≡ false = sym r.1 ∙ (ap can (sym front) ∙ cannot) in
    cc both

by_length : {A : Type 0} (b : Bool) (s : Awaits) (n : ℕ) (value : List ℕ → A) (can : List ℕ → Bool) (after : A → Awaits) (bytes : List ℕ) → (IsEnd s → ⊥) → Rules s n value can after → ltb (length bytes) n ≡ b
    → Tells s bytes after (if b then Err (length bytes) else judged (can (take n bytes)) (length bytes) (value (take n bytes), drop n bytes))
by_length true s n value can after bytes going rules e = stuck_here s bytes (no_short s n can bytes rules.1 (ltb-true _ _ e)) (λ end. absurd (going end))
by_length false s n value can after bytes going rules e =
    let long : n ≤ length bytes = ltb-false _ _ e in
    judged_tells (can (take n bytes)) s bytes (take n bytes) (value (take n bytes), drop n bytes) after going (sym (take-append-drop n bytes))
    (λ c. rules.0 (take n bytes) (omega (arith, length-take n bytes, long)) c)
    (λ c. no_other s n can bytes rules.1 c)

pub so_tells : {A : Type 0} (s : Awaits) (n : ℕ) (value : List ℕ → A) (can : List ℕ → Bool) (after : A → Awaits) (bytes : List ℕ) → (IsEnd s → ⊥) → Rules s n value can after → Tells s bytes after (read_so n value can bytes)
so_tells s n value can after bytes going rules = by_length (ltb (length bytes) n) s n value can after bytes going rules refl

pub bind_if : {A B : Type 0} (b : Bool) (left : ℕ) (x : A) (f : A → Result B ℕ) → ((if b then Err left else Ok x) >>= f) ≡ (if b then Err left else f x)
bind_if true left x f = refl
bind_if false left x f = refl

-- a field of one byte
pub byte_tells : {A : Type 0} (s : Awaits) (after : A → Awaits) (f : List ℕ → ℕ × List ℕ → Result (A × List ℕ) ℕ) (bytes : List ℕ) → (IsEnd s → ⊥) → ((g : List ℕ) (t : Awaits) → Follows s g t → length g ≡ 1)
    → ((b : ℕ) (rest : List ℕ) → Tells s (b ∷ rest) after (f (b ∷ rest) (b, rest))) → Tells s bytes after (byte_at bytes >>= f bytes)
byte_tells s after f [] going one h = stuck_here s [] (λ g more t k e. omega (arith, ap length e, length-append g more, one g t k)) (λ end. absurd (going end))
byte_tells s after f (b ∷ rest) going one h = h b rest
