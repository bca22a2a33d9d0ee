-- The sizes of settings that break no rule, and the numbers of a refusal's place.
use Rattle.std.proofs.Common.{◌≡◌, ◌<◌, ◌≤◌, ◌==◌, inl, inr, ℕ, zero, suc, ◌+◌, ◌-◌, List, [], ◌∷◌, ◌++◌, length, length-append, Bool, true, false, refl, sym, ap, ◌∙◌, subst, arith, Option, Some, None, true≢false, nat_lt, lit<}
use Rattle.std.specs.Prelude.{◌||◌}
use Rattle.std.specs.List.{slice_get, HoldsAt}
use Rattle.std.specs.Option.{option_map_or}
use Rattle.std.proofs.lemmas.Bool.{cases_lt, cases_eq, or_parts, ltb-false, ne_eqb}
use Rattle.serde_json.specs.Data.{Data}
use Rattle.json_rules.specs.Places.{IsLeast, IsUnbroken, IsBefore}
use Rattle.json_rules.specs.Found.{IsLeastOf, AreUnbroken}
use Rattle.json_rules.specs.Order.{Fits16}
use Rattle.json_rules.specs.Past.{at_index, none_past}
use Rattle.json_rules.specs.declared.place.Place.{Place}
use Rattle.json_rules.specs.declared.place.Place.TheVariants.{Text, Entry, Part}
use Rattle.censor.specs.declared.handler.Handler.{Handler}
use Rattle.censor.specs.declared.handler.Entry as handlers_entry
use Rattle.censor.specs.declared.entries.List.TheVariants as list
use Rattle.censor.specs.Sizes.{AreFew, HasSizes}
use Rattle.censor.specs.Settings.{AreAll, IsEntry, IsHandler, AreHandlers}
use Rattle.censor.specs.Rules.{is_too_large, breaks, handler_breaks, entry_breaks}
use Rattle.censor.specs.Reads.{HasHandlers, IsRefusal, IsCensor, refusal_at}

-- ---- a test at an index

pub never : {X : Type 0} (test : X → Bool) (xs : List X) (i : ℕ) → ((x : X) → test x ≡ false) → at_index test xs i ≡ false
never test xs i h = by (slice_get xs i)
  where
    by : (o : Option _) → option_map_or test o false ≡ false
    by None = refl
    by (Some x) = h x

-- a test that holds at an index holds within the list
pub within : {X : Type 0} (test : X → Bool) (xs : List X) (i : ℕ) → at_index test xs i ≡ true → i < length xs
within test xs i h = elim (cases_lt i (length xs)) [ inl low ↦ low | inr past ↦ absurd (true≢false (sym h ∙ none_past test xs i (omega arith))) ]

-- ---- rules that there are not

low_handler : (r : ℕ) (h : Handler) → r < 2 → handler_breaks r h ≡ false
low_handler zero h k = refl
low_handler (suc zero) h k = refl
low_handler (suc (suc r)) h k = absurd (omega arith)

low_entry : (r : ℕ) (e : handlers_entry.Entry) → r < 2 → entry_breaks r e ≡ false
low_entry zero e k = refl
low_entry (suc zero) e k = refl
low_entry (suc (suc r)) e k = absurd (omega arith)

pub low_rules : (hs : List Handler) (r : ℕ) → r < 2 → (q : Place) → breaks hs r q ≡ false
low_rules hs zero k Text = refl
low_rules hs (suc zero) k Text = refl
low_rules hs (suc (suc r)) k Text = absurd (omega arith)
low_rules hs r k (Part i) = never (handler_breaks r) hs i (λ h. low_handler r h k)
low_rules hs r k (Entry i j) = never (λ h. at_index (entry_breaks r) h.entries j) hs i (λ h. never (entry_breaks r) h.entries j (λ e. low_entry r e k))

module _ (r : ℕ) (past : 7 ≤ r) where
  other : (n : ℕ) → n < 7 → (r == n) ≡ false
  other n low = ne_eqb r n (λ same. absurd (omega arith))

  high_rules : (hs : List Handler) (q : Place) → breaks hs r q ≡ false
  high_rules hs Text = rw (other 2 (lit< tt)) refl
  high_rules hs (Part i) = never (handler_breaks r) hs i (λ h. rw (other 2 (lit< tt), other 3 (lit< tt), other 4 (lit< tt)) refl)
  high_rules hs (Entry i j) =
      never (λ h. at_index (entry_breaks r) h.entries j) hs i (λ h. never (entry_breaks r) h.entries j (λ e. rw (other 3 (lit< tt), other 5 (lit< tt), other 6 (lit< tt)) refl))

pub all_unbroken : (hs : List Handler) → AreUnbroken (breaks hs) 2 7 → IsUnbroken (breaks hs)
all_unbroken hs h r q = elim (cases_lt r 2) [
  | inl low ↦ low_rules hs r low q
  | inr more ↦ elim (cases_lt r 7) [ inl high ↦ h r q (omega arith) high | inr past ↦ high_rules r (omega arith) hs q ]
]

pub least_of_all : (hs : List Handler) (rule : ℕ) (place : Place) → IsLeastOf (breaks hs) 2 7 rule place → IsLeast (breaks hs) rule place
least_of_all hs rule place h = record {
  here = h.here;
  least = λ r q low. elim (cases_lt r 2) [ inl two ↦ low_rules hs r two q | inr more ↦ h.least r q (omega arith) low ];
}

-- ---- sizes

few : (hs : List Handler) → breaks hs 2 Text ≡ false → length hs ≤ 256
few hs h = ltb-false 256 (length hs) h

-- in each of the three lists
abbrev Three : Handler → Type 0
Three h = (h.queries ≤ 1024) × (h.tables ≤ 1024) × (length h.entries - h.queries - h.tables ≤ 1024)

three : (h : Handler) → is_too_large h ≡ false → Three h
three h small =
    let patterns = length h.entries - h.queries - h.tables in
    let a = or_parts (nat_lt 1024 h.queries || nat_lt 1024 h.tables) (nat_lt 1024 patterns) small in
    let b = or_parts (nat_lt 1024 h.queries) (nat_lt 1024 h.tables) a.0 in
    (ltb-false 1024 h.queries b.0, ltb-false 1024 h.tables b.1, ltb-false 1024 patterns a.1)

same_length : {A B : Type 0} (R : A → B → Type 0) (xs : List A) (ys : List B) → AreAll R xs ys → length xs ≡ length ys
same_length R [] [] h = refl
same_length R [] (y ∷ ys) h = absurd h
same_length R (x ∷ xs) [] h = absurd h
same_length R (x ∷ xs) (y ∷ ys) h = let more = same_length R xs ys h.1 in omega arith

counted : (d : Data) (h : Handler) → IsHandler d h → h.queries + h.tables ≤ length h.entries
counted d h is =
    let es = is.entries in
    let q = same_length (IsEntry list.Queries) _ _ es.are_queries in
    let t = same_length (IsEntry list.Tables) _ _ es.are_tables in
    let whole = ap length es.whole in
    let one = length-append es.queries (es.tables ++ es.patterns) in
    let two = length-append es.tables es.patterns in
    let a = is.queries in
    let b = is.tables in
    omega arith

few_at : (h : Handler) → Three h → h.queries + h.tables ≤ length h.entries → AreFew h
few_at h (q, t, p) w = record { queries = q; tables = t; within = w; patterns = p }

each_few : (ds : List Data) (hs : List Handler) → AreHandlers ds hs → ((i : ℕ) → at_index (handler_breaks 2) hs i ≡ false) → (i : ℕ) → i < length hs → HoldsAt AreFew hs i
each_few [] [] are small i low = absurd (omega arith)
each_few [] (h ∷ hs) are small i low = absurd are
each_few (d ∷ ds) [] are small i low = absurd are
each_few (d ∷ ds) (h ∷ hs) are small zero low = λ default. few_at h (three h (small 0)) (counted d h are.0)
each_few (d ∷ ds) (h ∷ hs) are small (suc i) low = each_few ds hs are.1 (λ j. small (suc j)) i (omega arith)

pub sizes : (ds : List Data) (hs : List Handler) → AreHandlers ds hs → AreUnbroken (breaks hs) 2 7 → HasSizes hs
sizes ds hs are h = record {
  most = few hs (h 2 Text (omega arith) (lit< tt));
  each = each_few ds hs are (λ i. h 2 (Part i) (omega arith) (lit< tt));
}

-- ---- the place of a refusal

module _ (hs : List Handler) (rule : ℕ) (place : Place) (h : IsLeastOf (breaks hs) 2 7 rule place) where
  -- rule 2 isn't broken before the place
  two : (q : Place) → IsBefore q place → breaks hs 2 q ≡ false
  two q before = elim (cases_eq rule 2) [
    | inl same ↦ rw same at (h.here.first q before)
    | inr another ↦ let low = h.low in h.least 2 q (omega arith) (omega arith)
  ]

entry_not_two : (hs : List Handler) (i j : ℕ) → breaks hs 2 (Entry i j) ≡ false
entry_not_two hs i j = never (λ h. at_index (entry_breaks 2) h.entries j) hs i (λ h. never (entry_breaks 2) h.entries j (λ e. refl))

entry_within : (rule j : ℕ) (o : Option Handler) → option_map_or (λ h. at_index (entry_breaks rule) h.entries j) o false ≡ true → option_map_or (handler_breaks 2) o false ≡ false → j < 3072
entry_within rule j None h k = absurd (true≢false (sym h))
entry_within rule j (Some x) h k =
    let low = within (entry_breaks rule) x.entries j h in
    let sizes = three x k in
    let a = sizes.0 in let b = sizes.1 in let c = sizes.2 in omega arith

pub fits : (hs : List Handler) (rule : ℕ) (place : Place) → IsLeastOf (breaks hs) 2 7 rule place → Fits16 place
fits hs rule Text h = (lit< tt, lit< tt)
fits hs rule (Part i) h =
    let most = few hs (two hs rule (Part i) h Text tt) in
    let low = within (handler_breaks rule) hs i h.here.holds in
    (omega arith, lit< tt)
fits hs rule (Entry i j) h =
    let most = few hs (two hs rule (Entry i j) h Text tt) in
    let low = within (λ x. at_index (entry_breaks rule) x.entries j) hs i h.here.holds in
    (omega arith, let entry = entry_within rule j (slice_get hs i) h.here.holds (part_two h) in omega arith)
  where
    part_two : IsLeastOf (breaks hs) 2 7 rule (Entry i j) → breaks hs 2 (Part i) ≡ false
    part_two k = elim (cases_eq rule 2) [
      | inl same ↦ absurd (true≢false (sym (rw same at k.here.holds) ∙ entry_not_two hs i j))
      | inr another ↦ let low = k.low in k.least 2 (Part i) (omega arith) (omega arith)
    ]

-- ---- what is answered

module _ (text : List ℕ) (hs shown : List Handler) (has : HasHandlers text (Some hs)) (same : shown ≡ hs) where
  pub all_sizes : AreUnbroken (breaks shown) 2 7 → HasSizes hs
  all_sizes h = sizes has.0 hs has.2 (subst (λ xs. AreUnbroken (breaks xs) 2 7) same h)

  pub is_censor : AreUnbroken (breaks shown) 2 7 → IsCensor text hs
  is_censor h = record { has = has; unbroken = all_unbroken hs (subst (λ xs. AreUnbroken (breaks xs) 2 7) same h) }

  pub is_refusal : (rule : ℕ) (place : Place) → IsLeastOf (breaks shown) 2 7 rule place → IsRefusal text (refusal_at rule place)
  is_refusal rule place h = record { at = place; least = (Some hs, has, subst (λ xs. IsLeast (breaks xs) rule place) same (least_of_all shown rule place h)); numbers = refl }
