-- What stays of a store while records lead on from it.
use Rattle.std.proofs.Common.{◌≡◌, ℕ, ◌<◌, ◌≤◌, ◌⊎◌, inl, inr, arith, Bool, true, false, List, [], ◌∷◌, ◌++◌, length, Option, Some, None, refl, sym, ap, subst, ◌∙◌, if◌then◌else◌}
use Rattle.std.proofs.lemmas.Bool.{cases_lt}
use Rattle.acra_base.specs.declared.kind.ValueKind.{ValueKind}
use Rattle.token_rule.specs.Rule.{Want}
use Rattle.token_rule.specs.Entries.{Entry, is_token, entry_of, standing_token}
use Rattle.token_map.proofs.Added.{find_stays, standing_stays, standing_added}
use Rattle.token_records.proofs.Recorded.{record_once}
use Rattle.token_store.specs.Stores.{Store, standing_in, with_entry, Makes}
use Rattle.token_store.specs.Loading.{IsNextRecord, Loads, IsBadAt}

-- ---- what is found

pub entry_next : (sealed : List ℕ → List ℕ → List ℕ → List ℕ → List ℕ) (s t : Store) (piece : List ℕ) (kind : ValueKind) (token : ℕ) (found : Entry)
    → IsNextRecord sealed s t piece → entry_of s.entries kind token ≡ Some found → entry_of t.entries kind token ≡ Some found
entry_next sealed s t piece kind token found n h =
    subst (λ (u : Store). entry_of u.entries kind token ≡ Some found) (sym n.makes.after)
    (find_stays (is_token kind token) s.entries (record { want = n.want; token = n.token } ∷ []) found h)

standing_more : (s : Store) (w made : Want) (number token : ℕ) → standing_in s w ≡ Some token → standing_in (with_entry s made number) w ≡ Some token
standing_more s w made number token h = by w.consistent h
  where
    by : (b : Bool) → (if b then standing_token s.entries w else None) ≡ Some token
        → (if b then standing_token (s.entries ++ record { want = made; token = number } ∷ []) w else None) ≡ Some token
    by true e = standing_stays s.entries (record { want = made; token = number } ∷ []) w token e
    by false e = absurd cc

pub standing_next : (sealed : List ℕ → List ℕ → List ℕ → List ℕ → List ℕ) (s t : Store) (piece : List ℕ) (w : Want) (token : ℕ)
    → IsNextRecord sealed s t piece → standing_in s w ≡ Some token → standing_in t w ≡ Some token
standing_next sealed s t piece w token n h = subst (λ (u : Store). standing_in u w ≡ Some token) (sym n.makes.after) (standing_more s w n.want n.token token h)

pub entry_stays : (sealed : List ℕ → List ℕ → List ℕ → List ℕ → List ℕ) (s t : Store) (pieces : List (List ℕ)) (kind : ValueKind) (token : ℕ) (found : Entry)
    → Loads sealed s pieces t → entry_of s.entries kind token ≡ Some found → entry_of t.entries kind token ≡ Some found
entry_stays sealed s t [] kind token found h e = subst (λ (u : Store). entry_of u.entries kind token ≡ Some found) (sym h) e
entry_stays sealed s t (piece ∷ pieces) kind token found h e = entry_stays sealed h.0 t pieces kind token found h.2 (entry_next sealed s h.0 piece kind token found h.1 e)

pub standing_stay : (sealed : List ℕ → List ℕ → List ℕ → List ℕ → List ℕ) (s t : Store) (pieces : List (List ℕ)) (w : Want) (token : ℕ)
    → Loads sealed s pieces t → standing_in s w ≡ Some token → standing_in t w ≡ Some token
standing_stay sealed s t [] w token h e = subst (λ (u : Store). standing_in u w ≡ Some token) (sym h) e
standing_stay sealed s t (piece ∷ pieces) w token h e = standing_stay sealed h.0 t pieces w token h.2 (standing_next sealed s h.0 piece w token h.1 e)

-- ---- where records lead

-- the records of a front lead to a store, and the record behind it on from there
loads_parts : (sealed : List ℕ → List ℕ → List ℕ → List ℕ → List ℕ) (s t : Store) (before : List (List ℕ)) (piece : List ℕ) (behind : List (List ℕ)) → Loads sealed s (before ++ piece ∷ behind) t
    → (mid : Store) × (next : Store) × Loads sealed s before mid × IsNextRecord sealed mid next piece
loads_parts sealed s t [] piece behind h = (s, h.0, refl, h.1)
loads_parts sealed s t (p ∷ before) piece behind h =
    let r = loads_parts sealed h.0 t before piece behind h.2 in
    (r.0, r.1, (h.0, h.1, r.2), r.3)

-- of two fronts of a list the longer one has the shorter one, and what stands behind it
front_of : {A : Type 0} (xs ys : List A) (x : A) (cs bs : List A) → xs ++ x ∷ cs ≡ ys ++ bs → length xs < length ys → (c : List A) × (ys ≡ xs ++ x ∷ c)
front_of [] [] x cs bs e less = absurd (omega (arith, less))
front_of [] (y ∷ ys) x cs bs e less = (ys, cc)
front_of (a ∷ xs) [] x cs bs e less = absurd (omega (arith, less))
front_of (a ∷ xs) (b ∷ ys) x cs bs e less =
    let heads : a ≡ b = cc in
    let tails : xs ++ x ∷ cs ≡ ys ++ bs = cc in
    let r = front_of xs ys x cs bs tails (omega (arith, less)) in
    (r.0, cc)

module _ (sealed : List ℕ → List ℕ → List ℕ → List ℕ → List ℕ) (opened : List ℕ → List ℕ → List ℕ → List ℕ → Option (List ℕ)) (opens : (k n e p : List ℕ) → opened k n e (sealed k n e p) ≡ Some p) where
  pub next_once : (s t u : Store) (piece : List ℕ) → IsNextRecord sealed s t piece → IsNextRecord sealed s u piece → t ≡ u
  next_once s t u piece n m =
      let same = record_once sealed opened opens s.store_key piece n.want m.want (length s.entries) (length s.entries) n.token m.token n.spelled m.spelled in
      n.makes.after ∙ ap (λ (w : Want). with_entry s w n.token) same.0 ∙ ap (with_entry s m.want) same.2 ∙ sym m.makes.after

  pub loads_once : (s t u : Store) (pieces : List (List ℕ)) → Loads sealed s pieces t → Loads sealed s pieces u → t ≡ u
  loads_once s t u [] h g = h ∙ sym g
  loads_once s t u (piece ∷ pieces) h g =
      loads_once g.0 t u pieces (subst (λ (v : Store). Loads sealed v pieces t) (next_once s h.0 g.0 piece h.1 g.1) h.2) g.2

  bad_next : (s : Store) (pieces : List (List ℕ)) (index : ℕ) (b : IsBadAt sealed s pieces index) (behind : List (List ℕ)) (t : Store) → Loads sealed s (b.before ++ b.piece ∷ behind) t → ⊥
  bad_next s pieces index b behind t h =
      let p = loads_parts sealed s t b.before b.piece behind h in
      let same = loads_once s p.0 b.reached b.before p.2 b.loads in
      b.bad p.1 (subst (λ (u : Store). IsNextRecord sealed u p.1 b.piece) same p.3)

  pub loads_not_bad : (s t : Store) (pieces : List (List ℕ)) (index : ℕ) → Loads sealed s pieces t → IsBadAt sealed s pieces index → ⊥
  loads_not_bad s t pieces index h b = bad_next s pieces index b b.behind t (subst (λ (ps : List (List ℕ)). Loads sealed s ps t) b.parts h)

  not_before : (s : Store) (pieces : List (List ℕ)) (index other : ℕ) (a : IsBadAt sealed s pieces index) (b : IsBadAt sealed s pieces other) → length a.before < length b.before → ⊥
  not_before s pieces index other a b less =
      let f = front_of a.before b.before a.piece a.behind (b.piece ∷ b.behind) (sym a.parts ∙ b.parts) less in
      bad_next s pieces index a f.0 b.reached (subst (λ (ps : List (List ℕ)). Loads sealed s ps b.reached) f.1 b.loads)

  pub bad_once : (s : Store) (pieces : List (List ℕ)) (index other : ℕ) → IsBadAt sealed s pieces index → IsBadAt sealed s pieces other → index ≡ other
  bad_once s pieces index other a b =
      elim (cases_lt (length a.before) (length b.before)) [
        | inl less ↦ absurd (not_before s pieces index other a b less)
        | inr more ↦ by more (cases_lt (length b.before) (length a.before))
      ]
    where
      by : length b.before ≤ length a.before → length b.before < length a.before ⊎ length a.before ≤ length b.before → index ≡ other
      by more c = elim c [
        | inl less ↦ absurd (not_before s pieces other index b a less)
        | inr most ↦ let same : length a.before ≡ length b.before = omega (arith, more, most) in a.place ∙ same ∙ sym b.place
      ]

-- ---- what was made

pub made_standing : (s t : Store) (w : Want) (token : ℕ) → Makes s t w token → w.consistent ≡ true → standing_in s w ≡ None → standing_in t w ≡ Some token
made_standing s t w token m consistent none =
    let before : standing_token s.entries w ≡ None = sym (ap (λ b. if b then standing_token s.entries w else None) consistent) ∙ none in
    subst (λ (u : Store). standing_in u w ≡ Some token) (sym m.after)
    (ap (λ b. if b then standing_token (s.entries ++ record { want = w; token = token } ∷ []) w else None) consistent ∙ standing_added s.entries (record { want = w; token = token }) consistent before)
