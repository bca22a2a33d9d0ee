-- What stands behind some lines, and one line more.
use Rattle.std.proofs.Common.{◌≡◌, ℕ, zero, suc, ◌+◌, ◌-◌, ◌*◌, ◌/◌, ◌%◌, ◌^◌, ◌<◌, ◌≤◌, ◌⊎◌, inl, inr, Bool, true, false, ◌||◌, List, [], ◌∷◌, ◌++◌, length, replicate, refl, sym, ap, subst, ◌∙◌, arith, append_assoc, length-append, add-one}
use Rattle.std.specs.Prelude.{codes}
use Rattle.std.specs.List.{list_any}
use Rattle.std.proofs.lemmas.List.Folds.{list_any-append}
use Rattle.std.proofs.Math.Nat.{div-add-mod, mul-add-mod_self_left}
use Rattle.std.proofs.Math.Bool.{or-false}
use Rattle.acra_crypto.specs.Hmac.{hmac_sha256}
use Rattle.audit_chain.specs.Kinds.{is_close}
use Rattle.audit_chain.specs.Lines.{IsNote, note_text, line_of, covered, closes}
use Rattle.audit_chain.specs.Chains.{key_after, mac_after, number_after, Recomputes, AllRecompute}
use Rattle.audit_chain.specs.Points.{Point, next_number, next_mac, next_line, point_after, start, IsNext, StandsBehind}
use Rattle.audit_chain.specs.declared.note.Note.{Note}
use Rattle.audit_chain.proofs.Going.{covered_line, closes_line, mac_after-more}

nothing_in : {X : Type 0} (before : List X) (x : X) (behind : List X) → [] ≡ before ++ x ∷ behind → ⊥
nothing_in [] x behind e = cc
nothing_in (b ∷ before) x behind e = cc

-- where a line of a list with one more at its end stands
place_in : {X : Type 0} (xs : List X) (x : X) (before : List X) (y : X) (behind : List X) → xs ++ x ∷ [] ≡ before ++ y ∷ behind
    → ((before ≡ xs) × (y ≡ x)) ⊎ ((rest : List X) × (xs ≡ before ++ y ∷ rest))
place_in [] x [] y behind e = inl (refl, cc)
place_in [] x (b ∷ before) y behind e = absurd (nothing_in before y behind cc)
place_in (a ∷ xs) x [] y behind e = inr (xs, cc)
place_in {X} (a ∷ xs) x (b ∷ before) y behind e =
    let head : a ≡ b = cc in
    elim (place_in xs x before y behind cc) [ inl h ↦ inl (cc, h.1) | inr h ↦ inr (h.0, cc) ]

pub all_more : (key : List ℕ) (lines : List (List ℕ)) (line : List ℕ) → AllRecompute key lines → Recomputes key lines line → AllRecompute key (lines ++ line ∷ [])
all_more key lines line each last before y behind e =
    elim (place_in lines line before y behind e) [ inl h ↦ subst (λ (ls : List (List ℕ)). Recomputes key ls y) (sym h.0) (subst (λ (l : List ℕ). Recomputes key lines l) (sym h.1) last) | inr h ↦ each before y h.0 h.1 ]

pub stands_at_start : (key : List ℕ) → StandsBehind key [] (start key)
stands_at_start key = record {
  each = λ before line behind e. absurd (nothing_in before line behind e);
  number = refl;
  next_key = refl;
  mac = refl;
  ended = refl;
}

mod_again : (m n : ℕ) → (n % m + 1) % m ≡ (n + 1) % m
mod_again m n =
    let whole : m * (n / m) + (n % m + 1) ≡ n + 1 = omega (arith, div-add-mod n m) in
    sym (mul-add-mod_self_left m (n / m) (n % m + 1)) ∙ ap (λ (k : ℕ). k % m) whole

pub number_again : (p n : ℕ) → p ≡ n % 2 ^ 64 → number_after p ≡ number_after n
number_again p n e = ap number_after e ∙ mod_again (2 ^ 64) n

pub next_fits : (n : ℕ) → number_after n < 2 ^ 64
next_fits n = omega arith

closes_after : (lines : List (List ℕ)) (line : List ℕ) (last : Bool) → list_any closes lines ≡ false → closes line ≡ last → last ≡ list_any closes (lines ++ line ∷ [])
closes_after lines line last before e = sym (list_any-append closes lines (line ∷ []) ∙ rw (before, e) (or-false last))

-- the mac that the next line must have
mac_is : (key : List ℕ) (lines : List (List ℕ)) (p : Point) (note : Note) (line mac : List ℕ) → StandsBehind key lines p → line ≡ line_of (note_text (next_number p) note) mac → mac_after key (lines ++ line ∷ []) ≡ next_mac p note
mac_is key lines p note line mac s e =
    let text : covered line ≡ note_text (next_number p) note = ap covered e ∙ covered_line (note_text (next_number p) note) mac in
    mac_after-more key lines line ∙ rw (text, ← s.next_key, ← s.mac) refl

pub recomputes_next : (key : List ℕ) (lines : List (List ℕ)) (p : Point) (note : Note) (line : List ℕ) → StandsBehind key lines p → IsNext p line note → Recomputes key lines line
recomputes_next key lines p note line s h = record {
  note = note;
  formed = h.formed;
  spelled = h.spelled ∙ ap (λ (n : ℕ). line_of (note_text n note) (next_mac p note)) (number_again p.number (length lines) s.number)
      ∙ ap (λ (mac : List ℕ). line_of (note_text (number_after (length lines)) note) mac) (sym (mac_is key lines p note line (next_mac p note) s h.spelled));
  unclosed = sym s.ended ∙ h.goes;
}

pub only_next : (key : List ℕ) (lines : List (List ℕ)) (p : Point) (line : List ℕ) → StandsBehind key lines p → (r : Recomputes key lines line) → IsNext p line r.note
only_next key lines p line s r =
    let spelled = r.spelled ∙ ap (λ (n : ℕ). line_of (note_text n r.note) (mac_after key (lines ++ line ∷ []))) (sym (number_again p.number (length lines) s.number)) in
    record {
      formed = r.formed;
      spelled = spelled ∙ ap (λ (mac : List ℕ). line_of (note_text (next_number p) r.note) mac) (mac_is key lines p r.note line _ s spelled);
      goes = s.ended ∙ r.unclosed;
    }

pub stands_next : (key : List ℕ) (lines : List (List ℕ)) (p : Point) (note : Note) (line : List ℕ) → StandsBehind key lines p → IsNext p line note → StandsBehind key (lines ++ line ∷ []) (point_after p note)
stands_next key lines p note line s h =
    let count : length (lines ++ line ∷ []) ≡ suc (length lines) = omega (arith, length-append lines (line ∷ [])) in
    record {
      each = all_more key lines line s.each (recomputes_next key lines p note line s h);
      number = number_again p.number (length lines) s.number ∙ ap (λ (n : ℕ). n % 2 ^ 64) (omega (arith, count));
      next_key = rw (count, s.next_key) refl;
      mac = sym (mac_is key lines p note line (next_mac p note) s h.spelled);
      ended = closes_after lines line (is_close note.kind) (sym s.ended ∙ h.goes) (ap closes h.spelled ∙ closes_line (next_number p) note (next_mac p note) (next_fits p.number));
    }

pub appended_stands : (key : List ℕ) (lines : List (List ℕ)) (p new : Point) (note : Note) (mac : List ℕ) → StandsBehind key lines p → IsNote note → p.ended ≡ false → mac ≡ next_mac p note
    → new ≡ record { number = next_number p; key = hmac_sha256 p.key (codes "next"); mac = mac; ended = is_close note.kind } → StandsBehind key (lines ++ next_line p note ∷ []) new
appended_stands key lines p new note mac s formed goes e after =
    let behind = stands_next key lines p note (next_line p note) s (record { formed = formed; spelled = refl; goes = goes }) in
    let same : new ≡ point_after p note = after ∙ ap (λ (m : List ℕ). let q : Point = record { number = next_number p; key = hmac_sha256 p.key (codes "next"); mac = m; ended = is_close note.kind } in q) e in
    subst (λ (q : Point). StandsBehind key (lines ++ next_line p note ∷ []) q) (sym same) behind
