-- Edits of the tickets out, by place.
use Rattle.std.proofs.Common.{◌≡◌, ℕ, suc, Bool, true, false, if◌then◌else◌, List, [], ◌∷◌, ◌++◌, get_or, set, take, drop, refl, ap, sym, ◌∙◌}
use Rattle.std.specs.List.{remove}
use Rattle.std.proofs.lemmas.List.{set_split, set-get_or}
use Rattle.keystore.specs.declared.tickets.Ticket.{Ticket}
use Rattle.keystore.specs.Lists.{edited}
use Rattle.keystore.specs.Rings.{is_ticket, released, abandoned, settled, abandons, is_abandoned}
use Rattle.keystore.specs.Places.{Stands}
use Rattle.keystore.proofs.Items.{first_at, edited_at}

-- the item at its place made into these
module _ {A : Type 0} (p : A → Bool) (f : A → List A) (xs : List A) (i : ℕ) (x : A) (h : Stands p xs i) (is : x ≡ get_or xs i x) where
  pub edit_here : (ys : List A) → f x ≡ ys → edited p f xs ≡ take i xs ++ (ys ++ drop (suc i) xs)
  edit_here ys e = edited_at p f xs i x h ∙ ap (λ (zs : List A). take i xs ++ (zs ++ drop (suc i) xs)) (ap f (sym is) ∙ e)

  pub edit_drops : f x ≡ [] → remove xs i ≡ edited p f xs
  edit_drops e = sym (edit_here [] e)

  pub edit_sets : (y : A) → f x ≡ y ∷ [] → set xs i y ≡ edited p f xs
  edit_sets y e = set_split xs i y h.within ∙ sym (edit_here (y ∷ []) e)

  pub edit_stays : f x ≡ x ∷ [] → xs ≡ edited p f xs
  edit_stays e = sym (set-get_or xs i x) ∙ (ap (set xs i) (sym is) ∙ edit_sets x e)

module _ (n : ℕ) (xs : List Ticket) (i : ℕ) (t : Ticket) (h : Stands (is_ticket n) xs i) (is : t ≡ get_or xs i t) where
  pub release_drops : t.abandoned ≡ false → remove xs i ≡ released n xs
  release_drops e = edit_drops (is_ticket n) (λ u. if u.abandoned then u ∷ [] else []) xs i t h is (rw e refl)

  pub release_stays : t.abandoned ≡ true → xs ≡ released n xs
  release_stays e = edit_stays (is_ticket n) (λ u. if u.abandoned then u ∷ [] else []) xs i t h is (rw e refl)

  pub settle_drops : t.abandoned ≡ true → remove xs i ≡ settled n xs
  settle_drops e = edit_drops (is_ticket n) (λ u. if u.abandoned then [] else u ∷ []) xs i t h is (rw e refl)

  pub settle_stays : t.abandoned ≡ false → xs ≡ settled n xs
  settle_stays e = edit_stays (is_ticket n) (λ u. if u.abandoned then [] else u ∷ []) xs i t h is (rw e refl)

  pub abandon_sets : set xs i (record t { abandoned = true }) ≡ abandoned n xs
  abandon_sets = edit_sets (is_ticket n) (λ u. record u { abandoned = true } ∷ []) xs i t h is (record t { abandoned = true }) refl

  pub told_here : t.abandoned ≡ is_abandoned n xs
  told_here = sym (ap abandons (first_at (is_ticket n) xs i t h) ∙ ap (λ (u : Ticket). u.abandoned) (sym is))
