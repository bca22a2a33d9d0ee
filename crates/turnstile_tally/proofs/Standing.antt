-- Calls stand at the places that their seats have.
use Rattle.std.proofs.Common.{◌≡◌, ℕ, List, [], ◌∷◌, ◌++◌, length, refl, ap, sym, subst, ◌∙◌, inl, inr, ⊎_elim, arith, length-append}
use Rattle.turnstile.specs.Places.{Has, IsEachOnce}
use Rattle.turnstile.specs.Seats.{Sitting, Ends, Joins}
use Rattle.turnstile.specs.Callers.{prefix_get, known_more, call_stands}
use Rattle.turnstile_tally.specs.Visits.{StandInOrder, StandBoth}

has_first : (xs ys : List ℕ) (n : ℕ) → Has xs n → Has (xs ++ ys) n
has_first [] ys n h = absurd h
has_first (x ∷ xs) ys n h = ⊎_elim (λ e. inl e) (λ t. inr (has_first xs ys n t)) h

has_second : (xs ys : List ℕ) (n : ℕ) → Has ys n → Has (xs ++ ys) n
has_second [] ys n h = h
has_second (x ∷ xs) ys n h = inr (has_second xs ys n h)

-- what stands in both parts stands twice
once_apart : (xs ys : List ℕ) (n : ℕ) → IsEachOnce (xs ++ ys) → Has xs n → Has ys n → ⊥
once_apart [] ys n once a b = a
once_apart (x ∷ xs) ys n once a b = ⊎_elim
    (λ e. once.0 (has_second xs ys x (subst (Has ys) (sym e) b)))
    (λ t. once_apart xs ys n once.1 t b)
    a

module _ {C R : Type 0} where
  pub stand_in_order : (a b c : Sitting C R) (first : C) (one : R) (second : C) (two : R) → Ends a first one b → Ends b second two c → StandInOrder a first one second two c
  stand_in_order a b c first one second two p q = record {
    i = length (a.known ++ p.between);
    j = length (b.known ++ q.between);
    places = q.places ∙ ap (λ (ns : List ℕ). ns ++ length (b.known ++ q.between) ∷ []) p.places;
    order = omega (arith, length-append b.known q.between, ap length p.known ∙ length-append (a.known ++ p.between) ((first, one) ∷ []));
    first_stands = prefix_get b.known c.known _ _ (known_more b c second two q) (call_stands a b first one p);
    second_stands = call_stands b c second two q;
  }

  pub stand_both : (a b c d e : Sitting C R) (first : C) (one : R) (second : C) (two : R) → Ends a first one b → Ends c second two d → Joins b d e → StandBoth a first one c second two e
  stand_both a b c d e first one second two p q j =
      let here = length (a.known ++ p.between) in
      let there = length (c.known ++ q.between) in
      let places : e.places ≡ (a.places ++ here ∷ []) ++ (c.places ++ there ∷ []) = j.places ∙ (ap (λ (ns : List ℕ). ns ++ d.places) p.places ∙ ap (λ (ns : List ℕ). (a.places ++ here ∷ []) ++ ns) q.places) in
      record {
        i = here;
        j = there;
        places = places;
        apart = (λ same. once_apart (a.places ++ here ∷ []) (c.places ++ there ∷ []) here (subst IsEachOnce places j.once) (has_second a.places (here ∷ []) here (inl refl)) (has_second c.places (there ∷ []) here (inl (sym same))));
        first_stands = prefix_get b.known e.known _ _ j.this (call_stands a b first one p);
        second_stands = prefix_get d.known e.known _ _ j.that (call_stands c d second two q);
      }
