-- A field that was judged.
use Rattle.std.proofs.Common.{◌≡◌, ℕ, Bool, true, false, Result, Ok, refl, sym, ap, ◌∙◌}
use Rattle.byte_reader.specs.Fields.{◌>>=◌}
use Rattle.byte_reader.proofs.Steps.{bind_ok, ok_is}
use Rattle.ring_file.specs.Reading.{judged}

judged_ok : {A : Type 0} (b : Bool) (d : ℕ) (x y : A) → judged b d x ≡ Ok y → (b ≡ true) × (x ≡ y)
judged_ok true d x y e = (refl, ok_is x y e)
judged_ok false d x y e = absurd cc

-- a field that was judged
pub checked_ok : {A : Type 0} (r : Result A ℕ) (can : A → Bool) (d : ℕ) (x : A) → (r >>= λ n. judged (can n) d n) ≡ Ok x → (r ≡ Ok x) × (can x ≡ true)
checked_ok {A} r can d x e =
    let a = bind_ok r (λ n. judged (can n) d n) x e in
    let j = judged_ok (can a.0) d a.0 x a.2 in
    (a.1 ∙ ap (λ (y : A). Ok y) j.1, ap can (sym j.1) ∙ j.0)

pub checked_again : {A : Type 0} (r : Result A ℕ) (can : A → Bool) (d : ℕ) (x : A) → r ≡ Ok x → can x ≡ true → (r >>= λ n. judged (can n) d n) ≡ Ok x
checked_again r can d x e h = rw (e, h) refl
