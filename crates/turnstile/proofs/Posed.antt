-- What a seat is between turns and in its turn.
use Rattle.std.proofs.Common.{◌≡◌, ℕ, ◌+◌, ◌<◌, Bool, true, false, MatchBool, List, [], ◌∷◌, ◌++◌, Some, None, Option, ap, sym, subst, ◌∙◌, refl}
use Rattle.atomic_table.specs.Table.{rest}
use Rattle.acra_base.specs.Histories.{Leads, leads_on}
use Rattle.turnstile.specs.declared.view.View.{View}
use Rattle.turnstile.specs.Steps.{seeing, resting, Sat, CanPass}
use Rattle.turnstile.specs.Seats.{IsPosed}

module _ {M C R : Type 0} where
  pub is_between : (ticket : ℕ) (me : Sat M C R) → IsPosed ticket me → me.0.marked ≡ false → me ≡ (resting me.0.known me.0.places, [])
  is_between ticket me p e = subst (λ (b : Bool). MatchBool b ((me ≡ (seeing (Some ticket) true me.0.known me.0.places, (0, None) ∷ [])) × (ticket + 1 < 18446744073709551616)) (me ≡ (resting me.0.known me.0.places, []))) e p

  pub is_in_turn : (ticket : ℕ) (me : Sat M C R) → IsPosed ticket me → me.0.marked ≡ true → (me ≡ (seeing (Some ticket) true me.0.known me.0.places, (0, None) ∷ [])) × (ticket + 1 < 18446744073709551616)
  is_in_turn ticket me p e = subst (λ (b : Bool). MatchBool b ((me ≡ (seeing (Some ticket) true me.0.known me.0.places, (0, None) ∷ [])) × (ticket + 1 < 18446744073709551616)) (me ≡ (resting me.0.known me.0.places, []))) e p

  -- the slot that was taken last is the first of those that the seat has
  pub has_slot : (me : Sat M C R) (v : View C R) (slot : ℕ) (x : Option M) (others : List (ℕ × Option M)) → me ≡ (v, (slot, x) ∷ others) → me.1 ≡ (slot, x) ∷ rest me.1
  has_slot me v slot x others e = subst (λ (m : Sat M C R). m.1 ≡ (slot, x) ∷ rest m.1) (sym e) refl

  -- the machine was put into the slot, and the call led to it
  pub can_pass : (steps : M → C → R → M → Type 0) (opening before machine : M) (call : C) (reply : R) (ticket : ℕ) (me now : Sat M C R)
      → me ≡ (seeing (Some ticket) true me.0.known me.0.places, (0, None) ∷ []) → now ≡ (me.0, (0, Some machine) ∷ rest me.1)
      → Leads steps opening me.0.known before → steps before call reply machine → CanPass steps opening (call, reply) ticket now
  can_pass steps opening before machine call reply ticket me now turn put leads step =
      let seen : now.0 ≡ me.0 = ap (λ (x : Sat M C R). x.0) put in
      let out : rest me.1 ≡ [] = ap (λ (x : Sat M C R). rest x.1) turn in
      record {
        machine = machine;
        turn = subst (λ (v : View C R). now ≡ (seeing (Some ticket) true v.known v.places, (0, Some machine) ∷ [])) (sym seen) (put ∙ (rw out (ap (λ (v : View C R). (v, (0, Some machine) ∷ [])) (ap (λ (x : Sat M C R). x.0) turn))));
        leads = subst (λ (v : View C R). Leads steps opening (v.known ++ (call, reply) ∷ []) machine) (sym seen) (leads_on steps opening before machine me.0.known call reply leads step);
      }

  -- the history after a call leads where the call led
  pub leads_after : (steps : M → C → R → M → Type 0) (opening before machine : M) (call : C) (reply : R) (known now : List (C × R))
      → Leads steps opening known before → steps before call reply machine → now ≡ known ++ (call, reply) ∷ [] → Leads steps opening now machine
  leads_after steps opening before machine call reply known now leads step is = subst (λ (es : List (C × R)). Leads steps opening es machine) (sym is) (leads_on steps opening before machine known call reply leads step)
