-- A history of a machine: its entries in order, each a call with its reply.
use Rattle.std.proofs.Common.{◌≡◌, List, [], ◌∷◌, ◌++◌, refl, sym, subst, ap, ◌∙◌}

module _ {M C R : Type 0} (steps : M → C → R → M → Type 0) where
  -- the machine, run from a state, makes the entries one after the other, and is then in the last state
  abbrev pub Leads : M → List (C × R) → M → Type 0
  Leads first [] last = last ≡ first
  Leads first (e ∷ es) last = (next : M) × steps first e.0 e.1 next × Leads next es last

  -- the machine can make the entries, one after the other, from this state
  abbrev pub IsLegal : M → List (C × R) → Type 0
  IsLegal first es = (last : M) × Leads first es last

  -- one entry more at the end
  pub leads_on : (first middle last : M) (es : List (C × R)) (call : C) (reply : R) → Leads first es middle → steps middle call reply last → Leads first (es ++ (call, reply) ∷ []) last
  leads_on first middle last [] call reply p s = (last, subst (λ m. steps m call reply last) p s, refl)
  leads_on first middle last (e ∷ es) call reply p s = (p.0, p.1, leads_on p.0 middle last es call reply p.2 s)

  -- the state between two parts
  pub leads_between : (first last : M) (es fs : List (C × R)) → Leads first (es ++ fs) last → (middle : M) × Leads first es middle × Leads middle fs last
  leads_between first last [] fs p = (first, refl, p)
  leads_between first last (e ∷ es) fs p = let rest = leads_between p.0 last es fs p.2 in (rest.0, (p.0, p.1, rest.1), rest.2)

  -- what each step keeps is kept by a history
  pub leads_keeps : (Keeps : M → Type 0) → ((before after : M) (call : C) (reply : R) → Keeps before → steps before call reply after → Keeps after)
      → (first last : M) (es : List (C × R)) → Keeps first → Leads first es last → Keeps last
  leads_keeps Keeps each first last [] k p = subst Keeps (sym p) k
  leads_keeps Keeps each first last (e ∷ es) k p = leads_keeps Keeps each p.0 last es (each first p.0 e.0 e.1 k p.1) p.2

-- Where what is seen of the state after a step is fixed by what is seen of the state before, the call and the reply, a history leaves one such sight
pub leads_one : {M C R V : Type 0} (steps : M → C → R → M → Type 0) (sight : M → V)
    → ((a b c d : M) (call : C) (reply : R) → sight a ≡ sight b → steps a call reply c → steps b call reply d → sight c ≡ sight d)
    → (a b m n : M) (es : List (C × R)) → sight a ≡ sight b → Leads steps a es m → Leads steps b es n → sight m ≡ sight n
leads_one steps sight fixed a b m n [] same p q = ap sight p ∙ (same ∙ sym (ap sight q))
leads_one steps sight fixed a b m n (e ∷ es) same p q = leads_one steps sight fixed p.0 q.0 m n es (fixed a b p.0 q.0 e.0 e.1 same p.1 q.1) p.2 q.2
