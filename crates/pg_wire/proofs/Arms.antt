-- A message by its kind: what is read of a body, and what is spelled in it.
use Rattle.std.proofs.Common.{◌≡◌, ℕ, Bool, true, false, cond, eqb, List, [], ◌++◌, length, Result, Ok, Err, refl, sym, ap, subst, ◌∙◌}
use Rattle.std.proofs.lemmas.Bool.{eqb-true}
use Rattle.std.proofs.lemmas.List.{append-nil, nil_from_length}
use Rattle.byte_reader.proofs.Steps.{bind_ok, ok_is}
use Rattle.byte_reader.proofs.Taken.{Takes}
use Rattle.byte_reader.specs.Fields.{◌>>=◌, alone}
use Rattle.pg_wire.specs.Bodies.{mapped}

-- what is read of a body, if anything, is a message with a spelling, and its kind is k
pub record Arm (M : Type 0) (IsM : M → Type 0) (kind_of : M → ℕ) (body_of : M → List ℕ) (k : ℕ) (body : List ℕ) (read : Result (M × List ℕ) ℕ) : Type 0 where
  pub spells : (x : M × List ℕ) → read ≡ Ok x → IsM x.0 × (k ≡ kind_of x.0) × Takes body (body_of x.0) x.1

pub arm_or : {M : Type 0} {IsM : M → Type 0} {kind_of : M → ℕ} {body_of : M → List ℕ} {k kind : ℕ} {body : List ℕ} {read other : Result (M × List ℕ) ℕ}
    → Arm M IsM kind_of body_of k body read → Arm M IsM kind_of body_of kind body other → Arm M IsM kind_of body_of kind body (cond (eqb kind k) read other)
arm_or {M} {IsM} {kind_of} {body_of} {k} {kind} {body} {read} {other} here there = record { spells = by (eqb kind k) (eqb-true kind k) } where
  by : (b : Bool) → (b ≡ true → kind ≡ k) → (x : M × List ℕ) → cond b read other ≡ Ok x → IsM x.0 × (kind ≡ kind_of x.0) × Takes body (body_of x.0) x.1
  by true same x e = let h = here.spells x e in (h.0, same refl ∙ h.1, h.2)
  by false same x e = there.spells x e

pub no_arm : {M : Type 0} {IsM : M → Type 0} {kind_of : M → ℕ} {body_of : M → List ℕ} {kind left : ℕ} {body : List ℕ} → Arm M IsM kind_of body_of kind body (Err left)
no_arm = record { spells = λ x e. absurd cc }

-- a reader of what a message holds
pub arm_of : {A M : Type 0} {IsM : M → Type 0} {kind_of : M → ℕ} {body_of : M → List ℕ} (k : ℕ) (body : List ℕ) (made : A → M) (read : Result (A × List ℕ) ℕ)
    → ((x : A × List ℕ) → read ≡ Ok x → IsM (made x.0) × (k ≡ kind_of (made x.0)) × Takes body (body_of (made x.0)) x.1) → Arm M IsM kind_of body_of k body (mapped made read)
arm_of {A} {M} {IsM} {kind_of} {body_of} k body made read h = record { spells = by } where
  by : (x : M × List ℕ) → mapped made read ≡ Ok x → IsM x.0 × (k ≡ kind_of x.0) × Takes body (body_of x.0) x.1
  by x e =
      let a = bind_ok read (λ y. Ok (made y.0, y.1)) x e in
      subst (λ (y : M × List ℕ). IsM y.0 × (k ≡ kind_of y.0) × Takes body (body_of y.0) y.1) (ok_is (made a.0.0, a.0.1) x a.2) (h a.0 a.1)

alone_is : {M : Type 0} (x : M × List ℕ) (m : M) → alone x ≡ Ok m → (x.1 ≡ []) × (x.0 ≡ m)
alone_is {M} x m e = by (eqb (length x.1) 0) (eqb-true _ _) e where
  by : (b : Bool) → (b ≡ true → length x.1 ≡ 0) → cond b (Ok x.0) (Err (length x.1)) ≡ Ok m → (x.1 ≡ []) × (x.0 ≡ m)
  by true none h = (nil_from_length x.1 (none refl), ok_is x.0 m h)
  by false none h = absurd cc

pub whole : {M : Type 0} {IsM : M → Type 0} {kind_of : M → ℕ} {body_of : M → List ℕ} {kind : ℕ} {body : List ℕ} {read : Result (M × List ℕ) ℕ}
    → Arm M IsM kind_of body_of kind body read → (m : M) → (read >>= alone) ≡ Ok m → IsM m × (kind ≡ kind_of m) × (body ≡ body_of m)
whole {M} {IsM} {kind_of} {body_of} {kind} {body} {read} arm m e =
    let a = bind_ok read alone m e in
    let h = arm.spells a.0 a.1 in
    let n = alone_is a.0 m a.2 in
    let all : body ≡ body_of a.0.0 = h.2.parts ∙ ap (λ (r : List ℕ). body_of a.0.0 ++ r) n.0 ∙ append-nil (body_of a.0.0) in
    subst (λ (y : M). IsM y × (kind ≡ kind_of y) × (body ≡ body_of y)) n.1 (h.0, h.1, all)

-- a whole body that is read
pub read_alone : {A : Type 0} (item : List ℕ → Result (A × List ℕ) ℕ) (text : List ℕ) (x : A) → item (text ++ []) ≡ Ok (x, []) → item text ≡ Ok (x, [])
read_alone item text x e = ap item (sym (append-nil text)) ∙ e

pub made_alone : {A M : Type 0} (made : A → M) (read : Result (A × List ℕ) ℕ) (x : A) → read ≡ Ok (x, []) → (mapped made read >>= alone) ≡ Ok (made x)
made_alone made read x e = rw e refl
