-- The first space of a text, and what stands before and behind it.
use Rattle.std.proofs.Common.{◌≡◌, ℕ, suc, ◌+◌, ◌-◌, ◌<◌, Bool, true, false, ◌&&◌, not, if◌then◌else◌, List, [], ◌∷◌, ◌++◌, length, take, drop, Option, Some, None, refl, sym, ap, ◌∙◌, arith}
use Rattle.std.specs.Prelude.{position}
use Rattle.std.proofs.lemmas.Iterator.Adapters.{position_from-zero}
use Rattle.std.proofs.Math.Seq.{take-append_seam, drop-append-add}
use Rattle.std.proofs.lemmas.List.{take_rest}
use Rattle.std.specs.List.{list_all, position_from}
use Rattle.audit_chain.specs.Lines.{is_space, is_within}

pub both : (a b : Bool) → (a && b) ≡ true → (a ≡ true) × (b ≡ true)
both true b h = (refl, h)
both false b h = absurd cc

pub not_true : (a : Bool) → not a ≡ true → a ≡ false
not_true true h = absurd cc
not_true false h = refl

pub position-within : (k : ℕ) (word rest : List ℕ) → list_all is_within word ≡ true → position_from is_space k (word ++ 32 ∷ rest) ≡ Some (k + length word)
position-within k [] rest all = ap (λ (n : ℕ). Some n) (omega arith)
position-within k (b ∷ word) rest all =
    let parts = both (is_within b) (list_all is_within word) all in
    rw (not_true (is_space b) parts.0) (position-within (k + 1) word rest parts.1 ∙ ap (λ (n : ℕ). Some n) (omega arith))

pub position-word : (text word rest : List ℕ) → list_all is_within word ≡ true → text ≡ word ++ 32 ∷ rest → position is_space text ≡ Some (length word)
position-word text word rest all e = ap (position is_space) e ∙ position_from-zero is_space (word ++ 32 ∷ rest) ∙ position-within 0 word rest all ∙ ap (λ (n : ℕ). Some n) (omega arith)

unsome : (a b : ℕ) → Some a ≡ Some b → a ≡ b
unsome a b e = cc

pub not_found : {X : Type 0} (n : ℕ) → None ≡ Some n → X
not_found n e = absurd cc

pub cut_at : (at : ℕ) (text word rest : List ℕ) → Some at ≡ position is_space text → list_all is_within word ≡ true → text ≡ word ++ 32 ∷ rest → (take at text ≡ word) × (take (length text - (at + 1)) (drop (at + 1) text) ≡ rest)
cut_at at text word rest found all e =
    let here : at ≡ length word = unsome at (length word) (found ∙ position-word text word rest all e) in
    let front : take at text ≡ word = rw (e, here) (take-append_seam word (32 ∷ rest)) in
    let behind : drop (at + 1) text ≡ rest = rw (e, here) (drop-append-add word (32 ∷ rest) 1) in
    (front, take_rest text (at + 1) ∙ behind)
