-- One change of told bytes after another. These stand in specs, since the crates above cite them.
use Rattle.std.proofs.Common.{◌≡◌, ℕ, ◌+◌, ◌-◌, ◌≤◌, Bool, true, false, List, [], ◌++◌, length, take, drop, Option, Some, None, refl, sym, ap, ◌∙◌, append_assoc, if◌then◌else◌}
use Rattle.std.proofs.lemmas.List.{append-nil, take-append-drop, drop-drop, drop_all, take_rest}
use Rattle.std.proofs.Math.Seq.{take-add}
use Rattle.acra_devices.specs.Known.{Grew, Shrank, IsAtEnd}

pub grew_nothing : (told : Option (List ℕ)) → Grew told told []
grew_nothing None = tt
grew_nothing (Some xs) = sym (append-nil xs)

pub shrank_nothing : (told : Option (List ℕ)) → Shrank told told []
shrank_nothing None = tt
shrank_nothing (Some xs) = refl

pub grew_then : (a b c : Option (List ℕ)) (xs ys : List ℕ) → Grew a b xs → Grew b c ys → Grew a c (xs ++ ys)
grew_then a b None xs ys p q = tt
grew_then (Some a) (Some b) (Some c) xs ys p q = q ∙ ap (λ (t : List ℕ). t ++ ys) p ∙ append_assoc a xs ys
grew_then None (Some b) (Some c) xs ys p q = p
grew_then a None (Some c) xs ys p q = absurd q

pub shrank_then : (a b c : Option (List ℕ)) (xs ys : List ℕ) → Shrank a b xs → Shrank b c ys → Shrank a c (xs ++ ys)
shrank_then a b None xs ys p q = tt
shrank_then (Some a) (Some b) (Some c) xs ys p q = p ∙ ap (λ (t : List ℕ). xs ++ t) q ∙ sym (append_assoc xs ys c)
shrank_then None (Some b) (Some c) xs ys p q = p
shrank_then a None (Some c) xs ys p q = absurd q

-- a read of n bytes at a place of a list
pub shrank_at : (whole : Bool) (xs : List ℕ) (at n : ℕ) (buf : List ℕ) → at + n ≤ length xs → buf ≡ take n (drop at xs) →
    Shrank (if whole then Some (drop at xs) else None) (if whole then Some (drop (at + n) xs) else None) buf
shrank_at true xs at n buf h e = sym (take-append-drop n (drop at xs)) ∙ rw (e, drop-drop n at xs) refl
shrank_at false xs at n buf h e = tt

pub end_at : (whole : Bool) (xs : List ℕ) (at : ℕ) → length xs ≤ at → IsAtEnd (if whole then Some (drop at xs) else None)
end_at true xs at h = drop_all at xs h
end_at false xs at h = tt

-- a front of the rest of a slice
pub take_then : (m n : ℕ) (xs : List ℕ) → take m xs ++ take n (take (length xs - m) (drop m xs)) ≡ take (m + n) xs
take_then m n xs = rw take_rest (sym (take-add m n xs))
