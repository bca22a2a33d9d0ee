-- Comments, two bytes at a time.
use Rattle.std.proofs.Common.{◌≡◌, ℕ, suc, zero, ◌+◌, ◌-◌, ◌<◌, ◌≤◌, ◌==◌, ◌&&◌, true, false, List, [], ◌∷◌, length, drop, get_or, ap, ◌∙◌, refl, sym, arith, drop-cons, length-drop}
use Rattle.std.specs.Prelude.{Some, None}
use Rattle.sql_tokens.specs.Comments.{after_comments}

-- the next two bytes
two_bytes : (text : List ℕ) (at : ℕ) → at + 1 < length text → drop at text ≡ get_or text at 0 ∷ get_or text (at + 1) 0 ∷ drop (at + 2) text
two_bytes text at h =
    let a = drop-cons text at 0 (omega arith) in
    let b = drop-cons text (suc at) 0 (omega arith) in
    let one : suc at ≡ at + 1 = omega arith in
    let two : suc (suc at) ≡ at + 2 = omega arith in
    a ∙ ap (λ (xs : List ℕ). get_or text at 0 ∷ xs) (b ∙ ap (λ n. get_or text n 0 ∷ drop (suc (suc at)) text) one ∙ ap (λ n. get_or text (at + 1) 0 ∷ drop n text) two)

step_close : (a b d : ℕ) (rest : List ℕ) → ((a == 42) && (b == 47)) ≡ true → after_comments (a ∷ b ∷ rest) (suc d) ≡ after_comments rest d
unfolding after_comments
step_close a b d rest h = ap (λ x. elim x [
  | true ↦ after_comments rest d
  | false ↦ elim ((a == 47) && (b == 42)) [ true ↦ after_comments rest (suc (suc d)) | false ↦ after_comments (b ∷ rest) (suc d) ]
]) h

step_open : (a b d : ℕ) (rest : List ℕ) → ((a == 42) && (b == 47)) ≡ false → ((a == 47) && (b == 42)) ≡ true → after_comments (a ∷ b ∷ rest) (suc d) ≡ after_comments rest (suc (suc d))
unfolding after_comments
step_open a b d rest h k = ap (λ x. elim x [
  | true ↦ after_comments rest d
  | false ↦ elim ((a == 47) && (b == 42)) [ true ↦ after_comments rest (suc (suc d)) | false ↦ after_comments (b ∷ rest) (suc d) ]
]) h ∙ ap (λ x. elim x [ true ↦ after_comments rest (suc (suc d)) | false ↦ after_comments (b ∷ rest) (suc d) ]) k

step_byte : (a b d : ℕ) (rest : List ℕ) → ((a == 42) && (b == 47)) ≡ false → ((a == 47) && (b == 42)) ≡ false → after_comments (a ∷ b ∷ rest) (suc d) ≡ after_comments (b ∷ rest) (suc d)
unfolding after_comments
step_byte a b d rest h k = ap (λ x. elim x [
  | true ↦ after_comments rest d
  | false ↦ elim ((a == 47) && (b == 42)) [ true ↦ after_comments rest (suc (suc d)) | false ↦ after_comments (b ∷ rest) (suc d) ]
]) h ∙ ap (λ x. elim x [ true ↦ after_comments rest (suc (suc d)) | false ↦ after_comments (b ∷ rest) (suc d) ]) k

module _ (text : List ℕ) (at : ℕ) (more : at + 1 < length text) where
  pub closes : (depth : ℕ) → 1 ≤ depth → ((get_or text at 0 == 42) && (get_or text (at + 1) 0 == 47)) ≡ true → after_comments (drop at text) depth ≡ after_comments (drop (at + 2) text) (depth - 1)
  closes zero d h = absurd (omega arith)
  closes (suc depth) d h =
      let one : depth ≡ suc depth - 1 = omega arith in
      ap (λ (xs : List ℕ). after_comments xs (suc depth)) (two_bytes text at more) ∙ step_close (get_or text at 0) (get_or text (at + 1) 0) depth (drop (at + 2) text) h
      ∙ ap (after_comments (drop (at + 2) text)) one

  pub opens : (depth : ℕ) → 1 ≤ depth → ((get_or text at 0 == 42) && (get_or text (at + 1) 0 == 47)) ≡ false → ((get_or text at 0 == 47) && (get_or text (at + 1) 0 == 42)) ≡ true
      → after_comments (drop at text) depth ≡ after_comments (drop (at + 2) text) (depth + 1)
  opens zero d h k = absurd (omega arith)
  opens (suc depth) d h k =
      let one : suc (suc depth) ≡ suc depth + 1 = omega arith in
      ap (λ (xs : List ℕ). after_comments xs (suc depth)) (two_bytes text at more) ∙ step_open (get_or text at 0) (get_or text (at + 1) 0) depth (drop (at + 2) text) h k
      ∙ ap (after_comments (drop (at + 2) text)) one

  pub goes_on : (depth : ℕ) → 1 ≤ depth → ((get_or text at 0 == 42) && (get_or text (at + 1) 0 == 47)) ≡ false → ((get_or text at 0 == 47) && (get_or text (at + 1) 0 == 42)) ≡ false
      → after_comments (drop at text) depth ≡ after_comments (drop (at + 1) text) depth
  goes_on zero d h k = absurd (omega arith)
  goes_on (suc depth) d h k =
      let b = drop-cons text (at + 1) 0 (omega arith) in
      let two : suc (at + 1) ≡ at + 2 = omega arith in
      ap (λ (xs : List ℕ). after_comments xs (suc depth)) (two_bytes text at more) ∙ step_byte (get_or text at 0) (get_or text (at + 1) 0) depth (drop (at + 2) text) h k
      ∙ ap (λ (xs : List ℕ). after_comments xs (suc depth)) (sym (b ∙ ap (λ n. get_or text (at + 1) 0 ∷ drop n text) two))

short_none : (xs : List ℕ) (depth : ℕ) → length xs ≤ 1 → 1 ≤ depth → after_comments xs depth ≡ None
unfolding after_comments
short_none xs zero h d = absurd (omega arith)
short_none [] (suc depth) h d = refl
short_none (x ∷ []) (suc depth) h d = refl
short_none (x ∷ y ∷ xs) (suc depth) h d = absurd (omega arith)

pub never_closed : (text : List ℕ) (at depth : ℕ) → length text ≤ at + 1 → 1 ≤ depth → after_comments (drop at text) depth ≡ None
never_closed text at depth h d = let l = length-drop at text in short_none (drop at text) depth (omega arith) d

pub all_closed : (xs : List ℕ) (depth : ℕ) → depth ≡ 0 → after_comments xs depth ≡ Some xs
unfolding after_comments
all_closed [] zero h = refl
all_closed (x ∷ []) zero h = refl
all_closed (x ∷ y ∷ xs) zero h = refl
all_closed xs (suc depth) h = absurd (omega arith)
