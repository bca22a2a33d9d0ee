-- What sealing and unsealing append, from the steps that make it.
use Rattle.std.proofs.Common.{◌≡◌, ℕ, ◌<◌, ◌-◌, List, ◌++◌, length, refl, sym, ap, ◌∙◌, arith, w32, true, false, Some, length-drop}
use Rattle.std.specs.Prelude.{nat_eq}
use Rattle.std.proofs.lemmas.Bool.{false_from_ne_true}
use Rattle.std.specs.Cmp.Lexicographic.{pointwise, same_text}
use Rattle.acra_crypto.specs.Seal.{Unseals}
use Rattle.std.specs.Int.{to_be_bytes}
use Rattle.acra_crypto.specs.Gcm.{tag, gctr, gcm_sealed, gcm_opened, body_of, tag_of, with_tag, first_counter, inc32}
use Rattle.acra_crypto.specs.Sealed.{length-tag, opened_with_tag, body_is, tag_is}
use Rattle.acra_crypto.proofs.Counting.{inc32_of}

second_counter : (nonce : List ℕ) → length nonce ≡ 12 → nonce ++ to_be_bytes w32 2 ≡ inc32 (first_counter nonce)
second_counter nonce l = sym (inc32_of nonce 1 l (omega arith))

pub seal_made : (made cipher : List ℕ → List ℕ) (nonce extra plain text end whole old new : List ℕ) → made ≡ cipher → length nonce ≡ 12
    → text ≡ gctr made (nonce ++ to_be_bytes w32 2) plain → end ≡ tag made nonce extra text → whole ≡ text ++ end → new ≡ old ++ whole
    → new ≡ old ++ gcm_sealed cipher nonce extra plain
unfolding gcm_sealed
seal_made made cipher nonce extra plain text end whole old new f l e2 e3 e4 e5 =
    let text_is : text ≡ gctr cipher (inc32 (first_counter nonce)) plain =
    e2 ∙ ap (λ (g : List ℕ → List ℕ). gctr g (nonce ++ to_be_bytes w32 2) plain) f ∙ ap (λ (b : List ℕ). gctr cipher b plain) (second_counter nonce l) in
    let end_is : end ≡ tag cipher nonce extra text = e3 ∙ ap (λ (g : List ℕ → List ℕ). tag g nonce extra text) f in
    e5 ∙ ap (λ (s : List ℕ). old ++ s) (e4 ∙ ap (λ (s : List ℕ). text ++ s) end_is ∙ ap (with_tag cipher nonce extra) text_is)

-- what ends with anything but the tag of its front
opened_other : (cipher : List ℕ → List ℕ) (nonce extra sealed old : List ℕ) → (tag_of sealed ≡ tag cipher nonce extra (body_of sealed) → ⊥)
    → Unseals (gcm_opened cipher nonce extra sealed) false old old
unfolding gcm_opened
opened_other cipher nonce extra sealed old differ =
    let no : pointwise nat_eq (tag_of sealed) (tag cipher nonce extra (body_of sealed)) ≡ false =
    false_from_ne_true _ (λ yes. differ (same_text (tag_of sealed) (tag cipher nonce extra (body_of sealed)) (sym yes))) in
    rw no refl

-- a string shorter than a tag
pub unseal_short : (cipher : List ℕ → List ℕ) (nonce extra sealed old : List ℕ) → length sealed < 16 → Unseals (gcm_opened cipher nonce extra sealed) false old old
unseal_short cipher nonce extra sealed old h =
    opened_other cipher nonce extra sealed old
    (λ e. omega (arith, ap length e, length-tag cipher nonce extra (body_of sealed), length-drop (length sealed - 16) sealed))

-- a string whose end is another tag than its front has
pub unseal_other : (made cipher : List ℕ → List ℕ) (nonce extra sealed body given own old : List ℕ) → made ≡ cipher → body ++ given ≡ sealed → length given ≡ 16
    → own ≡ tag made nonce extra body → (given ≡ own → ⊥) → Unseals (gcm_opened cipher nonce extra sealed) false old old
unseal_other made cipher nonce extra sealed body given own old f s l t differ =
    let front : body_of sealed ≡ body = ap body_of (sym s) ∙ body_is body given l in
    let end : tag_of sealed ≡ given = ap tag_of (sym s) ∙ tag_is body given l in
    let own_is : own ≡ tag cipher nonce extra body = t ∙ ap (λ (g : List ℕ → List ℕ). tag g nonce extra body) f in
    opened_other cipher nonce extra sealed old (λ e. differ (sym end ∙ e ∙ ap (tag cipher nonce extra) front ∙ sym own_is))

-- the value of a string whose end is the tag of its front
pub unseal_made : (made cipher : List ℕ → List ℕ) (nonce extra sealed body given own plain old new : List ℕ) → made ≡ cipher → length nonce ≡ 12 → body ++ given ≡ sealed
    → own ≡ tag made nonce extra body → given ≡ own → plain ≡ gctr made (nonce ++ to_be_bytes w32 2) body → new ≡ old ++ plain
    → Unseals (gcm_opened cipher nonce extra sealed) true old new
unseal_made made cipher nonce extra sealed body given own plain old new f l s t same e2 e3 =
    let counter : List ℕ = inc32 (first_counter nonce) in
    let plain_is : plain ≡ gctr cipher counter body =
    e2 ∙ ap (λ (g : List ℕ → List ℕ). gctr g (nonce ++ to_be_bytes w32 2) body) f ∙ ap (λ (b : List ℕ). gctr cipher b body) (second_counter nonce l) in
    let end : given ≡ tag cipher nonce extra body = same ∙ t ∙ ap (λ (g : List ℕ → List ℕ). tag g nonce extra body) f in
    let whole : sealed ≡ with_tag cipher nonce extra body = sym s ∙ ap (λ (x : List ℕ). body ++ x) end in
    let opened : gcm_opened cipher nonce extra sealed ≡ Some plain =
    ap (gcm_opened cipher nonce extra) whole ∙ opened_with_tag cipher nonce extra body ∙ ap (λ (p : List ℕ). Some p) (sym plain_is) in
    rw opened e3
