-- Tokens written one after the other.
use Rattle.std.proofs.Common.{◌≡◌, ℕ, Bool, List, [], ◌∷◌, ◌++◌, append_assoc, append-nil, refl, sym, ap, ◌∙◌, subst}
use Rattle.std.specs.Prelude.{if◌then◌else◌, ◌||◌}
use Rattle.sql_tokens.specs.declared.token.Token.{Token}
use Rattle.sql_tree.specs.Canonical.{rendered, is_tight_after, is_tight_before, token_text}
use Rattle.sql_tree.specs.Writing.{State, Wrote, WrotePiece, tight_after}

rendered-append : (tight : Bool) (xs ys : List Token) → rendered tight (xs ++ ys) ≡ rendered tight xs ++ rendered (tight_after tight xs) ys
rendered-append tight [] ys = refl
rendered-append tight (x ∷ xs) ys =
    let gap : List ℕ = if tight || is_tight_before x then [] else 32 ∷ [] in
    ap (λ (zs : List ℕ). gap ++ (token_text x ++ zs)) (rendered-append (is_tight_after x) xs ys)
    ∙ ap (λ (zs : List ℕ). gap ++ zs) (sym (append_assoc (token_text x) (rendered (is_tight_after x) xs) (rendered (tight_after (is_tight_after x) xs) ys)))
    ∙ sym (append_assoc gap (token_text x ++ rendered (is_tight_after x) xs) (rendered (tight_after (is_tight_after x) xs) ys))

tight_after-append : (tight : Bool) (xs ys : List Token) → tight_after tight (xs ++ ys) ≡ tight_after (tight_after tight xs) ys
tight_after-append tight [] ys = refl
tight_after-append tight (x ∷ xs) ys = tight_after-append (is_tight_after x) xs ys

pub wrote_nothing : (old : State) → Wrote old [] old
wrote_nothing old = record { bytes = sym (append-nil old.bytes); tight = refl }

pub wrote_then : (a b c : State) (xs ys : List Token) → Wrote a xs b → Wrote b ys c → Wrote a (xs ++ ys) c
wrote_then a b c xs ys h k = record {
  bytes = k.bytes ∙ (λ i. h.bytes i ++ rendered (h.tight i) ys) ∙ append_assoc a.bytes (rendered a.tight xs) (rendered (tight_after a.tight xs) ys)
      ∙ ap (λ (zs : List ℕ). a.bytes ++ zs) (sym (rendered-append a.tight xs ys));
  tight = k.tight ∙ ap (λ b. tight_after b ys) h.tight ∙ sym (tight_after-append a.tight xs ys);
}

pub next : {a b c : State} {xs ys : List Token} → Wrote a xs b → Wrote b ys c → Wrote a (xs ++ ys) c
next {a} {b} {c} {xs} {ys} h k = wrote_then a b c xs ys h k

-- the same tokens
pub said : {a c : State} {xs : List Token} (ys : List Token) → ys ≡ xs → Wrote a xs c → Wrote a ys c
said {a} {c} ys e h = subst (λ (zs : List Token). Wrote a zs c) (sym e) h

-- a piece is its token
pub wrote_token : (old new : State) (token : Token) (piece : List ℕ) (before after : Bool) → piece ≡ token_text token → before ≡ is_tight_before token → after ≡ is_tight_after token
    → WrotePiece old piece before after new → Wrote old (token ∷ []) new
wrote_token old new token piece before after is b a h = record {
  bytes = h.bytes ∙ (λ i. old.bytes ++ ((if old.tight || b i then [] else 32 ∷ []) ++ is i)) ∙ ap (λ (zs : List ℕ). old.bytes ++ ((if old.tight || is_tight_before token then [] else 32 ∷ []) ++ zs)) (sym (append-nil (token_text token)));
  tight = h.tight ∙ a;
}
