-- What is found of a token is of its kind.
use Rattle.std.proofs.Common.{◌≡◌, ℕ, ◌==◌, true, false, List, [], ◌∷◌, Some, Bool, refl, subst, cond}
use Rattle.std.specs.List.{find}
use Rattle.std.proofs.lemmas.Bool.{and_parts, eqb-true}
use Rattle.acra_base.specs.declared.kind.ValueKind.{ValueKind}
use Rattle.acra_base.specs.declared.kind.ValueKind.TheVariants as kinds
use Rattle.token_rule.specs.Rule.{kind_byte, IsTokenValue}
use Rattle.token_rule.specs.Entries.{Entry, is_token, entry_of}

find_holds : (test : Entry → Bool) (es : List Entry) (e : Entry) → find test es ≡ Some e → test e ≡ true
find_holds test [] e h = absurd cc
find_holds test (x ∷ es) e h = by (test x) refl h (find_holds test es e)
  where
    by : (b : Bool) → test x ≡ b → cond b (Some x) (find test es) ≡ Some e → (find test es ≡ Some e → test e ≡ true) → test e ≡ true
    by true is k behind = let same : x ≡ e = cc in subst (λ (y : Entry). test y ≡ true) same is
    by false is k behind = behind k

one_kind : (a b : ValueKind) → kind_byte a ≡ kind_byte b → a ≡ b
one_kind kinds.Int32 kinds.Int32 h = refl
one_kind kinds.Int32 kinds.Int64 h = absurd cc
one_kind kinds.Int32 kinds.Str h = absurd cc
one_kind kinds.Int32 kinds.Bytes h = absurd cc
one_kind kinds.Int64 kinds.Int32 h = absurd cc
one_kind kinds.Int64 kinds.Int64 h = refl
one_kind kinds.Int64 kinds.Str h = absurd cc
one_kind kinds.Int64 kinds.Bytes h = absurd cc
one_kind kinds.Str kinds.Int32 h = absurd cc
one_kind kinds.Str kinds.Int64 h = absurd cc
one_kind kinds.Str kinds.Str h = refl
one_kind kinds.Str kinds.Bytes h = absurd cc
one_kind kinds.Bytes kinds.Int32 h = absurd cc
one_kind kinds.Bytes kinds.Int64 h = absurd cc
one_kind kinds.Bytes kinds.Str h = absurd cc
one_kind kinds.Bytes kinds.Bytes h = refl

pub found_kind : (es : List Entry) (kind : ValueKind) (token : ℕ) (e : Entry) → entry_of es kind token ≡ Some e → e.want.kind ≡ kind
found_kind es kind token e h =
    let parts : ((kind_byte e.want.kind == kind_byte kind) ≡ true) × ((e.token == token) ≡ true) = and_parts (kind_byte e.want.kind == kind_byte kind) (e.token == token) (find_holds (is_token kind token) es e h) in
    one_kind e.want.kind kind (eqb-true (kind_byte e.want.kind) (kind_byte kind) parts.0)

pub found_value : (es : List Entry) (kind : ValueKind) (token : ℕ) (e : Entry) → entry_of es kind token ≡ Some e → IsTokenValue e.want.kind e.want.plain → IsTokenValue kind e.want.plain
found_value es kind token e h is = subst (λ (k : ValueKind). IsTokenValue k e.want.plain) (found_kind es kind token e h) is
