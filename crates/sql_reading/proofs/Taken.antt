-- The token that a cursor takes.
use Rattle.std.proofs.Common.{◌≡◌, ℕ, ◌<◌, ◌^◌, Bool, true, false, List, [], ◌∷◌, refl, sym, ap, ◌∙◌, subst}
use Rattle.std.proofs.lemmas.Bool.{ltb-true, lt-ltb}
use Rattle.std.specs.Prelude.{Option, Some, Ok, nat_lt, ◌&&◌}
use Rattle.sql_tokens.specs.declared.sign.Sign.TheVariants as sign
use Rattle.sql_tokens.specs.declared.token.Token.{Token}
use Rattle.sql_tokens.specs.declared.token.Token.TheVariants as t
use Rattle.sql_tokens.specs.declared.token.Placed.{Placed}
use Rattle.sql_tokens.specs.Seen as seen
use Rattle.sql_tree.specs.Parts.{Spelled}
use Rattle.sql_tree.specs.Spelling.{tokens_of}
use Rattle.sql_tree.specs.Grammar.{Bound}
use Rattle.sql_readers.specs.Readers.{begins, one}
use Rattle.sql_readers.specs.Looks.{bound_if, look_bound, look_name, is_call, is_sign}
use Rattle.sql_readers.specs.Productions.{name}
use Rattle.sql_readers.specs.Reads.{Reads}
use Rattle.sql_reading.specs.Cursor.{rest_of, called, EatsCall}
use Rattle.sql_reading.proofs.Steps.{took}

pub taken : {A : Type 0} (look : Token → Option A) (a : A) (x : Token) (ts new : List Token) → ts ≡ x ∷ rest_of ts → look x ≡ Some a → new ≡ rest_of ts → Reads (one look) ts (Ok (a, new))
taken look a x ts new e f g = subst (λ (r : List Token). Reads (one look) ts (Ok (a, r))) (sym g) (subst (λ (w : List Token). Reads (one look) w (Ok (a, rest_of ts))) (sym e) (took look a x (rest_of ts) f))

pub name_taken : (x : Token) (name : List ℕ) (quoted : Bool) (v : List ℕ) (ts new : List Token) → ts ≡ x ∷ rest_of ts → x ≡ t.Name name quoted → new ≡ rest_of ts → v ≡ name
    → (s : Spelled) × (v ≡ s.name) × Reads (one look_name) ts (Ok (s, new))
name_taken x name quoted v ts new e f g h = (record { name = name; quoted = quoted }, h, taken look_name _ x ts new e (ap look_name f) g)

bound_is : (n : ℕ) (b : Bool) (e : nat_lt n (2 ^ 63) ≡ b) → n < 2 ^ 63 → (s : Bound) × (n ≡ s.number) × (bound_if n b e ≡ Some s)
bound_is n true e h = (record { number = n; below = ltb-true n (2 ^ 63) e }, refl, refl)
bound_is n false e h = let yes = lt-ltb n (2 ^ 63) h in cc

pub bound_taken : (x : Token) (n v : ℕ) (ts new : List Token) → ts ≡ x ∷ rest_of ts → x ≡ t.Number n → v ≡ n → v < 2 ^ 63 → new ≡ rest_of ts
    → (s : Bound) × (v ≡ s.number) × Reads (one look_bound) ts (Ok (s, new))
bound_taken x n v ts new e f same h g =
    let b = bound_is v (nat_lt v (2 ^ 63)) refl h in
    (b.0, b.1, taken look_bound b.0 x ts new e (ap look_bound (f ∙ ap t.Number (sym same)) ∙ b.2) g)

-- what is left behind the first
pub rest_tokens : (placed : List Placed) → tokens_of (seen.rest_of placed) ≡ rest_of (tokens_of placed)
rest_tokens [] = refl
rest_tokens (p ∷ more) = refl

-- the word of a call
call_name : (word : List ℕ) (x : Token) (ts new : List Token) → ts ≡ x ∷ rest_of ts → called word x ≡ true → new ≡ rest_of ts
    → (s : Spelled) × Reads name ts (Ok (s, new)) × (is_call word s ≡ true)
call_name word (t.Name n q) ts new e f g = (record { name = n; quoted = q }, taken look_name _ (t.Name n q) ts new e refl g, f)
call_name word _ ts new e f g = cc

and_true : (a b : Bool) → a ≡ true → b ≡ true → (a && b) ≡ true
and_true a b e f = cc

pub call_taken : (word : List ℕ) (x : Token) (ts new : List Token) → ts ≡ x ∷ rest_of ts → called word x ≡ true → new ≡ rest_of ts → begins (is_sign sign.Open) new ≡ true → EatsCall word ts true new
call_taken word x ts new e f g h = let s = call_name word x ts new e f g in (s.0, s.1, and_true _ _ s.2 h)
