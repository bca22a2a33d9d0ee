-- What more tokens leave of a list.
use Rattle.std.proofs.Common.{◌≡◌, ℕ, ◌<◌, ◌+◌, ◌%◌, ◌==◌, ◌&&◌, ◌||◌, nat_eq, List, [], ◌∷◌, ◌++◌, Bool, true, false, cond, Option, None, Some, option_map, refl, sym, ap, ◌∙◌}
use Rattle.std.specs.List.{find, list_any}
use Rattle.std.specs.Option.{option_or}
use Rattle.std.specs.Cmp.Lexicographic.{pointwise, bytes_decides}
use Rattle.std.proofs.lemmas.Bool.{cases_order, eq-eqb, and_from}
use Rattle.std.proofs.lemmas.List.Folds.{find-append}
use mathlib.Core.Logic.{⊎_elim, ◌⊎◌}
use Rattle.acra_base.specs.declared.kind.ValueKind.{ValueKind}
use Rattle.token_rule.specs.Rule.{Want, kind_byte, number_count}
use Rattle.token_rule.specs.Entries.{Entry, is_token, is_taken, is_standing, entry_of, standing_token, IsFirstFree}

not_before : (entries : List Entry) (kind : ValueKind) (start number other : ℕ) (a : IsFirstFree entries kind start number) (b : IsFirstFree entries kind start other) → a.steps < b.steps → ⊥
not_before entries kind start number other a b h =
    let taken : is_taken entries kind number ≡ true = ap (is_taken entries kind) a.place ∙ b.taken a.steps h in
    let free : is_taken entries kind number ≡ false = a.free in
    cc

pub first_free_is_one : (entries : List Entry) (kind : ValueKind) (start number other : ℕ) → IsFirstFree entries kind start number → IsFirstFree entries kind start other → number ≡ other
first_free_is_one entries kind start number other a b = ⊎_elim
    (λ (e : a.steps ≡ b.steps). a.place ∙ ap (λ i. (start + i) % number_count kind) e ∙ sym b.place)
    (λ (r : (a.steps < b.steps) ⊎ (b.steps < a.steps)). ⊎_elim
    (λ (h : a.steps < b.steps). absurd (not_before entries kind start number other a b h))
    (λ (h : b.steps < a.steps). absurd (not_before entries kind start other number b a h))
    r)
    (cases_order a.steps b.steps)

find_free : (test : Entry → Bool) (es : List Entry) → list_any test es ≡ false → find test es ≡ None
find_free test [] h = refl
find_free test (e ∷ es) h = by (test e) (list_any test es) (find test es) (find_free test es) h
  where
    by : (b r : Bool) (o : Option Entry) → (r ≡ false → o ≡ None) → (b || r) ≡ false → cond b (Some e) o ≡ None
    by true r o next k = cc
    by false r o next k = next k

pub find_added : (test : Entry → Bool) (es : List Entry) (e : Entry) → find test es ≡ None → test e ≡ true → find test (es ++ e ∷ []) ≡ Some e
find_added test es e none passes =
    find-append test es (e ∷ []) ∙ ap (λ o. option_or o (cond (test e) (Some e) None)) none ∙ ap (λ b. cond b (Some e) None) passes

pub find_stays : (test : Entry → Bool) (es more : List Entry) (found : Entry) → find test es ≡ Some found → find test (es ++ more) ≡ Some found
find_stays test es more found h = find-append test es more ∙ ap (λ o. option_or o (find test more)) h

or_none : (o : Option Entry) → option_or o None ≡ o
or_none None = refl
or_none (Some e) = refl

pub find_other : (test : Entry → Bool) (es : List Entry) (e : Entry) → test e ≡ false → find test (es ++ e ∷ []) ≡ find test es
find_other test es e fails = find-append test es (e ∷ []) ∙ ap (λ b. option_or (find test es) (cond b (Some e) None)) fails ∙ or_none (find test es)

same_text : (l : List ℕ) → pointwise nat_eq l l ≡ true
same_text l = (bytes_decides l l).1 refl

pub entry_added : (es : List Entry) (e : Entry) → is_taken es e.want.kind e.token ≡ false → entry_of (es ++ e ∷ []) e.want.kind e.token ≡ Some e
entry_added es e free =
    find_added (is_token e.want.kind e.token) es e (find_free (is_token e.want.kind e.token) es free)
    (and_from (kind_byte e.want.kind == kind_byte e.want.kind) (e.token == e.token) (eq-eqb (kind_byte e.want.kind) (kind_byte e.want.kind) refl) (eq-eqb e.token e.token refl))

stands_itself : (e : Entry) → e.want.consistent ≡ true → is_standing e.want e ≡ true
stands_itself e one =
    let own_kind : (kind_byte e.want.kind == kind_byte e.want.kind) ≡ true = eq-eqb (kind_byte e.want.kind) (kind_byte e.want.kind) refl in
    and_from (e.want.consistent && (kind_byte e.want.kind == kind_byte e.want.kind) && pointwise nat_eq e.want.owner e.want.owner) (pointwise nat_eq e.want.plain e.want.plain)
    (and_from (e.want.consistent && (kind_byte e.want.kind == kind_byte e.want.kind)) (pointwise nat_eq e.want.owner e.want.owner)
    (and_from e.want.consistent (kind_byte e.want.kind == kind_byte e.want.kind) one own_kind) (same_text e.want.owner))
    (same_text e.want.plain)

none_found : (o : Option Entry) → option_map (λ (x : Entry). x.token) o ≡ None → o ≡ None
none_found None h = refl
none_found (Some e) h = cc

pub standing_added : (es : List Entry) (e : Entry) → e.want.consistent ≡ true → standing_token es e.want ≡ None → standing_token (es ++ e ∷ []) e.want ≡ Some e.token
standing_added es e one none =
    ap (option_map (λ (x : Entry). x.token)) (find_added (is_standing e.want) es e (none_found (find (is_standing e.want) es) none) (stands_itself e one))

token_or : (o p : Option Entry) (found : ℕ) → option_map (λ (x : Entry). x.token) o ≡ Some found → option_map (λ (x : Entry). x.token) (option_or o p) ≡ Some found
token_or None p found h = absurd (cc)
token_or (Some e) p found h = h

pub standing_stays : (es more : List Entry) (w : Want) (found : ℕ) → standing_token es w ≡ Some found → standing_token (es ++ more) w ≡ Some found
standing_stays es more w found h =
    ap (option_map (λ (x : Entry). x.token)) (find-append (is_standing w) es more) ∙ token_or (find (is_standing w) es) (find (is_standing w) more) found h

pub standing_other : (es : List Entry) (e : Entry) (w : Want) → is_standing w e ≡ false → standing_token (es ++ e ∷ []) w ≡ standing_token es w
standing_other es e w fails = ap (option_map (λ (x : Entry). x.token)) (find_other (is_standing w) es e fails)
