-- A text and its tokens.
use Rattle.std.proofs.Common.{◌≡◌, ℕ, ◌+◌, ◌-◌, ◌≤◌, ◌<◌, List, [], ◌∷◌, ◌++◌, length, drop, take, length-append, length-drop, append_assoc, append-nil, ap, subst, ◌∙◌, refl, sym, arith}
use Rattle.std.specs.Prelude.{Option, Some, None}
use Rattle.std.proofs.lemmas.List.{take_all}
use Rattle.sql_tokens.specs.declared.token.Token.{Token}
use Rattle.sql_tokens.specs.declared.token.Placed.{Placed}
use Rattle.sql_tokens.specs.Tokens.{IsPiece}
use Rattle.sql_tokens.specs.Lexing.{Lexes, LexesOn, StandsBehind, BeginsNone, placed}
use Rattle.sql_tokens.specs.Steps.{Takes}
use Rattle.sql_tokens.proofs.Pieces.{not_empty}
use Rattle.sql_tokens.proofs.Unique.{one_piece}

-- the ways in which a text is read
by_case : {P : Type 0} (at : ℕ) (text : List ℕ) (tokens : List Placed) (fault : Option ℕ) → Lexes at text tokens fault
    → (text ≡ [] → tokens ≡ [] → fault ≡ None → P)
    → ((bytes rest : List ℕ) (what : Option Token) (more : List Placed) → text ≡ bytes ++ rest → tokens ≡ placed at what more → IsPiece bytes what rest → Lexes (at + length bytes) rest more fault → P)
    → ((c : ℕ) (rest : List ℕ) → text ≡ c ∷ rest → BeginsNone (c ∷ rest) → tokens ≡ [] → fault ≡ Some at → P)
    → P
by_case _ _ _ _ (Lexes.end at) ended read bad = ended refl refl refl
by_case _ _ _ fault (Lexes.piece at bytes rest what more _ is l) ended read bad = read bytes rest what more refl refl is l
by_case _ _ _ _ (Lexes.fault at c rest none) ended read bad = bad c rest refl none refl refl

some_bytes : (bytes rest : List ℕ) (what : Option Token) → IsPiece bytes what rest → [] ≡ bytes ++ rest → ⊥
some_bytes [] rest what is e = not_empty what rest is
some_bytes (b ∷ bs) rest what is e = cc

pub one_lexing : (at : ℕ) (text : List ℕ) (a b : List Placed) (f g : Option ℕ) → Lexes at text a f → Lexes at text b g → (a ≡ b) × (f ≡ g)
one_lexing _ _ _ b _ g (Lexes.end at) m = by_case at [] b g m
    (λ _ tokens fault. (sym tokens, sym fault))
    (λ bytes rest what more e _ is _. absurd (some_bytes bytes rest what is e))
    (λ c rest e _ _ _. cc)
one_lexing _ _ _ b f g (Lexes.piece at bytes rest what more _ is l) m = by_case at (bytes ++ rest) b g m
    (λ e _ _. absurd (some_bytes bytes rest what is (sym e)))
    (λ others left which next e tokens also k.
    let o = one_piece bytes rest others left what which e is also in
    let r = one_lexing (at + length bytes) rest more next f g l (subst (λ n. Lexes (at + n) rest next g) (ap length (sym o.0)) (subst (λ (xs : List ℕ). Lexes (at + length others) xs next g) (sym o.2) k)) in
    ((λ i. placed at (o.1 i) (r.0 i)) ∙ sym tokens, r.1))
    (λ c left e none _ _. absurd (none bytes rest what (sym e) is))
one_lexing _ _ _ b _ g (Lexes.fault at c rest none) m = by_case at (c ∷ rest) b g m
    (λ e _ _. cc)
    (λ bytes left what more e _ is _. absurd (none bytes left what e is))
    (λ _ _ _ _ tokens fault. (sym tokens, sym fault))

-- the tokens so far of a text from a place on, behind those that stood before, and what is left
pub record SoFar (text : List ℕ) (from : ℕ) (before tokens : List Placed) (left : List ℕ) : Type 0 where
  pub within : length left ≤ length text
  pub behind : StandsBehind before tokens
  pub reads : (more : List Placed) (fault : Option ℕ) → Lexes (length text - length left) left more fault → LexesOn from (drop from text) before (tokens ++ more) fault

-- all that a slice from a place on shows
pub from_place : (text : List ℕ) (from : ℕ) → take (length text - from) (drop from text) ≡ drop from text
from_place text from = let dropped = length-drop from text in take_all (length text - from) (drop from text) (omega arith)

pub none_yet : (text : List ℕ) (from : ℕ) (before : List Placed) (left : List ℕ) → from ≤ length text → left ≡ drop from text → SoFar text from before before left
none_yet text from before left inside is = subst (SoFar text from before before) (sym is) (
    let dropped = length-drop from text in
    record {
      within = omega arith;
      behind = ([], sym (append-nil before));
      reads = λ more fault l.
          let at : length text - length (drop from text) ≡ from = omega arith in
          record { more = more; behind = refl; lexes = subst (λ n. Lexes n (drop from text) more fault) at l };
    })

pub shorter : (old new : List ℕ) (what : Option Token) → Takes old what new → length new < length old
shorter old new what h = some h.piece h.whole h.is
  where
    some : (piece : List ℕ) → old ≡ piece ++ new → IsPiece piece what new → length new < length old
    some [] e is = absurd (not_empty what new is)
    some (b ∷ bs) e is = let l = ap length e in let k = length-append bs new in omega arith

further : (before tokens now more : List Placed) → StandsBehind before tokens → now ≡ tokens ++ more → StandsBehind before now
further before tokens now more (some, e) pushed = (some ++ more, pushed ∙ ap (λ (xs : List Placed). xs ++ more) e ∙ append_assoc before some more)

pub one_more : (text : List ℕ) (from : ℕ) (before tokens now : List Placed) (old new : List ℕ) (what : Option Token)
    → SoFar text from before tokens old → Takes old what new → now ≡ tokens ++ placed (length text - length old) what [] → SoFar text from before now new
one_more text from before tokens now old new what so_far h pushed =
    let at = length text - length old in
    let within = so_far.within in
    let e = ap length h.whole in
    let k = length-append h.piece new in
    record {
      within = omega arith;
      behind = further before tokens now (placed at what []) so_far.behind pushed;
      reads = λ more fault l.
          let next : at + length h.piece ≡ length text - length new = omega arith in
          let whole = Lexes.piece at h.piece new what more fault h.is (subst (λ n. Lexes n new more fault) (sym next) l) in
          let read = so_far.reads (placed at what more) fault (subst (λ (xs : List ℕ). Lexes at xs (placed at what more) fault) (sym h.whole) whole) in
          subst (λ (xs : List Placed). LexesOn from (drop from text) before xs fault) (sym (joined at what more pushed)) read;
    }
  where
    joined : (at : ℕ) (what : Option Token) (more : List Placed) → now ≡ tokens ++ placed at what [] → now ++ more ≡ tokens ++ placed at what more
    joined at None more e = ap (λ (xs : List Placed). xs ++ more) (e ∙ append-nil tokens)
    joined at (Some token) more e = ap (λ (xs : List Placed). xs ++ more) e ∙ append_assoc tokens (record { token = token; place = at } ∷ []) more

pub whole_end : (text : List ℕ) (from : ℕ) (before : List Placed) (left : List ℕ) (tokens : List Placed) → SoFar text from before tokens left → left ≡ [] → LexesOn from (drop from text) before tokens None
whole_end text from before left tokens so_far e =
    let read = so_far.reads [] None (subst (λ (xs : List ℕ). Lexes (length text - length left) xs [] None) (sym e) (Lexes.end (length text - length left))) in
    subst (λ (xs : List Placed). LexesOn from (drop from text) before xs None) (append-nil tokens) read

pub whole_bad : (text : List ℕ) (from : ℕ) (before : List Placed) (left : List ℕ) (tokens : List Placed) (place : ℕ)
    → SoFar text from before tokens left → BeginsNone left → 1 ≤ length left → place ≡ length left → LexesOn from (drop from text) before tokens (Some (length text - place))
whole_bad text from before [] tokens place so_far none some e = absurd (omega arith)
whole_bad text from before (c ∷ rest) tokens place so_far none some e =
    let at = length text - length (c ∷ rest) in
    let read = so_far.reads [] (Some at) (Lexes.fault at c rest none) in
    subst (λ n. LexesOn from (drop from text) before tokens (Some (length text - n))) (sym e) (subst (λ (xs : List Placed). LexesOn from (drop from text) before xs (Some at)) (append-nil tokens) read)

-- behind no tokens, from the beginning on
pub from_the_first : (text : List ℕ) (old tokens : List Placed) (fault : Option ℕ) → old ≡ [] → LexesOn 0 text old tokens fault → Lexes 0 text tokens fault
from_the_first text old tokens fault e h = subst (λ (xs : List Placed). Lexes 0 text xs fault) (sym (h.behind ∙ ap (λ (xs : List Placed). xs ++ h.more) e)) h.lexes
