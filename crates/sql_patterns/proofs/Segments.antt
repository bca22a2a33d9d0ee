-- The tokens of a text with holes, segment by segment.
use Rattle.std.proofs.Common.{◌≡◌, ℕ, ◌+◌, ◌-◌, ◌≤◌, ◌<◌, List, [], ◌++◌, length, drop, length-append, length-drop, append_assoc, ap, subst, ◌∙◌, refl, sym, arith}
use Rattle.std.specs.Prelude.{Option, Some, None}
use Rattle.std.proofs.lemmas.List.{drop-drop}
use Rattle.sql_tokens.specs.declared.token.Placed.{Placed}
use Rattle.sql_tokens.specs.Lexing.{Lexes, LexesOn}
use Rattle.sql_tokens.proofs.Whole.{one_lexing}
use Rattle.sql_patterns.specs.declared.hole.Hole.{Hole}
use Rattle.sql_patterns.specs.declared.hole.Hole.TheVariants as hole
use Rattle.sql_patterns.specs.Holes.{hole_of, hole_word, hole_tokens, PatternLexes}

-- where the first bytes that are no token begin
pub fault_within : (at : ℕ) (text : List ℕ) (tokens : List Placed) (stop : Option ℕ) → Lexes at text tokens stop → (f : ℕ) → stop ≡ Some f → (at ≤ f) × (f < at + length text)
fault_within _ _ _ _ (Lexes.end at) f e = cc
fault_within _ _ _ stop (Lexes.piece at bytes rest what more _ is l) f e =
    let h = fault_within (at + length bytes) rest more stop l f e in
    let k = length-append bytes rest in
    (let low = h.0 in omega arith, let high = h.1 in omega arith)
fault_within _ _ _ _ (Lexes.fault at c rest none) f e = let same : at ≡ f = cc in (omega arith, omega arith)

-- the ways in which a text is read
pub by_case : {P : Type 0} (at : ℕ) (text : List ℕ) (all : List Placed) → PatternLexes at text all
    → (Lexes at text all None → P)
    → ((place : ℕ) (found : Hole) (tokens more : List Placed) → all ≡ tokens ++ (hole_tokens place found ++ more) → Lexes at text tokens (Some place)
    → hole_of (drop (place - at) text) ≡ Some found → PatternLexes (place + length (hole_word found)) (drop (place - at + length (hole_word found)) text) more → P)
    → P
by_case _ _ _ (PatternLexes.last at text tokens l) whole cut = whole l
by_case _ _ _ (PatternLexes.segment at place text found tokens more l is rest) whole cut = cut place found tokens more refl l is rest

-- the tokens so far, and where reading goes on
pub record SoFar (text : List ℕ) (tokens : List Placed) (from : ℕ) : Type 0 where
  pub within : from ≤ length text
  pub reads : (more : List Placed) → PatternLexes from (drop from text) more → PatternLexes 0 text (tokens ++ more)
  pub only : (all : List Placed) → PatternLexes 0 text all → (more : List Placed) × PatternLexes from (drop from text) more

pub none_yet : (text : List ℕ) (tokens : List Placed) → tokens ≡ [] → SoFar text tokens 0
none_yet text tokens e = record {
  within = omega arith;
  reads = λ more p. subst (λ (ts : List Placed). PatternLexes 0 text (ts ++ more)) (sym e) p;
  only = λ all p. (all, p);
}

module _ (text : List ℕ) (before : List Placed) (from : ℕ) (so_far : SoFar text before from) where
  pub whole : (now : List Placed) → LexesOn from (drop from text) before now None → PatternLexes 0 text now
  whole now l =
      subst (PatternLexes 0 text) (sym l.behind) (so_far.reads l.more (PatternLexes.last from (drop from text) l.more l.lexes))

  -- the first bytes that are no token are at this place
  module _ (now : List Placed) (place : ℕ) (l : LexesOn from (drop from text) before now (Some place)) where
    pub place_within : (from ≤ place) × (place < length text)
    place_within =
        let h = fault_within from (drop from text) l.more (Some place) l.lexes place refl in
        let k = length-drop from text in
        let inside = so_far.within in
        (h.0, let high = h.1 in omega arith)

    left : (n : ℕ) → drop (place - from + n) (drop from text) ≡ drop (place + n) text
    left n = let low = place_within.0 in drop-drop (place - from + n) from text ∙ ap (λ m. drop m text) (let same : from + (place - from + n) ≡ place + n = omega arith in same)

    here : drop (place - from) (drop from text) ≡ drop place text
    here = let low = place_within.0 in drop-drop (place - from) from text ∙ ap (λ m. drop m text) (let same : from + (place - from) ≡ place = omega arith in same)

    -- no other segment stands here
    one_segment : {P : Type 0} (all : List Placed) → PatternLexes from (drop from text) all
        → ((found : Hole) (more : List Placed) → hole_of (drop place text) ≡ Some found → PatternLexes (place + length (hole_word found)) (drop (place + length (hole_word found)) text) more → P) → P
    one_segment all p next = by_case from (drop from text) all p
        (λ other. let both = (one_lexing from (drop from text) l.more all (Some place) None l.lexes other).1 in cc)
        (λ at found tokens more e other is rest.
        let both = (one_lexing from (drop from text) l.more tokens (Some place) (Some at) l.lexes other).1 in
        let same : at ≡ place = cc in
        let is_here : hole_of (drop place text) ≡ Some found = sym (ap hole_of here) ∙ subst (λ n. hole_of (drop (n - from) (drop from text)) ≡ Some found) same is in
        let rest_here = subst (λ n. PatternLexes (n + length (hole_word found)) (drop (n - from + length (hole_word found)) (drop from text)) more) same rest in
        next found more is_here (subst (λ (xs : List ℕ). PatternLexes (place + length (hole_word found)) xs more) (left (length (hole_word found))) rest_here))

    pub no_hole : hole_of (drop place text) ≡ None → (all : List Placed) → PatternLexes 0 text all → ⊥
    no_hole e all p = let q = so_far.only all p in one_segment q.0 q.1 (λ found more is rest. let both : None ≡ Some found = sym e ∙ is in cc)

    pub one_more : (found : Hole) (then : List Placed) (next : ℕ) → hole_of (drop place text) ≡ Some found → place + length (hole_word found) ≤ length text
        → then ≡ now ++ hole_tokens place found → next ≡ place + length (hole_word found) → SoFar text then next
    one_more found then next is inside pushed e = subst (SoFar text then) (sym e) (
        let size = length (hole_word found) in
        record {
          within = inside;
          reads = λ more p.
              let rest = subst (λ (xs : List ℕ). PatternLexes (place + size) xs more) (sym (left size)) p in
              let segment = PatternLexes.segment from place (drop from text) found l.more more l.lexes (ap hole_of here ∙ is) rest in
              subst (PatternLexes 0 text) (joined more) (so_far.reads (l.more ++ (hole_tokens place found ++ more)) segment);
          only = λ all p. let q = so_far.only all p in one_segment q.0 q.1 (λ other more also rest.
              let both : Some other ≡ Some found = sym also ∙ is in
              let same : other ≡ found = cc in
              (more, subst (λ h. PatternLexes (place + length (hole_word h)) (drop (place + length (hole_word h)) text) more) same rest));
        })
      where
        joined : (more : List Placed) → before ++ (l.more ++ (hole_tokens place found ++ more)) ≡ then ++ more
        joined more =
            sym (append_assoc before l.more (hole_tokens place found ++ more)) ∙ ap (λ (ts : List Placed). ts ++ (hole_tokens place found ++ more)) (sym l.behind)
            ∙ sym (append_assoc now (hole_tokens place found) more) ∙ ap (λ (ts : List Placed). ts ++ more) (sym pushed)

some_bytes : (found : Hole) → 1 ≤ length (hole_word found)
some_bytes hole.Value = omega arith
some_bytes hole.Column = omega arith
some_bytes hole.Where = omega arith

-- less is left behind a hole
pub less_left : (text : List ℕ) (from place size : ℕ) (found : Hole) → (from ≤ place) × (place < length text) → size ≡ length (hole_word found) → length text - (place + size) < length text - from
less_left text from place size found (low, high) e = let some = some_bytes found in omega arith
