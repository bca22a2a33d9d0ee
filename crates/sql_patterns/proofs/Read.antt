-- A text is one pattern at most, whose numbers are small.
use Rattle.std.proofs.Common.{◌≡◌, ℕ, ◌+◌, ◌-◌, ◌≤◌, Bool, true, false, List, [], ◌∷◌, ◌++◌, length, drop, ap, subst, ◌∙◌, refl, sym, true≢false}
use Rattle.std.specs.Prelude.{Option, Some, None, MatchOption, Result, Ok, Err, IfOk}
use Rattle.acra_base.specs.declared.no_memory.NoMemory.{NoMemory}
use Rattle.sql_tokens.specs.declared.token.Token.{Token}
use Rattle.sql_tokens.specs.declared.token.Token.TheVariants as t
use Rattle.sql_tokens.specs.declared.token.Placed.{Placed}
use Rattle.sql_tokens.proofs.Whole.{one_lexing}
use Rattle.sql_tree.specs.declared.statement.Statement.{Statement}
use Rattle.sql_tree.specs.Grammar.{text_tree}
use Rattle.sql_tree.specs.Spelling.{tokens_of}
use Rattle.sql_reading.specs.Cursor.{AreSmall}
use Rattle.sql_reading.proofs.Small.{lexed_small}
use Rattle.sql_derivations.proofs.Wholes.{one_derivation}
use Rattle.sql_parser.specs.Judging.{TokensSpell}
use Rattle.sql_patterns.specs.declared.hole.Hole.{Hole}
use Rattle.sql_patterns.specs.declared.hole.Hole.TheVariants as hole
use Rattle.sql_patterns.specs.declared.pattern.Pattern.{Pattern}
use Rattle.sql_patterns.specs.Holes.{hole_of, hole_word, hole_tokens, PatternLexes}
use Rattle.sql_patterns.specs.Standing.{all_stand, are_names_plain}
use Rattle.sql_patterns.specs.Patterns.{IsPattern, IsRead, IsMade}
use Rattle.sql_patterns.proofs.Segments.{by_case}

small_both : (xs ys : List Token) → AreSmall xs → AreSmall ys → AreSmall (xs ++ ys)
small_both [] ys a b = b
small_both (t.Number n ∷ xs) ys a b = (a.0, small_both xs ys a.1 b)
small_both (t.Word w ∷ xs) ys a b = small_both xs ys a b
small_both (t.Name name quoted ∷ xs) ys a b = small_both xs ys a b
small_both (t.Text text ∷ xs) ys a b = small_both xs ys a b
small_both (t.Parameter n ∷ xs) ys a b = small_both xs ys a b
small_both (t.Sign s ∷ xs) ys a b = small_both xs ys a b

both_tokens : (xs ys : List Placed) → tokens_of (xs ++ ys) ≡ tokens_of xs ++ tokens_of ys
both_tokens [] ys = refl
both_tokens (x ∷ xs) ys = ap (λ (ts : List Token). x.token ∷ ts) (both_tokens xs ys)

both_small : (xs ys : List Placed) → AreSmall (tokens_of xs) → AreSmall (tokens_of ys) → AreSmall (tokens_of (xs ++ ys))
both_small xs ys a b = subst AreSmall (sym (both_tokens xs ys)) (small_both (tokens_of xs) (tokens_of ys) a b)

hole_small : (place : ℕ) (found : Hole) → AreSmall (tokens_of (hole_tokens place found))
hole_small place hole.Value = tt
hole_small place hole.Column = tt
hole_small place hole.Where = tt

pub pattern_small : (at : ℕ) (text : List ℕ) (all : List Placed) → PatternLexes at text all → AreSmall (tokens_of all)
pattern_small _ _ _ (PatternLexes.last at text tokens l) = lexed_small l
pattern_small _ _ _ (PatternLexes.segment at place text found tokens more l is rest) =
    both_small tokens (hole_tokens place found ++ more) (lexed_small l) (both_small (hole_tokens place found) more (hole_small place found) (pattern_small _ _ more rest))

-- a text with holes has one reading
pub one_reading : (at : ℕ) (text : List ℕ) (a b : List Placed) → PatternLexes at text a → PatternLexes at text b → a ≡ b
one_reading _ _ _ b (PatternLexes.last at text tokens l) q = by_case at text b q
    (λ m. (one_lexing at text tokens b None None l m).0)
    (λ place found others more e m is rest. let both = (one_lexing at text tokens others None (Some place) l m).1 in cc)
one_reading _ _ _ b (PatternLexes.segment at place text found tokens more l is rest) q = by_case at text b q
    (λ m. let both = (one_lexing at text tokens b (Some place) None l m).1 in cc)
    (λ there other others next e m also left.
    let same = one_lexing at text tokens others (Some place) (Some there) l m in
    let at_place : there ≡ place = let both = same.1 in cc in
    let one : Some found ≡ Some other = sym is ∙ ap (λ n. hole_of (drop (n - at) text)) (sym at_place) ∙ also in
    let one_hole : other ≡ found = cc in
    let behind = subst (λ n. PatternLexes (n + length (hole_word other)) (drop (n - at + length (hole_word other)) text) next) at_place left in
    let behind_one = subst (λ h. PatternLexes (place + length (hole_word h)) (drop (place - at + length (hole_word h)) text) next) one_hole behind in
    let tail = one_reading (place + length (hole_word found)) (drop (place - at + length (hole_word found)) text) more next rest behind_one in
    (λ i. same.0 i ++ (hole_tokens (sym at_place i) (sym one_hole i) ++ tail i)) ∙ sym e)

pub one_tree : (ts : List Token) (a b : Bool) (x y : Statement) → TokensSpell ts a x → TokensSpell ts b y → x ≡ y
one_tree ts a b x y h k = h.spells.is ∙ ap text_tree (one_derivation h.spells.by k.spells.by (sym h.spells.derives ∙ k.spells.derives)) ∙ sym k.spells.is

pub one_pattern : (text : List ℕ) (a b : Statement) → IsPattern text a → IsPattern text b → a ≡ b
one_pattern text a b h k =
    let same = one_reading 0 text h.placed k.placed h.lexes k.lexes in
    one_tree (tokens_of k.placed) true true a b (subst (λ ps. TokensSpell (tokens_of ps) true a) same h.spells) k.spells

-- ---- what is made of the tokens

module _ (placed : List Placed) where
  pub not_standing : (stand : Bool) → stand ≡ all_stand false false (tokens_of placed) → stand ≡ false → IsMade placed None
  not_standing stand is fails = λ tree s holds plain. true≢false (sym holds ∙ sym is ∙ fails)

  pub not_plain : (tree : Statement) → TokensSpell (tokens_of placed) true tree → are_names_plain tree ≡ false → IsMade placed None
  not_plain tree s fails = λ other k holds plain. true≢false (sym plain ∙ ap are_names_plain (one_tree (tokens_of placed) true true other tree k s) ∙ fails)

  pub made_some : (tree : Statement) → TokensSpell (tokens_of placed) true tree → all_stand false false (tokens_of placed) ≡ true → (result : Option Pattern)
      → MatchOption result (are_names_plain tree ≡ false) (λ pattern. (pattern.tree ≡ tree) × (are_names_plain tree ≡ true)) → IsMade placed result
  made_some tree s stand None fails = not_plain tree s fails
  made_some tree s stand (Some pattern) (is, plain) = (subst (TokensSpell (tokens_of placed) true) (sym is) s, stand, ap are_names_plain is ∙ plain)

  pub shown_small : (text : List ℕ) (shown : List Placed) → PatternLexes 0 text placed → shown ≡ placed → AreSmall (tokens_of shown)
  shown_small text shown l same = pattern_small 0 text shown (subst (PatternLexes 0 text) (sym same) l)

module _ (text : List ℕ) where
  pub read_some : (placed : List Placed) (shown : List Placed) (pattern : Option Pattern) → PatternLexes 0 text placed → shown ≡ placed → IsMade shown pattern → length text ≤ 1048576 → IsRead text pattern
  read_some placed shown (Some pattern) l same made short =
      record { short = short; placed = shown; lexes = subst (PatternLexes 0 text) (sym same) l; spells = made.0; stand = made.1; plain = made.2 }
  read_some placed shown None l same made short = λ tree p.
      let is = one_reading 0 text p.placed shown p.lexes (subst (PatternLexes 0 text) (sym same) l) in
      made tree (subst (λ ps. TokensSpell (tokens_of ps) true tree) is p.spells) (subst (λ ps. all_stand false false (tokens_of ps) ≡ true) is p.stand) p.plain

  pub read_ok : (placed : List Placed) (shown : List Placed) (result : Result (Option Pattern) NoMemory) → PatternLexes 0 text placed → shown ≡ placed → IfOk result (λ pattern. IsMade shown pattern)
      → length text ≤ 1048576 → IfOk result (λ pattern. IsRead text pattern)
  read_ok placed shown (Ok pattern) l same made short = read_some placed shown pattern l same made short
  read_ok placed shown (Err fault) l same made short = tt

  pub read_none : ((placed : List Placed) → PatternLexes 0 text placed → ⊥) → IsRead text None
  read_none none = λ tree p. none p.placed p.lexes
