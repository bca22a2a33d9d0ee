-- What becomes of the tokens that were read.
use Rattle.std.proofs.Common.{◌≡◌, ℕ, zero, suc, ◌+◌, ◌-◌, ◌≤◌, ◌<◌, Bool, true, false, List, [], ◌∷◌, ◌++◌, length, length-append, map, take, drop, append-nil, refl, sym, ap, ◌∙◌, subst, arith, ◌⊎◌, inl, inr}
use Rattle.std.specs.Prelude.{◌&&◌, ◌||◌, ◌↔◌, not, nat_eq, nat_le, nat_lt, codes, Contains, IsTrue, IsNone, MatchOption, Option, Some, None, option_map, Result, Ok, Err, if◌then◌else◌}
use Rattle.std.specs.List.{list_all}
use Rattle.std.specs.Cmp.Lexicographic.{pointwise, same_text}
use Rattle.std.proofs.lemmas.Bool.{le-leb, leb-true, ltb-true, ltb-false, eq-eqb}
use Rattle.std.proofs.lemmas.List.{take-append-drop, length-map}
use Rattle.std.proofs.Math.Seq.{take-append_seam, drop-append_seam}
use Rattle.std.proofs.lemmas.List.Sums.{AllPass-from_list_all}
use Rattle.std.proofs.lemmas.List.Elements.{All-contains, Contains-append_right}
use Rattle.sql_tokens.specs.declared.keyword.Keyword.TheVariants as word
use Rattle.sql_tokens.specs.declared.token.Token.{Token}
use Rattle.sql_tokens.specs.declared.token.Token.TheVariants as t
use Rattle.sql_tokens.specs.declared.token.Placed.{Placed}
use Rattle.sql_tree.specs.declared.condition.Cond.TheVariants as tree
use Rattle.sql_tree.specs.declared.statement.Statement.{Statement}
use Rattle.sql_tree.specs.declared.statement.Statement.TheVariants as statement
use Rattle.sql_tree.specs.Conditions.{Cond, cond_tree, cond_open}
use Rattle.sql_tree.specs.Grammar as grammar
use Rattle.sql_tree.specs.Grammar.{Body, body_qualifiers, body_tree, Text, text_tokens, text_tree}
use Rattle.sql_tree.specs.Depths.{filter_open, text_open, statement_depth}
use Rattle.sql_tree.specs.Spelling.{Spells, IsQualified, IsGapless, IsSettable, parameters, tokens_of}
use Rattle.sql_reading.specs.declared.made.Reading.{Reading}
use Rattle.sql_parser.specs.Judging.{WasRead, TokensSpell, TokensFail, TokensGive, is_deep, refusal_of, refusal_after}
use Rattle.sql_parser.specs.Judging as judging
use Rattle.sql_reading.specs.Made.{kept, reading, whole_reading}
use Rattle.sql_tokens.specs.Lexing.{Lexes}
use Rattle.sql_outcomes.specs.declared.refusal.SqlKind.{SqlKind}
use Rattle.sql_outcomes.specs.declared.refusal.SqlKind.TheVariants as kind
use Rattle.sql_outcomes.specs.declared.refusal.ParseFault.{ParseFault}
use Rattle.sql_outcomes.specs.declared.refusal.ParseFault.TheVariants as fault
use Rattle.sql_outcomes.specs.Outcome.{Begins, IsFault, place_after, is_shallow, Outcome, IsOutcome, IsTold, Tells}
use Rattle.sql_reading.specs.Cursor.{AreSmall}
use Rattle.sql_reading.proofs.Small.{lexed_small}
use Rattle.sql_derivations.proofs.Outcomes.{one_outcome}
use Rattle.sql_outcomes.specs.Outside.{is_outside, is_settable, sets_other, is_set, set_place, outside_place}
use Rattle.sql_readers.specs.Passes.{before_dots, numbers, qualifiers_agree}
use Rattle.sql_readers.specs.Productions.{whole}
use Rattle.sql_readers.specs.Reads.{Reads}
use Rattle.sql_reading.specs.Gives.{Gives}
use Rattle.sql_derivations.proofs.Dots.{text_dots}
use Rattle.sql_derivations.proofs.Numbers.{text_numbers}
use Rattle.sql_derivations.proofs.Wholes.{Stops, one_derivation, derives, left_over, refused}

-- ---- the names before columns

all_from : (p : List ℕ → Bool) (xs : List (List ℕ)) → ((q : List ℕ) → Contains xs q → p q ≡ true) → list_all p xs ≡ true
all_from p [] h = refl
all_from p (x ∷ xs) h = λ i. h x (0, omega arith, refl) i && all_from p xs (λ q k. h q (Contains-append_right (x ∷ []) xs q k)) i

names_are : (table : List ℕ) (xs : List (List ℕ)) → list_all (λ q. pointwise nat_eq q table) xs ≡ true → (q : List ℕ) → Contains xs q → q ≡ table
names_are table xs e q k = same_text q table (sym (All-contains (λ q. pointwise nat_eq q table ≡ true) xs q (AllPass-from_list_all (λ q. pointwise nat_eq q table) xs e) k))

same_self : (xs : List ℕ) → pointwise nat_eq xs xs ≡ true
same_self [] = refl
same_self (x ∷ xs) = λ i. eq-eqb x x refl i && same_self xs i

names_agree : (table : List ℕ) (xs : List (List ℕ)) → ((q : List ℕ) → Contains xs q → q ≡ table) → list_all (λ q. pointwise nat_eq q table) xs ≡ true
names_agree table xs h = all_from (λ q. pointwise nat_eq q table) xs (λ q k. ap (λ w. pointwise nat_eq w table) (h q k) ∙ same_self table)

none_contained : (q : List ℕ) → Contains [] q → ⊥
none_contained q h = let k = h.1 in omega arith

dots_of : (b : Body) (semicolon : Bool) (ts : List Token) → ts ≡ text_tokens (record { body = Some b; semicolon = semicolon }) → before_dots ts ≡ body_qualifiers b
dots_of b semicolon ts e = ap before_dots e ∙ text_dots b semicolon

body_qualified : (b : Body) (semicolon : Bool) (ts : List Token) → ts ≡ text_tokens (record { body = Some b; semicolon = semicolon }) → qualifiers_agree (reading b).statement ts ≡ true → IsQualified (Some b)
body_qualified (grammar.select q) semicolon ts e h = λ n k. names_are q.table.name (before_dots ts) h n (subst (λ xs. Contains xs n) (sym (dots_of (grammar.select q) semicolon ts e)) k)
body_qualified (grammar.insert table names rows) semicolon ts e h = λ n k. absurd (none_contained n k)
body_qualified (grammar.update table pairs cond) semicolon ts e h = λ n k. names_are table.name (before_dots ts) h n (subst (λ xs. Contains xs n) (sym (dots_of (grammar.update table pairs cond) semicolon ts e)) k)
body_qualified (grammar.delete table cond) semicolon ts e h = λ n k. names_are table.name (before_dots ts) h n (subst (λ xs. Contains xs n) (sym (dots_of (grammar.delete table cond) semicolon ts e)) k)
body_qualified (grammar.set name to value) semicolon ts e h = λ n k. absurd (none_contained n k)

text_qualified : (b : Option Body) (semicolon : Bool) (ts : List Token) → ts ≡ text_tokens (record { body = b; semicolon = semicolon })
    → qualifiers_agree (whole_reading (record { body = b; semicolon = semicolon })).statement ts ≡ true → IsQualified b
text_qualified None semicolon ts e h = tt
text_qualified (Some b) semicolon ts e h = body_qualified b semicolon ts e h

body_agrees : (b : Body) (semicolon : Bool) (ts : List Token) → ts ≡ text_tokens (record { body = Some b; semicolon = semicolon }) → IsQualified (Some b) → qualifiers_agree (reading b).statement ts ≡ true
body_agrees (grammar.select q) semicolon ts e h = names_agree q.table.name (before_dots ts) (λ n k. h n (subst (λ xs. Contains xs n) (dots_of (grammar.select q) semicolon ts e) k))
body_agrees (grammar.insert table names rows) semicolon ts e h = refl
body_agrees (grammar.update table pairs cond) semicolon ts e h = names_agree table.name (before_dots ts) (λ n k. h n (subst (λ xs. Contains xs n) (dots_of (grammar.update table pairs cond) semicolon ts e) k))
body_agrees (grammar.delete table cond) semicolon ts e h = names_agree table.name (before_dots ts) (λ n k. h n (subst (λ xs. Contains xs n) (dots_of (grammar.delete table cond) semicolon ts e) k))
body_agrees (grammar.set name to value) semicolon ts e h = refl

text_agrees : (b : Option Body) (semicolon : Bool) (ts : List Token) → ts ≡ text_tokens (record { body = b; semicolon = semicolon }) → IsQualified b
    → qualifiers_agree (whole_reading (record { body = b; semicolon = semicolon })).statement ts ≡ true
text_agrees None semicolon ts e h = refl
text_agrees (Some b) semicolon ts e h = body_agrees b semicolon ts e h

-- ---- the name that SET sets

if_none : (b : Bool) (place : ℕ) → (if b then Some place else None) ≡ None → b ≡ false
if_none true place e = cc
if_none false place e = refl

not_false : (b : Bool) → not b ≡ false → b ≡ true
not_false true e = refl
not_false false e = cc

settable_name : (name : List ℕ) → is_settable name ≡ true → (name ≡ codes "application_name") ⊎ (name ≡ codes "extra_float_digits")
settable_name name e = by (pointwise nat_eq name (codes "application_name")) refl
  where
    by : (b : Bool) → pointwise nat_eq name (codes "application_name") ≡ b → (name ≡ codes "application_name") ⊎ (name ≡ codes "extra_float_digits")
    by true f = inl (same_text name (codes "application_name") (sym f))
    by false f = inr (same_text name (codes "extra_float_digits") (sym (subst (λ b. (b || pointwise nat_eq name (codes "extra_float_digits")) ≡ true) f e)))

set_settable : (placed : List Placed) (name : List ℕ) (quoted : Bool) (ts : List Token) → tokens_of placed ≡ t.Word word.Set ∷ t.Name name quoted ∷ ts → outside_place placed ≡ None
    → (name ≡ codes "application_name") ⊎ (name ≡ codes "extra_float_digits")
set_settable [] name quoted ts e h = cc
set_settable (p ∷ []) name quoted ts e h = cc
set_settable (p ∷ q ∷ more) name quoted ts e h =
    let first : p.token ≡ t.Word word.Set = cc in
    let second : q.token ≡ t.Name name quoted = cc in
    let place : set_place (q ∷ more) ≡ None = sym (ap (λ w. if is_outside w then Some p.place else (if is_set w then set_place (q ∷ more) else None)) first) ∙ h in
    let other : sets_other (t.Name name quoted) ≡ false = sym (ap sets_other second) ∙ if_none (sets_other q.token) q.place place in
    settable_name name (not_false (is_settable name) other)

text_settable : (placed : List Placed) (b : Option Body) (semicolon : Bool) → tokens_of placed ≡ text_tokens (record { body = b; semicolon = semicolon }) → outside_place placed ≡ None
    → IsSettable (text_tree (record { body = b; semicolon = semicolon }))
text_settable placed None semicolon e h = tt
text_settable placed (Some (grammar.select q)) semicolon e h = tt
text_settable placed (Some (grammar.insert table names rows)) semicolon e h = tt
text_settable placed (Some (grammar.update table pairs cond)) semicolon e h = tt
text_settable placed (Some (grammar.delete table cond)) semicolon e h = tt
text_settable placed (Some (grammar.set name to value)) semicolon e h = set_settable placed name.name name.quoted _ e h

-- ---- what is kept of conditions

kept_is : (d : Cond) → cond_open d ≤ 128 → kept d ≡ cond_tree d
kept_is d h = ap (λ b. if b then cond_tree d else tree.And []) (le-leb (cond_open d) 128 h)

filter_is : (o : Option Cond) → filter_open o ≤ 128 → option_map kept o ≡ option_map cond_tree o
filter_is None h = refl
filter_is (Some d) h = ap Some (kept_is d h)

body_kept : (b : Body) → (reading b).deepest ≤ 128 → (reading b).statement ≡ body_tree b
body_kept (grammar.select q) h = λ i. statement.Select q.table.name (grammar.items_tree q.items) (filter_is q.cond h i) (elim (q.order) [ None ↦ [] | Some o ↦ map grammar.key_tree (grammar.all_of o) ])
    (option_map (λ (b : grammar.Bound). b.number) q.limit) (option_map (λ (b : grammar.Bound). b.number) q.offset)
body_kept (grammar.insert table names rows) h = refl
body_kept (grammar.update table pairs cond) h = λ i. statement.Update table.name (map grammar.pair_tree (grammar.all_of pairs)) (filter_is cond h i)
body_kept (grammar.delete table cond) h = λ i. statement.Delete table.name (filter_is cond h i)
body_kept (grammar.set name to value) h = refl

text_kept : (b : Option Body) (semicolon : Bool) → (whole_reading (record { body = b; semicolon = semicolon })).deepest ≤ 128
    → (whole_reading (record { body = b; semicolon = semicolon })).statement ≡ text_tree (record { body = b; semicolon = semicolon })
text_kept None semicolon h = refl
text_kept (Some b) semicolon h = body_kept b h

text_deepest : (b : Option Body) (semicolon : Bool) → (whole_reading (record { body = b; semicolon = semicolon })).deepest ≡ text_open (record { body = b; semicolon = semicolon })
text_deepest None semicolon = refl
text_deepest (Some (grammar.select q)) semicolon = refl
text_deepest (Some (grammar.insert table names rows)) semicolon = refl
text_deepest (Some (grammar.update table pairs cond)) semicolon = refl
text_deepest (Some (grammar.delete table cond)) semicolon = refl
text_deepest (Some (grammar.set name to value)) semicolon = refl

-- ---- a text that was read

all_fault : (placed : List Placed) (x : Text) → tokens_of placed ≡ text_tokens x → IsFault placed []
all_fault placed x e = record { front = placed; cut = sym (append-nil placed); begins = ([], x, append-nil (tokens_of placed) ∙ e); stops = λ p more is b. cc }

not_below : (a b : ℕ) → b < a → nat_le a b ≡ false
not_below a b h = by (nat_le a b) refl
  where
    by : (c : Bool) → nat_le a b ≡ c → nat_le a b ≡ false
    by true e = absurd (let k = leb-true a b e in omega arith)
    by false e = e

and_left : (a b : Bool) → a ≡ false → (a && b) ≡ false
and_left a b e = ap (λ c. c && b) e

and_right : (a b : Bool) → b ≡ false → (a && b) ≡ false
and_right true b e = e
and_right false b e = refl

module _ (placed : List Placed) (made : Reading) (w : WasRead placed made) where
  abbrev x : Text
  x = w.text

  abbrev ts : List Token
  ts = tokens_of placed

  numbers_are : numbers ts ≡ parameters (text_tree x)
  numbers_are = ap numbers w.derives ∙ text_numbers x

  pub spelled : outside_place placed ≡ None → qualifiers_agree made.statement ts ≡ true → IsGapless (numbers ts) → Spells ts (text_tree x)
  spelled inside agrees gapless = record {
    by = x;
    derives = w.derives;
    is = refl;
    qualified = text_qualified x.body x.semicolon ts w.derives (subst (λ (r : Reading). qualifiers_agree r.statement ts ≡ true) w.is agrees);
    gapless = subst IsGapless numbers_are gapless;
    settable = text_settable placed x.body x.semicolon w.derives inside;
  }

  unspelled : ((qualifiers_agree made.statement ts ≡ true) × IsGapless (numbers ts) → ⊥) → (tree : Statement) → Spells ts tree → ⊥
  unspelled none tree s =
      let same = one_derivation s.by x (sym s.derives ∙ w.derives) in
      let agrees = text_agrees x.body x.semicolon ts w.derives (subst (λ (y : Text). IsQualified y.body) same s.qualified) in
      let gapless = subst (λ (y : Statement). IsGapless (parameters y)) (s.is ∙ ap text_tree same) s.gapless in
      none (subst (λ (r : Reading). qualifiers_agree r.statement ts ≡ true) (sym w.is) agrees, subst IsGapless (sym numbers_are) gapless)

  pub side_fails : ((qualifiers_agree made.statement ts ≡ true) × IsGapless (numbers ts) → ⊥) → (end : ℕ) → TokensFail placed None end end
  side_fails none end = record { rest = []; fault = all_fault placed x w.derives; at = refl; none = λ e f. unspelled none }

  open_is : made.deepest ≡ text_open x
  open_is = ap (λ (r : Reading). r.deepest) w.is ∙ text_deepest x.body x.semicolon

  statement_is : made.deepest ≤ 128 → made.statement ≡ text_tree x
  statement_is h = ap (λ (r : Reading). r.statement) w.is ∙ text_kept x.body x.semicolon (subst (λ (r : Reading). r.deepest ≤ 128) w.is h)

  pub too_open : 128 < made.deepest → is_shallow x (text_tree x) ≡ false
  too_open h = and_left (nat_le (text_open x) 128) (nat_le (statement_depth (text_tree x)) 64) (not_below (text_open x) 128 (subst (λ n. 128 < n) open_is h))

  pub too_deep : made.deepest ≤ 128 → nat_lt 64 (statement_depth made.statement) ≡ true → is_shallow x (text_tree x) ≡ false
  too_deep h e =
      let deep = ltb-true 64 (statement_depth made.statement) e in
      and_right (nat_le (text_open x) 128) (nat_le (statement_depth (text_tree x)) 64) (not_below (statement_depth (text_tree x)) 64 (subst (λ (y : Statement). 64 < statement_depth y) (statement_is h) deep))

  pub found : outside_place placed ≡ None → qualifiers_agree made.statement ts ≡ true → IsGapless (numbers ts) → made.deepest ≤ 128 → nat_lt 64 (statement_depth made.statement) ≡ false → TokensSpell ts true made.statement
  unfolding spelled
  found inside agrees gapless h e =
      let flat = ltb-false 64 (statement_depth made.statement) e in
      let same = statement_is h in
      let low = le-leb (text_open x) 128 (subst (λ n. n ≤ 128) open_is h) in
      let thin = le-leb (statement_depth (text_tree x)) 64 (subst (λ (y : Statement). statement_depth y ≤ 64) same flat) in
      subst (TokensSpell ts true) (sym same) (record { spells = spelled inside agrees gapless; depth = λ i. low i && thin i })

  pub deep : outside_place placed ≡ None → qualifiers_agree made.statement ts ≡ true → IsGapless (numbers ts) → is_shallow x (text_tree x) ≡ false → (tree : Statement) × TokensSpell ts false tree
  unfolding spelled
  deep inside agrees gapless e = (text_tree x, record { spells = spelled inside agrees gapless; depth = e })

  depth_cases : {R : Type 0} (a b : Bool) → (a || b) ≡ true → (a ≡ true → R) → (a ≡ false → b ≡ true → R) → R
  depth_cases true b e f g = f refl
  depth_cases false b e f g = g refl e

  not_deep : (a b : Bool) → (a || b) ≡ false → (a ≡ false) × (b ≡ false)
  not_deep true b e = cc
  not_deep false b e = (refl, e)

  is_too_deep : is_deep made ≡ true → is_shallow x (text_tree x) ≡ false
  is_too_deep e = depth_cases (nat_lt 128 made.deepest) (nat_lt 64 (statement_depth made.statement)) e
      (λ f. too_open (ltb-true 128 made.deepest f)) (λ f g. too_deep (ltb-false 128 made.deepest f) g)

  judged_by : (end : ℕ) (b : Bool) → is_deep made ≡ b → outside_place placed ≡ None → qualifiers_agree made.statement ts ≡ true → IsGapless (numbers ts) → TokensGive placed None end (judging.judged (refusal_of true b) end made.statement)
  judged_by end true e inside agrees gapless = (refl, refl, deep inside agrees gapless (is_too_deep e))
  judged_by end false e inside agrees gapless =
      let n = not_deep (nat_lt 128 made.deepest) (nat_lt 64 (statement_depth made.statement)) e in
      (refl, found inside agrees gapless (ltb-false 128 made.deepest n.0) n.1)

  not_true : false ≡ true → ⊥
  not_true e = cc

  judged_when : (end : ℕ) (holds : Bool) → outside_place placed ≡ None → IsTrue holds ↔ ((qualifiers_agree made.statement ts ≡ true) × IsGapless (numbers ts))
      → TokensGive placed None end (judging.judged (refusal_of holds (is_deep made)) end made.statement)
  judged_when end true inside both = let h = both.0 refl in judged_by end (is_deep made) refl inside h.0 h.1
  judged_when end false inside both = side_fails (λ h. not_true (both.1 h)) end

  pub judged : (end : ℕ) (holds deep : Bool) (tree : Statement) (k : Option SqlKind) (result : Result Statement ParseFault) → outside_place placed ≡ None
      → IsTrue holds ↔ ((qualifiers_agree made.statement ts ≡ true) × IsGapless (numbers ts)) → deep ≡ is_deep made → k ≡ refusal_of holds deep → tree ≡ made.statement → result ≡ judging.judged k end tree
      → TokensGive placed None end result
  judged end holds deep tree k result inside both d e f is =
      subst (TokensGive placed None end) (sym (is ∙ (λ i. judging.judged (e i) end (f i)) ∙ ap (λ b. judging.judged (refusal_of holds b) end made.statement) d)) (judged_when end holds inside both)

-- ---- a text that stops being one

tokens_drop : (k : ℕ) (xs : List Placed) → tokens_of (drop k xs) ≡ drop k (tokens_of xs)
tokens_drop zero xs = refl
tokens_drop (suc k) [] = refl
tokens_drop (suc k) (x ∷ xs) = tokens_drop k xs

tokens_take : (k : ℕ) (xs : List Placed) → tokens_of (take k xs) ≡ take k (tokens_of xs)
tokens_take zero xs = refl
tokens_take (suc k) [] = refl
tokens_take (suc k) (x ∷ xs) = ap (λ w. x.token ∷ w) (tokens_take k xs)

module _ (placed : List Placed) (r : List Token) (s : Stops (tokens_of placed) r) where
  abbrev count : ℕ
  count = length placed - length r

  lengths : length placed ≡ length s.front + length r
  lengths = sym (length-map placed (λ (p : Placed). p.token)) ∙ ap length s.cut ∙ length-append s.front r

  pub fits : length r ≤ length placed
  fits = let e = lengths in omega arith

  is_front : length s.front ≡ count
  is_front = let e = lengths in omega arith

  front_is : tokens_of (take count placed) ≡ s.front
  front_is = tokens_take count placed ∙ (λ i. take (sym is_front i) (s.cut i)) ∙ take-append_seam s.front r

  rest_is : tokens_of (drop count placed) ≡ r
  rest_is = tokens_drop count placed ∙ (λ i. drop (sym is_front i) (s.cut i)) ∙ drop-append_seam s.front r

  pub stopped : (bad : Option ℕ) (end place : ℕ) → place ≡ place_after (drop count placed) bad end → TokensFail placed bad end place
  stopped bad end place at = record {
    rest = drop count placed;
    fault = record {
      front = take count placed;
      cut = sym (take-append-drop count placed);
      begins = subst Begins (sym front_is) s.begins;
      stops = λ p more is b.
          let first : r ≡ p.token ∷ tokens_of more = sym rest_is ∙ ap tokens_of is in
          s.stops p.token (tokens_of more) first (subst (λ f. Begins (f ++ p.token ∷ [])) front_is b);
    };
    at = at;
    none = λ is f tree u. s.none (sym rest_is ∙ ap tokens_of is) u.by u.derives;
  }

pub bad_after : (placed : List Placed) (x : Text) (bad end : ℕ) → tokens_of placed ≡ text_tokens x → TokensFail placed (Some bad) end bad
bad_after placed x bad end e = record { rest = []; fault = all_fault placed x e; at = refl; none = λ is f. cc }

-- ---- what reading left

module _ (placed : List Placed) (old new : List Token) (made : Reading) (start : old ≡ tokens_of placed) (g : Gives whole_reading whole old (Ok made) new) where
  reads_from : Reads whole (tokens_of placed) (Ok (g.0, new))
  reads_from = subst (λ ts. Reads whole ts (Ok (g.0, new))) start g.2

  over : (t : Token) (r : List Token) → new ≡ t ∷ r → Stops (tokens_of placed) (t ∷ r)
  over t r e = left_over (tokens_of placed) g.0 t r (subst (λ (w : List Token). Reads whole (tokens_of placed) (Ok (g.0, w))) e reads_from)

  fits_by : (w : List Token) → new ≡ w → length w ≤ length placed
  fits_by [] e = omega arith
  fits_by (t ∷ r) e = fits placed (t ∷ r) (over t r e)

  pub ok_fits : (left : ℕ) → left ≡ length new → left ≤ length placed
  ok_fits left l = subst (λ n. n ≤ length placed) (sym l) (fits_by new refl)

  derived : new ≡ [] → tokens_of placed ≡ text_tokens g.0
  derived e = derives (tokens_of placed) g.0 (subst (λ (w : List Token). Reads whole (tokens_of placed) (Ok (g.0, w))) e reads_from)

  read_all : new ≡ [] → WasRead placed made
  read_all e = record { text = g.0; derives = derived e; is = g.1 }

  read_by : (bad : Option ℕ) (end : ℕ) (w : List Token) → new ≡ w → IsNone (refusal_after placed (length w) bad end) → WasRead placed made
  read_by bad end [] e h = read_all e
  read_by bad end (t ∷ r) e h = cc

  pub ok_read : (bad : Option ℕ) (end left : ℕ) (refusal : Option ParseFault) → left ≡ length new → refusal ≡ refusal_after placed left bad end → IsNone refusal → WasRead placed made
  ok_read bad end left refusal l e h = read_by bad end new refl (subst IsNone (e ∙ ap (λ n. refusal_after placed n bad end) l) h)

  abbrev Ends : Option ℕ → ℕ → Result Statement ParseFault → Option ParseFault → Type 0
  Ends bad end result refusal = MatchOption refusal (TokensGive placed None end result) (λ f. result ≡ Err f)

  gives_by : (bad : Option ℕ) (end : ℕ) (result : Result Statement ParseFault) (w : List Token) → new ≡ w → Ends bad end result (refusal_after placed (length w) bad end) → TokensGive placed bad end result
  gives_by None end result [] e h = h
  gives_by (Some bad) end result [] e h = subst (TokensGive placed (Some bad) end) (sym h) (bad_after placed g.0 bad end (derived e))
  gives_by bad end result (t ∷ r) e h = subst (TokensGive placed bad end) (sym h) (stopped placed (t ∷ r) (over t r e) bad end _ refl)

  pub ok_gives : (bad : Option ℕ) (end left : ℕ) (refusal : Option ParseFault) (result : Result Statement ParseFault) → left ≡ length new → refusal ≡ refusal_after placed left bad end → Ends bad end result refusal
      → TokensGive placed bad end result
  ok_gives bad end left refusal result l e h = gives_by bad end result new refl (subst (Ends bad end result) (e ∙ ap (λ n. refusal_after placed n bad end) l) h)

module _ (placed : List Placed) (old new : List Token) (start : old ≡ tokens_of placed) (g : Reads whole old (Err new)) where
  stuck : Stops (tokens_of placed) new
  stuck = refused (tokens_of placed) new (subst (λ ts. Reads whole ts (Err new)) start g)

  pub err_fits : (left : ℕ) → left ≡ length new → left ≤ length placed
  err_fits left l = subst (λ n. n ≤ length placed) (sym l) (fits placed new stuck)

  pub err_gives : (bad : Option ℕ) (end left : ℕ) (f : ParseFault) → left ≡ length new → f ≡ fault.Refused (record { place = place_after (drop (length placed - left) placed) bad end; kind = kind.Syntax })
      → TokensGive placed bad end (Err f)
  err_gives bad end left f l e =
      subst (λ x. TokensGive placed bad end (Err x)) (sym (e ∙ ap (λ n. fault.Refused (record { place = place_after (drop (length placed - n) placed) bad end; kind = kind.Syntax })) l))
      (stopped placed new stuck bad end _ refl)

-- ---- the outcome of the whole text

told_refusal : (text : List ℕ) (limit : ℕ) (placed : List Placed) (bad : Option ℕ) → Lexes 0 text placed bad → length text ≤ limit → outside_place placed ≡ None → (k : SqlKind) (place : ℕ)
    → TokensGive placed bad (length text) (Err (fault.Refused (record { place = place; kind = k }))) → IsOutcome text limit (Err (record { place = place; kind = k }))
told_refusal text limit placed bad l fits inside kind.TooLong place h = absurd h
told_refusal text limit placed bad l fits inside kind.OutsideProfile place h = absurd h
told_refusal text limit placed bad l fits inside kind.Syntax place h =
    (fits, record { placed = placed; bad = bad; lexes = l; inside = inside; rest = h.rest; fault = h.fault; at = h.at; none = h.none })
told_refusal text limit placed bad l fits inside kind.TooDeep place h =
    let s = h.2.1 in
    (fits, h.1, (h.2.0, record { placed = placed; lexes = subst (Lexes 0 text placed) h.0 l; spells = s.spells; depth = s.depth }))

pub told : (text : List ℕ) (limit : ℕ) (placed : List Placed) (bad : Option ℕ) → Lexes 0 text placed bad → length text ≤ limit → outside_place placed ≡ None → (result : Result Statement ParseFault)
    → TokensGive placed bad (length text) result → IsTold text limit result
told text limit placed bad l fits inside (Ok tree) h = (fits, record { placed = placed; lexes = subst (Lexes 0 text placed) h.0 l; spells = h.1.spells; depth = h.1.depth })
told text limit placed bad l fits inside (Err fault.NoMemory) h = tt
told text limit placed bad l fits inside (Err (fault.Refused r)) h = told_refusal text limit placed bad l fits inside r.kind r.place h

pub told_outside : (text : List ℕ) (limit : ℕ) (placed : List Placed) (bad : Option ℕ) (place : ℕ) → Lexes 0 text placed bad → length text ≤ limit → outside_place placed ≡ Some place
    → IsOutcome text limit (Err (record { place = place; kind = kind.OutsideProfile }))
told_outside text limit placed bad place l fits e = (fits, record { placed = placed; bad = bad; lexes = l; outside = e })

-- an answer that tells an outcome tells the only one
pub tells : (text : List ℕ) (limit : ℕ) (result : Result Statement ParseFault) → IsTold text limit result → (o : Outcome) → IsOutcome text limit o → Tells result o
tells text limit (Ok tree) h o k = one_outcome text limit o (Ok tree) k h
tells text limit (Err (fault.Refused r)) h o k = one_outcome text limit o (Err r) k h
tells text limit (Err fault.NoMemory) h o k = tt

pub told_long : (text : List ℕ) (limit : ℕ) (f : ParseFault) → limit < length text → f ≡ fault.Refused (record { place = limit; kind = kind.TooLong }) → IsTold text limit (Err f)
told_long text limit f h e = subst (λ x. IsTold text limit (Err x)) (sym e) (h, refl)

module _ (text : List ℕ) (limit : ℕ) (placed shown : List Placed) (bad : Option ℕ) (l : Lexes 0 text placed bad) (same : shown ≡ placed) where
  pub shown_small : AreSmall (tokens_of shown)
  shown_small = subst (λ w. AreSmall (tokens_of w)) (sym same) (lexed_small l)

  pub told_other : (place : ℕ) (f : ParseFault) → length text ≤ limit → outside_place shown ≡ Some place → f ≡ fault.Refused (record { place = place; kind = kind.OutsideProfile }) → IsTold text limit (Err f)
  told_other place f low e is = subst (λ x. IsTold text limit (Err x)) (sym is) (told_outside text limit placed bad place l low (sym (ap outside_place same) ∙ e))

  pub told_read : length text ≤ limit → outside_place shown ≡ None → (result : Result Statement ParseFault) → TokensGive shown bad (length text) result → IsTold text limit result
  told_read low e result h = told text limit placed bad l low (sym (ap outside_place same) ∙ e) result (subst (λ w. TokensGive w bad (length text) result) same h)
