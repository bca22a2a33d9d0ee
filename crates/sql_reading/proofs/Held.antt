-- What the stack holds of a condition, and how deep it is, step by step.
use Rattle.std.proofs.Common.{◌≡◌, ℕ, zero, suc, ◌+◌, ◌-◌, ◌≤◌, max, Bool, true, false, List, [], ◌∷◌, ◌++◌, map, refl, sym, ap, ◌∙◌, subst, arith, add-one, reverse}
use Rattle.std.proofs.lemmas.Bool.{le-leb, leb-true}
use Rattle.std.proofs.lemmas.List.{reverse-append}
use Rattle.std.specs.Prelude.{nat_le, if◌then◌else◌, Ok, Err}
use Rattle.sql_tokens.specs.declared.keyword.Keyword.TheVariants as word
use Rattle.sql_tokens.specs.declared.sign.Sign.TheVariants as sign
use Rattle.sql_tokens.specs.declared.token.Token.{Token}
use Rattle.sql_tree.specs.declared.condition.Cond as trees
use Rattle.sql_tree.specs.declared.condition.Cond.TheVariants as tree
use Rattle.sql_tree.specs.Conditions as conditions
use Rattle.sql_tree.specs.Conditions.{Cond, Conj, Neg, Test, cond_tree, cond_parts, cond_open, conj_parts, conj_open, neg_tree, neg_open, test_tree, and_of, or_of}
use Rattle.sql_reading.specs.declared.levels.Level.{Level}
use Rattle.sql_reading.specs.declared.levels.Depth.{Depth}
use Rattle.sql_reading.specs.declared.stop.Stop.{Stop}
use Rattle.sql_reading.specs.declared.stop.Stop.TheVariants as stop
use Rattle.sql_readers.specs.Readers.{begins}
use Rattle.sql_readers.specs.Looks.{is_word, is_sign}
use Rattle.sql_reading.specs.declared.made.Nested.{Nested}
use Rattle.sql_reading.specs.Made.{nested}
use Rattle.sql_readers.specs.Productions.{word_reader, sign_reader, cond, test}
use Rattle.sql_readers.specs.Reads.{Reads}
use Rattle.sql_reading.specs.Gives.{Gives}
use Rattle.sql_reading.specs.Levels.{Parts, nothing, conj_from, cond_from, nots_before, nots_of, conj_tree, held, most, parts_open, base, reached, OwesRest, level_nots, parts_nots, Before, Behind, IsRead, Settles, kept_as}
use Rattle.sql_readers.proofs.Branches.{if_false}
use Rattle.sql_reading.proofs.Machine.{whole_is}
use Rattle.sql_reading.proofs.Stacked.{part_of, conj_with, cond_with, behind_not, behind_and, behind_or, at_start, at_not, at_open, at_test, at_no_test, then_and, then_or, then_close, not_closed, at_end}

-- ---- trees

map_push : {A B : Type 0} (f : A → B) (xs : List A) (x : A) → map f (xs ++ x ∷ []) ≡ map f xs ++ f x ∷ []
map_push f [] x = refl
map_push f (y ∷ xs) x = ap (λ l. f y ∷ l) (map_push f xs x)

part_tree : (n : ℕ) (x : Neg) → neg_tree (nots_before n x) ≡ nots_of n (neg_tree x)
part_tree zero x = refl
part_tree (suc n) x = part_tree n (conditions.not x)

conj_all : (ands : List Neg) (x : Neg) → conj_parts (conj_from ands x []) ≡ map neg_tree ands ++ neg_tree x ∷ []
conj_all [] x = refl
conj_all (first ∷ ands) x = ap (λ l. neg_tree first ∷ l) (conj_all ands x)

cond_all : (ors : List Conj) (c : Conj) → cond_parts (cond_from ors c []) ≡ map conj_tree ors ++ conj_tree c ∷ []
cond_all [] c = refl
cond_all (first ∷ ors) c = ap (λ l. conj_tree first ∷ l) (cond_all ors c)

pub nots_more : (n : ℕ) (x : trees.Cond) → nots_of (suc n) x ≡ tree.Not (nots_of n x)
nots_more zero x = refl
nots_more (suc n) x = nots_more n (tree.Not x)

pub kept_true : (n : ℕ) (b : Bool) → b ≡ nat_le n 128 → n ≤ 128 → b ≡ true
kept_true n b e h = e ∙ le-leb n 128 h

pub reverse_push : {A : Type 0} (xs : List A) (x : A) → reverse (xs ++ x ∷ []) ≡ x ∷ reverse xs
reverse_push xs x = reverse-append xs (x ∷ [])

-- ---- how many are open

most_push : {A : Type 0} (f : A → ℕ) (xs : List A) (x : A) → most f (xs ++ x ∷ []) ≡ max (most f xs) (f x)
most_push f [] x = omega arith
most_push f (y ∷ xs) x = let e = most_push f xs x in omega arith

part_opens : (n : ℕ) (x : Neg) → neg_open (nots_before n x) ≡ n + neg_open x
part_opens zero x = omega arith
part_opens (suc n) x = let e = part_opens n (conditions.not x) in omega arith

conj_opens : (ands : List Neg) (x : Neg) → conj_open (conj_from ands x []) ≡ max (most neg_open ands) (neg_open x)
conj_opens [] x = omega arith
conj_opens (first ∷ ands) x = let e = conj_opens ands x in omega arith

cond_opens : (ors : List Conj) (c : Conj) → cond_open (cond_from ors c []) ≡ max (most conj_open ors) (conj_open c)
cond_opens [] c = omega arith
cond_opens (first ∷ ors) c = let e = cond_opens ors c in omega arith

floor : List Parts → ℕ
floor [] = 0
floor (p ∷ around) = reached around p

reached_is : (around : List Parts) (here : Parts) → reached around here ≡ max (floor around) (base around + max here.nots (parts_open here))
unfolding floor
reached_is [] here = omega arith
reached_is (p ∷ around) here = refl

-- ---- before a part

abbrev pub level_of : List trees.Cond → List trees.Cond → ℕ → Level
level_of ors ands nots = record { ors = ors; ands = ands; nots = nots }

module _ (whole : List Token) where
  pub start_step : (level : Level) (depth : Depth) → level ≡ level_of [] [] 0 → depth.count ≡ 0 → depth.deepest ≡ 0 → Before whole [] level depth whole
  start_step level depth l count deepest = record {
    around = [];
    here = nothing;
    stands = record { nots_around = refl; nots_here = ap (λ (l : Level). l.nots) l; trees_around = λ kept. refl; trees_here = λ kept. l; count = count };
    deepest = deepest;
    owes = at_start whole;
  }

  module _ (outer : List Level) (level : Level) (depth : Depth) (ts : List Token) (h : Before whole outer level depth ts) where
    module _ (more : Depth) (count : more.count ≡ depth.count + 1) (deepest : more.deepest ≡ max depth.deepest (depth.count + 1)) where
      pub not_step : (next : Level) (r : List Token) → next ≡ level_of level.ors level.ands (level.nots + 1) → begins (is_word word.Not) ts ≡ true → Reads (word_reader word.Not) ts (Ok (tt, r)) → Before whole outer next more r
      not_step next r l b e =
          let s = h.stands in
          let r0 = reached_is h.around h.here in
          let r1 = reached_is h.around (behind_not h.here) in
          record {
            around = h.around;
            here = behind_not h.here;
            stands = record {
              nots_around = s.nots_around;
              nots_here = ap (λ (l : Level). l.nots) l ∙ ap (λ n. n + 1) s.nots_here ∙ add-one h.here.nots;
              trees_around = λ kept. s.trees_around (omega arith);
              trees_here = λ kept. l ∙ ap (λ (l : Level). level_of l.ors l.ands (l.nots + 1)) (s.trees_here (omega arith)) ∙ ap (λ n. level_of (map conj_tree h.here.ors) (map neg_tree h.here.ands) n) (add-one h.here.nots);
              count = let c = s.count in omega arith;
            };
            deepest = let c = s.count in let d = h.deepest in omega arith;
            owes = at_not whole h.around h.here ts h.owes r b e;
          }

      pub open_step : (next : Level) (r : List Token) → next ≡ level_of [] [] 0 → begins (is_word word.Not) ts ≡ false → begins (is_sign sign.Open) ts ≡ true → Reads (sign_reader sign.Open) ts (Ok (tt, r)) → Before whole (level ∷ outer) next more r
      open_step next r l other b e =
          let s = h.stands in
          record {
            around = h.here ∷ h.around;
            here = nothing;
            stands = record {
              nots_around = ap (λ n. n ∷ map level_nots outer) s.nots_here ∙ ap (λ (l : List ℕ). h.here.nots ∷ l) s.nots_around;
              nots_here = ap (λ (l : Level). l.nots) l;
              trees_around = λ kept. ap (λ l. l ∷ outer) (s.trees_here (omega arith)) ∙ ap (λ (l : List Level). held h.here ∷ l) (s.trees_around (omega arith));
              trees_here = λ kept. l;
              count = let c = s.count in omega arith;
            };
            deepest = let c = s.count in let d = h.deepest in omega arith;
            owes = at_open whole h.around h.here ts h.owes other r b e;
          }

    module _ (no_not : begins (is_word word.Not) ts ≡ false) (no_open : begins (is_sign sign.Open) ts ≡ false) where
      pub test_step : (x : Test) (part : trees.Cond) (r : List Token) → part ≡ test_tree x → Reads test ts (Ok (x, r)) → Behind whole outer level depth part r
      test_step x part r is e =
          let r0 = reached_is h.around h.here in
          record {
            around = h.around;
            here = h.here;
            stands = h.stands;
            by = conditions.test x;
            is_part = λ kept. is;
            deepest = let d = h.deepest in omega arith;
            owes = at_test whole h.around h.here ts h.owes no_not x r no_open e;
          }

      pub no_test_step : (r : List Token) → Reads test ts (Err r) → Reads cond whole (Err r)
      no_test_step r e = whole_is whole (Err r) (at_no_test whole h.around h.here ts h.owes no_not r no_open e)

-- ---- behind a part: `w` is it with its NOTs, `ands` are the parts so far, and `left` is how many are open without those NOTs

module _ (whole : List Token) (outer : List Level) (level : Level) (depth : Depth) (part : trees.Cond) (ts : List Token) (h : Behind whole outer level depth part ts)
    (w : trees.Cond) (ands : List trees.Cond) (left : Depth) (is_w : depth.deepest ≤ 128 → w ≡ nots_of level.nots part) (pushed : ands ≡ level.ands ++ w ∷ [])
    (count : left.count ≡ depth.count - level.nots) (deepest : left.deepest ≡ depth.deepest) where
  kept_before : left.deepest ≤ 128 → depth.deepest ≤ 128
  kept_before k = omega arith

  nots_same : nots_of level.nots part ≡ nots_of h.here.nots part
  nots_same = ap (λ n. nots_of n part) h.stands.nots_here

  w_is : left.deepest ≤ 128 → w ≡ neg_tree (part_of h.here h.by)
  w_is kept = is_w (kept_before kept) ∙ nots_same ∙ ap (nots_of h.here.nots) (h.is_part (kept_before kept)) ∙ sym (part_tree h.here.nots h.by)

  ands_is : left.deepest ≤ 128 → ands ≡ map neg_tree (h.here.ands ++ part_of h.here h.by ∷ [])
  ands_is kept =
      pushed ∙ ap (λ (l : Level). l.ands ++ w ∷ []) (h.stands.trees_here (kept_before kept)) ∙ ap (λ t. map neg_tree h.here.ands ++ t ∷ []) (w_is kept)
      ∙ sym (map_push neg_tree h.here.ands (part_of h.here h.by))

  ors_before : left.deepest ≤ 128 → level.ors ≡ map conj_tree h.here.ors
  ors_before kept = ap (λ (l : Level). l.ors) (h.stands.trees_here (kept_before kept))

  count_is : left.count ≡ base h.around
  count_is = let c = h.stands.count in let n = h.stands.nots_here in omega arith

  pub and_step : (next : Level) (r : List Token) → next ≡ level_of level.ors ands 0 → begins (is_word word.And) ts ≡ true → Reads (word_reader word.And) ts (Ok (tt, r)) → Before whole outer next left r
  and_step next r l b e =
      let s = h.stands in
      let r0 = reached_is h.around h.here in
      let r1 = reached_is h.around (behind_and h.here h.by) in
      let m = most_push neg_open h.here.ands (part_of h.here h.by) in
      let o = part_opens h.here.nots h.by in
      record {
        around = h.around;
        here = behind_and h.here h.by;
        stands = record {
          nots_around = s.nots_around;
          nots_here = ap (λ (l : Level). l.nots) l;
          trees_around = λ kept. s.trees_around (kept_before kept);
          trees_here = λ kept. l ∙ ap (λ z. level_of z ands 0) (ors_before kept) ∙ ap (λ z. level_of (map conj_tree h.here.ors) z 0) (ands_is kept);
          count = let c = count_is in omega arith;
        };
        deepest = let d = h.deepest in omega arith;
        owes = then_and whole h.around h.here h.by ts h.owes r b e;
      }

  module _ (no_and : begins (is_word word.And) ts ≡ false) (ors : List trees.Cond) (more : ors ≡ level.ors ++ and_of ands ∷ []) where
    conj_is : left.deepest ≤ 128 → and_of ands ≡ conj_tree (conj_with h.here h.by)
    conj_is kept = ap and_of (ands_is kept ∙ map_push neg_tree h.here.ands (part_of h.here h.by) ∙ sym (conj_all h.here.ands (part_of h.here h.by)))

    ors_are : left.deepest ≤ 128 → ors ≡ map conj_tree h.here.ors ++ conj_tree (conj_with h.here h.by) ∷ []
    ors_are kept = more ∙ ap (λ l. l ++ and_of ands ∷ []) (ors_before kept) ∙ ap (λ t. map conj_tree h.here.ors ++ t ∷ []) (conj_is kept)

    conj_opens_is : conj_open (conj_with h.here h.by) ≡ max (most neg_open h.here.ands) (h.here.nots + neg_open h.by)
    conj_opens_is = conj_opens h.here.ands (part_of h.here h.by) ∙ ap (max (most neg_open h.here.ands)) (part_opens h.here.nots h.by)

    pub or_step : (next : Level) (r : List Token) → next ≡ level_of ors [] 0 → begins (is_word word.Or) ts ≡ true → Reads (word_reader word.Or) ts (Ok (tt, r)) → Before whole outer next left r
    or_step next r l b e =
        let s = h.stands in
        let c = conj_with h.here h.by in
        let r0 = reached_is h.around h.here in
        let r1 = reached_is h.around (behind_or h.here h.by) in
        let m = most_push conj_open h.here.ors c in
        let o = conj_opens_is in
        record {
          around = h.around;
          here = behind_or h.here h.by;
          stands = record {
            nots_around = s.nots_around;
            nots_here = ap (λ (l : Level). l.nots) l;
            trees_around = λ kept. s.trees_around (kept_before kept);
            trees_here = λ kept. l ∙ ap (λ z. level_of z [] 0) (ors_are kept ∙ sym (map_push conj_tree h.here.ors c));
            count = let c = count_is in omega arith;
          };
          deepest = let d = h.deepest in omega arith;
          owes = then_or whole h.around h.here h.by ts no_and h.owes r b e;
        }

    module _ (no_or : begins (is_word word.Or) ts ≡ false) where
      tree_is : left.deepest ≤ 128 → or_of ors ≡ cond_tree (cond_with h.here h.by)
      tree_is kept = ap or_of (ors_are kept ∙ sym (cond_all h.here.ors (conj_with h.here h.by)))

      cond_opens_is : cond_open (cond_with h.here h.by) ≡ max (most conj_open h.here.ors) (max (most neg_open h.here.ands) (h.here.nots + neg_open h.by))
      cond_opens_is = cond_opens h.here.ors (conj_with h.here h.by) ∙ ap (max (most conj_open h.here.ors)) conj_opens_is

      ended : (around : List Parts) → h.around ≡ around → map level_nots outer ≡ [] → around ≡ []
      ended [] e n = refl
      ended (p ∷ around) e n = let s = h.stands.nots_around in cc

      pub done_step : (tree : trees.Cond) → outer ≡ [] → tree ≡ or_of ors → IsRead whole left tree ts
      done_step tree none is =
          let none_around = ended h.around refl (ap (map level_nots) none) in
          let r0 = ap (λ around. reached around h.here) none_around in
          let b0 = ap base none_around in
          record {
            by = cond_with h.here h.by;
            reads = whole_is whole (Ok (cond_with h.here h.by, ts)) (at_end whole h.here h.by ts no_and no_or (subst (λ around. OwesRest whole around h.here h.by ts) none_around h.owes));
            deepest = let d = h.deepest in let o = cond_opens_is in omega arith;
            is_tree = λ kept. is ∙ tree_is kept;
          }

      module _ (around : Level) (rest : List Level) (outer_is : outer ≡ around ∷ rest) where
        Closes : List Parts → Type 0
        Closes all = (p : Parts) × (more : List Parts) × (all ≡ p ∷ more)

        closes : (all : List Parts) → h.around ≡ all → Closes all
        unfolding Closes
        closes [] e = let s = h.stands.nots_around in let o = ap (map level_nots) outer_is in cc
        closes (p ∷ more) e = (p, more, refl)

        pub close_step : (tree : trees.Cond) (less : Depth) (r : List Token) → tree ≡ or_of ors → less.count ≡ left.count - 1 → less.deepest ≡ left.deepest → Reads (sign_reader sign.Close) ts (Ok (tt, r))
            → Behind whole rest around less tree r
        unfolding Closes
        close_step tree less r is fewer same e =
            let c = closes h.around refl in
            let s = h.stands in
            let all_nots = sym (ap (map level_nots) outer_is) ∙ s.nots_around ∙ ap (map parts_nots) c.2 in
            let b0 = ap base c.2 in
            let r0 = ap (λ a. reached a h.here) c.2 in
            let o = cond_opens_is in
            let n = count_is in
            let d = h.deepest in
            record {
              around = c.1;
              here = c.0;
              stands = record {
                nots_around = cc all_nots;
                nots_here = cc all_nots;
                trees_around = λ kept. (let k = sym outer_is ∙ s.trees_around (kept_before (omega arith)) ∙ ap (map held) c.2 in cc k);
                trees_here = λ kept. (let k = sym outer_is ∙ s.trees_around (kept_before (omega arith)) ∙ ap (map held) c.2 in cc k);
                count = omega arith;
              };
              by = conditions.parens (cond_with h.here h.by);
              is_part = λ kept. is ∙ tree_is (omega arith);
              deepest = omega arith;
              owes = then_close whole c.1 h.here h.by ts no_and no_or c.0 (subst (λ a. OwesRest whole a h.here h.by ts) c.2 h.owes) r e;
            }

        pub not_closed_step : (r : List Token) → Reads (sign_reader sign.Close) ts (Err r) → Reads cond whole (Err r)
        unfolding Closes
        not_closed_step r e =
            let c = closes h.around refl in
            whole_is whole (Err r) (not_closed whole c.1 h.here h.by ts no_and no_or c.0 (subst (λ a. OwesRest whole a h.here h.by ts) c.2 h.owes) r e)

-- ---- refusals

module _ (outer outer' : List Level) (level : Level) (depth depth' : Depth) (part : trees.Cond) (old ts new : List Token)
    (refused : (whole : List Token) → Behind whole outer level depth part old → Reads (sign_reader sign.Close) ts (Err new) → Reads cond whole (Err new)) where
  pub close_refused : (stopped : Stop) → Gives (λ (x : Unit {0}). x) (sign_reader sign.Close) ts (Err stopped) new → Settles outer level depth part old (Err stopped) outer' depth' new
  close_refused stop.Syntax g = λ whole h. refused whole h g
  close_refused stop.NoMemory g = tt

module _ (whole ts new : List Token) where
  pub test_refused : (Reads test ts (Err new) → Reads cond whole (Err new)) → (stopped : Stop) → Gives test_tree test ts (Err stopped) new → Gives nested cond whole (Err stopped) new
  test_refused refused stop.Syntax g = refused g
  test_refused refused stop.NoMemory g = tt

  pub settle_refused : (outer outer' : List Level) (level : Level) (depth depth' : Depth) (part : trees.Cond) → Behind whole outer level depth part ts
      → (stopped : Stop) → Settles outer level depth part ts (Err stopped) outer' depth' new → Gives nested cond whole (Err stopped) new
  settle_refused outer outer' level depth depth' part h stop.Syntax g = g whole h
  settle_refused outer outer' level depth depth' part h stop.NoMemory g = tt

  -- the whole, as it is kept
  pub kept_is : (depth : Depth) (c : trees.Cond) (result : Nested) → IsRead whole depth c new → result ≡ kept_as depth c → Gives nested cond whole (Ok result) new
  kept_is depth c result h is = (h.by, is ∙ same (nat_le depth.deepest 128) refl ∙ ap (λ n. record { cond = (if nat_le n 128 then cond_tree h.by else tree.And []); deepest = n }) h.deepest, h.reads)
    where
      same : (b : Bool) → nat_le depth.deepest 128 ≡ b → kept_as depth c ≡ kept_as depth (cond_tree h.by)
      same true e = ap (kept_as depth) (h.is_tree (leb-true depth.deepest 128 e))
      same false e =
          ap (λ t. record { cond = t; deepest = depth.deepest }) (if_false (nat_le depth.deepest 128) c (tree.And []) e ∙ sym (if_false (nat_le depth.deepest 128) (cond_tree h.by) (tree.And []) e))
