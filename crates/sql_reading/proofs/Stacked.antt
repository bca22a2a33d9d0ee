-- The steps of reading a condition with a stack: what is owed before a step is owed behind it.
use Rattle.std.proofs.Common.{◌≡◌, suc, true, false, List, [], ◌∷◌, ◌++◌, refl, sym, ap, subst}
use Rattle.std.specs.Prelude.{Ok, Err}
use Rattle.sql_tokens.specs.declared.keyword.Keyword.TheVariants as word
use Rattle.sql_tokens.specs.declared.sign.Sign.TheVariants as sign
use Rattle.sql_tokens.specs.declared.token.Token.{Token}
use Rattle.sql_tree.specs.Conditions as conditions
use Rattle.sql_tree.specs.Conditions.{Cond, Conj, Neg, Test}
use Rattle.sql_readers.specs.Readers.{Read, after, begins}
use Rattle.sql_readers.specs.Looks.{is_word, is_sign, look_sign}
use Rattle.sql_readers.specs.Productions.{word_reader, sign_reader, conj_of, cond_of, test}
use Rattle.sql_readers.specs.Reads.{Reads}
use Rattle.sql_reading.specs.Levels.{Parts, nothing, conj_from, cond_from, nots_before, Wide, negs, conjs, conds, Rest, nots_read, LevelIs, closed, Finish, Owes, OwesRest}
use Rattle.sql_reading.proofs.Machine.{one_is, rest_stops, rest_goes, parted_is, not_is, open_is, test_is}

-- ---- a level

no_nots : (r : Read Neg) → r ≡ nots_read 0 r
no_nots (Err left) = refl
no_nots (Ok x) = refl

wide_same : (ts : List Token) (r : Read Neg) → Wide negs ts r → Wide negs ts (nots_read 0 r)
wide_same ts r h = subst (λ z. Wide negs ts z) (no_nots r) h

conj_begins : (ts : List Token) (r : Read Neg) (C : Read Conj) → Wide negs ts r → Rest word.And negs (conj_from []) (nots_read 0 r) C → Wide conjs ts C
conj_begins ts r C h rest = parted_is word.And negs (conj_from []) (λ x. conj_of x.0 x.1) ts (nots_read 0 r) C (λ x more. refl) (wide_same ts r h) rest

level_begins : (ts : List Token) (r : Read Neg) (D : Read Cond) → Wide negs ts r → LevelIs nothing r D → Wide conds ts D
level_begins ts r D h l = parted_is word.Or conjs (cond_from []) (λ x. cond_of x.0 x.1) ts l.0 D (λ x more. refl) (conj_begins ts r l.0 h l.1) l.2

conj_onward : (ands : List Neg) (x y : Neg) (more : List (Unit {0} × Neg)) → conj_from (ands ++ x ∷ []) y more ≡ conj_from ands x ((tt, y) ∷ more)
conj_onward [] x y more = refl
conj_onward (first ∷ ands) x y more = ap (conditions.and first) (conj_onward ands x y more)

cond_onward : (ors : List Conj) (x y : Conj) (more : List (Unit {0} × Conj)) → cond_from (ors ++ x ∷ []) y more ≡ cond_from ors x ((tt, y) ∷ more)
cond_onward [] x y more = refl
cond_onward (first ∷ ors) x y more = ap (conditions.or first) (cond_onward ors x y more)

-- a part of this level, with its NOTs; the conjunction that it ends; the whole level that it ends
abbrev pub part_of : Parts → Neg → Neg
part_of here x = nots_before here.nots x

abbrev pub conj_with : Parts → Neg → Conj
conj_with here x = conj_from here.ands (part_of here x) []

abbrev pub cond_with : Parts → Neg → Cond
cond_with here x = cond_from here.ors (conj_with here x) []

-- the levels behind a NOT, behind an AND and behind an OR
abbrev pub behind_not : Parts → Parts
behind_not here = record { ors = here.ors; ands = here.ands; nots = suc here.nots }

abbrev pub behind_and : Parts → Neg → Parts
behind_and here x = record { ors = here.ors; ands = here.ands ++ part_of here x ∷ []; nots = 0 }

abbrev pub behind_or : Parts → Neg → Parts
behind_or here x = record { ors = here.ors ++ conj_with here x ∷ []; ands = []; nots = 0 }

module _ (here : Parts) (x : Neg) (ts : List Token) where
  level_and : (r : List Token) (R : Read Neg) (D : Read Cond) → begins (is_word word.And) ts ≡ true → Reads (word_reader word.And) ts (Ok (tt, r)) → Wide negs r R
      → LevelIs (behind_and here x) R D → LevelIs here (Ok (x, ts)) D
  level_and r R D b e h l =
      (l.0, rest_goes word.And negs (conj_from here.ands) (conj_from (here.ands ++ part_of here x ∷ [])) (part_of here x) ts r (nots_read 0 R) l.0 (conj_onward here.ands (part_of here x)) b e (wide_same r R h) l.1, l.2)

  module _ (no_and : begins (is_word word.And) ts ≡ false) where
    level_or : (r : List Token) (R : Read Neg) (D : Read Cond) → begins (is_word word.Or) ts ≡ true → Reads (word_reader word.Or) ts (Ok (tt, r)) → Wide negs r R
        → LevelIs (behind_or here x) R D → LevelIs here (Ok (x, ts)) D
    level_or r R D b e h l =
        let c = conj_with here x in (
          Ok (c, ts),
          rest_stops word.And negs (conj_from here.ands) (part_of here x) ts no_and,
          rest_goes word.Or conjs (cond_from here.ors) (cond_from (here.ors ++ c ∷ [])) c ts r l.0 D (cond_onward here.ors c) b e (conj_begins r R l.0 h l.1) l.2,
        )

    level_ends : begins (is_word word.Or) ts ≡ false → LevelIs here (Ok (x, ts)) (Ok (cond_with here x, ts))
    level_ends no_or = (
      Ok (conj_with here x, ts),
      rest_stops word.And negs (conj_from here.ands) (part_of here x) ts no_and,
      rest_stops word.Or conjs (cond_from here.ors) (conj_with here x) ts no_or,
    )

-- ---- the levels around it

finish_by : (around : List Parts) (here next : Parts) (R S : Read Neg) (given : Read Cond) → ((D : Read Cond) → LevelIs next S D → LevelIs here R D) → Finish around next S given → Finish around here R given
finish_by [] here next R S given f h = f given h
finish_by (p ∷ around) here next R S given f h = (h.0, f h.0 h.1, h.2)

finish_refused : (around : List Parts) (here : Parts) (left : List Token) → Finish around here (Err left) (Err left)
finish_refused [] here left = (Err left, refl, refl)
finish_refused (p ∷ around) here left = (Err left, (Err left, refl, refl), finish_refused around p left)

level_not : (here : Parts) (R : Read Neg) (D : Read Cond) → LevelIs (behind_not here) R D → LevelIs here (after (λ x left. Ok (conditions.not x, left)) R) D
level_not here (Err left) D h = h
level_not here (Ok x) D h = h

module _ (whole : List Token) where
  pub at_start : Owes whole [] nothing whole
  at_start r h given f = level_begins whole r given h f

  module _ (around : List Parts) (here : Parts) (ts : List Token) (owes : Owes whole around here ts) where
    pub at_not : (r : List Token) → begins (is_word word.Not) ts ≡ true → Reads (word_reader word.Not) ts (Ok (tt, r)) → Owes whole around (behind_not here) r
    at_not r b e R h given f = owes (after (λ x left. Ok (conditions.not x, left)) R) (not_is ts r R b e h) given (finish_by around here (behind_not here) _ R given (level_not here R) f)

    module _ (no_not : begins (is_word word.Not) ts ≡ false) where
      pub at_open : (r : List Token) → begins (is_sign sign.Open) ts ≡ true → Reads (sign_reader sign.Open) ts (Ok (tt, r)) → Owes whole (here ∷ around) nothing r
      at_open r b e R h given f = owes (closed f.0) (open_is ts no_not r f.0 b e (level_begins r R f.0 h f.1)) given f.2

      pub at_test : (x : Test) (r : List Token) → begins (is_sign sign.Open) ts ≡ false → Reads test ts (Ok (x, r)) → OwesRest whole around here (conditions.test x) r
      at_test x r b e given f = owes (Ok (conditions.test x, r)) (test_is ts no_not (Ok (x, r)) b e) given f

      pub at_no_test : (r : List Token) → begins (is_sign sign.Open) ts ≡ false → Reads test ts (Err r) → Wide conds whole (Err r)
      at_no_test r b e = owes (Err r) (test_is ts no_not (Err r) b e) (Err r) (finish_refused around here r)

  module _ (around : List Parts) (here : Parts) (x : Neg) (ts : List Token) where
    pub then_and : OwesRest whole around here x ts → (r : List Token) → begins (is_word word.And) ts ≡ true → Reads (word_reader word.And) ts (Ok (tt, r)) → Owes whole around (behind_and here x) r
    then_and owes r b e R h given f = owes given (finish_by around here (behind_and here x) (Ok (x, ts)) R given (λ D. level_and here x ts r R D b e h) f)

    module _ (no_and : begins (is_word word.And) ts ≡ false) where
      pub then_or : OwesRest whole around here x ts → (r : List Token) → begins (is_word word.Or) ts ≡ true → Reads (word_reader word.Or) ts (Ok (tt, r)) → Owes whole around (behind_or here x) r
      then_or owes r b e R h given f = owes given (finish_by around here (behind_or here x) (Ok (x, ts)) R given (λ D. level_or here x ts no_and r R D b e h) f)

      module _ (no_or : begins (is_word word.Or) ts ≡ false) where
        closed_is : (r : Read (Unit {0})) → Reads (sign_reader sign.Close) ts r → closed (Ok (cond_with here x, ts)) ≡ after (λ u rest. Ok (conditions.parens (cond_with here x), rest)) r
        closed_is r e = ap (after (λ u rest. Ok (conditions.parens (cond_with here x), rest))) (one_is (look_sign sign.Close) ts r e 0)

        pub then_close : (p : Parts) → OwesRest whole (p ∷ around) here x ts → (r : List Token) → Reads (sign_reader sign.Close) ts (Ok (tt, r)) → OwesRest whole around p (conditions.parens (cond_with here x)) r
        then_close p owes r e given f = owes given (Ok (cond_with here x, ts), level_ends here x ts no_and no_or, subst (λ z. Finish around p z given) (sym (closed_is (Ok (tt, r)) e)) f)

        pub not_closed : (p : Parts) → OwesRest whole (p ∷ around) here x ts → (r : List Token) → Reads (sign_reader sign.Close) ts (Err r) → Wide conds whole (Err r)
        not_closed p owes r e = owes (Err r) (Ok (cond_with here x, ts), level_ends here x ts no_and no_or, subst (λ z. Finish around p z (Err r)) (sym (closed_is (Err r) e)) (finish_refused around p r))

  pub at_end : (here : Parts) (x : Neg) (ts : List Token) → begins (is_word word.And) ts ≡ false → begins (is_word word.Or) ts ≡ false → OwesRest whole [] here x ts → Wide conds whole (Ok (cond_with here x, ts))
  at_end here x ts no_and no_or owes = owes (Ok (cond_with here x, ts)) (level_ends here x ts no_and no_or)
