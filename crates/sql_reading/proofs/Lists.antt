-- Reading parts with a comma between two, one by one.
use Rattle.std.proofs.Common.{◌≡◌, ℕ, zero, suc, ◌+◌, ◌≤◌, true, false, List, [], ◌∷◌, ◌++◌, map, refl, sym, ap, ◌∙◌, subst, arith, append_assoc, append-nil}
use Rattle.std.specs.Prelude.{Result, Ok, Err}
use Rattle.sql_tokens.specs.declared.token.Token.{Token}
use Rattle.sql_tokens.specs.declared.sign.Sign.TheVariants as sign
use Rattle.sql_readers.specs.Readers.{Read, Reader, after, begins, both, repeated, many}
use Rattle.sql_readers.specs.Looks.{is_sign}
use Rattle.sql_readers.specs.Productions.{sign_reader, seconds}
use Rattle.sql_readers.specs.Reads.{Reads}
use Rattle.sql_readers.proofs.Branches.{if_true, if_false}
use Rattle.sql_reading.specs.declared.stop.Stop.{Stop}
use Rattle.sql_reading.proofs.Steps.{both_ok, both_second, Ended, ended_by}

-- given enough to go, reading more parts gives this
pub record Continues {D : Type 0} (p : Reader D) (ts : List Token) (given : Read (List (Unit {0} × D))) : Type 0 where
  pub enough : ℕ
  pub gives : (k n : ℕ) → enough ≤ k → enough ≤ n → repeated (is_sign sign.Comma) (both (sign_reader sign.Comma) p) k n ts ≡ given

module _ {D : Type 0} (p : Reader D) where
  none_at : (k n : ℕ) (ts : List Token) → false ≡ begins (is_sign sign.Comma) ts → repeated (is_sign sign.Comma) (both (sign_reader sign.Comma) p) k n ts ≡ Ok ([], ts)
  none_at zero n ts e = if_false _ _ _ (sym e)
  none_at (suc k) n ts e = if_false _ _ _ (sym e)

  pub continues_none : (ts : List Token) → false ≡ begins (is_sign sign.Comma) ts → Continues p ts (Ok ([], ts))
  continues_none ts e = record { enough = 0; gives = λ k n low le. none_at k n ts e }

  abbrev part_then : ℕ → ℕ → Unit {0} × D → List Token → Read (List (Unit {0} × D))
  part_then k n a r = after (λ more s. Ok (a ∷ more, s)) (repeated (is_sign sign.Comma) (both (sign_reader sign.Comma) p) k n r)

  more_at : (k n m : ℕ) (ts r : List Token) (a : Unit {0} × D) (given out : Read (List (Unit {0} × D))) → suc m ≤ k → true ≡ begins (is_sign sign.Comma) ts
      → both (sign_reader sign.Comma) p n ts ≡ Ok (a, r) → ((j : ℕ) → m ≤ j → repeated (is_sign sign.Comma) (both (sign_reader sign.Comma) p) j n r ≡ given)
      → after (λ more s. Ok (a ∷ more, s)) given ≡ out → repeated (is_sign sign.Comma) (both (sign_reader sign.Comma) p) k n ts ≡ out
  more_at zero n m ts r a given out low e f g h = absurd (omega arith)
  more_at (suc k) n m ts r a given out low e f g h = if_true _ _ _ (sym e) ∙ ap (after (part_then k n)) f ∙ ap (after (λ more s. Ok (a ∷ more, s))) (g k (omega arith)) ∙ h

  continues_more : (ts mid r s : List Token) (d : D) (more : List (Unit {0} × D)) → true ≡ begins (is_sign sign.Comma) ts → Reads (sign_reader sign.Comma) ts (Ok (tt, mid)) → Reads p mid (Ok (d, r))
      → Continues p r (Ok (more, s)) → Continues p ts (Ok ((tt, d) ∷ more, s))
  continues_more ts mid r s d more e f g h =
      let part = both_ok f g in
      record {
        enough = suc (part.enough + h.enough);
        gives = λ k n low le. more_at k n h.enough ts r (tt, d) (Ok (more, s)) (Ok ((tt, d) ∷ more, s)) (omega arith) e (part.gives n (omega arith)) (λ j less. h.gives j n less (omega arith)) refl;
      }

  continues_stuck : (ts mid r s : List Token) (d : D) → true ≡ begins (is_sign sign.Comma) ts → Reads (sign_reader sign.Comma) ts (Ok (tt, mid)) → Reads p mid (Ok (d, r))
      → Continues p r (Err s) → Continues p ts (Err s)
  continues_stuck ts mid r s d e f g h =
      let part = both_ok f g in
      record {
        enough = suc (part.enough + h.enough);
        gives = λ k n low le. more_at k n h.enough ts r (tt, d) (Err s) (Err s) (omega arith) e (part.gives n (omega arith)) (λ j less. h.gives j n less (omega arith)) refl;
      }

  part_at : (k n : ℕ) (ts s : List Token) → 1 ≤ k → true ≡ begins (is_sign sign.Comma) ts → both (sign_reader sign.Comma) p n ts ≡ Err s → repeated (is_sign sign.Comma) (both (sign_reader sign.Comma) p) k n ts ≡ Err s
  part_at zero n ts s low e f = absurd (omega arith)
  part_at (suc k) n ts s low e f = if_true _ _ _ (sym e) ∙ ap (after (part_then k n)) f

  continues_part : (ts mid s : List Token) → true ≡ begins (is_sign sign.Comma) ts → Reads (sign_reader sign.Comma) ts (Ok (tt, mid)) → Reads p mid (Err s) → Continues p ts (Err s)
  continues_part ts mid s e f g =
      let part = both_second f g in
      record { enough = suc part.enough; gives = λ k n low le. part_at k n ts s (omega arith) e (part.gives n (omega arith)) }

  pub many_of : (ts : List Token) (given : Read (List (Unit {0} × D))) → Continues p ts given → Reads (many (is_sign sign.Comma) (both (sign_reader sign.Comma) p)) ts given
  many_of ts given h = record { enough = h.enough; gives = λ n le. h.gives n n le le }

-- what has been read of more parts, in a loop that began at a start with some items
pub record Listing {D V : Type 0} (made : D → V) (p : Reader D) (start : List Token) (had so_far : List V) (now : List Token) : Type 0 where
  pub more : List (Unit {0} × D)
  pub is : so_far ≡ had ++ map made (seconds more)
  pub goes : (rest : List (Unit {0} × D)) (s : List Token) → Continues p now (Ok (rest, s)) → Continues p start (Ok (more ++ rest, s))
  pub stops : (s : List Token) → Continues p now (Err s) → Continues p start (Err s)

pub listing_begins : {D V : Type 0} (made : D → V) (p : Reader D) (start : List Token) (had : List V) → Listing made p start had had start
listing_begins made p start had = record { more = []; is = sym (append-nil had); goes = λ rest s h. h; stops = λ s h. h }

seconds_more : {D V : Type 0} (made : D → V) (xs : List (Unit {0} × D)) (d : D) → map made (seconds (xs ++ (tt, d) ∷ [])) ≡ map made (seconds xs) ++ made d ∷ []
seconds_more made [] d = refl
seconds_more made (x ∷ xs) d = ap (λ l. made x.1 ∷ l) (seconds_more made xs d)

pub listing_step : {D V : Type 0} {made : D → V} {p : Reader D} {start : List Token} {had so_far next : List V} {now mid r : List Token} {d : D} {v : V} → Listing made p start had so_far now
    → Reads (sign_reader sign.Comma) now (Ok (tt, mid)) → true ≡ begins (is_sign sign.Comma) now → v ≡ made d → Reads p mid (Ok (d, r)) → next ≡ so_far ++ v ∷ [] → Listing made p start had next r
listing_step {V = V} {made} {p} {start} {had} {so_far} {next} {now} {mid} {r} {d} {v} L f e same g is = record {
  more = L.more ++ (tt, d) ∷ [];
  is = is ∙ (λ i. L.is i ++ same i ∷ []) ∙ append_assoc had (map made (seconds L.more)) (made d ∷ []) ∙ ap (λ (l : List V). had ++ l) (sym (seconds_more made L.more d));
  goes = λ rest s h. subst (λ (l : List (Unit {0} × _)). Continues p start (Ok (l, s))) (sym (append_assoc L.more ((tt, d) ∷ []) rest)) (L.goes ((tt, d) ∷ rest) s (continues_more p now mid r s d rest e f g h));
  stops = λ s h. L.stops s (continues_stuck p now mid r s d e f g h);
}

pub listing_ends : {D V : Type 0} {made : D → V} {p : Reader D} {start : List Token} {had so_far : List V} {now new : List Token} (L : Listing made p start had so_far now) → new ≡ now → false ≡ begins (is_sign sign.Comma) now
    → Reads (many (is_sign sign.Comma) (both (sign_reader sign.Comma) p)) start (Ok (L.more, new))
listing_ends {p = p} {start} {now = now} {new} L is e =
    many_of p start _ (subst (λ (l : List (Unit {0} × _)). Continues p start (Ok (l, new))) (append-nil L.more)
    (L.goes [] new (subst (λ (r : List Token). Continues p now (Ok ([], r))) (sym is) (continues_none p now e))))

pub listing_stuck : {D V W : Type 0} {made : D → V} {p : Reader D} {start : List Token} {had so_far : List V} {now mid new : List Token} {given : Result W Stop} → Listing made p start had so_far now
    → Reads (sign_reader sign.Comma) now (Ok (tt, mid)) → true ≡ begins (is_sign sign.Comma) now → Ended p mid given new → Ended (many (is_sign sign.Comma) (both (sign_reader sign.Comma) p)) start given new
listing_stuck {p = p} {start} {now = now} {mid} {new} {given} L f e h =
    ended_by p (many (is_sign sign.Comma) (both (sign_reader sign.Comma) p)) mid start new given (λ k. many_of p start _ (L.stops new (continues_part p now mid new e f k))) h

-- with the first part, which stands before the loop
pub listing_all : {D V : Type 0} (made : D → V) (v : V) (d : D) (none had so_far : List V) (more : List (Unit {0} × D)) → v ≡ made d → none ≡ [] → had ≡ none ++ v ∷ [] → so_far ≡ had ++ map made (seconds more)
    → so_far ≡ map made (d ∷ seconds more)
listing_all made v d none had so_far more same empty is whole = whole ∙ (λ i. (is ∙ (λ j. empty j ++ same j ∷ [])) i ++ map made (seconds more))
