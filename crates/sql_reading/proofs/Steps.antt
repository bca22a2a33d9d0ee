-- Reading a production, by what reading its parts gives.
use Rattle.std.proofs.Common.{◌≡◌, ℕ, ◌+◌, Bool, true, false, List, ◌∷◌, refl, sym, ap, ◌∙◌, subst, arith, ◌⊎◌, inl, inr}
use Rattle.std.specs.Prelude.{Option, Some, None, Result, Ok, Err, if◌then◌else◌, ◌&&◌}
use Rattle.std.specs.Result.{IsErrAnd}
use Rattle.std.proofs.lemmas.Result.{err_from_is_err_and}
use Rattle.sql_tokens.specs.declared.token.Token.{Token}
use Rattle.sql_readers.specs.Readers.{Read, Reader, after, begins, found, one, both, either, optionally, seen_as}
use Rattle.sql_readers.specs.Reads.{Reads}
use Rattle.sql_reading.specs.Gives.{Gives}
use Rattle.sql_reading.specs.declared.stop.Stop.{Stop}
use Rattle.sql_reading.specs.declared.stop.Stop.TheVariants as stop
use Rattle.sql_reading.specs.Cursor.{EatsCall}
use Rattle.sql_readers.specs.Looks.{is_call, is_sign}
use Rattle.sql_readers.specs.Productions.{name, led}
use Rattle.sql_tree.specs.Parts.{Spelled}
use Rattle.sql_tokens.specs.declared.sign.Sign.TheVariants as sign
use Rattle.sql_readers.proofs.Branches.{if_true, if_false}

-- ---- one token

pub took : {A : Type 0} (look : Token → Option A) (a : A) (x : Token) (rest : List Token) → look x ≡ Some a → Reads (one look) (x ∷ rest) (Ok (a, rest))
took look a x rest e = record { enough = 0; gives = λ n le. ap (found (x ∷ rest) rest) e }

-- ---- one part and then another

module _ {A B : Type 0} {p : Reader A} {q : Reader B} {ts r s : List Token} {a : A} {b : B} where
  pub both_ok : Reads p ts (Ok (a, r)) → Reads q r (Ok (b, s)) → Reads (both p q) ts (Ok ((a, b), s))
  both_ok h k = record {
    enough = h.enough + k.enough;
    gives = λ n le. ap (after (λ a r. after (λ b s. Ok ((a, b), s)) (q n r))) (h.gives n (omega arith)) ∙ ap (after (λ b s. Ok ((a, b), s))) (k.gives n (omega arith));
  }

module _ {A B : Type 0} {p : Reader A} {q : Reader B} {ts r s : List Token} {a : A} where
  pub both_second : Reads p ts (Ok (a, r)) → Reads q r (Err s) → Reads (both p q) ts (Err s)
  both_second h k = record {
    enough = h.enough + k.enough;
    gives = λ n le. ap (after (λ a r. after (λ b s. Ok ((a, b), s)) (q n r))) (h.gives n (omega arith)) ∙ ap (after (λ b s. Ok ((a, b), s))) (k.gives n (omega arith));
  }

module _ {A B : Type 0} {p : Reader A} (q : Reader B) {ts s : List Token} where
  pub both_first : Reads p ts (Err s) → Reads (both p q) ts (Err s)
  both_first h = record {
    enough = h.enough;
    gives = λ n le. ap (after (λ a r. after (λ b s. Ok ((a, b), s)) (q n r))) (h.gives n le);
  }

-- ---- what is read, seen as something else

pub seen_ok : {A B : Type 0} (f : A → B) {p : Reader A} {ts r : List Token} {a : A} → Reads p ts (Ok (a, r)) → Reads (seen_as f p) ts (Ok (f a, r))
seen_ok f h = record { enough = h.enough; gives = λ n le. ap (after (λ a r. Ok (f a, r))) (h.gives n le) }

pub seen_err : {A B : Type 0} (f : A → B) {p : Reader A} {ts r : List Token} → Reads p ts (Err r) → Reads (seen_as f p) ts (Err r)
seen_err f h = record { enough = h.enough; gives = λ n le. ap (after (λ a r. Ok (f a, r))) (h.gives n le) }

-- ---- by the first token

module _ {A B : Type 0} (test : Token → Bool) {p : Reader A} (q : Reader B) {ts r : List Token} where
  pub left_ok : {a : A} → true ≡ begins test ts → Reads p ts (Ok (a, r)) → Reads (either test p q) ts (Ok (inl a, r))
  left_ok e h = record {
    enough = h.enough;
    gives = λ n le. if_true (begins test ts) _ _ (sym e) ∙ ap (after (λ a r. Ok (inl a, r))) (h.gives n le);
  }

  pub left_err : true ≡ begins test ts → Reads p ts (Err r) → Reads (either test p q) ts (Err r)
  left_err e h = record {
    enough = h.enough;
    gives = λ n le. if_true (begins test ts) _ _ (sym e) ∙ ap (after (λ a r. Ok (inl a, r))) (h.gives n le);
  }

module _ {A B : Type 0} (test : Token → Bool) (p : Reader A) {q : Reader B} {ts r : List Token} where
  pub right_ok : {b : B} → false ≡ begins test ts → Reads q ts (Ok (b, r)) → Reads (either test p q) ts (Ok (inr b, r))
  right_ok e h = record {
    enough = h.enough;
    gives = λ n le. if_false (begins test ts) _ _ (sym e) ∙ ap (after (λ b r. Ok (inr b, r))) (h.gives n le);
  }

  pub right_err : false ≡ begins test ts → Reads q ts (Err r) → Reads (either test p q) ts (Err r)
  right_err e h = record {
    enough = h.enough;
    gives = λ n le. if_false (begins test ts) _ _ (sym e) ∙ ap (after (λ b r. Ok (inr b, r))) (h.gives n le);
  }

-- ---- a part that may be left out

module _ {A : Type 0} (test : Token → Bool) {p : Reader A} {ts r : List Token} where
  pub some_ok : {a : A} → true ≡ begins test ts → Reads p ts (Ok (a, r)) → Reads (optionally test p) ts (Ok (Some a, r))
  some_ok e h = record {
    enough = h.enough;
    gives = λ n le. if_true (begins test ts) _ _ (sym e) ∙ ap (after (λ a r. Ok (Some a, r))) (h.gives n le);
  }

  pub some_err : true ≡ begins test ts → Reads p ts (Err r) → Reads (optionally test p) ts (Err r)
  some_err e h = record {
    enough = h.enough;
    gives = λ n le. if_true (begins test ts) _ _ (sym e) ∙ ap (after (λ a r. Ok (Some a, r))) (h.gives n le);
  }

pub none_ok : {A : Type 0} (test : Token → Bool) (p : Reader A) (ts : List Token) → false ≡ begins test ts → Reads (optionally test p) ts (Ok (None, ts))
none_ok test p ts e = record { enough = 0; gives = λ n le. if_false (begins test ts) _ _ (sym e) }

pub none_left : {A : Type 0} (test : Token → Bool) (p : Reader A) (old new : List Token) → new ≡ old → false ≡ begins test old → Reads (optionally test p) old (Ok (None, new))
none_left {A} test p old new is e = subst (λ (r : List Token). Reads (optionally test p) old (Ok (None, r))) (sym is) (none_ok test p old e)

-- ---- what a call did, by what a part of it did

abbrev pub Fails : {D : Type 0} → Reader D → List Token → Stop → List Token → Type 0
Fails p old stop.Syntax new = Reads p old (Err new)
Fails p old stop.NoMemory new = Unit {0}

-- a call of `?` that returned what its part stopped with
pub record Ended {D W : Type 0} (p : Reader D) (old : List Token) (given : Result W Stop) (new : List Token) : Type 0 where
  pub stop : Stop
  pub is : given ≡ Err stop
  pub by : Fails p old stop new

pub ended : {D W : Type 0} (p : Reader D) (old new : List Token) (e : Stop) (given : Result W Stop) → IsErrAnd given (λ f. f ≡ e) → Fails p old e new → Ended p old given new
ended p old new e given is h = let g = err_from_is_err_and given is in record { stop = e; is = g.1 ∙ ap Err g.2; by = h }

fails_by : {D E : Type 0} (p : Reader D) (q : Reader E) (mid old new : List Token) (e : Stop) → (Reads p mid (Err new) → Reads q old (Err new)) → Fails p mid e new → Fails q old e new
fails_by p q mid old new stop.Syntax f h = f h
fails_by p q mid old new stop.NoMemory f h = tt

pub ended_by : {D E W : Type 0} (p : Reader D) (q : Reader E) (mid old new : List Token) (given : Result W Stop) → (Reads p mid (Err new) → Reads q old (Err new)) → Ended p mid given new → Ended q old given new
ended_by p q mid old new given f h = record { stop = h.stop; is = h.is; by = fails_by p q mid old new h.stop f h.by }

pub ended_seen : {A B W : Type 0} (f : A → B) {p : Reader A} {old new : List Token} {given : Result W Stop} → Ended p old given new → Ended (seen_as f p) old given new
ended_seen f {p} {old} {new} {given} = ended_by p (seen_as f p) old old new given (λ k. seen_err f k)

pub ended_first : {A B W : Type 0} {p : Reader A} (q : Reader B) {old new : List Token} {given : Result W Stop} → Ended p old given new → Ended (both p q) old given new
ended_first {p = p} q {old} {new} {given} = ended_by p (both p q) old old new given (λ k. both_first q k)

pub ended_second : {A B W : Type 0} {p : Reader A} {q : Reader B} {a : A} {old mid new : List Token} {given : Result W Stop} → Reads p old (Ok (a, mid)) → Ended q mid given new → Ended (both p q) old given new
ended_second {p = p} {q} {old = old} {mid} {new} {given} h = ended_by q (both p q) mid old new given (λ k. both_second h k)

pub ended_right : {A B W : Type 0} (test : Token → Bool) (p : Reader A) {q : Reader B} {old new : List Token} {given : Result W Stop} → false ≡ begins test old → Ended q old given new → Ended (either test p q) old given new
ended_right test p {q} {old} {new} {given} e = ended_by q (either test p q) old old new given (λ k. right_err test p e k)

-- where a call that went past nothing told so
pub ended_right_at : {A B W : Type 0} (test : Token → Bool) (p : Reader A) {q : Reader B} {old mid new : List Token} {given : Result W Stop} → mid ≡ old → false ≡ begins test old → Ended q mid given new → Ended (either test p q) old given new
ended_right_at {W = W} test p {q} {old} {mid} {new} {given} is e h = ended_right test p e (subst (λ (ts : List Token). Ended q ts given new) is h)

pub ended_some : {A W : Type 0} (test : Token → Bool) {p : Reader A} {old new : List Token} {given : Result W Stop} → true ≡ begins test old → Ended p old given new → Ended (optionally test p) old given new
ended_some test {p} {old} {new} {given} e = ended_by p (optionally test p) old old new given (λ k. some_err test e k)

gives_err : {E W : Type 0} (made : E → W) (p : Reader E) (old new : List Token) (e : Stop) → Fails p old e new → Gives made p old (Err e) new
gives_err made p old new stop.Syntax h = h
gives_err made p old new stop.NoMemory h = tt

pub gives_ended : {D W : Type 0} (made : D → W) (p : Reader D) (old new : List Token) (given : Result W Stop) → Ended p old given new → Gives made p old given new
gives_ended {W = W} made p old new given h = subst (λ (r : Result W Stop). Gives made p old r new) (sym h.is) (gives_err made p old new h.stop h.by)

-- a call's last part gives what the call gives
pub gives_by : {D E V : Type 0} (made : D → V) (made' : E → V) (p : Reader D) (q : Reader E) (mid old new : List Token) (given : Result V Stop) (f : D → E)
    → ((d : D) → made d ≡ made' (f d)) → ((d : D) → Reads p mid (Ok (d, new)) → Reads q old (Ok (f d, new))) → (Reads p mid (Err new) → Reads q old (Err new))
    → Gives made p mid given new → Gives made' q old given new
gives_by made made' p q mid old new (Ok v) f same ok err h = (f h.0, h.1 ∙ same h.0, ok h.0 h.2)
gives_by made made' p q mid old new (Err stop.Syntax) f same ok err h = err h
gives_by made made' p q mid old new (Err stop.NoMemory) f same ok err h = tt

pub gives_same : {D V : Type 0} (made made' : D → V) (p : Reader D) (old new : List Token) (given : Result V Stop) → ((d : D) → made d ≡ made' d) → Gives made p old given new → Gives made' p old given new
gives_same made made' p old new given e h = gives_by made made' p p old old new given (λ d. d) e (λ d k. k) (λ k. k) h

module _ {A B V : Type 0} (made : B → V) (f : A → B) (p : Reader A) (old new : List Token) (given : Result V Stop) where
  pub gives_seen : Gives (λ a. made (f a)) p old given new → Gives made (seen_as f p) old given new
  gives_seen h = gives_by (λ a. made (f a)) made p (seen_as f p) old old new given f (λ d. refl) (λ d k. seen_ok f k) (λ k. seen_err f k) h

module _ {A B V : Type 0} (made : A ⊎ B → V) (test : Token → Bool) (p : Reader A) (q : Reader B) (old new : List Token) (given : Result V Stop) where
  pub gives_left : true ≡ begins test old → Gives (λ a. made (inl a)) p old given new → Gives made (either test p q) old given new
  gives_left e h = gives_by (λ a. made (inl a)) made p (either test p q) old old new given inl (λ d. refl) (λ d k. left_ok test q e k) (λ k. left_err test q e k) h

  pub gives_right : false ≡ begins test old → Gives (λ b. made (inr b)) q old given new → Gives made (either test p q) old given new
  gives_right e h = gives_by (λ b. made (inr b)) made q (either test p q) old old new given inr (λ d. refl) (λ d k. right_ok test p e k) (λ k. right_err test p e k) h

  -- where a call that went past nothing told so
  pub gives_right_at : (mid : List Token) → mid ≡ old → false ≡ begins test old → Gives (λ b. made (inr b)) q mid given new → Gives made (either test p q) old given new
  gives_right_at mid is e h = gives_right e (subst (λ (ts : List Token). Gives (λ b. made (inr b)) q ts given new) is h)

module _ {A B V : Type 0} (made : A × B → V) (p : Reader A) (q : Reader B) {old mid : List Token} (new : List Token) (given : Result V Stop) {a : A} where
  pub gives_then : Reads p old (Ok (a, mid)) → Gives (λ b. made (a, b)) q mid given new → Gives made (both p q) old given new
  gives_then e h = gives_by (λ b. made (a, b)) made q (both p q) mid old new given (λ b. (a, b)) (λ d. refl) (λ d k. both_ok e k) (λ k. both_second e k) h

module _ {A V : Type 0} (made : Option A → V) (test : Token → Bool) (p : Reader A) (old new : List Token) (given : Result V Stop) where
  pub gives_some : true ≡ begins test old → Gives (λ a. made (Some a)) p old given new → Gives made (optionally test p) old given new
  gives_some e h = gives_by (λ a. made (Some a)) made p (optionally test p) old old new given Some (λ d. refl) (λ d k. some_ok test e k) (λ k. some_err test e k) h

-- for a last call whose result is returned
pub ruleset gives = (gives_seen, gives_left, gives_right, gives_right_at, gives_then, gives_some)

-- ---- by whether a name is the word of a call

abbrev led_rest : {A B : Type 0} → List ℕ → Reader A → Reader B → ℕ → Spelled → List Token → Read (A ⊎ (Spelled × B))
led_rest call p q n s r = if is_call call s && begins (is_sign sign.Open) r then after (λ a u. Ok (inl a, u)) (p n r) else after (λ b u. Ok (inr (s, b), u)) (q n r)

at_name : (old mid r : List Token) (s : Spelled) → mid ≡ old → Reads name mid (Ok (s, r)) → Reads name old (Ok (s, r))
at_name old mid r s e h = subst (λ (ts : List Token). Reads name ts (Ok (s, r))) e h

module _ {A B : Type 0} {call : List ℕ} {p : Reader A} (q : Reader B) {old mid u : List Token} where
  pub led_call_ok : {a : A} → EatsCall call old true mid → Reads p mid (Ok (a, u)) → Reads (led call p q) old (Ok (inl a, u))
  led_call_ok w k = record {
    enough = w.1.enough + k.enough;
    gives = λ n le. ap (after (led_rest call p q n)) (w.1.gives n (omega arith)) ∙ if_true _ _ _ w.2 ∙ ap (after (λ a u. Ok (inl a, u))) (k.gives n (omega arith));
  }

  pub led_call_err : EatsCall call old true mid → Reads p mid (Err u) → Reads (led call p q) old (Err u)
  led_call_err w k = record {
    enough = w.1.enough + k.enough;
    gives = λ n le. ap (after (led_rest call p q n)) (w.1.gives n (omega arith)) ∙ if_true _ _ _ w.2 ∙ ap (after (λ a u. Ok (inl a, u))) (k.gives n (omega arith));
  }

module _ {A B : Type 0} {call : List ℕ} (p : Reader A) {q : Reader B} {old mid r u : List Token} {s : Spelled} where
  pub led_name_ok : {b : B} → EatsCall call old false mid → Reads name mid (Ok (s, r)) → Reads q r (Ok (b, u)) → Reads (led call p q) old (Ok (inr (s, b), u))
  led_name_ok w h k =
      let g = at_name old mid r s w.0 h in
      record {
        enough = g.enough + k.enough;
        gives = λ n le. ap (after (led_rest call p q n)) (g.gives n (omega arith)) ∙ if_false _ _ _ (w.1 s r g) ∙ ap (after (λ b u. Ok (inr (s, b), u))) (k.gives n (omega arith));
      }

  pub led_name_err : EatsCall call old false mid → Reads name mid (Ok (s, r)) → Reads q r (Err u) → Reads (led call p q) old (Err u)
  led_name_err w h k =
      let g = at_name old mid r s w.0 h in
      record {
        enough = g.enough + k.enough;
        gives = λ n le. ap (after (led_rest call p q n)) (g.gives n (omega arith)) ∙ if_false _ _ _ (w.1 s r g) ∙ ap (after (λ b u. Ok (inr (s, b), u))) (k.gives n (omega arith));
      }

module _ {A B : Type 0} {call : List ℕ} (p : Reader A) (q : Reader B) {old mid u : List Token} where
  pub led_err : EatsCall call old false mid → Reads name mid (Err u) → Reads (led call p q) old (Err u)
  led_err w h = let g = subst (λ (ts : List Token). Reads name ts (Err u)) w.0 h in record { enough = g.enough; gives = λ n le. ap (after (led_rest call p q n)) (g.gives n le) }

-- the same for a call's last part, and at an exit of `?`
module _ {A B V : Type 0} (made : A ⊎ (Spelled × B) → V) (call : List ℕ) (p : Reader A) (q : Reader B) (old mid new : List Token) (given : Result V Stop) where
  pub gives_call : EatsCall call old true mid → Gives (λ a. made (inl a)) p mid given new → Gives made (led call p q) old given new
  gives_call w = gives_by (λ a. made (inl a)) made p (led call p q) mid old new given inl (λ d. refl) (λ d k. led_call_ok q w k) (λ k. led_call_err q w k)

  pub gives_name : (s : Spelled) (r : List Token) → EatsCall call old false mid → Reads name mid (Ok (s, r)) → Gives (λ b. made (inr (s, b))) q r given new → Gives made (led call p q) old given new
  gives_name s r w h = gives_by (λ b. made (inr (s, b))) made q (led call p q) r old new given (λ b. inr (s, b)) (λ d. refl) (λ d k. led_name_ok p w h k) (λ k. led_name_err p w h k)

pub ended_name : {A B W : Type 0} {call : List ℕ} (p : Reader A) (q : Reader B) {old mid new : List Token} {given : Result W Stop} → EatsCall call old false mid → Ended name mid given new → Ended (led call p q) old given new
ended_name {call = call} p q {old} {mid} {new} {given} w = ended_by name (led call p q) mid old new given (λ k. led_err p q w k)
