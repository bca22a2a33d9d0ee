-- What reading a whole text's tokens tells of its derivations.
use Rattle.std.proofs.Common.{◌≡◌, ℕ, ◌+◌, ◌≤◌, List, [], ◌∷◌, ◌++◌, length, append_assoc, append-nil, refl, sym, ap, ◌∙◌, arith}
use Rattle.std.specs.Prelude.{Ok, Err}
use Rattle.sql_tokens.specs.declared.token.Token.{Token}
use Rattle.sql_tree.specs.Grammar.{Text, text_tokens}
use Rattle.sql_readers.specs.Readers.{Read}
use Rattle.sql_readers.specs.Productions.{whole}
use Rattle.sql_readers.specs.Reads.{Reads}
use Rattle.sql_outcomes.specs.Outcome.{Begins}
use Rattle.sql_readers.proofs.Branches.{pair_same}
use Rattle.sql_derivations.proofs.Exactly.{Fault}
use Rattle.sql_derivations.proofs.Texts.{whole_at}

reads_text : (n : ℕ) (x : Text) → length (text_tokens x) ≤ n → whole n (text_tokens x) ≡ Ok (x, [])
reads_text n x h = ap (whole n) (sym (append-nil (text_tokens x))) ∙ (whole_at n).complete n (omega arith) x [] h refl

-- a text of the grammar has one derivation
pub one_derivation : (x y : Text) → text_tokens x ≡ text_tokens y → x ≡ y
one_derivation x y e =
    let n = length (text_tokens x) in
    let len = ap length e in
    (pair_same x y [] [] (sym (reads_text n x (omega arith)) ∙ ap (whole n) e ∙ reads_text n y (omega arith))).0

module _ (ts : List Token) where
  pub derives : (x : Text) → Reads whole ts (Ok (x, [])) → ts ≡ text_tokens x
  derives x r = (whole_at r.enough).sound ts x [] (r.gives r.enough (omega arith)) ∙ append-nil (text_tokens x)

  -- tokens that are left over, or refused
  pub record Stops (r : List Token) : Type 0 where
    pub front : List Token
    pub cut : ts ≡ front ++ r
    pub begins : Begins front
    pub stops : (t : Token) (more : List Token) → r ≡ t ∷ more → Begins (front ++ t ∷ []) → ⊥
    pub none : r ≡ [] → (x : Text) → ts ≡ text_tokens x → ⊥

  go_on : (front : List Token) (t : Token) → Begins (front ++ t ∷ []) → (R : Type 0) → ((y : Text) (more : List Token) → front ++ t ∷ more ≡ text_tokens y → R) → R
  go_on front t b R k = k b.1 b.0 (sym (append_assoc front (t ∷ []) b.0) ∙ b.2)

  pub left_over : (x : Text) (t : Token) (r : List Token) → Reads whole ts (Ok (x, t ∷ r)) → Stops (t ∷ r)
  left_over x t r reads =
      let n = reads.enough in
      let e = reads.gives n (omega arith) in
      record {
        front = text_tokens x;
        cut = (whole_at n).sound ts x (t ∷ r) e;
        begins = ([], x, append-nil (text_tokens x));
        stops = λ u more is b. go_on (text_tokens x) u b ⊥ (λ y rest same.
            let m = n + length (text_tokens y) in
            let a = (whole_at n).holds ts x (t ∷ r) e m (omega arith) t r rest refl in
            let head : t ≡ u = cc in
            let c = reads_text m y (omega arith) in
            let d : ◌≡◌ {A = Read Text} (Ok (x, t ∷ rest)) (Ok (y, [])) = sym a ∙ ap (whole m) (ap (λ w. text_tokens x ++ w ∷ rest) head ∙ same) ∙ c in
            let s = (pair_same x y (t ∷ rest) [] d).1 in cc);
        none = λ is. cc;
      }

  pub refused : (r : List Token) → Reads whole ts (Err r) → Stops r
  refused r reads =
      let n = reads.enough + length ts in
      let e = reads.gives n (omega arith) in
      let F : Fault whole text_tokens n ts r = (whole_at n).fault ts r (omega arith) e in
      record {
        front = F.front;
        cut = F.cut;
        begins = (F.more, F.by, F.done);
        stops = λ u more is b. go_on F.front u b ⊥ (λ y rest same.
            let m = n + length (text_tokens y) in
            let a = F.stays m (omega arith) u more rest is in
            let c = reads_text m y (omega arith) in
            let d : ◌≡◌ {A = Read Text} (Err (u ∷ rest)) (Ok (y, [])) = sym a ∙ ap (whole m) same ∙ c in cc);
        none = λ is x same.
            let len = ap length same in
            let c = reads_text n x (omega arith) in
            let d : ◌≡◌ {A = Read Text} (Err r) (Ok (x, [])) = sym e ∙ ap (whole n) same ∙ c in cc;
      }
