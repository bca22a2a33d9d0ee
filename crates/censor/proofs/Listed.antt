-- Entries and handlers, put one behind the other.
use Rattle.std.proofs.Common.{◌≡◌, ℕ, ◌+◌, ◌<◌, List, [], ◌∷◌, ◌++◌, map, drop, length, get_or, append_assoc, append-nil, refl, sym, ap, ◌∙◌, subst}
use Rattle.std.specs.Prelude.{codes, ◌≤◌, Result, Ok, Err}
use Rattle.sql_tree.specs.declared.statement.Statement.{Statement}
use Rattle.sql_outcomes.specs.declared.refusal.SqlRefusal.{SqlRefusal}
use Rattle.sql_outcomes.specs.declared.refusal.ParseFault.{ParseFault}
use Rattle.sql_outcomes.specs.declared.refusal.ParseFault.TheVariants as fault
use Rattle.sql_outcomes.specs.Outcome.{Tells}
use Rattle.std.proofs.lemmas.List.{drop_more, drop_all}
use Rattle.serde_json.specs.Data.{Data}
use Rattle.json_rules.specs.Members.{items_at}
use Rattle.censor.specs.declared.handler.Entry.{Entry}
use Rattle.censor.specs.declared.entries.List as lists
use Rattle.censor.specs.declared.entries.List.TheVariants as list
use Rattle.censor.specs.Settings.{AreAll, AreEntries, Puts}

module _ {A B : Type 0} (R : A → B → Type 0) where
  -- whatever matches the items that are left, what stands and it match all, behind what stood before
  abbrev pub Continues : List A → (old now : List B) → List A → Type 0
  Continues items old now left = (rest : List B) → AreAll R left rest → (more : List B) × (now ++ rest ≡ old ++ more) × AreAll R items more

  pub start : (items : List A) (old : List B) → Continues items old old items
  start items old = λ rest h. (rest, refl, h)

  pub one_more : (items : List A) (old now then : List B) (x : A) (left : List A) (y : B) → Continues items old now (x ∷ left) → then ≡ now ++ y ∷ [] → R x y → Continues items old then left
  one_more items old now then x left y go pushed r = λ rest h.
      let all = go (y ∷ rest) (r, h) in
      (all.0, ap (λ (ys : List B). ys ++ rest) pushed ∙ append_assoc now (y ∷ []) rest ∙ all.1, all.2)

  pub finish : (items : List A) (old now : List B) → Continues items old now [] → (more : List B) × (now ≡ old ++ more) × AreAll R items more
  finish items old now go = let all = go [] tt in (all.0, sym (append-nil now) ∙ all.1, all.2)

  module _ {C : Type 0} (f : C → A) (cs : List C) (i : ℕ) where
    pub one_item : (items : List A) (old now then : List B) (c : C) → i < length cs → c ≡ get_or cs i c → Continues items old now (map f (drop i cs))
        → (y : B) × (then ≡ now ++ y ∷ []) × R (f c) y → Continues items old then (map f (drop (i + 1) cs))
    one_item items old now then c low is go (y, pushed, r) =
        let left : drop i cs ≡ c ∷ drop (i + 1) cs = drop_more cs i c low ∙ ap (λ d. d ∷ drop (i + 1) cs) (sym is) in
        one_more items old now then (f c) (map f (drop (i + 1) cs)) y (subst (λ ds. Continues items old now (map f ds)) left go) pushed r

    pub all_items : (items : List A) (old now : List B) → length cs ≤ i → Continues items old now (map f (drop i cs)) → (more : List B) × (now ≡ old ++ more) × AreAll R items more
    all_items items old now past go = finish items old now (subst (λ ds. Continues items old now (map f ds)) (drop_all i cs past) go)

-- what stands behind nothing is all
pub from_none : {A B : Type 0} (R : A → B → Type 0) (items : List A) (now : List B) → (more : List B) × (now ≡ [] ++ more) × AreAll R items more → AreAll R items now
from_none R items now (more, same, h) = subst (AreAll R items) (sym same) h

-- a refusal tells no statement
pub not_told : (result : Result Statement ParseFault) (tree : Statement) (f : ParseFault) (r : SqlRefusal) → result ≡ Err f → f ≡ fault.Refused r → Tells result (Ok tree) → ⊥
not_told result tree f r is refused told = let both : Ok tree ≡ Err r = subst (λ x. Tells x (Ok tree)) (is ∙ ap Err refused) told in cc

-- the entries of three lists, put one behind the other
pub three_lists : (d : Data) (one two three : List Entry) → Puts list.Queries (items_at (codes "queries") d) [] one → Puts list.Tables (items_at (codes "tables") d) one two
    → Puts list.Patterns (items_at (codes "patterns") d) two three → AreEntries d three
three_lists d one two three a b c = record {
  queries = a.more;
  tables = b.more;
  patterns = c.more;
  whole = c.behind ∙ ap (λ (xs : List Entry). xs ++ c.more) (b.behind ∙ ap (λ (xs : List Entry). xs ++ b.more) a.behind) ∙ append_assoc a.more b.more c.more;
  are_queries = a.are;
  are_tables = b.are;
  are_patterns = c.are;
}

-- the same, where the items and those that stood are shown otherwise
pub shown_as : (of : lists.List) (items shown : List Data) (old before now : List Entry) → Puts of shown before now → shown ≡ items → before ≡ old → Puts of items old now
shown_as of items shown old before now h same stood = subst (λ xs. Puts of items xs now) stood (subst (λ ds. Puts of ds before now) same h)
