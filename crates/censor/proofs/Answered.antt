-- A text of settings has one answer.
use Rattle.std.proofs.Common.{◌≡◌, ℕ, List, [], ◌∷◌, ◌++◌, refl, sym, ap, ◌∙◌, subst}
use Rattle.std.specs.Prelude.{Option, Some, None, Ok}
use Rattle.std.proofs.Math.Nat.{ℕ_set}
use Rattle.std.proofs.Math.Path.{PathP, to_path_p}
use Rattle.sql_patterns.specs.Fingerprints.{fingerprint}
use Rattle.serde_json.specs.Data.{Data}
use Rattle.serde_json.specs.Find.{as_str}
use Rattle.json_rules.specs.Places.{IsLeast}
use Rattle.json_rules.specs.declared.place.Place.{Place}
use Rattle.json_rules.proofs.Ordered.{same_rule, same_place, not_both}
use Rattle.sql_tree.specs.declared.statement.Statement.{Statement}
use Rattle.sql_outcomes.specs.Outcome.{IsOutcome}
use Rattle.sql_derivations.proofs.Outcomes.{one_outcome}
use Rattle.sql_patterns.specs.declared.prints.Query.{Query}
use Rattle.sql_patterns.proofs.Read.{one_pattern}
use Rattle.censor.specs.declared.handler.Entry.{Entry}
use Rattle.censor.specs.declared.handler.Entry.TheVariants as entry
use Rattle.censor.specs.declared.handler.Handler.{Handler}
use Rattle.censor.specs.declared.entries.List as lists
use Rattle.censor.specs.declared.entries.List.TheVariants as list
use Rattle.censor.specs.declared.read.CensorRefusal.{CensorRefusal}
use Rattle.censor.specs.Settings.{AreAll, AreEntries, IsQuery, IsPatternEntry, IsText, IsEntry, IsHandler, AreHandlers}
use Rattle.censor.specs.Rules.{breaks}
use Rattle.censor.specs.Reads.{no_handlers, HasHandlers, IsCensor, IsBroken, IsRefusal, refusal_at}

all_same : {A B : Type 0} (R : A → B → Type 0) → ((x : A) (y z : B) → R x y → R x z → y ≡ z) → (xs : List A) (ys zs : List B) → AreAll R xs ys → AreAll R xs zs → ys ≡ zs
all_same R one [] [] [] h k = refl
all_same R one [] [] (z ∷ zs) h k = absurd k
all_same R one [] (y ∷ ys) zs h k = absurd h
all_same R one (x ∷ xs) [] zs h k = absurd h
all_same R one (x ∷ xs) (y ∷ ys) [] h k = absurd k
all_same R one (x ∷ xs) (y ∷ ys) (z ∷ zs) h k = λ i. one x y z h.0 k.0 i ∷ all_same R one xs ys zs h.1 k.1 i

-- ---- entries

-- a query is its tree, since it has that one's fingerprint
one_query : (x y : Query) → x.tree ≡ y.tree → x ≡ y
one_query x y e =
    let p : x.print ≡ y.print = x.is ∙ ap fingerprint e ∙ sym y.is in
    let told : PathP (λ i. p i ≡ fingerprint (e i)) x.is y.is = to_path_p (λ i. p i ≡ fingerprint (e i)) (ℕ_set _ _ _ y.is) in
    λ i. record { tree = e i; print = p i; is = told i }

module _ (text : List ℕ) where
  same_tree : (a b : Statement) → IsOutcome text 1048576 (Ok a) → IsOutcome text 1048576 (Ok b) → a ≡ b
  same_tree a b h k = let both : Ok a ≡ Ok b = one_outcome text 1048576 (Ok a) (Ok b) h k in cc

  same_query : (a b : Entry) → IsQuery text a → IsQuery text b → a ≡ b
  same_query (entry.Query q) (entry.Query r) h k = ap entry.Query (one_query q r (same_tree q.tree r.tree h k))
  same_query (entry.Query q) entry.Unread h k = absurd (k q.tree h)
  same_query (entry.Query q) entry.NoText h k = absurd k
  same_query (entry.Query q) (entry.Table t) h k = absurd k
  same_query (entry.Query q) (entry.Pattern p) h k = absurd k
  same_query entry.Unread (entry.Query q) h k = absurd (h q.tree k)
  same_query entry.Unread entry.Unread h k = refl
  same_query entry.Unread entry.NoText h k = absurd k
  same_query entry.Unread (entry.Table t) h k = absurd k
  same_query entry.Unread (entry.Pattern p) h k = absurd k
  same_query entry.NoText b h k = absurd h
  same_query (entry.Table t) b h k = absurd h
  same_query (entry.Pattern p) b h k = absurd h

  same_pattern : (a b : Entry) → IsPatternEntry text a → IsPatternEntry text b → a ≡ b
  same_pattern (entry.Pattern p) (entry.Pattern q) h k = λ i. entry.Pattern (record { tree = one_pattern text p.tree q.tree h k i })
  same_pattern (entry.Pattern p) entry.Unread h k = absurd (k p.tree h)
  same_pattern (entry.Pattern p) entry.NoText h k = absurd k
  same_pattern (entry.Pattern p) (entry.Table t) h k = absurd k
  same_pattern (entry.Pattern p) (entry.Query q) h k = absurd k
  same_pattern entry.Unread (entry.Pattern p) h k = absurd (h p.tree k)
  same_pattern entry.Unread entry.Unread h k = refl
  same_pattern entry.Unread entry.NoText h k = absurd k
  same_pattern entry.Unread (entry.Table t) h k = absurd k
  same_pattern entry.Unread (entry.Query q) h k = absurd k
  same_pattern entry.NoText b h k = absurd h
  same_pattern (entry.Table t) b h k = absurd h
  same_pattern (entry.Query q) b h k = absurd h

  same_text : (of : lists.List) (a b : Entry) → IsText of text a → IsText of text b → a ≡ b
  same_text list.Queries a b h k = same_query a b h k
  same_text list.Tables a b h k = h ∙ sym k
  same_text list.Patterns a b h k = same_pattern a b h k

abbrev Says : lists.List → Option (List ℕ) → Entry → Type 0
Says of o e = elim o [ None ↦ e ≡ entry.NoText | Some text ↦ IsText of text e ]

same_said : (of : lists.List) (o : Option (List ℕ)) (a b : Entry) → Says of o a → Says of o b → a ≡ b
same_said of None a b h k = h ∙ sym k
same_said of (Some text) a b h k = same_text text of a b h k

same_entry : (of : lists.List) (d : Data) (a b : Entry) → IsEntry of d a → IsEntry of d b → a ≡ b
same_entry of d a b h k = same_said of (as_str d) a b h k

same_list : (of : lists.List) (items : List Data) (xs ys : List Entry) → AreAll (IsEntry of) items xs → AreAll (IsEntry of) items ys → xs ≡ ys
same_list of items xs ys h k = all_same (IsEntry of) (same_entry of) items xs ys h k

same_entries : (d : Data) (xs ys : List Entry) → AreEntries d xs → AreEntries d ys → xs ≡ ys
same_entries d xs ys h k =
    let a = same_list list.Queries _ h.queries k.queries h.are_queries k.are_queries in
    let b = same_list list.Tables _ h.tables k.tables h.are_tables k.are_tables in
    let c = same_list list.Patterns _ h.patterns k.patterns h.are_patterns k.are_patterns in
    h.whole ∙ (λ i. a i ++ (b i ++ c i)) ∙ sym k.whole

-- ---- handlers

same_handler : (d : Data) (a b : Handler) → IsHandler d a → IsHandler d b → a ≡ b
same_handler d a b h k = λ i. record {
  is_well_typed = (h.typed ∙ sym k.typed) i;
  word = (h.word ∙ sym k.word) i;
  has_lists = (h.lists ∙ sym k.lists) i;
  queries = (h.queries ∙ sym k.queries) i;
  tables = (h.tables ∙ sym k.tables) i;
  entries = same_entries d a.entries b.entries h.entries k.entries i;
}

same_handlers : (ds : List Data) (a b : List Handler) → AreHandlers ds a → AreHandlers ds b → a ≡ b
same_handlers ds a b h k = all_same IsHandler same_handler ds a b h k

module _ (text : List ℕ) where
  same_some : (a b : List Handler) → HasHandlers text (Some a) → HasHandlers text (Some b) → a ≡ b
  same_some a b (ds, is, h) (es, also, k) =
      let both : Some ds ≡ Some es = sym is ∙ also in
      let same : ds ≡ es = cc in
      same_handlers es a b (subst (λ xs. AreHandlers xs a) same h) k

  not_none : {P : Type 0} (a : List Handler) → HasHandlers text (Some a) → HasHandlers text None → P
  not_none a (ds, is, h) none = let both : Some ds ≡ None = sym is ∙ none in cc

  pub one_censor : (a b : List Handler) → IsCensor text a → IsCensor text b → a ≡ b
  one_censor a b h k = same_some a b h.has k.has

  -- the numbers of a refusal are those of its rule and place
  same_refusal : (broken : ℕ → Place → _) (a b : CensorRefusal) (p q : Place) → IsLeast broken a.rule p → IsLeast broken b.rule q → a ≡ refusal_at a.rule p → b ≡ refusal_at b.rule q → a ≡ b
  same_refusal broken a b p q h k is also =
      let rule = same_rule broken a.rule b.rule p q h k in
      let place = same_place broken a.rule b.rule p q h k in
      is ∙ (λ i. refusal_at (rule i) (place i)) ∙ sym also

  by_handlers : (a b : CensorRefusal) (p q : Place) → IsBroken text a.rule p → IsBroken text b.rule q → a ≡ refusal_at a.rule p → b ≡ refusal_at b.rule q → a ≡ b
  by_handlers a b p q (None, h, least) (None, k, other) is also = same_refusal no_handlers a b p q least other is also
  by_handlers a b p q (None, h, least) (Some ks, k, other) is also = not_none ks k h
  by_handlers a b p q (Some hs, h, least) (None, k, other) is also = not_none hs h k
  by_handlers a b p q (Some hs, h, least) (Some ks, k, other) is also =
      same_refusal (breaks ks) a b p q (subst (λ xs. IsLeast (breaks xs) a.rule p) (same_some hs ks h k) least) other is also

  pub one_refusal : (a b : CensorRefusal) → IsRefusal text a → IsRefusal text b → a ≡ b
  one_refusal a b h k = by_handlers a b h.at k.at h.least k.least h.numbers k.numbers

  not_broken : (a : List Handler) → IsCensor text a → (rule : ℕ) (at : Place) → IsBroken text rule at → ⊥
  not_broken a h rule at (None, k, least) = not_none a h.has k
  not_broken a h rule at (Some hs, k, least) = not_both (breaks a) rule at (subst (λ xs. IsLeast (breaks xs) rule at) (same_some hs a k h.has) least) h.unbroken

  pub no_refusal : (a : List Handler) (b : CensorRefusal) → IsCensor text a → IsRefusal text b → ⊥
  no_refusal a b h k = not_broken a h b.rule k.at k.least
