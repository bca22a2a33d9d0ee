-- Directions and labels, by the words that come.
use Rattle.std.proofs.Common.{◌≡◌, ℕ, Bool, true, false, List, [], ◌∷◌, ◌++◌, refl, sym, ap, ◌∙◌, subst, inr, map}
use Rattle.std.specs.Prelude.{Option, Some, None, Ok}
use Rattle.sql_tokens.specs.declared.token.Token.{Token}
use Rattle.sql_tokens.specs.declared.keyword.Keyword.TheVariants as word
use Rattle.sql_tree.specs.declared.statement.Items.TheVariants as items
use Rattle.sql_tree.specs.Parts.{Spelled}
use Rattle.sql_tree.specs.Grammar as grammar
use Rattle.sql_tree.specs.Grammar.{Item, items_tree, label_name, item_tree}
use Rattle.sql_tree.specs.declared.statement.Item as trees_item
use Rattle.sql_reading.specs.Cursor.{last_of}
use Rattle.sql_readers.specs.Readers.{begins}
use Rattle.sql_readers.specs.Looks.{is_word}
use Rattle.sql_readers.specs.Productions.{word_reader, direction, direction_of, is_direction, items_of, seconds}
use Rattle.sql_readers.specs.Reads.{Reads}
use Rattle.sql_tree.specs.declared.statement.Statement.TheVariants as statement
use Rattle.sql_tree.specs.Grammar.{Body}
use Rattle.sql_reading.specs.Made.{reading}
use Rattle.sql_reading.specs.Clauses.{Columns, columns_tree, body_reading}
use Rattle.sql_readers.proofs.Branches.{if_true, if_false}
use Rattle.sql_reading.proofs.Steps.{seen_ok, some_ok, none_left, left_ok, right_ok}
use Rattle.sql_reading.proofs.Named.{last_is}

asc_begins : (ts : List Token) → true ≡ begins (is_word word.Asc) ts → true ≡ begins is_direction ts
asc_begins [] e = cc
asc_begins (t ∷ ts) e = sym (if_true (is_word word.Asc t) true (is_word word.Desc t) (sym e))

not_asc_begins : (b : Bool) (ts : List Token) → false ≡ begins (is_word word.Asc) ts → b ≡ begins (is_word word.Desc) ts → b ≡ begins is_direction ts
not_asc_begins b [] e f = f
not_asc_begins b (t ∷ ts) e f = f ∙ sym (if_false (is_word word.Asc t) true (is_word word.Desc t) (sym e))

pub asc_read : (old new : List Token) → Reads (word_reader word.Asc) old (Ok (tt, new)) → true ≡ begins (is_word word.Asc) old → Reads direction old (Ok (grammar.ascending, new))
unfolding direction
asc_read old new h e = seen_ok direction_of (some_ok _ (asc_begins old e) (left_ok _ _ e h))

desc_at : (old new : List Token) → false ≡ begins (is_word word.Asc) old → Reads (word_reader word.Desc) old (Ok (tt, new)) → true ≡ begins (is_word word.Desc) old → Reads direction old (Ok (grammar.descending, new))
unfolding direction
desc_at old new n h e = seen_ok direction_of (some_ok _ (not_asc_begins true old n e) (right_ok _ _ n h))

pub desc_read : (old mid new : List Token) → mid ≡ old → false ≡ begins (is_word word.Asc) old → Reads (word_reader word.Desc) mid (Ok (tt, new)) → true ≡ begins (is_word word.Desc) mid → Reads direction old (Ok (grammar.descending, new))
desc_read old mid new is n h e =
    desc_at old new n (subst (λ (ts : List Token). Reads (word_reader word.Desc) ts (Ok (tt, new))) is h) (subst (λ (ts : List Token). true ≡ begins (is_word word.Desc) ts) is e)

pub unsaid_read : (old mid new : List Token) → mid ≡ old → false ≡ begins (is_word word.Asc) old → new ≡ mid → false ≡ begins (is_word word.Desc) mid → Reads direction old (Ok (grammar.unsaid, new))
unfolding direction
unsaid_read old mid new is n same e =
    seen_ok direction_of (none_left _ _ _ _ (same ∙ is) (not_asc_begins false old n (subst (λ (ts : List Token). false ≡ begins (is_word word.Desc) ts) is e)))

pub columns_is : (s : Spelled) (first : List ℕ) → first ≡ s.name → (x : Columns) → columns_tree first x ≡ items_tree (items_of (inr (inr (s, x))))
columns_is s first e x = ap (λ (n : List ℕ). items.Columns (record { column = n; label = label_name x.1.0 } ∷ map item_tree (seconds x.1.1))) (last_is s x.0 first e)

-- a list of items whose first begins with a name
pub listing_columns : (first name : List ℕ) (rest : Option Spelled) (label : Option (List ℕ)) (said : Option Spelled) (none had so_far : List trees_item.Item) (more : List (Unit {0} × Item)) → name ≡ last_of first rest → label ≡ label_name said
    → none ≡ [] → had ≡ none ++ record { column = name; label = label } ∷ [] → so_far ≡ had ++ map item_tree (seconds more) → items.Columns so_far ≡ columns_tree first (rest, (said, more))
listing_columns first name rest label said none had so_far more same labelled empty is whole =
    ap items.Columns (whole ∙ (λ i. (is ∙ (λ j. empty j ++ record { column = same j; label = labelled j } ∷ [])) i ++ map item_tree (seconds more)))

pub body_is : (b : Option Body) → body_reading b ≡ elim b [ None ↦ record { statement = statement.Empty; deepest = 0 } | Some c ↦ reading c ]
body_is None = refl
body_is (Some b) = refl
