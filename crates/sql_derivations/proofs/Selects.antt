-- SELECT and its parts.
use Rattle.std.proofs.Common.{◌≡◌, ℕ, ◌≤◌, Bool, true, false, List, [], ◌∷◌, ◌++◌, refl, ap, ◌∙◌, ◌⊎◌, inl, inr, append_assoc, arith}
use Rattle.std.specs.Prelude.{◌||◌, not, codes, Option, Some, None, is_some, map}
use Rattle.std.specs.List.{flat_map}
use Rattle.sql_tokens.specs.declared.keyword.Keyword.{Keyword}
use Rattle.sql_tokens.specs.declared.keyword.Keyword.TheVariants as word
use Rattle.sql_tokens.specs.declared.sign.Sign.TheVariants as sign
use Rattle.sql_tokens.specs.declared.token.Token.{Token}
use Rattle.sql_tokens.specs.declared.token.Token.TheVariants as t
use Rattle.sql_tree.specs.Parts.{optional, listed, Spelled, name_tokens}
use Rattle.sql_tree.specs.Grammar as grammar
use Rattle.sql_tree.specs.Grammar.{Item, item_tokens, label_tokens, Items, items_tokens, Direction, direction_tokens, Key, key_tokens, Some1, order_tokens, Bound, where_tokens, Select}
use Rattle.sql_readers.specs.Readers.{Reader, begins, both, many, seen_as}
use Rattle.sql_readers.specs.Looks.{look_sign, is_sign, is_word}
use Rattle.sql_readers.specs.Productions as productions
use Rattle.sql_readers.specs.Productions.{name, bound, sign_reader, in_parens, clause, column_rest, seconds, label, item, items_of, items, direction_of, is_direction, direction, key, keys, where_clause, order_clause, select_of, select}
use Rattle.sql_derivations.proofs.Exactly.{At, seen_at}
use Rattle.sql_derivations.proofs.Looked.{word_at, sign_at, name_at, bound_at, look_sign_only}
use Rattle.sql_derivations.proofs.Sequences.{Apart, or_at, or_free, choice, apart_first, apart_second, ends_as, tokens_as, chain, behind_word, option_at, clause_at, in_parens_at, listed_at, many_next}
use Rattle.sql_derivations.proofs.Columns.{c0, s0, is_dot, rest_tokens, column_rest_at, column_written, parts_by, parts_back, column_at}
use Rattle.sql_derivations.proofs.Led.{led_at, call_only}
use Rattle.sql_derivations.proofs.Conds.{cond0, cond_goes_on, cond_at}

-- ---- what ends a statement: nothing, or a semicolon

abbrev pub Closed : List Token → Type 0
Closed rest = begins (λ x. not (is_sign sign.Semicolon x)) rest ≡ false

some_unit : (o : Option (Unit {0})) → is_some o ≡ true → o ≡ Some tt
some_unit None e = cc
some_unit (Some tt) e = refl

is_semicolon : (x : Token) (b : Bool) → is_sign sign.Semicolon x ≡ b → not b ≡ false → x ≡ t.Sign sign.Semicolon
is_semicolon x true e f = look_sign_only sign.Semicolon x tt (some_unit (look_sign sign.Semicolon x) e)
is_semicolon x false e f = cc

pub closed_apart : (p : Token → Bool) → p (t.Sign sign.Semicolon) ≡ false → (rest : List Token) → Closed rest → Apart p rest
closed_apart p e [] c = refl
closed_apart p e (x ∷ rest) c = ap p (is_semicolon x (is_sign sign.Semicolon x) refl c) ∙ e

pub optional_apart : {A : Type 0} (p : Token → Bool) (w : Keyword) (tok : A → List Token) (o : Option A) (rest : List Token) → p (t.Word w) ≡ false → Apart p rest → Apart p (optional (λ x. t.Word w ∷ tok x) o ++ rest)
optional_apart p w tok None rest e f = f
optional_apart p w tok (Some x) rest e f = e

pub joined_apart : (p : Token → Bool) (xs ys rest : List Token) → Apart p (xs ++ (ys ++ rest)) → Apart p ((xs ++ ys) ++ rest)
joined_apart p xs ys rest e = ap (begins p) (append_assoc xs ys rest) ∙ e

-- ---- items

abbrev pub item_goes_on : Token → Bool
item_goes_on x = is_dot x || is_word word.As x

abbrev pub items_goes_on : Token → Bool
items_goes_on x = (item_goes_on x || is_sign sign.Comma x) || is_sign sign.Open x

label_apart : (p : Token → Bool) (o : Option Spelled) (rest : List Token) → p (t.Word word.As) ≡ false → Apart p rest → Apart p (label_tokens o ++ rest)
label_apart p o rest e f = optional_apart p word.As name_tokens o rest e f

i0 : Item
i0 = record { column = c0; label = None }

abbrev others_tokens : List (Unit {0} × Item) → List Token
others_tokens more = flat_map (λ (y : Unit {0} × Item). t.Sign sign.Comma ∷ item_tokens y.1) more

abbrev first_tokens : Option Spelled × (Option Spelled × List (Unit {0} × Item)) → List Token
first_tokens x = rest_tokens x.0 ++ (label_tokens x.1.0 ++ others_tokens x.1.1)

others_apart : (p : Token → Bool) (more : List (Unit {0} × Item)) (rest : List Token) → p (t.Sign sign.Comma) ≡ false → Apart p rest → Apart p (others_tokens more ++ rest)
others_apart p [] rest e f = f
others_apart p (x ∷ more) rest e f = e

abbrev ItemsParts : Type 0
ItemsParts = Unit {0} ⊎ (Option Spelled ⊎ (Spelled × (Option Spelled × (Option Spelled × List (Unit {0} × Item)))))

abbrev items_split : Items → ItemsParts
items_split grammar.all = inl tt
items_split (grammar.count label) = inr (inl label)
items_split (grammar.columns i more) = let s = parts_by 0 0 i.column.qualifier i.column.column in inr (inr (s.0, (s.1, (i.label, map (λ x. (tt, x)) more))))

seconds_back : {A : Type 0} (xs : List A) → seconds (map (λ x. (tt, x)) xs) ≡ xs
seconds_back [] = refl
seconds_back (x ∷ xs) = ap (λ ys. x ∷ ys) (seconds_back xs)

items_back : (x : Items) → items_of (items_split x) ≡ x
items_back grammar.all = refl
items_back (grammar.count label) = refl
items_back (grammar.columns i more) = λ j. grammar.columns (record { column = parts_back 0 0 i.column.qualifier i.column.column j; label = i.label }) (seconds_back more j)

others_written : (more : List (Unit {0} × Item)) → flat_map (λ (b : Item). t.Sign sign.Comma ∷ item_tokens b) (seconds more) ≡ others_tokens more
others_written [] = refl
others_written (x ∷ more) = ap (λ w. (t.Sign sign.Comma ∷ item_tokens x.1) ++ w) (others_written more)

abbrev led_items_tokens : Option Spelled ⊎ (Spelled × (Option Spelled × (Option Spelled × List (Unit {0} × Item)))) → List Token
led_items_tokens = choice (λ label. t.Name (codes "count") false ∷ t.Sign sign.Open ∷ t.Sign sign.Star ∷ t.Sign sign.Close ∷ label_tokens label) (λ x. t.Name x.0.name x.0.quoted ∷ first_tokens x.1)

items_written : (x : ItemsParts) → items_tokens (items_of x) ≡ choice (λ u. t.Sign sign.Star ∷ []) led_items_tokens x
items_written (inl u) = refl
items_written (inr (inl label)) = refl
items_written (inr (inr x)) =
    (λ j. (column_written 0 0 x.0 x.1.0 j ++ label_tokens x.1.1.0) ++ others_written x.1.1.1 j)
    ∙ append_assoc (name_tokens x.0 ++ rest_tokens x.1.0) (label_tokens x.1.1.0) (others_tokens x.1.1.1)
    ∙ append_assoc (name_tokens x.0) (rest_tokens x.1.0) (label_tokens x.1.1.0 ++ others_tokens x.1.1.1)

module _ (n l : ℕ) where
  label_at : At label label_tokens (Apart (is_word word.As)) n l
  unfolding label
  label_at = ends_as (λ rest e. (tt, e)) (clause_at (name_at n l) s0 word.As)

  label_both : At label label_tokens (Apart item_goes_on) n l
  label_both = ends_as (λ rest e. apart_second is_dot (is_word word.As) rest e) label_at

  item_at : At item item_tokens (Apart item_goes_on) n l
  unfolding item
  item_at =
      seen_at (λ x. record { column = x.0; label = x.1 }) (λ (i : Item). (i.column, i.label)) _ _ item_tokens (Apart item_goes_on) n l
      (chain (column_at n l) label_both None (λ b rest e. label_apart is_dot b rest refl (apart_first is_dot (is_word word.As) rest e)))
      (λ b. refl) (λ a. refl)

  abbrev one_goes_on : Token → Bool
  one_goes_on x = item_goes_on x || is_sign sign.Comma x

  apart_item : (rest : List Token) → Apart items_goes_on rest → Apart item_goes_on rest
  apart_item rest e = apart_first item_goes_on (is_sign sign.Comma) rest (apart_first one_goes_on (is_sign sign.Open) rest e)

  apart_comma : (rest : List Token) → Apart items_goes_on rest → Apart (is_sign sign.Comma) rest
  apart_comma rest e = apart_second item_goes_on (is_sign sign.Comma) rest (apart_first one_goes_on (is_sign sign.Open) rest e)

  abbrev called_items : Reader (Option Spelled)
  called_items = seen_as (λ x. x.1) (both (in_parens (sign_reader sign.Star)) label)

  abbrev named_items : Reader (Option Spelled × (Option Spelled × List (Unit {0} × Item)))
  named_items = both column_rest (both label (many (is_sign sign.Comma) (both (sign_reader sign.Comma) item)))

  called_at : At called_items (λ label. t.Sign sign.Open ∷ t.Sign sign.Star ∷ t.Sign sign.Close ∷ label_tokens label) (Apart items_goes_on) n l
  called_at =
      ends_as (λ rest e. apart_second is_dot (is_word word.As) rest (apart_item rest e))
      (seen_at (λ x. x.1) (λ x. (tt, x)) _ _ (λ label. t.Sign sign.Open ∷ t.Sign sign.Star ∷ t.Sign sign.Close ∷ label_tokens label) (Apart (is_word word.As)) n l
      (chain (in_parens_at (sign_at n l sign.Star) tt (λ rest. tt)) label_at None (λ b rest e. tt)) (λ b. refl) (λ a. refl))

  first_apart : (p : Token → Bool) (x : Option Spelled × (Option Spelled × List (Unit {0} × Item))) (rest : List Token) → p (t.Sign sign.Dot) ≡ false → p (t.Word word.As) ≡ false → p (t.Sign sign.Comma) ≡ false → Apart p rest → Apart p (first_tokens x ++ rest)
  first_apart p (Some s, x) rest d a c e = d
  first_apart p (None, x) rest d a c e = joined_apart p (label_tokens x.0) (others_tokens x.1) rest (label_apart p x.0 (others_tokens x.1 ++ rest) a (others_apart p x.1 rest c e))

  named_at : l ≤ n → At named_items first_tokens (Apart items_goes_on) n l
  named_at low =
      ends_as (λ rest e. (apart_item rest e, apart_comma rest e))
      (chain (column_rest_at n l)
      (chain label_at (many_next item_at low i0 (look_sign sign.Comma) (t.Sign sign.Comma) refl (sign_at n l sign.Comma) (λ rest. refl)) []
      (λ b rest e. others_apart (is_word word.As) b rest refl (apart_second is_dot (is_word word.As) rest e.0)))
      (None, [])
      (λ b rest e. joined_apart is_dot (label_tokens b.0) (others_tokens b.1) rest
      (label_apart is_dot b.0 (others_tokens b.1 ++ rest) refl (others_apart is_dot b.1 rest refl (apart_first is_dot (is_word word.As) rest e.0)))))

  led_items_at : l ≤ n → At (productions.led (codes "count") called_items named_items) led_items_tokens (Apart items_goes_on) n l
  led_items_at low =
      ends_as (λ rest e. (e, e))
      (tokens_as led_items_tokens (elim [ inl x ↦ refl | inr x ↦ refl ])
      (led_at (codes "count") called_items named_items (λ label. t.Sign sign.Open ∷ t.Sign sign.Star ∷ t.Sign sign.Close ∷ label_tokens label) first_tokens (Apart items_goes_on) (Apart items_goes_on) n l
      called_at (named_at low) (None, (None, [])) refl (call_only (codes "count")) (λ a rest. refl)
      (λ b rest e. first_apart (is_sign sign.Open) b rest refl refl refl (apart_second one_goes_on (is_sign sign.Open) rest e))))

  items_at : l ≤ n → At items items_tokens (Apart items_goes_on) n l
  unfolding items
  items_at low =
      seen_at items_of items_split _ _ items_tokens (Apart items_goes_on) n l
      (ends_as (λ rest e. (tt, e)) (or_at (is_sign sign.Star) (sign_at n l sign.Star) (led_items_at low) (λ a rest. refl) (elim [ inl x ↦ λ rest e. refl | inr x ↦ λ rest e. refl ])))
      items_back items_written

-- ---- order

abbrev pub key_goes_on : Token → Bool
key_goes_on x = is_dot x || is_direction x

direction_apart : (p : Token → Bool) (d : Direction) (rest : List Token) → p (t.Word word.Asc) ≡ false → p (t.Word word.Desc) ≡ false → Apart p rest → Apart p (direction_tokens d ++ rest)
direction_apart p grammar.unsaid rest a d e = e
direction_apart p grammar.ascending rest a d e = a
direction_apart p grammar.descending rest a d e = d

abbrev direction_split : Direction → Option (Unit {0} ⊎ Unit {0})
direction_split grammar.unsaid = None
direction_split grammar.ascending = Some (inl tt)
direction_split grammar.descending = Some (inr tt)

direction_back : (d : Direction) → direction_of (direction_split d) ≡ d
direction_back grammar.unsaid = refl
direction_back grammar.ascending = refl
direction_back grammar.descending = refl

abbrev said : Unit {0} ⊎ Unit {0} → List Token
said = choice (λ u. t.Word word.Asc ∷ []) (λ u. t.Word word.Desc ∷ [])

direction_written : (x : Option (Unit {0} ⊎ Unit {0})) → direction_tokens (direction_of x) ≡ optional said x
direction_written None = refl
direction_written (Some (inl u)) = refl
direction_written (Some (inr u)) = refl

pub k0 : Key
k0 = record { column = c0; direction = grammar.unsaid }

abbrev pub keys_tokens : Some1 Key → List Token
keys_tokens o = t.Word word.By ∷ listed key_tokens o.first o.more

abbrev pub keys_go_on : Token → Bool
keys_go_on x = key_goes_on x || is_sign sign.Comma x

module _ (n l : ℕ) where
  direction_at : At direction direction_tokens (Apart is_direction) n l
  unfolding direction
  direction_at =
      seen_at direction_of direction_split _ _ direction_tokens (Apart is_direction) n l
      (ends_as (λ rest e. (tt, e))
      (option_at (or_free (is_word word.Asc) (word_at n l word.Asc) (word_at n l word.Desc) (λ a rest. refl) (λ b rest. refl)) is_direction (elim [ inl u ↦ λ rest. refl | inr u ↦ λ rest. refl ])))
      direction_back direction_written

  direction_both : At direction direction_tokens (Apart key_goes_on) n l
  direction_both = ends_as (λ rest e. apart_second is_dot is_direction rest e) direction_at

  key_at : At key key_tokens (Apart key_goes_on) n l
  unfolding key
  key_at =
      seen_at (λ x. record { column = x.0; direction = x.1 }) (λ (k : Key). (k.column, k.direction)) _ _ key_tokens (Apart key_goes_on) n l
      (chain (column_at n l) direction_both grammar.unsaid (λ b rest e. direction_apart is_dot b rest refl refl (apart_first is_dot is_direction rest e)))
      (λ b. refl) (λ a. refl)

  pub keys_at : l ≤ n → At keys keys_tokens (Apart keys_go_on) n l
  unfolding keys
  keys_at low =
      ends_as (λ rest e. (apart_first key_goes_on (is_sign sign.Comma) rest e, apart_second key_goes_on (is_sign sign.Comma) rest e))
      (behind_word (listed_at key_at low k0 (λ rest. refl)) (record { first = k0; more = [] }) word.By)

-- ---- the whole of it

abbrev bound_tokens : Keyword → Option Bound → List Token
bound_tokens w o = optional (λ (b : Bound). t.Word w ∷ t.Number b.number ∷ []) o

-- what stands behind the table, part by part
abbrev Late : Type 0
Late = Option Bound × Option Bound

abbrev late_tokens : Late → List Token
late_tokens x = bound_tokens word.Limit x.0 ++ bound_tokens word.Offset x.1

abbrev Later : Type 0
Later = Option (Some1 Key) × Late

abbrev order_part : Option (Some1 Key) → List Token
order_part o = optional (λ (k : Some1 Key). t.Word word.Order ∷ keys_tokens k) o

abbrev later_tokens : Later → List Token
later_tokens x = order_part x.0 ++ late_tokens x.1

abbrev pub select_tokens : Select → List Token
select_tokens q =
    items_tokens q.items ++ t.Word word.From ∷ (name_tokens q.table ++ (where_tokens q.cond ++ (optional order_tokens q.order
    ++ (optional (λ (b : Bound). t.Word word.Limit ∷ t.Number b.number ∷ []) q.limit ++ optional (λ (b : Bound). t.Word word.Offset ∷ t.Number b.number ∷ []) q.offset))))

offset_apart : (p : Token → Bool) (o : Option Bound) (rest : List Token) → p (t.Word word.Offset) ≡ false → p (t.Sign sign.Semicolon) ≡ false → Closed rest → Apart p (bound_tokens word.Offset o ++ rest)
offset_apart p o rest e f c = optional_apart p word.Offset (λ (b : Bound). t.Number b.number ∷ []) o rest e (closed_apart p f rest c)

late_apart : (p : Token → Bool) (x : Late) (rest : List Token) → p (t.Word word.Limit) ≡ false → p (t.Word word.Offset) ≡ false → p (t.Sign sign.Semicolon) ≡ false → Closed rest → Apart p (late_tokens x ++ rest)
late_apart p x rest d e f c =
    joined_apart p (bound_tokens word.Limit x.0) (bound_tokens word.Offset x.1) rest
    (optional_apart p word.Limit (λ (b : Bound). t.Number b.number ∷ []) x.0 (bound_tokens word.Offset x.1 ++ rest) d (offset_apart p x.1 rest e f c))

later_apart : (p : Token → Bool) (x : Later) (rest : List Token) → p (t.Word word.Order) ≡ false → p (t.Word word.Limit) ≡ false → p (t.Word word.Offset) ≡ false → p (t.Sign sign.Semicolon) ≡ false → Closed rest → Apart p (later_tokens x ++ rest)
later_apart p x rest o d e f c =
    joined_apart p (order_part x.0) (late_tokens x.1) rest
    (optional_apart p word.Order keys_tokens x.0 (late_tokens x.1 ++ rest) o (late_apart p x.1 rest d e f c))

x0 : Bound
x0 = record { number = 0; below = omega arith }

module _ (n l : ℕ) where
  late_at : At (both (clause word.Limit bound) (clause word.Offset bound)) late_tokens Closed n l
  late_at =
      ends_as (λ rest c. c)
      (chain (clause_at (bound_at n l) x0 word.Limit) (ends_as (λ rest c. (tt, closed_apart (is_word word.Offset) refl rest c)) (clause_at (bound_at n l) x0 word.Offset)) None
      (λ b rest c. (tt, offset_apart (is_word word.Limit) b rest refl refl c)))

  keys0 : Some1 Key
  keys0 = record { first = k0; more = [] }

  order_at : l ≤ n → At order_clause order_part (λ rest. Apart keys_go_on rest × Apart (is_word word.Order) rest) n l
  unfolding order_clause
  order_at low = clause_at (keys_at n l low) keys0 word.Order

  later_at : l ≤ n → At (both order_clause (both (clause word.Limit bound) (clause word.Offset bound))) later_tokens Closed n l
  later_at low =
      chain (order_at low) late_at (None, None)
      (λ b rest c. (late_apart keys_go_on b rest refl refl refl c, late_apart (is_word word.Order) b rest refl refl refl c))

module _ (n : ℕ) where
  where_at : At where_clause where_tokens (λ rest. Apart cond_goes_on rest × Apart (is_word word.Where) rest) n n
  unfolding where_clause
  where_at = clause_at (cond_at n) cond0 word.Where

  -- where no more of the statement follows
  pub where_closed : At where_clause where_tokens Closed n n
  where_closed = ends_as (λ rest c. (closed_apart cond_goes_on refl rest c, closed_apart (is_word word.Where) refl rest c)) where_at

  pub select_at : At select select_tokens Closed n n
  unfolding select
  select_at =
      seen_at select_of (λ (q : Select). (q.items, (q.table, (q.cond, (q.order, (q.limit, q.offset)))))) _ _ select_tokens Closed n n
      (chain (items_at n n (omega arith))
      (chain (behind_word (name_at n n) s0 word.From)
      (chain where_at (later_at n n (omega arith)) (None, (None, None))
      (λ b rest c. (later_apart cond_goes_on b rest refl refl refl refl c, later_apart (is_word word.Where) b rest refl refl refl refl c)))
      (None, (None, (None, None))) (λ b rest c. tt))
      (s0, (None, (None, (None, None)))) (λ b rest c. refl))
      (λ b. refl) (λ a. refl)
