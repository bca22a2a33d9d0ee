-- A reader for each production of the grammar, by the tokens that come next.
use Rattle.std.specs.Prelude.{ℕ, zero, suc, Bool, true, false, ◌&&◌, if◌then◌else◌, List, [], ◌∷◌, map, codes, Option, Some, None, is_some, Result, Ok, Err}
use Rattle.std.proofs.Common.{◌⊎◌, inl, inr}
use Rattle.sql_tokens.specs.declared.keyword.Keyword.{Keyword}
use Rattle.sql_tokens.specs.declared.keyword.Keyword.TheVariants as word
use Rattle.sql_tokens.specs.declared.sign.Sign.{Sign}
use Rattle.sql_tokens.specs.declared.sign.Sign.TheVariants as sign
use Rattle.sql_tokens.specs.declared.token.Token.{Token}
use Rattle.sql_tokens.specs.declared.token.Token.TheVariants as t
use Rattle.sql_tree.specs.declared.condition.Op.{Op}
use Rattle.sql_tree.specs.Parts as parts
use Rattle.sql_tree.specs.Parts.{Spelled, Column, Value, Left}
use Rattle.sql_tree.specs.Conditions as conditions
use Rattle.sql_tree.specs.Conditions.{Side, Test, Cond, Conj, Neg}
use Rattle.sql_tree.specs.Grammar as grammar
use Rattle.sql_tree.specs.Grammar.{Item, Items, Direction, Key, Some1, Bound, Pair, Setting, Select, Body, Text}
use Rattle.sql_readers.specs.Readers.{Read, Reader, after, begins, one, both, either, optionally, many, seen_as, parted, before}
use Rattle.sql_readers.specs.Looks.{look_word, look_sign, look_name, look_text, look_number, look_parameter, look_exactly, look_bound, look_op, is_word, is_sign, is_name, is_op, is_call}

-- ---- one token

abbrev pub word_reader : Keyword → Reader (Unit {0})
word_reader w = one (look_word w)

abbrev pub sign_reader : Sign → Reader (Unit {0})
sign_reader s = one (look_sign s)

abbrev pub name : Reader Spelled
name = one look_name

abbrev pub text : Reader (List ℕ)
text = one look_text

abbrev pub number : Reader ℕ
number = one look_number

abbrev pub parameter : Reader ℕ
parameter = one look_parameter

abbrev pub exactly : ℕ → Reader (Unit {0})
exactly k = one (look_exactly k)

abbrev pub bound : Reader Bound
bound = one look_bound

abbrev pub op : Reader Op
op = one look_op

-- ---- lists

abbrev pub seconds : {A : Type 0} → List (Unit {0} × A) → List A
seconds all = map (λ x. x.1) all

abbrev pub some_of : {A : Type 0} → A × List (Unit {0} × A) → Some1 A
some_of x = record { first = x.0; more = seconds x.1 }

-- parts with a comma between two
abbrev pub listed : {A : Type 0} → Reader A → Reader (Some1 A)
listed p = seen_as some_of (parted (is_sign sign.Comma) (sign_reader sign.Comma) p)

abbrev pub in_parens : {A : Type 0} → Reader A → Reader A
in_parens p = seen_as (λ x. x.1.0) (both (sign_reader sign.Open) (both p (sign_reader sign.Close)))

-- a part behind a word
abbrev pub behind : {A : Type 0} → Keyword → Reader A → Reader A
behind w p = seen_as (λ x. x.1) (both (word_reader w) p)

-- which is there where the word is
abbrev pub clause : {A : Type 0} → Keyword → Reader A → Reader (Option A)
clause w p = optionally (is_word w) (behind w p)

-- ---- columns and values

-- a name, and then by whether it is the word of a call
abbrev pub led : {A B : Type 0} → List ℕ → Reader A → Reader B → Reader (A ⊎ (Spelled × B))
led call p q n ts =
    after (λ s r. if is_call call s && begins (is_sign sign.Open) r then after (λ a u. Ok (inl a, u)) (p n r) else after (λ b u. Ok (inr (s, b), u)) (q n r)) (name n ts)

unfoldable pub column_rest : Reader (Option Spelled)
column_rest = optionally (is_sign sign.Dot) (seen_as (λ x. x.1) (both (sign_reader sign.Dot) name))

-- of two names the first is the table's
abbrev pub column_of : Spelled × Option Spelled → Column
column_of (s, None) = record { qualifier = None; column = s }
column_of (s, Some n) = record { qualifier = Some s; column = n }

unfoldable pub column : Reader Column
column = seen_as column_of (both name column_rest)

abbrev pub signed_of : (Unit {0} × ℕ) ⊎ ((Unit {0} × ℕ) ⊎ (Unit {0} ⊎ ℕ)) → Value
signed_of (inl x) = parts.plus x.1
signed_of (inr (inl x)) = parts.minus x.1
signed_of (inr (inr (inl x))) = parts.null
signed_of (inr (inr (inr n))) = parts.parameter n

abbrev pub value_of : List ℕ ⊎ (ℕ ⊎ ((Unit {0} × ℕ) ⊎ ((Unit {0} × ℕ) ⊎ (Unit {0} ⊎ ℕ)))) → Value
value_of (inl s) = parts.text s
value_of (inr (inl n)) = parts.number n
value_of (inr (inr x)) = signed_of x

unfoldable pub value : Reader Value
value =
    seen_as value_of
    (either (λ t. is_some (look_text t)) text
    (either (λ t. is_some (look_number t)) number
    (either (is_sign sign.Plus) (both (sign_reader sign.Plus) number)
    (either (is_sign sign.Minus) (both (sign_reader sign.Minus) number)
    (either (is_word word.Null) (word_reader word.Null) parameter)))))

unfoldable pub values : Reader (Some1 Value)
values = in_parens (listed value)

-- "(" column "," 1 "," 33 ")"
unfoldable pub substr_rest : Reader Column
substr_rest =
    in_parens (seen_as (λ x. x.0)
    (both column (both (sign_reader sign.Comma) (both (exactly 1) (both (sign_reader sign.Comma) (exactly 33))))))

abbrev pub left_of : Column ⊎ (Spelled × Option Spelled) → Left
left_of (inl c) = parts.substr c
left_of (inr x) = parts.column (column_of x)

unfoldable pub left : Reader Left
left = seen_as left_of (led (codes "substr") substr_rest column_rest)

-- ---- tests

abbrev pub side_of : Left ⊎ Value → Side
side_of (inl l) = conditions.left l
side_of (inr v) = conditions.value v

unfoldable pub side : Reader Side
side = seen_as side_of (either is_name left value)

abbrev pub bool_of : Option (Unit {0}) → Bool
bool_of None = false
bool_of (Some x) = true

unfoldable pub negated : Reader Bool
negated = seen_as bool_of (optionally (is_word word.Not) (word_reader word.Not))

-- what comes behind a left side
unfoldable pub tail : Reader ((Op × Side) ⊎ (Bool × Some1 Value))
tail = either is_op (both op side) (both negated (behind word.In values))

-- and behind a column
unfoldable pub column_tail : Reader (Bool ⊎ ((Op × Side) ⊎ (Bool × Some1 Value)))
column_tail = either (is_word word.Is) (behind word.Is (seen_as (λ x. x.0) (both negated (word_reader word.Null)))) tail

abbrev pub tailed : Left → (Op × Side) ⊎ (Bool × Some1 Value) → Test
tailed l (inl x) = conditions.compare l x.0 x.1
tailed l (inr x) = conditions.within l x.0 x.1.first x.1.more

abbrev pub column_tailed : Column → Bool ⊎ ((Op × Side) ⊎ (Bool × Some1 Value)) → Test
column_tailed c (inl n) = conditions.null c n
column_tailed c (inr x) = tailed (parts.column c) x

abbrev pub led_of : (Column × ((Op × Side) ⊎ (Bool × Some1 Value))) ⊎ (Spelled × (Option Spelled × (Bool ⊎ ((Op × Side) ⊎ (Bool × Some1 Value))))) → Test
led_of (inl x) = tailed (parts.substr x.0) x.1
led_of (inr x) = column_tailed (column_of (x.0, x.1.0)) x.1.1

-- a test that begins with a column
unfoldable pub led_test : Reader Test
led_test = seen_as led_of (led (codes "substr") (both substr_rest tail) (both column_rest column_tail))

-- a test that begins with a value
unfoldable pub flipped_test : Reader Test
flipped_test = seen_as (λ x. conditions.flipped x.0 x.1.0 x.1.1) (both value (both op left))

abbrev pub same_of : Test ⊎ Test → Test
same_of (inl x) = x
same_of (inr x) = x

unfoldable pub test : Reader Test
test = seen_as same_of (either is_name led_test flipped_test)

-- ---- conditions

abbrev pub conj_of : Neg → List (Unit {0} × Neg) → Conj
conj_of n [] = conditions.single n
conj_of n (x ∷ more) = conditions.and n (conj_of x.1 more)

abbrev pub conj : Reader Neg → Reader Conj
conj p = seen_as (λ x. conj_of x.0 x.1) (parted (is_word word.And) (word_reader word.And) p)

abbrev pub cond_of : Conj → List (Unit {0} × Conj) → Cond
cond_of c [] = conditions.only c
cond_of c (x ∷ more) = conditions.or c (cond_of x.1 more)

abbrev pub disjunction : Reader Neg → Reader Cond
disjunction p = seen_as (λ x. cond_of x.0 x.1) (parted (is_word word.Or) (word_reader word.Or) (conj p))

abbrev pub neg_of : Neg ⊎ (Cond ⊎ Test) → Neg
neg_of (inl n) = conditions.not n
neg_of (inr (inl d)) = conditions.parens d
neg_of (inr (inr x)) = conditions.test x

-- NOT, a parenthesis, or a test, where a part's own parts are read so
abbrev pub neg_by : Reader Neg → Reader Neg
neg_by p =
    seen_as neg_of
    (either (is_word word.Not) (behind word.Not p)
    (either (is_sign sign.Open) (in_parens (disjunction p)) test))

unfoldable pub neg : Reader Neg
neg zero ts = Err ts
neg (suc n) ts = neg_by (λ m. neg n) (suc n) ts

abbrev pub cond : Reader Cond
cond = disjunction neg

-- ---- SELECT

unfoldable pub label : Reader (Option Spelled)
label = clause word.As name

unfoldable pub item : Reader Item
item = seen_as (λ x. record { column = x.0; label = x.1 }) (both column label)

abbrev pub items_of : Unit {0} ⊎ (Option Spelled ⊎ (Spelled × (Option Spelled × (Option Spelled × List (Unit {0} × Item))))) → Items
items_of (inl x) = grammar.all
items_of (inr (inl label)) = grammar.count label
items_of (inr (inr x)) = grammar.columns (record { column = column_of (x.0, x.1.0); label = x.1.1.0 }) (seconds x.1.1.1)

unfoldable pub items : Reader Items
items =
    seen_as items_of
    (either (is_sign sign.Star) (sign_reader sign.Star)
    (led (codes "count") (seen_as (λ x. x.1) (both (in_parens (sign_reader sign.Star)) label))
    (both column_rest (both label (many (is_sign sign.Comma) (both (sign_reader sign.Comma) item))))))

abbrev pub direction_of : Option (Unit {0} ⊎ Unit {0}) → Direction
direction_of None = grammar.unsaid
direction_of (Some (inl x)) = grammar.ascending
direction_of (Some (inr x)) = grammar.descending

abbrev pub is_direction : Token → Bool
is_direction token = if is_word word.Asc token then true else is_word word.Desc token

unfoldable pub direction : Reader Direction
direction = seen_as direction_of (optionally is_direction (either (is_word word.Asc) (word_reader word.Asc) (word_reader word.Desc)))

unfoldable pub key : Reader Key
key = seen_as (λ x. record { column = x.0; direction = x.1 }) (both column direction)

unfoldable pub keys : Reader (Some1 Key)
keys = behind word.By (listed key)

unfoldable pub where_clause : Reader (Option Cond)
where_clause = clause word.Where cond

unfoldable pub order_clause : Reader (Option (Some1 Key))
order_clause = clause word.Order keys

abbrev pub select_of : Items × (Spelled × (Option Cond × (Option (Some1 Key) × (Option Bound × Option Bound)))) → Select
select_of x = record { items = x.0; table = x.1.0; cond = x.1.1.0; order = x.1.1.1.0; limit = x.1.1.1.1.0; offset = x.1.1.1.1.1 }

unfoldable pub select : Reader Select
select =
    seen_as select_of
    (both items (both (behind word.From name) (both where_clause (both order_clause (both (clause word.Limit bound) (clause word.Offset bound))))))

-- ---- the other statements

unfoldable pub names : Reader (Option (Some1 Spelled))
names = optionally (is_sign sign.Open) (in_parens (listed name))

abbrev pub Inserted : Type 0
Inserted = Spelled × (Option (Some1 Spelled) × Some1 (Some1 Value))

unfoldable pub insert : Reader Inserted
insert = behind word.Into (both name (both names (behind word.Values (listed values))))

unfoldable pub pair : Reader Pair
pair = seen_as (λ x. record { column = x.0; value = x.1.1 }) (both name (both (sign_reader sign.Equal) value))

abbrev pub Updated : Type 0
Updated = Spelled × (Some1 Pair × Option Cond)

unfoldable pub update : Reader Updated
update = both name (both (behind word.Set (listed pair)) where_clause)

abbrev pub Deleted : Type 0
Deleted = Spelled × Option Cond

unfoldable pub delete : Reader Deleted
delete = behind word.From (both name where_clause)

abbrev pub to_of : Unit {0} ⊎ Unit {0} → Bool
to_of (inl x) = false
to_of (inr x) = true

unfoldable pub set_sign : Reader Bool
set_sign = seen_as to_of (either (is_sign sign.Equal) (sign_reader sign.Equal) (word_reader word.To))

abbrev pub setting_of : List ℕ ⊎ (ℕ ⊎ ((Unit {0} × ℕ) ⊎ ((Unit {0} × ℕ) ⊎ Spelled))) → Setting
setting_of (inl s) = grammar.text s
setting_of (inr (inl n)) = grammar.number n
setting_of (inr (inr (inl x))) = grammar.plus x.1
setting_of (inr (inr (inr (inl x)))) = grammar.minus x.1
setting_of (inr (inr (inr (inr s)))) = grammar.named s

unfoldable pub setting : Reader Setting
setting =
    seen_as setting_of
    (either (λ t. is_some (look_text t)) text
    (either (λ t. is_some (look_number t)) number
    (either (is_sign sign.Plus) (both (sign_reader sign.Plus) number)
    (either (is_sign sign.Minus) (both (sign_reader sign.Minus) number) name))))

abbrev pub Settled : Type 0
Settled = Spelled × (Bool × Setting)

unfoldable pub set : Reader Settled
set = both name (both set_sign setting)

-- ---- a whole text

abbrev pub body_of : Select ⊎ (Inserted ⊎ (Updated ⊎ (Deleted ⊎ Settled))) → Body
body_of (inl q) = grammar.select q
body_of (inr (inl x)) = grammar.insert x.0 x.1.0 x.1.1
body_of (inr (inr (inl x))) = grammar.update x.0 x.1.0 x.1.1
body_of (inr (inr (inr (inl x)))) = grammar.delete x.0 x.1
body_of (inr (inr (inr (inr x)))) = grammar.set x.0 x.1.0 x.1.1

abbrev pub begins_body : Token → Bool
begins_body token =
    if is_word word.Select token then true else (if is_word word.Insert token then true else (if is_word word.Update token then true else (if is_word word.Delete token then true else is_word word.Set token)))

unfoldable pub body : Reader Body
body =
    seen_as body_of
    (either (is_word word.Select) (behind word.Select select)
    (either (is_word word.Insert) (behind word.Insert insert)
    (either (is_word word.Update) (behind word.Update update)
    (either (is_word word.Delete) (behind word.Delete delete) (behind word.Set set)))))

abbrev pub semicolon : Reader Bool
semicolon = seen_as bool_of (optionally (is_sign sign.Semicolon) (sign_reader sign.Semicolon))

unfoldable pub whole : Reader Text
whole = seen_as (λ x. record { body = x.0; semicolon = x.1 }) (both (optionally begins_body body) semicolon)
