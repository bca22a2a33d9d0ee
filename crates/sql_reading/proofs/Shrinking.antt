-- What is left is no longer than what there was.
use Rattle.std.proofs.Common.{◌≡◌, ℕ, zero, suc, ◌≤◌, ◌<◌, Bool, true, false, List, [], ◌∷◌, length, subst, arith}
use Rattle.std.specs.Prelude.{Option, Some, None, Ok, Err, if◌then◌else◌}
use Rattle.sql_tokens.specs.declared.token.Token.{Token}
use Rattle.sql_tokens.specs.declared.sign.Sign.TheVariants as sign
use Rattle.sql_tree.specs.Parts.{Spelled, Value}
use Rattle.sql_tree.specs.Conditions.{Test}
use Rattle.sql_tree.specs.Grammar.{Some1, Item, Key, Pair}
use Rattle.sql_readers.specs.Readers.{Read, Reader, after, begins, found, one, both, either, optionally, repeated, seen_as}
use Rattle.sql_readers.specs.Looks.{look_sign, look_name}
use Rattle.sql_readers.specs.Productions.{name, column_rest, column, value, values, listed, in_parens, item, label, key, direction, pair, led, substr_rest, left, side, negated, tail, column_tail, led_test, flipped_test, test}
use Rattle.sql_readers.specs.Reads.{Reads}

abbrev Within : {A : Type 0} → List Token → Read A → Type 0
Within ts (Ok x) = length x.1 ≤ length ts
Within ts (Err r) = Unit {0}

abbrev Shrinks : {A : Type 0} → Reader A → Type 0
Shrinks p = (n : ℕ) (ts : List Token) → Within ts (p n ts)

after_within : {A B : Type 0} (ts : List Token) (f : A → List Token → Read B) (o : Read A) → Within ts o → ((a : A) (r : List Token) → length r ≤ length ts → Within ts (f a r)) → Within ts (after f o)
after_within ts f (Ok x) h k = k x.0 x.1 h
after_within ts f (Err r) h k = tt

wider : {A : Type 0} (r ts : List Token) (o : Read A) → length r ≤ length ts → Within r o → Within ts o
wider r ts (Ok x) le h = omega arith
wider r ts (Err s) le h = tt

if_within : {A : Type 0} (ts : List Token) (b : Bool) (x y : Read A) → Within ts x → Within ts y → Within ts (if b then x else y)
if_within ts true x y h k = h
if_within ts false x y h k = k

found_within : {A : Type 0} (t : Token) (ts : List Token) (o : Option A) → Within (t ∷ ts) (found (t ∷ ts) ts o)
found_within t ts None = tt
found_within t ts (Some a) = omega arith

one_shrinks : {A : Type 0} (look : Token → Option A) → Shrinks (one look)
one_shrinks look n [] = tt
one_shrinks look n (t ∷ ts) = found_within t ts (look t)

both_shrinks : {A B : Type 0} (p : Reader A) (q : Reader B) → Shrinks p → Shrinks q → Shrinks (both p q)
both_shrinks p q h k n ts = after_within ts _ (p n ts) (h n ts) (λ a r le. after_within ts _ (q n r) (wider r ts (q n r) le (k n r)) (λ b s less. less))

seen_shrinks : {A B : Type 0} (f : A → B) (p : Reader A) → Shrinks p → Shrinks (seen_as f p)
seen_shrinks f p h n ts = after_within ts _ (p n ts) (h n ts) (λ a r le. le)

either_shrinks : {A B : Type 0} (test : Token → Bool) (p : Reader A) (q : Reader B) → Shrinks p → Shrinks q → Shrinks (either test p q)
either_shrinks test p q h k n ts = if_within ts (begins test ts) _ _ (after_within ts _ (p n ts) (h n ts) (λ a r le. le)) (after_within ts _ (q n ts) (k n ts) (λ a r le. le))

optionally_shrinks : {A : Type 0} (test : Token → Bool) (p : Reader A) → Shrinks p → Shrinks (optionally test p)
optionally_shrinks test p h n ts = if_within ts (begins test ts) _ _ (after_within ts _ (p n ts) (h n ts) (λ a r le. le)) (omega arith)

repeated_shrinks : {A : Type 0} (test : Token → Bool) (p : Reader A) → Shrinks p → (k n : ℕ) (ts : List Token) → Within ts (repeated test p k n ts)
repeated_shrinks test p h zero n ts = if_within ts (begins test ts) _ _ tt (omega arith)
repeated_shrinks test p h (suc k) n ts =
    if_within ts (begins test ts) _ _
    (after_within ts _ (p n ts) (h n ts) (λ a r le. after_within ts _ (repeated test p k n r) (wider r ts (repeated test p k n r) le (repeated_shrinks test p h k n r)) (λ more s less. less)))
    (omega arith)

in_parens_shrinks : {A : Type 0} (p : Reader A) → Shrinks p → Shrinks (in_parens p)
in_parens_shrinks p h = seen_shrinks _ _ (both_shrinks _ _ (one_shrinks _) (both_shrinks _ _ h (one_shrinks _)))

listed_shrinks : {A : Type 0} (p : Reader A) → Shrinks p → Shrinks (listed p)
listed_shrinks p h = seen_shrinks _ _ (both_shrinks _ _ h (λ n ts. repeated_shrinks _ _ (both_shrinks _ _ (one_shrinks _) h) n n ts))

column_shrinks : Shrinks column
unfolding column column_rest
column_shrinks = seen_shrinks _ _ (both_shrinks _ _ (one_shrinks _) (optionally_shrinks _ _ (seen_shrinks _ _ (both_shrinks _ _ (one_shrinks _) (one_shrinks _)))))

value_shrinks : Shrinks value
unfolding value
value_shrinks =
    seen_shrinks _ _
    (either_shrinks _ _ _ (one_shrinks _)
    (either_shrinks _ _ _ (one_shrinks _)
    (either_shrinks _ _ _ (both_shrinks _ _ (one_shrinks _) (one_shrinks _))
    (either_shrinks _ _ _ (both_shrinks _ _ (one_shrinks _) (one_shrinks _)) (either_shrinks _ _ _ (one_shrinks _) (one_shrinks _))))))

values_shrinks : Shrinks values
unfolding values
values_shrinks = in_parens_shrinks (listed value) (listed_shrinks value value_shrinks)

label_shrinks : Shrinks label
unfolding label
label_shrinks = optionally_shrinks _ _ (seen_shrinks _ _ (both_shrinks _ _ (one_shrinks _) (one_shrinks _)))

item_shrinks : Shrinks item
unfolding item
item_shrinks = seen_shrinks _ _ (both_shrinks _ _ column_shrinks label_shrinks)

direction_shrinks : Shrinks direction
unfolding direction
direction_shrinks = seen_shrinks _ _ (optionally_shrinks _ _ (either_shrinks _ _ _ (one_shrinks _) (one_shrinks _)))

key_shrinks : Shrinks key
unfolding key
key_shrinks = seen_shrinks _ _ (both_shrinks _ _ column_shrinks direction_shrinks)

pair_shrinks : Shrinks pair
unfolding pair
pair_shrinks = seen_shrinks _ _ (both_shrinks _ _ (one_shrinks _) (both_shrinks _ _ (one_shrinks _) value_shrinks))

led_shrinks : {A B : Type 0} (call : List ℕ) (p : Reader A) (q : Reader B) → Shrinks p → Shrinks q → Shrinks (led call p q)
led_shrinks call p q h k n ts = after_within ts _ (name n ts) (one_shrinks _ n ts) (λ s r le.
    if_within ts _ _ _ (after_within ts _ (p n r) (wider r ts (p n r) le (h n r)) (λ a u less. less)) (after_within ts _ (q n r) (wider r ts (q n r) le (k n r)) (λ b u less. less)))

column_rest_shrinks : Shrinks column_rest
unfolding column_rest
column_rest_shrinks = optionally_shrinks _ _ (seen_shrinks _ _ (both_shrinks _ _ (one_shrinks _) (one_shrinks _)))

substr_rest_shrinks : Shrinks substr_rest
unfolding substr_rest
substr_rest_shrinks =
    in_parens_shrinks _
    (seen_shrinks _ _ (both_shrinks _ _ column_shrinks (both_shrinks _ _ (one_shrinks _) (both_shrinks _ _ (one_shrinks _) (both_shrinks _ _ (one_shrinks _) (one_shrinks _))))))

left_shrinks : Shrinks left
unfolding left
left_shrinks = seen_shrinks _ _ (led_shrinks _ _ _ substr_rest_shrinks column_rest_shrinks)

side_shrinks : Shrinks side
unfolding side
side_shrinks = seen_shrinks _ _ (either_shrinks _ _ _ left_shrinks value_shrinks)

negated_shrinks : Shrinks negated
unfolding negated
negated_shrinks = seen_shrinks _ _ (optionally_shrinks _ _ (one_shrinks _))

tail_shrinks : Shrinks tail
unfolding tail
tail_shrinks = either_shrinks _ _ _ (both_shrinks _ _ (one_shrinks _) side_shrinks) (both_shrinks _ _ negated_shrinks (seen_shrinks _ _ (both_shrinks _ _ (one_shrinks _) values_shrinks)))

column_tail_shrinks : Shrinks column_tail
unfolding column_tail
column_tail_shrinks = either_shrinks _ _ _ (seen_shrinks _ _ (both_shrinks _ _ (one_shrinks _) (seen_shrinks _ _ (both_shrinks _ _ negated_shrinks (one_shrinks _))))) tail_shrinks

test_shrinks : Shrinks test
unfolding test led_test flipped_test
test_shrinks =
    seen_shrinks _ _
    (either_shrinks _ _ _
    (seen_shrinks _ _ (led_shrinks _ _ _ (both_shrinks _ _ substr_rest_shrinks tail_shrinks) (both_shrinks _ _ column_rest_shrinks column_tail_shrinks)))
    (seen_shrinks _ _ (both_shrinks _ _ value_shrinks (both_shrinks _ _ (one_shrinks _) left_shrinks))))

-- ---- of what is read

left_within : {A : Type 0} (p : Reader A) (ts r : List Token) (a : A) → Shrinks p → Reads p ts (Ok (a, r)) → length r ≤ length ts
left_within p ts r a h k = subst (Within ts) (k.gives k.enough (omega arith)) (h k.enough ts)

found_less : {A : Type 0} (t : Token) (ts r : List Token) (o : Option A) (a : A) → found (t ∷ ts) ts o ≡ Ok (a, r) → length r < length (t ∷ ts)
found_less t ts r None a e = cc
found_less {A = A} t ts r (Some b) a e = let same : ◌≡◌ {A = A × List Token} (b, ts) (a, r) = cc in subst (λ (w : List Token). length w < length (t ∷ ts)) (λ i. (same i).1) (omega arith)

one_less_at : {A : Type 0} (look : Token → Option A) (n : ℕ) (ts r : List Token) (a : A) → one look n ts ≡ Ok (a, r) → length r < length ts
one_less_at look n [] r a e = cc
one_less_at look n (t ∷ ts) r a e = found_less t ts r (look t) a e

pub one_less : {A : Type 0} (look : Token → Option A) {ts r : List Token} {a : A} → Reads (one look) ts (Ok (a, r)) → length r < length ts
one_less look {ts} {r} {a} k = one_less_at look k.enough ts r a (k.gives k.enough (omega arith))

pub name_less : {ts r : List Token} {a : Spelled} → Reads name ts (Ok (a, r)) → length r < length ts
name_less k = one_less look_name k

pub name_within : {ts r : List Token} {a : Spelled} → Reads name ts (Ok (a, r)) → length r ≤ length ts
name_within k = let less = name_less k in omega arith

pub value_within : {ts r : List Token} {a : Value} → Reads value ts (Ok (a, r)) → length r ≤ length ts
value_within k = left_within value _ _ _ value_shrinks k

pub values_within : {ts r : List Token} {a : Some1 Value} → Reads values ts (Ok (a, r)) → length r ≤ length ts
values_within k = left_within values _ _ _ values_shrinks k

pub item_within : {ts r : List Token} {a : Item} → Reads item ts (Ok (a, r)) → length r ≤ length ts
item_within k = left_within item _ _ _ item_shrinks k

pub key_within : {ts r : List Token} {a : Key} → Reads key ts (Ok (a, r)) → length r ≤ length ts
key_within k = left_within key _ _ _ key_shrinks k

pub pair_within : {ts r : List Token} {a : Pair} → Reads pair ts (Ok (a, r)) → length r ≤ length ts
pair_within k = left_within pair _ _ _ pair_shrinks k

pub comma_less : {ts r : List Token} → Reads (one (look_sign sign.Comma)) ts (Ok (tt, r)) → length r < length ts
comma_less k = one_less (look_sign sign.Comma) k

pub test_within : {ts r : List Token} {a : Test} → Reads test ts (Ok (a, r)) → length r ≤ length ts
test_within k = left_within test _ _ _ test_shrinks k
