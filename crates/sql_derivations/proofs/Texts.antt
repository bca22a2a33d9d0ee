-- The other statements, and a whole text.
use Rattle.std.proofs.Common.{◌≡◌, ℕ, ◌≤◌, Bool, true, false, List, [], ◌∷◌, ◌++◌, refl, ap, ◌⊎◌, inl, inr, arith}
use Rattle.std.specs.Prelude.{not, Option, Some, None, is_some}
use Rattle.sql_tokens.specs.declared.keyword.Keyword.TheVariants as word
use Rattle.sql_tokens.specs.declared.sign.Sign.TheVariants as sign
use Rattle.sql_tokens.specs.declared.token.Token.{Token}
use Rattle.sql_tokens.specs.declared.token.Token.TheVariants as t
use Rattle.sql_tree.specs.Parts.{optional, listed, Spelled, name_tokens, Value}
use Rattle.sql_tree.specs.Parts as parts
use Rattle.sql_tree.specs.Conditions.{Cond}
use Rattle.sql_tree.specs.Grammar as grammar
use Rattle.sql_tree.specs.Grammar.{Some1, names_tokens, row_tokens, where_tokens, Pair, pair_tokens, Setting, setting_tokens, to_token, Select, Body, body_tokens, Text, text_tokens, semicolon_tokens}
use Rattle.sql_readers.specs.Readers.{begins}
use Rattle.sql_readers.specs.Looks.{look_text, look_number, is_sign, is_word}
use Rattle.sql_readers.specs.Productions.{name, text, number, value, names, Inserted, insert, pair, Updated, update, Deleted, delete, to_of, set_sign, setting_of, setting, Settled, set, body_of, begins_body, body, bool_of, semicolon, whole}
use Rattle.sql_derivations.proofs.Exactly.{At, seen_at}
use Rattle.sql_derivations.proofs.Looked.{Free, word_at, sign_at, name_at, text_at, number_at}
use Rattle.sql_derivations.proofs.Sequences.{Apart, or_at, or_free, choice, each, ends_as, chain, behind_word, option_at, in_parens_at, listed_at}
use Rattle.sql_derivations.proofs.Columns.{s0, v0, value_at, values_at}
use Rattle.sql_derivations.proofs.Selects.{Closed, closed_apart, optional_apart, select_tokens, where_closed, select_at}

names0 : Some1 Spelled
names0 = record { first = s0; more = [] }

rows0 : Some1 (Some1 Value)
rows0 = record { first = v0; more = [] }

p0 : Pair
p0 = record { column = s0; value = parts.null }

pairs0 : Some1 Pair
pairs0 = record { first = p0; more = [] }

abbrev insert_tokens : Inserted → List Token
insert_tokens x = t.Word word.Into ∷ (name_tokens x.0 ++ (optional names_tokens x.1.0 ++ t.Word word.Values ∷ listed row_tokens x.1.1.first x.1.1.more))

abbrev update_tokens : Updated → List Token
update_tokens x = name_tokens x.0 ++ t.Word word.Set ∷ (listed pair_tokens x.1.0.first x.1.0.more ++ where_tokens x.1.1)

abbrev delete_tokens : Deleted → List Token
delete_tokens x = t.Word word.From ∷ (name_tokens x.0 ++ where_tokens x.1)

abbrev set_tokens : Settled → List Token
set_tokens x = name_tokens x.0 ++ to_token x.1.0 ∷ setting_tokens x.1.1

q0 : Select
q0 = record { items = grammar.all; table = s0; cond = None; order = None; limit = None; offset = None }

where_apart : (p : Token → Bool) (o : Option Cond) (rest : List Token) → p (t.Word word.Where) ≡ false → p (t.Sign sign.Semicolon) ≡ false → Closed rest → Apart p (where_tokens o ++ rest)
where_apart p o rest e f c = optional_apart p word.Where _ o rest e (closed_apart p f rest c)

abbrev to_split : Bool → Unit {0} ⊎ Unit {0}
to_split false = inl tt
to_split true = inr tt

abbrev Given : Type 0
Given = List ℕ ⊎ (ℕ ⊎ ((Unit {0} × ℕ) ⊎ ((Unit {0} × ℕ) ⊎ Spelled)))

abbrev setting_split : Setting → Given
setting_split (grammar.text s) = inl s
setting_split (grammar.number n) = inr (inl n)
setting_split (grammar.plus n) = inr (inr (inl (tt, n)))
setting_split (grammar.minus n) = inr (inr (inr (inl (tt, n))))
setting_split (grammar.named s) = inr (inr (inr (inr s)))

setting_back : (x : Setting) → setting_of (setting_split x) ≡ x
setting_back (grammar.text s) = refl
setting_back (grammar.number n) = refl
setting_back (grammar.plus n) = refl
setting_back (grammar.minus n) = refl
setting_back (grammar.named s) = refl

abbrev given_tokens : Given → List Token
given_tokens =
    choice (λ s. t.Text s ∷ []) (choice (λ n. t.Number n ∷ []) (choice (λ x. t.Sign sign.Plus ∷ t.Number x.1 ∷ []) (choice (λ x. t.Sign sign.Minus ∷ t.Number x.1 ∷ []) (λ (s : Spelled). t.Name s.name s.quoted ∷ []))))

setting_written : (x : Given) → setting_tokens (setting_of x) ≡ given_tokens x
setting_written (inl s) = refl
setting_written (inr (inl n)) = refl
setting_written (inr (inr (inl x))) = refl
setting_written (inr (inr (inr (inl x)))) = refl
setting_written (inr (inr (inr (inr s)))) = refl

module _ (n l : ℕ) where
  names_at : l ≤ n → At names (optional names_tokens) (Apart (is_sign sign.Open)) n l
  unfolding names
  names_at low = ends_as (λ rest e. (tt, e)) (option_at (in_parens_at (listed_at (name_at n l) low s0 (λ rest. tt)) names0 (λ rest. (tt, refl))) (is_sign sign.Open) (λ a rest. refl))

  insert_at : l ≤ n → At insert insert_tokens Closed n l
  unfolding insert
  insert_at low =
      behind_word
      (chain (name_at n l)
      (chain (names_at low) (behind_word (ends_as (λ rest c. (tt, closed_apart (is_sign sign.Comma) refl rest c)) (listed_at (values_at n l low) low v0 (λ rest. tt))) rows0 word.Values) rows0 (λ b rest c. refl))
      (None, rows0) (λ b rest c. tt))
      (s0, (None, rows0)) word.Into

  pair_at : At pair pair_tokens Free n l
  unfolding pair
  pair_at =
      seen_at (λ x. record { column = x.0; value = x.1.1 }) (λ (p : Pair). (p.column, (tt, p.value))) _ _ pair_tokens Free n l
      (chain (name_at n l) (chain (sign_at n l sign.Equal) (value_at n l) parts.null (λ b rest c. tt)) (tt, parts.null) (λ b rest c. tt)) (λ b. refl) (λ a. refl)

  set_sign_at : At set_sign (λ b. to_token b ∷ []) Free n l
  unfolding set_sign
  set_sign_at =
      seen_at to_of to_split _ _ (λ b. to_token b ∷ []) Free n l
      (or_free (is_sign sign.Equal) (sign_at n l sign.Equal) (word_at n l word.To) (λ a rest. refl) (λ b rest. refl)) (elim [ true ↦ refl | false ↦ refl ]) (elim [ inl u ↦ refl | inr u ↦ refl ])

  setting_at : At setting setting_tokens Free n l
  unfolding setting
  setting_at =
      seen_at setting_of setting_split _ _ setting_tokens Free n l
      (or_free (λ x. is_some (look_text x)) (text_at n l)
      (or_free (λ x. is_some (look_number x)) (number_at n l)
      (or_free (is_sign sign.Plus) (chain (sign_at n l sign.Plus) (number_at n l) 0 (λ b rest ends. tt))
      (or_free (is_sign sign.Minus) (chain (sign_at n l sign.Minus) (number_at n l) 0 (λ b rest ends. tt)) (name_at n l) (λ a rest. refl) (λ b rest. refl)) (λ a rest. refl)
      (each _ _ _ (λ a rest. refl) (λ b rest. refl))) (λ a rest. refl)
      (each _ _ _ (λ a rest. refl) (each _ _ _ (λ a rest. refl) (λ b rest. refl)))) (λ a rest. refl)
      (each _ _ _ (λ a rest. refl) (each _ _ _ (λ a rest. refl) (each _ _ _ (λ a rest. refl) (λ b rest. refl)))))
      setting_back setting_written

  set_at : At set set_tokens Closed n l
  unfolding set
  set_at = ends_as (λ rest c. tt) (chain (name_at n l) (chain set_sign_at setting_at (grammar.number 0) (λ b rest c. tt)) (false, grammar.number 0) (λ b rest c. tt))

module _ (n : ℕ) where
  update_at : At update update_tokens Closed n n
  unfolding update
  update_at =
      chain (name_at n n)
      (chain (behind_word (listed_at (pair_at n n) (omega arith) p0 (λ rest. tt)) pairs0 word.Set) (where_closed n) None (λ b rest c. (tt, where_apart (is_sign sign.Comma) b rest refl refl c)))
      (pairs0, None) (λ b rest c. tt)

  delete_at : At delete delete_tokens Closed n n
  unfolding delete
  delete_at = behind_word (chain (name_at n n) (where_closed n) None (λ b rest c. tt)) (s0, None) word.From

-- ---- a whole text

abbrev Bodies : Type 0
Bodies = Select ⊎ (Inserted ⊎ (Updated ⊎ (Deleted ⊎ Settled)))

abbrev body_split : Body → Bodies
body_split (grammar.select q) = inl q
body_split (grammar.insert table names rows) = inr (inl (table, (names, rows)))
body_split (grammar.update table pairs cond) = inr (inr (inl (table, (pairs, cond))))
body_split (grammar.delete table cond) = inr (inr (inr (inl (table, cond))))
body_split (grammar.set name to value) = inr (inr (inr (inr (name, (to, value)))))

body_back : (x : Body) → body_of (body_split x) ≡ x
body_back (grammar.select q) = refl
body_back (grammar.insert table names rows) = refl
body_back (grammar.update table pairs cond) = refl
body_back (grammar.delete table cond) = refl
body_back (grammar.set name to value) = refl

abbrev bodies_tokens : Bodies → List Token
bodies_tokens =
    choice (λ x. t.Word word.Select ∷ select_tokens x) (choice (λ x. t.Word word.Insert ∷ insert_tokens x) (choice (λ x. t.Word word.Update ∷ update_tokens x)
    (choice (λ x. t.Word word.Delete ∷ delete_tokens x) (λ x. t.Word word.Set ∷ set_tokens x))))

body_written : (x : Bodies) → body_tokens (body_of x) ≡ bodies_tokens x
body_written (inl x) = refl
body_written (inr (inl x)) = refl
body_written (inr (inr (inl x))) = refl
body_written (inr (inr (inr (inl x)))) = refl
body_written (inr (inr (inr (inr x)))) = refl

body_begins : (x : Body) (rest : List Token) → begins begins_body (body_tokens x ++ rest) ≡ true
body_begins (grammar.select q) rest = refl
body_begins (grammar.insert table names rows) rest = refl
body_begins (grammar.update table pairs cond) rest = refl
body_begins (grammar.delete table cond) rest = refl
body_begins (grammar.set name to value) rest = refl

semicolon_closed : (b : Bool) (rest : List Token) → rest ≡ [] → Closed (semicolon_tokens b ++ rest) × Apart begins_body (semicolon_tokens b ++ rest)
semicolon_closed true rest e = (refl, refl)
semicolon_closed false rest e = (ap (begins (λ x. not (is_sign sign.Semicolon x))) e, ap (begins begins_body) e)

module _ (n : ℕ) where
  body_at : At body body_tokens Closed n n
  unfolding body
  body_at =
      seen_at body_of body_split _ _ body_tokens Closed n n
      (ends_as (λ rest c. (c, (c, (c, (c, c)))))
      (or_at (is_word word.Select) (behind_word (select_at n) q0 word.Select)
      (or_at (is_word word.Insert) (behind_word (insert_at n n (omega arith)) (s0, (None, rows0)) word.Insert)
      (or_at (is_word word.Update) (behind_word (update_at n) (s0, (pairs0, None)) word.Update)
      (or_at (is_word word.Delete) (behind_word (delete_at n) (s0, None) word.Delete) (behind_word (set_at n n) (s0, (false, grammar.number 0)) word.Set) (λ a rest. refl) (λ b rest e. refl)) (λ a rest. refl)
      (λ b rest e. (each _ _ _ (λ a rest. refl) (λ b rest. refl)) b rest)) (λ a rest. refl)
      (λ b rest e. (each _ _ _ (λ a rest. refl) (each _ _ _ (λ a rest. refl) (λ b rest. refl))) b rest)) (λ a rest. refl)
      (λ b rest e. (each _ _ _ (λ a rest. refl) (each _ _ _ (λ a rest. refl) (each _ _ _ (λ a rest. refl) (λ b rest. refl)))) b rest)))
      body_back body_written

  semicolon_at : At semicolon semicolon_tokens (Apart (is_sign sign.Semicolon)) n n
  semicolon_at =
      seen_at bool_of (elim [ true ↦ Some tt | false ↦ None ]) _ _ semicolon_tokens (Apart (is_sign sign.Semicolon)) n n
      (ends_as (λ rest e. (tt, e)) (option_at (sign_at n n sign.Semicolon) (is_sign sign.Semicolon) (λ a rest. refl)))
      (elim [ true ↦ refl | false ↦ refl ]) (elim [ None ↦ refl | Some u ↦ refl ])

  pub whole_at : At whole text_tokens (λ rest. rest ≡ []) n n
  unfolding whole
  whole_at =
      seen_at (λ x. record { body = x.0; semicolon = x.1 }) (λ (x : Text). (x.body, x.semicolon)) _ _ text_tokens (λ rest. rest ≡ []) n n
      (chain (option_at body_at begins_body body_begins) (ends_as (λ rest e. ap (begins (is_sign sign.Semicolon)) e) semicolon_at) false semicolon_closed) (λ b. refl) (λ a. refl)
