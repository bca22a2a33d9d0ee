-- What is sent to the backend is a statement that has a text, without a zero byte and short enough.
use Rattle.std.proofs.Common.{◌≡◌, lit<, lit≤, ℕ, ◌+◌, ◌*◌, ◌≤◌, ◌<◌, ◌==◌, not, pos, Bool, true, false, suc, zero, List, [], ◌∷◌, ◌++◌, length, codes, refl, sym, ap, subst, arith, if◌then◌else◌}
use Rattle.std.specs.List.{list_all, AllByRecursion}
use Rattle.std.specs.Fmt.{decimal}
use Rattle.std.specs.Str.{IsAscii}
use Rattle.std.proofs.lemmas.Bool.{ne_eqb}
use Rattle.std.proofs.lemmas.Str.{IsUtf8-from_ascii}
use Rattle.std.proofs.lemmas.Fmt.{length-decimal-le}
use Rattle.std.proofs.lemmas.List.{length-append}
use Rattle.std.proofs.lemmas.List.Elements.{All-append, recursion_from_All, All-from_recursion}
use Rattle.hex.specs.Hex.{lower_digits, encode_lower, is_hex_digit, IsBytes}
use Rattle.hex.proofs.HexLemmas.{decode_of-ok, decode_of-encode_lower, IsAscii-encode_with, length-encode_with}
use Rattle.pg_wire.specs.Fronts.{IsText}
use Rattle.sql_tokens.specs.Comments as tokens
use Rattle.sql_tokens.specs.Tokens.{doubled}
use Rattle.sql_tokens.specs.declared.token.Token.TheVariants as t
use Rattle.sql_tree.specs.declared.condition.Operand.TheVariants as operand
use Rattle.sql_tree.specs.declared.statement.Statement.{Statement}
use Rattle.sql_tree.specs.Canonical.{canon, quotes}
use Rattle.sql_tree.specs.Shapes.{printed}
use Rattle.sql_tree.specs.Laws.{IsPossible, IsStatement}
use Rattle.lab_backend.proofs.Texts.{ArePositive, IsText-from_positive, IsText-from_test, ArePositive-from_test, ArePositive-decimal}
use Rattle.session_model.specs.Served.{is_served, IsServed}
use Rattle.session_model.specs.Rewritten.{stored_text, rewritten}
use Rattle.session_model.proofs.Parts.{Column, Chosen, Served, Fits, inserting, tree_of, by_parts}

-- ---- stored bytes in text form

-- the sixteen digits are ASCII
IsAscii-lower : IsAscii lower_digits
IsAscii-lower zero = lit< tt
IsAscii-lower (suc zero) = lit< tt
IsAscii-lower (suc (suc zero)) = lit< tt
IsAscii-lower (suc (suc (suc zero))) = lit< tt
IsAscii-lower (suc (suc (suc (suc zero)))) = lit< tt
IsAscii-lower (suc (suc (suc (suc (suc zero))))) = lit< tt
IsAscii-lower (suc (suc (suc (suc (suc (suc zero)))))) = lit< tt
IsAscii-lower (suc (suc (suc (suc (suc (suc (suc zero))))))) = lit< tt
IsAscii-lower (suc (suc (suc (suc (suc (suc (suc (suc zero)))))))) = lit< tt
IsAscii-lower (suc (suc (suc (suc (suc (suc (suc (suc (suc zero))))))))) = lit< tt
IsAscii-lower (suc (suc (suc (suc (suc (suc (suc (suc (suc (suc zero)))))))))) = lit< tt
IsAscii-lower (suc (suc (suc (suc (suc (suc (suc (suc (suc (suc (suc zero))))))))))) = lit< tt
IsAscii-lower (suc (suc (suc (suc (suc (suc (suc (suc (suc (suc (suc (suc zero)))))))))))) = lit< tt
IsAscii-lower (suc (suc (suc (suc (suc (suc (suc (suc (suc (suc (suc (suc (suc zero))))))))))))) = lit< tt
IsAscii-lower (suc (suc (suc (suc (suc (suc (suc (suc (suc (suc (suc (suc (suc (suc zero)))))))))))))) = lit< tt
IsAscii-lower (suc (suc (suc (suc (suc (suc (suc (suc (suc (suc (suc (suc (suc (suc (suc zero))))))))))))))) = lit< tt
IsAscii-lower (suc (suc (suc (suc (suc (suc (suc (suc (suc (suc (suc (suc (suc (suc (suc (suc k)))))))))))))))) = lit< tt

digits_ascii : (bytes : List ℕ) → IsAscii (stored_text bytes)
digits_ascii bytes zero = lit< tt
digits_ascii bytes (suc zero) = lit< tt
digits_ascii bytes (suc (suc k)) = IsAscii-encode_with lower_digits bytes lower_ascii k
  where
    lower_ascii : IsAscii lower_digits
    lower_ascii i = IsAscii-lower i

digit_positive : (n : ℕ) → is_hex_digit n ≡ true → 0 < n
digit_positive zero h = let t : false ≡ true = h in absurd cc
digit_positive (suc n) h = omega arith

digits_positive : (bytes : List ℕ) → IsBytes bytes → ArePositive (encode_lower bytes)
digits_positive bytes h k d lt = digit_positive _ ((decode_of-ok (encode_lower bytes) bytes (decode_of-encode_lower bytes h)).1 k d lt)

both : (xs ys : List ℕ) → ArePositive xs → ArePositive ys → ArePositive (xs ++ ys)
both xs ys p q = All-append (λ x. 0 < x) xs ys p q

stored_positive : (bytes : List ℕ) → IsBytes bytes → ArePositive (stored_text bytes)
stored_positive bytes h = both (92 ∷ 120 ∷ []) (encode_lower bytes) (ArePositive-from_test (92 ∷ 120 ∷ []) refl) (digits_positive bytes h)

not_zero : (n : ℕ) → 0 < n → not (n == 0) ≡ true
not_zero n h = ap not (ne_eqb n 0 (λ e. absurd (omega (arith, e, h))))

none_zero : (xs : List ℕ) → AllByRecursion (λ x. 0 < x) xs → list_all (λ b. not (b == 0)) xs ≡ true
none_zero [] h = refl
none_zero (x ∷ xs) h = rw (not_zero x h.0) (none_zero xs h.1)

stored_is_text : (bytes : List ℕ) → IsBytes bytes → tokens.IsText (stored_text bytes)
stored_is_text bytes h = record {
  utf8 = IsUtf8-from_ascii (stored_text bytes) (digits_ascii bytes);
  no_zero = none_zero (stored_text bytes) (recursion_from_All (λ x. 0 < x) (stored_text bytes) (stored_positive bytes h));
}

stored_possible : (bytes : List ℕ) → IsBytes bytes → IsPossible (t.Text (stored_text bytes))
stored_possible bytes h = record { piece = quotes 39 (stored_text bytes); is = record { written = refl; ends = tt; text = stored_is_text bytes h } }

-- ---- the statement that is sent

-- the tokens of an INSERT with another string
other_tokens : (listed : Bool) (n : ℕ) (text other : List ℕ) → AllByRecursion IsPossible (printed (inserting listed n (operand.Text text))) → IsPossible (t.Text other) → AllByRecursion IsPossible (printed (inserting listed n (operand.Text other)))
other_tokens true n text other p q =
    let list = p.1.1.1 in
    let row = list.1.1.1.1.1.1 in
    (p.0, (p.1.0, (p.1.1.0, (list.0, (list.1.0, (list.1.1.0, (list.1.1.1.0, (list.1.1.1.1.0, (list.1.1.1.1.1.0, (row.0, (row.1.0, (row.1.1.0, (q, (row.1.1.1.1.0, tt))))))))))))))
other_tokens false n text other p q =
    let row = p.1.1.1.1 in
    (p.0, (p.1.0, (p.1.1.0, (p.1.1.1.0, (row.0, (row.1.0, (row.1.1.0, (q, (row.1.1.1.1.0, tt)))))))))

other_grammatical : (listed : Bool) (n : ℕ) (text : List ℕ) (possible : AllByRecursion IsPossible (printed (inserting listed n (operand.Text text)))) (s : IsStatement (inserting listed n (operand.Text text))) (other : List ℕ) → IsPossible (t.Text other)
    → IsStatement (inserting listed n (operand.Text other))
other_grammatical true n text possible s other q = record { grammatical = refl; gapless = s.gapless; settable = tt; possible = other_tokens true n text other possible q }
other_grammatical false n text possible s other q = record { grammatical = refl; gapless = s.gapless; settable = tt; possible = other_tokens false n text other possible q }

module _ (cell : List ℕ) (h : IsBytes cell) where
  abbrev SentOf : Statement → Type 0
  SentOf tree = IsStatement tree → IsStatement (rewritten cell tree)

  parts_statement : (v : Served) → Fits v → SentOf (tree_of v)
  parts_statement (Served.Selects chosen) fits s = s
  parts_statement (Served.Inserts listed n text) fits s = other_grammatical listed n text s.possible s (stored_text cell) (stored_possible cell h)

  pub sent_is_statement : (tree : Statement) → IsServed tree → IsStatement (rewritten cell tree)
  sent_is_statement tree s = by_parts SentOf parts_statement tree s.served s.statement

-- ---- its text

-- an INSERT up to the number
abbrev insert_front : Bool → List ℕ
insert_front true = codes "INSERT INTO \"notes\" (\"id\", \"body\") VALUES ("
insert_front false = codes "INSERT INTO \"notes\" VALUES ("

abbrev insert_end : List ℕ → List ℕ
insert_end text = codes ", " ++ (quotes 39 text ++ codes ")")

insert_canon : (listed : Bool) (n : ℕ) (text : List ℕ) → canon (inserting listed n (operand.Text text)) ≡ insert_front listed ++ (decimal n ++ insert_end text)
insert_canon true n text = refl
insert_canon false n text = refl

front_positive : (listed : Bool) → ArePositive (insert_front listed)
front_positive true = ArePositive-from_test (insert_front true) refl
front_positive false = ArePositive-from_test (insert_front false) refl

front_length : (listed : Bool) → length (insert_front listed) ≤ 50
front_length true = lit≤ tt
front_length false = lit≤ tt

-- ---- without a zero byte

piece_positive : (b : Bool) (c : ℕ) → 0 < c → AllByRecursion (λ x. 0 < x) (if b then 39 ∷ 39 ∷ [] else c ∷ [])
piece_positive true c h = (lit< tt, (lit< tt, tt))
piece_positive false c h = (h, tt)

joins : (xs ys : List ℕ) → AllByRecursion (λ x. 0 < x) xs → AllByRecursion (λ x. 0 < x) ys → AllByRecursion (λ x. 0 < x) (xs ++ ys)
joins [] ys p q = q
joins (x ∷ xs) ys p q = (p.0, joins xs ys p.1 q)

doubled_positive : (text : List ℕ) → AllByRecursion (λ x. 0 < x) text → AllByRecursion (λ x. 0 < x) (doubled 39 text)
doubled_positive [] h = tt
doubled_positive (c ∷ text) h = joins (if c == 39 then 39 ∷ 39 ∷ [] else c ∷ []) (doubled 39 text) (piece_positive (c == 39) c h.0) (doubled_positive text h.1)

quotes_positive : (text : List ℕ) → ArePositive text → ArePositive (quotes 39 text)
quotes_positive text h =
    let inner : ArePositive (doubled 39 text) = All-from_recursion (λ x. 0 < x) (doubled 39 text) (doubled_positive text (recursion_from_All (λ x. 0 < x) text h)) in
    both (39 ∷ []) (doubled 39 text ++ 39 ∷ []) (ArePositive-from_test (39 ∷ []) refl) (both (doubled 39 text) (39 ∷ []) inner (ArePositive-from_test (39 ∷ []) refl))

end_positive : (text : List ℕ) → ArePositive text → ArePositive (insert_end text)
end_positive text h = both (codes ", ") (quotes 39 text ++ codes ")") (ArePositive-from_test (codes ", ") refl) (both (quotes 39 text) (codes ")") (quotes_positive text h) (ArePositive-from_test (codes ")") refl))

select_is_text : (chosen : Chosen) → IsText (canon (tree_of (Served.Selects chosen)))
select_is_text (Chosen.One Column.Id) = IsText-from_test (canon (tree_of (Served.Selects (Chosen.One Column.Id)))) refl
select_is_text (Chosen.One Column.Body) = IsText-from_test (canon (tree_of (Served.Selects (Chosen.One Column.Body)))) refl
select_is_text (Chosen.Two Column.Id Column.Id) = IsText-from_test (canon (tree_of (Served.Selects (Chosen.Two Column.Id Column.Id)))) refl
select_is_text (Chosen.Two Column.Id Column.Body) = IsText-from_test (canon (tree_of (Served.Selects (Chosen.Two Column.Id Column.Body)))) refl
select_is_text (Chosen.Two Column.Body Column.Id) = IsText-from_test (canon (tree_of (Served.Selects (Chosen.Two Column.Body Column.Id)))) refl
select_is_text (Chosen.Two Column.Body Column.Body) = IsText-from_test (canon (tree_of (Served.Selects (Chosen.Two Column.Body Column.Body)))) refl

module _ (cell : List ℕ) (h : IsBytes cell) where
  abbrev TextOf : Statement → Type 0
  TextOf tree = IsText (canon (rewritten cell tree))

  parts_text : (v : Served) → Fits v → TextOf (tree_of v)
  parts_text (Served.Selects chosen) fits = select_is_text chosen
  parts_text (Served.Inserts listed n text) fits =
      let behind : ArePositive (decimal n ++ insert_end (stored_text cell)) = both (decimal n) (insert_end (stored_text cell)) (ArePositive-decimal n (omega (arith, fits))) (end_positive (stored_text cell) (stored_positive cell h)) in
      let whole : ArePositive (insert_front listed ++ (decimal n ++ insert_end (stored_text cell))) = both (insert_front listed) (decimal n ++ insert_end (stored_text cell)) (front_positive listed) behind in
      subst IsText (sym (insert_canon listed n (stored_text cell))) (IsText-from_positive (insert_front listed ++ (decimal n ++ insert_end (stored_text cell))) whole)

  pub sent_is_text : (tree : Statement) → is_served tree ≡ true → IsText (canon (rewritten cell tree))
  sent_is_text = by_parts TextOf parts_text

-- ---- its length

piece_length : (b : Bool) (c : ℕ) → length (if b then 39 ∷ 39 ∷ [] else c ∷ []) ≤ 2
piece_length true c = lit≤ tt
piece_length false c = lit≤ tt

doubled_length : (text : List ℕ) → length (doubled 39 text) ≤ 2 * length text
doubled_length [] = omega arith
doubled_length (c ∷ text) = omega (arith, piece_length (c == 39) c, length-append (if c == 39 then 39 ∷ 39 ∷ [] else c ∷ []) (doubled 39 text), doubled_length text)

end_length : (text : List ℕ) → length (insert_end text) ≤ 5 + 2 * length text
end_length text = omega (arith, length-append (doubled 39 text ++ 39 ∷ []) (codes ")"), length-append (doubled 39 text) (39 ∷ []), doubled_length text)

select_length : (chosen : Chosen) → length (canon (tree_of (Served.Selects chosen))) ≤ 50
select_length (Chosen.One Column.Id) = lit≤ tt
select_length (Chosen.One Column.Body) = lit≤ tt
select_length (Chosen.Two Column.Id Column.Id) = lit≤ tt
select_length (Chosen.Two Column.Id Column.Body) = lit≤ tt
select_length (Chosen.Two Column.Body Column.Id) = lit≤ tt
select_length (Chosen.Two Column.Body Column.Body) = lit≤ tt

module _ (cell : List ℕ) where
  abbrev LengthOf : Statement → Type 0
  LengthOf tree = length (canon (rewritten cell tree)) ≤ 100 + 4 * length cell

  parts_length : (v : Served) → Fits v → LengthOf (tree_of v)
  parts_length (Served.Selects chosen) fits = omega (arith, select_length chosen)
  parts_length (Served.Inserts listed n text) fits =
      omega (
        arith,
        ap length (insert_canon listed n (stored_text cell)),
        length-append (insert_front listed) (decimal n ++ insert_end (stored_text cell)),
        length-append (decimal n) (insert_end (stored_text cell)),
        front_length listed,
        length-decimal-le 19 n (omega arith) (omega (arith, fits)) (omega (arith, fits)),
        end_length (stored_text cell),
        length-encode_with lower_digits cell,
      )

  pub sent_length : (tree : Statement) → is_served tree ≡ true → length (canon (rewritten cell tree)) ≤ 100 + 4 * length cell
  sent_length = by_parts LengthOf parts_length
