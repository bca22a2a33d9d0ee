-- Words, numbers, parameters and texts in quotes at the front of a text.
use Rattle.std.proofs.Common.{◌≡◌, ℕ, ◌<◌, ◌≤◌, ◌^◌, nat_eq, ◌==◌, Bool, true, false, List, [], ◌∷◌, ◌++◌, length, map, get_or, append-nil, ap, subst, ◌∙◌, refl, sym, arith}
use Rattle.std.specs.Prelude.{Option, Some, not}
use Rattle.std.specs.List.{list_all}
use Rattle.std.proofs.lemmas.Bool.Decides.{nat_tests}
use Rattle.std.proofs.lemmas.Grind.{common_steps}
use Rattle.acra_base.specs.Names.{is_name}
use Rattle.sql_tokens.specs.declared.class.Class.{Class}
use Rattle.sql_tokens.specs.declared.class.Class.TheVariants as class
use Rattle.sql_tokens.specs.declared.token.Token.{Token}
use Rattle.sql_tokens.specs.declared.token.Token.TheVariants as t
use Rattle.sql_tokens.specs.declared.runs.Run.TheVariants as run
use Rattle.sql_tokens.specs.Classes.{class_of, Stops, Starts, is_digit, begins_word, goes_on_word, folded, number_from}
use Rattle.sql_tokens.specs.Comments.{IsText}
use Rattle.sql_tokens.specs.Tokens.{IsQuoted, IsPiece, doubled}
use Rattle.sql_tokens.specs.Runs.{run_test, NumbersParameter}
use Rattle.sql_tokens.specs.Lexing.{BeginsNone}
use Rattle.sql_tokens.specs.Steps.{Takes, TakesQuoted, IsUnclosed, EatsQuote, word_token}
use Rattle.sql_tokens.proofs.Quoting.{one_content, unclosed, content_now}
use Rattle.sql_tokens.proofs.Running.{one_run, and_left, and_right}
use Rattle.sql_tokens.proofs.Pieces.{Of, inverted, of_word, class_word, class_digit, class_parameter}
use Rattle.sql_tokens.proofs.Unique.{quoted_text}

-- what starts with a byte of the test
starts_at : (test : ℕ → Bool) (text front rest : List ℕ) → text ≡ front ++ rest → 1 ≤ length text → test (get_or text 0 0) ≡ true → Stops test rest → Starts test front
starts_at test text [] [] e some h stops = let l = ap length e in absurd (omega arith)
starts_at test text [] (c ∷ rest) e some h stops = let k : test c ≡ true = subst (λ (xs : List ℕ). test (get_or xs 0 0) ≡ true) e h in absurd (let s : test c ≡ false = stops in cc)
starts_at test text (c ∷ cs) rest e some h stops = subst (λ (xs : List ℕ). test (get_or xs 0 0) ≡ true) e h

begins_goes_on : (c : ℕ) → begins_word c ≡ true → goes_on_word c ≡ true
begins_goes_on c h = grind (arith, nat_tests)

-- of the class
module _ (text : List ℕ) (some : 1 ≤ length text) where
  module _ (K : Class) (starts : class_of (get_or text 0 0) ≡ K) where
    pub of : (piece rest : List ℕ) (what : Option Token) → text ≡ piece ++ rest → IsPiece piece what rest → Of K piece what rest
    of piece rest what e is = subst (λ k. Of k piece what rest) starts (inverted text piece rest what e is)

  module _ (starts : class_of (get_or text 0 0) ≡ class.Word) (front rest : List ℕ) (whole : text ≡ front ++ rest) (on : list_all goes_on_word front ≡ true) (ends : Stops goes_on_word rest) where
    word_starts : Starts begins_word front
    word_starts = begins front whole (starts_at goes_on_word text front rest whole some (begins_goes_on (get_or text 0 0) (class_word (get_or text 0 0) starts)) ends)
      where
        begins : (front : List ℕ) → text ≡ front ++ rest → Starts goes_on_word front → Starts begins_word front
        begins [] e h = h
        begins (c ∷ cs) e h = subst (λ (xs : List ℕ). begins_word (get_or xs 0 0) ≡ true) e (class_word (get_or text 0 0) starts)

    pub word_reads : (name : List ℕ) → length front ≤ 63 → name ≡ map folded front → Takes text (Some (word_token name)) rest
    word_reads name short is =
        record { piece = front; whole = whole; is = of_word front name rest (record { starts = word_starts; on = on; ends = ends; is = is; short = short }) }

    pub word_bad : 63 < length front → BeginsNone text
    word_bad long piece other what e is =
        let w = of class.Word starts piece other what e is in
        let o = one_run goes_on_word front piece rest other on w.1.on ends w.1.ends (sym whole ∙ e) in
        let l = ap length o.0 in
        let s = w.1.short in
        omega arith

    not_zero : (c : ℕ) → goes_on_word c ≡ true → not (folded c == 0) ≡ true
    not_zero c h = grind (arith, nat_tests)

    no_zeros : (xs : List ℕ) → list_all goes_on_word xs ≡ true → list_all (λ b. not (b == 0)) (map folded xs) ≡ true
    no_zeros [] h = refl
    no_zeros (x ∷ xs) h = rw (not_zero x (and_left (goes_on_word x) _ h), no_zeros xs (and_right (goes_on_word x) _ h)) refl

    some_first : (front : List ℕ) → Starts begins_word front → 1 ≤ length front
    some_first [] h = absurd h
    some_first (c ∷ cs) h = omega arith

    pub word_name : (name : List ℕ) → length front ≤ 63 → name ≡ map folded front → is_name name ≡ true
    word_name name short is =
        let z = no_zeros front on in
        let m = some_first front word_starts in
        subst (λ (xs : List ℕ). is_name xs ≡ true) (sym is) (grind (arith, nat_tests, common_steps))

  module _ (starts : class_of (get_or text 0 0) ≡ class.Digit) (front rest : List ℕ) (whole : text ≡ front ++ rest) (on : list_all is_digit front ≡ true) (ends : Stops is_digit rest) where
    pub number_reads : (n : ℕ) → n ≡ number_from 0 front → n < 2 ^ 127 → Takes text (Some (t.Number n)) rest
    number_reads n is small = record {
      piece = front;
      whole = whole;
      is = (record { starts = starts_at is_digit text front rest whole some (class_digit (get_or text 0 0) starts) ends; on = on; ends = ends; is = is }, small);
    }

    pub number_bad : 2 ^ 127 ≤ number_from 0 front → BeginsNone text
    number_bad large piece other what e is =
        let w = of class.Digit starts piece other what e is in
        let o = one_run is_digit front piece rest other on w.1.on ends w.1.ends (sym whole ∙ e) in
        let l = ap (number_from 0) o.0 in
        let s = w.1.is in
        let small = w.2 in
        omega arith

-- the quote that was first was eaten
pub eaten : (q : ℕ) (old new : List ℕ) (ate : Bool) → 1 ≤ length old → get_or old 0 0 ≡ q → EatsQuote q old ate new → old ≡ q ∷ new
eaten q old new true some first h = h
eaten q [] new false some first h = absurd (omega arith)
eaten q (c ∷ old) new false some first h = absurd (let s : nat_eq q c ≡ false = h.1 in grind (arith, nat_tests))

module _ (text : List ℕ) (some : 1 ≤ length text) (starts : class_of (get_or text 0 0) ≡ class.Parameter) (after digits rest : List ℕ) (ate : Bool) (eats : EatsQuote 36 text ate after)
    (cut : after ≡ digits ++ rest) (on : list_all is_digit digits ≡ true) (ends : Stops is_digit rest) where
  whole : text ≡ 36 ∷ (digits ++ rest)
  whole = eaten 36 text after ate some (class_parameter (get_or text 0 0) starts) eats ∙ ap (λ (xs : List ℕ). 36 ∷ xs) cut

  pub parameter_reads : (n : ℕ) → NumbersParameter digits n → Takes text (Some (t.Parameter n)) rest
  parameter_reads n h = record {
    piece = 36 ∷ digits;
    whole = whole;
    is = record { digits = digits; written = refl; spells = record { starts = h.starts; on = on; ends = ends; is = h.is }; leads = h.leads; most = h.most };
  }

  pub parameter_bad : ((n : ℕ) → NumbersParameter digits n → ⊥) → BeginsNone text
  parameter_bad none piece other what e is =
      let w = of text some class.Parameter starts piece other what e is in
      let p = w.1 in
      let both : 36 ∷ (digits ++ rest) ≡ 36 ∷ (p.digits ++ other) = sym whole ∙ e ∙ ap (λ (xs : List ℕ). xs ++ other) p.written in
      let o = one_run is_digit digits p.digits rest other on p.spells.on ends p.spells.ends cc in
      none w.0 (subst (λ (xs : List ℕ). NumbersParameter xs w.0) (sym o.0) (record { starts = p.spells.starts; leads = p.leads; is = p.spells.is; most = p.most }))

-- texts in quotes
no_byte_stops : (q : ℕ) (mid : List ℕ) → Stops (run_test (run.Inside q)) mid → Stops (nat_eq q) mid → mid ≡ []
no_byte_stops q [] s t = refl
no_byte_stops q (c ∷ more) s t = absurd (grind (arith, nat_tests))

module _ (q : ℕ) (text content left piece mid : List ℕ) (so_far : text ≡ q ∷ (doubled q content ++ left)) (cut : left ≡ piece ++ mid) (plain : list_all (run_test (run.Inside q)) piece ≡ true) where
  pub quoted_ends : (next new found : List ℕ) → mid ≡ q ∷ next → (new ≡ next) × Stops (nat_eq q) next → found ≡ content ++ piece → TakesQuoted q text found new
  quoted_ends next new found e stops is =
      let now = content_now q text content left piece mid so_far cut plain in
      record {
        whole = now ∙ ap (λ (xs : List ℕ). q ∷ (doubled q (content ++ piece) ++ xs)) (e ∙ ap (λ (xs : List ℕ). q ∷ xs) (sym stops.0))
            ∙ ap (λ (xs : List ℕ). q ∷ (doubled q xs ++ q ∷ new)) (sym is);
        ends = subst (Stops (nat_eq q)) (sym stops.0) stops.1;
      }

  pub quoted_open : Stops (run_test (run.Inside q)) mid → Stops (nat_eq q) mid → IsUnclosed q text
  quoted_open s t other rest stops e =
      let now = content_now q text content left piece mid so_far cut plain in
      let n = no_byte_stops q mid s t in
      let here : text ≡ q ∷ doubled q (content ++ piece) = now ∙ ap (λ (xs : List ℕ). q ∷ (doubled q (content ++ piece) ++ xs)) n ∙ ap (λ (xs : List ℕ). q ∷ xs) (append-nil (doubled q (content ++ piece))) in
      let both : q ∷ doubled q (content ++ piece) ≡ q ∷ (doubled q other ++ q ∷ rest) = sym here ∙ e in
      unclosed q (content ++ piece) other rest stops cc

-- what the bytes of a text in quotes are
quoted_is : (q : ℕ) (text piece content rest : List ℕ) → text ≡ piece ++ rest → IsQuoted q piece content rest → text ≡ q ∷ (doubled q content ++ q ∷ rest)
quoted_is q text piece content rest e h = e ∙ ap (λ (xs : List ℕ). xs ++ rest) h.written ∙ quoted_text q content rest

module _ (q : ℕ) (text content new : List ℕ) (taken : TakesQuoted q text content new) where
  pub quoted_piece : IsText content → IsQuoted q (q ∷ doubled q content ++ q ∷ []) content new
  quoted_piece h = record { written = refl; ends = taken.ends; text = h }

  pub quoted_whole : text ≡ (q ∷ doubled q content ++ q ∷ []) ++ new
  quoted_whole = taken.whole ∙ sym (quoted_text q content new)

  -- any text in quotes here has this content
  pub quoted_same : (piece other rest : List ℕ) → text ≡ piece ++ rest → IsQuoted q piece other rest → content ≡ other
  quoted_same piece other rest e h =
      let both : q ∷ (doubled q content ++ q ∷ new) ≡ q ∷ (doubled q other ++ q ∷ rest) = sym taken.whole ∙ quoted_is q text piece other rest e h in
      (one_content q content other new rest taken.ends h.ends cc).0

module _ (text : List ℕ) (some : 1 ≤ length text) where
  module _ (starts : class_of (get_or text 0 0) ≡ class.Text) where
    pub text_open : IsUnclosed 39 text → BeginsNone text
    text_open open_ piece rest what e is = let w = of text some class.Text starts piece rest what e is in open_ w.0 rest w.1.ends (quoted_is 39 text piece w.0 rest e w.1)

    module _ (content new : List ℕ) (taken : TakesQuoted 39 text content new) where
      pub text_reads : IsText content → Takes text (Some (t.Text content)) new
      text_reads h = record { piece = 39 ∷ doubled 39 content ++ 39 ∷ []; whole = quoted_whole 39 text content new taken; is = quoted_piece 39 text content new taken h }

      pub text_bad : (IsText content → ⊥) → BeginsNone text
      text_bad none piece rest what e is =
          let w = of text some class.Text starts piece rest what e is in
          none (subst IsText (sym (quoted_same 39 text content new taken piece w.0 rest e w.1)) w.1.text)

  module _ (starts : class_of (get_or text 0 0) ≡ class.Name) where
    pub name_open : IsUnclosed 34 text → BeginsNone text
    name_open open_ piece rest what e is = let w = of text some class.Name starts piece rest what e is in open_ w.0 rest w.1.ends (quoted_is 34 text piece w.0 rest e w.1)

    module _ (content new : List ℕ) (taken : TakesQuoted 34 text content new) where
      pub name_reads : IsText content → 1 ≤ length content → length content ≤ 63 → Takes text (Some (t.Name content true)) new
      name_reads h least most = record { piece = 34 ∷ doubled 34 content ++ 34 ∷ []; whole = quoted_whole 34 text content new taken; is = (quoted_piece 34 text content new taken h, least, most) }

      pub name_bad : (IsText content → 1 ≤ length content → length content ≤ 63 → ⊥) → BeginsNone text
      name_bad none piece rest what e is =
          let w = of text some class.Name starts piece rest what e is in
          let same = quoted_same 34 text content new taken piece w.0 rest e w.1 in
          none (subst IsText (sym same) w.1.text) (subst (λ (xs : List ℕ). 1 ≤ length xs) (sym same) w.2) (subst (λ (xs : List ℕ). length xs ≤ 63) (sym same) w.3)

pub text_name : (content : List ℕ) → IsText content → 1 ≤ length content → length content ≤ 63 → is_name content ≡ true
text_name content h least most = let z = h.no_zero in grind (arith, nat_tests)

pub not_empty_list : (xs : List ℕ) → true ≡ (length xs == 0) → 1 ≤ length xs → ⊥
not_empty_list xs e h = grind (arith, nat_tests)
