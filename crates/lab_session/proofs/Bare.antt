-- A statement that needs no keys: it is sent as it is, and its reply is shown as it is.
use Rattle.std.proofs.Common.{◌≡◌, ℕ, ◌+◌, ◌≤◌, ◌^◌, ◌||◌, Bool, true, false, if◌then◌else◌, List, [], ◌∷◌, length, map, Option, Some, None, Result, refl, sym, ap, subst, ◌∙◌, arith, inl, inr}
use Rattle.std.specs.List.{AllByRecursion, list_any}
use Rattle.std.proofs.lemmas.List.{length-append}
use Rattle.rand_chacha.specs.ChaCha.{ChaCha}
use Rattle.hex.specs.Hex.{IsBytes}
use Rattle.acra_block.specs.Keys.{Key}
use Rattle.acra_block.specs.declared.keys.KeyView.{KeyView}
use Rattle.pg_wire.specs.declared.front.Front.{Front}
use Rattle.pg_wire.specs.declared.front.Front.TheVariants as fronts
use Rattle.pg_wire.specs.declared.back.Back.{Back}
use Rattle.pg_wire.specs.declared.back.Back.TheVariants as backs
use Rattle.sql_tree.specs.declared.statement.Item.{Item}
use Rattle.sql_tree.specs.declared.statement.Statement.{Statement}
use Rattle.sql_tree.specs.Canonical.{canon}
use Rattle.lab_backend.specs.Backend.{Lab}
use Rattle.session_model.specs.Served.{is_served, IsServed}
use Rattle.session_model.specs.Meanings.{has_short_strings}
use Rattle.session_model.specs.Requests.{Request}
use Rattle.session_model.specs.Rewritten.{written, rewritten, is_protected, protected_of}
use Rattle.session_model.proofs.Parts.{Served, Fits, items_of, tree_of, by_parts}
use Rattle.session_model.specs.Shown.{as_text, where_protected, shown_cell, shown_message}
use Rattle.lab_session.specs.Cells.{HasKey, opened_by}
use Rattle.lab_session.specs.Runs.{State, cell_for, drawn_for}
use Rattle.lab_session.specs.Leases.{needs_lease}
use Rattle.lab_session.specs.Session.{awaits_startup, Rests}
use Rattle.lab_session.specs.Relaying.{CanSend, ForwardGives}
use Rattle.lab_session.specs.Answering.{AnswerGives}
use Rattle.lab_session.proofs.Sending.{sent_is_text, sent_length}
use Rattle.lab_session.proofs.AnswerLaws.{statement_answered}

abbrev pub AreFalse : List Bool → Type 0
AreFalse ps = AllByRecursion (λ (b : Bool). b ≡ false) ps

pub record IsBare (tree : Statement) : Type 0 where
  pub as_is : (cell : List ℕ) → rewritten cell tree ≡ tree
  pub writes_none : written tree ≡ None
  pub shows_none : AreFalse (protected_of tree)

first_false : (a b : Bool) → (a || b) ≡ false → a ≡ false
first_false true b e = e
first_false false b e = refl

second_false : (a b : Bool) → (a || b) ≡ false → b ≡ false
second_false true b e = absurd cc
second_false false b e = e

none_protected : (items : List Item) → list_any is_protected items ≡ false → AreFalse (map is_protected items)
none_protected [] e = tt
none_protected (i ∷ is) e = (first_false (is_protected i) (list_any is_protected is) e, none_protected is (second_false (is_protected i) (list_any is_protected is) e))

abbrev BareWhere : Statement → Type 0
BareWhere tree = needs_lease tree ≡ false → IsBare tree

-- an INSERT writes its string
parts_bare : (v : Served) → Fits v → BareWhere (tree_of v)
parts_bare (Served.Selects chosen) fits e = record { as_is = λ cell. refl; writes_none = refl; shows_none = none_protected (items_of chosen) e }
parts_bare (Served.Inserts listed n text) fits e = absurd cc

pub is_bare : (tree : Statement) → is_served tree ≡ true → needs_lease tree ≡ false → IsBare tree
is_bare = by_parts BareWhere parts_bare

-- ---- how it is sent

no_bytes : IsBytes []
no_bytes i = omega arith

pub can_send_bare : (tree : Statement) (opening : Bool) → opening ≡ false → is_served tree ≡ true → IsBare tree → CanSend opening (fronts.Query (canon tree))
can_send_bare tree opening e is bare =
    let short = sent_length [] tree is in
    subst (λ (t : Statement). CanSend opening (fronts.Query (canon t))) (bare.as_is [])
    (
    let long = length-append (canon (rewritten [] tree)) (0 ∷ []) in
    subst (λ (b : Bool). CanSend b (fronts.Query (canon (rewritten [] tree)))) (sym e)
    (record { placed = tt; spelled = sent_is_text [] no_bytes tree is; framed = (refl, omega (arith, short, long), omega (arith, short, long)) })
    )

-- ---- how its reply is shown

none_shown : {A : Type 0} (change : A → A) (ps : List Bool) (items : List A) → AreFalse ps → where_protected change ps items ≡ items
none_shown change [] items h = refl
none_shown change (p ∷ ps) [] h = refl
none_shown change (p ∷ ps) (x ∷ xs) h = ap (λ (b : Bool). (if b then change x else x) ∷ where_protected change ps xs) h.0 ∙ ap (λ ys. x ∷ ys) (none_shown change ps xs h.1)

shown_as_is : (opened other : List ℕ → Option (List ℕ)) (ps : List Bool) → AreFalse ps → (m : Back) → shown_message opened [] m ≡ shown_message other ps m
shown_as_is opened other ps h (backs.Row fields) = ap backs.Row (sym (none_shown as_text ps fields h))
shown_as_is opened other ps h (backs.Cells cells) = ap backs.Cells (sym (none_shown (shown_cell other) ps cells h))
shown_as_is opened other ps h m = refl

pub bare_answered : {T E : Type 0} (keys : Key) (view : KeyView) (opened : List ℕ → Option (List ℕ)) (s : State) (lab : Lab) (text : List ℕ) (tree : Statement) (request : Front) (result : Result T E) (lab' : Lab) (old new : Option (List ℕ))
    → needs_lease tree ≡ false → HasKey view keys → (awaits_startup lab ≡ false) × IsServed tree × (has_short_strings tree ≡ true) → Rests keys lab s (awaits_startup lab) → request ≡ fronts.Query (canon tree)
    → ForwardGives (shown_message opened []) lab request result lab' old new → AnswerGives keys (awaits_startup lab) s (Request.Asks text tree) result s.coming lab' old new
bare_answered {T} {E} keys view opened s lab text tree request result lab' old new none has can rests er f =
    let bare = is_bare tree can.1.served none in
    let rests' = subst (λ (b : Bool). Rests keys lab s b) can.0 rests in
    let bytes : IsBytes (cell_for keys s.coming (written tree)) = subst (λ (o : Option (List ℕ)). IsBytes (cell_for keys s.coming o)) (sym bare.writes_none) no_bytes in
    let sent : request ≡ fronts.Query (canon (rewritten (cell_for keys s.coming (written tree)) tree)) = er ∙ ap (λ (t : Statement). fronts.Query (canon t)) (sym (bare.as_is (cell_for keys s.coming (written tree)))) in
    let show : shown_message opened [] ≡ shown_message (opened_by view) (protected_of tree) = λ i. λ m. shown_as_is opened (opened_by view) (protected_of tree) bare.shows_none m i in
    let f' = subst (λ (q : Front). ForwardGives (shown_message (opened_by view) (protected_of tree)) lab q result lab' old new) sent (subst (λ (how : Back → Back). ForwardGives how lab request result lab' old new) show f) in
    subst (λ (b : Bool). AnswerGives keys b s (Request.Asks text tree) result s.coming lab' old new) (sym can.0)
    (statement_answered keys s lab text tree (protected_of tree) rests' can.1 can.2 bytes refl view has result s.coming lab' old new f' (sym (ap (drawn_for s.coming) bare.writes_none)))
