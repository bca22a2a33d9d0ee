-- What follows a client's message, by its kind.
use Rattle.std.proofs.Common.{◌≡◌, ℕ, ◌==◌, ◌≤◌, List, length, Result, Ok, Err, Bool, true, false, refl, sym, ap, subst, ◌∙◌}
use Rattle.std.specs.Prelude.{if◌then◌else◌}
use Rattle.std.specs.Int.{w32}
use Rattle.byte_reader.specs.Fields.{◌>>=◌, be_number_at, str_at, alone}
use Rattle.pg_wire.specs.declared.front.Front.{Front}
use Rattle.pg_wire.specs.declared.front.Front.TheVariants as fronts
use Rattle.pg_wire.specs.Bodies.{◌followed_by◌, pair_at, format_at, cell_at, target_at, targeted_at, counted_at, listed_at, coded_at, startup_at, parse_at, bind_at, execute_at, front_at, front_read}
use Rattle.pg_wire.proofs.Within.{front_left}
use Rattle.wire_views.specs.declared.fields.Field.TheVariants as field
use Rattle.wire_views.specs.Passing.{past, Passes, field_past, counted_past, parse_past, bind_past, targeted_past, execute_past, coded_past, startup_past}
use Rattle.wire_views.proofs.Bypassed.{past_mapped, counted, listed, whole_by, more_by, cut_by}

abbrev Passed : Type 0
Passed = Result (List ℕ) ℕ

-- a field, and another one behind it
module _ {A B : Type 0} (item : List ℕ → Result (A × List ℕ) ℕ) (other : List ℕ → Result (B × List ℕ) ℕ) where
  second_by : (x : A) (read : Result (B × List ℕ) ℕ) → past {A = A × B} (read >>= λ y. Ok ((x, y.0), y.1)) ≡ past read
  second_by x (Ok y) = refl
  second_by x (Err left) = refl

  both_by : (read : Result (A × List ℕ) ℕ) → past {A = A × B} (read >>= λ x. other x.1 >>= λ y. Ok ((x.0, y.0), y.1)) ≡ (past read >>= λ rest. past (other rest))
  both_by (Ok x) = second_by x.0 (other x.1)
  both_by (Err left) = refl

  pub both : (bytes : List ℕ) → past ((item followed_by other) bytes) ≡ (past (item bytes) >>= λ rest. past (other rest))
  both bytes = both_by (item bytes)

-- a step that is the same
then_same : (read : Passed) (f g : List ℕ → Passed) → ((rest : List ℕ) → f rest ≡ g rest) → (read >>= f) ≡ (read >>= g)
then_same (Ok rest) f g h = h rest
then_same (Err left) f g h = refl

nested : (read : Passed) (f g : List ℕ → Passed) → ((read >>= f) >>= g) ≡ (read >>= λ rest. f rest >>= g)
nested (Ok rest) f g = refl
nested (Err left) f g = refl

pub parse : (bytes : List ℕ) → past (parse_at bytes) ≡ parse_past bytes
unfolding parse_at
parse bytes =
    past_mapped (λ x. fronts.Parse x.0.0 x.0.1 x.1) ((str_at followed_by str_at followed_by counted_at (be_number_at w32)) bytes)
    ∙ both (str_at followed_by str_at) (counted_at (be_number_at w32)) bytes ∙ ap (λ (r : Passed). r >>= λ rest. past (counted_at (be_number_at w32) rest)) (both str_at str_at bytes)
    ∙ nested (past (str_at bytes)) (λ rest. past (str_at rest)) (λ rest. past (counted_at (be_number_at w32) rest))
    ∙ then_same (past (str_at bytes)) _ _ (λ rest. then_same (past (str_at rest)) _ _ (counted (be_number_at w32)))

abbrev Last : List ℕ → Passed
Last rest = past (counted_at format_at rest)

abbrev Values : List ℕ → Passed
Values rest = past (counted_at cell_at rest)

pub bind : (bytes : List ℕ) → past (bind_at bytes) ≡ bind_past bytes
unfolding bind_at
bind bytes =
    past_mapped (λ x. fronts.Bind x.0.0.0.0 x.0.0.0.1 x.0.0.1 x.0.1 x.1)
    ((str_at followed_by str_at followed_by counted_at format_at followed_by counted_at cell_at followed_by counted_at format_at) bytes)
    ∙ both (str_at followed_by str_at followed_by counted_at format_at followed_by counted_at cell_at) (counted_at format_at) bytes
    ∙ ap (λ (r : Passed). r >>= Last) (both (str_at followed_by str_at followed_by counted_at format_at) (counted_at cell_at) bytes)
    ∙ ap (λ (r : Passed). (r >>= Values) >>= Last) (both (str_at followed_by str_at) (counted_at format_at) bytes)
    ∙ ap (λ (r : Passed). ((r >>= Last) >>= Values) >>= Last) (both str_at str_at bytes)
    ∙ by (past (str_at bytes))
  where
    by : (read : Passed) → ((((read >>= λ r. past (str_at r)) >>= Last) >>= Values) >>= Last)
        ≡ (read >>= λ r. field_past field.Text r >>= λ formats. counted_past (field_past field.Format) formats >>= λ cells. counted_past (field_past field.Cell) cells >>= counted_past (field_past field.Format))
    by (Err left) = refl
    by (Ok rest) =
        nested (past (str_at rest) >>= Last) Values Last ∙ nested (past (str_at rest)) Last (λ r. Values r >>= Last)
        ∙ then_same (past (str_at rest)) _ _ (λ r.
        ap (λ (x : Passed). x >>= λ c. Values c >>= Last) (counted format_at r)
        ∙ then_same (counted_past (field_past field.Format) r) _ _ (λ c. ap (λ (x : Passed). x >>= Last) (counted cell_at c) ∙ then_same (counted_past (field_past field.Cell) c) _ _ (counted format_at)))

pub targeted : (bytes : List ℕ) → past (targeted_at bytes) ≡ targeted_past bytes
unfolding targeted_at
targeted bytes = both target_at str_at bytes

pub execute : (bytes : List ℕ) → past (execute_at bytes) ≡ execute_past bytes
unfolding execute_at
execute bytes = past_mapped (λ x. fronts.Execute x.0 x.1) ((str_at followed_by be_number_at w32) bytes) ∙ both str_at (be_number_at w32) bytes

past_if : {A : Type 0} (test : Bool) (a b : Result (A × List ℕ) ℕ) → past (if test then a else b) ≡ if test then past a else past b
past_if true a b = refl
past_if false a b = refl

if_same : {A : Type 0} (test : Bool) (a b c d : A) → a ≡ c → b ≡ d → (if test then a else b) ≡ if test then c else d
if_same true a b c d e f = e
if_same false a b c d e f = f

coded : (len : ℕ) (code : ℕ × List ℕ) → past (coded_at len code) ≡ coded_past len code
coded len code =
    past_if (code.0 == 196608) _ _ ∙ if_same (code.0 == 196608) _ _ _ _ (past_mapped fronts.Startup (listed_at pair_at code.1) ∙ listed pair_at code.1)
    (past_if (code.0 == 80877103) _ _ ∙ if_same (code.0 == 80877103) _ _ _ _ refl
    (past_if (code.0 == 80877104) _ _ ∙ if_same (code.0 == 80877104) _ _ _ _ refl
    (past_if (code.0 == 80877102) _ _ ∙ if_same (code.0 == 80877102) _ _ _ _
    (past_mapped (λ x. fronts.Cancel x.0 x.1) ((be_number_at w32 followed_by be_number_at w32) code.1) ∙ both (be_number_at w32) (be_number_at w32) code.1) refl)))

pub startup : (bytes : List ℕ) → past (startup_at bytes) ≡ startup_past bytes
unfolding startup_at
startup bytes = by (be_number_at w32 bytes)
  where
    by : (read : Result (ℕ × List ℕ) ℕ) → past (read >>= coded_at (length bytes)) ≡ (read >>= coded_past (length bytes))
    by (Ok code) = coded (length bytes) code
    by (Err left) = refl

-- ---- by its kind

module _ {X : Type 0} (rest : X → List ℕ) (result : Result X ℕ) (body : List ℕ) where
  pub in_startup : (kind : ℕ) → kind ≡ 0 → Passes rest result (startup_past body) → Passes rest result (past (front_at kind body))
  in_startup kind e h = subst (Passes rest result) (sym (ap (λ k. past (front_at k body)) e ∙ startup body)) h

  pub in_parse : (kind : ℕ) → kind ≡ 80 → Passes rest result (parse_past body) → Passes rest result (past (front_at kind body))
  in_parse kind e h = subst (Passes rest result) (sym (ap (λ k. past (front_at k body)) e ∙ parse body)) h

  pub in_bind : (kind : ℕ) → kind ≡ 66 → Passes rest result (bind_past body) → Passes rest result (past (front_at kind body))
  in_bind kind e h = subst (Passes rest result) (sym (ap (λ k. past (front_at k body)) e ∙ bind body)) h

  pub in_describe : (kind : ℕ) → kind ≡ 68 → Passes rest result (targeted_past body) → Passes rest result (past (front_at kind body))
  in_describe kind e h = subst (Passes rest result) (sym (ap (λ k. past (front_at k body)) e ∙ past_mapped (λ x. fronts.Describe x.0 x.1) (targeted_at body) ∙ targeted body)) h

  pub in_close : (kind : ℕ) → kind ≡ 67 → Passes rest result (targeted_past body) → Passes rest result (past (front_at kind body))
  in_close kind e h = subst (Passes rest result) (sym (ap (λ k. past (front_at k body)) e ∙ past_mapped (λ x. fronts.Close x.0 x.1) (targeted_at body) ∙ targeted body)) h

  pub in_execute : (kind : ℕ) → kind ≡ 69 → Passes rest result (execute_past body) → Passes rest result (past (front_at kind body))
  in_execute kind e h = subst (Passes rest result) (sym (ap (λ k. past (front_at k body)) e ∙ execute body)) h

-- ---- the whole body

read_by : (kind : ℕ) (body : List ℕ) → front_read kind body ≡ (front_at kind body >>= alone)
unfolding front_read
read_by kind body = refl

module _ (kind : ℕ) (body : List ℕ) where
  pub front_whole : (rest : List ℕ) → past (front_at kind body) ≡ Ok rest → (length rest == 0) ≡ true → (m : Front) × (front_read kind body ≡ Ok m)
  front_whole rest e none = let w = whole_by (front_at kind body) rest e none in (w.0, read_by kind body ∙ w.1)

  abbrev Fails : ℕ → Type 0
  Fails left = (left ≤ length body) × (front_read kind body ≡ Err left)

  fails : (left : ℕ) → front_read kind body ≡ Err left → Fails left
  fails left e = (front_left kind body left e, e)

  pub front_more : (rest : List ℕ) → past (front_at kind body) ≡ Ok rest → (length rest == 0) ≡ false → Fails (length rest)
  front_more rest e some = fails (length rest) (read_by kind body ∙ more_by (front_at kind body) rest e some)

  pub front_cut : (left : ℕ) → past (front_at kind body) ≡ Err left → Fails left
  front_cut left e = fails left (read_by kind body ∙ cut_by (front_at kind body) left e)
