-- The place where a client's message can't be read.
use Rattle.std.proofs.Common.{◌≡◌, ℕ, zero, suc, ◌-◌, ◌^◌, ◌<◌, ◌⊎◌, Bool, true, false, cond, eqb, List, [], ◌∷◌, ◌++◌, length, take, Option, Some, None, Result, Ok, Err, refl, sym, ap, subst, ◌∙◌, append_assoc, arith, inl, inr}
use Rattle.std.specs.List.{flat_map, AllByRecursion}
use Rattle.std.specs.Int.{w16, w32, to_be_bytes}
use Rattle.std.proofs.lemmas.Bool.{eqb-true}
use Rattle.std.proofs.lemmas.List.{append-nil}
use Rattle.pg_wire.specs.declared.front.Pair.{Pair}
use Rattle.pg_wire.specs.declared.front.Target.{Target}
use Rattle.pg_wire.specs.declared.front.Target.TheVariants as targets
use Rattle.pg_wire.specs.declared.front.Front.{Front}
use Rattle.pg_wire.specs.declared.front.Front.TheVariants as fronts
use Rattle.byte_reader.proofs.Widths.{be_wide32, number_takes, number_again}
use Rattle.byte_reader.proofs.Taken.{IsBytes}
use Rattle.byte_reader.proofs.Faults.{err_is, number_left}
use Rattle.byte_reader.proofs.Within.{Within, alone_within}
use Rattle.byte_reader.specs.Fields.{IsText, str, ◌>>=◌, be_number_at, str_at, alone}
use Rattle.pg_wire.specs.Parts.{pair_bytes, cell_bytes, IsWord, IsFormat, IsCell, AreCounted}
use Rattle.pg_wire.specs.Fronts.{IsParam, IsFront, target_byte, front_kind, front_body}
use Rattle.pg_wire.specs.Bodies.{◌followed_by◌, pair_at, format_at, cell_at, counted_at, listed_at, mapped, startup_at, parse_at, bind_at, target_at, targeted_at, execute_at, coded_at, front_at, front_read}
use Rattle.pg_wire.specs.Places.{joined, word_fields, format_fields, pair_fields, cell_fields, counted_fields, listed_fields, front_fields, IsFrontFault}
use Rattle.pg_wire.proofs.FrontMessages.{target_item, cancelled}
use Rattle.pg_wire.proofs.Within.{target_within, startup_within, within_mapped}
use Rattle.pg_wire.proofs.Placing.{Stops, Places, joined-append, single_places, both_places, alone_stops}
use Rattle.pg_wire.proofs.ListPlaces.{counted_places, listed_places}
use Rattle.pg_wire.proofs.FieldPlaces.{text_places, word_places, format_places, param_places, cell_places}
use Rattle.pg_wire.proofs.FaultPlaces.{counted_joined, listed_joined, unit_places, Faulty, no_faulty, faulty_or, faulty_of, is_place}

-- ---- fields are the body

pub word_joined : (n : ℕ) → to_be_bytes w32 n ≡ joined (word_fields n)
word_joined n = sym (append-nil (to_be_bytes w32 n))

format_joined : (n : ℕ) → to_be_bytes w16 n ≡ joined (format_fields n)
format_joined n = sym (append-nil (to_be_bytes w16 n))

pub pair_joined : (p : Pair) → pair_bytes p ≡ joined (pair_fields p)
pair_joined p = ap (λ (w : List ℕ). str p.name ++ w) (sym (append-nil (str p.value)))

pub cell_joined : (cell : _) → cell_bytes cell ≡ joined (cell_fields cell)
cell_joined None = sym (append-nil (to_be_bytes w32 4294967295))
cell_joined (Some bytes) = ap (λ (w : List ℕ). to_be_bytes w32 (length bytes) ++ w) (sym (append-nil bytes))

two_joined : (a b c d : List ℕ) → a ≡ c → b ≡ d → a ++ b ≡ c ++ d
two_joined a b c d e f = ap (λ (w : List ℕ). w ++ b) e ∙ ap (λ (w : List ℕ). c ++ w) f

three_joined : (a b c d : List ℕ) → c ≡ d → a ++ b ++ c ≡ a ++ (b ++ d)
three_joined a b c d e = append_assoc a b c ∙ ap (λ (w : List ℕ). a ++ (b ++ w)) e

pub front_joined : (m : Front) → front_body m ≡ joined (front_fields m)
front_joined (fronts.Startup params) =
    append_assoc (to_be_bytes w32 196608) (flat_map pair_bytes params) (0 ∷ []) ∙ ap (λ (w : List ℕ). to_be_bytes w32 196608 ++ w) (listed_joined pair_bytes pair_fields pair_joined params)
front_joined fronts.SslRequest = sym (append-nil (to_be_bytes w32 80877103))
front_joined fronts.GssRequest = sym (append-nil (to_be_bytes w32 80877104))
front_joined (fronts.Cancel process key) = three_joined (to_be_bytes w32 80877102) (to_be_bytes w32 process) (to_be_bytes w32 key) (to_be_bytes w32 key ++ []) (sym (append-nil (to_be_bytes w32 key)))
front_joined (fronts.Query text) = sym (append-nil (str text))
front_joined (fronts.Parse name text types) = three_joined (str name) (str text) _ (joined (counted_fields word_fields types)) (counted_joined (to_be_bytes w32) word_fields word_joined types)
front_joined (fronts.Bind portal name formats values results) =
    let first = str portal ∷ str name ∷ counted_fields format_fields formats in
    let second = counted_fields cell_fields values in
    let third = counted_fields format_fields results in
    two_joined _ _ (joined first ++ joined second) (joined third)
    (two_joined _ _ (joined first) (joined second) (three_joined (str portal) (str name) _ (joined (counted_fields format_fields formats)) (counted_joined (to_be_bytes w16) format_fields format_joined formats))
    (counted_joined cell_bytes cell_fields cell_joined values))
    (counted_joined (to_be_bytes w16) format_fields format_joined results)
    ∙ ap (λ (w : List ℕ). w ++ joined third) (sym (joined-append first second)) ∙ sym (joined-append (first ++ second) third)
front_joined (fronts.Describe target name) = ap (λ (w : List ℕ). target_byte target ∷ w) (sym (append-nil (str name)))
front_joined (fronts.Execute portal limit) = ap (λ (w : List ℕ). str portal ++ w) (sym (append-nil (to_be_bytes w32 limit)))
front_joined (fronts.Close target name) = ap (λ (w : List ℕ). target_byte target ∷ w) (sym (append-nil (str name)))
front_joined fronts.Sync = refl
front_joined fronts.Flush = refl
front_joined (fronts.Password bytes) = sym (append-nil bytes)
front_joined fronts.Terminate = refl

-- ---- what messages hold

abbrev told : Target → List ℕ → Result (Target × List ℕ) ℕ
told target rest = Ok (target, rest)

target_left : (bytes : List ℕ) (left : ℕ) → target_at bytes ≡ Err left → left ≡ length bytes
unfolding target_at
target_left [] left e = sym (err_is {A = Target × List ℕ} 0 left e)
target_left (b ∷ bytes) left e = by (eqb b 83) (eqb b 80) e where
  by : (s p : Bool) → cond s (told targets.Prepared bytes) (cond p (told targets.Portal bytes) (Err (length (b ∷ bytes)))) ≡ Err left → left ≡ length (b ∷ bytes)
  by true p h = absurd cc
  by false true h = absurd cc
  by false false h = sym (err_is {A = Target × List ℕ} (length (b ∷ bytes)) left h)

target_places : Places target_at (λ target. (target_byte target ∷ []) ∷ []) (λ target. Unit {0})
target_places = single_places target_item targets.Portal tt target_within target_left

targeted_places : Places (target_at followed_by str_at) (λ x. (target_byte x.0 ∷ []) ∷ str x.1 ∷ []) (λ x. Unit {0} × IsText x.1)
targeted_places = both_places target_places text_places

parse_places : Places (str_at followed_by str_at followed_by counted_at (be_number_at w32)) (λ x. str x.0.0 ∷ str x.0.1 ∷ counted_fields word_fields x.1) (λ x. (IsText x.0.0 × IsText x.0.1) × AreCounted IsWord x.1)
parse_places = both_places (both_places text_places text_places) (counted_places word_places)

bind_places : Places (str_at followed_by str_at followed_by counted_at format_at followed_by counted_at cell_at followed_by counted_at format_at)
    (λ x. (str x.0.0.0.0 ∷ str x.0.0.0.1 ∷ counted_fields format_fields x.0.0.1) ++ counted_fields cell_fields x.0.1 ++ counted_fields format_fields x.1)
    (λ x. (((IsText x.0.0.0.0 × IsText x.0.0.0.1) × AreCounted IsFormat x.0.0.1) × AreCounted IsCell x.0.1) × AreCounted IsFormat x.1)
bind_places = both_places (both_places (both_places (both_places text_places text_places) (counted_places format_places)) (counted_places cell_places)) (counted_places format_places)

execute_places : Places (str_at followed_by be_number_at w32) (λ x. str x.0 ∷ to_be_bytes w32 x.1 ∷ []) (λ x. IsText x.0 × IsWord x.1)
execute_places = both_places text_places word_places

pub words_places : Places (be_number_at w32 followed_by be_number_at w32) (λ x. to_be_bytes w32 x.0 ∷ to_be_bytes w32 x.1 ∷ []) (λ x. IsWord x.0 × IsWord x.1)
words_places = both_places word_places word_places

params_places : Places (listed_at pair_at) (listed_fields pair_fields) (AllByRecursion IsParam)
params_places = listed_places param_places

-- ---- where a fault stands

abbrev FrontFaulty : ℕ → List ℕ → Result (Front × List ℕ) ℕ → Type 0
FrontFaulty = Faulty Front IsFront front_kind front_fields

abbrev StandsSo : List ℕ → ℕ → Type 0
StandsSo body left = (left ≡ length body) ⊎ Stops front_fields (λ m. IsFront m × (0 ≡ front_kind m)) body left

-- a fault of what is read behind a code
record Coded (body : List ℕ) (code : ℕ) (rest : List ℕ) (read : Result (Front × List ℕ) ℕ) : Type 0 where
  stops : (left : ℕ) → (read >>= alone) ≡ Err left → body ≡ to_be_bytes w32 code ++ rest → StandsSo body left

no_coded : {body rest : List ℕ} {code : ℕ} → Coded body code rest (Err (length body))
no_coded {body} {rest} {code} = record { stops = λ left e parts. inl (sym (err_is {A = Front} (length body) left e)) }

coded_or : {body rest : List ℕ} {k code : ℕ} {read other : Result (Front × List ℕ) ℕ} → Coded body k rest read → Coded body code rest other → Coded body code rest (cond (eqb code k) read other)
coded_or {body} {rest} {k} {code} {read} {other} here there = record { stops = by (eqb code k) (eqb-true code k) } where
  by : (b : Bool) → (b ≡ true → code ≡ k) → (left : ℕ) → (cond b read other >>= alone) ≡ Err left → body ≡ to_be_bytes w32 code ++ rest → StandsSo body left
  by true same left e parts = here.stops left e (parts ∙ ap (λ (n : ℕ). to_be_bytes w32 n ++ rest) (same refl))
  by false same left e parts = there.stops left e parts

coded_of : {A : Type 0} {r : List ℕ → Result (A × List ℕ) ℕ} {fields : A → List (List ℕ)} {Fits : A → Type 0} (k : ℕ) (body rest : List ℕ) (made : A → Front) → IsBytes rest → Places r fields Fits
    → ((v : A) → Fits v → IsFront (made v) × (0 ≡ front_kind (made v)) × (front_fields (made v) ≡ to_be_bytes w32 k ∷ fields v)) → Coded body k rest (mapped made (r rest))
coded_of {A} {r} {fields} {Fits} k body rest made bs p shown = record { stops = by } where
  by : (left : ℕ) → (mapped made (r rest) >>= alone) ≡ Err left → body ≡ to_be_bytes w32 k ++ rest → StandsSo body left
  by left e parts =
      let s = alone_stops made p rest left bs e in
      let h = shown s.value s.fits in
      let begins : body ≡ joined (to_be_bytes w32 k ∷ s.front) ++ s.rest = parts ∙ ap (λ (w : List ℕ). to_be_bytes w32 k ++ w) s.begins ∙ sym (append_assoc (to_be_bytes w32 k) (joined s.front) s.rest) in
      let found : Stops front_fields (λ m. IsFront m × (0 ≡ front_kind m)) body left =
      record {
        value = made s.value;
        front = to_be_bytes w32 k ∷ s.front;
        behind = s.behind;
        rest = s.rest;
        fits = (h.0, h.1);
        cut = h.2 ∙ ap (λ (fs : List (List ℕ)). to_be_bytes w32 k ∷ fs) s.cut;
        begins = begins;
        at = s.at;
      } in
      inr found

code_coded : (body : List ℕ) (code : ℕ × List ℕ) → IsBytes code.1 → Coded body code.0 code.1 (coded_at (length body) code)
code_coded body code bs =
    coded_or (coded_of 196608 body code.1 fronts.Startup bs params_places (λ v h. (h, refl, refl)))
    (coded_or (coded_of 80877103 body code.1 (λ u. fronts.SslRequest) bs unit_places (λ v h. (tt, refl, refl)))
    (coded_or (coded_of 80877104 body code.1 (λ u. fronts.GssRequest) bs unit_places (λ v h. (tt, refl, refl)))
    (coded_or (coded_of 80877102 body code.1 cancelled bs words_places (λ v h. (h, refl, refl)))
    no_coded)))

startup_faulty : (body : List ℕ) → IsBytes body → FrontFaulty 0 body (startup_at body)
unfolding startup_at
startup_faulty body bs = record { stops = λ left e. by left (be_number_at w32 body) refl e } where
  by : (left : ℕ) (r : Result (ℕ × List ℕ) ℕ) → be_number_at w32 body ≡ r → ((r >>= coded_at (length body)) >>= alone) ≡ Err left → StandsSo body left
  by left (Err l) is e = inl (sym (err_is {A = Front} l left e) ∙ number_left w32 body l is)
  by left (Ok code) is e = let t = (number_takes w32 (2 ^ 32) be_wide32 body code bs is).0 in (code_coded body code t.rest_fits).stops left e t.parts

parse_faulty : (body : List ℕ) → IsBytes body → FrontFaulty 80 body (parse_at body)
unfolding parse_at
parse_faulty body bs = faulty_of 80 body (λ x. fronts.Parse x.0.0 x.0.1 x.1) bs parse_places (λ v h. (record { named = h.0.0; spelled = h.0.1; types_fit = h.1 }, refl, refl))

bind_faulty : (body : List ℕ) → IsBytes body → FrontFaulty 66 body (bind_at body)
unfolding bind_at
bind_faulty body bs =
    faulty_of 66 body (λ x. fronts.Bind x.0.0.0.0 x.0.0.0.1 x.0.0.1 x.0.1 x.1) bs bind_places
    (λ v h. (record { portal_named = h.0.0.0.0; named = h.0.0.0.1; formats_fit = h.0.0.1; values_fit = h.0.1; results_fit = h.1 }, refl, refl))

describe_faulty : (body : List ℕ) → IsBytes body → FrontFaulty 68 body (mapped (λ x. fronts.Describe x.0 x.1) (targeted_at body))
unfolding targeted_at
describe_faulty body bs = faulty_of 68 body (λ x. fronts.Describe x.0 x.1) bs targeted_places (λ v h. (h.1, refl, refl))

close_faulty : (body : List ℕ) → IsBytes body → FrontFaulty 67 body (mapped (λ x. fronts.Close x.0 x.1) (targeted_at body))
unfolding targeted_at
close_faulty body bs = faulty_of 67 body (λ x. fronts.Close x.0 x.1) bs targeted_places (λ v h. (h.1, refl, refl))

execute_faulty : (body : List ℕ) → IsBytes body → FrontFaulty 69 body (execute_at body)
unfolding execute_at
execute_faulty body bs = faulty_of 69 body (λ x. fronts.Execute x.0 x.1) bs execute_places (λ v h. (h, refl, refl))

password_faulty : (body : List ℕ) → FrontFaulty 112 body (Ok (fronts.Password body, []))
password_faulty body = record { stops = λ left e. absurd cc }

front_faulty : (kind : ℕ) (body : List ℕ) → IsBytes body → FrontFaulty kind body (front_at kind body)
front_faulty kind body bs =
    faulty_or (startup_faulty body bs)
    (faulty_or (faulty_of 81 body fronts.Query bs text_places (λ v h. (h, refl, refl)))
    (faulty_or (parse_faulty body bs)
    (faulty_or (bind_faulty body bs)
    (faulty_or (describe_faulty body bs)
    (faulty_or (execute_faulty body bs)
    (faulty_or (close_faulty body bs)
    (faulty_or (faulty_of 83 body (λ u. fronts.Sync) bs unit_places (λ v h. (tt, refl, refl)))
    (faulty_or (faulty_of 72 body (λ u. fronts.Flush) bs unit_places (λ v h. (tt, refl, refl)))
    (faulty_or (password_faulty body)
    (faulty_or (faulty_of 88 body (λ u. fronts.Terminate) bs unit_places (λ v h. (tt, refl, refl)))
    no_faulty))))))))))

-- ---- no message reaches further

startup_most : {A : Type 0} {r : List ℕ → Result (A × List ℕ) ℕ} {fields : A → List (List ℕ)} {Fits : A → Type 0} (k : ℕ) (made : A → Front) → k < 2 ^ 32 → ((len : ℕ) (rest : List ℕ) → coded_at len (k, rest) ≡ mapped made (r rest)) → Places r fields Fits
    → (v : A) (n : ℕ) (body rest : List ℕ) → Fits v → IsBytes body → body ≡ joined (take n (to_be_bytes w32 k ∷ fields v)) ++ rest → Within (length rest) (startup_at body)
unfolding startup_at
startup_most k made lt run p v zero body rest fits bs e = subst (λ (n : ℕ). Within n (startup_at body)) (ap length e) (startup_within body)
startup_most {A} {r} {fields} {Fits} k made lt run p v (suc n) body rest fits bs e =
    let more = joined (take n (fields v)) ++ rest in
    let parts : body ≡ to_be_bytes w32 k ++ more = e ∙ append_assoc (to_be_bytes w32 k) (joined (take n (fields v))) rest in
    let one : be_number_at w32 body ≡ Ok (k, more) = ap (be_number_at w32) parts ∙ number_again w32 (2 ^ 32) be_wide32 k more lt in
    let t = (number_takes w32 (2 ^ 32) be_wide32 body (k, more) bs one).0 in
    subst (λ (y : Result (ℕ × List ℕ) ℕ). Within (length rest) (y >>= coded_at (length body))) (sym one)
    (subst (λ (y : Result (Front × List ℕ) ℕ). Within (length rest) y) (sym (run (length body) more)) (within_mapped (length rest) made (r more) (p.most more rest v n fits t.rest_fits refl)))

parse_most : (name text types : List ℕ) (n : ℕ) (body rest : List ℕ) → IsFront (fronts.Parse name text types) → IsBytes body → body ≡ joined (take n (front_fields (fronts.Parse name text types))) ++ rest → Within (length rest) (parse_at body)
unfolding parse_at
parse_most name text types n body rest is bs e =
    within_mapped (length rest) (λ x. fronts.Parse x.0.0 x.0.1 x.1) ((str_at followed_by str_at followed_by counted_at (be_number_at w32)) body)
    (parse_places.most body rest ((name, text), types) n ((is.named, is.spelled), is.types_fit) bs e)

bind_most : (portal name formats : List ℕ) (values : List (Option (List ℕ))) (results : List ℕ) (n : ℕ) (body rest : List ℕ) → IsFront (fronts.Bind portal name formats values results) → IsBytes body
    → body ≡ joined (take n (front_fields (fronts.Bind portal name formats values results))) ++ rest → Within (length rest) (bind_at body)
unfolding bind_at
bind_most portal name formats values results n body rest is bs e =
    within_mapped (length rest) (λ x. fronts.Bind x.0.0.0.0 x.0.0.0.1 x.0.0.1 x.0.1 x.1) ((str_at followed_by str_at followed_by counted_at format_at followed_by counted_at cell_at followed_by counted_at format_at) body)
    (bind_places.most body rest ((((portal, name), formats), values), results) n ((((is.portal_named, is.named), is.formats_fit), is.values_fit), is.results_fit) bs e)

targeted_most : (target : Target) (name : List ℕ) (made : Target × List ℕ → Front) (n : ℕ) (body rest : List ℕ) → IsText name → IsBytes body → body ≡ joined (take n ((target_byte target ∷ []) ∷ str name ∷ [])) ++ rest
    → Within (length rest) (mapped made (targeted_at body))
unfolding targeted_at
targeted_most target name made n body rest is bs e = within_mapped (length rest) made ((target_at followed_by str_at) body) (targeted_places.most body rest (target, name) n (tt, is) bs e)

execute_most : (portal : List ℕ) (limit n : ℕ) (body rest : List ℕ) → IsText portal × IsWord limit → IsBytes body → body ≡ joined (take n (str portal ∷ to_be_bytes w32 limit ∷ [])) ++ rest → Within (length rest) (execute_at body)
unfolding execute_at
execute_most portal limit n body rest is bs e = within_mapped (length rest) (λ x. fronts.Execute x.0 x.1) ((str_at followed_by be_number_at w32) body) (execute_places.most body rest (portal, limit) n is bs e)

front_most : (m : Front) (n : ℕ) (body rest : List ℕ) → IsFront m → IsBytes body → body ≡ joined (take n (front_fields m)) ++ rest → Within (length rest) (front_at (front_kind m) body)
front_most (fronts.Startup params) n body rest is bs e = startup_most 196608 fronts.Startup (omega arith) (λ len rest'. refl) params_places params n body rest is bs e
front_most fronts.SslRequest n body rest is bs e = startup_most 80877103 (λ u. fronts.SslRequest) (omega arith) (λ len rest'. refl) unit_places (tt {0}) n body rest (tt {0}) bs e
front_most fronts.GssRequest n body rest is bs e = startup_most 80877104 (λ u. fronts.GssRequest) (omega arith) (λ len rest'. refl) unit_places (tt {0}) n body rest (tt {0}) bs e
front_most (fronts.Cancel process key) n body rest is bs e = startup_most 80877102 cancelled (omega arith) (λ len rest'. refl) words_places (process, key) n body rest is bs e
front_most (fronts.Query text) n body rest is bs e = within_mapped (length rest) fronts.Query (str_at body) (text_places.most body rest text n is bs e)
front_most (fronts.Parse name text types) n body rest is bs e = parse_most name text types n body rest is bs e
front_most (fronts.Bind portal name formats values results) n body rest is bs e = bind_most portal name formats values results n body rest is bs e
front_most (fronts.Describe target name) n body rest is bs e = targeted_most target name (λ x. fronts.Describe x.0 x.1) n body rest is bs e
front_most (fronts.Execute portal limit) n body rest is bs e = execute_most portal limit n body rest is bs e
front_most (fronts.Close target name) n body rest is bs e = targeted_most target name (λ x. fronts.Close x.0 x.1) n body rest is bs e
front_most fronts.Sync n body rest is bs e = within_mapped (length rest) (λ u. fronts.Sync) (Ok (tt {0}, body)) (unit_places.most body rest (tt {0}) n (tt {0}) bs e)
front_most fronts.Flush n body rest is bs e = within_mapped (length rest) (λ u. fronts.Flush) (Ok (tt {0}, body)) (unit_places.most body rest (tt {0}) n (tt {0}) bs e)
front_most (fronts.Password bytes) n body rest is bs e = omega arith
front_most fronts.Terminate n body rest is bs e = within_mapped (length rest) (λ u. fronts.Terminate) (Ok (tt {0}, body)) (unit_places.most body rest (tt {0}) n (tt {0}) bs e)

pub front_place : (kind : ℕ) (body : List ℕ) (left : ℕ) → IsBytes body → front_read kind body ≡ Err left → IsFrontFault kind body (length body - left)
unfolding front_read
front_place kind body left bs e =
    is_place kind body left ((front_faulty kind body bs).stops left e)
    (λ m n rest is k parts. alone_within (length rest) left (front_at kind body) (subst (λ (j : ℕ). Within (length rest) (front_at j body)) (sym k) (front_most m n body rest is bs parts)) e)
