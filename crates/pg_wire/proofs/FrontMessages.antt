-- A client's message that is read is spelled so, and what is spelled so is read.
use Rattle.std.proofs.Common.{◌≡◌, ℕ, suc, ◌^◌, ◌<◌, Bool, true, false, cond, eqb, List, [], ◌∷◌, ◌++◌, length, Result, Ok, Err, refl, sym, ap, subst, ◌∙◌, append_assoc, arith}
use Rattle.std.specs.List.{flat_map, AllByRecursion}
use Rattle.std.specs.Int.{w16, w32, to_be_bytes}
use Rattle.std.proofs.lemmas.Bool.{eqb-true}
use Rattle.std.proofs.lemmas.List.{append-nil}
use Rattle.pg_wire.specs.declared.front.Pair.{Pair}
use Rattle.pg_wire.specs.declared.front.Target.{Target}
use Rattle.pg_wire.specs.declared.front.Target.TheVariants as targets
use Rattle.pg_wire.specs.declared.front.Front.{Front}
use Rattle.pg_wire.specs.declared.front.Front.TheVariants as fronts
use Rattle.byte_reader.proofs.Widths.{be_wide32, number_takes, number_again}
use Rattle.byte_reader.proofs.Steps.{bind_ok, ok_is}
use Rattle.byte_reader.proofs.Taken.{IsBytes, Takes, Takes-then}
use Rattle.byte_reader.proofs.Texts.{str_takes, str_again}
use Rattle.byte_reader.specs.Fields.{IsText, str, ◌>>=◌, be_number_at, str_at, alone}
use Rattle.pg_wire.specs.Parts.{pair_bytes, IsWord, IsFormat, IsCell, cell_bytes, AreCounted, counted_items, listed_items}
use Rattle.pg_wire.specs.Fronts.{IsParam, IsFront, target_byte, front_kind, front_body}
use Rattle.pg_wire.specs.Reading.{SpellsFront}
use Rattle.pg_wire.specs.Bodies.{◌followed_by◌, pair_at, format_at, cell_at, counted_at, listed_at, mapped, startup_at, parse_at, bind_at, target_at, targeted_at, execute_at, coded_at, front_at, front_read}
use Rattle.pg_wire.proofs.Items.{IsItem, both_item, counted_item, listed_takes, listed_again}
use Rattle.pg_wire.proofs.RowLaws.{str_item, word_item, format_item, cell_item, param_item}
use Rattle.pg_wire.proofs.Arms.{Arm, arm_or, no_arm, arm_of, whole, read_alone, made_alone}

abbrev FrontArm : ℕ → List ℕ → Result (Front × List ℕ) ℕ → Type 0
FrontArm = Arm Front IsFront front_kind front_body

-- ---- fields of several messages

target_takes : (bytes : List ℕ) (x : Target × List ℕ) → IsBytes bytes → target_at bytes ≡ Ok x → Takes bytes (target_byte x.0 ∷ []) x.1 × Unit {0}
unfolding target_at
target_takes [] x fits e = absurd cc
target_takes (b ∷ bytes) x fits e = by (eqb b 83) (eqb b 80) (eqb-true _ _) (eqb-true _ _) e where
  by : (s p : Bool) → (s ≡ true → b ≡ 83) → (p ≡ true → b ≡ 80) → cond s (Ok (targets.Prepared, bytes)) (cond p (Ok (targets.Portal, bytes)) (Err (length (b ∷ bytes)))) ≡ Ok x
      → Takes (b ∷ bytes) (target_byte x.0 ∷ []) x.1 × Unit {0}
  by true p is-s is-p h = subst (λ (y : Target × List ℕ). Takes (b ∷ bytes) (target_byte y.0 ∷ []) y.1 × Unit {0}) (ok_is (targets.Prepared, bytes) x h) (record { parts = ap (λ (n : ℕ). n ∷ bytes) (is-s refl); rest_fits = λ i. fits (suc i) }, tt)
  by false true is-s is-p h = subst (λ (y : Target × List ℕ). Takes (b ∷ bytes) (target_byte y.0 ∷ []) y.1 × Unit {0}) (ok_is (targets.Portal, bytes) x h) (record { parts = ap (λ (n : ℕ). n ∷ bytes) (is-p refl); rest_fits = λ i. fits (suc i) }, tt)
  by false false is-s is-p h = absurd cc

target_again : (x : Target) (rest : List ℕ) → Unit {0} → target_at ((target_byte x ∷ []) ++ rest) ≡ Ok (x, rest)
unfolding target_at
target_again targets.Prepared rest is = refl
target_again targets.Portal rest is = refl

pub target_item : IsItem target_at (λ x. target_byte x ∷ []) (λ x. Unit {0})
target_item = record { takes = target_takes; again = target_again }

parse_item : IsItem (str_at followed_by str_at followed_by counted_at (be_number_at w32)) (λ x. str x.0.0 ++ str x.0.1 ++ counted_items (to_be_bytes w32) x.1) (λ x. (IsText x.0.0 × IsText x.0.1) × AreCounted IsWord x.1)
parse_item = both_item (both_item str_item str_item) (counted_item word_item)

bind_item : IsItem (str_at followed_by str_at followed_by counted_at format_at followed_by counted_at cell_at followed_by counted_at format_at)
    (λ x. str x.0.0.0.0 ++ str x.0.0.0.1 ++ counted_items (to_be_bytes w16) x.0.0.1 ++ counted_items cell_bytes x.0.1 ++ counted_items (to_be_bytes w16) x.1)
    (λ x. (((IsText x.0.0.0.0 × IsText x.0.0.0.1) × AreCounted IsFormat x.0.0.1) × AreCounted IsCell x.0.1) × AreCounted IsFormat x.1)
bind_item = both_item (both_item (both_item (both_item str_item str_item) (counted_item format_item)) (counted_item cell_item)) (counted_item format_item)

targeted_item : IsItem (target_at followed_by str_at) (λ x. (target_byte x.0 ∷ []) ++ str x.1) (λ x. Unit {0} × IsText x.1)
targeted_item = both_item target_item str_item

execute_item : IsItem (str_at followed_by be_number_at w32) (λ x. str x.0 ++ to_be_bytes w32 x.1) (λ x. IsText x.0 × IsWord x.1)
execute_item = both_item str_item word_item

cancel_item : IsItem (be_number_at w32 followed_by be_number_at w32) (λ x. to_be_bytes w32 x.0 ++ to_be_bytes w32 x.1) (λ x. IsWord x.0 × IsWord x.1)
cancel_item = both_item word_item word_item

-- ---- startup packets

-- what is read behind a code is a startup packet that begins with the code
record Coded (body : List ℕ) (code : ℕ) (rest : List ℕ) (read : Result (Front × List ℕ) ℕ) : Type 0 where
  spells : (x : Front × List ℕ) → read ≡ Ok x → Takes body (to_be_bytes w32 code) rest → IsFront x.0 × (0 ≡ front_kind x.0) × Takes body (front_body x.0) x.1

coded_or : {body rest : List ℕ} {k code : ℕ} {read other : Result (Front × List ℕ) ℕ} → Coded body k rest read → Coded body code rest other → Coded body code rest (cond (eqb code k) read other)
coded_or {body} {rest} {k} {code} {read} {other} here there = record { spells = by (eqb code k) (eqb-true code k) } where
  by : (b : Bool) → (b ≡ true → code ≡ k) → (x : Front × List ℕ) → cond b read other ≡ Ok x → Takes body (to_be_bytes w32 code) rest → IsFront x.0 × (0 ≡ front_kind x.0) × Takes body (front_body x.0) x.1
  by true same x e t = here.spells x e (subst (λ (n : ℕ). Takes body (to_be_bytes w32 n) rest) (same refl) t)
  by false same x e t = there.spells x e t

no_coded : {body rest : List ℕ} {code left : ℕ} → Coded body code rest (Err left)
no_coded = record { spells = λ x e t. absurd cc }

opened_coded : (body rest : List ℕ) → Coded body 196608 rest (mapped fronts.Startup (listed_at pair_at rest))
opened_coded body rest = record { spells = by } where
  by : (x : Front × List ℕ) → mapped fronts.Startup (listed_at pair_at rest) ≡ Ok x → Takes body (to_be_bytes w32 196608) rest → IsFront x.0 × (0 ≡ front_kind x.0) × Takes body (front_body x.0) x.1
  by x e t =
      let a = bind_ok (listed_at pair_at rest) (λ y. Ok (fronts.Startup y.0, y.1)) x e in
      let u = listed_takes pair_at pair_bytes IsParam param_item rest a.0 t.rest_fits a.1 in
      let both = Takes-then body (to_be_bytes w32 196608) rest (listed_items pair_bytes a.0.0) a.0.1 t u.0 in
      let regrouped : to_be_bytes w32 196608 ++ listed_items pair_bytes a.0.0 ≡ front_body (fronts.Startup a.0.0) = sym (append_assoc (to_be_bytes w32 196608) (flat_map pair_bytes a.0.0) (0 ∷ [])) in
      subst (λ (y : Front × List ℕ). IsFront y.0 × (0 ≡ front_kind y.0) × Takes body (front_body y.0) y.1) (ok_is (fronts.Startup a.0.0, a.0.1) x a.2) (u.1, refl, subst (λ (w : List ℕ). Takes body w a.0.1) regrouped both)

ssl_coded : (body rest : List ℕ) → Coded body 80877103 rest (Ok (fronts.SslRequest, rest))
ssl_coded body rest = record { spells = λ x e t. subst (λ (y : Front × List ℕ). IsFront y.0 × (0 ≡ front_kind y.0) × Takes body (front_body y.0) y.1) (ok_is (fronts.SslRequest, rest) x e) (tt, refl, t) }

gss_coded : (body rest : List ℕ) → Coded body 80877104 rest (Ok (fronts.GssRequest, rest))
gss_coded body rest = record { spells = λ x e t. subst (λ (y : Front × List ℕ). IsFront y.0 × (0 ≡ front_kind y.0) × Takes body (front_body y.0) y.1) (ok_is (fronts.GssRequest, rest) x e) (tt, refl, t) }

-- what a CancelRequest holds
abbrev pub cancelled : ℕ × ℕ → Front
cancelled x = fronts.Cancel x.0 x.1

cancel_coded : (body rest : List ℕ) → Coded body 80877102 rest (mapped cancelled ((be_number_at w32 followed_by be_number_at w32) rest))
cancel_coded body rest = record { spells = by } where
  by : (x : Front × List ℕ) → mapped cancelled ((be_number_at w32 followed_by be_number_at w32) rest) ≡ Ok x → Takes body (to_be_bytes w32 80877102) rest → IsFront x.0 × (0 ≡ front_kind x.0) × Takes body (front_body x.0) x.1
  by x e t =
      let a = bind_ok ((be_number_at w32 followed_by be_number_at w32) rest) (λ y. Ok (cancelled y.0, y.1)) x e in
      let u = cancel_item.takes rest a.0 t.rest_fits a.1 in
      let both = Takes-then body (to_be_bytes w32 80877102) rest (to_be_bytes w32 a.0.0.0 ++ to_be_bytes w32 a.0.0.1) a.0.1 t u.0 in
      let regrouped : to_be_bytes w32 80877102 ++ (to_be_bytes w32 a.0.0.0 ++ to_be_bytes w32 a.0.0.1) ≡ front_body (cancelled a.0.0) = sym (append_assoc (to_be_bytes w32 80877102) (to_be_bytes w32 a.0.0.0) (to_be_bytes w32 a.0.0.1)) in
      subst (λ (y : Front × List ℕ). IsFront y.0 × (0 ≡ front_kind y.0) × Takes body (front_body y.0) y.1) (ok_is (cancelled a.0.0, a.0.1) x a.2) (u.1, refl, subst (λ (w : List ℕ). Takes body w a.0.1) regrouped both)

code_coded : (body : List ℕ) (len : ℕ) (code : ℕ × List ℕ) → Coded body code.0 code.1 (coded_at len code)
code_coded body len code = coded_or (opened_coded body code.1) (coded_or (ssl_coded body code.1) (coded_or (gss_coded body code.1) (coded_or (cancel_coded body code.1) no_coded)))

startup_arm : (body : List ℕ) → IsBytes body → FrontArm 0 body (startup_at body)
unfolding startup_at
startup_arm body fits = record { spells = by } where
  by : (x : Front × List ℕ) → (be_number_at w32 body >>= coded_at (length body)) ≡ Ok x → IsFront x.0 × (0 ≡ front_kind x.0) × Takes body (front_body x.0) x.1
  by x e =
      let a = bind_ok (be_number_at w32 body) (coded_at (length body)) x e in
      (code_coded body (length body) a.0).spells x a.2 (number_takes w32 (2 ^ 32) be_wide32 body a.0 fits a.1).0

-- ---- messages with a type byte

parse_arm : (body : List ℕ) → IsBytes body → FrontArm 80 body (parse_at body)
unfolding parse_at
parse_arm body fits =
    arm_of 80 body (λ x. fronts.Parse x.0.0 x.0.1 x.1) ((str_at followed_by str_at followed_by counted_at (be_number_at w32)) body)
    (λ x e. let t = parse_item.takes body x fits e in (record { named = t.1.0.0; spelled = t.1.0.1; types_fit = t.1.1 }, refl, t.0))

bind_arm : (body : List ℕ) → IsBytes body → FrontArm 66 body (bind_at body)
unfolding bind_at
bind_arm body fits =
    arm_of 66 body (λ x. fronts.Bind x.0.0.0.0 x.0.0.0.1 x.0.0.1 x.0.1 x.1) ((str_at followed_by str_at followed_by counted_at format_at followed_by counted_at cell_at followed_by counted_at format_at) body)
    (λ x e. let t = bind_item.takes body x fits e in (record { portal_named = t.1.0.0.0.0; named = t.1.0.0.0.1; formats_fit = t.1.0.0.1; values_fit = t.1.0.1; results_fit = t.1.1 }, refl, t.0))

describe_arm : (body : List ℕ) → IsBytes body → FrontArm 68 body (mapped (λ x. fronts.Describe x.0 x.1) (targeted_at body))
unfolding targeted_at
describe_arm body fits = arm_of 68 body (λ x. fronts.Describe x.0 x.1) ((target_at followed_by str_at) body) (λ x e. let t = targeted_item.takes body x fits e in (t.1.1, refl, t.0))

close_arm : (body : List ℕ) → IsBytes body → FrontArm 67 body (mapped (λ x. fronts.Close x.0 x.1) (targeted_at body))
unfolding targeted_at
close_arm body fits = arm_of 67 body (λ x. fronts.Close x.0 x.1) ((target_at followed_by str_at) body) (λ x e. let t = targeted_item.takes body x fits e in (t.1.1, refl, t.0))

execute_arm : (body : List ℕ) → IsBytes body → FrontArm 69 body (execute_at body)
unfolding execute_at
execute_arm body fits = arm_of 69 body (λ x. fronts.Execute x.0 x.1) ((str_at followed_by be_number_at w32) body) (λ x e. let t = execute_item.takes body x fits e in (t.1, refl, t.0))

-- a message of which all is this text
just_arm : (k : ℕ) (m : Front) (body rest : List ℕ) → IsFront m → k ≡ front_kind m → Takes body (front_body m) rest → FrontArm k body (Ok (m, rest))
just_arm k m body rest is kind t = record { spells = λ x e. subst (λ (y : Front × List ℕ). IsFront y.0 × (k ≡ front_kind y.0) × Takes body (front_body y.0) y.1) (ok_is (m, rest) x e) (is, kind, t) }

front_arms : (kind : ℕ) (body : List ℕ) → IsBytes body → FrontArm kind body (front_at kind body)
front_arms kind body fits =
    let none : Takes body [] body = record { parts = refl; rest_fits = fits } in
    let all : Takes body body [] = record { parts = sym (append-nil body); rest_fits = λ i. omega arith } in
    arm_or (startup_arm body fits)
    (arm_or (arm_of 81 body fronts.Query (str_at body) (λ x e. let t = str_takes body x fits e in (t.1, refl, t.0)))
    (arm_or (parse_arm body fits)
    (arm_or (bind_arm body fits)
    (arm_or (describe_arm body fits)
    (arm_or (execute_arm body fits)
    (arm_or (close_arm body fits)
    (arm_or (just_arm 83 fronts.Sync body body tt refl none)
    (arm_or (just_arm 72 fronts.Flush body body tt refl none)
    (arm_or (just_arm 112 (fronts.Password body) body [] tt refl all)
    (arm_or (just_arm 88 fronts.Terminate body body tt refl none)
    no_arm))))))))))

pub front_spelled : (kind : ℕ) (body : List ℕ) (m : Front) → IsBytes body → front_read kind body ≡ Ok m → SpellsFront kind body m
unfolding front_read
front_spelled kind body m fits e = whole (front_arms kind body fits) m e

-- ---- and back

-- a code is read, and what is behind it
code_again : (code : ℕ) (text : List ℕ) (x : Front × List ℕ) → code < 2 ^ 32 → coded_at (length (to_be_bytes w32 code ++ text)) (code, text) ≡ Ok x → startup_at (to_be_bytes w32 code ++ text) ≡ Ok x
unfolding startup_at
code_again code text x lt e =
    ap (λ (r : Result (ℕ × List ℕ) ℕ). r >>= coded_at (length (to_be_bytes w32 code ++ text))) (number_again w32 (2 ^ 32) be_wide32 code text lt) ∙ e

startup_again : (params : List Pair) → AllByRecursion IsParam params → startup_at (front_body (fronts.Startup params)) ≡ Ok (fronts.Startup params, [])
startup_again params is =
    let text = listed_items pair_bytes params in
    let two : listed_at pair_at text ≡ Ok (params, []) = read_alone (listed_at pair_at) text params (listed_again pair_at pair_bytes IsParam param_item params [] is) in
    ap startup_at (append_assoc (to_be_bytes w32 196608) (flat_map pair_bytes params) (0 ∷ [])) ∙ code_again 196608 text (fronts.Startup params, []) (omega arith) (ap (mapped fronts.Startup) two)

cancel_again : (process key : ℕ) → process < 2 ^ 32 → key < 2 ^ 32 → startup_at (front_body (fronts.Cancel process key)) ≡ Ok (fronts.Cancel process key, [])
cancel_again process key p k =
    let text = to_be_bytes w32 process ++ to_be_bytes w32 key in
    let two : (be_number_at w32 followed_by be_number_at w32) text ≡ Ok ((process, key), []) = read_alone (be_number_at w32 followed_by be_number_at w32) text (process, key) (cancel_item.again (process, key) [] (p, k)) in
    ap startup_at (append_assoc (to_be_bytes w32 80877102) (to_be_bytes w32 process) (to_be_bytes w32 key)) ∙ code_again 80877102 text (fronts.Cancel process key, []) (omega arith) (ap (mapped cancelled) two)

-- what is spelled as an item is read as it
item_alone : {A : Type 0} {item : List ℕ → Result (A × List ℕ) ℕ} {spell : A → List ℕ} {Fits : A → Type 0} (made : A → Front) → IsItem item spell Fits → (x : A) → Fits x → (mapped made (item (spell x)) >>= alone) ≡ Ok (made x)
item_alone {A} {item} {spell} {Fits} made is x fits = made_alone made (item (spell x)) x (read_alone item (spell x) x (is.again x [] fits))

parse_again : (name text : List ℕ) (types : List ℕ) → IsFront (fronts.Parse name text types) → (parse_at (front_body (fronts.Parse name text types)) >>= alone) ≡ Ok (fronts.Parse name text types)
unfolding parse_at
parse_again name text types is = item_alone (λ x. fronts.Parse x.0.0 x.0.1 x.1) parse_item ((name, text), types) ((is.named, is.spelled), is.types_fit)

bind_again : (portal name : List ℕ) (formats : List ℕ) (values : _) (results : List ℕ) → IsFront (fronts.Bind portal name formats values results)
    → (bind_at (front_body (fronts.Bind portal name formats values results)) >>= alone) ≡ Ok (fronts.Bind portal name formats values results)
unfolding bind_at
bind_again portal name formats values results is =
    item_alone (λ x. fronts.Bind x.0.0.0.0 x.0.0.0.1 x.0.0.1 x.0.1 x.1) bind_item ((((portal, name), formats), values), results) ((((is.portal_named, is.named), is.formats_fit), is.values_fit), is.results_fit)

describe_again : (target : Target) (name : List ℕ) → IsFront (fronts.Describe target name) → (mapped (λ x. fronts.Describe x.0 x.1) (targeted_at (front_body (fronts.Describe target name))) >>= alone) ≡ Ok (fronts.Describe target name)
unfolding targeted_at
describe_again target name is = item_alone (λ x. fronts.Describe x.0 x.1) targeted_item (target, name) (tt, is)

close_again : (target : Target) (name : List ℕ) → IsFront (fronts.Close target name) → (mapped (λ x. fronts.Close x.0 x.1) (targeted_at (front_body (fronts.Close target name))) >>= alone) ≡ Ok (fronts.Close target name)
unfolding targeted_at
close_again target name is = item_alone (λ x. fronts.Close x.0 x.1) targeted_item (target, name) (tt, is)

execute_again : (portal : List ℕ) (limit : ℕ) → IsFront (fronts.Execute portal limit) → (execute_at (front_body (fronts.Execute portal limit)) >>= alone) ≡ Ok (fronts.Execute portal limit)
unfolding execute_at
execute_again portal limit is = item_alone (λ x. fronts.Execute x.0 x.1) execute_item (portal, limit) is

pub front_again : (m : Front) → IsFront m → front_read (front_kind m) (front_body m) ≡ Ok m
unfolding front_read
front_again (fronts.Startup params) is = ap (λ (r : Result (Front × List ℕ) ℕ). r >>= alone) (startup_again params is)
front_again fronts.SslRequest is = ap (λ (r : Result (Front × List ℕ) ℕ). r >>= alone) (read_alone startup_at (to_be_bytes w32 80877103) fronts.SslRequest (code_again 80877103 [] (fronts.SslRequest, []) (omega arith) refl))
front_again fronts.GssRequest is = ap (λ (r : Result (Front × List ℕ) ℕ). r >>= alone) (read_alone startup_at (to_be_bytes w32 80877104) fronts.GssRequest (code_again 80877104 [] (fronts.GssRequest, []) (omega arith) refl))
front_again (fronts.Cancel process key) is = ap (λ (r : Result (Front × List ℕ) ℕ). r >>= alone) (cancel_again process key is.0 is.1)
front_again (fronts.Query text) is = made_alone fronts.Query (str_at (str text)) text (read_alone str_at (str text) text (str_again text [] is))
front_again (fronts.Parse name text types) is = parse_again name text types is
front_again (fronts.Bind portal name formats values results) is = bind_again portal name formats values results is
front_again (fronts.Describe target name) is = describe_again target name is
front_again (fronts.Execute portal limit) is = execute_again portal limit is
front_again (fronts.Close target name) is = close_again target name is
front_again fronts.Sync is = refl
front_again fronts.Flush is = refl
front_again (fronts.Password bytes) is = refl
front_again fronts.Terminate is = refl
