-- No more is left behind a field, or at a fault, than there was.
use Rattle.std.proofs.Common.{◌≡◌, ℕ, zero, suc, ◌≤◌, Bool, cond, eqb, ltb, ◌||◌, ◌^◌, List, [], ◌∷◌, length, None, Result, Ok, Err, arith}
use Rattle.std.specs.Int.{w16, w32}
use Rattle.pg_wire.specs.declared.front.Target.TheVariants as targets
use Rattle.pg_wire.specs.declared.front.Front.{Front}
use Rattle.pg_wire.specs.declared.front.Front.TheVariants as fronts
use Rattle.pg_wire.specs.declared.back.Back.{Back}
use Rattle.pg_wire.specs.declared.back.Back.TheVariants as backs
use Rattle.byte_reader.specs.Fields.{◌>>=◌, be_number_at, bytes_at, str_at}
use Rattle.byte_reader.proofs.Within.{Within, within_more, within_bind, within_cond, be_number_within, bytes_within, str_within, alone_within}
use Rattle.pg_wire.specs.Bodies.{pair_at, format_at, field_at, cell_at, error_at, state_at, items_at, counted_at, ended_at, listed_at, mapped, auth_at, key_data_at, back_at, back_read, ◌followed_by◌, startup_at, parse_at, bind_at, target_at, targeted_at, execute_at, coded_at, front_at, front_read}
use Rattle.pg_wire.proofs.RowLaws.{with_name, with_table, with_attribute, with_kind, with_size, with_modifier, with_format, some_cell, sized_cell, cell_behind}
use Rattle.pg_wire.proofs.FrontMessages.{cancelled}

pub within_mapped : {A B : Type 0} (n : ℕ) (f : A → B) (r : Result (A × List ℕ) ℕ) → Within n r → Within n (mapped f r)
within_mapped n f (Ok x) h = h
within_mapped n f (Err left) h = h

pair_within : (bytes : List ℕ) → Within (length bytes) (pair_at bytes)
unfolding pair_at
pair_within bytes =
    within_bind (length bytes) (str_at bytes) (λ name. str_at name.1 >>= λ value. Ok (record { name = name.0; value = value.0 }, value.1)) (str_within bytes)
    (λ name. within_bind (length name.1) (str_at name.1) (λ value. Ok (record { name = name.0; value = value.0 }, value.1)) (str_within name.1) (λ value. omega arith))

pub format_within : (bytes : List ℕ) → Within (length bytes) (format_at bytes)
unfolding format_at
format_within bytes = by (be_number_at w16 bytes) (be_number_within w16 bytes) where
  by : (r : Result (ℕ × List ℕ) ℕ) → Within (length bytes) r → Within (length bytes) (r >>= λ n. cond (ltb n.0 2) (Ok n) (Err (length bytes)))
  by (Ok n) h = within_cond (length bytes) (ltb n.0 2) (Ok n) (Err (length bytes)) h (omega arith)
  by (Err left) h = h

field_within : (bytes : List ℕ) → Within (length bytes) (field_at bytes)
unfolding field_at
field_within bytes =
    within_bind (length bytes) (str_at bytes) with_name (str_within bytes) (λ a.
    within_bind (length a.1) (be_number_at w32 a.1) (with_table a.0) (be_number_within w32 a.1) (λ b.
    within_bind (length b.1) (be_number_at w16 b.1) (with_attribute a.0 b.0) (be_number_within w16 b.1) (λ c.
    within_bind (length c.1) (be_number_at w32 c.1) (with_kind a.0 b.0 c.0) (be_number_within w32 c.1) (λ d.
    within_bind (length d.1) (be_number_at w16 d.1) (with_size a.0 b.0 c.0 d.0) (be_number_within w16 d.1) (λ e.
    within_bind (length e.1) (be_number_at w32 e.1) (with_modifier a.0 b.0 c.0 d.0 e.0) (be_number_within w32 e.1) (λ f.
    within_bind (length f.1) (format_at f.1) (with_format a.0 b.0 c.0 d.0 e.0 f.0) (format_within f.1) (λ g. omega arith)))))))

cell_within : (bytes : List ℕ) → Within (length bytes) (cell_at bytes)
unfolding cell_at
cell_within bytes = by (be_number_at w32 bytes) (be_number_within w32 bytes) where
  by : (r : Result (ℕ × List ℕ) ℕ) → Within (length bytes) r → Within (length bytes) (r >>= cell_behind (length bytes))
  by (Ok n) h =
      let cell = within_more (length n.1) (length bytes) (bytes_at n.0 n.1 >>= some_cell) h (within_bind (length n.1) (bytes_at n.0 n.1) some_cell (bytes_within n.0 n.1) (λ c. omega arith)) in
      within_cond (length bytes) (eqb n.0 4294967295) (Ok (None, n.1)) (sized_cell (length bytes) n) h
      (within_cond (length bytes) (ltb n.0 (2 ^ 31)) (bytes_at n.0 n.1 >>= some_cell) (Err (length bytes)) cell (omega arith))
  by (Err left) h = h

error_within : (bytes : List ℕ) → Within (length bytes) (error_at bytes)
unfolding error_at
error_within [] = omega arith
error_within (code ∷ bytes) =
    within_more (length bytes) (length (code ∷ bytes)) (str_at bytes >>= λ text. Ok (record { code = code; text = text.0 }, text.1)) (omega arith)
    (within_bind (length bytes) (str_at bytes) (λ text. Ok (record { code = code; text = text.0 }, text.1)) (str_within bytes) (λ text. omega arith))

pub state_within : (bytes : List ℕ) → Within (length bytes) (state_at bytes)
unfolding state_at
state_within [] = omega arith
state_within (b ∷ bytes) = within_cond (length (b ∷ bytes)) ((eqb b 73 || eqb b 84) || eqb b 69) (Ok (b, bytes)) (Err (length (b ∷ bytes))) (omega arith) (omega arith)

items_within : {A : Type 0} (item : List ℕ → Result (A × List ℕ) ℕ) → ((bytes : List ℕ) → Within (length bytes) (item bytes)) → (n : ℕ) (bytes : List ℕ) → Within (length bytes) (items_at item n bytes)
unfolding items_at
items_within item is zero bytes = omega arith
items_within item is (suc n) bytes =
    within_bind (length bytes) (item bytes) (λ first. items_at item n first.1 >>= λ others. Ok (first.0 ∷ others.0, others.1)) (is bytes) (λ first.
    within_bind (length first.1) (items_at item n first.1) (λ others. Ok (first.0 ∷ others.0, others.1)) (items_within item is n first.1) (λ others. omega arith))

counted_within : {A : Type 0} (item : List ℕ → Result (A × List ℕ) ℕ) → ((bytes : List ℕ) → Within (length bytes) (item bytes)) → (bytes : List ℕ) → Within (length bytes) (counted_at item bytes)
unfolding counted_at
counted_within item is bytes = within_bind (length bytes) (be_number_at w16 bytes) (λ n. items_at item n.0 n.1) (be_number_within w16 bytes) (λ n. items_within item is n.0 n.1)

ended_within : {A : Type 0} (item : List ℕ → Result (A × List ℕ) ℕ) → ((bytes : List ℕ) → Within (length bytes) (item bytes)) → (n : ℕ) (bytes : List ℕ) → Within (length bytes) (ended_at item n bytes)
unfolding ended_at
ended_within item is zero bytes = omega arith
ended_within item is (suc n) [] = omega arith
ended_within item is (suc n) (zero ∷ bytes) = omega arith
ended_within item is (suc n) (suc b ∷ bytes) =
    within_bind (length (suc b ∷ bytes)) (item (suc b ∷ bytes)) (λ first. ended_at item n first.1 >>= λ others. Ok (first.0 ∷ others.0, others.1)) (is (suc b ∷ bytes)) (λ first.
    within_bind (length first.1) (ended_at item n first.1) (λ others. Ok (first.0 ∷ others.0, others.1)) (ended_within item is n first.1) (λ others. omega arith))

listed_within : {A : Type 0} (item : List ℕ → Result (A × List ℕ) ℕ) → ((bytes : List ℕ) → Within (length bytes) (item bytes)) → (bytes : List ℕ) → Within (length bytes) (listed_at item bytes)
listed_within item is bytes = ended_within item is (length bytes) bytes

pub auth_within : (bytes : List ℕ) → Within (length bytes) (auth_at bytes)
unfolding auth_at
auth_within bytes = within_bind (length bytes) (be_number_at w32 bytes) (λ code. Ok (backs.Auth code.0 code.1, [])) (be_number_within w32 bytes) (λ code. omega arith)

pub key_data_within : (bytes : List ℕ) → Within (length bytes) (key_data_at bytes)
unfolding key_data_at
key_data_within bytes =
    within_bind (length bytes) (be_number_at w32 bytes) (λ process. be_number_at w32 process.1 >>= λ key. Ok (backs.KeyData process.0 key.0, key.1)) (be_number_within w32 bytes) (λ process.
    within_bind (length process.1) (be_number_at w32 process.1) (λ key. Ok (backs.KeyData process.0 key.0, key.1)) (be_number_within w32 process.1) (λ key. omega arith))

-- a test, as a record, so that the rest of a chain is found
record Bounded (A : Type 0) (n : ℕ) (r : Result (A × List ℕ) ℕ) : Type 0 where
  bound : Within n r

chain : {A : Type 0} {n : ℕ} {s : Result (A × List ℕ) ℕ} (b : Bool) (r : Result (A × List ℕ) ℕ) → Within n r → Bounded A n s → Bounded A n (cond b r s)
chain {A} {n} {s} b r p q = record { bound = within_cond n b r s p q.bound }

back_bounded : (kind : ℕ) (body : List ℕ) → Bounded Back (length body) (back_at kind body)
back_bounded kind body =
    let n = length body in
    chain (eqb kind 82) (auth_at body) (auth_within body)
    (chain (eqb kind 83) (mapped backs.Status (pair_at body)) (within_mapped n backs.Status (pair_at body) (pair_within body))
    (chain (eqb kind 75) (key_data_at body) (key_data_within body)
    (chain (eqb kind 90) (mapped backs.Ready (state_at body)) (within_mapped n backs.Ready (state_at body) (state_within body))
    (chain (eqb kind 84) (mapped backs.Row (counted_at field_at body)) (within_mapped n backs.Row (counted_at field_at body) (counted_within field_at field_within body))
    (chain (eqb kind 68) (mapped backs.Cells (counted_at cell_at body)) (within_mapped n backs.Cells (counted_at cell_at body) (counted_within cell_at cell_within body))
    (chain (eqb kind 67) (mapped backs.Complete (str_at body)) (within_mapped n backs.Complete (str_at body) (str_within body))
    (chain (eqb kind 69) (mapped backs.Error (listed_at error_at body)) (within_mapped n backs.Error (listed_at error_at body) (listed_within error_at error_within body))
    (chain (eqb kind 73) (Ok (backs.EmptyQuery, body)) (omega arith)
    (chain (eqb kind 78) (mapped backs.Notice (listed_at error_at body)) (within_mapped n backs.Notice (listed_at error_at body) (listed_within error_at error_within body))
    (chain (eqb kind 49) (Ok (backs.ParseDone, body)) (omega arith)
    (chain (eqb kind 50) (Ok (backs.BindDone, body)) (omega arith)
    (chain (eqb kind 51) (Ok (backs.CloseDone, body)) (omega arith)
    (chain (eqb kind 110) (Ok (backs.NoData, body)) (omega arith)
    (chain (eqb kind 116) (mapped backs.Params (counted_at (be_number_at w32) body)) (within_mapped n backs.Params (counted_at (be_number_at w32) body) (counted_within (be_number_at w32) (be_number_within w32) body))
    (chain (eqb kind 115) (Ok (backs.Suspended, body)) (omega arith)
    (record { bound = omega arith }))))))))))))))))

pub back_left : (kind : ℕ) (body : List ℕ) (left : ℕ) → back_read kind body ≡ Err left → left ≤ length body
unfolding back_read
back_left kind body left e = alone_within (length body) left (back_at kind body) (back_bounded kind body).bound e

both_within : {A B : Type 0} (a : List ℕ → Result (A × List ℕ) ℕ) (b : List ℕ → Result (B × List ℕ) ℕ) → ((bytes : List ℕ) → Within (length bytes) (a bytes)) → ((bytes : List ℕ) → Within (length bytes) (b bytes))
    → (bytes : List ℕ) → Within (length bytes) ((a followed_by b) bytes)
both_within a b wa wb bytes =
    within_bind (length bytes) (a bytes) (λ first. b first.1 >>= λ second. Ok ((first.0, second.0), second.1)) (wa bytes) (λ first.
    within_bind (length first.1) (b first.1) (λ second. Ok ((first.0, second.0), second.1)) (wb first.1) (λ second. omega arith))

pub startup_within : (bytes : List ℕ) → Within (length bytes) (startup_at bytes)
unfolding startup_at
startup_within bytes = by (be_number_at w32 bytes) (be_number_within w32 bytes) where
  by : (r : Result (ℕ × List ℕ) ℕ) → Within (length bytes) r → Within (length bytes) (r >>= coded_at (length bytes))
  by (Ok code) h =
      let n = length bytes in
      let opened = within_more (length code.1) n (mapped fronts.Startup (listed_at pair_at code.1)) h (within_mapped (length code.1) fronts.Startup (listed_at pair_at code.1) (listed_within pair_at pair_within code.1)) in
      let two = (be_number_at w32 followed_by be_number_at w32) code.1 in
      let cancel = within_more (length code.1) n (mapped cancelled two) h (within_mapped (length code.1) cancelled two (both_within (be_number_at w32) (be_number_at w32) (be_number_within w32) (be_number_within w32) code.1)) in
      (chain (eqb code.0 196608) (mapped fronts.Startup (listed_at pair_at code.1)) opened
      (chain (eqb code.0 80877103) (Ok (fronts.SslRequest, code.1)) h
      (chain (eqb code.0 80877104) (Ok (fronts.GssRequest, code.1)) h
      (chain (eqb code.0 80877102) (mapped cancelled two) cancel
      (record { bound = omega arith }))))).bound
  by (Err left) h = h

parse_within : (bytes : List ℕ) → Within (length bytes) (parse_at bytes)
unfolding parse_at
parse_within bytes =
    within_mapped (length bytes) (λ x. fronts.Parse x.0.0 x.0.1 x.1) ((str_at followed_by str_at followed_by counted_at (be_number_at w32)) bytes)
    (both_within (str_at followed_by str_at) (counted_at (be_number_at w32)) (both_within str_at str_at str_within str_within) (counted_within (be_number_at w32) (be_number_within w32)) bytes)

bind_within : (bytes : List ℕ) → Within (length bytes) (bind_at bytes)
unfolding bind_at
bind_within bytes =
    let formats = counted_within format_at format_within in
    let values = counted_within cell_at cell_within in
    let two = both_within str_at str_at str_within str_within in
    let three = both_within (str_at followed_by str_at) (counted_at format_at) two formats in
    let four = both_within (str_at followed_by str_at followed_by counted_at format_at) (counted_at cell_at) three values in
    within_mapped (length bytes) (λ x. fronts.Bind x.0.0.0.0 x.0.0.0.1 x.0.0.1 x.0.1 x.1) ((str_at followed_by str_at followed_by counted_at format_at followed_by counted_at cell_at followed_by counted_at format_at) bytes)
    (both_within (str_at followed_by str_at followed_by counted_at format_at followed_by counted_at cell_at) (counted_at format_at) four formats bytes)

pub target_within : (bytes : List ℕ) → Within (length bytes) (target_at bytes)
unfolding target_at
target_within [] = omega arith
target_within (b ∷ bytes) =
    within_cond (length (b ∷ bytes)) (eqb b 83) (Ok (targets.Prepared, bytes)) (cond (eqb b 80) (Ok (targets.Portal, bytes)) (Err (length (b ∷ bytes)))) (omega arith)
    (within_cond (length (b ∷ bytes)) (eqb b 80) (Ok (targets.Portal, bytes)) (Err (length (b ∷ bytes))) (omega arith) (omega arith))

targeted_within : (bytes : List ℕ) → Within (length bytes) (targeted_at bytes)
unfolding targeted_at
targeted_within bytes = both_within target_at str_at target_within str_within bytes

execute_within : (bytes : List ℕ) → Within (length bytes) (execute_at bytes)
unfolding execute_at
execute_within bytes =
    within_mapped (length bytes) (λ x. fronts.Execute x.0 x.1) ((str_at followed_by be_number_at w32) bytes) (both_within str_at (be_number_at w32) str_within (be_number_within w32) bytes)

front_bounded : (kind : ℕ) (body : List ℕ) → Bounded Front (length body) (front_at kind body)
front_bounded kind body =
    let n = length body in
    chain (eqb kind 0) (startup_at body) (startup_within body)
    (chain (eqb kind 81) (mapped fronts.Query (str_at body)) (within_mapped n fronts.Query (str_at body) (str_within body))
    (chain (eqb kind 80) (parse_at body) (parse_within body)
    (chain (eqb kind 66) (bind_at body) (bind_within body)
    (chain (eqb kind 68) (mapped (λ x. fronts.Describe x.0 x.1) (targeted_at body)) (within_mapped n (λ x. fronts.Describe x.0 x.1) (targeted_at body) (targeted_within body))
    (chain (eqb kind 69) (execute_at body) (execute_within body)
    (chain (eqb kind 67) (mapped (λ x. fronts.Close x.0 x.1) (targeted_at body)) (within_mapped n (λ x. fronts.Close x.0 x.1) (targeted_at body) (targeted_within body))
    (chain (eqb kind 83) (Ok (fronts.Sync, body)) (omega arith)
    (chain (eqb kind 72) (Ok (fronts.Flush, body)) (omega arith)
    (chain (eqb kind 112) (Ok (fronts.Password body, [])) (omega arith)
    (chain (eqb kind 88) (Ok (fronts.Terminate, body)) (omega arith)
    (record { bound = omega arith })))))))))))

pub front_left : (kind : ℕ) (body : List ℕ) (left : ℕ) → front_read kind body ≡ Err left → left ≤ length body
unfolding front_read
front_left kind body left e = alone_within (length body) left (front_at kind body) (front_bounded kind body).bound e
