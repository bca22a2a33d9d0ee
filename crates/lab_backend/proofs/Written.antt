-- Each message of a reply can be written.
use Rattle.std.proofs.Common.{ℕ, ◌<◌, ◌^◌, inl, List, [], ◌∷◌, ◌++◌, map, Option, Result, Ok, Err, codes, lit<, refl, arith}
use Rattle.std.specs.List.{AllByRecursion}
use Rattle.std.specs.Result.{OnOk}
use Rattle.pg_wire.specs.declared.back.Back.{Back}
use Rattle.pg_wire.specs.declared.back.Back.TheVariants as backs
use Rattle.machine_replies.specs.Replies.{IsWritable, status, ready, startup_messages}
use Rattle.lab_backend.proofs.Texts.{IsText-from_test}
use Rattle.lab_backend.proofs.Appended.{setting-writable}

pub ready-writable : IsWritable ready
ready-writable = record { spelled = inl refl; short = lit< tt }

encoding-writable : IsWritable (status (codes "client_encoding") (codes "UTF8"))
encoding-writable = record {
  spelled = (IsText-from_test (codes "client_encoding") refl, IsText-from_test (codes "UTF8") refl);
  short = lit< tt;
}

authenticated-writable : IsWritable (backs.Auth 0 [])
authenticated-writable = record { spelled = lit< tt; short = lit< tt }

key_data-writable : (session : ℕ) → session < 2 ^ 16 → IsWritable (backs.KeyData session 0)
key_data-writable session h = record { spelled = (omega arith, lit< tt); short = omega arith }

pub startup-writable : (session : ℕ) → session < 2 ^ 16 → AllByRecursion IsWritable (startup_messages session)
startup-writable session h = (authenticated-writable, (encoding-writable, (setting-writable, (key_data-writable session h, (ready-writable, tt)))))

-- ---- several messages

-- the state follows
pub then_ready : (messages : List Back) → AllByRecursion IsWritable messages → AllByRecursion IsWritable (messages ++ ready ∷ [])
then_ready [] h = (ready-writable, tt)
then_ready (m ∷ messages) h = (h.0, then_ready messages h.1)

rows_then : (rows : List (List (Option (List ℕ)))) (tag : Back) → AllByRecursion (λ row. IsWritable (backs.Cells row)) rows → IsWritable tag
    → AllByRecursion IsWritable (map (λ row. backs.Cells row) rows ++ tag ∷ [])
rows_then [] tag h k = (k, tt)
rows_then (row ∷ rows) tag h k = (h.0, rows_then rows tag h.1 k)

pub rows-writable_in_order : (columns tag : Back) (rows : List (List (Option (List ℕ)))) → IsWritable columns → AllByRecursion (λ row. IsWritable (backs.Cells row)) rows → IsWritable tag
    → AllByRecursion IsWritable (columns ∷ map (λ row. backs.Cells row) rows ++ tag ∷ [])
rows-writable_in_order columns tag rows c h k = (c, rows_then rows tag h k)

-- what holds anyway holds at `Ok`
pub on_ok_always : {T E P : Type 0} (result : Result T E) → P → OnOk result P
on_ok_always (Ok x) h = h
on_ok_always (Err e) h = tt
