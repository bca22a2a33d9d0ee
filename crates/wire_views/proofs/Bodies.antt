-- A DataRow's body, by its count and what reading the cells gives.
use Rattle.std.proofs.Common.{◌≡◌, ℕ, ◌==◌, ◌≤◌, List, length, Option, Result, Ok, Err, Bool, true, false, cond, refl, sym, ap, ◌∙◌}
use Rattle.std.specs.Int.{w16}
use Rattle.byte_reader.specs.Fields.{◌>>=◌, be_number_at, alone}
use Rattle.pg_wire.specs.declared.back.Back.{Back}
use Rattle.pg_wire.specs.declared.back.Back.TheVariants as backs
use Rattle.pg_wire.specs.Bodies.{cell_at, items_at, counted_at, mapped, back_read}
use Rattle.pg_wire.proofs.Within.{back_left}
use Rattle.wire_views.specs.Rows.{found_in, cells_in}

abbrev Cells : Type 0
Cells = Result (List (Option (List ℕ)) × List ℕ) ℕ

row_of : (body : List ℕ) → back_read 68 body ≡ (mapped backs.Cells (counted_at cell_at body) >>= alone)
unfolding back_read
row_of body = refl

counted_of : (body bytes : List ℕ) (n : ℕ) → be_number_at w16 body ≡ Ok (n, bytes) → counted_at cell_at body ≡ items_at cell_at n bytes
unfolding counted_at
counted_of body bytes n e = rw e refl

uncounted : (body : List ℕ) (left : ℕ) → be_number_at w16 body ≡ Err left → counted_at cell_at body ≡ Err left
unfolding counted_at
uncounted body left e = rw e refl

read_by : (body : List ℕ) (read : Cells) → counted_at cell_at body ≡ read → back_read 68 body ≡ (mapped backs.Cells read >>= alone)
read_by body read e = row_of body ∙ ap (λ (r : Cells). mapped backs.Cells r >>= alone) e

alone_with : (m : Back) (rest : List ℕ) (b : Bool) → (length rest == 0) ≡ b → alone (m, rest) ≡ cond b (Ok m) (Err (length rest))
alone_with m rest b e = rw e refl

pub whole : (body bytes : List ℕ) (n : ℕ) (seen : List (Option (List ℕ))) (rest : List ℕ) → be_number_at w16 body ≡ Ok (n, bytes) → items_at cell_at n bytes ≡ Ok (seen, rest) → (length rest == 0) ≡ true
    → back_read 68 body ≡ Ok (backs.Cells (cells_in n bytes))
whole body bytes n seen rest count cells none =
    let read = read_by body (Ok (seen, rest)) (counted_of body bytes n count ∙ cells) in
    let found : cells_in n bytes ≡ seen = ap found_in cells in
    read ∙ alone_with (backs.Cells seen) rest true none ∙ ap (λ (cs : List (Option (List ℕ))). Ok (backs.Cells cs)) (sym found)

abbrev Fails : List ℕ → ℕ → Type 0
Fails body left = (left ≤ length body) × (back_read 68 body ≡ Err left)

fails : (body : List ℕ) (left : ℕ) → back_read 68 body ≡ Err left → Fails body left
fails body left e = (back_left 68 body left e, e)

pub too_many : (body bytes : List ℕ) (n : ℕ) (seen : List (Option (List ℕ))) (rest : List ℕ) → be_number_at w16 body ≡ Ok (n, bytes) → items_at cell_at n bytes ≡ Ok (seen, rest) → (length rest == 0) ≡ false
    → Fails body (length rest)
too_many body bytes n seen rest count cells some =
    fails body (length rest) (read_by body (Ok (seen, rest)) (counted_of body bytes n count ∙ cells) ∙ alone_with (backs.Cells seen) rest false some)

pub cut : (body bytes : List ℕ) (n left : ℕ) → be_number_at w16 body ≡ Ok (n, bytes) → items_at cell_at n bytes ≡ Err left → Fails body left
cut body bytes n left count cells = fails body left (read_by body (Err left) (counted_of body bytes n count ∙ cells))

pub no_count : (body : List ℕ) (left : ℕ) → be_number_at w16 body ≡ Err left → Fails body left
no_count body left e = fails body left (read_by body (Err left) (uncounted body left e))
