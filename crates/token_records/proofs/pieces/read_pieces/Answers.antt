use Rattle.std.proofs.Common.{◌≡◌, ◌<◌, ℕ, List, Err, length, ◌++◌, ◌∷◌, [], ◌-◌, sym, subst, rules}
use Rattle.token_records.specs.Pieces.{piece_at}
use Rattle.token_records.proofs.Listed.{SoFar, one_more, ends_whole, whole_once, not_both, stops, stops_once}
use Rattle.token_records.proofs.pieces.read_pieces.Goals as goal

pub pieces-preserved : goal.pieces-preserved
pieces-preserved c =
    let more : SoFar c.args.bytes.now (c.pieces.pieces ++ c.in-Ok.piece ∷ []) c.in-Ok.behind.now = one_more c.args.bytes.now c.pieces.pieces c.pieces.rest.now c.in-Ok.piece c.in-Ok.behind.now c.pieces.invariant c.in-Ok.ensures in
    subst (λ (ps : List (List ℕ)). SoFar c.args.bytes.now ps c.in-Ok.behind.now) (sym c.in-Ok-push.ensures.ok) more

pub returns-in-Err-At-clause-whole : goal.returns-in-Err-At-clause-whole
returns-in-Err-At-clause-whole c ps w =
    let more : 0 < length c.pieces.rest.now = search rules in
    let read : piece_at c.pieces.rest.now ≡ Err c.in-Err-At.field-0-0 = search rules in
    not_both c.args.bytes.now ps (length c.args.bytes.now - length c.pieces.rest.now) w (stops c.args.bytes.now c.pieces.pieces c.pieces.rest.now c.in-Err-At.field-0-0 c.pieces.invariant more read)

pub returns-in-Err-At-clause-stop : goal.returns-in-Err-At-clause-stop
returns-in-Err-At-clause-stop c place s =
    let more : 0 < length c.pieces.rest.now = search rules in
    let read : piece_at c.pieces.rest.now ≡ Err c.in-Err-At.field-0-0 = search rules in
    stops_once c.args.bytes.now (length c.args.bytes.now - length c.pieces.rest.now) place (stops c.args.bytes.now c.pieces.pieces c.pieces.rest.now c.in-Err-At.field-0-0 c.pieces.invariant more read) s

pub returns-clause-whole : goal.returns-clause-whole
returns-clause-whole c ps w =
    let none : length c.pieces.rest.now ≡ 0 = search rules in
    whole_once c.args.bytes.now c.pieces.pieces ps (ends_whole c.args.bytes.now c.pieces.pieces c.pieces.rest.now c.pieces.invariant none) w

pub returns-clause-stop : goal.returns-clause-stop
returns-clause-stop c place s =
    let none : length c.pieces.rest.now ≡ 0 = search rules in
    not_both c.args.bytes.now c.pieces.pieces place (ends_whole c.args.bytes.now c.pieces.pieces c.pieces.rest.now c.pieces.invariant none) s
