use Rattle.std.proofs.Common.{rules, ◌≡◌, ◌∙◌, ap, arith, length}
use Rattle.std.specs.Int.{w16, w32, to_be_bytes}
use Rattle.wire_views.proofs.Drafted.{as_long, told, finished}
use Rattle.wire_views.proofs.draft.RowDraft.finish.Goals as goal

pub overwrite-requires-2 : goal.overwrite-requires-2
overwrite-requires-2 c =
    let d = c.requires.draft in
    let l = as_long c.args.self c.args.out.now.items d.0 d.1 d.2 in
    let same = c.overwrite.ensures.long in
    let two = ap length c.to_be_bytes-2.ensures in
    omega arith

pub returns : goal.returns
returns c = λ before cells draft.
    let len : c.len.result ≡ length c.args.out.now.items = search rules in
    finished c.args.self c.args.out.now.items before cells draft c.overwrite.new.out.items c.overwrite-2.new.out.items c.to_be_bytes.result c.to_be_bytes-2.result c.overwrite.ensures.over c.overwrite-2.ensures.over
    (c.to_be_bytes.ensures ∙ ap (to_be_bytes w32) (told c.args.self c.args.out.now.items before cells draft c.len.result len))
    (c.to_be_bytes-2.ensures ∙ ap (to_be_bytes w16) draft.count)
