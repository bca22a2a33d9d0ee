use Rattle.std.proofs.Common.{◌++◌, refl}
use Rattle.std.specs.Fmt.{decimal}
use Rattle.lab_backend.proofs.Appended.{tag-writable}
use Rattle.lab_backend.proofs.Written.{on_ok_always}
use Rattle.lab_backend.proofs.replies.write_tag.Goals as goal

pub returns-clause-writable : goal.returns-clause-writable
returns-clause-writable c =
    let w = tag-writable (c.args.word.now ++ decimal c.args.count) c.args.word.now c.args.count refl c.requires.text c.requires.short c.ranges.count.fits in
    on_ok_always c.write_back.result w

pub write_back-requires : goal.write_back-requires
write_back-requires c =
    let h = c.in_ok-tag.ensures.ok in
    let k = c.into_bytes.ensures.value in
    let m = c.from_vec.ensures in
    let w = tag-writable c.from_vec.result c.args.word.now c.args.count (cc (h, k, m)) c.requires.text c.requires.short c.ranges.count.fits in
    record { spelled = w.spelled; short = w.short }
