use Rattle.std.proofs.Common.{◌^◌}
use Rattle.audit_core.proofs.Told.{where_told, where_map}
use Rattle.audit_core.proofs.Keying.{ring_due, ring_none, no_long_ring}
use Rattle.audit_core.proofs.files.audit_key.Goals as goal

pub returns-in-Ok-read_ring-clause-exact : goal.returns-in-Ok-read_ring-clause-exact
returns-in-Ok-read_ring-clause-exact g c =
    where_map _ _ _ _ (ring_due (2 ^ 24) c.args.master.now c.in-Ok.bytes c.as_slice.result.now c.audit_key.result.now c.in-Ok-read_ring.ring c.in-Ok-read_ring.ensures.only c.as_slice.ensures c.audit_key.ensures) (where_told _ _ _ c.in-Ok.ensures.whole)

pub returns-in-Err-NotSealed-clause-found : goal.returns-in-Err-NotSealed-clause-found
returns-in-Err-NotSealed-clause-found g c =
    where_map _ _ _ _ (ring_none (2 ^ 24) c.args.master.now c.in-Ok.bytes c.as_slice.result.now (rw c.in-Err-NotSealed.field-0-is at c.in-Err-NotSealed.ensures.only) c.as_slice.ensures) (where_told _ _ _ c.in-Ok.ensures.whole)

pub returns-in-Err-NotSealed-clause-exact : goal.returns-in-Err-NotSealed-clause-exact
returns-in-Err-NotSealed-clause-exact g c =
    where_map _ _ _ _ (ring_none (2 ^ 24) c.args.master.now c.in-Ok.bytes c.as_slice.result.now (rw c.in-Err-NotSealed.field-0-is at c.in-Err-NotSealed.ensures.only) c.as_slice.ensures) (where_told _ _ _ c.in-Ok.ensures.whole)

pub returns-in-Ok-clause-found : goal.returns-in-Ok-clause-found
returns-in-Ok-clause-found g c =
    where_map _ _ _ _ (ring_none (2 ^ 24) c.args.master.now c.in-Ok.bytes c.as_slice.result.now (rw c.in-Err-BadForm.field-0-is at c.in-Err-BadForm.ensures.only) c.as_slice.ensures) (where_told _ _ _ c.in-Ok.ensures.whole)

pub returns-in-Ok-clause-exact : goal.returns-in-Ok-clause-exact
returns-in-Ok-clause-exact g c =
    where_map _ _ _ _ (ring_none (2 ^ 24) c.args.master.now c.in-Ok.bytes c.as_slice.result.now (rw c.in-Err-BadForm.field-0-is at c.in-Err-BadForm.ensures.only) c.as_slice.ensures) (where_told _ _ _ c.in-Ok.ensures.whole)

pub returns-in-Err-TooLong-clause-found : goal.returns-in-Err-TooLong-clause-found
returns-in-Err-TooLong-clause-found g c =
    where_told _ _ _ (λ file e told. no_long_ring c.args.master.now file (rw c.in-Err-TooLong.field-0-is at (c.in-Err-TooLong.ensures.whole file e told)))

pub returns-in-Err-TooLong-clause-exact : goal.returns-in-Err-TooLong-clause-exact
returns-in-Err-TooLong-clause-exact g c =
    where_told _ _ _ (λ file e told. no_long_ring c.args.master.now file (rw c.in-Err-TooLong.field-0-is at (c.in-Err-TooLong.ensures.whole file e told)))
