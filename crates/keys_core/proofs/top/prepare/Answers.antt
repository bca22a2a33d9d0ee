use Rattle.std.proofs.Common.{Err, is_some, refl, ap}
use Rattle.keys_core.proofs.Runs.{prepared, too_long_run, worked_caused, master_cause, master_stop, same_told}
use Rattle.keys_core.proofs.Again.{with_key}
use Rattle.keys_core.proofs.Draws.{drew_nothing, none_made, prepared_drew, long_drew, master_drew}
use Rattle.keys_core.proofs.Order.{worked_order, master_order}
use Rattle.keys_core.proofs.Untouched.{worked_untouched, master_untouched, same_count, same_counts, read_stayed, other_refusal}
use Rattle.ring_file.specs.declared.whole.FileRefusal.TheVariants as refusals
use Rattle.keys_core.specs.declared.status.KeyFile.TheVariants as files
use Rattle.keys_core.specs.Draws.{draws_of}
use Rattle.keys_core.proofs.top.prepare.Goals as goal

pub returns-in-Ok-read_file-clause-run : goal.returns-in-Ok-read_file-clause-run
returns-in-Ok-read_file-clause-run g c m r s t em em' er er' es et =
    prepared c.args.ask.now m r c.in-Ok.key c.in-Ok-read_file.bytes s t c.worked.result (c.in-Ok.ensures.key m em em') (c.in-Ok-read_file.ensures.whole r er er') c.in-Ok-read_file.ensures.within (rw c.as_slice.ensures at (c.worked.ensures.run s t es et))

pub returns-in-Ok-read_file-clause-kept : goal.returns-in-Ok-read_file-clause-kept
returns-in-Ok-read_file-clause-kept g c m em em' changed = with_key m c.in-Ok.key c.worked.result (c.in-Ok.ensures.key m em em') (c.worked.ensures.kept changed)

pub returns-in-Ok-read_file-clause-cause : goal.returns-in-Ok-read_file-clause-cause
returns-in-Ok-read_file-clause-cause g c = worked_caused _ _ _ _ _ _ c.worked.result c.worked.ensures.cause

pub returns-in-Err-TooLong-clause-run : goal.returns-in-Err-TooLong-clause-run
returns-in-Err-TooLong-clause-run g c m r s t em em' er er' es et =
    too_long_run c.args.ask.now m r c.in-Ok.key s t (c.in-Ok.ensures.key m em em') (rw c.in-Err-TooLong.field-0-is at (c.in-Err-TooLong.ensures.whole r er er')) (same_told (g.R.Random.coming c.args.random.now) s t es et)

pub returns-in-Err-ReadFault-clause-run : goal.returns-in-Err-ReadFault-clause-run
returns-in-Err-ReadFault-clause-run g c m r s t em em' er er' es et = same_told (g.R.Random.coming c.args.random.now) s t es et

pub returns-in-Err-ReadFault-clause-cause : goal.returns-in-Err-ReadFault-clause-cause
returns-in-Err-ReadFault-clause-cause g c = c.in-Err-ReadFault.ensures.fault (ap Err c.in-Err-ReadFault.field-0-is)

pub returns-in-Err-clause-run : goal.returns-in-Err-clause-run
returns-in-Err-clause-run g c m r s t em em' er er' es et =
    master_stop c.args.ask.now m r s t _ _ c.in-Err.status c.in-Err.ensures.cause (c.in-Err.ensures.key m em em') (same_told (g.R.Random.coming c.args.random.now) s t es et)

pub returns-in-Err-clause-cause : goal.returns-in-Err-clause-cause
returns-in-Err-clause-cause g c = master_cause _ _ _ _ _ _ c.in-Err.status c.in-Err.ensures.cause

-- ---- what is drawn

pub returns-in-Ok-read_file-clause-drawn : goal.returns-in-Ok-read_file-clause-drawn
returns-in-Ok-read_file-clause-drawn g c m r em em' er er' =
    prepared_drew c.args.ask.now m r c.in-Ok.key c.in-Ok-read_file.bytes _ _ c.worked.result (c.in-Ok.ensures.key m em em') (c.in-Ok-read_file.ensures.whole r er er') c.in-Ok-read_file.ensures.within (rw c.as_slice.ensures at c.worked.ensures.drawn)

pub returns-in-Err-TooLong-clause-drawn : goal.returns-in-Err-TooLong-clause-drawn
returns-in-Err-TooLong-clause-drawn g c m r em em' er er' =
    long_drew c.args.ask.now m r c.in-Ok.key _ (c.in-Ok.ensures.key m em em') (rw c.in-Err-TooLong.field-0-is at (c.in-Err-TooLong.ensures.whole r er er'))

pub returns-in-Err-ReadFault-clause-drawn : goal.returns-in-Err-ReadFault-clause-drawn
returns-in-Err-ReadFault-clause-drawn g c m r em em' er er' = drew_nothing _

pub returns-in-Err-NoMemory-clause-drawn : goal.returns-in-Err-NoMemory-clause-drawn
returns-in-Err-NoMemory-clause-drawn g c m r em em' er er' = none_made (draws_of c.args.ask.now m r) _ _ (drew_nothing _)

pub returns-in-Err-clause-drawn : goal.returns-in-Err-clause-drawn
returns-in-Err-clause-drawn g c m r em em' er er' = master_drew c.args.ask.now m r _ _ _ c.in-Err.status c.in-Err.ensures.cause (c.in-Err.ensures.key m em em')

-- ---- the order

pub returns-in-Ok-read_file-clause-order : goal.returns-in-Ok-read_file-clause-order
returns-in-Ok-read_file-clause-order g c m em em' = worked_order _ _ c.in-Ok.key _ c.worked.result (c.in-Ok.ensures.key m em em') c.worked.ensures.untouched

pub returns-in-Err-TooLong-clause-order : goal.returns-in-Err-TooLong-clause-order
returns-in-Err-TooLong-clause-order g c m em em' = ap is_some (c.in-Ok.ensures.key m em em')

pub returns-in-Err-ReadFault-clause-order : goal.returns-in-Err-ReadFault-clause-order
returns-in-Err-ReadFault-clause-order g c m em em' = ap is_some (c.in-Ok.ensures.key m em em')

pub returns-in-Err-clause-order : goal.returns-in-Err-clause-order
returns-in-Err-clause-order g c m em em' = master_order _ _ _ c.in-Err.status c.in-Err.ensures.cause (c.in-Err.ensures.key m em em')

-- ---- what is untouched

pub returns-in-Ok-read_file-clause-untouched : goal.returns-in-Ok-read_file-clause-untouched
returns-in-Ok-read_file-clause-untouched g c = worked_untouched _ _ _ _ c.worked.result c.worked.ensures.untouched

pub returns-in-Ok-read_file-clause-still : goal.returns-in-Ok-read_file-clause-still
returns-in-Ok-read_file-clause-still g c = c.worked.ensures.still

pub returns-in-Ok-read_file-clause-file : goal.returns-in-Ok-read_file-clause-file
returns-in-Ok-read_file-clause-file g c = c.worked.ensures.file

pub returns-in-Err-clause-untouched : goal.returns-in-Err-clause-untouched
returns-in-Err-clause-untouched g c = master_untouched _ _ c.in-Err.status

pub returns-in-Err-TooLong-clause-untouched : goal.returns-in-Err-TooLong-clause-untouched
returns-in-Err-TooLong-clause-untouched g c = refl

pub returns-in-Err-TooLong-clause-still : goal.returns-in-Err-TooLong-clause-still
returns-in-Err-TooLong-clause-still g c same = refl

pub returns-in-Err-ReadFault-clause-untouched : goal.returns-in-Err-ReadFault-clause-untouched
returns-in-Err-ReadFault-clause-untouched g c = refl

pub returns-in-Err-ReadFault-clause-still : goal.returns-in-Err-ReadFault-clause-still
returns-in-Err-ReadFault-clause-still g c same = refl

pub returns-in-Err-NoMemory-clause-still : goal.returns-in-Err-NoMemory-clause-still
returns-in-Err-NoMemory-clause-still g c same = refl

pub returns-in-Err-clause-still : goal.returns-in-Err-clause-still
returns-in-Err-clause-still g c same = refl

-- ---- counts

pub returns-in-Ok-read_file-clause-later : goal.returns-in-Ok-read_file-clause-later
returns-in-Ok-read_file-clause-later g c = (c.master_key.ensures.later, (c.read_file.ensures.later, c.worked.ensures.later))

pub returns-in-Ok-read_file-clause-stayed : goal.returns-in-Ok-read_file-clause-stayed
returns-in-Ok-read_file-clause-stayed g c = c.worked.ensures.stayed

pub returns-in-Err-TooLong-clause-later : goal.returns-in-Err-TooLong-clause-later
returns-in-Err-TooLong-clause-later g c = (c.master_key.ensures.later, (c.read_file.ensures.later, same_count _))

pub returns-in-Err-TooLong-clause-stayed : goal.returns-in-Err-TooLong-clause-stayed
returns-in-Err-TooLong-clause-stayed g c = (refl, (refl, refl))

pub returns-in-Err-ReadFault-clause-later : goal.returns-in-Err-ReadFault-clause-later
returns-in-Err-ReadFault-clause-later g c = (c.master_key.ensures.later, (c.read_file.ensures.later, same_count _))

pub returns-in-Err-ReadFault-clause-stayed : goal.returns-in-Err-ReadFault-clause-stayed
returns-in-Err-ReadFault-clause-stayed g c = (refl, (refl, refl))

pub returns-in-Err-NoMemory-clause-later : goal.returns-in-Err-NoMemory-clause-later
returns-in-Err-NoMemory-clause-later g c = (c.master_key.ensures.later, (c.read_file.ensures.later, same_count _))

pub returns-in-Err-NoMemory-clause-stayed : goal.returns-in-Err-NoMemory-clause-stayed
returns-in-Err-NoMemory-clause-stayed g c = (refl, (refl, refl))

pub returns-in-Err-clause-later : goal.returns-in-Err-clause-later
returns-in-Err-clause-later g c = (c.master_key.ensures.later, (same_count _, same_count _))

pub returns-in-Err-clause-stayed : goal.returns-in-Err-clause-stayed
returns-in-Err-clause-stayed g c = same_counts _ c.in-Err.status

pub returns-in-Ok-read_file-clause-master_stayed : goal.returns-in-Ok-read_file-clause-master_stayed
returns-in-Ok-read_file-clause-master_stayed g c = read_stayed c.worked.result files.Master _ _ c.in-Ok.ensures.stayed

pub returns-in-Ok-read_file-clause-ring_stayed : goal.returns-in-Ok-read_file-clause-ring_stayed
returns-in-Ok-read_file-clause-ring_stayed g c = read_stayed c.worked.result files.Ring _ _ (c.in-Ok-read_file.ensures.stayed (λ h. absurd cc))

pub returns-in-Err-TooLong-clause-master_stayed : goal.returns-in-Err-TooLong-clause-master_stayed
returns-in-Err-TooLong-clause-master_stayed g c not = c.in-Ok.ensures.stayed

pub returns-in-Err-TooLong-clause-ring_stayed : goal.returns-in-Err-TooLong-clause-ring_stayed
returns-in-Err-TooLong-clause-ring_stayed g c not = c.in-Err-TooLong.ensures.stayed (other_refusal refusals.TooLong _ c.in-Err-TooLong.field-0-is (λ h. absurd cc))

pub returns-in-Err-ReadFault-clause-master_stayed : goal.returns-in-Err-ReadFault-clause-master_stayed
returns-in-Err-ReadFault-clause-master_stayed g c not = c.in-Ok.ensures.stayed

pub returns-in-Err-ReadFault-clause-ring_stayed : goal.returns-in-Err-ReadFault-clause-ring_stayed
returns-in-Err-ReadFault-clause-ring_stayed g c not = absurd (not refl)

pub returns-in-Err-NoMemory-clause-master_stayed : goal.returns-in-Err-NoMemory-clause-master_stayed
returns-in-Err-NoMemory-clause-master_stayed g c not = c.in-Ok.ensures.stayed

pub returns-in-Err-NoMemory-clause-ring_stayed : goal.returns-in-Err-NoMemory-clause-ring_stayed
returns-in-Err-NoMemory-clause-ring_stayed g c not = c.in-Err-NoMemory.ensures.stayed (other_refusal refusals.NoMemory _ c.in-Err-NoMemory.field-0-is (λ h. absurd cc))

pub returns-in-Err-clause-master_stayed : goal.returns-in-Err-clause-master_stayed
returns-in-Err-clause-master_stayed g c not = c.in-Err.ensures.stayed not

pub returns-in-Err-clause-ring_stayed : goal.returns-in-Err-clause-ring_stayed
returns-in-Err-clause-ring_stayed g c not = refl
