use Rattle.acra_base.specs.declared.no_memory.NoMemory.{NoMemory}
use Rattle.lab_session.proofs.Relayed.{gave}
use Rattle.lab_session.proofs.Saying.{bad_fault, frame_gives}
use Rattle.lab_session.proofs.said.next_said.Goals as goal

pub returns-in-Err-Frame : goal.returns-in-Err-Frame
returns-in-Err-Frame c =
    bad_fault _ _ c.in-Err-Frame.field-0 c.in-Err-Frame.offset _ c.in-Err-Frame.fault _ c.requires.who c.requires.limit c.in-Err-Frame.field-0-is c.in-Err-Frame.offset-is c.in-Err-Frame.fault-is c.in-Err-Frame.ensures

pub returns-in-Ok-Some : goal.returns-in-Ok-Some
returns-in-Ok-Some c =
    frame_gives NoMemory _ _ c.in-Ok-Some.frame c.understood.result c.requires.who c.requires.limit (gave _ _ c.in-Ok-Some.field-0 _ c.in-Ok-Some.field-0-is c.in-Ok-Some.ensures) c.understood.ensures
