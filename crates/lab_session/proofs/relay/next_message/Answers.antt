use Rattle.lab_session.proofs.Relayed.{gave, gave_none, gave_fault, unread, first_frame, first_read}
use Rattle.lab_session.proofs.relay.next_message.Goals as goal

pub returns-in-Ok : goal.returns-in-Ok
returns-in-Ok c messages h =
    first_read c.in-Ok.message _ _ messages _ (first_frame _ _ _ messages (gave _ _ c.in-Ok-Some.field-0 _ c.in-Ok-Some.field-0-is c.in-Ok-Some.ensures) h) c.in-Ok.ensures.only

pub returns-in-Ok-None : goal.returns-in-Ok-None
returns-in-Ok-None c messages h = gave_none _ _ c.in-Ok-None.field-0 messages c.in-Ok-None.field-0-is c.in-Ok-None.ensures h

pub unreachable-requires : goal.unreachable-requires
unreachable-requires c =
    let h = c.requires in
    unread c.in-Err-BodyFault.field-0 c.in-Err-BodyFault.field-0-0 _ _ h.0 _ c.in-Err-BodyFault.field-0-is (first_frame _ _ _ h.0 (gave _ _ c.in-Ok-Some.field-0 _ c.in-Ok-Some.field-0-is c.in-Ok-Some.ensures) h.1) c.in-Err-BodyFault.ensures.only

pub unreachable-requires-in-Err-Frame : goal.unreachable-requires-in-Err-Frame
unreachable-requires-in-Err-Frame c =
    let h = c.requires in
    gave_fault _ _ h.0 c.in-Err-Frame.field-0 c.in-Err-Frame.field-0-0 c.in-Err-Frame.field-0-1 c.in-Err-Frame.field-0-is c.in-Err-Frame.ensures h.1
