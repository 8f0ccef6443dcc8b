use Rattle.slot_reading.proofs.Texts.{utf8_text-utf8, utf8_text-other}
use Rattle.slot_reading.proofs.slots.utf8_text.Goals as goal

pub returns-in-Ok : goal.returns-in-Ok
returns-in-Ok c = utf8_text-utf8 c.args.bytes.now c.in-Ok.text.now c.in-Ok.ensures.cases.0 c.in-Ok.ensures.cases.1

pub returns-in-Err : goal.returns-in-Err
returns-in-Err c = utf8_text-other c.args.bytes.now c.in-Err.ensures.cases.0
