use Rattle.std.proofs.Common.{ap, ◌∙◌, option_and_then}
use Rattle.lp_time.specs.Readings.{pattern_part, seconds_in}
use Rattle.slot_reading.specs.Slots.{or_null}
use Rattle.slot_reading.specs.Stamps.{stamp_value}
use Rattle.slot_reading.proofs.StampLemmas.{stamp_value-at}
use Rattle.slot_reading.proofs.slots.stamp_value.Goals as goal

pub returns-in-Some-read_stamp : goal.returns-in-Some-read_stamp
returns-in-Some-read_stamp c =
    let pattern = c.args.pattern.now in
    let read = c.in-Some-read_stamp in
    stamp_value-at read.stamp (pattern_part pattern) read.ensures.part
    ∙ ap (or_null (stamp_value (pattern_part pattern))) (read.ensures.seconds ∙ ap (option_and_then (seconds_in pattern)) c.in-Some.ensures)
