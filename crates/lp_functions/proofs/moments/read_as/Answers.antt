use Rattle.std.proofs.Common.{ap, sym, ◌∙◌}
use Rattle.lp_values.specs.declared.value.Value.{Value}
use Rattle.lp_time.specs.Readings.{pattern_part, seconds_in}
use Rattle.slot_reading.specs.Slots.{or_null}
use Rattle.slot_reading.specs.Stamps.{stamp_value}
use Rattle.slot_reading.proofs.StampLemmas.{stamp_value-at}
use Rattle.lp_functions.specs.Moments.{read_as}
use Rattle.lp_functions.proofs.moments.read_as.Goals as goal

pub returns-in-Some-clause-value : goal.returns-in-Some-clause-value
returns-in-Some-clause-value c =
    let part = pattern_part c.args.pattern.now in
    stamp_value-at c.in-Some.stamp part c.in-Some.ensures.part ∙ ap (or_null (stamp_value part)) c.in-Some.ensures.seconds
    ∙ ap (λ t. or_null (stamp_value part) (seconds_in c.args.pattern.now t)) c.as_str.ensures ∙ sym (ap (λ (v : Value). read_as c.args.pattern.now v) c.in-Text.is)
