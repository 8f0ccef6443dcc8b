use Rattle.std.proofs.Common.{length, sym, ◌∙◌, ap}
use Rattle.commit.proofs.staging.CommitStage.put.Goals as goal

pub returns-in-Ok-clause-lengths : goal.returns-in-Ok-clause-lengths
returns-in-Ok-clause-lengths g c = λ has name bytes away. (λ was off tells. was off has.tells ∙ ap length (sym (((c.put.ensures.shows has.tells).seen name).elsewhere off)), λ is off tells. is off (c.put.ensures.shows has.tells).tells ∙ ap length (((c.put.ensures.shows has.tells).seen name).elsewhere off))

pub returns-in-Err-clause-lengths : goal.returns-in-Err-clause-lengths
returns-in-Err-clause-lengths g c = λ has name bytes away. (λ was off tells. was off has.tells ∙ ap length (sym (((c.put.ensures.shows has.tells).seen name).elsewhere off)), λ is off tells. is off (c.put.ensures.shows has.tells).tells ∙ ap length (((c.put.ensures.shows has.tells).seen name).elsewhere off))
