use Rattle.std.proofs.Common.{length, refl, sym, ◌∙◌, ap}
use Rattle.disk_changes.proofs.Showing.{shows_none}
use Rattle.commit.proofs.Readings.{works_read}
use Rattle.commit.proofs.staging.CommitStage.held.Goals as goal

pub returns-in-Ok-clause-goes : goal.returns-in-Ok-clause-goes
returns-in-Ok-clause-goes g c = record {
  same = record { same_reference = refl; files = refl };
  place = refl;
  next = refl;
  works = λ honest. works_read _ _ _ (c.length.ensures.crash honest);
  shows = λ tells. shows_none _ _ _ (c.length.ensures.shows tells);
}

pub returns-in-Ok-clause-lengths : goal.returns-in-Ok-clause-lengths
returns-in-Ok-clause-lengths g c = λ has name bytes. (λ was off tells. was off has.tells ∙ ap length (sym ((c.length.ensures.shows has.tells).seen name)), λ is off tells. is off (c.length.ensures.shows has.tells).tells ∙ ap length ((c.length.ensures.shows has.tells).seen name))

pub returns-in-Err-clause-goes : goal.returns-in-Err-clause-goes
returns-in-Err-clause-goes g c = record {
  same = record { same_reference = refl; files = refl };
  place = refl;
  next = refl;
  works = λ honest. works_read _ _ _ (c.length.ensures.crash honest);
  shows = λ tells. shows_none _ _ _ (c.length.ensures.shows tells);
}

pub returns-in-Err-clause-lengths : goal.returns-in-Err-clause-lengths
returns-in-Err-clause-lengths g c = λ has name bytes. (λ was off tells. was off has.tells ∙ ap length (sym ((c.length.ensures.shows has.tells).seen name)), λ is off tells. is off (c.length.ensures.shows has.tells).tells ∙ ap length ((c.length.ensures.shows has.tells).seen name))
