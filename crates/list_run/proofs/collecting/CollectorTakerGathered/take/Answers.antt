use Rattle.list_run.proofs.Taken.{collects_dropped, collects_kept}
use Rattle.list_run.proofs.collecting.CollectorTakerGathered.take.Goals as goal

pub returns-in-Ok-false-clause-takes : goal.returns-in-Ok-false-clause-takes
returns-in-Ok-false-clause-takes g c = collects_dropped g.P.Picker.picks _ _ _ (rw c.in-Ok-false.field-0-test at c.in-Ok-false.ensures)

pub returns-in-Ok-clause-takes : goal.returns-in-Ok-clause-takes
returns-in-Ok-clause-takes g c =
    collects_kept g.P.Picker.picks _ _ _ _ c.pick-picked.new.row (rw c.in-Ok-true.field-0-test at c.in-Ok-true.ensures) c.in-Ok.ensures
