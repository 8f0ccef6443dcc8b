use Rattle.std.proofs.Common.{refl}
use Rattle.row_steps.proofs.Taken.{gathers_dropped, gathers_kept}
use Rattle.row_steps.proofs.taking.GroupRowsTaker.take.Goals as goal

pub returns-in-Ok-false-clause-takes : goal.returns-in-Ok-false-clause-takes
returns-in-Ok-false-clause-takes g c = gathers_dropped g.P.Picker.picks _ _ (rw c.in-Ok-false.field-0-test at c.in-Ok-false.ensures)

pub returns-in-Ok-clause-takes : goal.returns-in-Ok-clause-takes
returns-in-Ok-clause-takes g c =
    let kept = c.in-Ok.ensures in
    gathers_kept g.P.Picker.picks _ _ _ c.args.self.now.width c.pick-picked.new.row (rw c.in-Ok-true.field-0-test at c.in-Ok-true.ensures) c.args.self.now.same_width kept.ok refl refl kept.shape.0 kept.shape.1 refl
