use Rattle.std.proofs.lemmas.Int.{to_z-of_z}
use Rattle.headline.proofs.Answered.{is_call}
use Rattle.headline.proofs.calling.run_in_world.Goals as goal

pub returns-clause-answers : goal.returns-clause-answers
returns-clause-answers g c = simp (to_z-of_z, c.ranges.moment) at c.run.ensures.answers

pub returns-clause-called : goal.returns-clause-called
returns-clause-called g c =
    let answers = simp (to_z-of_z, c.ranges.moment) at c.run.ensures.answers in
    is_call g.D.Disk.state c.args.words.now c.args.moment c.run.result c.args.disk.now c.run.new.disk _ _ answers
