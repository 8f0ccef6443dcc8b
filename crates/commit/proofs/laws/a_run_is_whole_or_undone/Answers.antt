use Rattle.commit.specs.Phases.{last_of}
use Rattle.commit.proofs.Composing.{steps_keep, either_on, whole_on}
use Rattle.commit.proofs.laws.a_run_is_whole_or_undone.Goals as goal

pub returns-clause-stays : goal.returns-clause-stays
returns-clause-stays g c = λ steps entries files can recovers same f is more.
    (steps_keep g.D.Disk.state g.met.D.Disk.only_now g.met.D.Disk.seen_left c.args.first.now c.args.settled.now steps entries files can same f is more recovers).1

pub returns-clause-each_moment : goal.returns-clause-each_moment
returns-clause-each_moment g c = λ steps opened entry entries before after can recovers same f is more opens either done.
    let a = c.args.first.now in
    let sealed = last_of c.args.settled.now steps in
    let kept = steps_keep g.D.Disk.state g.met.D.Disk.only_now g.met.D.Disk.seen_left a c.args.settled.now steps entries before can same f is more recovers in
    let all = either_on g.D.Disk.state g.met.D.Disk.only_now g.met.D.Disk.seen_left sealed opened c.args.end.now entries entry before after opens either done in
    whole_on g.D.Disk.state g.met.D.Disk.only_now g.met.D.Disk.seen_left a sealed c.args.end.now entries entry before after kept.0 can recovers kept.1.0 all
