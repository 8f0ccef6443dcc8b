use Rattle.commit.proofs.Errors.{handed_on}
use Rattle.commit.proofs.Known.{found_low, found_on}
use Rattle.commit.proofs.phases.Commit.settle_known.Goals as goal

pub returns-in-Ok-clause-settled : goal.returns-in-Ok-clause-settled
returns-in-Ok-clause-settled g c = λ earlier since can entries files recovers. let s = c.in-Ok.ensures.settled earlier since can entries files recovers in (s.0, s.2)

pub returns-in-Ok-clause-found : goal.returns-in-Ok-clause-found
returns-in-Ok-clause-found g c = λ earlier since.
    let self = c.args.self.now in
    found_on (g.D.Disk.state earlier) (g.D.Disk.state self.disk.now) (g.D.Disk.state c.settle_known.new.disk) self.files.ledger c.args.known c.in-Ok.end c.if_done.result since (c.in-Ok.ensures.ends earlier since) c.in-Ok.ensures.rests c.if_done.ensures

pub returns-in-Ok-clause-low : goal.returns-in-Ok-clause-low
returns-in-Ok-clause-low g c = found_low c.in-Ok.end c.if_done.result c.in-Ok.ensures.low c.if_done.ensures
