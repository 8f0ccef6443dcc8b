use Rattle.ledger.proofs.Resting.{rests_holds}
use Rattle.positions.proofs.loading.Positions.load.Goals as goal

pub returns-clause-loads : goal.returns-clause-loads
returns-clause-loads g c = λ file holds.
    c.load_up_to.ensures.loads file (rests_holds (g.D.Disk.state c.args.disk.now) (g.D.Disk.state c.walk.new.disk) c.args.ledger.now file c.walk.ensures.rests holds) (c.in_ok-end.ensures.walks file holds)
