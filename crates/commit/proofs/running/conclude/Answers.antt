use Rattle.std.proofs.Common.{[], ◌∷◌, ◌++◌}
use Rattle.commit.proofs.Errors.{on_ok}
use Rattle.commit.proofs.Composing.{either_on, lies_on}
use Rattle.commit.proofs.running.conclude.Goals as goal

pub returns-clause-any_moment : goal.returns-clause-any_moment
returns-clause-any_moment g c = λ entry entries before after is.
    let opened = c.in-Ok.ensures.opened entry entries before after is in
    either_on g.D.Disk.state g.met.D.Disk.only_now g.met.D.Disk.seen_left c.args.commit.now c.open_gate.new.self c.finish.new.self entries entry before after c.open_gate.ensures.same
    (c.open_gate.ensures.any_moment entry entries before after is) (c.finish.ensures.any_moment entry (entries ++ entry ∷ []) after opened)

pub returns-clause-done : goal.returns-clause-done
returns-clause-done g c = on_ok _ _ c.finish.result (λ done entry entries before after is. done entry (entries ++ entry ∷ []) after (c.in-Ok.ensures.opened entry entries before after is)) c.finish.ensures.done

pub returns-clause-no_fault : goal.returns-clause-no_fault
returns-clause-no_fault g c = λ part p fault entry entries before after is. c.finish.ensures.no_fault part p fault entry (entries ++ entry ∷ []) after (c.in-Ok.ensures.opened entry entries before after is)

pub returns-in-Err-clause-lies : goal.returns-in-Err-clause-lies
returns-in-Err-clause-lies g c = λ entry entries before after is. c.open_gate.ensures.lies entry entries before after is

pub returns-clause-lies : goal.returns-clause-lies
returns-clause-lies g c = λ entry entries before after is.
    lies_on (g.D.Disk.state c.finish.new.self.disk.now) c.args.commit.now c.open_gate.new.self (entries ++ entry ∷ []) entry c.open_gate.ensures.same (c.finish.ensures.lies entry (entries ++ entry ∷ []) after (c.in-Ok.ensures.opened entry entries before after is))
