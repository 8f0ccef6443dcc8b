use Rattle.commit.proofs.Errors.{on_ok}
use Rattle.commit.proofs.phases.Commit.open_gate.Goals as goal

pub returns-clause-any_moment : goal.returns-clause-any_moment
returns-clause-any_moment g c = λ entry entries before after is.
    let e = c.open_gate.ensures.any_moment c.args.self.now.files.stage entry entries before after is.0 in
    record { each_moment = e.0; now = e.1 }

pub returns-clause-opened : goal.returns-clause-opened
returns-clause-opened g c = on_ok _ _ c.open_gate.result (λ opened entry entries before after is. (opened c.args.self.now.files.stage entry entries before after is.0, is.1)) c.open_gate.ensures.opened

pub returns-clause-lies : goal.returns-clause-lies
returns-clause-lies g c = λ entry entries before after is. c.open_gate.ensures.lies c.args.self.now.files.stage entry entries before after is.0
