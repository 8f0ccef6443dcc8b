use Rattle.std.proofs.Common.{FitsSigned, w64, refl, rules, subst}
use Rattle.std.specs.Prelude.{IfErr, OnOk}
use Rattle.commit.specs.declared.phases.CommitFiles.{CommitFiles}
use Rattle.checkpointed_run.specs.Phases.{as_of}
use Rattle.checkpointed_run.specs.Reasons.{FitsAsRead, StopsAtDamage}
use Rattle.checkpointed_run.proofs.Rested.{held_since}
use Rattle.std.proofs.lemmas.Int.{to_z-of_z}
use Rattle.checkpointed_run.proofs.over.run_over_spans.Goals as goal

pub returns-clause-runs : goal.returns-clause-runs
returns-clause-runs g c = λ read since.
    let range : FitsSigned w64 c.args.moment = c.ranges.moment in
    let held = held_since g.D.Disk.state read c.args.disk.now c.args.files c.args.known c.new-commit.result c.new-commit.ensures.same c.new-commit.ensures.files since in
    let committed = simp to_z-of_z at c.commit_run.ensures.committed in
    let behind = simp to_z-of_z at c.commit_run.ensures.behind in
    record {
      first = as_of read c.new-commit.result;
      last = c.commit_run.new.commit;
      files_are = c.new-commit.ensures.files;
      old_is = refl;
      new_is = search rules;
      committed = committed read held;
      before = c.commit_run.ensures.before read held;
      behind = behind read held;
      undamaged = c.commit_run.ensures.undamaged read held;
    }

pub returns-clause-fits : goal.returns-clause-fits
returns-clause-fits g c = λ read since.
    let held = held_since g.D.Disk.state read c.args.disk.now c.args.files c.args.known c.new-commit.result c.new-commit.ensures.same c.new-commit.ensures.files since in
    subst (λ (files : CommitFiles). OnOk c.commit_run.result (FitsAsRead (g.D.Disk.state read) files.ledger files.stage)) c.new-commit.ensures.files (c.commit_run.ensures.fits read held)

pub returns-clause-damaged : goal.returns-clause-damaged
returns-clause-damaged g c = λ read since.
    let held = held_since g.D.Disk.state read c.args.disk.now c.args.files c.args.known c.new-commit.result c.new-commit.ensures.same c.new-commit.ensures.files since in
    subst (λ (files : CommitFiles). IfErr c.commit_run.result (StopsAtDamage (g.D.Disk.state read) files.ledger files.stage)) c.new-commit.ensures.files (c.commit_run.ensures.damaged read held)
