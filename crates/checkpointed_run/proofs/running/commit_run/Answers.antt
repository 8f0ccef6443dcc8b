use Rattle.std.proofs.Common.{[], ◌∷◌, ◌++◌, refl, arith, FitsSigned, w64}
use Rattle.std.proofs.lemmas.Int.{to_z-of_z}
use Rattle.ledger.specs.Written.{entry_of}
use Rattle.checkpointed_run.proofs.Causes.{damage_is, none_told, not_damaged, reason_earlier}
use Rattle.checkpointed_run.proofs.Stopped.{broken_from}
use Rattle.checkpointed_run.proofs.Subqueries.{reads_nothing}
use Rattle.checkpointed_run.proofs.Rested.{same_of}
use Rattle.checkpointed_run.specs.Phases.{as_of}
use Rattle.commit.proofs.Composing.{either_on, goes_keeps, preserves_on, same_on, settles_on}
use Rattle.checkpointed_run.proofs.running.commit_run.Goals as goal

pub returns-in-Err-stage_run-clause-before : goal.returns-in-Err-stage_run-clause-before
returns-in-Err-stage_run-clause-before g c = λ earlier since is can.
    settles_on g.D.Disk.state g.met.D.Disk.only_now g.met.D.Disk.seen_left (as_of earlier c.args.commit.now) c.settle_known.new.self c.stage_run.new.commit (same_of earlier c.args.commit.now c.settle_known.new.self c.settle_known.ensures.same) can (c.settle_known.ensures.any_moment earlier since can)
    (λ entries files r. (goes_keeps g.D.Disk.state g.met.D.Disk.only_now g.met.D.Disk.seen_left c.settle_known.new.self c.stage_run.new.commit entries files c.stage_run.ensures.goes (c.in-Ok.ensures.settled earlier since can entries files r).0).0)

pub returns-in-Err-seal-clause-before : goal.returns-in-Err-seal-clause-before
returns-in-Err-seal-clause-before g c = λ earlier since is can.
    settles_on g.D.Disk.state g.met.D.Disk.only_now g.met.D.Disk.seen_left (as_of earlier c.args.commit.now) c.settle_known.new.self c.seal.new.self (same_of earlier c.args.commit.now c.settle_known.new.self c.settle_known.ensures.same) can (c.settle_known.ensures.any_moment earlier since can)
    (λ entries files r.
    let kept = goes_keeps g.D.Disk.state g.met.D.Disk.only_now g.met.D.Disk.seen_left c.settle_known.new.self c.stage_run.new.commit entries files c.stage_run.ensures.goes (c.in-Ok.ensures.settled earlier since can entries files r).0 in
    preserves_on g.D.Disk.state g.met.D.Disk.only_now g.met.D.Disk.seen_left c.settle_known.new.self c.stage_run.new.commit c.seal.new.self entries files c.stage_run.ensures.goes.same kept.0 (c.seal.ensures.any_moment entries files kept.1))

pub returns-in-Err-open_gate-clause-behind : goal.returns-in-Err-open_gate-clause-behind
returns-in-Err-open_gate-clause-behind g c = λ earlier since is.
    let range : FitsSigned w64 c.args.moment = c.ranges.moment in
    record {
      entry = entry_of c.in-Ok-stage_run.run'.entry;
      counts = c.in-Ok-stage_run.run'.counts;
      gate = c.seal.new.self;
      comes = record {
        settled = c.settle_known.new.self;
        settles = record { same = (same_of earlier c.args.commit.now c.settle_known.new.self c.settle_known.ensures.same); any_moment = c.settle_known.ensures.any_moment earlier since; settled = c.in-Ok.ensures.settled earlier since };
        staged = c.stage_run.new.commit;
        stages = simp to_z-of_z at c.in-Ok-stage_run.ensures.staged;
        seals = record { same = c.seal.ensures.same; any_moment = c.seal.ensures.any_moment; small = c.in-Ok-seal.ensures.small; sealed = c.in-Ok-seal.ensures.sealed };
      };
      opens = record { same = c.open_gate.ensures.same; any_moment = c.open_gate.ensures.any_moment };
      undamaged = λ told. absurd told;
      damage = tt;
    }

pub returns-in-Ok-finish-clause-committed : goal.returns-in-Ok-finish-clause-committed
returns-in-Ok-finish-clause-committed g c = λ earlier since.
    let range : FitsSigned w64 c.args.moment = c.ranges.moment in
    record {
      entry = entry_of c.in-Ok-stage_run.run'.entry;
      gate = c.seal.new.self;
      comes = record {
        settled = c.settle_known.new.self;
        settles = record { same = (same_of earlier c.args.commit.now c.settle_known.new.self c.settle_known.ensures.same); any_moment = c.settle_known.ensures.any_moment earlier since; settled = c.in-Ok.ensures.settled earlier since };
        staged = c.stage_run.new.commit;
        stages = simp to_z-of_z at c.in-Ok-stage_run.ensures.staged;
        seals = record { same = c.seal.ensures.same; any_moment = c.seal.ensures.any_moment; small = c.in-Ok-seal.ensures.small; sealed = c.in-Ok-seal.ensures.sealed };
      };
      opens = record {
        same = same_on c.seal.new.self c.open_gate.new.self c.finish.new.self c.open_gate.ensures.same c.finish.ensures.same;
        any_moment = λ entry entries before after is.
            either_on g.D.Disk.state g.met.D.Disk.only_now g.met.D.Disk.seen_left c.seal.new.self c.open_gate.new.self c.finish.new.self entries entry before after c.open_gate.ensures.same
            (c.open_gate.ensures.any_moment entry entries before after is) (c.finish.ensures.any_moment entry (entries ++ entry ∷ []) after (c.in-Ok-open_gate.ensures.opened entry entries before after is));
      };
      done = λ entries before after is. c.in-Ok-finish.ensures.done (entry_of c.in-Ok-stage_run.run'.entry) (entries ++ entry_of c.in-Ok-stage_run.run'.entry ∷ []) after
          (c.in-Ok-open_gate.ensures.opened (entry_of c.in-Ok-stage_run.run'.entry) entries before after is);
      finished = record {
        opened = c.open_gate.new.self;
        opens = record { opens = record { same = c.open_gate.ensures.same; any_moment = c.open_gate.ensures.any_moment }; lies = c.in-Ok-open_gate.ensures.opened };
        staged = c.in-Ok-finish.ensures.fit;
      };
    }

pub returns-clause-behind : goal.returns-clause-behind
returns-clause-behind g c = λ earlier since is.
    let range : FitsSigned w64 c.args.moment = c.ranges.moment in
    record {
      entry = entry_of c.in-Ok-stage_run.run'.entry;
      counts = c.in-Ok-stage_run.run'.counts;
      gate = c.seal.new.self;
      comes = record {
        settled = c.settle_known.new.self;
        settles = record { same = (same_of earlier c.args.commit.now c.settle_known.new.self c.settle_known.ensures.same); any_moment = c.settle_known.ensures.any_moment earlier since; settled = c.in-Ok.ensures.settled earlier since };
        staged = c.stage_run.new.commit;
        stages = simp to_z-of_z at c.in-Ok-stage_run.ensures.staged;
        seals = record { same = c.seal.ensures.same; any_moment = c.seal.ensures.any_moment; small = c.in-Ok-seal.ensures.small; sealed = c.in-Ok-seal.ensures.sealed };
      };
      opens = record {
        same = same_on c.seal.new.self c.open_gate.new.self c.finish.new.self c.open_gate.ensures.same c.finish.ensures.same;
        any_moment = λ entry entries before after is.
            either_on g.D.Disk.state g.met.D.Disk.only_now g.met.D.Disk.seen_left c.seal.new.self c.open_gate.new.self c.finish.new.self entries entry before after c.open_gate.ensures.same
            (c.open_gate.ensures.any_moment entry entries before after is) (c.finish.ensures.any_moment entry (entries ++ entry ∷ []) after (c.in-Ok-open_gate.ensures.opened entry entries before after is));
      };
      undamaged = λ told entries before after is. none_told c.in-Err-finish.fault
          (λ part p e. c.in-Err-finish.ensures.no_fault part p e (entry_of c.in-Ok-stage_run.run'.entry) (entries ++ entry_of c.in-Ok-stage_run.run'.entry ∷ []) after
          (c.in-Ok-open_gate.ensures.opened (entry_of c.in-Ok-stage_run.run'.entry) entries before after is))
          told;
      damage = broken_from g.D.Disk.state c.seal.new.self c.open_gate.new.self
          (record { opens = record { same = c.open_gate.ensures.same; any_moment = c.open_gate.ensures.any_moment }; lies = c.in-Ok-open_gate.ensures.opened }) c.in-Err-finish.fault c.in-Err-finish.ensures.fault;
    }

pub returns-in-Err-clause-undamaged : goal.returns-in-Err-clause-undamaged
returns-in-Err-clause-undamaged g c = λ earlier since is told can. none_told c.in-Err.fault (λ part p e. c.in-Err.ensures.no_fault earlier since part p e can) told

pub returns-in-Err-clause-damaged : goal.returns-in-Err-clause-damaged
returns-in-Err-clause-damaged g c = λ earlier since. damage_is (g.D.Disk.state earlier) c.args.commit.now.files.ledger c.args.commit.now.files.stage c.in-Err.fault (c.in-Err.ensures.fault earlier since)

pub returns-in-Err-clause-given : goal.returns-in-Err-clause-given
returns-in-Err-clause-given g c = reads_nothing _ _ _ _ _ refl

pub returns-in-Err-stage_run-clause-refused : goal.returns-in-Err-stage_run-clause-refused
returns-in-Err-stage_run-clause-refused g c =
    let range : FitsSigned w64 c.args.moment = c.ranges.moment in
    simp to_z-of_z at c.in-Err-stage_run.ensures.refused

pub returns-in-Err-stage_run-clause-behind : goal.returns-in-Err-stage_run-clause-behind
returns-in-Err-stage_run-clause-behind g c = λ earlier since is. absurd (c.in-Err-stage_run.ensures.before is)

pub returns-in-Err-stage_run-clause-undamaged : goal.returns-in-Err-stage_run-clause-undamaged
returns-in-Err-stage_run-clause-undamaged g c = λ earlier since is told can. c.in-Err-stage_run.ensures.undamaged told

pub returns-in-Err-stage_run-clause-damaged : goal.returns-in-Err-stage_run-clause-damaged
returns-in-Err-stage_run-clause-damaged g c = λ earlier since. not_damaged (g.D.Disk.state earlier) c.args.commit.now.files.ledger c.args.commit.now.files.stage c.in-Err-stage_run.stop c.in-Err-stage_run.ensures.undamaged (c.in-Ok.ensures.fits earlier since)

pub returns-in-Err-open_gate-clause-damaged : goal.returns-in-Err-open_gate-clause-damaged
returns-in-Err-open_gate-clause-damaged g c = λ earlier since. c.in-Ok.ensures.fits earlier since

pub returns-clause-damaged : goal.returns-clause-damaged
returns-clause-damaged g c = λ earlier since. c.in-Ok.ensures.fits earlier since

pub returns-in-Ok-finish-clause-fits : goal.returns-in-Ok-finish-clause-fits
returns-in-Ok-finish-clause-fits g c = λ earlier since. c.in-Ok.ensures.fits earlier since

pub returns-in-Err-stage_run-clause-reason : goal.returns-in-Err-stage_run-clause-reason
returns-in-Err-stage_run-clause-reason g c = reason_earlier _ _ _ c.in-Err-stage_run.stop (λ rose. omega (arith, rose, c.settle_known.ensures.reason.later)) c.in-Err-stage_run.ensures.reason

pub returns-in-Err-clause-before : goal.returns-in-Err-clause-before
returns-in-Err-clause-before g c = λ earlier since is can. c.settle_known.ensures.any_moment earlier since can
