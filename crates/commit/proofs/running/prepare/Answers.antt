use Rattle.commit.proofs.Composing.{goes_keeps, preserves_on}
use Rattle.commit.proofs.running.prepare.Goals as goal

pub returns-in-Err-clause-any_moment : goal.returns-in-Err-clause-any_moment
returns-in-Err-clause-any_moment g c = λ entries files is.
    (goes_keeps g.D.Disk.state g.met.D.Disk.only_now g.met.D.Disk.seen_left c.args.commit.now c.stage_texts.new.commit entries files c.stage_texts.ensures.goes is).0

pub returns-in-Ok-seal-clause-any_moment : goal.returns-in-Ok-seal-clause-any_moment
returns-in-Ok-seal-clause-any_moment g c = λ entries files is.
    let kept = goes_keeps g.D.Disk.state g.met.D.Disk.only_now g.met.D.Disk.seen_left c.args.commit.now c.stage_texts.new.commit entries files c.stage_texts.ensures.goes is in
    preserves_on g.D.Disk.state g.met.D.Disk.only_now g.met.D.Disk.seen_left c.args.commit.now c.stage_texts.new.commit c.seal.new.self entries files c.stage_texts.ensures.goes.same kept.0 (c.seal.ensures.any_moment entries files kept.1)

pub returns-in-Err-seal-clause-any_moment : goal.returns-in-Err-seal-clause-any_moment
returns-in-Err-seal-clause-any_moment g c = λ entries files is.
    let kept = goes_keeps g.D.Disk.state g.met.D.Disk.only_now g.met.D.Disk.seen_left c.args.commit.now c.stage_texts.new.commit entries files c.stage_texts.ensures.goes is in
    preserves_on g.D.Disk.state g.met.D.Disk.only_now g.met.D.Disk.seen_left c.args.commit.now c.stage_texts.new.commit c.seal.new.self entries files c.stage_texts.ensures.goes.same kept.0 (c.seal.ensures.any_moment entries files kept.1)

pub returns-in-Ok-seal-clause-sealed : goal.returns-in-Ok-seal-clause-sealed
returns-in-Ok-seal-clause-sealed g c = λ entries before after is adds good.
    let kept = goes_keeps g.D.Disk.state g.met.D.Disk.only_now g.met.D.Disk.seen_left c.args.commit.now c.stage_texts.new.commit entries before c.stage_texts.ensures.goes is in
    c.in-Ok-seal.ensures.sealed entries before after kept.1 (c.in-Ok.ensures.staged entries before after is adds good)
