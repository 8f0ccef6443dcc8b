use Rattle.std.proofs.Common.{Err, ap, [], ◌∷◌, ◌++◌}
use Rattle.ledger.specs.Written.{entry_of}
use Rattle.commit.proofs.Composing.{settles_on, only_settled, whole_on, same_on, good_on, done_on, lies_on}
use Rattle.commit.proofs.Causes.{rose_or_breaks}
use Rattle.commit.proofs.running.commit_texts.Goals as goal

pub returns-in-Err-Failed-clause-refused : goal.returns-in-Err-Failed-clause-refused
returns-in-Err-Failed-clause-refused g c = λ is can.
    settles_on g.D.Disk.state g.met.D.Disk.only_now g.met.D.Disk.seen_left c.args.commit.now c.settle.new.self c.prepare.new.commit c.settle.ensures.same can (c.settle.ensures.any_moment can)
    (λ entries files r. c.prepare.ensures.any_moment entries files (c.in-Ok.ensures.settled can entries files r).0)

pub returns-in-Err-Memory-clause-memory : goal.returns-in-Err-Memory-clause-memory
returns-in-Err-Memory-clause-memory g c = λ is can.
    settles_on g.D.Disk.state g.met.D.Disk.only_now g.met.D.Disk.seen_left c.args.commit.now c.settle.new.self c.prepare.new.commit c.settle.ensures.same can (c.settle.ensures.any_moment can)
    (λ entries files r. c.prepare.ensures.any_moment entries files (c.in-Ok.ensures.settled can entries files r).0)

pub returns-in-Err-clause-each_moment : goal.returns-in-Err-clause-each_moment
returns-in-Err-clause-each_moment g c = λ entries before after may. (only_settled g.D.Disk.state g.met.D.Disk.only_now g.met.D.Disk.seen_left c.args.commit.now c.settle.new.self entries (entry_of c.args.entry.now) after c.settle.ensures.same (c.settle.ensures.any_moment may.can)).0

pub returns-in-Err-Memory-clause-each_moment : goal.returns-in-Err-Memory-clause-each_moment
returns-in-Err-Memory-clause-each_moment g c = λ entries before after may.
    let settles = settles_on g.D.Disk.state g.met.D.Disk.only_now g.met.D.Disk.seen_left c.args.commit.now c.settle.new.self c.prepare.new.commit c.settle.ensures.same may.can (c.settle.ensures.any_moment may.can)
    (λ entries files r. c.prepare.ensures.any_moment entries files (c.in-Ok.ensures.settled may.can entries files r).0) in
    (only_settled g.D.Disk.state g.met.D.Disk.only_now g.met.D.Disk.seen_left c.args.commit.now c.prepare.new.commit entries (entry_of c.prepare.new.entry) after (same_on _ _ _ c.settle.ensures.same c.prepare.ensures.same) settles).0

pub returns-in-Err-Failed-clause-each_moment : goal.returns-in-Err-Failed-clause-each_moment
returns-in-Err-Failed-clause-each_moment g c = λ entries before after may.
    let settles = settles_on g.D.Disk.state g.met.D.Disk.only_now g.met.D.Disk.seen_left c.args.commit.now c.settle.new.self c.prepare.new.commit c.settle.ensures.same may.can (c.settle.ensures.any_moment may.can)
    (λ entries files r. c.prepare.ensures.any_moment entries files (c.in-Ok.ensures.settled may.can entries files r).0) in
    (only_settled g.D.Disk.state g.met.D.Disk.only_now g.met.D.Disk.seen_left c.args.commit.now c.prepare.new.commit entries (entry_of c.prepare.new.entry) after (same_on _ _ _ c.settle.ensures.same c.prepare.ensures.same) settles).0

pub returns-in-Ok-conclude-clause-each_moment : goal.returns-in-Ok-conclude-clause-each_moment
returns-in-Ok-conclude-clause-each_moment g c = λ entries before after may.
    let settles = settles_on g.D.Disk.state g.met.D.Disk.only_now g.met.D.Disk.seen_left c.args.commit.now c.settle.new.self c.prepare.new.commit c.settle.ensures.same may.can (c.settle.ensures.any_moment may.can)
    (λ entries files r. c.prepare.ensures.any_moment entries files (c.in-Ok.ensures.settled may.can entries files r).0) in
    let settled = (c.in-Ok.ensures.settled may.can entries before may.recovers).0 in
    let sealed = c.in-Ok-prepare.ensures.sealed entries before after settled may.adds (good_on _ _ _ c.settle.ensures.same may.good) in
    (whole_on g.D.Disk.state g.met.D.Disk.only_now g.met.D.Disk.seen_left c.args.commit.now c.prepare.new.commit c.conclude.new.commit entries (entry_of c.prepare.new.entry) before after
    (same_on _ _ _ c.settle.ensures.same c.prepare.ensures.same) may.can may.recovers settles (c.conclude.ensures.any_moment (entry_of c.prepare.new.entry) entries before after sealed)).0

pub returns-in-Err-DiskFault-clause-each_moment : goal.returns-in-Err-DiskFault-clause-each_moment
returns-in-Err-DiskFault-clause-each_moment g c = λ entries before after may.
    let settles = settles_on g.D.Disk.state g.met.D.Disk.only_now g.met.D.Disk.seen_left c.args.commit.now c.settle.new.self c.prepare.new.commit c.settle.ensures.same may.can (c.settle.ensures.any_moment may.can)
    (λ entries files r. c.prepare.ensures.any_moment entries files (c.in-Ok.ensures.settled may.can entries files r).0) in
    let settled = (c.in-Ok.ensures.settled may.can entries before may.recovers).0 in
    let sealed = c.in-Ok-prepare.ensures.sealed entries before after settled may.adds (good_on _ _ _ c.settle.ensures.same may.good) in
    (whole_on g.D.Disk.state g.met.D.Disk.only_now g.met.D.Disk.seen_left c.args.commit.now c.prepare.new.commit c.conclude.new.commit entries (entry_of c.prepare.new.entry) before after
    (same_on _ _ _ c.settle.ensures.same c.prepare.ensures.same) may.can may.recovers settles (c.conclude.ensures.any_moment (entry_of c.prepare.new.entry) entries before after sealed)).0

pub returns-in-Err-clause-again : goal.returns-in-Err-clause-again
returns-in-Err-clause-again g c = λ entries before after may. (only_settled g.D.Disk.state g.met.D.Disk.only_now g.met.D.Disk.seen_left c.args.commit.now c.settle.new.self entries (entry_of c.args.entry.now) after c.settle.ensures.same (c.settle.ensures.any_moment may.can)).1

pub returns-in-Err-Memory-clause-again : goal.returns-in-Err-Memory-clause-again
returns-in-Err-Memory-clause-again g c = λ entries before after may.
    let settles = settles_on g.D.Disk.state g.met.D.Disk.only_now g.met.D.Disk.seen_left c.args.commit.now c.settle.new.self c.prepare.new.commit c.settle.ensures.same may.can (c.settle.ensures.any_moment may.can)
    (λ entries files r. c.prepare.ensures.any_moment entries files (c.in-Ok.ensures.settled may.can entries files r).0) in
    (only_settled g.D.Disk.state g.met.D.Disk.only_now g.met.D.Disk.seen_left c.args.commit.now c.prepare.new.commit entries (entry_of c.prepare.new.entry) after (same_on _ _ _ c.settle.ensures.same c.prepare.ensures.same) settles).1

pub returns-in-Err-Failed-clause-again : goal.returns-in-Err-Failed-clause-again
returns-in-Err-Failed-clause-again g c = λ entries before after may.
    let settles = settles_on g.D.Disk.state g.met.D.Disk.only_now g.met.D.Disk.seen_left c.args.commit.now c.settle.new.self c.prepare.new.commit c.settle.ensures.same may.can (c.settle.ensures.any_moment may.can)
    (λ entries files r. c.prepare.ensures.any_moment entries files (c.in-Ok.ensures.settled may.can entries files r).0) in
    (only_settled g.D.Disk.state g.met.D.Disk.only_now g.met.D.Disk.seen_left c.args.commit.now c.prepare.new.commit entries (entry_of c.prepare.new.entry) after (same_on _ _ _ c.settle.ensures.same c.prepare.ensures.same) settles).1

pub returns-in-Ok-conclude-clause-again : goal.returns-in-Ok-conclude-clause-again
returns-in-Ok-conclude-clause-again g c = λ entries before after may.
    let settles = settles_on g.D.Disk.state g.met.D.Disk.only_now g.met.D.Disk.seen_left c.args.commit.now c.settle.new.self c.prepare.new.commit c.settle.ensures.same may.can (c.settle.ensures.any_moment may.can)
    (λ entries files r. c.prepare.ensures.any_moment entries files (c.in-Ok.ensures.settled may.can entries files r).0) in
    let settled = (c.in-Ok.ensures.settled may.can entries before may.recovers).0 in
    let sealed = c.in-Ok-prepare.ensures.sealed entries before after settled may.adds (good_on _ _ _ c.settle.ensures.same may.good) in
    (whole_on g.D.Disk.state g.met.D.Disk.only_now g.met.D.Disk.seen_left c.args.commit.now c.prepare.new.commit c.conclude.new.commit entries (entry_of c.prepare.new.entry) before after
    (same_on _ _ _ c.settle.ensures.same c.prepare.ensures.same) may.can may.recovers settles (c.conclude.ensures.any_moment (entry_of c.prepare.new.entry) entries before after sealed)).1

pub returns-in-Err-DiskFault-clause-again : goal.returns-in-Err-DiskFault-clause-again
returns-in-Err-DiskFault-clause-again g c = λ entries before after may.
    let settles = settles_on g.D.Disk.state g.met.D.Disk.only_now g.met.D.Disk.seen_left c.args.commit.now c.settle.new.self c.prepare.new.commit c.settle.ensures.same may.can (c.settle.ensures.any_moment may.can)
    (λ entries files r. c.prepare.ensures.any_moment entries files (c.in-Ok.ensures.settled may.can entries files r).0) in
    let settled = (c.in-Ok.ensures.settled may.can entries before may.recovers).0 in
    let sealed = c.in-Ok-prepare.ensures.sealed entries before after settled may.adds (good_on _ _ _ c.settle.ensures.same may.good) in
    (whole_on g.D.Disk.state g.met.D.Disk.only_now g.met.D.Disk.seen_left c.args.commit.now c.prepare.new.commit c.conclude.new.commit entries (entry_of c.prepare.new.entry) before after
    (same_on _ _ _ c.settle.ensures.same c.prepare.ensures.same) may.can may.recovers settles (c.conclude.ensures.any_moment (entry_of c.prepare.new.entry) entries before after sealed)).1

pub returns-in-Ok-conclude-clause-kept : goal.returns-in-Ok-conclude-clause-kept
returns-in-Ok-conclude-clause-kept g c = λ entries before after may.
    let settled = (c.in-Ok.ensures.settled may.can entries before may.recovers).0 in
    let sealed = c.in-Ok-prepare.ensures.sealed entries before after settled may.adds (good_on _ _ _ c.settle.ensures.same may.good) in
    let e = entry_of c.prepare.new.entry in
    (done_on g.D.Disk.state g.met.D.Disk.only_now g.met.D.Disk.seen_left c.args.commit.now c.conclude.new.commit (entries ++ e ∷ []) after (same_on _ _ _ (same_on _ _ _ c.settle.ensures.same c.prepare.ensures.same) c.conclude.ensures.same) (c.in-Ok-conclude.ensures.done e entries before after sealed)).0

pub returns-in-Ok-conclude-clause-shown : goal.returns-in-Ok-conclude-clause-shown
returns-in-Ok-conclude-clause-shown g c = λ entries before after may.
    let settled = (c.in-Ok.ensures.settled may.can entries before may.recovers).0 in
    let sealed = c.in-Ok-prepare.ensures.sealed entries before after settled may.adds (good_on _ _ _ c.settle.ensures.same may.good) in
    let e = entry_of c.prepare.new.entry in
    (done_on g.D.Disk.state g.met.D.Disk.only_now g.met.D.Disk.seen_left c.args.commit.now c.conclude.new.commit (entries ++ e ∷ []) after (same_on _ _ _ (same_on _ _ _ c.settle.ensures.same c.prepare.ensures.same) c.conclude.ensures.same) (c.in-Ok-conclude.ensures.done e entries before after sealed)).1

pub returns-in-Err-DiskFault-clause-behind : goal.returns-in-Err-DiskFault-clause-behind
returns-in-Err-DiskFault-clause-behind g c = λ is entries before after may.
    let settled = (c.in-Ok.ensures.settled may.can entries before may.recovers).0 in
    let sealed = c.in-Ok-prepare.ensures.sealed entries before after settled may.adds (good_on _ _ _ c.settle.ensures.same may.good) in
    let e = entry_of c.prepare.new.entry in
    lies_on (g.D.Disk.state c.conclude.new.commit.disk.now) c.args.commit.now c.prepare.new.commit (entries ++ e ∷ []) e (same_on _ _ _ c.settle.ensures.same c.prepare.ensures.same) (c.conclude.ensures.lies e entries before after sealed)

pub returns-in-Err-LedgerFault-clause-each_moment : goal.returns-in-Err-LedgerFault-clause-each_moment
returns-in-Err-LedgerFault-clause-each_moment g c = λ entries before after may.
    let settled = (c.in-Ok.ensures.settled may.can entries before may.recovers).0 in
    let sealed = c.in-Ok-prepare.ensures.sealed entries before after settled may.adds (good_on _ _ _ c.settle.ensures.same may.good) in
    absurd (c.in-Err-LedgerFault.ensures.no_fault _ _ (ap (λ f. Err f) c.in-Err-LedgerFault.field-0-is) (entry_of c.prepare.new.entry) entries before after sealed)

pub returns-in-Err-LedgerFault-clause-again : goal.returns-in-Err-LedgerFault-clause-again
returns-in-Err-LedgerFault-clause-again g c = λ entries before after may.
    let settled = (c.in-Ok.ensures.settled may.can entries before may.recovers).0 in
    let sealed = c.in-Ok-prepare.ensures.sealed entries before after settled may.adds (good_on _ _ _ c.settle.ensures.same may.good) in
    absurd (c.in-Err-LedgerFault.ensures.no_fault _ _ (ap (λ f. Err f) c.in-Err-LedgerFault.field-0-is) (entry_of c.prepare.new.entry) entries before after sealed)

pub returns-in-Err-LedgerFault-clause-no_damage : goal.returns-in-Err-LedgerFault-clause-no_damage
returns-in-Err-LedgerFault-clause-no_damage g c = λ is entries before after may.
    let settled = (c.in-Ok.ensures.settled may.can entries before may.recovers).0 in
    let sealed = c.in-Ok-prepare.ensures.sealed entries before after settled may.adds (good_on _ _ _ c.settle.ensures.same may.good) in
    c.in-Err-LedgerFault.ensures.no_fault _ _ (ap (λ f. Err f) c.in-Err-LedgerFault.field-0-is) (entry_of c.prepare.new.entry) entries before after sealed

pub returns-in-Err-clause-breaks : goal.returns-in-Err-clause-breaks
returns-in-Err-clause-breaks g c = λ is tells apart. rose_or_breaks _ _ _ c.in-Err.field-0 c.in-Err.ensures.reason.failed (λ part p e. c.in-Err.ensures.fault part p (ap (λ f. Err f) e) tells apart)
