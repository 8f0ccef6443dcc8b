use Rattle.std.proofs.Common.{rules, ap, Err, ◌∙◌}
use Rattle.commit.proofs.Known.{read_none}
use Rattle.checkpointed_command.proofs.OnDisk.{fits_of, found_of, keeps_of, near_of, settled_since, tells_of, undamaged_of, unsettled_by}
use Rattle.checkpointed_command.proofs.settling.settle_ledger.Goals as goal

pub returns-in-Ok-clause-settles : goal.returns-in-Ok-clause-settles
returns-in-Ok-clause-settles g c =
    let commit = c.new-commit.result in
    let first = commit.disk.now in
    let since = read_none (g.D.Disk.state first) commit.files.ledger in
    near_of g.D.Disk.state c.args.disk.now c.args.files commit c.new-commit.ensures.same c.new-commit.ensures.files _ c.settle_known.new.self.disk.now (search rules) (c.settle_known.ensures.any_moment first since)

pub returns-clause-settles : goal.returns-clause-settles
returns-clause-settles g c =
    let commit = c.new-commit.result in
    let first = commit.disk.now in
    let since = read_none (g.D.Disk.state first) commit.files.ledger in
    near_of g.D.Disk.state c.args.disk.now c.args.files commit c.new-commit.ensures.same c.new-commit.ensures.files _ c.settle_known.new.self.disk.now (search rules) (c.settle_known.ensures.any_moment first since)

pub returns-in-Ok-clause-fits : goal.returns-in-Ok-clause-fits
returns-in-Ok-clause-fits g c =
    let commit = c.new-commit.result in
    let first = commit.disk.now in
    let since = read_none (g.D.Disk.state first) commit.files.ledger in
    fits_of g.D.Disk.state c.args.disk.now c.args.files commit c.new-commit.ensures.same c.new-commit.ensures.files (c.in-Ok.ensures.fits first since)

pub returns-in-Ok-clause-keeps : goal.returns-in-Ok-clause-keeps
returns-in-Ok-clause-keeps g c =
    let commit = c.new-commit.result in
    let first = commit.disk.now in
    let since = read_none (g.D.Disk.state first) commit.files.ledger in
    keeps_of g.D.Disk.state c.args.disk.now c.args.files commit c.new-commit.ensures.same c.new-commit.ensures.files _ c.settle_known.new.self.disk.now (search rules) (c.in-Ok.ensures.keeps first since)

pub returns-in-Ok-clause-tells : goal.returns-in-Ok-clause-tells
returns-in-Ok-clause-tells g c =
    let commit = c.new-commit.result in
    let first = commit.disk.now in
    let since = read_none (g.D.Disk.state first) commit.files.ledger in
    tells_of g.D.Disk.state c.args.disk.now c.args.files commit c.new-commit.ensures.same c.new-commit.ensures.files _ c.settle_known.new.self.disk.now (search rules) (c.in-Ok.ensures.tells first since)

pub returns-in-Ok-clause-since : goal.returns-in-Ok-clause-since
returns-in-Ok-clause-since g c =
    let commit = c.new-commit.result in
    let first = commit.disk.now in
    let since = read_none (g.D.Disk.state first) commit.files.ledger in
    settled_since g.D.Disk.state g.met.D.Disk.only_now g.met.D.Disk.counts_now c.args.files c.args.disk.now _ c.in-Ok.known
    (record {
      settles = near_of g.D.Disk.state c.args.disk.now c.args.files commit c.new-commit.ensures.same c.new-commit.ensures.files _ c.settle_known.new.self.disk.now (search rules) (c.settle_known.ensures.any_moment first since);
      fits = fits_of g.D.Disk.state c.args.disk.now c.args.files commit c.new-commit.ensures.same c.new-commit.ensures.files (c.in-Ok.ensures.fits first since);
      keeps = keeps_of g.D.Disk.state c.args.disk.now c.args.files commit c.new-commit.ensures.same c.new-commit.ensures.files _ c.settle_known.new.self.disk.now (search rules) (c.in-Ok.ensures.keeps first since);
      tells = tells_of g.D.Disk.state c.args.disk.now c.args.files commit c.new-commit.ensures.same c.new-commit.ensures.files _ c.settle_known.new.self.disk.now (search rules) (c.in-Ok.ensures.tells first since);
    })
    (found_of g.D.Disk.state c.args.disk.now c.args.files commit c.new-commit.ensures.same c.new-commit.ensures.files _ c.settle_known.new.self.disk.now c.in-Ok.known (search rules) (c.in-Ok.ensures.found first since))

pub returns-clause-undamaged : goal.returns-clause-undamaged
returns-clause-undamaged g c =
    let commit = c.new-commit.result in
    let first = commit.disk.now in
    let since = read_none (g.D.Disk.state first) commit.files.ledger in
    undamaged_of g.D.Disk.state c.args.disk.now c.args.files commit c.new-commit.ensures.same c.new-commit.ensures.files c.in-Err.fault c.unsettled.result c.unsettled.ensures (λ part p is. c.in-Err.ensures.no_fault first since part p (ap Err is))

pub returns-clause-refused : goal.returns-clause-refused
returns-clause-refused g c =
    let commit = c.new-commit.result in
    let first = commit.disk.now in
    let since = read_none (g.D.Disk.state first) commit.files.ledger in
    unsettled_by g.D.Disk.state c.args.disk.now c.args.files commit c.settle_known.result c.in-Err.fault c.unsettled.result c.in-Err.is c.new-commit.ensures.same c.new-commit.ensures.files c.unsettled.ensures (c.settle_known.ensures.fault first since)
