use Rattle.std.proofs.Common.{rules, [], ◌∷◌, ◌++◌}
use Rattle.ledger.specs.Written.{entry_of}
use Rattle.commit.proofs.Errors.{on_ok}
use Rattle.commit.proofs.Handing.{may_from, each_at, again_at, kept_at, shown_at, rose_at, fits_at, breaks_at, lies_at}
use Rattle.commit.proofs.running.commit_two_texts.Goals as goal

pub returns-clause-each_moment : goal.returns-clause-each_moment
returns-clause-each_moment g c = λ entries before after may. each_at g.D.Disk.state c.new-commit.result c.args.disk.now c.args.files c.new-commit.ensures.same c.new-commit.ensures.files _ c.commit_texts.new.commit.disk.now entries (entry_of c.commit_texts.new.entry) after (search rules) (c.commit_texts.ensures.each_moment entries before after (may_from g.D.Disk.state c.new-commit.result c.args.disk.now c.args.files c.new-commit.ensures.same c.new-commit.ensures.files entries (entry_of c.commit_texts.new.entry) _ _ _ _ before after may))

pub returns-clause-again : goal.returns-clause-again
returns-clause-again g c = λ entries before after may. again_at g.D.Disk.state c.new-commit.result c.args.disk.now c.args.files c.new-commit.ensures.same c.new-commit.ensures.files _ c.commit_texts.new.commit.disk.now (search rules) (c.commit_texts.ensures.again entries before after (may_from g.D.Disk.state c.new-commit.result c.args.disk.now c.args.files c.new-commit.ensures.same c.new-commit.ensures.files entries (entry_of c.commit_texts.new.entry) _ _ _ _ before after may))

pub returns-clause-kept : goal.returns-clause-kept
returns-clause-kept g c = on_ok _ _ c.commit_texts.result (λ kept entries before after may. kept_at g.D.Disk.state c.new-commit.result c.args.disk.now c.args.files c.new-commit.ensures.same c.new-commit.ensures.files _ c.commit_texts.new.commit.disk.now (entries ++ entry_of c.commit_texts.new.entry ∷ []) after (search rules) (kept entries before after (may_from g.D.Disk.state c.new-commit.result c.args.disk.now c.args.files c.new-commit.ensures.same c.new-commit.ensures.files entries (entry_of c.commit_texts.new.entry) _ _ _ _ before after may))) c.commit_texts.ensures.kept

pub returns-clause-shown : goal.returns-clause-shown
returns-clause-shown g c = on_ok _ _ c.commit_texts.result (λ shown entries before after may. shown_at g.D.Disk.state c.new-commit.result c.args.disk.now c.args.files c.new-commit.ensures.same c.new-commit.ensures.files _ c.commit_texts.new.commit.disk.now after (search rules) (shown entries before after (may_from g.D.Disk.state c.new-commit.result c.args.disk.now c.args.files c.new-commit.ensures.same c.new-commit.ensures.files entries (entry_of c.commit_texts.new.entry) _ _ _ _ before after may))) c.commit_texts.ensures.shown

pub returns-clause-cause_behind : goal.returns-clause-cause_behind
returns-clause-cause_behind g c = λ is. rose_at g.D.Disk.state c.new-commit.result c.args.disk.now c.args.files c.new-commit.ensures.same c.new-commit.ensures.files g.D.Disk.faults _ c.commit_texts.new.commit.disk.now (search rules) (c.commit_texts.ensures.cause_behind is)

pub returns-clause-fits : goal.returns-clause-fits
returns-clause-fits g c = fits_at g.D.Disk.state c.new-commit.result c.args.disk.now c.args.files c.new-commit.ensures.same c.new-commit.ensures.files _ c.commit_texts.ensures.fits

pub returns-clause-breaks : goal.returns-clause-breaks
returns-clause-breaks g c = λ is. breaks_at g.D.Disk.state c.new-commit.result c.args.disk.now c.args.files c.new-commit.ensures.same c.new-commit.ensures.files g.D.Disk.faults _ c.commit_texts.new.commit.disk.now (search rules) (c.commit_texts.ensures.breaks is)

pub returns-clause-no_damage : goal.returns-clause-no_damage
returns-clause-no_damage g c = λ is entries before after may. c.commit_texts.ensures.no_damage is entries before after (may_from g.D.Disk.state c.new-commit.result c.args.disk.now c.args.files c.new-commit.ensures.same c.new-commit.ensures.files entries (entry_of c.commit_texts.new.entry) _ _ _ _ before after may)

pub returns-clause-behind : goal.returns-clause-behind
returns-clause-behind g c = λ is entries before after may. lies_at g.D.Disk.state c.new-commit.result c.args.disk.now c.args.files c.new-commit.ensures.same c.new-commit.ensures.files _ c.commit_texts.new.commit.disk.now (entries ++ entry_of c.commit_texts.new.entry ∷ []) (entry_of c.commit_texts.new.entry) (search rules) (c.commit_texts.ensures.behind is entries before after (may_from g.D.Disk.state c.new-commit.result c.args.disk.now c.args.files c.new-commit.ensures.same c.new-commit.ensures.files entries (entry_of c.commit_texts.new.entry) _ _ _ _ before after may))
