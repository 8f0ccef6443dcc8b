use Rattle.std.proofs.Common.{◌≡◌, List, length, sym, ◌∙◌, ap, subst}
use Rattle.std.specs.Prelude.{slice_get}
use Rattle.ledger_model.specs.Entries.{Output}
use Rattle.ledger.specs.Written.{entry_of}
use Rattle.recovery_model.specs.Recovered.{IsOther, AreApart}
use Rattle.commit.specs.States.{HasStaged}
use Rattle.commit.specs.Putting.{IsText}
use Rattle.commit.specs.declared.phases.CommitFiles.{CommitFiles}
use Rattle.commit.specs.Phases.{disk_of, stage_of, ledger_of}
use Rattle.commit.specs.Going.{goes_on}
use Rattle.commit.proofs.Composing.{goes_keeps}
use Rattle.commit.proofs.Noting.{staged_two}
use Rattle.commit.proofs.running.stage_texts.Goals as goal

pub returns-in-Err-place_two_texts-clause-goes : goal.returns-in-Err-place_two_texts-clause-goes
returns-in-Err-place_two_texts-clause-goes g c = goes_on g.D.Disk.state c.args.commit.now c.start.new.self c.place_two_texts.new.stage c.start.ensures.goes c.place_two_texts.ensures.goes

pub returns-in-Ok-note-clause-goes : goal.returns-in-Ok-note-clause-goes
returns-in-Ok-note-clause-goes g c = goes_on g.D.Disk.state c.args.commit.now c.start.new.self c.place_two_texts.new.stage c.start.ensures.goes c.place_two_texts.ensures.goes

pub returns-in-Err-note-clause-goes : goal.returns-in-Err-note-clause-goes
returns-in-Err-note-clause-goes g c = goes_on g.D.Disk.state c.args.commit.now c.start.new.self c.place_two_texts.new.stage c.start.ensures.goes c.place_two_texts.ensures.goes

pub returns-in-Ok-note-clause-staged : goal.returns-in-Ok-note-clause-staged
returns-in-Ok-note-clause-staged g c = λ entries before after is adds good.
    let state = g.D.Disk.state in
    let a = c.args.commit.now in
    let mid = c.start.new.self in
    let new = c.place_two_texts.new.stage in
    let e = entry_of c.note.new.entry in
    let settled = (goes_keeps state g.met.D.Disk.only_now g.met.D.Disk.seen_left a mid entries before c.start.ensures.goes is).1 in
    let has = (c.in-Ok.ensures.empty (g.met.D.Disk.honest_tells a.disk.now is.honest)).0 in
    let said = c.in-Ok-place_two_texts.ensures in
    let one = said.first has in
    let two = said.second has in
    let bases = said.bases has in
    let shown = g.met.D.Disk.seen_left mid.disk.now settled.honest in
    let to_a : new.files ≡ a.files = c.place_two_texts.ensures.goes.same.files ∙ c.start.ensures.goes.same.files in
    let mid_a : mid.files ≡ a.files = c.start.ensures.goes.same.files in
    let outputs = c.in-Ok-note.ensures.outputs in
    let apart : AreApart (ledger_of mid) (stage_of mid) e.outputs = subst (λ (f : CommitFiles). AreApart f.ledger f.stage e.outputs) (sym mid_a) good.apart in
    let first_apart : IsOther (ledger_of mid) (stage_of mid) c.args.first.now = apart 0 _ (ap (λ (os : List Output). slice_get os 0) outputs) in
    let second_apart : IsOther (ledger_of mid) (stage_of mid) c.args.second.now = apart 1 _ (ap (λ (os : List Output). slice_get os 1) outputs) in
    let first_base = bases.0 first_apart.1.0 has.tells ∙ ap length (settled.files_are c.args.first.now _ first_apart (shown c.args.first.now)) in
    let second_base = bases.1 second_apart.1.0 has.tells ∙ ap length (settled.files_are c.args.second.now _ second_apart (shown c.args.second.now)) in
    let staged : e.staged ≡ length ((disk_of state new).seen (stage_of a)) = c.in-Ok-note.ensures.staged ∙ c.staged.ensures ∙ sym one.0.size_is ∙ ap (λ (f : CommitFiles). length ((disk_of state new).seen f.stage)) to_a in
    subst (λ (f : CommitFiles). HasStaged (disk_of state new) f.ledger f.stage (entry_of c.note.new.entry) before after) (sym to_a)
    (staged_two (disk_of state new) (ledger_of a) (stage_of a) e c.args.first.now c.args.one.now c.args.second.now c.args.two.now _ _ _ _ before after good outputs staged first_base second_base
    (subst (λ (f : CommitFiles). IsText ((disk_of state new).seen f.stage) 0 c.in-Ok-place_two_texts.placed.0.mark.last c.in-Ok-place_two_texts.placed.0.mark.length c.args.one.now) to_a one.1)
    (subst (λ (f : CommitFiles). IsText ((disk_of state new).seen f.stage) 1 c.in-Ok-place_two_texts.placed.1.mark.last c.in-Ok-place_two_texts.placed.1.mark.length c.args.two.now) to_a two.1) adds)
