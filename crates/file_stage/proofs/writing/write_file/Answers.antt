use Rattle.std.proofs.Common.{◌≡◌, ℕ, [], refl, sym, ap, subst}
use Rattle.lp_outside.specs.declared.stage.Mark.{Mark}
use Rattle.file_stage.specs.FileTexts.{IsThere, no_text}
use Rattle.file_stage.proofs.Staying.{front_stays, whole_file}
use Rattle.file_stage.proofs.writing.write_file.Goals as goal

pub returns-clause-file : goal.returns-clause-file
returns-clause-file g c = λ tells within.
    let base = c.args.base in
    let name = c.args.name.now in
    let text = c.args.text.now in
    let old = (g.D.Disk.state c.args.stage.now.disk.now).seen name in
    let new = (g.D.Disk.state c.close.new.self.disk.now).seen name in
    let none : c.none-mark.result.length ≡ 0 = ap (λ (m : Mark). m.length) c.none-mark.ensures in
    let nothing : IsThere old base c.none-mark.result.length [] = subst (λ (n : ℕ). IsThere old base n []) (sym none) (no_text old base) in
    let put = c.in_ok-put.ensures.gained.staged tells [] nothing in
    let first = c.put.ensures.changes tells in
    let there = (c.close.ensures.kept first.tells).closed c.args.output text put in
    let front = ((front_stays _ _ _ name base first (c.close.ensures.changes first.tells)).seen name).here refl in
    whole_file old new base _ text within front there (c.in_ok-close.ensures.cut first.tells)
