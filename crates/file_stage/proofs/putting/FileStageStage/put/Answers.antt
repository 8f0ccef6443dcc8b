use Rattle.std.proofs.Common.{◌≡◌, ◌+◌, ◌%◌, ◌^◌, ℕ, List, length, take, drop, refl, sym, ◌∙◌, ap, arith}
use Rattle.disk_model.specs.Disk.{overwritten}
use Rattle.file_stage.proofs.Staying.{overwrite_behind, write_keeps_front, write_leaves_fronts}
use Rattle.file_stage.proofs.putting.FileStageStage.put.Goals as goal

pub returns-in-Ok-clause-gained : goal.returns-in-Ok-clause-gained
returns-in-Ok-clause-gained g c =
    let base = c.args.base in
    let size = c.args.mark.now.length in
    let bytes = c.args.bytes.now in
    let name = c.args.name.now in
    let old = (g.D.Disk.state c.args.self.now.disk.now).seen name in
    let new = (g.D.Disk.state c.write_at.new.self).seen name in
    let place : c.saturating_add-place.result ≡ base + size = omega (arith, c.saturating_add-place.ensures, c.in-Ok.ensures.bound) in
    record {
      tells = λ tells. (c.write_at.ensures.shows tells).tells;
      staged = λ tells was there.
          let added = overwrite_behind old base size was bytes there in
          let written : new ≡ overwritten old (base + size) bytes = c.in-Ok.ensures.written tells ∙ ap (λ (n : ℕ). overwritten old n bytes) place in
          let length_is : (size + length bytes) % 2 ^ 64 ≡ size + length bytes = omega (arith, place, c.in-Ok.ensures.bound) in
          record { whole = added.whole ∙ sym length_is; same = added.same ∙ ap (λ (l : List ℕ). take (size + length bytes) (drop base l)) (sym written) ∙ ap (λ (n : ℕ). take n (drop base new)) (sym length_is) };
      streamed = λ standard. refl;
      counted = refl;
      length_is = refl;
    }

pub returns-in-Ok-clause-changes : goal.returns-in-Ok-clause-changes
returns-in-Ok-clause-changes g c = λ tells. write_keeps_front _ _ c.args.name.now c.args.base c.saturating_add-place.result _ (omega (arith, c.saturating_add-place.ensures, c.ranges.base)) (c.write_at.ensures.shows tells)

pub returns-in-Err-clause-changes : goal.returns-in-Err-clause-changes
returns-in-Err-clause-changes g c = λ tells. write_keeps_front _ _ c.args.name.now c.args.base c.saturating_add-place.result _ (omega (arith, c.saturating_add-place.ensures, c.ranges.base)) (c.write_at.ensures.shows tells)

pub returns-in-Ok-clause-fronts : goal.returns-in-Ok-clause-fronts
returns-in-Ok-clause-fronts g c = λ tells output name start mark text before there. write_leaves_fronts _ _ c.args.name.now c.args.base c.saturating_add-place.result _ (omega (arith, c.saturating_add-place.ensures, c.ranges.base)) (c.write_at.ensures.shows tells) name start mark.length text before there

pub returns-in-Err-clause-fronts : goal.returns-in-Err-clause-fronts
returns-in-Err-clause-fronts g c = λ tells output name start mark text before there. write_leaves_fronts _ _ c.args.name.now c.args.base c.saturating_add-place.result _ (omega (arith, c.saturating_add-place.ensures, c.ranges.base)) (c.write_at.ensures.shows tells) name start mark.length text before there
