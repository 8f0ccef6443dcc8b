use Rattle.std.proofs.Common.{◌∙◌, sym, ap, refl, arith, fold, length}
use Rattle.std.proofs.lemmas.List.{length-set, at_drop_all}
use Rattle.list_run.specs.Gathering.{remembering}
use Rattle.lp_values.specs.declared.value.Value.TheVariants.{Null}
use Rattle.list_run.proofs.Taken.{moved_one}
use Rattle.list_run.proofs.adding.add_row.Goals as goal

pub loop-index-init : goal.loop-index-init
loop-index-init c = record { whole = refl; size = refl }

pub loop-index-preserved : goal.loop-index-preserved
loop-index-preserved c =
    let so_far = c.loop-index.invariant in
    let i = c.loop-index.index in
    let row = c.loop-index.row in
    record {
      whole = moved_one c.loop-index.gathered c.add.new.self row c.replace.new.self c.replace.result Null i (omega arith) c.replace.ensures.result c.replace.ensures.list c.in_ok-add.ensures ∙ so_far.whole;
      size = ap length c.replace.ensures.list ∙ (length-set row i Null ∙ so_far.size);
    }

pub returns : goal.returns
returns c =
    let so_far = c.loop-index.invariant in
    sym (at_drop_all (fold remembering c.loop-index.gathered) c.loop-index.row c.loop-index.index (omega arith)) ∙ so_far.whole
