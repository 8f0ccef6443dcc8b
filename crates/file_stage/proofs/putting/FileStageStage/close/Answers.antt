use Rattle.std.proofs.Common.{refl, sym, subst, List, ℕ, arith}
use Rattle.file_stage.specs.FileTexts.{IsThere}
use Rattle.file_stage.proofs.Staying.{cut_leaves, cut_leaves_fronts}
use Rattle.file_stage.proofs.putting.FileStageStage.close.Goals as goal

pub returns-in-Ok-clause-fronts : goal.returns-in-Ok-clause-fronts
returns-in-Ok-clause-fronts g c = λ tells output name start mark text before there. cut_leaves_fronts _ _ c.args.name.now c.args.base _ (omega arith) (c.cut_behind.ensures.shows tells) name start mark.length text before there

pub returns-in-Err-clause-fronts : goal.returns-in-Err-clause-fronts
returns-in-Err-clause-fronts g c = λ tells output name start mark text before there. cut_leaves_fronts _ _ c.args.name.now c.args.base _ (omega arith) (c.cut_behind.ensures.shows tells) name start mark.length text before there

pub returns-in-Ok-clause-kept : goal.returns-in-Ok-clause-kept
returns-in-Ok-clause-kept g c = λ tells. let shows = c.cut_behind.ensures.shows tells in record {
  closed = λ output text there. cut_leaves _ _ c.args.base c.args.mark.now.length _ text (omega arith) ((shows.seen c.args.name.now).here refl) there;
  others = λ output name at other text off there. subst (λ (l : List ℕ). IsThere l at other.length text) (sym ((shows.seen name).elsewhere off)) there;
}

pub returns-in-Err-clause-kept : goal.returns-in-Err-clause-kept
returns-in-Err-clause-kept g c = λ tells. let shows = c.cut_behind.ensures.shows tells in record {
  closed = λ output text there. cut_leaves _ _ c.args.base c.args.mark.now.length _ text (omega arith) ((shows.seen c.args.name.now).here refl) there;
  others = λ output name at other text off there. subst (λ (l : List ℕ). IsThere l at other.length text) (sym ((shows.seen name).elsewhere off)) there;
}
