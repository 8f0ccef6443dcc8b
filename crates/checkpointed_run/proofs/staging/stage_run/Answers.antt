use Rattle.std.proofs.Common.{◌≡◌, refl, FitsSigned, w64}
use Rattle.std.specs.Prelude.{IsSome}
use Rattle.std.proofs.lemmas.Int.{to_z-of_z}
use Rattle.lp_model.proofs.Growing.{OnlyGrow-refl, OnlyGrow-trans}
use Rattle.command_words.specs.declared.formats.OutputFormat.{OutputFormat}
use Rattle.command_words.specs.declared.formats.OutputFormat.TheVariants as O
use Rattle.commit.specs.Going.{goes_on}
use Rattle.run_entry.specs.Texts.{sections_in}
use Rattle.query_tree.specs.Views.{query_of}
use Rattle.run_entry.proofs.Keeping.{give_wider}
use Rattle.checkpointed_run.proofs.Causes.{reason_earlier, run_reason, subquery_reason}
use Rattle.checkpointed_run.proofs.Subqueries.{entry_behind, reads_nothing, reads_subqueries, reads_then, refused_behind, template_still, there_still}
use Rattle.checkpointed_run.proofs.staging.stage_run.Goals as goal

pub stage_filled-requires-clause-there : goal.stage_filled-requires-clause-there
stage_filled-requires-clause-there g c = there_still _ _ c.args.spans.now c.give_lists.ensures.grows c.requires.there

pub stage_filled-requires-clause-template : goal.stage_filled-requires-clause-template
stage_filled-requires-clause-template g c =
    let range : FitsSigned w64 c.args.moment = c.ranges.moment in
    template_still c.args.spec.now c.args.moment _ _ (query_of c.args.query.now) (query_of c.give_lists.new.query) c.in-Ok-give_lists.lists (λ (output : OutputFormat). output ≡ O.Tpl → IsSome c.args.template) (simp to_z-of_z at c.in-Ok-give_lists.ensures.gives) c.requires.template

pub returns-in-Err-clause-given : goal.returns-in-Err-clause-given
returns-in-Err-clause-given g c = reads_nothing _ _ _ _ _ refl

pub returns-in-Err-give_lists-clause-refused : goal.returns-in-Err-give_lists-clause-refused
returns-in-Err-give_lists-clause-refused g c =
    let range : FitsSigned w64 c.args.moment = c.ranges.moment in
    simp to_z-of_z at c.in-Err-give_lists.ensures.stops

pub returns-in-Err-give_lists-clause-given : goal.returns-in-Err-give_lists-clause-given
returns-in-Err-give_lists-clause-given g c = reads_subqueries _ _ _ _ _ c.give_lists.ensures.read

pub returns-in-Err-give_lists-clause-reason : goal.returns-in-Err-give_lists-clause-reason
returns-in-Err-give_lists-clause-reason g c = subquery_reason _ c.in-Err-give_lists.fault c.in-Err-give_lists.ensures.failed

pub returns-in-Ok-stage_filled-clause-staged : goal.returns-in-Ok-stage_filled-clause-staged
returns-in-Ok-stage_filled-clause-staged g c =
    let range : FitsSigned w64 c.args.moment = c.ranges.moment in
    let given = simp to_z-of_z at c.in-Ok-give_lists.ensures.gives in
    record {
      started = c.start.new.self;
      starts = c.start.ensures.goes;
      empty = c.in-Ok.ensures.empty;
      givens = given.givens;
      lists = c.in-Ok-give_lists.lists;
      give = give_wider c.args.spec.now c.args.moment (query_of c.args.query.now) given.givens c.in-Ok-give_lists.lists _ _ _ _ (OnlyGrow-refl _) c.stage_filled.ensures.grows given.give;
      run = entry_behind g.D.Disk.state c.args.spec.now c.args.moment (query_of c.args.query.now) (query_of c.give_lists.new.query) given.givens c.in-Ok-give_lists.lists c.args.text c.args.bytes (sections_in (λ t. t.value) c.args.template) _ c.args.spans.now _ _ _ _ given.whole_is
          (simp to_z-of_z at c.in-Ok-stage_filled.ensures.staged);
    }

pub returns-in-Ok-stage_filled-clause-grows : goal.returns-in-Ok-stage_filled-clause-grows
returns-in-Ok-stage_filled-clause-grows g c = OnlyGrow-trans _ _ _ c.give_lists.ensures.grows c.stage_filled.ensures.grows

pub returns-in-Ok-stage_filled-clause-given : goal.returns-in-Ok-stage_filled-clause-given
returns-in-Ok-stage_filled-clause-given g c = reads_then _ _ _ _ _ _ _ c.stage_filled.ensures.grows c.give_lists.ensures.read c.stage_filled.ensures.given

pub returns-in-Ok-stage_filled-clause-goes : goal.returns-in-Ok-stage_filled-clause-goes
returns-in-Ok-stage_filled-clause-goes g c = goes_on g.D.Disk.state c.args.commit.now c.start.new.self c.stage_filled.new.commit c.start.ensures.goes c.stage_filled.ensures.goes

pub returns-in-Err-stage_filled-clause-refused : goal.returns-in-Err-stage_filled-clause-refused
returns-in-Err-stage_filled-clause-refused g c =
    let range : FitsSigned w64 c.args.moment = c.ranges.moment in
    refused_behind c.args.spec.now c.args.moment _ _ _ (query_of c.args.query.now) (query_of c.give_lists.new.query) c.in-Ok-give_lists.lists c.args.text c.args.bytes (sections_in (λ t. t.value) c.args.template) c.args.spans.now c.in-Err-stage_filled.fault
    c.stage_filled.ensures.grows (simp to_z-of_z at c.in-Ok-give_lists.ensures.gives) (simp to_z-of_z at c.in-Err-stage_filled.ensures.refused)

pub returns-in-Err-stage_filled-clause-grows : goal.returns-in-Err-stage_filled-clause-grows
returns-in-Err-stage_filled-clause-grows g c = OnlyGrow-trans _ _ _ c.give_lists.ensures.grows c.stage_filled.ensures.grows

pub returns-in-Err-stage_filled-clause-given : goal.returns-in-Err-stage_filled-clause-given
returns-in-Err-stage_filled-clause-given g c = reads_then _ _ _ _ _ _ _ c.stage_filled.ensures.grows c.give_lists.ensures.read c.stage_filled.ensures.given

pub returns-in-Err-stage_filled-clause-goes : goal.returns-in-Err-stage_filled-clause-goes
returns-in-Err-stage_filled-clause-goes g c = goes_on g.D.Disk.state c.args.commit.now c.start.new.self c.stage_filled.new.commit c.start.ensures.goes c.stage_filled.ensures.goes
