use Rattle.std.proofs.Common.{ℕ, inl, sym, ◌∙◌, subst, refl, FitsSigned, w64}
use Rattle.std.proofs.lemmas.Int.{to_z-of_z}
use Rattle.run_entry.specs.Texts.{sections_in}
use Rattle.query_tree.specs.Views.{query_of}
use Rattle.run_entry.specs.Entries.{entry_for}
use Rattle.run_entry.specs.Forms.{HasForm}
use Rattle.checkpointed_run.specs.Staged.{request_of}
use Rattle.checkpointed_run.proofs.Causes.{refused_for}
use Rattle.checkpointed_run.proofs.staging.stage_filled.Goals as goal

pub returns-in-Err-clause-refused : goal.returns-in-Err-clause-refused
returns-in-Err-clause-refused g c =
    let range : FitsSigned w64 c.args.moment = c.ranges.moment in
    refused_for (request_of c.args.spec.now (query_of c.args.query.now) c.args.text c.args.bytes c.args.moment) (sections_in (λ t. t.value) c.args.template) _ _ _ c.in-Err.fault
    (simp to_z-of_z at c.in-Err.ensures.refused) (simp to_z-of_z at c.in-Err.ensures.plan) c.in-Err.ensures.plan_in_turn (simp to_z-of_z at c.in-Err.ensures.parse)

pub returns-in-Ok-make_entry-clause-staged : goal.returns-in-Ok-make_entry-clause-staged
returns-in-Ok-make_entry-clause-staged g c =
    let range : FitsSigned w64 c.args.moment = c.ranges.moment in
    let request = request_of c.args.spec.now (query_of c.args.query.now) c.args.text c.args.bytes c.args.moment in
    record {
      goes = c.execute.ensures.goes;
      took = c.in-Ok.ran.took;
      outputs = c.in-Ok.ran.outputs;
      carried = record { executed = simp to_z-of_z at c.in-Ok.ensures.ran; took_is = c.in-Ok.ensures.took; within = c.in-Ok.ensures.within };
      entry_is = simp to_z-of_z at c.in-Ok-make_entry.ensures.entry ∙ (λ i. entry_for request c.args.lists c.in-Ok.ran.took c.in-Ok.ran.outputs (c.staged.ensures i) c.in-Ok.ran.counts);
      few = c.requires.few;
      parts = c.in-Ok-make_entry.ensures.parts;
      formed = λ form. (simp to_z-of_z at c.in-Ok-make_entry.ensures.formed) (subst (λ (bytes : ℕ). HasForm request c.args.lists c.in-Ok.ran.took c.in-Ok.ran.outputs bytes c.in-Ok.ran.counts) (sym c.staged.ensures) form);
    }

pub execute-requires-clause-readable : goal.execute-requires-clause-readable
execute-requires-clause-readable g c = inl (record { there = c.requires.there; ready = λ later name place. tt })
