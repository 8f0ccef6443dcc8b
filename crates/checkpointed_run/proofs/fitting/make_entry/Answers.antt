use Rattle.std.proofs.Common.{◌≡◌, ◌∙◌, sym, subst, FitsSigned, w64}
use Rattle.std.proofs.lemmas.Int.{to_z-of_z}
use Rattle.std.proofs.lemmas.Result.{IfOk-weaker}
use Rattle.ledger.specs.Written.{entry_of}
use Rattle.ledger.specs.declared.entry.Entry.{Entry}
use Rattle.ledger_model.specs.Grammar.{IsEntry}
use Rattle.query_tree.specs.Views.{query_of}
use Rattle.run_entry.specs.Entries.{entry_for}
use Rattle.run_entry.specs.Forms.{HasForm}
use Rattle.checkpointed_run.specs.Staged.{AreParts, request_of}
use Rattle.checkpointed_run.proofs.fitting.make_entry.Goals as goal

pub returns-clause-entry : goal.returns-clause-entry
returns-clause-entry c =
    let range : FitsSigned w64 c.args.moment = c.ranges.moment in
    let request = request_of c.args.spec.now (query_of c.args.query.now) c.args.text c.args.template c.args.moment in
    IfOk-weaker c.entry_of_run.result (λ (entry : Entry). entry_of entry ≡ entry_for request c.args.lists c.as_slice.result.now c.as_slice-2.result.now c.args.staged c.args.ran.now.counts)
    (λ (entry : Entry). entry_of entry ≡ entry_for request c.args.lists c.args.ran.now.took c.args.ran.now.outputs c.args.staged c.args.ran.now.counts)
    (λ entry is. is ∙ (λ i. entry_for request c.args.lists (c.as_slice.ensures i) (c.as_slice-2.ensures i) c.args.staged c.args.ran.now.counts)) (simp to_z-of_z at c.entry_of_run.ensures)

pub returns-clause-parts : goal.returns-clause-parts
returns-clause-parts c =
    let parts = c.are_parts.ensures.0 c.if-not-are_parts.false in
    IfOk-weaker c.entry_of_run.result _ (λ (entry : Entry). AreParts c.args.spec.now.words c.args.template c.args.lists c.args.ran.now.took c.args.ran.now.outputs c.args.ran.now.counts) (λ entry is. parts) c.entry_of_run.ensures

pub returns-clause-formed : goal.returns-clause-formed
returns-clause-formed c =
    let range : FitsSigned w64 c.args.moment = c.ranges.moment in
    let request = request_of c.args.spec.now (query_of c.args.query.now) c.args.text c.args.template c.args.moment in
    let law = c.entries_have_their_form.ensures in
    IfOk-weaker c.entry_of_run.result (λ (entry : Entry). entry_of entry ≡ entry_for request c.args.lists c.as_slice.result.now c.as_slice-2.result.now c.args.staged c.args.ran.now.counts)
    (λ (entry : Entry). HasForm request c.args.lists c.args.ran.now.took c.args.ran.now.outputs c.args.staged c.args.ran.now.counts → IsEntry (entry_of entry))
    (λ entry is form. subst IsEntry (sym (is ∙ (λ i. entry_for request c.args.lists (c.as_slice.ensures i) (c.as_slice-2.ensures i) c.args.staged c.args.ran.now.counts)))
    (law request c.args.lists c.args.ran.now.took c.args.ran.now.outputs c.args.staged c.args.ran.now.counts c.requires.range c.requires.moment form)) (simp to_z-of_z at c.entry_of_run.ensures)
