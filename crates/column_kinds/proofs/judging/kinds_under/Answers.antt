use Rattle.std.proofs.Common.{◌∙◌, List, ℕ, subst}
use Rattle.std.proofs.lemmas.Result.{IfOk-weaker}
use Rattle.delimited_input.specs.Sampled.{StandsFor}
use Rattle.column_kinds.proofs.Steps.{kinds_told, texts_more}
use Rattle.column_kinds.proofs.judging.kinds_under.Goals as goal

pub loop-row-preserved : goal.loop-row-preserved
loop-row-preserved c =
    let so_far = c.loop-row.invariant in
    let here = c.in_ok-add.ensures in
    let Of : List (List (List ℕ)) → Type 0 = λ rows. StandsFor c.add.new.self rows in
    record {
      columns = here.columns ∙ so_far.columns;
      limit = here.limit ∙ so_far.limit;
      pattern = here.pattern ∙ so_far.pattern;
      stands = subst Of (texts_more c.args.first.now c.as_slice-row-items.result.now c.loop-row.row-index c.row-item.result c.in_ok-texts.texts c.loop-row-test.true c.row-item.is c.in_ok-texts.ensures) (here.stands _ so_far.stands);
    }

pub returns : goal.returns
returns c =
    let so_far = c.loop-row.invariant in
    IfOk-weaker c.kinds.result _ _ (λ kinds told. kinds_told c.loop-row.sampler c.args.first.now c.args.limit c.args.pattern.now c.args.rows.now c.as_slice-row-items.result.now c.loop-row.row-index kinds
    so_far.columns so_far.limit so_far.pattern so_far.stands c.loop-row-test.false c.as_slice-row-items.ensures told) c.kinds.ensures
