use Rattle.std.proofs.Common.{false, get_or, ap, ◌∙◌, arith}
use Rattle.delimited_input.specs.Sampled.{tally_with}
use Rattle.delimited_input.proofs.Telling.{told_more, told_all}
use Rattle.delimited_input.proofs.sampler.take_row.Goals as goal

pub loop-column-preserved : goal.loop-column-preserved
loop-column-preserved c =
    told_more c.args.pattern.now c.args.row.now c.args.tallies.now c.loop-column.tallies c.loop-column.column c.with.result (record { filled = false; integers = false; numbers = false; times = false }) c.loop-column.invariant (omega (arith, c.loop-column-test.true, c.loop-column.auto.tallies)) (c.with.ensures ∙ ap (λ text. tally_with c.args.pattern.now (get_or c.loop-column.tallies c.loop-column.column (record { filled = false; integers = false; numbers = false; times = false })) text) c.column_text.ensures)

pub returns : goal.returns
returns c = told_all c.args.pattern.now c.args.row.now c.args.tallies.now c.loop-column.tallies c.loop-column.column c.loop-column.invariant (omega (arith, c.loop-column-test.false, c.loop-column.auto.tallies))
