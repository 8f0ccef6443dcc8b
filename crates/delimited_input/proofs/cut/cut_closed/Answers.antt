use Rattle.std.proofs.Common.{drop, subst, arith}
use Rattle.delimited_input.specs.Fields.{first_field}
use Rattle.delimited_input.specs.Pieces.{IsStep}
use Rattle.delimited_input.specs.declared.piece.Step.{Step}
use Rattle.delimited_input.proofs.Cutting.{cut_more, cut_last, cut_off}
use Rattle.delimited_input.proofs.cut.cut_closed.Goals as goal

pub returns-in-Last-clause-cut : goal.returns-in-Last-clause-cut
returns-in-Last-clause-cut c =
    let line = c.args.line.now in
    let Is : Step → Type 0 = IsStep c.args.quotes (first_field c.args.separator c.args.quotes (drop c.loop.at line)) line c.loop.row c.take_field.new.row in
    cut_last line c.args.separator c.args.quotes c.loop.at c.loop.counter c.args.most c.loop.row c.take_field.new.row c.loop.invariant (subst Is c.in-Last.is c.in_ok-next.ensures) c.loop-test.true

pub loop-preserved : goal.loop-preserved
loop-preserved c =
    let line = c.args.line.now in
    let Is : Step → Type 0 = IsStep c.args.quotes (first_field c.args.separator c.args.quotes (drop c.loop.at line)) line c.loop.row c.take_field.new.row in
    cut_more line c.args.separator c.args.quotes c.loop.at c.in-Next.next c.loop.counter c.loop.row c.take_field.new.row c.loop.invariant (subst Is c.in-Next.is c.in_ok-next.ensures)

pub returns-clause-cut : goal.returns-clause-cut
returns-clause-cut c =
    cut_off c.args.line.now c.args.separator c.args.quotes c.loop.at c.loop.counter c.args.most c.loop.row c.loop.invariant (omega (arith, c.loop-test.false, c.loop.auto.counter-end))
