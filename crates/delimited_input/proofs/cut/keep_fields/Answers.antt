use Rattle.std.proofs.Common.{sym, arith}
use Rattle.csv.specs.Records.{fields_of}
use Rattle.delimited_input.proofs.Keeping.{kept_more, kept_all, kept_full}
use Rattle.delimited_input.proofs.cut.keep_fields.Goals as goal

pub returns-in_default : goal.returns-in_default
returns-in_default c = λ line.
    kept_all line (fields_of c.args.source.now) c.loop-index.index c.args.most c.loop-index.row (c.loop-index.invariant line) (sym c.in_default.ensures.value) c.loop-index-test.true

pub loop-index-preserved : goal.loop-index-preserved
loop-index-preserved c = λ line.
    kept_more line (fields_of c.args.source.now) c.loop-index.index c.loop-index.row c.push.new.self c.in_ok-copied_slot.field-0 c.in-Some.field.now
    (c.loop-index.invariant line) (sym c.in-Some.ensures.value) (c.in_ok-copied_slot.ensures line) c.in_ok-push.ensures.ok

pub returns : goal.returns
returns c = λ line.
    kept_full line (fields_of c.args.source.now) c.loop-index.index c.args.most c.len.result c.loop-index.row (c.loop-index.invariant line) (omega (arith, c.loop-index-test.false, c.loop-index.auto.index-end)) c.len.ensures
