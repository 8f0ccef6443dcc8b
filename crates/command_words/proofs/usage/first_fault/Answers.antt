use Rattle.std.proofs.Common.{arith, below_more}
use Rattle.command_words.proofs.Few.{few}
use Rattle.command_words.proofs.Places.{fault_here, each_fits}
use Rattle.command_words.proofs.usage.first_fault.Goals as goal

pub overflow_cast-result : goal.overflow_cast-result
overflow_cast-result c =
    let short = few c.args.words.now c.loop-index.index (omega arith) c.loop-index.invariant in omega arith

pub returns-in-Some : goal.returns-in-Some
returns-in-Some c =
    let same = c.as_str.ensures in
    let found = c.in-Some.ensures in
    record {
      here = fault_here c.args.words.now c.loop-index.index c.index-words-index.result _ (omega arith) c.index-words-index.is (cc);
      none_before = c.loop-index.invariant;
    }

pub loop-index-preserved : goal.loop-index-preserved
loop-index-preserved c =
    let same = c.as_str.ensures in
    let found = c.in_default.ensures in
    below_more _ _ c.loop-index.invariant (fault_here c.args.words.now c.loop-index.index c.index-words-index.result _ (omega arith) c.index-words-index.is (cc))

pub returns : goal.returns
returns c = each_fits c.args.words.now c.loop-index.index c.loop-index-test.false c.loop-index.invariant
