use Rattle.std.proofs.Common.{ℕ, List, subst}
use Rattle.positions.specs.Spanning.{IsJudged}
use Rattle.positions.specs.Spans.{Agrees}
use Rattle.checkpointed_run.proofs.over.spans_over.Goals as goal

pub returns-in-Err-clause-not_begun : goal.returns-in-Err-clause-not_begun
returns-in-Err-clause-not_begun g c = λ read since file holds. c.in-Err.ensures.loads read file since holds

pub returns-in-Err-input_text-clause-not_begun : goal.returns-in-Err-input_text-clause-not_begun
returns-in-Err-input_text-clause-not_begun g c = λ read since file holds.
    let kept = c.in-Ok.ensures.loads read file since holds in
    (kept.pairs, kept.is)

pub returns-in-Ok-span-clause-spans : goal.returns-in-Ok-span-clause-spans
returns-in-Ok-span-clause-spans g c = λ read since. record {
  kept = c.in-Ok.kept;
  loads = λ file holds. c.in-Ok.ensures.loads read file since holds;
  agrees = subst (λ (text : List ℕ). Agrees c.in-Ok.kept.input text) c.in-Ok-input_text.ensures c.in-Ok-span.ensures.agrees;
  are = c.in-Ok-span.ensures.spans;
}

pub returns-clause-not_begun : goal.returns-clause-not_begun
returns-clause-not_begun g c = λ read since. record {
  kept = c.in-Ok.kept;
  loads = λ file holds. c.in-Ok.ensures.loads read file since holds;
  judged = subst (λ (text : List ℕ). IsJudged c.in-Ok.kept.input text c.in-Err-span.fault) c.in-Ok-input_text.ensures c.in-Err-span.ensures.judged;
  stopped = c.in-Err-span.ensures.stopped;
}
