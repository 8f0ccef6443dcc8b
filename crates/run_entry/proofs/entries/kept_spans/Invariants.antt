use Rattle.std.proofs.Common.{◌≡◌, map, take}
use Rattle.ledger.specs.Written.{span_of}
use Rattle.run_entry.specs.Entries.{kept_span}
use Rattle.run_entry.proofs.entries.kept_spans.Given as goal

abbrev pub invariant-loop-log : goal.invariant-loop-log
invariant-loop-log l = map span_of l.spans ≡ map kept_span (take l.log-index l.took)
