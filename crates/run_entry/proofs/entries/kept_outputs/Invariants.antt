use Rattle.std.proofs.Common.{◌≡◌, map, take}
use Rattle.ledger.specs.Written.{output_of}
use Rattle.run_entry.specs.Entries.{kept_output}
use Rattle.run_entry.proofs.entries.kept_outputs.Given as goal

abbrev pub invariant-loop-output : goal.invariant-loop-output
invariant-loop-output l = map output_of l.kept ≡ map kept_output (take l.output-index l.outputs)
