use Rattle.std.proofs.Common.{◌≡◌, ◌*◌, ◌++◌, replicate}
use Rattle.text_formats.proofs.cells.add_times.Given as goal

abbrev pub invariant-loop : goal.invariant-loop
invariant-loop l = l.to ≡ l.initial.to ++ replicate (64 * l.counter) l.byte
