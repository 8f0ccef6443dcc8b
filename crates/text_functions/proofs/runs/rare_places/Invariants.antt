use Rattle.std.proofs.Common.{◌<◌, length}
use Rattle.text_functions.proofs.runs.rare_places.Given as goal

abbrev pub invariant-loop-place : goal.invariant-loop-place
invariant-loop-place l = record { rarest_within : l.rarest < length l.run; other_within : l.other < length l.run }
