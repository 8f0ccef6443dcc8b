use Rattle.std.proofs.Common.{take}
use Rattle.memory_outside.proofs.Listings.{Holds}
use Rattle.memory_outside.proofs.memory_logs.matching.Given as goal

-- the set has the names that match so far
abbrev pub invariant-loop-file : goal.invariant-loop-file
invariant-loop-file l = Holds l.found (take l.file-index l.files) l.pattern
