use Rattle.std.proofs.Common.{◌≡◌, take}
use Rattle.memory_outside.proofs.replaying.copied_files.Given as goal

-- the files so far
abbrev pub invariant-loop-file : goal.invariant-loop-file
invariant-loop-file l = l.copy.items ≡ take l.file-index l.files
