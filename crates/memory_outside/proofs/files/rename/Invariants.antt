use Rattle.std.proofs.Common.{◌≡◌, ◌++◌, map, take, drop}
use Rattle.memory_outside.specs.Files.{renamed}
use Rattle.memory_outside.proofs.files.rename.Given as goal

-- the files so far are renamed
abbrev pub invariant-loop-file : goal.invariant-loop-file
invariant-loop-file l = l.file-items ≡ map (renamed l.from l.to) (take l.file-index l.fn.files) ++ drop l.file-index l.fn.files
