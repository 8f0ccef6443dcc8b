use Rattle.std.proofs.Common.{refl}
use Rattle.disk_model.specs.Disk.{Nothing}
use Rattle.memory_outside.proofs.DiskCalls.{none_done}
use Rattle.memory_outside.proofs.memory_disk.MemoryDiskDisk.read_at.Goals as goal

pub returns-then-fails-clause-crash : goal.returns-then-fails-clause-crash
returns-then-fails-clause-crash c = none_done Nothing (λ n b. refl) c.args.self.now.store c.fails.new.self.store c.fails.ensures.same.0

pub returns-then-bytes-gt-LONGEST_FILE-clause-crash : goal.returns-then-bytes-gt-LONGEST_FILE-clause-crash
returns-then-bytes-gt-LONGEST_FILE-clause-crash c = none_done Nothing (λ n b. refl) c.args.self.now.store c.fails.new.self.store c.fails.ensures.same.0

pub returns-clause-crash : goal.returns-clause-crash
returns-clause-crash c = none_done Nothing (λ n b. refl) c.args.self.now.store c.fails.new.self.store c.fails.ensures.same.0
