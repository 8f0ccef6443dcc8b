use Rattle.std.proofs.Common.{arith}
use Rattle.requests.proofs.Cutting.{too_long}
use Rattle.requests.proofs.file.read_file.Goals as goal

pub returns-then-cut-clause-faults : goal.returns-then-cut-clause-faults
returns-then-cut-clause-faults g c =
    too_long (g.L.Logs.folder c.args.logs.now) (g.L.Logs.folder c.length.new.self) c.args.name.now c.in-Ok-Some.cut c.length.ensures.grows
    (rw c.in-Ok-Some.field-0-is at c.in-Ok-Some.ensures.found) (omega arith)
