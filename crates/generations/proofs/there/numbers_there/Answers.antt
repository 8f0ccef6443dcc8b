use Rattle.std.proofs.Common.{◌∙◌}
use Rattle.generations.proofs.Patterns.{told_there}
use Rattle.generations.proofs.there.numbers_there.Goals as goal

pub returns-in-Ok-numbers_in-clause-ok : goal.returns-in-Ok-numbers_in-clause-ok
returns-in-Ok-numbers_in-clause-ok g c = told_there (g.L.Logs.folder c.names.new.self) c.args.stem.now c.in-Ok.pattern c.as_bytes-bytes.result.now c.bytes_to.result.now c.in-Ok-names.found c.in-Ok-numbers_in.numbers
    (c.as_bytes-bytes.ensures.value ∙ c.as_str.ensures.text) c.in-Ok.ensures.1 c.bytes_to.ensures c.in-Ok-names.ensures.found c.in-Ok-numbers_in.ensures
