use Rattle.std.proofs.Common.{Some, List, ℕ, ap, ◌∙◌}
use Rattle.std.proofs.lemmas.Result.{IfErr-weaker}
use Rattle.lp_outside.specs.NameFault.{name_fault}
use Rattle.requests.specs.Files.{IsFileFault, IsTextFault}
use Rattle.requests.proofs.Refusing.{file_refused}
use Rattle.requests.proofs.text.query_text.Goals as goal

pub returns-in-Ok-clause-faults : goal.returns-in-Ok-clause-faults
returns-in-Ok-clause-faults g c =
    let before = g.L.Logs.folder c.args.logs.now in
    let now = g.L.Logs.folder c.read_file.new.logs in
    let same = c.in-Ok.ensures.1 in
    IfErr-weaker c.read_file.result (IsFileFault before now c.in-Ok.name) (IsTextFault before now c.args.word.now)
    (λ fault h. file_refused before now c.args.word.now c.in-Ok.name fault (ap (λ (name : List ℕ). Some name) same ∙ c.in-Some.ensures) (ap name_fault same ∙ c.in-Ok.ensures.0) h)
    c.read_file.ensures.faults
