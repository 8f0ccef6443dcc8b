use Rattle.std.proofs.Common.{◌≡◌, ℕ, List, ◌∙◌}
use Rattle.std.specs.Str.Lossy.{utf8_lossy}
use Rattle.std.proofs.lemmas.Result.{IfOk-weaker}
use Rattle.std.proofs.lemmas.Str.{utf8_lossy-IsUtf8}
use Rattle.requests.proofs.request.text_of.Goals as goal

pub returns : goal.returns
returns c =
    IfOk-weaker c.read.result (λ (text : List ℕ). text ≡ utf8_lossy c.args.bytes.now) (λ (text : List ℕ). text ≡ c.args.bytes.now)
    (λ text same. same ∙ utf8_lossy-IsUtf8 c.args.bytes.now c.requires)
    c.read.ensures
