use Rattle.std.proofs.lemmas.Result.{IfOk-weaker}
use Rattle.std.proofs.Common.{List, ℕ, subst}
use Rattle.delimited_input.specs.Cuts.{IsCut}
use Rattle.delimited_input.proofs.cut.cut_read.Goals as goal

pub returns-in-Ok : goal.returns-in-Ok
returns-in-Ok c =
    IfOk-weaker c.keep_fields-all.result _ _ (λ all kept. subst (λ (fields : List (List ℕ)). IsCut c.args.line.now fields c.args.most c.keep_fields-all.new.row all) c.in-Ok.ensures (kept c.args.line.now)) c.keep_fields-all.ensures
