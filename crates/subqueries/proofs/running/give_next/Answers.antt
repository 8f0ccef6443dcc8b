use Rattle.std.proofs.Common.{FitsSigned, w64}
use Rattle.std.proofs.lemmas.Int.{to_z-of_z}
use Rattle.query_tree.specs.Views.{query_of}
use Rattle.subqueries.proofs.Gave.{stops_first}
use Rattle.subqueries.proofs.running.give_next.Goals as goal

pub returns-in-Err-clause-stops : goal.returns-in-Err-clause-stops
returns-in-Err-clause-stops g c =
    let range : FitsSigned w64 c.args.moment = c.ranges.moment in
    λ behind places. stops_first c.args.format c.args.spec.now c.args.moment (g.L.Logs.folder c.args.logs.now) (g.L.Logs.folder c.give_one.new.logs) (query_of c.args.query.now) behind places c.args.bad c.in-Some.most c.in-Err.fault c.in-Some.ensures.left
    (simp to_z-of_z at c.in-Err.ensures.refused)
