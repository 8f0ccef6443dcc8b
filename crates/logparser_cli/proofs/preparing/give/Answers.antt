use Rattle.std.proofs.Common.{◌≡◌, ◌∙◌, Err, List, ap, map, sym, FitsSigned, w64}
use Rattle.std.proofs.lemmas.Int.{to_z-of_z}
use Rattle.grammar.specs.Filled.{filled}
use Rattle.query_tree.specs.Views.{placed_given, query_of}
use Rattle.query_tree.specs.declared.given.PlacedGiven.{PlacedGiven}
use Rattle.reports.specs.declared.status.Status.TheVariants.{LogsFault}
use Rattle.checkpointed_command.specs.SubqueryFault.TheVariants as F
use Rattle.logparser_cli.proofs.Prepared.{given_failed, plain_stops}
use Rattle.logparser_cli.proofs.preparing.give.Goals as goal

pub returns-in-Ok-fill-clause-fills : goal.returns-in-Ok-fill-clause-fills
returns-in-Ok-fill-clause-fills g c =
    let range : FitsSigned w64 c.args.moment = c.ranges.moment in
    record {
      givens = map placed_given c.in-Ok.given.givens;
      lists = c.in-Ok.given.lists;
      give = simp to_z-of_z at c.in-Ok.ensures.gives;
      whole_is = c.in-Ok-fill.ensures ∙ ap (λ (givens : List PlacedGiven). filled (map placed_given givens) (query_of c.args.query.now)) c.as_slice.ensures;
    }

pub ungiven-requires : goal.ungiven-requires
ungiven-requires g c =
    let range : FitsSigned w64 c.args.moment = c.ranges.moment in
    record { plain = plain_stops c.args.spec.now c.args.moment (g.L.Logs.folder c.args.logs.now) (g.L.Logs.folder c.run_subqueries.new.logs) (query_of c.args.query.now) c.in-Err.fault c.requires.plain (simp to_z-of_z at c.in-Err.ensures.stops) }

pub returns-in-Err-clause-refused : goal.returns-in-Err-clause-refused
returns-in-Err-clause-refused g c =
    let range : FitsSigned w64 c.args.moment = c.ranges.moment in
    record { fault = c.in-Err.fault; status_is = c.ungiven.ensures; stops = simp to_z-of_z at c.in-Err.ensures.stops }

pub returns-in-Err-clause-failed : goal.returns-in-Err-clause-failed
returns-in-Err-clause-failed g c = λ is.
    let e : c.ungiven.result ≡ LogsFault = cc in
    c.in-Err.ensures.failed (ap Err (given_failed c.in-Err.fault (sym c.ungiven.ensures ∙ e)))

pub returns-clause-refused : goal.returns-clause-refused
returns-clause-refused g c = record { fault = F.Memory; status_is = c.ungiven-in-Err-fill.ensures; stops = tt }

pub returns-clause-failed : goal.returns-clause-failed
returns-clause-failed g c = λ is.
    let e : c.ungiven-in-Err-fill.result ≡ LogsFault = cc in
    absurd (cc)
