use Rattle.std.proofs.Common.{◌≡◌, ◌∙◌, List, map, Err, refl, ap, sym, arith, FitsSigned, w64}
use Rattle.std.proofs.lemmas.Int.{to_z-of_z}
use Rattle.std.proofs.lemmas.Result.{IfErr-at_err}
use Rattle.query_tree.specs.Views.{placed_given, query_of}
use Rattle.query_tree.specs.declared.given.PlacedGiven.{PlacedGiven}
use Rattle.query_tree.specs.declared.query.Query.{Query}
use Rattle.subqueries.specs.declared.fault.SubqueryFault.{SubqueryFault}
use Rattle.subqueries.specs.declared.fault.SubqueryFault.TheVariants as F
use Rattle.subqueries.specs.Giving.{subqueries_of}
use Rattle.subqueries.proofs.Parts.{subqueries_are}
use Rattle.subqueries.proofs.Read.{all_none}
use Rattle.subqueries.proofs.Steps.{all_read, are_given, clashes_by, has_separator, stops_by}
use Rattle.subqueries.proofs.running.run_subqueries.Goals as goal

pub returns-in_default-clause-read : goal.returns-in_default-clause-read
returns-in_default-clause-read g c =
    let given = g.L.Logs.given c.args.logs.now in
    all_none (g.L.Logs.folder c.args.logs.now) (subqueries_of (query_of c.args.query.now)) given given (omega arith)

pub give_all-requires-clause-separator : goal.give_all-requires-clause-separator
give_all-requires-clause-separator g c = has_separator c.args.spec.now (query_of c.args.query.now) c.log_format.result c.log_format.ensures c.requires.range

pub returns-clause-stops : goal.returns-clause-stops
returns-clause-stops g c =
    let range : FitsSigned w64 c.args.moment = c.ranges.moment in
    let all = subqueries_are c.args.query.now ∙ ap (λ (qs : List Query). map query_of qs) (sym c.as_slice.ensures.value) in
    stops_by c.args.spec.now c.args.moment (g.L.Logs.folder c.args.logs.now) (g.L.Logs.folder c.give_all.new.logs) c.args.query.now c.log_format.result c.as_slice.result.now c.as_slice-2.result.now c.in-Err.fault c.log_format.ensures all (c.as_slice-2.ensures ∙ c.in-Ok.ensures) (simp to_z-of_z at c.in-Err.ensures.stops)

pub returns-clause-read : goal.returns-clause-read
returns-clause-read g c =
    let all = subqueries_are c.args.query.now ∙ ap (λ (qs : List Query). map query_of qs) (sym c.as_slice.ensures.value) in
    all_read (g.L.Logs.folder c.give_all.new.logs) c.args.query.now c.as_slice.result.now (g.L.Logs.given c.args.logs.now) (g.L.Logs.given c.give_all.new.logs) all c.give_all.ensures.read

pub returns-in-Ok-give_all-clause-gives : goal.returns-in-Ok-give_all-clause-gives
returns-in-Ok-give_all-clause-gives g c =
    let range : FitsSigned w64 c.args.moment = c.ranges.moment in
    let all = subqueries_are c.args.query.now ∙ ap (λ (qs : List Query). map query_of qs) (sym c.as_slice.ensures.value) in
    are_given c.args.spec.now c.args.moment (g.L.Logs.folder c.args.logs.now) (g.L.Logs.folder c.give_all.new.logs) c.args.query.now c.log_format.result c.as_slice.result.now c.as_slice-2.result.now (map placed_given c.new-values.result.givens) (map placed_given c.give_all.new.values.givens) c.new-values.result.lists c.give_all.new.values.lists c.log_format.ensures all
    (c.as_slice-2.ensures ∙ c.in-Ok.ensures) (ap (λ (l : List PlacedGiven). map placed_given l) c.new-values.ensures.givens) c.new-values.ensures.lists (simp to_z-of_z at c.in-Ok-give_all.ensures.gives)

pub returns-in-Ok-give_all-clause-read : goal.returns-in-Ok-give_all-clause-read
returns-in-Ok-give_all-clause-read g c =
    let all = subqueries_are c.args.query.now ∙ ap (λ (qs : List Query). map query_of qs) (sym c.as_slice.ensures.value) in
    all_read (g.L.Logs.folder c.give_all.new.logs) c.args.query.now c.as_slice.result.now (g.L.Logs.given c.args.logs.now) (g.L.Logs.given c.give_all.new.logs) all c.give_all.ensures.read

pub returns-clause-unread : goal.returns-clause-unread
returns-clause-unread g c = λ name is.
    let range : FitsSigned w64 c.args.moment = c.ranges.moment in
    let all = subqueries_are c.args.query.now ∙ ap (λ (qs : List Query). map query_of qs) (sym c.as_slice.ensures.value) in
    let same : c.in-Err.fault ≡ F.Clash name = IfErr-at_err (λ (fault : SubqueryFault). c.in-Err.fault ≡ fault) is refl in
    let clashes = c.in-Err.ensures.unread name (λ i. Err (same i)) in
    clashes_by c.args.spec.now c.args.moment (g.L.Logs.folder c.args.logs.now) (g.L.Logs.folder c.give_all.new.logs) c.args.query.now c.log_format.result c.as_slice.result.now c.as_slice-2.result.now name (g.L.Logs.given c.args.logs.now) (g.L.Logs.given c.give_all.new.logs) c.log_format.ensures all
    (c.as_slice-2.ensures ∙ c.in-Ok.ensures) (simp to_z-of_z at clashes)
