use Rattle.std.proofs.Common.{◌∙◌, arith, sym, subst, FitsSigned, w64}
use Rattle.std.proofs.lemmas.Int.{to_z-of_z}
use Rattle.lp_model.proofs.Growing.{OnlyGrow-trans}
use Rattle.query_tree.specs.Views.{given_of, query_of}
use Rattle.subqueries.specs.declared.fault.SubqueryFault.{SubqueryFault}
use Rattle.subqueries.specs.Refusing.{IsRefusedOne}
use Rattle.subqueries.proofs.Found.{clash_found, gives_found, refused_read}
use Rattle.subqueries.proofs.Read.{logs_once}
use Rattle.subqueries.proofs.giving.give_one.Goals as goal

pub returns-in-Err-give_values-clause-refused : goal.returns-in-Err-give_values-clause-refused
returns-in-Err-give_values-clause-refused g c =
    let range : FitsSigned w64 c.args.moment = c.ranges.moment in
    let old = g.L.Logs.folder c.args.logs.now in
    let new = g.L.Logs.folder c.give_values.new.logs in
    let q = query_of c.args.query.now in
    subst (λ (fault : SubqueryFault). IsRefusedOne c.args.format c.args.spec.now c.args.moment old new q c.args.most_bad fault) (sym c.read_fault.ensures)
    (refused_read old (g.L.Logs.folder c.list_spans.new.logs) new c.args.format c.args.spec.now c.args.moment q c.in-Ok.spans c.is_some-waits.result c.is_some-waits.ensures c.args.most_bad c.in-Err-give_values.fault c.in-Ok.ensures.found (sym c.in_default.is ∙ c.clash_in.ensures) c.in-Err-give_values.ensures.grows
    (simp to_z-of_z at c.in-Err-give_values.ensures.unplanned) (simp to_z-of_z at c.in-Err-give_values.ensures.typed) c.in-Err-give_values.ensures.too_many)

pub returns-in-Err-give_values-clause-read : goal.returns-in-Err-give_values-clause-read
returns-in-Err-give_values-clause-read g c =
    let same = c.list_spans.ensures.given in
    let most = c.give_values.ensures.given in
    logs_once (g.L.Logs.folder c.args.logs.now) (g.L.Logs.folder c.list_spans.new.logs) (g.L.Logs.folder c.give_values.new.logs) (query_of c.args.query.now) c.in-Ok.spans _ _ c.in-Ok.ensures.found c.give_values.ensures.grows (omega arith)

pub returns-in-Ok-given-clause-grows : goal.returns-in-Ok-given-clause-grows
returns-in-Ok-given-clause-grows g c = OnlyGrow-trans _ (g.L.Logs.folder c.list_spans.new.logs) _ c.list_spans.ensures.grows c.give_values.ensures.grows

pub returns-in-Ok-given-clause-gives : goal.returns-in-Ok-given-clause-gives
returns-in-Ok-given-clause-gives g c =
    let range : FitsSigned w64 c.args.moment = c.ranges.moment in
    gives_found (g.L.Logs.folder c.args.logs.now) (g.L.Logs.folder c.list_spans.new.logs) (g.L.Logs.folder c.give_values.new.logs) c.args.format c.args.spec.now c.args.moment (query_of c.args.query.now) c.in-Ok.spans c.is_some-waits.result c.is_some-waits.ensures c.keep_for.result c.in-Ok-give_values.list (given_of c.in-Ok-given.one.0) c.in-Ok-given.one.1 c.keep_for.ensures c.in-Ok.ensures.found (sym c.in_default.is ∙ c.clash_in.ensures) c.give_values.ensures.grows
    (simp to_z-of_z at c.in-Ok-give_values.ensures.values) c.in-Ok-given.ensures.place c.in-Ok-given.ensures.kind c.in-Ok-given.ensures.values c.in-Ok-given.ensures.kept c.in-Ok-given.ensures.logs c.in-Ok-given.ensures.bad

pub returns-in-Ok-given-clause-read : goal.returns-in-Ok-given-clause-read
returns-in-Ok-given-clause-read g c =
    let same = c.list_spans.ensures.given in
    let most = c.give_values.ensures.given in
    logs_once (g.L.Logs.folder c.args.logs.now) (g.L.Logs.folder c.list_spans.new.logs) (g.L.Logs.folder c.give_values.new.logs) (query_of c.args.query.now) c.in-Ok.spans _ _ c.in-Ok.ensures.found c.give_values.ensures.grows (omega arith)

pub returns-clause-grows : goal.returns-clause-grows
returns-clause-grows g c = OnlyGrow-trans _ (g.L.Logs.folder c.list_spans.new.logs) _ c.list_spans.ensures.grows c.give_values.ensures.grows

pub returns-clause-read : goal.returns-clause-read
returns-clause-read g c =
    let same = c.list_spans.ensures.given in
    let most = c.give_values.ensures.given in
    logs_once (g.L.Logs.folder c.args.logs.now) (g.L.Logs.folder c.list_spans.new.logs) (g.L.Logs.folder c.give_values.new.logs) (query_of c.args.query.now) c.in-Ok.spans _ _ c.in-Ok.ensures.found c.give_values.ensures.grows (omega arith)

pub returns-in-Some-clause-refused : goal.returns-in-Some-clause-refused
returns-in-Some-clause-refused g c =
    clash_found (g.L.Logs.folder c.args.logs.now) (g.L.Logs.folder c.list_spans.new.logs) c.args.spec.now (query_of c.args.query.now) c.in-Ok.spans c.in-Some.name c.in-Ok.ensures.found (sym c.in-Some.is ∙ c.clash_in.ensures)
