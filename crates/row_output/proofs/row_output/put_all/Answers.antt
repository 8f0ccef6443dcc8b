use Rattle.std.proofs.Common.{◌≡◌, ◌+◌, ◌<◌, ◌++◌, ◌∷◌, [], List, take, drop, get_or, length, refl, sym, ◌∙◌, subst, arith}
use Rattle.std.proofs.lemmas.List.{take_all}
use Rattle.lp_model.proofs.Results.{on_err}
use Rattle.order_top.specs.Finish.{Row}
use Rattle.text_output.specs.Output.{kind_of}
use Rattle.row_output.specs.declared.fault.Refused.{Refused}
use Rattle.row_output.specs.Rows.{IsRefusedAt, StopsAt}
use Rattle.row_output.specs.Sinks.{HasSinkRows, files_in, sink_text}
use Rattle.row_output.proofs.Moves.{taken_at, left_behind, left_size}
use Rattle.row_output.proofs.SinkCalls.{with_rest, with_next, stops_alike, refused_alike, refused_on}
use Rattle.row_output.proofs.row_output.put_all.Goals as goal

pub loop-index-init : goal.loop-index-init
loop-index-init g c = record { purpose = refl; behind = refl; size = refl; has = λ start had. had; little = λ some. absurd (omega (arith, some)); goes = g.met.G.Stage.goes_nowhere _; later = omega arith }

pub loop-index-preserved : goal.loop-index-preserved
loop-index-preserved g c =
    let so_far = c.loop-index.invariant in
    let i = c.loop-index.index in
    let all = c.args.rows.now in
    let now = c.loop-index.rows in
    let row = c.replace-row.result in
    let here = c.in_ok-put.ensures in
    let size = so_far.size in
    let within : i < length all = omega (arith, c.len-index-end.ensures, size) in
    let is : row ≡ get_or all i c.new.result = taken_at now all i row c.new.result c.replace-row.ensures.result so_far.behind in
    let later_before = so_far.later in
    let later_here = here.later in
    record {
      purpose = here.purpose ∙ so_far.purpose;
      behind = left_behind now all c.replace-row.new.self i c.new.result c.replace-row.ensures.list so_far.behind;
      size = left_size now all c.replace-row.new.self i c.new.result c.replace-row.ensures.list so_far.size;
      has = λ start had.
          subst (λ (l : List Row). HasSinkRows (kind_of g.G.Stage.state g.G.Stage.ended) c.put.new.self start l c.put.new.stage) (with_next all i row c.new.result within is)
          (here.has start (take i all) (so_far.has start had));
      little = λ some start had. here.little start (take i all) (so_far.has start had);
      goes = g.met.G.Stage.goes_on _ _ _ so_far.goes here.goes;
      later = omega arith;
    }

pub returns-in_err-put-clause-purpose : goal.returns-in_err-put-clause-purpose
returns-in_err-put-clause-purpose g c = c.put.ensures.purpose ∙ c.loop-index.invariant.purpose

pub returns-in_err-put-clause-stop : goal.returns-in_err-put-clause-stop
returns-in_err-put-clause-stop g c =
    let so_far = c.loop-index.invariant in
    let i = c.loop-index.index in
    let all = c.args.rows.now in
    let now = c.loop-index.rows in
    let row = c.replace-row.result in
    let size = so_far.size in
    let within : i < length all = omega (arith, c.len-index-end.ensures, size) in
    let is : row ≡ get_or all i c.new.result = taken_at now all i row c.new.result c.replace-row.ensures.result so_far.behind in
    let kind = kind_of g.G.Stage.state g.G.Stage.ended in
    on_err _ c.from_residual.result (λ start had.
    stops_alike kind c.loop-index.sink c.args.sink.now start all c.put.new.stage so_far.purpose
    (subst (λ (l : List Row). StopsAt (files_in c.loop-index.sink) kind (sink_text c.loop-index.sink) start l c.put.new.stage) (with_rest all i row c.new.result within is)
    (c.in_err-put.ensures.stop start (take i all) (drop (i + 1) all) (so_far.has start had))))

pub returns-in_err-put-clause-refused : goal.returns-in_err-put-clause-refused
returns-in_err-put-clause-refused g c =
    let so_far = c.loop-index.invariant in
    let i = c.loop-index.index in
    let all = c.args.rows.now in
    let now = c.loop-index.rows in
    let row = c.replace-row.result in
    let size = so_far.size in
    let within : i < length all = omega (arith, c.len-index-end.ensures, size) in
    let is : row ≡ get_or all i c.new.result = taken_at now all i row c.new.result c.replace-row.ensures.result so_far.behind in
    let kind = kind_of g.G.Stage.state g.G.Stage.ended in
    refused_on (λ (why : Refused). (start : _) (rows more : List Row) → HasSinkRows kind c.loop-index.sink start rows c.loop-index.stage → IsRefusedAt (files_in c.loop-index.sink) (rows ++ (row ∷ more)) why)
    (λ (why : Refused). (start : _) → HasSinkRows kind c.args.sink.now start [] c.args.stage.now → IsRefusedAt (files_in c.args.sink.now) all why)
    c.from_residual.result _ c.from_residual.ensures.1
    (λ why so start had. refused_alike c.loop-index.sink c.args.sink.now all why so_far.purpose
    (subst (λ (l : List Row). IsRefusedAt (files_in c.loop-index.sink) l why) (with_rest all i row c.new.result within is) (so start (take i all) (drop (i + 1) all) (so_far.has start had))))
    c.in_err-put.ensures.refused

pub returns-clause-has : goal.returns-clause-has
returns-clause-has g c = λ start had.
    let all = c.args.rows.now in
    let i = c.loop-index.index in
    let none = take_all i all (omega (arith, c.len-index-end.ensures)) in
    subst (λ (l : List Row). HasSinkRows (kind_of g.G.Stage.state g.G.Stage.ended) c.loop-index.sink start l c.loop-index.stage) none (c.loop-index.invariant.has start had)

pub returns-clause-little : goal.returns-clause-little
returns-clause-little g c = λ some start had. c.loop-index.invariant.little (omega (arith, some, c.len-index-end.ensures)) start had
