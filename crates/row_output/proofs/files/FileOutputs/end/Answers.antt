use Rattle.std.proofs.Common.{List, [], refl, subst}
use Rattle.std.proofs.lemmas.List.{append-nil}
use Rattle.lp_model.proofs.Results.{on_err}
use Rattle.text_output.specs.Output.{kind_of}
use Rattle.multiplex.specs.Splitting.{rows_named}
use Rattle.order_top.specs.Finish.{Row}
use Rattle.row_output.specs.Files.{FilesStop}
use Rattle.row_output.specs.FileRows.{files_of, making_of}
use Rattle.row_output.proofs.Naming.{names_of_differ}
use Rattle.row_output.proofs.Calls.{handed, making_same, end_holds, end_refusals, end_stops}
use Rattle.row_output.proofs.files.FileOutputs.end.Goals as goal

pub returns-in_err-open-clause-stop : goal.returns-in_err-open-clause-stop
returns-in_err-open-clause-stop g c = on_err _ c.from_residual.result (λ start rows has.
    subst (λ (l : List Row). FilesStop (kind_of g.G.Stage.state g.G.Stage.ended) (files_of c.args.self.now) start l c.open.new.stage) (append-nil rows) (c.in_err-open.ensures.stop start rows [] has))

pub returns-in_err-open-clause-refused : goal.returns-in_err-open-clause-refused
returns-in_err-open-clause-refused g c = handed _ c.from_residual.result c.in_err-open.field-0.0 c.from_residual.ensures.1
    (end_refusals (kind_of g.G.Stage.state g.G.Stage.ended) c.args.self.now c.args.stage.now c.in_err-open.field-0.0 c.in_err-open.ensures.refused)

pub returns-in-Ok-clause-hold : goal.returns-in-Ok-clause-hold
returns-in-Ok-clause-hold g c = λ start rows has.
    let h = c.open.new.self in
    let opened = c.in_ok-open.ensures in
    let now = opened.has start rows has in
    let names = opened.all start rows has in
    let same = opened.same in
    let making = making_same c.args.self.now h same.0 same.1 same.2 same.3 in
    end_holds (kind_of g.G.Stage.state g.G.Stage.ended) c.args.self.now h start rows c.in-Ok.outputs c.open.new.stage c.end_all.new.stage opened.same.0 making names now
    (c.in-Ok.ensures.put (files_of h) (making_of h) start (rows_named h.outputs.pattern rows) h.outputs.names h.texts refl (names_of_differ h.outputs rows now.names) now.outputs.under_way)

pub returns-in-Err-clause-stop : goal.returns-in-Err-clause-stop
returns-in-Err-clause-stop g c = λ start rows has.
    let h = c.open.new.self in
    let opened = c.in_ok-open.ensures in
    let now = opened.has start rows has in
    end_stops (kind_of g.G.Stage.state g.G.Stage.ended) c.args.self.now h start rows c.end_all.new.stage opened.same.0 (opened.all start rows has) now.outputs.good
    (c.in-Err.ensures.stop (files_of h) (making_of h) start (rows_named h.outputs.pattern rows) h.outputs.names h.texts refl (names_of_differ h.outputs rows now.names) now.outputs.under_way)
