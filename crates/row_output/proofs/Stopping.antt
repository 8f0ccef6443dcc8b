-- What stands where rows were put is what stops within these and more.
use Rattle.std.specs.Prelude.{◌≡◌, ℕ, true, List, [], ◌++◌}
use Rattle.std.proofs.Common.{ap, ap₂, sym, subst, ◌∙◌, refl}
use Rattle.any_format.specs.Formats.{text_of, HasText, format_begins}
use Rattle.order_top.specs.Finish.{Row, Finish, finished}
use Rattle.order_top.specs.Ordering.{StandsFor}
use Rattle.lp_outside.specs.declared.stage.Mark.{Mark}
use Rattle.lp_outside.specs.Stages.{no_mark}
use Rattle.text_output.specs.Output.{StageKind, OutputAt, IsUnderWay, reached}
use Rattle.text_output.specs.declared.target.Target.{Target}
use Rattle.text_output.specs.Fronts.{front_of}
use Rattle.text_output.specs.Gaining.{gains_nothing}
use Rattle.row_output.specs.Asked.{Asked, asked_text, left_of}
use Rattle.row_output.proofs.States.{files_stop, new_files_has}
use Rattle.row_output.proofs.Plain.{all_left}
use Rattle.row_output.specs.Rows.{StopsAt, Stops, standard_at}
use Rattle.row_output.specs.Sinks.{HasSinkRows, IsStandard, IsNewSink, columns_in, files_in, sink_text, text_fn}
use Rattle.row_output.specs.Kept.{HasKept, HasPut, HasRows, IsNew, IsNewKept, asked_of}
use Rattle.row_output.specs.declared.kept.Kept.{Kept}
use Rattle.row_output.specs.declared.kept.Kept.TheVariants as K
use Rattle.row_output.specs.declared.kept.RowOutput.{RowOutput}
use Rattle.row_output.specs.declared.sink.Sink.{Sink}
use Rattle.row_output.specs.declared.sink.Sink.TheVariants as S

pub sink_stops : {S : Type 0} (kind : StageKind S) (s : Sink) (start : S) (rows more : List Row) (now : S) → HasSinkRows kind s start rows now → StopsAt (files_in s) kind (sink_text s) start (rows ++ more) now
sink_stops kind (S.Standard s) start rows more now has = front_of text_of HasText format_begins s.text.shape true s.names rows more (standard_at kind start) (reached kind s.text.target now) s.text.held has
sink_stops kind (S.Files f) start rows more now has = files_stop kind f start rows more now has

pub kept_stops : {S : Type 0} (kind : StageKind S) (kept : Kept) (order : Finish) (s : Sink) (start : S) (rows more : List Row) (now : S) → HasKept kind kept order s start rows now → StopsAt (files_in s) kind (sink_text s) start (finished order (rows ++ more)) now
kept_stops kind K.All order s start rows more now (plain, has) =
    let Of : List Row → Type 0 = λ t. StopsAt (files_in s) kind (sink_text s) start t now in
    subst Of (sym (all_left order plain (rows ++ more))) (sink_stops kind s start rows more now has)
kept_stops kind (K.Ordered ordering) order s start rows more now (asks, same, stands, has) = sink_stops kind s start [] (finished order (rows ++ more)) now has

pub rows_stop : {S : Type 0} (kind : StageKind S) (o : RowOutput) (start : S) (rows more : List Row) (now : S) → HasRows kind o start rows now → Stops kind (asked_of o) start (rows ++ more) now
unfolding HasRows Stops
rows_stop kind o start rows more now has = kept_stops kind o.kept o.order o.sink start rows more now has.has

-- a text that nothing of was put
standard_new : {S : Type 0} (kind : StageKind S) (target : Target) (start : S) (Has : List ℕ → Type 0) (held : List ℕ) → IsStandard target → Has held → IsUnderWay Has (standard_at kind start) (reached kind target start) held
standard_new kind target start Has held is has =
    let same : standard_at kind start ≡ reached kind target start = ap₂ (λ (o : ℕ) (n : List ℕ). record { output = o; name = n; base = 0; mark = no_mark; stage = start }) (sym is.output) (sym is.name)
    ∙ ap₂ (λ (b : ℕ) (m : Mark). record { output = target.output; name = target.name; base = b; mark = m; stage = start }) (sym is.base) (sym is.mark) in
    subst (λ (at : OutputAt kind). IsUnderWay Has (standard_at kind start) at held) same ([], gains_nothing (standard_at kind start), has)

sink_new : {S : Type 0} (kind : StageKind S) (s : Sink) (start : S) → IsNewSink s → HasSinkRows kind s start [] start
sink_new kind (S.Standard s) start (target, has) = standard_new kind s.text.target start (HasText s.text.shape true s.names []) s.text.held target has
sink_new kind (S.Files f) start new = new_files_has kind f start new

kept_new : {S : Type 0} (kind : StageKind S) (kept : Kept) (order : Finish) (s : Sink) (start : S) → IsNewKept kept order → IsNewSink s → HasKept kind kept order s start [] start
kept_new kind K.All order s start plain new = (plain, sink_new kind s start new)
kept_new kind (K.Ordered ordering) order s start (asks, same, stands) new = (asks, same, stands, sink_new kind s start new)

-- no row was put
pub new_has : {S : Type 0} (kind : StageKind S) (o : RowOutput) (start : S) → IsNew o → HasRows kind o start [] start
unfolding HasRows
new_has kind o start new = record { has = kept_new kind o.kept o.order o.sink start new.kept new.sink; count = new.none }

-- nothing is written of rows that no output was opened for
pub none_stops : {S : Type 0} (kind : StageKind S) (o : RowOutput) (start : S) (rows : List Row) → IsNew o → Stops kind (asked_of o) start rows start
none_stops kind o start rows new = rows_stop kind o start [] rows start (new_has kind o start new)
