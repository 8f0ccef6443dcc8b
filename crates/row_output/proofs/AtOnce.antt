-- Where rows become text at once, standard output has all but less than a piece of the text of those that were put.
use Rattle.std.proofs.Common.{◌≡◌, ◌<◌, ◌+◌, ℕ, true, Option, Some, None, List, ◌++◌, length, refl, ap, arith, length-append, IsTrue}
use Rattle.any_format.specs.Formats.{text_of, is_at_once, format_whole}
use Rattle.order_top.specs.Finish.{Row, Finish}
use Rattle.text_output.specs.Output.{StageKind, GainsText, reached}
use Rattle.text_output.specs.declared.target.Target.{Target}
use Rattle.row_output.specs.Asked.{asked_text}
use Rattle.row_output.specs.Kept.{HasKept, HasPut, HasRows, asked_of}
use Rattle.row_output.specs.Orders.{IsPlain}
use Rattle.row_output.specs.Rows.{GainsNearly, standard_at, standard_to}
use Rattle.row_output.specs.Sinks.{HasSinkRows, HasStandardRows, HoldsNoPiece, files_in, sink_text, text_fn}
use Rattle.row_output.specs.declared.kept.Kept.{Kept}
use Rattle.row_output.specs.declared.kept.Kept.TheVariants as K
use Rattle.row_output.specs.declared.kept.RowOutput.{RowOutput}
use Rattle.row_output.specs.declared.sink.Standard.{Standard}
use Rattle.row_output.specs.declared.sink.Sink.{Sink}
use Rattle.row_output.specs.declared.sink.Sink.TheVariants as S

-- what a text has gained since it was standard output before its first byte, standard output has
gained_there : {S : Type 0} (kind : StageKind S) (target : Target) (start now : S) (done : List ℕ) → GainsText (standard_at kind start) (reached kind target now) done → GainsText (standard_at kind start) (standard_to kind target.mark now) done
gained_there kind target start now done gains = record {
  output = refl;
  name = refl;
  base = refl;
  tells = gains.tells;
  gained = gains.gained;
  others = gains.others;
  lengths = gains.lengths;
  ended = gains.ended;
}

standard_nearly : {S : Type 0} (kind : StageKind S) (s : Standard) (start : S) (rows : List Row) (now : S) → IsTrue (is_at_once s.text.shape) → length s.text.held < 4_096 → HasStandardRows kind s start rows now
    → GainsNearly kind start (text_of s.text.shape true s.names rows) now
standard_nearly kind s start rows now once little (done, gains, so_far) =
    let whole = ap length (format_whole s.text.shape true s.names rows (done ++ s.text.held) once so_far) in
    let parts = length-append done s.text.held in
    (done, s.text.target.mark, gained_there kind s.text.target start now done gains, omega (arith, whole, parts, little))

sink_nearly : {S : Type 0} (kind : StageKind S) (s : Sink) (start : S) (rows : List Row) (now : S) → files_in s ≡ None → IsTrue (text_fn s).at_once → HoldsNoPiece s → HasSinkRows kind s start rows now → GainsNearly kind start (sink_text s true rows) now
sink_nearly kind (S.Standard s) start rows now none once little has = standard_nearly kind s start rows now once little has
sink_nearly kind (S.Files f) start rows now none once little has = absurd (cc)

kept_nearly : {S : Type 0} (kind : StageKind S) (kept : Kept) (order : Finish) (s : Sink) (start : S) (rows : List Row) (now : S) → files_in s ≡ None → IsPlain order → IsTrue (text_fn s).at_once → HoldsNoPiece s → HasKept kind kept order s start rows now
    → GainsNearly kind start (sink_text s true rows) now
kept_nearly kind K.All order s start rows now none plain once little (all, has) = sink_nearly kind s start rows now none once little has
kept_nearly kind (K.Ordered ordering) order s start rows now none plain once little (asks, same, stands, has) = absurd (asks plain)

pub rows_nearly : {S : Type 0} (kind : StageKind S) (o : RowOutput) (start : S) (rows : List Row) (now : S) → (asked_of o).files ≡ None → IsPlain (asked_of o).order → IsTrue (asked_of o).text.at_once → HoldsNoPiece o.sink → HasRows kind o start rows now
    → GainsNearly kind start (asked_text (asked_of o) true rows) now
unfolding HasRows
rows_nearly kind o start rows now none plain once little has = kept_nearly kind o.kept o.order o.sink start rows now none plain once little has.has
