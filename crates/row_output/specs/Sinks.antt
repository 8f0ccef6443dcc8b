-- How far rows have come on their way to standard output or to files.
use Rattle.std.specs.Prelude.{◌≡◌, ◌<◌, ℕ, true, length, List, [], ◌∷◌, Option, Some, None, ⊤}
use Rattle.any_format.specs.Formats.{HasText, format_text}
use Rattle.any_format.specs.Wanted.{wanted_text}
use Rattle.multiplex.specs.Naming.{stars}
use Rattle.order_top.specs.Finish.{Row}
use Rattle.lp_outside.specs.Gained.{standard_output}
use Rattle.lp_outside.specs.Stages.{no_mark}
use Rattle.text_output.specs.Output.{StageKind, IsUnderWay, reached}
use Rattle.text_output.specs.declared.target.Target.{Target}
use Rattle.row_output.specs.Asked.{Files, OutputText, RowsText}
use Rattle.row_output.specs.FileTexts.{HoldLittle}
use Rattle.row_output.specs.FileRows.{HasFileRows, IsNewFiles, files_of}
use Rattle.row_output.specs.Rows.{standard_at}
use Rattle.row_output.specs.declared.into.Into.{Into}
use Rattle.row_output.specs.declared.into.Into.TheVariants as I
use Rattle.row_output.specs.declared.sink.Standard.{Standard}
use Rattle.row_output.specs.declared.sink.Sink.{Sink}
use Rattle.row_output.specs.declared.sink.Sink.TheVariants as S
use Rattle.command_words.specs.declared.modes.FileMode.{FileMode}

abbrev pub files_for : Into → Option Files
files_for I.Standard = None
files_for (I.Files outputs mode) = Some (record { pattern = outputs.pattern; forbidden = outputs.forbidden; mode = mode })

-- no output was placed yet
abbrev pub IsUnplaced : Into → Type 0
IsUnplaced I.Standard = ⊤
IsUnplaced (I.Files outputs mode) = outputs.names ≡ []

abbrev pub files_in : Sink → Option Files
files_in (S.Standard s) = None
files_in (S.Files f) = Some (files_of f)

abbrev pub text_fn : Sink → RowsText
text_fn (S.Standard s) = format_text s.text.shape
text_fn (S.Files f) = wanted_text f.wanted f.moment

abbrev pub columns_in : Sink → List (List ℕ)
columns_in (S.Standard s) = s.names
columns_in (S.Files f) = f.columns

abbrev pub sink_text : Sink → OutputText
sink_text s fresh rows = (text_fn s).of fresh (columns_in s) rows

-- an output is standard output, before its first byte
pub record IsStandard (target : Target) : Type 0 where
  pub output : target.output ≡ 0
  pub name : target.name ≡ standard_output
  pub base : target.base ≡ 0
  pub mark : target.mark ≡ no_mark

-- no row was put
abbrev pub IsNewSink : Sink → Type 0
IsNewSink (S.Standard s) = IsStandard s.text.target × HasText s.text.shape true s.names [] s.text.held
IsNewSink (S.Files f) = IsNewFiles f

-- the output of a name without stars is opened
abbrev pub IsOpened : Sink → Type 0
IsOpened (S.Standard s) = ⊤
IsOpened (S.Files f) = stars f.outputs.pattern ≡ 0 → f.outputs.names ≡ f.outputs.pattern ∷ []

-- since a moment standard output has gained the front of the text of rows, and holds the rest
abbrev pub HasStandardRows : {S : Type 0} → StageKind S → Standard → S → List Row → S → Type 0
HasStandardRows kind s start rows now = IsUnderWay (HasText s.text.shape true s.names rows) (standard_at kind start) (reached kind s.text.target now) s.text.held

abbrev pub HasSinkRows : {S : Type 0} → StageKind S → Sink → S → List Row → S → Type 0
HasSinkRows kind (S.Standard s) start rows now = HasStandardRows kind s start rows now
HasSinkRows kind (S.Files f) start rows now = HasFileRows kind f start rows now

-- standard output holds back less of its text than 64 KiB, or each output in a file less than a piece of a stage
abbrev pub HoldsLittle : Sink → Type 0
HoldsLittle (S.Standard s) = length s.text.held < 65_536
HoldsLittle (S.Files f) = HoldLittle f.files.items

-- standard output holds back less of its text than a piece of a stage
abbrev pub HoldsNoPiece : Sink → Type 0
HoldsNoPiece (S.Standard s) = length s.text.held < 4_096
HoldsNoPiece (S.Files f) = ⊤

-- what a sink is for
pub record Purpose : Type 0 where
  pub files : Option Files
  pub text : RowsText
  pub columns : List (List ℕ)

abbrev pub purpose_of : Sink → Purpose
purpose_of s = record { files = files_in s; text = text_fn s; columns = columns_in s }
