-- Outputs in files while rows still come: of each name the text that is on its way, or that its file is left alone.
use Rattle.std.specs.Option.{option_to_list}
use Rattle.std.specs.Prelude.{◌≡◌, ◌<◌, ◌+◌, ◌%◌, ◌^◌, ◌==◌, ℕ, ℤ, true, false, List, [], ◌∷◌, ◌++◌, length, map, All, slice_index_or, Option, Some, None, ⊤}
use Rattle.any_format.specs.declared.format.Format.{Format}
use Rattle.any_format.specs.declared.wanted.Wanted.{Wanted}
use Rattle.any_format.specs.Formats.{text_of, HasText as IsSoFar}
use Rattle.any_format.specs.Wanted.{wanted_text}
use Rattle.command_words.specs.declared.modes.FileMode.{FileMode}
use Rattle.log_listing.specs.Firsts.{is_among}
use Rattle.lp_outside.specs.Stages.{KeepsAll}
use Rattle.lp_outside.specs.Gained.{HasText, KeepsLengths, KeepsEnded}
use Rattle.multiplex.specs.Splitting.{OutputRows}
use Rattle.order_top.specs.Finish.{Row}
use Rattle.text_output.specs.declared.text_output.TextOutput.{TextOutput}
use Rattle.text_output.specs.declared.target.Output.{Output}
use Rattle.text_output.specs.Output.{StageKind, Spares}
use Rattle.row_output.specs.declared.file_output.FileOutput.{FileOutput}
use Rattle.row_output.specs.declared.file_output.FileOutput.TheVariants as O
use Rattle.row_output.specs.Asked.{Files, OutputText}
use Rattle.row_output.specs.Files.{IsBase, IsLeftAlone, IsPut, ArePut, Opened, opened_of, SparesBut}

-- What the texts of one query share: what becomes of a file that holds bytes, the format, the run's moment, and the columns.
pub record Making : Type 0 where
  pub mode : FileMode
  pub wanted : Wanted
  pub moment : ℤ
  pub columns : List (List ℕ)

-- the text of rows
abbrev pub text_by : Making → OutputText
text_by making fresh rows = (wanted_text making.wanted making.moment).of fresh making.columns rows

-- The text of some rows is on its way to the output of an index and a name: up to its mark the front of it stands there, and
-- the rest is held.
pub record IsOnItsWay {S : Type 0} (kind : StageKind S) (making : Making) (start now : S) (index : ℕ) (name : List ℕ) (rows : List Row) (text : TextOutput Format) : Type 0 where
  pub output : text.target.output ≡ index
  pub called : text.target.name ≡ name
  pub base : IsBase kind making.mode start name text.target.base
  pub format : text_of text.shape ≡ (wanted_text making.wanted making.moment).of
  pub done : List ℕ
  pub size : text.target.mark.length ≡ length done % 2 ^ 64
  pub stands : (kind.state start).tells → HasText index name text.target.base text.target.mark done (kind.state now)
  pub so_far : IsSoFar text.shape (text.target.base == 0) making.columns rows (done ++ text.held)

-- the output of a name
abbrev pub IsFile : {S : Type 0} → StageKind S → Making → S → S → ℕ → List ℕ → List Row → FileOutput → Type 0
IsFile kind making start now index name rows O.LeftAlone = IsLeftAlone kind making.mode start name
IsFile kind making start now index name rows (O.Text text) = IsOnItsWay kind making start now index name rows text

-- the index behind an output's: a file that is left alone has none
abbrev pub after_file : ℕ → FileOutput → ℕ
after_file index O.LeftAlone = index
after_file index (O.Text text) = index + 1

-- how many bytes of its text an output holds back
abbrev pub held_back : FileOutput → ℕ
held_back O.LeftAlone = 0
held_back (O.Text text) = length text.held

-- each output holds back less than a whole piece
abbrev pub HoldLittle : List FileOutput → Type 0
HoldLittle files = All (λ file. held_back file < 4096) files

-- the outputs of these names, in order and numbered from an index
abbrev pub AreFiles : {S : Type 0} → StageKind S → Making → S → S → (List ℕ → List Row) → ℕ → List (List ℕ) → List FileOutput → Type 0
AreFiles kind making start now rows_of index [] [] = ⊤
AreFiles kind making start now rows_of index [] (file ∷ files) = ⊥
AreFiles kind making start now rows_of index (name ∷ names) [] = ⊥
AreFiles kind making start now rows_of index (name ∷ names) (file ∷ files) =
    IsFile kind making start now index name (rows_of name) file × AreFiles kind making start now rows_of (after_file index file) names files

-- which outputs bytes may have gone to
abbrev pub opened_by : FileOutput → List Opened
opened_by O.LeftAlone = []
opened_by (O.Text text) = record { name = text.target.name; base = text.target.base } ∷ []

abbrev pub opened_in : List FileOutput → List Opened
opened_in [] = []
opened_in (file ∷ files) = opened_by file ++ opened_in files

-- Each of these names has its output, so many of them a text, and all other files stay.
pub record AreUnderWay {S : Type 0} (kind : StageKind S) (making : Making) (rows_of : List ℕ → List Row) (names : List (List ℕ)) (start : S) (files : List FileOutput) (texts : ℕ) (now : S) : Type 0 where
  pub texts_are : texts ≡ length (opened_in files)
  pub each : AreFiles kind making start now rows_of 0 names files
  pub tells : (kind.state start).tells → (kind.state now).tells
  pub spares : SparesBut kind (opened_in files) start now

-- Of outputs of these names some were opened, and all other files stay.
pub record StopsAmong {S : Type 0} (kind : StageKind S) (mode : FileMode) (names : List (List ℕ)) (start now : S) : Type 0 where
  pub opened : List Opened
  pub named : All (λ (o : Opened). is_among names o.name ≡ true) opened
  pub bases : All (λ (o : Opened). IsBase kind mode start o.name o.base) opened
  pub spares : SparesBut kind opened start now

-- The same, where each name is one of these and none is forbidden.
pub record StopsFree {S : Type 0} (kind : StageKind S) (files : Files) (known : List (List ℕ)) (start now : S) : Type 0 where
  pub names : List (List ℕ)
  pub among : (name : List ℕ) → is_among names name ≡ true → is_among known name ≡ true
  pub free : All (λ name. is_among files.forbidden name ≡ false) names
  pub stops : StopsAmong kind files.mode names start now

-- A call that asks a stage for something lets all stand.
pub record KeepsStage {S : Type 0} (kind : StageKind S) (before now : S) : Type 0 where
  pub texts : (kind.state before).tells → KeepsAll (kind.state before) (kind.state now)
  pub lengths : KeepsLengths (kind.state before) (kind.state now)
  pub ended : KeepsEnded kind.ended before now

-- where the text of an output of this name may begin, if at all
abbrev pub IsFound : {S : Type 0} → StageKind S → FileMode → S → List ℕ → Option ℕ → Type 0
IsFound kind mode start name None = IsLeftAlone kind mode start name
IsFound kind mode start name (Some base) = IsBase kind mode start name base

-- some calls for an output; there is none for one that is left alone
abbrev pub SparesFile : {S : Type 0} → StageKind S → FileOutput → S → S → Type 0
SparesFile kind O.LeftAlone before now = now ≡ before
SparesFile kind (O.Text text) before now = Spares kind text.target.output text.target.name text.target.base before now

-- An output takes a row, whatever rows it has.
pub record TakesRow {S : Type 0} (kind : StageKind S) (row : Row) (old new : FileOutput) (before now : S) : Type 0 where
  pub takes : (making : Making) (start : S) (index : ℕ) (name : List ℕ) (rows : List Row) → IsFile kind making start before index name rows old → IsFile kind making start now index name (rows ++ row ∷ []) new
  pub opened : opened_by new ≡ opened_by old
  pub tells : (kind.state before).tells → (kind.state now).tells
  pub spares : SparesFile kind old before now

-- what an output is once it is ended: its file is left alone, or it has the text of its rows
abbrev pub IsEnded : {S : Type 0} → StageKind S → Files → OutputText → ℕ → S → S → OutputRows → Option Output → Type 0
IsEnded kind files text index start now rows None = IsLeftAlone kind files.mode start rows.name
IsEnded kind files text index start now rows (Some output) = IsPut kind files text index start now rows output

-- the outputs of these names with their rows
abbrev pub rows_by : (List ℕ → List Row) → List (List ℕ) → List OutputRows
rows_by rows_of names = map (λ name. record { name = name; rows = rows_of name }) names

-- An output is ended, whatever rows it has.
pub record EndsFile {S : Type 0} (kind : StageKind S) (file : FileOutput) (output : Option Output) (before now : S) : Type 0 where
  pub ends : (files : Files) (making : Making) (start : S) (index : ℕ) (name : List ℕ) (rows : List Row) → files.mode ≡ making.mode → IsFile kind making start before index name rows file
      → IsEnded kind files (text_by making) index start now (record { name = name; rows = rows }) output
  pub opened : map opened_of (option_to_list output) ≡ opened_by file
  pub tells : (kind.state before).tells → (kind.state now).tells
  pub spares : SparesFile kind file before now

-- The first of these outputs are ended, and all others are on their way.
pub record AreEnding {S : Type 0} (kind : StageKind S) (files : Files) (making : Making) (start : S) (rows_of : List ℕ → List Row) (names : List (List ℕ)) (all rest : List FileOutput) (outputs : List Output) (now : S) : Type 0 where
  pub done : List (List ℕ)
  pub left : List (List ℕ)
  pub parts : names ≡ done ++ left
  pub put : ArePut kind files (text_by making) start now 0 (rows_by rows_of done) outputs
  pub each : AreFiles kind making start now rows_of (length outputs) left rest
  pub opened : map opened_of outputs ++ opened_in rest ≡ opened_in all
  pub tells : (kind.state start).tells → (kind.state now).tells
  pub spares : SparesBut kind (opened_in all) start now
