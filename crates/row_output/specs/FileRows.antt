-- How far the rows of outputs in files have come.
use Rattle.std.specs.Prelude.{◌≡◌, ◌⊎◌, ◌<◌, ◌≤◌, ℕ, List, [], length, take, false, ⊤}
use Rattle.any_format.specs.Wanted.{wanted_text}
use Rattle.log_listing.specs.Firsts.{is_among}
use Rattle.multiplex.specs.Naming.{stars}
use Rattle.multiplex.specs.Placing.{Numbering}
use Rattle.multiplex.proofs.Distinct.{Differ}
use Rattle.multiplex.specs.Splitting.{output_names, rows_named}
use Rattle.order_top.specs.Finish.{Row}
use Rattle.text_output.specs.Output.{StageKind}
use Rattle.row_output.specs.Asked.{Files, OutputText, AreGood}
use Rattle.row_output.specs.FileTexts.{HoldLittle, Making, AreUnderWay, opened_in}
use Rattle.row_output.specs.declared.fault.OutputFault.{OutputFault}
use Rattle.row_output.specs.declared.fault.OutputFault.TheVariants as F
use Rattle.row_output.specs.declared.fault.Refused.{Refused}
use Rattle.row_output.specs.declared.files.FileOutputs.{FileOutputs}

abbrev pub files_of : FileOutputs → Files
files_of f = record { pattern = f.outputs.pattern; forbidden = f.outputs.forbidden; mode = f.mode }

abbrev pub output_text : FileOutputs → OutputText
output_text f fresh rows = (wanted_text f.wanted f.moment).of fresh f.columns rows

abbrev pub making_of : FileOutputs → Making
making_of f = record { mode = f.mode; wanted = f.wanted; moment = f.moment; columns = f.columns }

-- the names are those of the outputs of some rows; that of a name without stars may not be opened yet, where no row has come
abbrev pub AreNamesOf : Numbering → List Row → Type 0
AreNamesOf outputs rows = (outputs.names ≡ output_names outputs.pattern rows) ⊎ (outputs.names ≡ []) × (rows ≡ [])

-- Each name has its output, with the text of those of the rows that have that name.
pub record HasOutputs {S : Type 0} (kind : StageKind S) (f : FileOutputs) (start : S) (rows : List Row) (now : S) : Type 0 where
  pub stars_are : f.stars ≡ stars f.outputs.pattern
  pub good : AreGood f.outputs.forbidden f.outputs.names
  pub under_way : AreUnderWay kind (making_of f) (rows_named f.outputs.pattern rows) f.outputs.names start f.files.items f.texts now

-- The first of the names have their outputs, and among these are the names of all rows.
pub record HasFirst {S : Type 0} (kind : StageKind S) (f : FileOutputs) (start : S) (rows : List Row) (now : S) : Type 0 where
  pub differ : Differ f.outputs.names
  pub known : (name : List ℕ) → is_among (take (length f.files.items) f.outputs.names) name ≡ false → rows_named f.outputs.pattern rows name ≡ []
  pub under_way : AreUnderWay kind (making_of f) (rows_named f.outputs.pattern rows) (take (length f.files.items) f.outputs.names) start f.files.items f.texts now

-- Since the start these rows were put, each to the output of its name. Once there is a row no output holds back a whole piece.
pub record HasFileRows {S : Type 0} (kind : StageKind S) (f : FileOutputs) (start : S) (rows : List Row) (now : S) : Type 0 where
  pub names : AreNamesOf f.outputs rows
  pub outputs : HasOutputs kind f start rows now
  pub little : (rows ≡ []) ⊎ HoldLittle f.files.items

-- No output is opened.
pub record IsNewFiles (f : FileOutputs) : Type 0 where
  pub stars_are : f.stars ≡ stars f.outputs.pattern
  pub names : f.outputs.names ≡ []
  pub files : f.files.items ≡ []
  pub texts : f.texts ≡ 0

-- P of why an output is refused, where that is the fault
abbrev pub OnRefused : (Refused → Type 0) → OutputFault → Type 0
OnRefused P (F.Refused refused) = P refused
OnRefused P F.Failed = ⊤
OnRefused P F.Memory = ⊤
