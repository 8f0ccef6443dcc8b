-- What is asked of the rows of a query: what is left of them, in which format, and where the text goes.
use Rattle.std.specs.Prelude.{◌≡◌, ◌⊎◌, ◌≤◌, ◌<◌, ℕ, Bool, List, [], ◌∷◌, ◌++◌, ◌==◌, length, map, drop, true, false, Option, Some, None, All}
pub use Rattle.any_format.specs.Formats.{RowsText}
use Rattle.command_words.specs.declared.modes.FileMode.{FileMode}
use Rattle.log_listing.specs.Firsts.{is_among}
use Rattle.lp_outside.specs.NameFault.{name_fault}
use Rattle.multiplex.specs.Naming.{stars}
use Rattle.multiplex.specs.Splitting.{OutputRows, output_names, row_name, split}
use Rattle.order_top.specs.Finish.{Row, Finish, finished}
use Rattle.row_output.specs.declared.fault.Refused.{Refused}
use Rattle.row_output.specs.declared.fault.Refused.TheVariants as R

-- Outputs in files: the INTO name, the names that none may have, and what becomes of a file that holds bytes.
pub record Files : Type 0 where
  pub pattern : List ℕ
  pub forbidden : List (List ℕ)
  pub mode : FileMode

-- Rows, of which an order leaves some, go as text to files, or to standard output; these are the columns that each output has.
pub record Asked : Type 0 where
  pub files : Option Files
  pub text : RowsText
  pub columns : List (List ℕ)
  pub order : Finish

-- the columns of outputs: in files all but those that stand for the stars of a name
abbrev pub columns_for : Option Files → List (List ℕ) → List (List ℕ)
columns_for None names = names
columns_for (Some files) names = drop (stars files.pattern) names

-- the rows that are left
abbrev pub left_of : Asked → List Row → List Row
left_of asked rows = finished asked.order rows

-- the text of rows in an output, which begins empty or not
abbrev pub OutputText : Type 0
OutputText = Bool → List Row → List ℕ

abbrev pub asked_text : Asked → OutputText
asked_text asked fresh rows = asked.text.of fresh asked.columns rows

-- a new name, behind those before it, is refused by this fault, the first of three
abbrev pub IsRefusedAs : List (List ℕ) → List (List ℕ) → List ℕ → Refused → Type 0
IsRefusedAs forbidden before name R.TooManyOutputs = 10_000 ≤ length before
IsRefusedAs forbidden before name (R.BadName fault) = (length before < 10_000) × (name_fault name ≡ Some fault)
IsRefusedAs forbidden before name (R.NameClash clash) = (length before < 10_000) × (name_fault name ≡ None) × (is_among forbidden name ≡ true) × (clash ≡ name)

-- all of these names may be outputs
pub record AreGood (forbidden names : List (List ℕ)) : Type 0 where
  pub few : length names ≤ 10_000
  pub good : All (λ name. name_fault name ≡ None) names
  pub free : All (λ name. is_among forbidden name ≡ false) names

-- of the rows, in order, this is the first whose output is refused: those before it have outputs, and its name is new
pub record IsFirstRefused (files : Files) (rows : List Row) (fault : Refused) : Type 0 where
  pub before : List Row
  pub row : Row
  pub more : List Row
  pub parts : rows ≡ before ++ (row ∷ more)
  pub good : AreGood files.forbidden (output_names files.pattern before)
  pub new : is_among (output_names files.pattern before) (row_name files.pattern row) ≡ false
  pub refused : IsRefusedAs files.forbidden (output_names files.pattern before) (row_name files.pattern row) fault

-- why the outputs of rows are refused: a name without stars for itself, before any row
abbrev pub IsRefusedBy : Files → List Row → Refused → Type 0
IsRefusedBy files rows fault = (stars files.pattern ≡ 0) × IsRefusedAs files.forbidden [] files.pattern fault ⊎ (0 < stars files.pattern) × IsFirstRefused files rows fault
