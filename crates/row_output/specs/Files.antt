-- What files hold once the rows of a query are written.
use Rattle.std.specs.Prelude.{◌≡◌, ◌⊎◌, ◌<◌, ◌≤◌, ◌+◌, ◌%◌, ◌^◌, ℕ, true, false, List, [], ◌∷◌, ◌==◌, length, map, All, ⊤}
use Rattle.command_words.specs.declared.modes.FileMode.{FileMode}
use Rattle.command_words.specs.declared.modes.FileMode.TheVariants as M
use Rattle.log_listing.specs.Firsts.{is_among}
use Rattle.lp_outside.specs.declared.stage.Mark.{Mark}
use Rattle.lp_outside.specs.Gained.{HasText}
use Rattle.multiplex.specs.Splitting.{OutputRows, split}
use Rattle.order_top.specs.Finish.{Row}
use Rattle.text_output.specs.Output.{StageKind}
use Rattle.text_output.specs.declared.target.Output.{Output}
use Rattle.row_output.specs.Asked.{Files, OutputText, AreGood}

-- the file of this name had so many bytes, where the stage tells what it holds
abbrev pub HadLength : {S : Type 0} → StageKind S → S → List ℕ → ℕ → Type 0
HadLength kind start name bytes = (kind.state start).tells → (kind.state start).is_length name bytes

-- where the text of an output of this name begins: behind what its file held, or at 0; under `-fileMode:2` the file held nothing
abbrev pub IsBase : {S : Type 0} → StageKind S → FileMode → S → List ℕ → ℕ → Type 0
IsBase kind M.Append start name base = HadLength kind start name base
IsBase kind M.Overwrite start name base = base ≡ 0
IsBase kind M.LeaveAlone start name base = (base ≡ 0) × HadLength kind start name 0

-- the file of this name held a byte, and stays as it is
abbrev pub IsLeftAlone : {S : Type 0} → StageKind S → FileMode → S → List ℕ → Type 0
IsLeftAlone kind M.Append start name = ⊥
IsLeftAlone kind M.Overwrite start name = ⊥
IsLeftAlone kind M.LeaveAlone start name = (bytes : ℕ) × (0 < bytes) × HadLength kind start name bytes

-- an output has the text of its rows, from its base up to its mark, and is ended there
pub record IsPut {S : Type 0} (kind : StageKind S) (files : Files) (text : OutputText) (index : ℕ) (start now : S) (rows : OutputRows) (output : Output) : Type 0 where
  pub name : output.name ≡ rows.name
  pub base : IsBase kind files.mode start rows.name output.base
  pub stands : (kind.state start).tells → HasText index rows.name output.base output.mark (text (output.base == 0) rows.rows) (kind.state now)
  pub size : output.mark.length ≡ length (text (output.base == 0) rows.rows) % 2 ^ 64
  pub ended : kind.ended now rows.name output.base output.mark

-- these are the outputs of rows, in order and numbered from an index, without those whose files are left alone
abbrev pub ArePut : {S : Type 0} → StageKind S → Files → OutputText → S → S → ℕ → List OutputRows → List Output → Type 0
ArePut kind files text start now index [] [] = ⊤
ArePut kind files text start now index [] (output ∷ outputs) = ⊥
ArePut kind files text start now index (rows ∷ more) [] = IsLeftAlone kind files.mode start rows.name × ArePut kind files text start now index more []
ArePut kind files text start now index (rows ∷ more) (output ∷ outputs) =
    IsLeftAlone kind files.mode start rows.name × ArePut kind files text start now index more (output ∷ outputs)
    ⊎ IsPut kind files text index start now rows output × ArePut kind files text start now (index + 1) more outputs

-- An output that bytes may have gone to: its name, and the place where its text begins.
pub record Opened : Type 0 where
  pub name : List ℕ
  pub base : ℕ

-- All but these outputs stay as they were, and of these what ends where their texts begin.
pub record SparesBut {S : Type 0} (kind : StageKind S) (opened : List Opened) (before now : S) : Type 0 where
  pub others : (kind.state before).tells → (output : ℕ) (name : List ℕ) (base : ℕ) (mark : Mark) (text : List ℕ) → length opened ≤ output → is_among (map (λ (o : Opened). o.name) opened) name ≡ false
      → (kind.state before).is_text output name base mark text → (kind.state now).is_text output name base mark text
  pub fronts : All (λ (o : Opened). (kind.state before).tells → (output : ℕ) (base : ℕ) (mark : Mark) (text : List ℕ) → length opened ≤ output → base + mark.length ≤ o.base
      → (kind.state before).is_text output o.name base mark text → (kind.state now).is_text output o.name base mark text) opened
  pub lengths : (kind.state before).tells → (name : List ℕ) (bytes : ℕ) → is_among (map (λ (o : Opened). o.name) opened) name ≡ false → ((kind.state before).is_length name bytes → (kind.state now).is_length name bytes) × ((kind.state now).is_length name bytes → (kind.state before).is_length name bytes)
  pub ended : (name : List ℕ) (base : ℕ) (mark : Mark) → is_among (map (λ (o : Opened). o.name) opened) name ≡ false → kind.ended before name base mark → kind.ended now name base mark

abbrev pub opened_of : Output → Opened
opened_of output = record { name = output.name; base = output.base }

-- The files hold the texts of the rows, each its own.
pub record FilesHold {S : Type 0} (kind : StageKind S) (files : Files) (text : OutputText) (start : S) (rows : List Row) (outputs : List Output) (now : S) : Type 0 where
  pub good : AreGood files.forbidden (map (λ (o : OutputRows). o.name) (split files.pattern rows))
  pub put : ArePut kind files text start now 0 (split files.pattern rows) outputs
  pub tells : (kind.state start).tells → (kind.state now).tells
  pub spares : SparesBut kind (map opened_of outputs) start now

-- Some of the outputs of rows were opened, none of them with a forbidden name, and all other files stay.
pub record FilesStop {S : Type 0} (kind : StageKind S) (files : Files) (start : S) (rows : List Row) (now : S) : Type 0 where
  pub opened : List Opened
  pub named : All (λ (o : Opened). is_among (map (λ (r : OutputRows). r.name) (split files.pattern rows)) o.name ≡ true) opened
  pub free : All (λ (o : Opened). is_among files.forbidden o.name ≡ false) opened
  pub bases : All (λ (o : Opened). IsBase kind files.mode start o.name o.base) opened
  pub spares : SparesBut kind opened start now
