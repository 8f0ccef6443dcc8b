-- The meaning of the program's runs.
use Rattle.std.specs.Prelude.{◌≡◌, ◌⊎◌, ℕ, List, map, Some, IsSome}
use Rattle.std.specs.Bool.{⊤}
use Rattle.std.specs.List.{AllByRecursion}
use Rattle.grammar.specs.Filled.{PlacedGiven, filled, given_bad}
use Rattle.grammar.specs.Trees.{Query}
use Rattle.lp_model.specs.Outside.{Folder}
use Rattle.ledger.specs.Written.{kept_of}
use Rattle.ledger_model.specs.Entries.{Entry, Kept}
use Rattle.ledger_model.specs.Inputs.{input_text}
use Rattle.lp_values.specs.declared.value.Value.{Value}
use Rattle.command_words.specs.declared.modes.FileMode.{FileMode}
use Rattle.command_words.specs.declared.modes.FileMode.TheVariants as M
use Rattle.command_words.specs.declared.spec.Spec.{Spec}
use Rattle.command_words.specs.Table.{errors_of, file_mode_of, rotation_of}
use Rattle.query_text.specs.Stdin.{names_in}
use Rattle.run_model.specs.Logs.{Rotation, names, numbers}
use Rattle.run_model.specs.Listed.{IsThereAt}
use Rattle.run_model.specs.Meanings.{Asked, Mode, append, overwrite, ignore, Meaning}
use Rattle.positions.specs.Spanning.{Reaches, rule_of}
use Rattle.subqueries.specs.Giving.{GiveThese}
use Rattle.program_meaning.specs.Asked.{HasOptions, Asks}
use Rattle.program_meaning.specs.Gives.{Gives}
use Rattle.program_meaning.specs.Inputs.{input_for, format_in}

-- option words of the grammar, with a checkpoint
pub record AreWords (words : List (List ℕ)) : Type 0 where
  pub spec : Spec
  pub options : HasOptions words spec
  pub checkpoint : IsSome spec.checkpoint

-- the text by which a ledger keeps how the logs of a run are read
pub record IsInput (asked : Asked) (text : List ℕ) : Type 0 where
  pub spec : Spec
  pub q : Query
  pub asks : Asks asked spec q
  pub is : text ≡ input_text (input_for spec q)

abbrev pub mode_as : FileMode → Mode
mode_as M.Append = append
mode_as M.Overwrite = overwrite
mode_as M.LeaveAlone = ignore

-- the logs of a ledger with these entries are read so, as far as it has any
abbrev pub Looks : Asked → List Entry → Type 0
Looks asked entries = AllByRecursion (λ (entry : Entry). IsInput asked entry.input) entries

-- a file of a stem is there
abbrev pub HasFile : Folder → List ℕ → Type 0
HasFile folder stem = IsSome (folder stem) ⊎ ((number : ℕ) × IsThereAt folder stem number)

-- under numbers each name reaches a file
abbrev pub HaveFiles : Rotation → Folder → List (List ℕ) → Type 0
HaveFiles names folder reached = ⊤
HaveFiles numbers folder reached = AllByRecursion (HasFile folder) reached

-- the files that the names behind FROM reach
pub record ReachesLogs (asked : Asked) (folder : Folder) (reached : List (List ℕ)) : Type 0 where
  pub spec : Spec
  pub q : Query
  pub asks : Asks asked spec q
  pub reaches : Reaches (rule_of spec.rotation) (Some folder) (map (λ name. name.text) (names_in q)) reached
  pub there : HaveFiles (rule_of spec.rotation) folder reached

-- the subqueries of what is asked gave these lists between two moments of a folder, and their logs had so many bad lines, those of each
-- subquery once
pub record KeepsLists (asked : Asked) (before now : Folder) (lists : List (List Kept)) (bad : ℕ) : Type 0 where
  pub spec : Spec
  pub q : Query
  pub asks : Asks asked spec q
  pub givens : List PlacedGiven
  pub values : List (List Value)
  pub give : GiveThese spec asked.moment (Some before) (Some now) q givens values
  pub kept : lists ≡ map (map kept_of) values
  pub bad_is : bad ≡ given_bad (filled givens q)

abbrev pub meaning : Meaning
meaning = record {
  are_words = AreWords;
  is_input = IsInput;
  rotation = λ words. rule_of (rotation_of words);
  format = format_in;
  mode = λ words. mode_as (file_mode_of words);
  most_bad = errors_of;
  gives = Gives;
  looks = Looks;
  reaches = ReachesLogs;
  keeps = KeepsLists;
}
