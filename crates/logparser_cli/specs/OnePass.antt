-- That a run goes over its logs in one pass: they are read no further than a little ahead of what standard output has of their rows.
use Rattle.std.specs.Prelude.{◌≡◌, ◌⊎◌, ◌+◌, ◌-◌, ◌<◌, ◌≤◌, ℕ, ℤ, Bool, true, false, List, [], ◌∷◌, ◌++◌, length, take, flat_map, Option, None, Ok, IsSomeAnd, option_map}
use Rattle.grammar.specs.Trees as model
use Rattle.lp_model.specs.Outside.{Folder, Told, bytes_in}
use Rattle.lp_model.specs.Reading.{Format, lines_before, records_in}
use Rattle.command_words.specs.declared.spec.Spec.{Spec}
use Rattle.command_words.specs.Words.{query_in}
use Rattle.input_tables.specs.declared.format.TableFormat.{TableFormat}
use Rattle.input_tables.specs.Tables.{lines_of, table_of}
use Rattle.log_listing.specs.declared.lengths.NameLength.{NameLength}
use Rattle.log_reading.specs.Found.{Found, found_of}
use Rattle.query_text.specs.Stdin.{names_in}
use Rattle.query_types.specs.Planned.{Planned}
use Rattle.requests.specs.Requests.{Asks}
use Rattle.requests.specs.Texts.{file_in}
use Rattle.standard_input.specs.Streams.{stream_files}
use Rattle.checkpointed_command.specs.Built.{reads_stdin}
use Rattle.checkpointed_command.specs.Giving.{subqueries_of}
use Rattle.checkpointed_command.specs.OnePass.{GoesInPass, standard_text}
use Rattle.checkpointed_command.specs.Plans.{of_rows, query_plan, table_rows}
use Rattle.logparser_cli.specs.Logs.{AreLogs}
use Rattle.logparser_cli.specs.Outputs.{Input}

-- a query without subqueries that goes over its own logs so
pub record PassesRows (spec : Spec) (q : model.Query) (format : TableFormat) : Type 0 where
  pub alone : subqueries_of q ≡ []
  pub goes : GoesInPass spec q format

-- words ask for such a query, which stands in them, without a checkpoint
pub record AsksInPass (before now : Option Folder) (words : List (List ℕ)) (spec : Spec) (q : model.Query) (format : TableFormat) : Type 0 where
  pub asks : Asks before now words spec q
  pub plain : spec.checkpoint ≡ None
  pub in_words : file_in (query_in words) ≡ None
  pub passes : PassesRows spec q format

-- How far it has come

-- the bytes of logs, joined up to their cuts
abbrev pub joined : Folder → List NameLength → List ℕ
joined folder logs = flat_map (λ (log : NameLength). take log.length (bytes_in folder log.name)) logs

-- the rows of the lines that end at or before a place in them
abbrev pub found_up_to : Format → Folder → List NameLength → ℕ → List Found
found_up_to format folder [] place = []
found_up_to format folder (log ∷ logs) place =
    let bytes = take log.length (bytes_in folder log.name) in
    found_of log.name (flat_map (records_in format bytes false) (lines_before bytes false place)) ++ found_up_to format folder logs (place - length bytes)

-- the text of the rows that a plan makes of the lines up to a place
abbrev pub text_up_to : Spec → ℤ → model.Query → TableFormat → Planned → Folder → List NameLength → ℕ → List ℕ
text_up_to spec moment q format plan folder logs place = standard_text spec moment q plan (table_rows format (of_rows plan) (found_up_to (lines_of format) folder logs place))

-- what is known at one moment of how far a run has come: the logs' files and how many bytes they have given, standard input, and what
-- standard output holds
pub record Progress : Type 0 where
  pub folder : Option Folder
  pub given : ℕ
  pub input : Input
  pub out : Option (List ℕ)

abbrev pub progress : Option Folder → ℕ → Input → Option (List ℕ) → Progress
progress folder given input out = record { folder = folder; given = given; input = input; out = out }

-- how many bytes the logs and standard input have given
abbrev pub all_given : Progress → ℕ
all_given at = at.given + at.input.given

-- the files that a query reads: those of the logs, or what was left of standard input, under any name
abbrev pub files_read : Bool → Progress → Progress → Option Folder
files_read false old new = new.folder
files_read true old new = option_map stream_files old.input.left

-- No more than 64 KiB were read behind a place in the joined logs: the text of the rows up to it is less than 4 KiB longer than what
-- standard output has gained.
pub record IsClose (spec : Spec) (moment : ℤ) (q : model.Query) (format : TableFormat) (plan : Planned) (folder : Folder) (logs : List NameLength) (was is : List ℕ) (given_before given_now : ℕ) : Type 0 where
  pub place : ℕ
  pub within : place ≤ length (joined folder logs)
  pub written : length (text_up_to spec moment q format plan folder logs place) + length was < length is + 4_096
  pub read : given_now ≤ given_before + place + 65_536

-- The query has a plan, and its logs were read in one pass, where standard output tells what it holds.
pub record IsPassedBy (spec : Spec) (moment : ℤ) (q : model.Query) (format : TableFormat) (old new : Progress) (files : Folder) : Type 0 where
  pub logs : List NameLength
  pub are_logs : AreLogs old.folder new.folder q logs
  pub plan : Planned
  pub is_planned : query_plan (table_of format) moment q ≡ Ok (of_rows plan)
  pub close : Told old.out (λ was. IsSomeAnd new.out (λ is. IsClose spec moment q format plan files logs was is (all_given old) (all_given new)))

-- Nothing was read, or the logs of a query were read in one pass, where they and standard input tell what they hold.
abbrev pub IsOnePass : Spec → ℤ → model.Query → TableFormat → Progress → Progress → Type 0
IsOnePass spec moment q format old new =
    Told new.folder (λ folder. Told (files_read (reads_stdin (names_in q)) old new) (λ files. (all_given new ≤ all_given old) ⊎ IsPassedBy spec moment q format old new files))
