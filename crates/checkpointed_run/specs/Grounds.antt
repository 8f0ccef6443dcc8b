-- What a run with a checkpoint rests on: how its words and its query are read, and how its spans go on.
use Rattle.std.specs.Prelude.{◌≡◌, ℕ, true, false, List, map, Some, IsSome}
use Rattle.std.specs.List.{AllByRecursion}
use Rattle.grammar.specs.Trees.{Placed}
use Rattle.lp_model.specs.Outside.{Folder}
use Rattle.command_words.specs.Table.{IsAsked}
use Rattle.command_words.specs.Usage.{AreFine}
use Rattle.run_entry.specs.Formats.{lines_in, log_format}
use Rattle.run_entry.specs.Outputs.{is_stdout}
use Rattle.run_entry.specs.Texts.{into_in}
use Rattle.ledger_model.specs.Entries.{Entry}
use Rattle.ledger_model.specs.Inputs.{input_text}
use Rattle.log_reading.specs.Spans.{took_of}
use Rattle.log_reading.specs.declared.span.Span.{Span}
use Rattle.query_text.specs.Texts.{IsQuery, IsOnlyQuery}
use Rattle.run_model.specs.Logs.{Written}
use Rattle.run_model.specs.Meanings.{Asked}
use Rattle.run_model.specs.Right.{AreApart, GoesOn}
use Rattle.tpl_output.specs.Sections.{Sections}
use Rattle.run_entry.specs.Gives.{HasTemplate}
use Rattle.run_entry.specs.Inputs.{input_for}
use Rattle.run_entry.specs.Entries.{Request, kept_span}
use Rattle.checkpointed_run.specs.Sound.{IsSound}

-- what is asked, as an entry keeps it
abbrev pub asked_by_request : Request → Asked
asked_by_request request = record { words = request.spec.words; query = request.text; template = request.template; moment = request.moment }

-- the words and the query's text ask for this, rows go to files of this name, and the output is by this template
pub record IsRead (words : List (List ℕ)) (request : Request) (template : Sections) (into : Placed) : Type 0 where
  pub fine : AreFine words
  pub asked : IsAsked words request.spec
  pub checkpoint : IsSome request.spec.checkpoint
  pub query : IsQuery request.text request.q
  pub only : IsOnlyQuery request.text request.q
  pub sections : HasTemplate request.spec request.q request.template template
  pub into_is : into_in request.q ≡ Some into
  pub no_stdout : is_stdout into.text ≡ false

-- the spans of a run: each is sound, and what was taken of it goes on from the entries before
pub record GoOn (request : Request) (written : Written) (folder : Folder) (entries : List Entry) (spans : List Span) : Type 0 where
  pub sound : AllByRecursion (IsSound (lines_in (log_format request.spec request.q)) written folder) spans
  pub go_on : AllByRecursion (GoesOn (lines_in (log_format request.spec request.q)) written entries) (map (λ (span : Span). kept_span (took_of (lines_in (log_format request.spec request.q)) true folder span)) spans)
  pub apart : AreApart (map (λ (span : Span). kept_span (took_of (lines_in (log_format request.spec request.q)) true folder span)) spans)
  pub same_input : AllByRecursion (λ (other : Entry). other.input ≡ input_text (input_for request.spec request.q)) entries
