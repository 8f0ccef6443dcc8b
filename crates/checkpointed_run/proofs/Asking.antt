-- What was asked, with what the subqueries of its query gave, is read from the words and the query's text that ask for it.
use Rattle.std.proofs.Common.{◌≡◌, ℕ, ℤ, false, List, Some, ◌∙◌, refl}
use Rattle.std.specs.Prelude.{IsSome}
use Rattle.grammar.specs.Filled.{PlacedGiven, filled}
use Rattle.grammar.specs.Trees.{Placed, Query, query}
use Rattle.ledger_model.specs.Entries.{Entry}
use Rattle.ledger_model.specs.Inputs.{input_text}
use Rattle.lp_model.specs.Outside.{Folder}
use Rattle.command_words.specs.declared.spec.Spec.{Spec}
use Rattle.command_words.specs.Table.{IsAsked}
use Rattle.command_words.specs.Usage.{AreFine}
use Rattle.run_entry.specs.Formats.{lines_in, log_format}
use Rattle.run_entry.specs.Outputs.{is_stdout}
use Rattle.run_entry.specs.Texts.{into_in}
use Rattle.log_reading.specs.declared.span.Span.{Span}
use Rattle.query_text.specs.Texts.{IsOnlyQuery, IsQuery}
use Rattle.run_model.specs.Logs.{Written}
use Rattle.tpl_output.specs.Sections.{Sections}
use Rattle.run_entry.specs.Gives.{HasTemplate}
use Rattle.run_entry.specs.Inputs.{format_in, input_for}
use Rattle.run_entry.proofs.Filled.{into_filled}
use Rattle.run_entry.specs.Entries.{Request}
use Rattle.checkpointed_run.specs.Filled.{filled_request}
use Rattle.checkpointed_run.specs.Grounds.{GoOn, IsRead}

-- the words and the query's text ask for this, whose query was told what its subqueries gave
pub record IsReadWith (words : List (List ℕ)) (request : Request) (q : Query) (givens : List PlacedGiven) (template : Sections) (into : Placed) : Type 0 where
  pub fine : AreFine words
  pub asked : IsAsked words request.spec
  pub checkpoint : IsSome request.spec.checkpoint
  pub query : IsQuery request.text q
  pub only : IsOnlyQuery request.text q
  pub whole_is : request.q ≡ filled givens q
  pub sections : HasTemplate request.spec request.q request.template template
  pub into_is : into_in request.q ≡ Some into
  pub no_stdout : is_stdout into.text ≡ false

sections_filled : (spec : Spec) (givens : List PlacedGiven) (q : Query) (bytes : List ℕ) (template : Sections) → HasTemplate spec q bytes template → HasTemplate spec (filled givens q) bytes template
sections_filled spec givens (query parts subqueries) bytes template has = has

pub read_filled : (words : List (List ℕ)) (request : Request) (givens : List PlacedGiven) (template : Sections) (into : Placed) → IsRead words request template into → IsReadWith words (filled_request givens request) request.q givens template into
read_filled words request givens template into read = record {
  fine = read.fine;
  asked = read.asked;
  checkpoint = read.checkpoint;
  query = read.query;
  only = read.only;
  whole_is = refl;
  sections = sections_filled request.spec givens request.q request.template template read.sections;
  into_is = into_filled givens request.q ∙ read.into_is;
  no_stdout = read.no_stdout;
}

-- its logs are read as those of the query as it stands

pub law_filled : (spec : Spec) (givens : List PlacedGiven) (q : Query) → format_in (input_text (input_for spec q)) ≡ lines_in (log_format spec q) → format_in (input_text (input_for spec (filled givens q))) ≡ lines_in (log_format spec (filled givens q))
law_filled spec givens (query parts subqueries) law = law

go_by : (spec : Spec) (q : Query) (text bytes : List ℕ) (moment : ℤ) (givens : List PlacedGiven) (written : Written) (folder : Folder) (entries : List Entry) (spans : List Span)
    → GoOn (record { spec = spec; q = q; text = text; template = bytes; moment = moment }) written folder entries spans → GoOn (record { spec = spec; q = filled givens q; text = text; template = bytes; moment = moment }) written folder entries spans
go_by spec (query parts subqueries) text bytes moment givens written folder entries spans go = record { sound = go.sound; go_on = go.go_on; apart = go.apart; same_input = go.same_input }

pub go_filled : (request : Request) (givens : List PlacedGiven) (written : Written) (folder : Folder) (entries : List Entry) (spans : List Span) → GoOn request written folder entries spans → GoOn (filled_request givens request) written folder entries spans
go_filled request givens written folder entries spans go = go_by request.spec request.q request.text request.template request.moment givens written folder entries spans go
