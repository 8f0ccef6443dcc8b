-- What an entry has of a run.
use Rattle.std.specs.Prelude.{ℕ, ℤ, List, map}
use Rattle.grammar.specs.Trees.{Query}
use Rattle.ledger.specs.Written.{kept_of}
use Rattle.ledger_model.specs.Entries.{Entry, Output, Span}
use Rattle.ledger_model.specs.Inputs.{input_text}
use Rattle.ledger_model.specs.Standings.{standing_layout}
use Rattle.lp_values.specs.declared.value.Value.{Value}
use Rattle.command_words.specs.declared.spec.Spec.{Spec}
use Rattle.log_reading.specs.declared.span.Took.{Took}
use Rattle.text_output.specs.declared.target.Output.{Output as Written}
use Rattle.query_run.specs.declared.executing.Counts.{Counts}
use Rattle.program_meaning.specs.Inputs.{input_for}

-- what is kept of a log: from where to where it was read, and how it stands there
abbrev pub kept_span : Took → Span
kept_span took = record { identity = took.identity; from = took.from; to = took.to; standing = (standing_layout took.to).spell took.standing }

-- what is kept of an output: where its text begins in its file, how long it is, and where it ends in the stage
abbrev pub kept_output : Written → Output
kept_output output = record { name = output.name; base = output.base; size = output.mark.length; last = output.mark.last }

-- what a run was asked: its options, its query as it stands, the query's text, the template's bytes, and the moment
pub record Request : Type 0 where
  pub spec : Spec
  pub q : Query
  pub text : List ℕ
  pub template : List ℕ
  pub moment : ℤ

-- the entry of a run whose subqueries gave these lists, that took this of its logs, wrote these outputs and so many bytes of the stage
abbrev pub entry_for : Request → List (List Value) → List Took → List Written → ℕ → Counts → Entry
entry_for request lists took outputs staged counts = record {
  form = 1;
  moment = request.moment;
  input = input_text (input_for request.spec request.q);
  words = request.spec.words;
  query = request.text;
  template = request.template;
  spans = map kept_span took;
  lists = map (map kept_of) lists;
  staged = staged;
  outputs = map kept_output outputs;
  processed = counts.processed;
  output = counts.output;
  bad = counts.bad;
}
