-- An entry as plain lists.
use Rattle.std.specs.Prelude.{ℕ, map}
use Rattle.lp_values.specs.declared.part.Part.{Part}
use Rattle.lp_values.specs.declared.part.Part.TheVariants.{Date, Time, Both}
use Rattle.lp_values.specs.declared.value.Value.{Value}
use Rattle.lp_values.specs.declared.value.Value.TheVariants.{Null, Int, Real, Text, Stamp}
use Rattle.ledger_model.specs.Entries.{Kept, null, int, real, text, stamp, Span}
use Rattle.ledger_model.specs.Entries.{Entry as PlainEntry, Output as PlainOutput}
use Rattle.ledger.specs.declared.entry.EntrySpan.{EntrySpan}
use Rattle.ledger.specs.declared.entry.Output.{Output}
use Rattle.ledger.specs.declared.entry.Entry.{Entry}

abbrev pub part_code : Part → ℕ
part_code Date = 0
part_code Time = 1
part_code Both = 2

abbrev pub kept_of : Value → Kept
kept_of Null = null
kept_of (Int number) = int number
kept_of (Real number) = real number.millionths
kept_of (Text t) = text t
kept_of (Stamp s) = stamp (part_code s.part) s.seconds

abbrev pub span_of : EntrySpan → Span
span_of span = record { identity = span.identity; from = span.from; to = span.to; standing = span.standing }

abbrev pub output_of : Output → PlainOutput
output_of output = record { name = output.name; base = output.base; size = output.mark.length; last = output.mark.last }

abbrev pub entry_of : Entry → PlainEntry
entry_of entry = record {
  form = entry.form;
  moment = entry.moment;
  input = entry.input;
  words = entry.words;
  query = entry.query;
  template = entry.template;
  spans = map span_of entry.spans;
  lists = map (map kept_of) entry.lists;
  staged = entry.staged;
  outputs = map output_of entry.outputs;
  processed = entry.processed;
  output = entry.output;
  bad = entry.bad;
}
