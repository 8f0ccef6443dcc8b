-- How many bytes the parts of an entry take.
use Rattle.std.specs.Prelude.{ℕ, ◌+◌, List, length, sum_by}
use Rattle.lp_values.specs.declared.value.Value.{Value}
use Rattle.lp_values.specs.declared.value.Value.TheVariants.{Null, Int, Real, Text, Stamp}
use Rattle.ledger.specs.declared.entry.EntrySpan.{EntrySpan}
use Rattle.ledger.specs.declared.entry.Output.{Output}

-- a length and that many bytes
abbrev pub text_length : List ℕ → ℕ
text_length text = 4 + length text

abbrev pub span_length : EntrySpan → ℕ
span_length span = text_length span.identity + 16 + text_length span.standing

abbrev pub value_length : Value → ℕ
value_length Null = 1
value_length (Int number) = 9
value_length (Real number) = 9
value_length (Text text) = 1 + text_length text
value_length (Stamp stamp) = 10

abbrev pub list_length : List Value → ℕ
list_length list = 8 + sum_by value_length list

abbrev pub output_length : Output → ℕ
output_length output = text_length output.name + 24
