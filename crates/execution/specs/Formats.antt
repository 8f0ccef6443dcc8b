-- How the logs of a run are read.
use Rattle.std.specs.Prelude.{ℕ, Bool, true, false, List, [], ◌∷◌, unwrap_or}
use Rattle.grammar.specs.Trees.{Placed, Query}
use Rattle.lp_model.specs.Reading.{Format}
use Rattle.command_words.specs.declared.formats.InputFormat.{InputFormat}
use Rattle.command_words.specs.declared.formats.InputFormat.TheVariants as I
use Rattle.command_words.specs.declared.spec.Spec.{Spec}
use Rattle.command_words.specs.Formats.{input_by_name}
use Rattle.delimited_input.specs.declared.options.DelimitedOptions.{DelimitedOptions}
use Rattle.delimited_input.specs.Lines.{delimited_lines}
use Rattle.input_tables.specs.declared.format.TableFormat.TheVariants as T
use Rattle.input_tables.specs.Tables.{lines_of}
use Rattle.query_text.specs.Stdin.{is_stdin, names_in}
use Rattle.execution.specs.declared.formats.LogFormat.{LogFormat}
use Rattle.execution.specs.declared.formats.LogFormat.TheVariants as F

-- STDIN has text lines
abbrev pub by_first : Bool → List ℕ → InputFormat
by_first true name = I.TextLine
by_first false name = input_by_name name

-- the format by the first FROM name
abbrev pub input_by_names : List Placed → InputFormat
input_by_names [] = I.TextLine
input_by_names (name ∷ names) = by_first (is_stdin name.text) name.text

-- the input format: that of the words, or else by the first FROM name
abbrev pub input_of : Spec → Query → InputFormat
input_of spec q = unwrap_or spec.input (input_by_names (names_in q))

-- commas part the fields of CSV, which may stand in quotes
abbrev pub csv_options : Spec → DelimitedOptions
csv_options spec = record { separator = 44; quotes = true; header_row = spec.header_row }

-- TSV has the separator of the words, and no quotes
abbrev pub tsv_options : Spec → DelimitedOptions
tsv_options spec = record { separator = spec.separator; quotes = false; header_row = spec.header_row }

-- how the logs of an input format are read; kinds are judged from so many records as the words say, or else from 10 of CSV and 100 of TSV
abbrev pub format_of : Spec → InputFormat → LogFormat
format_of spec I.IisW3c = F.Tabled T.IisW3c
format_of spec I.Ncsa = F.Tabled T.Ncsa
format_of spec I.Csv = F.Sampled (csv_options spec) (unwrap_or spec.dt_lines 10)
format_of spec I.Tsv = F.Sampled (tsv_options spec) (unwrap_or spec.dt_lines 100)
format_of spec I.TextLine = F.Tabled T.TextLine
format_of spec I.TextWord = F.Tabled T.TextWord

-- how the logs of a query are read
abbrev pub log_format : Spec → Query → LogFormat
log_format spec q = format_of spec (input_of spec q)

-- the lines of logs that are read so
abbrev pub lines_in : LogFormat → Format
lines_in (F.Tabled format) = lines_of format
lines_in (F.Sampled options limit) = delimited_lines options
