-- The text of a run, in the format that is asked for.
use Rattle.std.specs.Prelude.{ℤ, Bool, true, false, [], Option, Some, None, is_some, if◌then◌else◌, unwrap_or, ⊤}
use Rattle.grammar.specs.Trees.{Placed, Query}
use Rattle.grammar.specs.Trees.{Query as query}
use Rattle.row_output.specs.Asked.{RowsText}
use Rattle.command_words.specs.declared.formats.OutputFormat.{OutputFormat}
use Rattle.command_words.specs.declared.formats.OutputFormat.TheVariants as O
use Rattle.command_words.specs.declared.spec.Spec.{Spec}
use Rattle.command_words.specs.Formats.{output_by_name}
use Rattle.output_formats.specs.Headers.{csv_of}
use Rattle.text_formats.specs.Nat.{nat_of}
use Rattle.text_formats.specs.Tsv.{tsv_of}
use Rattle.text_formats.specs.W3c.{w3c_of}
use Rattle.tpl_output.specs.Sections.{Sections}
use Rattle.tpl_output.specs.Tpl.{tpl_of}

abbrev pub into_in : Query → Option Placed
into_in (query.query parts subqueries) = parts.into

-- the format by the INTO name; without one it is NAT
abbrev pub output_by_into : Option Placed → OutputFormat
output_by_into None = O.Nat
output_by_into (Some name) = output_by_name name.text

-- the output format: that of the words, or else TPL where they name a template, or else by the INTO name
abbrev pub output_of : Spec → Query → OutputFormat
output_of spec q = unwrap_or spec.output (if is_some spec.tpl then O.Tpl else output_by_into (into_in q))

-- whether the format's text is built; that by a template where the words name one, as they do wherever they aren't refused
abbrev pub has_text : Spec → OutputFormat → Bool
has_text spec O.Nat = true
has_text spec O.Csv = true
has_text spec O.Tsv = true
has_text spec O.W3c = true
has_text spec O.Tpl = is_some spec.tpl

-- a format in which the text of the rows so far is there after each row
abbrev pub IsAtOnce : OutputFormat → Type 0
IsAtOnce O.Nat = ⊥
IsAtOnce O.Csv = ⊤
IsAtOnce O.Tsv = ⊤
IsAtOnce O.W3c = ⊤
IsAtOnce O.Tpl = ⊥

-- the sections of no template
abbrev pub no_sections : Sections
no_sections = record { header = []; body = []; footer = [] }

-- the sections of a template, and none where there is no template
abbrev pub sections_in : {T : Type 0} → (T → Sections) → Option T → Sections
sections_in sections None = no_sections
sections_in sections (Some template) = sections template

-- the text in a format, as the words want it; only TPL has a template. No row of CSV, TSV and W3C waits for a later one or for the end
abbrev pub text_as : Spec → OutputFormat → Sections → ℤ → RowsText
text_as spec O.Nat template moment = record { of = nat_of spec.rtp spec.headers; at_once = false }
text_as spec O.Csv template moment = record { of = csv_of spec.headers; at_once = true }
text_as spec O.Tsv template moment = record { of = tsv_of (record { headers = spec.headers; separator = spec.out_separator }); at_once = true }
text_as spec O.W3c template moment = record { of = w3c_of moment; at_once = true }
text_as spec O.Tpl template moment = record { of = tpl_of template moment; at_once = false }

-- the text that a run of a query at a moment makes of rows, by a template where that is the format
abbrev pub run_text : Spec → Sections → ℤ → Query → RowsText
run_text spec template moment q = text_as spec (output_of spec q) template moment
