-- That a query goes over its logs in one pass: they are read no further than a little ahead of what its output has taken of their rows.
use Rattle.std.specs.Prelude.{◌≡◌, ◌⊎◌, ◌+◌, ◌<◌, ◌≤◌, ℕ, ℤ, Bool, true, false, List, [], ◌∷◌, ◌++◌, length, Option, None, Ok, IsSomeAnd}
use Rattle.grammar.specs.Trees as model
use Rattle.grammar.specs.Trees.{Query as query}
use Rattle.lp_model.specs.Outside.{Folder, Told}
use Rattle.command_words.specs.declared.spec.Spec.{Spec}
use Rattle.input_tables.specs.declared.format.TableFormat.{TableFormat}
use Rattle.input_tables.specs.Tables.{lines_of, table_of}
use Rattle.log_reading.specs.Found.{rows_met}
use Rattle.log_reading.specs.Spans.{AreKept, rows_up_to, spans_met, spans_size}
use Rattle.log_reading.specs.declared.span.Span.{Span}
use Rattle.order_top.specs.Finish.{Row}
use Rattle.query_types.specs.Built.{is_built}
use Rattle.query_types.specs.Planned.{Planned}
use Rattle.row_output.specs.Asked.{asked_text}
use Rattle.execution.specs.declared.formats.LogFormat.TheVariants as F
use Rattle.execution.specs.Formats.{log_format}
use Rattle.execution.specs.Outputs.{asked_in, is_standard}
use Rattle.execution.specs.Plans.{of_rows, query_plan, table_rows}
use Rattle.execution.specs.Texts.{IsAtOnce, into_in, no_sections, output_of}

-- Which queries go over their logs in one pass

abbrev pub parts_in : model.Query → model.Parts
parts_in (query.query parts subqueries) = parts

-- a query takes rows as they come: it has no groups, and neither DISTINCT nor ORDER BY nor TOP
pub record TakesRows (q : model.Query) : Type 0 where
  pub rows : is_built q ≡ true
  pub distinct : (parts_in q).distinct ≡ false
  pub order : (parts_in q).order ≡ []
  pub top : (parts_in q).top ≡ None

-- it reads logs of a format with a table, and its rows go to standard output as CSV, TSV or W3C
pub record GoesInPass (spec : Spec) (q : model.Query) (format : TableFormat) : Type 0 where
  pub rows : TakesRows q
  pub input : log_format spec q ≡ F.Tabled format
  pub output : IsAtOnce (output_of spec q)
  pub standard : is_standard (into_in q) ≡ true

-- the text of a query's rows on standard output, by no template
abbrev pub standard_text : Spec → ℤ → model.Query → Planned → List Row → List ℕ
standard_text spec moment q plan rows = asked_text (asked_in spec no_sections moment q [] (of_rows plan)) true rows

-- How far spans of logs were read ahead of what a stage has taken

-- no more than 64 KiB were read behind a place in one of them, and nothing behind its cut: the text of the rows of those in front and of
-- the lines that LF ends up to there is less than 4 KiB longer than what the stage has taken
pub record IsAheadOf (spec : Spec) (moment : ℤ) (q : model.Query) (format : TableFormat) (waits : Bool) (told : Option Folder) (spans : List Span) (before now : Option ℕ) (given_before given_now : ℕ) : Type 0 where
  pub plan : Planned
  pub is_planned : query_plan (table_of format) moment q ≡ Ok (of_rows plan)
  pub front : List Span
  pub span : Span
  pub rest : List Span
  pub stands : spans ≡ front ++ span ∷ rest
  pub place : ℕ
  pub cut : place ≤ span.listed
  pub written : Told told (λ folder. AreKept (lines_of format) waits spans folder
      → Told before (λ was. IsSomeAnd now (λ is. length (standard_text spec moment q plan (table_rows format (of_rows plan) (rows_met (spans_met (lines_of format) waits folder front ++ rows_up_to (lines_of format) folder span place)))) + was < is + 4_096)))
  pub read : given_now + span.from ≤ given_before + spans_size front + place + 65_536
  pub below : given_now + span.from ≤ given_before + spans_size front + span.listed

-- or nothing was read
abbrev pub SpansPassed : Spec → ℤ → model.Query → TableFormat → Bool → Option Folder → List Span → Option ℕ → Option ℕ → ℕ → ℕ → Type 0
SpansPassed spec moment q format waits told spans before now given_before given_now =
    (given_now ≡ given_before) ⊎ IsAheadOf spec moment q format waits told spans before now given_before given_now
