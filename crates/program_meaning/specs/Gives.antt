-- What a query gives over the records of logs: its outputs, each with the text of its rows.
use Rattle.std.specs.Prelude.{◌≡◌, ℕ, true, false, List, [], ◌∷◌, length, map, flat_map, Option, Some, None, Ok}
use Rattle.grammar.specs.Trees.{Query}
use Rattle.ledger.specs.Written.{kept_of}
use Rattle.ledger_model.specs.Entries.{Kept}
use Rattle.lp_time.specs.declared.piece.Piece.{Piece}
use Rattle.lp_values.specs.declared.value.Value.{Value}
use Rattle.column_kinds.specs.declared.kept.FirstLog.{FirstLog}
use Rattle.column_kinds.specs.Judged.{table_of as table_with}
use Rattle.column_kinds.specs.Past.{Past, log_with, or_first, told_at}
use Rattle.command_words.specs.declared.formats.OutputFormat.TheVariants as O
use Rattle.command_words.specs.declared.spec.Spec.{Spec}
use Rattle.subqueries.specs.LogFormat.{LogFormat}
use Rattle.subqueries.specs.LogFormat.TheVariants as F
use Rattle.subqueries.specs.Formats.{log_format}
use Rattle.subqueries.specs.Outputs.{files_named}
use Rattle.subqueries.specs.Plans.{PlannedQuery, asked_for, query_plan, table_rows, told_rows}
use Rattle.subqueries.specs.Texts.{into_in, output_of, run_text}
use Rattle.input_tables.specs.Tables.{table_of}
use Rattle.log_reading.specs.Found.{Found, found_of}
use Rattle.multiplex.specs.Splitting.{OutputRows, split}
use Rattle.query_types.specs.declared.table.TableColumns.{TableColumns}
use Rattle.row_output.specs.Asked.{Asked as AskedRows, Files, OutputText, left_of, asked_text}
use Rattle.run_model.specs.Meanings.{Asked, Part, Split, Given}
use Rattle.tpl_output.specs.Sections.{Sections, fault_of, sections_of}
use Rattle.subqueries.specs.Giving.{subqueries_of}
use Rattle.program_meaning.specs.Asked.{Asks}
use Rattle.program_meaning.specs.Lists.{with_lists}

-- the records of parts, joined, and the first log that has columns

abbrev pub part_found : Part → List Found
part_found part = found_of part.identity part.records

abbrev pub first_in : List Part → Option FirstLog
first_in [] = None
first_in (part ∷ parts) = or_first (log_with part.identity part.columns) (first_in parts)

abbrev pub past_in : List Part → Past
past_in parts = record { first = first_in parts; founds = flat_map part_found parts }

-- the table of a format over them, and the output rows of a plan

abbrev pub table_over : LogFormat → List Piece → Past → TableColumns
table_over (F.Tabled format) pattern past = table_of format
table_over (F.Sampled options limit) pattern past = table_with (told_at limit pattern past)

abbrev pub rows_over : LogFormat → List Piece → PlannedQuery → Past → List (List Value)
rows_over (F.Tabled format) pattern plan past = table_rows format plan past.founds
rows_over (F.Sampled options limit) pattern plan past = told_rows pattern (told_at limit pattern past) plan past.founds

-- an output with its text, in a file that has nothing and in one that has something
abbrev pub split_of : OutputText → OutputRows → Split
split_of text output = record { name = output.name; fresh = text true output.rows; added = text false output.rows }

abbrev pub splits_of : Files → OutputText → List (List Value) → List Split
splits_of files text rows = map (split_of text) (split files.pattern rows)

-- what is left of rows is put out
pub record PutsOut (files : Files) (asked : AskedRows) (rows : List (List Value)) (given : Given) : Type 0 where
  pub splits : given.splits ≡ splits_of files (asked_text asked) (left_of asked rows)
  pub rows_are : given.rows ≡ length (left_of asked rows)

-- the sections of the template's bytes, where the output is by one; else it has none
abbrev pub HasTemplate : Spec → Query → List ℕ → Sections → Type 0
HasTemplate spec q bytes template = output_of spec q ≡ O.Tpl → (fault_of bytes ≡ None) × (template ≡ sections_of bytes)

-- these are the lists of values that were kept, one for each subquery of the query
pub record AreLists (q : Query) (lists : List (List Kept)) (values : List (List Value)) : Type 0 where
  pub kept : lists ≡ map (map kept_of) values
  pub each : length values ≡ length (subqueries_of q)

-- What is asked gives these outputs over these records, with these lists of its subqueries: the rows of the plan that the query with the
-- lists has over the table that the records tell.
pub record GivesOver (asked : Asked) (past : Past) (lists : List (List Kept)) (given : Given) : Type 0 where
  pub spec : Spec
  pub q : Query
  pub asks : Asks asked spec q
  pub values : List (List Value)
  pub are_lists : AreLists q lists values
  pub template : Sections
  pub is_template : HasTemplate spec q asked.template template
  pub plan : PlannedQuery
  pub is_planned : query_plan (table_over (log_format spec q) spec.ts_format past) asked.moment (with_lists values q) ≡ Ok plan
  pub files : Files
  pub are_files : files_named spec [] (into_in q) ≡ Some files
  pub puts : PutsOut files (asked_for (Some files) (run_text spec template asked.moment q) q plan) (rows_over (log_format spec q) spec.ts_format plan past) given

-- over the records of each log in order
abbrev pub Gives : Asked → List Part → List (List Kept) → Given → Type 0
Gives asked parts lists given = GivesOver asked (past_in parts) lists given
