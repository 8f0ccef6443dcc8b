-- What a query has whatever its subqueries gave; and what it puts out with what they gave its meaning gives with their lists.
use Rattle.std.proofs.Common.{◌≡◌, ℕ, List, [], Option, Some, refl}
use Rattle.std.specs.Prelude.{Ok}
use Rattle.grammar.specs.Filled.{PlacedGiven, filled}
use Rattle.grammar.specs.Trees.{Placed, Query, query}
use Rattle.ledger_model.specs.Entries.{Kept}
use Rattle.ledger_model.specs.Inputs.{Input}
use Rattle.lp_values.specs.declared.value.Value.{Value}
use Rattle.column_kinds.specs.Past.{Past}
use Rattle.command_words.specs.declared.spec.Spec.{Spec}
use Rattle.subqueries.specs.Formats.{log_format}
use Rattle.subqueries.specs.Outputs.{files_named}
use Rattle.subqueries.specs.Plans.{PlannedQuery, asked_for, query_plan}
use Rattle.subqueries.specs.Texts.{into_in, output_of, run_text}
use Rattle.query_text.specs.Stdin.{names_in}
use Rattle.row_output.specs.Asked.{Files}
use Rattle.run_model.specs.Meanings.{Asked, Given}
use Rattle.tpl_output.specs.Sections.{Sections}
use Rattle.program_meaning.specs.Asked.{Asks}
use Rattle.program_meaning.specs.Gives.{AreLists, GivesOver, HasTemplate, PutsOut, rows_over, table_over}
use Rattle.program_meaning.specs.Inputs.{input_for}
use Rattle.program_meaning.specs.Lists.{with_lists}

pub format_filled : (spec : Spec) (givens : List PlacedGiven) (q : Query) → log_format spec (filled givens q) ≡ log_format spec q
format_filled spec givens (query parts subqueries) = refl

pub input_filled : (spec : Spec) (givens : List PlacedGiven) (q : Query) → input_for spec (filled givens q) ≡ input_for spec q
input_filled spec givens (query parts subqueries) = refl

pub into_filled : (givens : List PlacedGiven) (q : Query) → into_in (filled givens q) ≡ into_in q
into_filled givens (query parts subqueries) = refl

pub names_filled : (givens : List PlacedGiven) (q : Query) → names_in (filled givens q) ≡ names_in q
names_filled givens (query parts subqueries) = refl

pub output_filled : (spec : Spec) (givens : List PlacedGiven) (q : Query) → output_of spec (filled givens q) ≡ output_of spec q
output_filled spec givens (query parts subqueries) = refl

-- what was put out, in the words of the query with what its subqueries gave
pub record PutsFilled (asked : Asked) (past : Past) (spec : Spec) (q filled_q : Query) (values : List (List Value)) (given : Given) : Type 0 where
  pub template : Sections
  pub is_template : HasTemplate spec filled_q asked.template template
  pub plan : PlannedQuery
  pub is_planned : query_plan (table_over (log_format spec filled_q) spec.ts_format past) asked.moment (with_lists values q) ≡ Ok plan
  pub files : Files
  pub are_files : files_named spec [] (into_in filled_q) ≡ Some files
  pub puts : PutsOut files (asked_for (Some files) (run_text spec template asked.moment filled_q) filled_q plan) (rows_over (log_format spec filled_q) spec.ts_format plan past) given

pub gives_filled : (asked : Asked) (past : Past) (spec : Spec) (q : Query) (givens : List PlacedGiven) (lists : List (List Kept)) (values : List (List Value)) (given : Given)
    → Asks asked spec q → AreLists q lists values → PutsFilled asked past spec q (filled givens q) values given → GivesOver asked past lists given
gives_filled asked past spec (query parts subqueries) givens lists values given asks are puts = record {
  spec = spec;
  q = query parts subqueries;
  asks = asks;
  values = values;
  are_lists = are;
  template = puts.template;
  is_template = puts.is_template;
  plan = puts.plan;
  is_planned = puts.is_planned;
  files = puts.files;
  are_files = puts.are_files;
  puts = puts.puts;
}
