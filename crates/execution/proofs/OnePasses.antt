-- One pass, from what is written of spans to what the stage has taken.
use Rattle.std.proofs.Common.{◌≡◌, ◌⊎◌, ◌+◌, ◌<◌, ◌≤◌, ℕ, ℤ, Bool, true, List, [], ◌∷◌, ◌++◌, length, Option, Some, None, Ok, inl, inr, refl, sym, ap, ◌∙◌, subst, arith}
use Rattle.std.specs.Prelude.{IsSomeAnd, option_map}
use Rattle.grammar.specs.Trees as model
use Rattle.grammar.specs.Trees.{Query as query}
use Rattle.lp_model.specs.Outside.{Folder, Told}
use Rattle.command_words.specs.declared.spec.Spec.{Spec}
use Rattle.input_tables.specs.declared.format.TableFormat.{TableFormat}
use Rattle.input_tables.specs.Tables.{lines_of, table_of}
use Rattle.log_reading.specs.Found.{rows_met}
use Rattle.log_reading.specs.Spans.{AreKept, rows_up_to, spans_met}
use Rattle.log_reading.specs.declared.span.Span.{Span}
use Rattle.lp_outside.specs.Stages.{KeepsTaken}
use Rattle.order_top.specs.Finish.{Row}
use Rattle.query_run.specs.Ahead.{IsPassed}
use Rattle.query_run.proofs.OnePass.{in_one_pass}
use Rattle.query_run.proofs.WholeRun.{told_map}
use Rattle.query_types.specs.Planned.{Planned, plan_of}
use Rattle.query_types.specs.declared.table.TableColumns.{TableColumns}
use Rattle.row_output.specs.Asked.{Asked, asked_text}
use Rattle.row_output.specs.Orders.{IsPlain}
use Rattle.text_output.specs.Output.{StageKind}
use Rattle.tpl_output.specs.Sections.{Sections}
use Rattle.execution.specs.declared.formats.LogFormat.{LogFormat}
use Rattle.execution.specs.declared.formats.LogFormat.TheVariants as F
use Rattle.execution.specs.Formats.{log_format}
use Rattle.execution.specs.OnePass.{GoesInPass, IsAheadOf, SpansPassed, TakesRows, standard_text}
use Rattle.execution.specs.Outputs.{asked_in}
use Rattle.execution.specs.Passing.{GoesByPlan, ReadsByPlan, ReadsInPass, table_picks}
use Rattle.execution.specs.Plans.{PlannedQuery, of_rows, query_plan, table_rows}
use Rattle.execution.specs.Texts.{no_sections}
use Rattle.execution.proofs.AtOnce.{at_once, leaves_all, no_files, planned_over_rows, same_asked}

-- what a stage has taken of a text, it has taken still
has_taken : (before mid now : Option ℕ) (done : List ℕ) (size : ℕ) → mid ≡ option_map (λ count. count + length done) before → Told mid (λ was. IsSomeAnd now (λ is. was ≤ is)) → size < length done + 4_096
    → Told before (λ was. IsSomeAnd now (λ is. size + was < is + 4_096))
has_taken None mid now done size counted stay short = tt
has_taken (Some was) mid now done size counted stay short = still now (subst (λ (m : Option ℕ). Told m (λ at. IsSomeAnd now (λ is. at ≤ is))) counted stay)
  where
    still : (now : Option ℕ) → IsSomeAnd now (λ is. was + length done ≤ is) → IsSomeAnd now (λ is. size + was < is + 4_096)
    still None none = none
    still (Some is) le = omega arith

-- what is asked of rows that are taken as they come leaves them all
plain_of : (spec : Spec) (template : Sections) (moment : ℤ) (table : TableColumns) (q : model.Query) (spans : List Span) (plan : Planned) → TakesRows q → plan_of table moment q ≡ Ok plan → IsPlain (asked_in spec template moment q spans (of_rows plan)).order
plain_of spec template moment table (query.query parts subqueries) spans plan rows is = leaves_all table moment parts subqueries plan rows.distinct rows.order rows.top is

module _ {S : Type 0} (kind : StageKind S) (goes : S → S → Type 0) (keeps : (before now : S) → goes before now → KeepsTaken (kind.state before) (kind.state now))
    (spec : Spec) (template : Sections) (moment : ℤ) (q : model.Query) (format : TableFormat) (waits : Bool) (told : Option Folder) (spans : List Span) (before now : ℕ) (start end : S) (passes : GoesInPass spec q format) where
  abbrev asked : PlannedQuery → Asked
  asked = asked_in spec template moment q spans

  abbrev made : Planned → Folder → List Span → Span → ℕ → List Row
  made plan folder front span place = table_rows format (of_rows plan) (rows_met (spans_met (lines_of format) waits folder front ++ rows_up_to (lines_of format) folder span place))

  -- the text by a template is that by none
  as_standard : (plan : Planned) (rows : List Row) → asked_text (asked (of_rows plan)) true rows ≡ standard_text spec moment q plan rows
  as_standard plan rows = ap (λ (a : PlannedQuery → Asked). asked_text (a (of_rows plan)) true rows) (same_asked spec template no_sections moment q spans [] passes.standard passes.output)

  ahead_of : (plan : Planned) → query_plan (table_of format) moment q ≡ Ok (of_rows plan) → IsPassed kind goes (asked_text (asked (of_rows plan))) (table_picks format plan) (lines_of format) waits told spans before now start end
      → IsAheadOf spec moment q format waits told spans (kind.state start).taken (kind.state end).taken before now
  ahead_of plan is_planned a = record {
    plan = plan;
    is_planned = is_planned;
    front = a.front;
    span = a.span;
    rest = a.rest;
    stands = a.stands;
    place = a.place;
    cut = a.cut;
    written = told_map told _ (λ folder. AreKept (lines_of format) waits spans folder → Told (kind.state start).taken (λ was. IsSomeAnd (kind.state end).taken (λ is. length (standard_text spec moment q plan (made plan folder a.front a.span a.place)) + was < is + 4_096)))
        (λ folder gained kept.
        let g = gained kept in
        let short : length (standard_text spec moment q plan (made plan folder a.front a.span a.place)) < length g.0 + 4_096 = subst (λ (text : List ℕ). length text < length g.0 + 4_096) (as_standard plan (made plan folder a.front a.span a.place)) g.3 in
        has_taken (kind.state start).taken (kind.state a.reached).taken (kind.state end).taken g.0 (length (standard_text spec moment q plan (made plan folder a.front a.span a.place))) (g.2.gained (omega arith)).counted (keeps a.reached end a.later) short) a.gained;
    read = a.given;
    below = a.below;
  }

  abbrev Passed : Type 0
  Passed = SpansPassed spec moment q format waits told spans (kind.state start).taken (kind.state end).taken before now

  by_plan : ReadsByPlan kind goes format waits told asked moment q spans before now start end → Passed
  by_plan by =
      let own = planned_over_rows (table_of format) moment q by.plan passes.rows.rows by.is_planned in
      let plan = own.0 in
      let is_planned : query_plan (table_of format) moment q ≡ Ok (of_rows plan) = by.is_planned ∙ ap Ok own.2 in
      let ahead = subst (λ (p : PlannedQuery). GoesByPlan kind goes format waits told spans before now start end (asked p) p) own.2 by.ahead in
      elim (in_one_pass kind goes (asked (of_rows plan)) (table_picks format plan) (lines_of format) waits told spans before now start end
      (no_files spec q spans passes.standard, plain_of spec template moment (table_of format) q spans plan passes.rows own.1, at_once spec q template moment passes.output) ahead) [
        | inl same ↦ inl same
        | inr a ↦ inr (ahead_of plan is_planned a)
      ]

  by_format : ReadsInPass kind goes (F.Tabled format) waits told asked moment q spans before now start end → Passed
  by_format (inl same) = inl same
  by_format (inr by) = by_plan by

  -- how far the rows of a query are written
  pub passed_spans : ReadsInPass kind goes (log_format spec q) waits told asked moment q spans before now start end → Passed
  passed_spans reads = by_format (subst (λ (f : LogFormat). ReadsInPass kind goes f waits told asked moment q spans before now start end) passes.input reads)
