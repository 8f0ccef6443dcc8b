-- What was carried out is what the meaning of what was asked gives.
use Rattle.std.proofs.Common.{◌≡◌, ◌+◌, true, List, length, Some, refl, sym, ◌∙◌, ap, subst}
use Rattle.std.specs.Prelude.{Ok}
use Rattle.grammar.specs.Filled.{given_bad}
use Rattle.grammar.specs.Trees.{Query}
use Rattle.lp_model.specs.Outside.{Folder}
use Rattle.lp_values.specs.declared.value.Value.{Value}
use Rattle.column_kinds.specs.Spans.{past_of}
use Rattle.command_words.specs.declared.spec.Spec.{Spec}
use Rattle.run_entry.specs.LogFormat.{LogFormat}
use Rattle.run_entry.specs.LogFormat.TheVariants as F
use Rattle.run_entry.specs.Executed.{IsExecuted}
use Rattle.run_entry.specs.Formats.{lines_in, log_format}
use Rattle.run_entry.specs.Plans.{PlannedQuery, query_plan}
use Rattle.log_reading.specs.Spans.{AreKept, spans_found, spans_bad}
use Rattle.log_reading.specs.declared.span.Span.{Span}
use Rattle.query_run.specs.declared.executing.Counts.{Counts}
use Rattle.row_output.specs.Asked.{Asked, left_of}
use Rattle.run_entry.specs.Gives.{table_over, rows_over}

-- a plan was found, and its rows were put out
pub record IsMet (Has : Asked → List (List Value) → Type 0) (asked : PlannedQuery → Asked) (spec : Spec) (q : Query) (moment : Rattle.std.specs.Prelude.ℤ) (folder : Folder) (spans : List Span) (counts : Counts) : Type 0 where
  pub plan : PlannedQuery
  pub is_planned : query_plan (table_over (log_format spec q) spec.ts_format (past_of (lines_in (log_format spec q)) true folder spans)) moment q ≡ Ok plan
  pub has : Has (asked plan) (rows_over (log_format spec q) spec.ts_format plan (past_of (lines_in (log_format spec q)) true folder spans))
  pub processed : counts.processed ≡ length (spans_found (lines_in (log_format spec q)) true folder spans)
  pub output : counts.output ≡ length (left_of (asked plan) (rows_over (log_format spec q) spec.ts_format plan (past_of (lines_in (log_format spec q)) true folder spans)))
  pub bad : counts.bad ≡ given_bad q + length (spans_bad (lines_in (log_format spec q)) true folder spans)

met_in : (format : LogFormat) (Has : Asked → List (List Value) → Type 0) (asked : PlannedQuery → Asked) (spec : Spec) (q : Query) (moment : Rattle.std.specs.Prelude.ℤ) (folder : Folder) (spans : List Span) (counts : Counts) → log_format spec q ≡ format
    → AreKept (lines_in format) true spans folder → IsExecuted format true (Some folder) Has asked spec moment q spans counts → IsMet Has asked spec q moment folder spans counts
met_in (F.Tabled format) Has asked spec q moment folder spans counts same kept executed =
    let w = executed.written kept in
    let past = λ (f : LogFormat). past_of (lines_in f) true folder spans in
    record {
      plan = executed.plan;
      is_planned = ap (λ (f : LogFormat). query_plan (table_over f spec.ts_format (past f)) moment q) same ∙ executed.is_planned;
      has = subst (λ (f : LogFormat). Has (asked executed.plan) (rows_over f spec.ts_format executed.plan (past f))) (sym same) w.has;
      processed = w.processed ∙ ap (λ (f : LogFormat). length (spans_found (lines_in f) true folder spans)) (sym same);
      output = w.output ∙ ap (λ (f : LogFormat). length (left_of (asked executed.plan) (rows_over f spec.ts_format executed.plan (past f)))) (sym same);
      bad = w.bad ∙ ap (λ (f : LogFormat). given_bad q + length (spans_bad (lines_in f) true folder spans)) (sym same);
    }
met_in (F.Sampled options limit) Has asked spec q moment folder spans counts same kept executed =
    let all = executed kept in
    let w = all.written kept in
    let past = λ (f : LogFormat). past_of (lines_in f) true folder spans in
    record {
      plan = all.plan;
      is_planned = ap (λ (f : LogFormat). query_plan (table_over f spec.ts_format (past f)) moment q) same ∙ all.is_planned;
      has = subst (λ (f : LogFormat). Has (asked all.plan) (rows_over f spec.ts_format all.plan (past f))) (sym same) w.has;
      processed = w.processed ∙ ap (λ (f : LogFormat). length (spans_found (lines_in f) true folder spans)) (sym same);
      output = w.output ∙ ap (λ (f : LogFormat). length (left_of (asked all.plan) (rows_over f spec.ts_format all.plan (past f)))) (sym same);
      bad = w.bad ∙ ap (λ (f : LogFormat). given_bad q + length (spans_bad (lines_in f) true folder spans)) (sym same);
    }

-- what was executed, in the words of the meaning
pub met : (Has : Asked → List (List Value) → Type 0) (asked : PlannedQuery → Asked) (spec : Spec) (q : Query) (moment : Rattle.std.specs.Prelude.ℤ) (folder : Folder) (spans : List Span) (counts : Counts)
    → AreKept (lines_in (log_format spec q)) true spans folder → IsExecuted (log_format spec q) true (Some folder) Has asked spec moment q spans counts → IsMet Has asked spec q moment folder spans counts
met Has asked spec q moment folder spans counts kept executed = met_in (log_format spec q) Has asked spec q moment folder spans counts refl kept executed
