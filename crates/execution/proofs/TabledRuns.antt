-- What the run of a plan says of its query, where the format has a table.
use Rattle.std.proofs.Common.{◌≡◌, ◌⊎◌, ◌+◌, Bool, List, [], ℕ, ℤ, length, Option, Some, None, Ok, inl, inr, subst, sym, ap, ◌∙◌, arith}
use Rattle.grammar.specs.Filled.{given_bad}
use Rattle.grammar.specs.Trees as model
use Rattle.lp_model.specs.Outside.{Folder, Told}
use Rattle.command_words.specs.declared.spec.Spec.{Spec}
use Rattle.log_reading.specs.declared.span.Span.{Span}
use Rattle.log_reading.specs.Page.{IsTooMany}
use Rattle.log_reading.specs.Spans.{AreKept, BadLine, spans_found, spans_bad, spans_bad_lines}
use Rattle.log_reading.specs.UpTo.{bad_up_to, found_up_to}
use Rattle.lp_values.specs.declared.value.Value.{Value}
use Rattle.query_run.specs.declared.executing.Counts.{Counts}
use Rattle.input_tables.specs.declared.format.TableFormat.{TableFormat}
use Rattle.input_tables.specs.Tables.{lines_of, table_of}
use Rattle.row_output.specs.Asked.{Asked, left_of}
use Rattle.row_output.specs.Rows.{IsRefused}
use Rattle.row_output.specs.declared.fault.Refused.{Refused}
use Rattle.text_output.specs.Output.{StageKind}
use Rattle.execution.specs.declared.formats.LogFormat.TheVariants as F
use Rattle.execution.specs.Budgets.{IsBudget}
use Rattle.execution.specs.declared.errors.BadBudget.{BadBudget}
use Rattle.execution.specs.Carried.{BadByPlan, UnplacedByPlan}
use Rattle.execution.specs.Executed.{Writes, HoldsFront, IsExecuted, IsNamedFirst, IsParseError, UnplacesAll}
use Rattle.execution.specs.InTurn.{BadInTurn, IsEarly, UnplacedInTurn}
use Rattle.execution.specs.Passing.{GoesByPlan, ReadsByPlan}
use Rattle.execution.specs.Plans.{PlannedQuery, query_plan, table_rows}
use Rattle.execution.proofs.AtOnce.{ok_same}
use Rattle.execution.proofs.Budgeting.{AreAll, all_of, told_beside}
use Rattle.execution.proofs.InTurns.{most_all}

abbrev Kept : TableFormat → Bool → List Span → Folder → Type 0
Kept format waits spans folder = AreKept (lines_of format) waits spans folder

abbrev rows_with : TableFormat → Bool → PlannedQuery → Folder → List Span → List (List Value)
rows_with format waits plan folder spans = table_rows format plan (spans_found (lines_of format) waits folder spans)

written_all : (told : Option Folder) (Has : Asked → List (List Value) → Type 0) (asked : PlannedQuery → Asked) (spec : Spec) (q : model.Query) (format : TableFormat) (waits : Bool) (plan : PlannedQuery) (spans : List Span) (run counts : Counts) (given : Asked)
    → given ≡ asked plan → AreAll q run counts
    → Told told (λ folder. Kept format waits spans folder → Has given (rows_with format waits plan folder spans))
    → Told told (λ folder. Kept format waits spans folder → run.processed ≡ length (spans_found (lines_of format) waits folder spans))
    → Told told (λ folder. Kept format waits spans folder → run.output ≡ length (left_of given (rows_with format waits plan folder spans)))
    → Told told (λ folder. Kept format waits spans folder → run.bad ≡ length (spans_bad (lines_of format) waits folder spans))
    → Told told (λ folder. Kept format waits spans folder → Writes Has asked spec q (F.Tabled format) waits plan spans counts folder)
written_all None Has asked spec q format waits plan spans run counts given is all holds processed put bad = tt
written_all (Some folder) Has asked spec q format waits plan spans run counts given is all holds processed put bad = λ kept. record {
  has = subst (λ (a : Asked). Has a (rows_with format waits plan folder spans)) is (holds kept);
  processed = all.processed ∙ processed kept;
  output = all.output ∙ put kept ∙ ap (λ (a : Asked). length (left_of a (rows_with format waits plan folder spans))) is;
  bad = all.bad ∙ ap (λ (n : ℕ). given_bad q + n) (bad kept);
}

pub executed : (told : Option Folder) (Has : Asked → List (List Value) → Type 0) (asked : PlannedQuery → Asked) (spec : Spec) (moment : ℤ) (q : model.Query) (format : TableFormat) (waits : Bool) (plan : PlannedQuery) (slice spans : List Span) (run counts : Counts) (given : Asked)
    → slice ≡ spans → query_plan (table_of format) moment q ≡ Ok plan → given ≡ asked plan → AreAll q run counts
    → Told told (λ folder. Kept format waits slice folder → Has given (rows_with format waits plan folder slice))
    → Told told (λ folder. Kept format waits slice folder → run.processed ≡ length (spans_found (lines_of format) waits folder slice))
    → Told told (λ folder. Kept format waits slice folder → run.output ≡ length (left_of given (rows_with format waits plan folder slice)))
    → Told told (λ folder. Kept format waits slice folder → run.bad ≡ length (spans_bad (lines_of format) waits folder slice))
    → IsExecuted (F.Tabled format) waits told Has asked spec moment q spans counts
executed told Has asked spec moment q format waits plan slice spans run counts given listed planned is all holds processed put bad =
    let Of : List Span → Type 0 = λ s. Told told (λ folder. Kept format waits s folder → Writes Has asked spec q (F.Tabled format) waits plan s counts folder) in
    record {
      plan = plan;
      is_planned = planned;
      written = subst Of listed (written_all told Has asked spec q format waits plan slice run counts given is all holds processed put bad);
    }

pub front : (told : Option Folder) (Front : Asked → List (List Value) → Type 0) (asked : PlannedQuery → Asked) (spec : Spec) (moment : ℤ) (q : model.Query) (format : TableFormat) (waits : Bool) (plan : PlannedQuery) (slice spans : List Span) (given : Asked)
    → slice ≡ spans → query_plan (table_of format) moment q ≡ Ok plan → given ≡ asked plan
    → Told told (λ folder. Kept format waits slice folder → Front given (rows_with format waits plan folder slice))
    → HoldsFront (F.Tabled format) waits told Front asked spec moment q spans (table_of format)
front told Front asked spec moment q format waits plan slice spans given listed planned is holds =
    let Of : List Span → Asked → Type 0 = λ s a. Told told (λ folder. Kept format waits s folder → Front a (rows_with format waits plan folder s)) in
    record { plan = plan; is_planned = planned; front = subst (λ (a : Asked). Of spans a) is (subst (λ (s : List Span). Of s given) listed holds) }

unplaced_in : (asked : PlannedQuery → Asked) (spec : Spec) (q : model.Query) (format : TableFormat) (waits : Bool) (plan : PlannedQuery) (spans : List Span) (given : Asked) (budget : BadBudget) (why : Refused) (folder : Folder) → given ≡ asked plan → IsBudget spec.errors (given_bad q) budget
    → UnplacedByPlan format waits given plan (Some budget.most) spans why folder → UnplacedInTurn (F.Tabled format) waits asked spec q plan spans why folder
unplaced_in asked spec q format waits plan spans given budget why folder is budgeted u =
    let early : IsEarly plan (asked plan) why ⊎ (u.up.rest ≡ []) = elim u.early [
      | inl e ↦ inl (subst (λ (a : Asked). IsEarly plan a why) is e)
      | inr all ↦ inr all
    ] in
    record {
      up = u.up;
      sample = inl tt;
      within = all_of spec.errors (given_bad q) budget (bad_up_to (lines_of format) waits folder spans u.up) budgeted u.within;
      so = record { refused = subst (λ (a : Asked). IsRefused a (table_rows format plan (found_up_to (lines_of format) waits folder spans u.up)) why) is u.refused; early = early };
    }

in_turn_by : (told : Option Folder) (asked : PlannedQuery → Asked) (spec : Spec) (q : model.Query) (format : TableFormat) (waits : Bool) (plan : PlannedQuery) (spans : List Span) (given : Asked) (budget : BadBudget) (why : Refused) → given ≡ asked plan → IsBudget spec.errors (given_bad q) budget
    → Told told (λ folder. Kept format waits spans folder → UnplacedByPlan format waits given plan (Some budget.most) spans why folder)
    → Told told (λ folder. Kept format waits spans folder → UnplacedInTurn (F.Tabled format) waits asked spec q plan spans why folder)
in_turn_by None asked spec q format waits plan spans given budget why is budgeted turn = tt
in_turn_by (Some folder) asked spec q format waits plan spans given budget why is budgeted turn = λ kept. unplaced_in asked spec q format waits plan spans given budget why folder is budgeted (turn kept)

pub unplaced : (told : Option Folder) (asked : PlannedQuery → Asked) (spec : Spec) (moment : ℤ) (q : model.Query) (format : TableFormat) (waits : Bool) (plan : PlannedQuery) (slice spans : List Span) (given : Asked) (budget : BadBudget) (why : Refused)
    → slice ≡ spans → query_plan (table_of format) moment q ≡ Ok plan → given ≡ asked plan → IsBudget spec.errors (given_bad q) budget
    → Told told (λ folder. Kept format waits slice folder → IsRefused given (rows_with format waits plan folder slice) why)
    → Told told (λ folder. Kept format waits slice folder → UnplacedByPlan format waits given plan (Some budget.most) slice why folder)
    → UnplacesAll (F.Tabled format) waits told asked spec moment q spans why (table_of format)
unplaced told asked spec moment q format waits plan slice spans given budget why listed planned is budgeted refused turn =
    let Of : List Span → Asked → Type 0 = λ s a. Told told (λ folder. Kept format waits s folder → IsRefused a (rows_with format waits plan folder s) why) in
    record {
      plan = plan;
      is_planned = planned;
      refused = subst (λ (a : Asked). Of spans a) is (subst (λ (s : List Span). Of s given) listed refused);
      in_turn = subst (λ (s : List Span). Told told (λ folder. Kept format waits s folder → UnplacedInTurn (F.Tabled format) waits asked spec q plan s why folder)) listed (in_turn_by told asked spec q format waits plan slice given budget why is budgeted turn);
    }

-- where it is refused for a name without stars, of the plan of the query
pub named_first : (asked : PlannedQuery → Asked) (moment : ℤ) (q : model.Query) (format : TableFormat) (plan : PlannedQuery) (given : Asked) (why : Refused) (So : Type 0)
    → query_plan (table_of format) moment q ≡ Ok plan → given ≡ asked plan → (IsRefused given [] why → So) → IsNamedFirst (F.Tabled format) asked moment q So why
named_first asked moment q format plan given why So planned is so = λ other is_planned refused.
    let same : other ≡ plan = ok_same other plan (query_plan (table_of format) moment q) is_planned planned in
    so (subst (λ (a : Asked). IsRefused a [] why) (ap asked same ∙ sym is) refused)

bad_in : (asked : PlannedQuery → Asked) (spec : Spec) (moment : ℤ) (q : model.Query) (format : TableFormat) (waits : Bool) (plan : PlannedQuery) (spans : List Span) (given : Asked) (errors : ℕ) (budget : BadBudget) (line : BadLine) (Nothing : Type 0) (folder : Folder)
    → query_plan (table_of format) moment q ≡ Ok plan → given ≡ asked plan → spec.errors ≡ Some errors → IsBudget spec.errors (given_bad q) budget
    → BadByPlan format waits given plan (Some budget.most) spans line folder → BadInTurn (F.Tabled format) waits Nothing asked spec moment q spans line folder
bad_in asked spec moment q format waits plan spans given errors budget line Nothing folder planned is are budgeted b =
    let founds = found_up_to (lines_of format) waits folder spans b.up in
    let nothing : bad_up_to (lines_of format) waits folder spans b.up ≡ 0 + bad_up_to (lines_of format) waits folder spans b.up = omega arith in
    record {
      up = b.up;
      next = b.next;
      most = most_all spec.errors (given_bad q) errors (bad_up_to (lines_of format) waits folder spans b.up) budget are budgeted (b.most ∙ ap (λ (n : ℕ). Some n) nothing);
      within = λ none. absurd (none tt);
      behind = λ has. record {
        plan = plan;
        is_planned = planned;
        placed = λ why early refused. b.placed why (subst (λ (a : Asked). IsEarly plan a why) (sym is) early) (subst (λ (a : Asked). IsRefused a (table_rows format plan founds) why) (sym is) refused);
      };
    }

bad_in_turn : (told : Option Folder) (asked : PlannedQuery → Asked) (spec : Spec) (moment : ℤ) (q : model.Query) (format : TableFormat) (waits : Bool) (plan : PlannedQuery) (spans : List Span) (given : Asked) (errors : ℕ) (budget : BadBudget) (line : BadLine) (Nothing : Type 0)
    → query_plan (table_of format) moment q ≡ Ok plan → given ≡ asked plan → spec.errors ≡ Some errors → IsBudget spec.errors (given_bad q) budget
    → Told told (λ folder. Kept format waits spans folder → BadByPlan format waits given plan (Some budget.most) spans line folder)
    → Told told (λ folder. Kept format waits spans folder → BadInTurn (F.Tabled format) waits Nothing asked spec moment q spans line folder)
bad_in_turn None asked spec moment q format waits plan spans given errors budget line Nothing planned is are budgeted turn = tt
bad_in_turn (Some folder) asked spec moment q format waits plan spans given errors budget line Nothing planned is are budgeted turn = λ kept. bad_in asked spec moment q format waits plan spans given errors budget line Nothing folder planned is are budgeted (turn kept)

pub parse_error : (told : Option Folder) (asked : PlannedQuery → Asked) (spec : Spec) (moment : ℤ) (q : model.Query) (format : TableFormat) (waits : Bool) (plan : PlannedQuery) (slice spans : List Span) (given : Asked) (errors : ℕ) (budget : BadBudget) (line : BadLine) (Nothing : Type 0)
    → slice ≡ spans → query_plan (table_of format) moment q ≡ Ok plan → given ≡ asked plan → spec.errors ≡ Some errors → IsBudget spec.errors (given_bad q) budget
    → ((why : Refused) → IsRefused given [] why → ⊥)
    → Told told (λ folder. Kept format waits slice folder → IsTooMany (Some budget.most) 0 (spans_bad_lines (lines_of format) waits folder slice) line)
    → Told told (λ folder. Kept format waits slice folder → BadByPlan format waits given plan (Some budget.most) slice line folder)
    → IsParseError (F.Tabled format) waits told Nothing asked spec moment q spans line
parse_error told asked spec moment q format waits plan slice spans given errors budget line Nothing listed planned is are budgeted named exceeds turn =
    let Of : List Span → Type 0 = λ s. Told told (λ folder. Kept format waits s folder → IsTooMany spec.errors (given_bad q) (spans_bad_lines (lines_of format) waits folder s) line) in
    record {
      typed = record { plan = plan; is_planned = planned; named = λ why refused. named why (subst (λ (a : Asked). IsRefused a [] why) (sym is) refused) };
      exceeds = subst Of listed (told_beside told spec.errors (given_bad q) errors budget (Kept format waits slice) (λ folder. spans_bad_lines (lines_of format) waits folder slice) line are budgeted exceeds);
      in_turn = subst (λ (s : List Span). Told told (λ folder. Kept format waits s folder → BadInTurn (F.Tabled format) waits Nothing asked spec moment q s line folder)) listed (bad_in_turn told asked spec moment q format waits plan slice given errors budget line Nothing planned is are budgeted turn);
    }

pub passed : {S : Type 0} (kind : StageKind S) (goes : S → S → Type 0) (told : Option Folder) (asked : PlannedQuery → Asked) (moment : ℤ) (q : model.Query) (format : TableFormat) (waits : Bool) (plan : PlannedQuery) (slice spans : List Span) (given : Asked) (given_before given_now : ℕ) (start now : S)
    → slice ≡ spans → query_plan (table_of format) moment q ≡ Ok plan → given ≡ asked plan
    → GoesByPlan kind goes format waits told slice given_before given_now start now given plan
    → ReadsByPlan kind goes format waits told asked moment q spans given_before given_now start now
passed kind goes told asked moment q format waits plan slice spans given given_before given_now start now listed planned is ahead =
    let Of : List Span → Asked → Type 0 = λ s a. GoesByPlan kind goes format waits told s given_before given_now start now a plan in
    record { plan = plan; is_planned = planned; ahead = subst (λ (a : Asked). Of spans a) is (subst (λ (s : List Span). Of s given) listed ahead) }
