-- First lines that are none or all, and how many bad lines are among them.
use Rattle.std.proofs.Common.{◌≡◌, ◌+◌, ◌≤◌, ◌⊎◌, ℕ, ℤ, Bool, List, [], ◌∷◌, ◌++◌, length, Option, Some, None, inl, inr, ap, sym, ◌∙◌, subst, refl, arith, unwrap_or}
use Rattle.std.proofs.lemmas.List.{append-nil}
use Rattle.std.specs.Prelude.{Result, Ok, Err, ⊤}
use Rattle.grammar.specs.Filled.{given_bad}
use Rattle.grammar.specs.Trees as model
use Rattle.lp_model.specs.Outside.{Folder, Told}
use Rattle.lp_model.specs.Reading.{Format}
use Rattle.command_words.specs.declared.spec.Spec.{Spec}
use Rattle.log_reading.specs.Found.{Found}
use Rattle.log_reading.specs.Page.{IsWithin}
use Rattle.log_reading.specs.Spans.{AreKept, BadLine, spans_found}
use Rattle.log_reading.specs.UpTo.{UpTo, bad_up_to, found_up_to, next_found}
use Rattle.log_reading.specs.declared.span.Span.{Span}
use Rattle.log_reading.proofs.Ups.{bad_up_none, up_none}
use Rattle.input_tables.specs.declared.format.TableFormat.{TableFormat}
use Rattle.input_tables.specs.Tables.{lines_of}
use Rattle.execution.specs.Budgets.{IsBudget}
use Rattle.execution.specs.declared.errors.BadBudget.{BadBudget}
use Rattle.row_output.specs.Asked.{Asked}
use Rattle.execution.specs.declared.formats.LogFormat.{LogFormat}
use Rattle.execution.specs.declared.formats.LogFormat.TheVariants as F
use Rattle.execution.specs.declared.fault.RunFault.{RunFault}
use Rattle.execution.specs.declared.fault.RunFault.TheVariants as R
use Rattle.execution.specs.Executed.{IsParseError, IsTypedInTurn}
use Rattle.execution.specs.Faults.{IfPlan, IfRefused}
use Rattle.execution.specs.InTurn.{BehindSample}
use Rattle.execution.specs.Plans.{PlannedQuery}
use Rattle.execution.proofs.Budgeting.{all_of}

-- where no span is left, the rows up to there are those of all spans
pub found_all : (format : Format) (waits : Bool) (folder : Folder) (spans : List Span) (up : UpTo waits folder spans) → up.rest ≡ [] → found_up_to format waits folder spans up ≡ spans_found format waits folder spans
found_all format waits folder spans up none =
    let Of : List Span → Type 0 = λ rest. spans_found format waits folder up.front ++ next_found format waits folder rest up.lines ≡ spans_found format waits folder (up.front ++ rest) in
    subst Of (sym none) (append-nil (spans_found format waits folder up.front) ∙ ap (spans_found format waits folder) (sym (append-nil up.front)))
    ∙ ap (spans_found format waits folder) (sym up.stands)

-- with those of the subqueries no more bad lines are there than may be
pub within_all : (errors : Option ℕ) (before : ℕ) (budget : BadBudget) (bad : ℕ) → IsBudget errors before budget → IsWithin (Some budget.most) (0 + bad) → IsWithin errors (before + bad)
within_all errors before budget bad is within =
    let few : bad ≤ budget.most = omega (arith, within) in
    all_of errors before budget bad is few

-- as many bad lines as may be beside those are as many as may be
pub most_all : (errors : Option ℕ) (before most bad : ℕ) (budget : BadBudget) → errors ≡ Some most → IsBudget errors before budget → Some budget.most ≡ Some (0 + bad) → errors ≡ Some (before + bad)
most_all errors before most bad budget are is full =
    let sum : budget.before + budget.most ≡ most = rw are at is.sum in
    let here : budget.most ≡ 0 + bad = ap (λ (o : Option ℕ). unwrap_or o 0) full in
    let met = is.met in
    let total : most ≡ before + bad = omega (arith, sum, met, here) in
    are ∙ ap (λ (n : ℕ). Some n) total

-- before a log is read no bad line was one too many
pub typed_first : (told : Option Folder) (spec : Spec) (q : model.Query) (format : TableFormat) (waits : Bool) (spans : List Span) (budget : BadBudget) → IsBudget spec.errors (given_bad q) budget → IsTypedInTurn (F.Tabled format) waits told spec q spans
typed_first None spec q format waits spans budget is = tt
typed_first (Some folder) spec q format waits spans budget is = λ kept.
    let none : bad_up_to (lines_of format) waits folder spans (up_none waits folder spans) ≡ 0 = bad_up_none (lines_of format) waits folder spans in
    record {
      up = up_none waits folder spans;
      sample = inl tt;
      within = within_all spec.errors (given_bad q) budget (bad_up_to (lines_of format) waits folder spans (up_none waits folder spans)) is (omega (arith, none));
      so = tt;
    }

-- what is so whatever the fault of a plan
pub plan_each : {T : Type 0} (result : Result T RunFault) (So : Type 0) → So → IfPlan result (λ fault. So)
plan_each (Ok value) So so = tt
plan_each (Err (R.Plan fault)) So so = so
plan_each (Err (R.Refused why)) So so = tt
plan_each (Err R.LogsFault) So so = tt
plan_each (Err R.StageFault) So so = tt
plan_each (Err (R.ParseErrors log row)) So so = tt
plan_each (Err R.Memory) So so = tt

-- and what is so of any refusal
pub refused_each : {T : Type 0} (result : Result T RunFault) → IfRefused result (λ why. ⊤)
refused_each (Ok value) = tt
refused_each (Err (R.Plan fault)) = tt
refused_each (Err (R.Refused why)) = tt
refused_each (Err R.LogsFault) = tt
refused_each (Err R.StageFault) = tt
refused_each (Err (R.ParseErrors log row)) = tt
refused_each (Err R.Memory) = tt

-- a bad line that comes in its turn, where what was written is told in other words
pub exceeded_map : (format : LogFormat) (waits : Bool) (told : Option Folder) (Nothing Other : Type 0) (asked : PlannedQuery → Asked) (spec : Spec) (moment : ℤ) (q : model.Query) (spans : List Span) (line : BadLine) → (Nothing → Other)
    → IsParseError format waits told Nothing asked spec moment q spans line → IsParseError format waits told Other asked spec moment q spans line
exceeded_map format waits None Nothing Other asked spec moment q spans line so e = record { typed = e.typed; exceeds = tt; in_turn = tt }
exceeded_map format waits (Some folder) Nothing Other asked spec moment q spans line so e = record {
  typed = e.typed;
  exceeds = e.exceeds;
  in_turn = λ kept. let b = e.in_turn kept in record { up = b.up; next = b.next; most = b.most; within = λ none. so (b.within none); behind = b.behind };
}
