-- What a run over sampled columns says of its query.
use Rattle.std.proofs.Common.{◌≡◌, ◌⊎◌, ◌∙◌, ◌+◌, Bool, List, [], ℕ, ℤ, Option, Some, None, Ok, inl, inr, ap, subst}
use Rattle.grammar.specs.Filled.{given_bad}
use Rattle.grammar.specs.Trees as model
use Rattle.lp_model.specs.Outside.{Folder, Told}
use Rattle.command_words.specs.declared.spec.Spec.{Spec}
use Rattle.delimited_input.specs.declared.options.DelimitedOptions.{DelimitedOptions}
use Rattle.delimited_input.specs.Lines.{delimited_lines}
use Rattle.log_reading.specs.declared.span.Span.{Span}
use Rattle.log_reading.specs.Page.{IsTooMany}
use Rattle.log_reading.specs.Spans.{AreKept, bad_line, spans_bad_lines}
use Rattle.log_reading.specs.UpTo.{UpTo, bad_up_to, found_up_to}
use Rattle.text_output.specs.Output.{StageKind}
use Rattle.query_run.specs.declared.executing.Counts.{Counts}
use Rattle.query_run.specs.declared.executing.Written.{Written}
use Rattle.query_types.specs.declared.fault.TypeFault.{TypeFault}
use Rattle.row_output.specs.Asked.{Asked}
use Rattle.row_output.specs.Rows.{Holds, Stops}
use Rattle.row_output.specs.Rows.{IsRefused as IsRefusedRow}
use Rattle.row_output.specs.declared.fault.Refused.{Refused}
use Rattle.column_kinds.specs.Spans.{past_of}
use Rattle.sampled_run.specs.declared.fault.SampleFault.{SampleFault}
use Rattle.sampled_run.specs.declared.fault.SampleFault.TheVariants as sample
use Rattle.execution.specs.declared.formats.LogFormat.TheVariants as F
use Rattle.execution.specs.Budgets.{IsBudget}
use Rattle.execution.specs.declared.errors.BadBudget.{BadBudget}
use Rattle.execution.specs.Executed.{IsExecuted, IsStopped, IsParseError, IsTypedInTurn, IsUnplaced, IsUnplanned, IsUntouched}
use Rattle.execution.specs.InTurn.{BadInTurn, IsEarly, IsUnplacedAt, told_in}
use Rattle.execution.specs.Plans.{PlannedQuery, told_rows}
use Rattle.execution.proofs.AtOnce.{ok_same}
use Rattle.execution.proofs.Budgeting.{AreAll, told_beside}
use Rattle.execution.proofs.InTurns.{most_all, within_all}
use Rattle.execution.specs.Telling.{IsFront, IsUntypedRun, IsTold, Telling, TellsInTurn, plan_at, telling}
use Rattle.execution.specs.Telling.{IsUnplacedAt as IsRefusedAt}
use Rattle.execution.specs.Telling.{IsUnplaced as IsRefusedOutput}

abbrev Kept : DelimitedOptions → Bool → List Span → Folder → Type 0
Kept options waits spans folder = AreKept (delimited_lines options) waits spans folder

abbrev rules_with : ℕ → Spec → ℤ → model.Query → (PlannedQuery → Asked) → Telling
rules_with limit spec moment q asked = telling limit spec.ts_format moment q asked

module _ {S : Type 0} (kind : StageKind S) (told : Option Folder) (start now : S) (asked : PlannedQuery → Asked) (spec : Spec) (moment : ℤ) (q : model.Query) (options : DelimitedOptions) (limit : ℕ) (waits : Bool) where
  written_all : (told : Option Folder) (spans : List Span) (run : Written) (counts : Counts) → AreAll q run.counts counts
      → Told told (λ folder. Kept options waits spans folder → IsTold kind (rules_with limit spec moment q asked) start (past_of (delimited_lines options) waits folder spans) (delimited_lines options) waits folder spans run now)
      → IsExecuted (F.Sampled options limit) waits told (λ asked rows. Holds kind asked start rows run.outputs now) asked spec moment q spans counts
  written_all None spans run counts of_all ran = tt
  written_all (Some folder) spans run counts of_all ran = λ kept.
      let all = ran kept in
      record {
        plan = all.plan;
        is_planned = all.planned;
        written = λ again. record { has = all.holds; processed = of_all.processed ∙ all.processed; output = of_all.output ∙ all.rows; bad = of_all.bad ∙ ap (λ (n : ℕ). given_bad q + n) all.bad };
      }

  pub executed : (slice spans : List Span) (run : Written) (counts : Counts) → slice ≡ spans → AreAll q run.counts counts
      → Told told (λ folder. Kept options waits slice folder → IsTold kind (rules_with limit spec moment q asked) start (past_of (delimited_lines options) waits folder slice) (delimited_lines options) waits folder slice run now)
      → IsExecuted (F.Sampled options limit) waits told (λ asked rows. Holds kind asked start rows run.outputs now) asked spec moment q spans counts
  executed slice spans run counts listed of_all ran =
      subst (λ (s : List Span). IsExecuted (F.Sampled options limit) waits told (λ asked rows. Holds kind asked start rows run.outputs now) asked spec moment q s counts) listed (written_all told slice run counts of_all ran)

  -- ---- it stopped

  stopped_all : (told : Option Folder) (spans : List Span)
      → Told told (λ folder. Kept options waits spans folder → IsFront kind (rules_with limit spec moment q asked) start (past_of (delimited_lines options) waits folder spans) now)
      → IsStopped (F.Sampled options limit) waits told (now ≡ start) (λ asked rows. Stops kind asked start rows now) asked spec moment q spans
  stopped_all None spans front = tt
  stopped_all (Some folder) spans front = λ kept. elim (front kept) [
    | inl same ↦ inl same
    | inr within ↦ inr (record { plan = within.plan; is_planned = within.planned; front = λ again. within.stops })
  ]

  pub stopped : (slice spans : List Span) → slice ≡ spans
      → Told told (λ folder. Kept options waits slice folder → IsFront kind (rules_with limit spec moment q asked) start (past_of (delimited_lines options) waits folder slice) now)
      → IsStopped (F.Sampled options limit) waits told (now ≡ start) (λ asked rows. Stops kind asked start rows now) asked spec moment q spans
  stopped slice spans listed front =
      subst (λ (s : List Span). IsStopped (F.Sampled options limit) waits told (now ≡ start) (λ asked rows. Stops kind asked start rows now) asked spec moment q s) listed (stopped_all told slice front)

  -- ---- an output was refused

  abbrev Unplaces : Option Folder → List Span → Refused → Type 0
  Unplaces told spans why = Told told (λ folder. Kept options waits spans folder → IsRefusedOutput kind (rules_with limit spec moment q asked) start (past_of (delimited_lines options) waits folder spans) why now)

  abbrev ComesIn : Option Folder → List Span → BadBudget → SampleFault → Type 0
  ComesIn told spans budget fault = Told told (λ folder. Kept options waits spans folder
      → TellsInTurn (rules_with limit spec moment q asked) start (past_of (delimited_lines options) waits folder spans) (Some budget.most) (delimited_lines options) waits folder spans fault now)

  unplaced_at : (folder : Folder) (spans : List Span) (why : Refused) (plan : PlannedQuery) (up : UpTo waits folder spans) → plan_at (rules_with limit spec moment q asked) (past_of (delimited_lines options) waits folder spans) ≡ Ok plan
      → IsRefusedAt (rules_with limit spec moment q asked) (past_of (delimited_lines options) waits folder spans) (found_up_to (delimited_lines options) waits folder spans up) up.rest why
      → IsUnplacedAt (F.Sampled options limit) waits asked spec plan spans why folder up
  unplaced_at folder spans why plan up planned at =
      let past = past_of (delimited_lines options) waits folder spans in
      let founds = found_up_to (delimited_lines options) waits folder spans up in
      let same = ok_same at.plan plan (plan_at (rules_with limit spec moment q asked) past) at.planned planned in
      let early : IsEarly plan (asked plan) why ⊎ (up.rest ≡ []) = elim at.early [
        | inl e ↦ inl (subst (λ (p : PlannedQuery). IsEarly p (asked p) why) same e)
        | inr all ↦ inr all
      ] in
      record { refused = subst (λ (p : PlannedQuery). IsRefusedRow (asked p) (told_rows spec.ts_format (told_in options waits limit spec.ts_format folder spans) p founds) why) same at.refused; early = early }

  unplaced_all : (told : Option Folder) (spans : List Span) (why : Refused) (budget : BadBudget) → IsBudget spec.errors (given_bad q) budget → Unplaces told spans why → ComesIn told spans budget (sample.Refused why) → IsUnplaced (F.Sampled options limit) waits told asked spec moment q spans why
  unplaced_all None spans why budget budgeted refused turn = tt
  unplaced_all (Some folder) spans why budget budgeted refused turn = λ kept.
      let is = refused kept in
      let t = turn kept in
      record {
        plan = is.plan;
        is_planned = is.planned;
        refused = λ again. is.refused;
        in_turn = λ again. record {
          up = t.up;
          sample = t.sample;
          within = within_all spec.errors (given_bad q) budget (bad_up_to (delimited_lines options) waits folder spans t.up) budgeted t.within;
          so = unplaced_at folder spans why is.plan t.up is.planned t.so;
        };
      }

  pub unplaced : (slice spans : List Span) (why : Refused) (budget : BadBudget) → slice ≡ spans → IsBudget spec.errors (given_bad q) budget → Unplaces told slice why → ComesIn told slice budget (sample.Refused why) → IsUnplaced (F.Sampled options limit) waits told asked spec moment q spans why
  unplaced slice spans why budget listed budgeted refused turn = subst (λ (s : List Span). IsUnplaced (F.Sampled options limit) waits told asked spec moment q s why) listed (unplaced_all told slice why budget budgeted refused turn)

  unplaced_front : (told : Option Folder) (spans : List Span) (why : Refused) → Unplaces told spans why
      → Told told (λ folder. Kept options waits spans folder → IsFront kind (rules_with limit spec moment q asked) start (past_of (delimited_lines options) waits folder spans) now)
  unplaced_front None spans why refused = tt
  unplaced_front (Some folder) spans why refused = λ kept. inr (record { plan = (refused kept).plan; planned = (refused kept).planned; stops = (refused kept).stops })

  pub unplaced_stopped : (slice spans : List Span) (why : Refused) → slice ≡ spans → Unplaces told slice why
      → IsStopped (F.Sampled options limit) waits told (now ≡ start) (λ asked rows. Stops kind asked start rows now) asked spec moment q spans
  unplaced_stopped slice spans why listed refused = stopped slice spans listed (unplaced_front told slice why refused)

  -- ---- no plan was made, and nothing written

  abbrev Refuses : Option Folder → List Span → TypeFault → Type 0
  Refuses told spans fault = Told told (λ folder. Kept options waits spans folder → IsUntypedRun (rules_with limit spec moment q asked) start (past_of (delimited_lines options) waits folder spans) fault now)

  unplanned_all : (told : Option Folder) (spans : List Span) (fault : TypeFault) → Refuses told spans fault → IsUnplanned (F.Sampled options limit) waits told spec moment q spans fault
  unplanned_all None spans fault refused = tt
  unplanned_all (Some folder) spans fault refused = λ kept. (refused kept).fault

  pub unplanned : (slice spans : List Span) (fault : TypeFault) → slice ≡ spans → Refuses told slice fault → IsUnplanned (F.Sampled options limit) waits told spec moment q spans fault
  unplanned slice spans fault listed refused = subst (λ (s : List Span). IsUnplanned (F.Sampled options limit) waits told spec moment q s fault) listed (unplanned_all told slice fault refused)

  typed_all : (told : Option Folder) (spans : List Span) (fault : TypeFault) (budget : BadBudget) → IsBudget spec.errors (given_bad q) budget → ComesIn told spans budget (sample.Plan fault) → IsTypedInTurn (F.Sampled options limit) waits told spec q spans
  typed_all None spans fault budget budgeted turn = tt
  typed_all (Some folder) spans fault budget budgeted turn = λ kept.
      let t = turn kept in
      record { up = t.up; sample = t.sample; within = within_all spec.errors (given_bad q) budget (bad_up_to (delimited_lines options) waits folder spans t.up) budgeted t.within; so = tt }

  pub typed_in_turn : (slice spans : List Span) (fault : TypeFault) (budget : BadBudget) → slice ≡ spans → IsBudget spec.errors (given_bad q) budget → ComesIn told slice budget (sample.Plan fault) → IsTypedInTurn (F.Sampled options limit) waits told spec q spans
  typed_in_turn slice spans fault budget listed budgeted turn = subst (λ (s : List Span). IsTypedInTurn (F.Sampled options limit) waits told spec q s) listed (typed_all told slice fault budget budgeted turn)

  bad_all : (told : Option Folder) (spans : List Span) (errors : ℕ) (budget : BadBudget) (log : List ℕ) (row : ℕ) → spec.errors ≡ Some errors → IsBudget spec.errors (given_bad q) budget → ComesIn told spans budget (sample.Bad log row)
      → Told told (λ folder. Kept options waits spans folder → BadInTurn (F.Sampled options limit) waits (now ≡ start) asked spec moment q spans (bad_line log row) folder)
  bad_all None spans errors budget log row are budgeted turn = tt
  bad_all (Some folder) spans errors budget log row are budgeted turn = λ kept.
      let t = turn kept in
      record {
        up = t.up;
        next = t.next;
        most = most_all spec.errors (given_bad q) errors (bad_up_to (delimited_lines options) waits folder spans t.up) budget are budgeted t.most;
        within = t.within;
        behind = λ has. let p = t.behind has in record { plan = p.plan; is_planned = p.planned; placed = p.placed };
      }

  pub parse_error : (slice spans : List Span) (errors : ℕ) (budget : BadBudget) (log : List ℕ) (row : ℕ)
      → slice ≡ spans → spec.errors ≡ Some errors → IsBudget spec.errors (given_bad q) budget
      → Told told (λ folder. Kept options waits slice folder → IsTooMany (Some budget.most) 0 (spans_bad_lines (delimited_lines options) waits folder slice) (bad_line log row))
      → ComesIn told slice budget (sample.Bad log row)
      → IsParseError (F.Sampled options limit) waits told (now ≡ start) asked spec moment q spans (bad_line log row)
  parse_error slice spans errors budget log row listed are is exceeds turn =
      let Of : List Span → Type 0 = λ s. Told told (λ folder. Kept options waits s folder → IsTooMany spec.errors (given_bad q) (spans_bad_lines (delimited_lines options) waits folder s) (bad_line log row)) in
      let Turn : List Span → Type 0 = λ s. Told told (λ folder. Kept options waits s folder → BadInTurn (F.Sampled options limit) waits (now ≡ start) asked spec moment q s (bad_line log row) folder) in
      record {
        typed = tt;
        exceeds = subst Of listed (told_beside told spec.errors (given_bad q) errors budget (Kept options waits slice) (λ folder. spans_bad_lines (delimited_lines options) waits folder slice) (bad_line log row) are is exceeds);
        in_turn = subst Turn listed (bad_all told slice errors budget log row are is turn);
      }

  untouched_all : (told : Option Folder) (spans : List Span) (fault : TypeFault) → Refuses told spans fault → IsUntouched (F.Sampled options limit) waits told (now ≡ start) spec spans
  untouched_all None spans fault refused = tt
  untouched_all (Some folder) spans fault refused = λ kept. (refused kept).nothing

  pub untouched : (slice spans : List Span) (fault : TypeFault) → slice ≡ spans → Refuses told slice fault → IsUntouched (F.Sampled options limit) waits told (now ≡ start) spec spans
  untouched slice spans fault listed refused = subst (λ (s : List Span). IsUntouched (F.Sampled options limit) waits told (now ≡ start) spec s) listed (untouched_all told slice fault refused)

  refused_front : (told : Option Folder) (spans : List Span) (fault : TypeFault) → Refuses told spans fault
      → Told told (λ folder. Kept options waits spans folder → IsFront kind (rules_with limit spec moment q asked) start (past_of (delimited_lines options) waits folder spans) now)
  refused_front None spans fault refused = tt
  refused_front (Some folder) spans fault refused = λ kept. inl (refused kept).nothing

  pub refused_stopped : (slice spans : List Span) (fault : TypeFault) → slice ≡ spans → Refuses told slice fault
      → IsStopped (F.Sampled options limit) waits told (now ≡ start) (λ asked rows. Stops kind asked start rows now) asked spec moment q spans
  refused_stopped slice spans fault listed refused = stopped slice spans listed (refused_front told slice fault refused)
