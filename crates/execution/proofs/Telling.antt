-- What runs over sampled columns say of their plans, in the words of any plan.
use Rattle.std.proofs.Common.{◌≡◌, ℕ, ℤ, Bool, true, false, List, [], Option, Some, None, inl, inr, ◌⊎◌, ◌∙◌, sym, subst}
use Rattle.std.specs.Prelude.{Result, Ok, Err, IfOk, IfErr}
use Rattle.grammar.specs.Trees.{Query}
use Rattle.lp_model.specs.Outside.{Folder, Told}
use Rattle.lp_model.specs.Reading.{Format}
use Rattle.lp_time.specs.declared.piece.Piece.{Piece}
use Rattle.log_reading.specs.Found.{Found}
use Rattle.log_reading.specs.Spans.{spans_found}
use Rattle.log_reading.specs.UpTo.{UpTo, found_up_to}
use Rattle.log_reading.specs.declared.span.Span.{Span}
use Rattle.text_output.specs.Output.{StageKind}
use Rattle.query_run.specs.declared.executing.Written.{Written}
use Rattle.query_types.specs.Built.{is_built}
use Rattle.query_types.specs.declared.table.TableColumns.{TableColumns}
use Rattle.row_output.specs.Asked.{Files, RowsText}
use Rattle.row_output.specs.Rows.{IsRefused as IsRefusedOutput}
use Rattle.row_output.specs.declared.fault.Refused.{Refused}
use Rattle.row_output.proofs.Unrefused.{refused_first}
use Rattle.column_kinds.specs.Judged.{table_of}
use Rattle.column_kinds.specs.Past.{Past, told_at}
use Rattle.sampled_run.specs.declared.fault.SampleFault.{SampleFault}
use Rattle.sampled_run.specs.declared.fault.SampleFault.TheVariants as F
use Rattle.sampled_run.specs.Finishes.{asked_by}
use Rattle.sampled_run.specs.Rules.{rules_of}
use Rattle.sampled_run.specs.Ran as rows
use Rattle.sampled_run.specs.InTurn as rows_turn
use Rattle.sampled_groups.specs.Rules.{group_rules_of}
use Rattle.sampled_groups.specs.Ran as groups
use Rattle.sampled_groups.specs.InTurn as groups_turn
use Rattle.execution.specs.Plans.{asked_for, of_groups, of_rows, told_rows}
use Rattle.execution.specs.Telling.{IsFront, IsStoppedBy, IsTold, IsUnplacedAt, IsWithin, Telling, TellsInTurn, telling}
use Rattle.execution.proofs.InTurns.{found_all}
use Rattle.execution.proofs.QueryPlans.{planned_groups, planned_rows, unplanned_groups, unplanned_rows}

-- a fact of an answer, where the folder is told, that follows from another
pub ok_told : {T E : Type 0} (result : Result T E) (told : Option Folder) (P Q : T → Folder → Type 0) → ((t : T) (folder : Folder) → P t folder → Q t folder)
    → IfOk result (λ t. Told told (P t)) → IfOk result (λ t. Told told (Q t))
ok_told (Ok t) None P Q follows is = tt
ok_told (Ok t) (Some folder) P Q follows is = follows t folder is
ok_told (Err e) told P Q follows is = tt

pub err_told : {T E : Type 0} (result : Result T E) (told : Option Folder) (P Q : E → Folder → Type 0) → ((e : E) (folder : Folder) → P e folder → Q e folder)
    → IfErr result (λ e. Told told (P e)) → IfErr result (λ e. Told told (Q e))
err_told (Ok t) told P Q follows is = tt
err_told (Err e) None P Q follows is = tt
err_told (Err e) (Some folder) P Q follows is = follows e folder is

-- one that follows from two others
pub err_told_with : {T E : Type 0} (result : Result T E) (told : Option Folder) (P Q R : E → Folder → Type 0) → ((e : E) (folder : Folder) → P e folder → Q e folder → R e folder)
    → IfErr result (λ e. Told told (P e)) → IfErr result (λ e. Told told (Q e)) → IfErr result (λ e. Told told (R e))
err_told_with (Ok t) told P Q R follows is also = tt
err_told_with (Err e) None P Q R follows is also = tt
err_told_with (Err e) (Some folder) P Q R follows is also = follows e folder is also

module _ {S : Type 0} (kind : StageKind S) (limit : ℕ) (pattern : List Piece) (moment : ℤ) (q : Query) (files : Option Files) (text : RowsText) (start : S) (past : Past) where
  abbrev rules : Telling
  rules = telling limit pattern moment q (asked_for files text q)

  abbrev table : TableColumns
  table = table_of (told_at limit pattern past)

  -- over rows
  module _ (built : is_built q ≡ true) where
    rows_front : (now : S) → rows.IsFront kind (rules_of limit pattern moment q (asked_by files text q)) start past now → IsFront kind rules start past now
    rows_front now front = elim front [
      | inl same ↦ inl same
      | inr within ↦ inr (record { plan = of_rows within.plan; planned = planned_rows table moment q within.plan built within.planned; stops = within.stops })
    ]

    pub rows_told : (format : Format) (waits : Bool) (folder : Folder) (spans : List Span) (run : Written) (now : S)
        → rows.IsSampled kind (rules_of limit pattern moment q (asked_by files text q)) start past format waits folder spans run now → IsTold kind rules start past format waits folder spans run now
    rows_told format waits folder spans run now all = record {
      plan = of_rows all.written.plan;
      planned = planned_rows table moment q all.written.plan built all.written.planned;
      holds = all.written.holds;
      rows = all.written.rows;
      processed = all.processed;
      bad = all.bad;
    }

    pub rows_stopped : (fault : SampleFault) (now : S) → rows.IsStoppedBy kind (rules_of limit pattern moment q (asked_by files text q)) start past fault now → IsStoppedBy kind rules start past fault now
    rows_stopped (F.Plan fault) now s = record { fault = unplanned_rows table moment q fault built s.fault; nothing = s.nothing }
    rows_stopped (F.Refused why) now s = record { plan = of_rows s.plan; planned = planned_rows table moment q s.plan built s.planned; stops = s.stops; refused = s.refused }
    rows_stopped (F.Bad log row) now s = rows_front now s
    rows_stopped F.Logs now s = rows_front now s
    rows_stopped F.Output now s = rows_front now s
    rows_stopped F.Memory now s = rows_front now s

    pub rows_in_turn : (most_bad : Option ℕ) (format : Format) (waits : Bool) (folder : Folder) (spans : List Span) (fault : SampleFault) (now : S)
        → rows_turn.ComesInTurn (rules_of limit pattern moment q (asked_by files text q)) start past most_bad format waits folder spans fault now → TellsInTurn rules start past most_bad format waits folder spans fault now
    rows_in_turn most_bad format waits folder spans (F.Plan fault) now s = s
    rows_in_turn most_bad format waits folder spans (F.Refused why) now s = record {
      up = s.up;
      sample = s.sample;
      within = s.within;
      so = record { plan = of_rows s.so.plan; planned = planned_rows table moment q s.so.plan built s.so.planned; refused = s.so.refused; early = s.so.early };
    }
    rows_in_turn most_bad format waits folder spans (F.Bad log row) now s = record {
      up = s.up;
      next = s.next;
      most = s.most;
      within = s.within;
      behind = λ enough. let p = s.behind enough in record { plan = of_rows p.plan; planned = planned_rows table moment q p.plan built p.planned; placed = p.placed };
    }
    rows_in_turn most_bad format waits folder spans F.Logs now s = tt
    rows_in_turn most_bad format waits folder spans F.Output now s = tt
    rows_in_turn most_bad format waits folder spans F.Memory now s = tt

  -- over groups
  module _ (built : is_built q ≡ false) where
    groups_front : (now : S) → groups.IsFront kind (group_rules_of limit pattern moment q (asked_by files text q)) start past now → IsFront kind rules start past now
    groups_front now front = elim front [
      | inl same ↦ inl same
      | inr within ↦ inr (record { plan = of_groups within.plan; planned = planned_groups table moment q within.plan built within.planned; stops = within.stops })
    ]

    pub groups_told : (format : Format) (waits : Bool) (folder : Folder) (spans : List Span) (run : Written) (now : S)
        → groups.IsSampled kind (group_rules_of limit pattern moment q (asked_by files text q)) start past format waits folder spans run now → IsTold kind rules start past format waits folder spans run now
    groups_told format waits folder spans run now all = record {
      plan = of_groups all.written.plan;
      planned = planned_groups table moment q all.written.plan built all.written.planned;
      holds = all.written.holds;
      rows = all.written.rows;
      processed = all.processed;
      bad = all.bad;
    }

    pub groups_stopped : (fault : SampleFault) (now : S) → groups.IsStoppedBy kind (group_rules_of limit pattern moment q (asked_by files text q)) start past fault now → IsStoppedBy kind rules start past fault now
    groups_stopped (F.Plan fault) now s = record { fault = unplanned_groups table moment q fault built s.fault; nothing = s.nothing }
    groups_stopped (F.Refused why) now s = record { plan = of_groups s.plan; planned = planned_groups table moment q s.plan built s.planned; stops = s.stops; refused = s.refused }
    groups_stopped (F.Bad log row) now s = groups_front now s
    groups_stopped F.Logs now s = groups_front now s
    groups_stopped F.Output now s = groups_front now s
    groups_stopped F.Memory now s = groups_front now s

    -- the output of a name without stars is refused before any row, and so of any rows; else it is of the rows of all groups
    groups_unplaced : (format : Format) (waits : Bool) (folder : Folder) (spans : List Span) (up : UpTo waits folder spans) (why : Refused) (now : S) → past.founds ≡ spans_found format waits folder spans
        → groups.IsUnplaced kind (group_rules_of limit pattern moment q (asked_by files text q)) start past why now
        → groups.IsUnplacedFirst (group_rules_of limit pattern moment q (asked_by files text q)) past why ⊎ (up.rest ≡ []) → IsUnplacedAt rules past (found_up_to format waits folder spans up) up.rest why
    groups_unplaced format waits folder spans up why now all u (inl first) = record {
      plan = of_groups first.plan;
      planned = planned_groups table moment q first.plan built first.planned;
      refused = refused_first (rules.asked (of_groups first.plan)) why first.refused (told_rows pattern (told_at limit pattern past) (of_groups first.plan) (found_up_to format waits folder spans up));
      early = inl first.refused;
    }
    groups_unplaced format waits folder spans up why now all u (inr none) =
        let Of : List Found → Type 0 = λ founds. IsRefusedOutput (rules.asked (of_groups u.plan)) (told_rows pattern (told_at limit pattern past) (of_groups u.plan) founds) why in
        record {
          plan = of_groups u.plan;
          planned = planned_groups table moment q u.plan built u.planned;
          refused = subst Of (all ∙ sym (found_all format waits folder spans up none)) u.refused;
          early = inr none;
        }

    pub groups_in_turn : (most_bad : Option ℕ) (format : Format) (waits : Bool) (folder : Folder) (spans : List Span) (fault : SampleFault) (now : S) → past.founds ≡ spans_found format waits folder spans
        → groups.IsStoppedBy kind (group_rules_of limit pattern moment q (asked_by files text q)) start past fault now
        → groups_turn.ComesInTurn (group_rules_of limit pattern moment q (asked_by files text q)) start past most_bad format waits folder spans fault now → TellsInTurn rules start past most_bad format waits folder spans fault now
    groups_in_turn most_bad format waits folder spans (F.Plan fault) now all stopped s = s
    groups_in_turn most_bad format waits folder spans (F.Refused why) now all stopped s = record { up = s.up; sample = s.sample; within = s.within; so = groups_unplaced format waits folder spans s.up why now all stopped s.so }
    groups_in_turn most_bad format waits folder spans (F.Bad log row) now all stopped s = record {
      up = s.up;
      next = s.next;
      most = s.most;
      within = s.within;
      behind = λ enough. let p = s.behind enough in record { plan = of_groups p.plan; planned = planned_groups table moment q p.plan built p.planned; placed = λ why early refused. p.placed why early };
    }
    groups_in_turn most_bad format waits folder spans F.Logs now all stopped s = tt
    groups_in_turn most_bad format waits folder spans F.Output now all stopped s = tt
    groups_in_turn most_bad format waits folder spans F.Memory now all stopped s = tt
