-- What the run of a plan says of a fault that comes in its turn, in the words of any plan.
use Rattle.std.proofs.Common.{◌≡◌, ◌⊎◌, ◌+◌, ◌≤◌, ℕ, Bool, List, [], ◌++◌, length, Option, Some, None, inl, inr, ap, sym, ◌∙◌, subst, refl, arith}
use Rattle.std.specs.Prelude.{Result, Ok, Err, IfErr, IfSome}
use Rattle.lp_model.specs.Outside.{Folder, Told}
use Rattle.lp_values.specs.declared.value.Value.{Value}
use Rattle.log_reading.specs.Found.{Found}
use Rattle.log_reading.specs.Page.{IsWithin}
use Rattle.log_reading.specs.Spans.{AreKept, BadLine, bad_line, spans_bad, spans_found}
use Rattle.log_reading.specs.UpTo.{bad_up_to, found_up_to}
use Rattle.log_reading.specs.declared.span.Span.{Span}
use Rattle.log_reading.proofs.Ups.{bad_up_all, bad_up_none, found_up_all, up_all, up_none}
use Rattle.query_run.specs.Faults.{OnBad, OnRefusedOutput}
use Rattle.query_run.specs.InTurn as query_run
use Rattle.query_run.specs.declared.fault.WriteFault.{WriteFault}
use Rattle.query_run.specs.declared.fault.WriteFault.TheVariants as W
use Rattle.group_planning.specs.Groups.{Grouped}
use Rattle.group_run.specs.InTurn.{IsReached}
use Rattle.input_tables.specs.declared.format.TableFormat.{TableFormat}
use Rattle.input_tables.specs.Tables.{lines_of}
use Rattle.query_types.specs.Planned.{Planned}
use Rattle.row_output.specs.Asked.{Asked}
use Rattle.row_output.specs.Rows.{IsRefused}
use Rattle.row_output.specs.declared.fault.Refused.{Refused}
use Rattle.row_output.proofs.Unrefused.{refused_first}
use Rattle.execution.specs.Carried.{BadByPlan, UnplacedByPlan}
use Rattle.execution.specs.Plans.{of_groups, of_rows, table_rows}

-- a fact of a refusal, or of a bad line, that follows from two others
both_refused : (fault : WriteFault) (P Q R : Refused → Type 0) → ((why : Refused) → P why → Q why → R why) → OnRefusedOutput P fault → OnRefusedOutput Q fault → OnRefusedOutput R fault
both_refused W.Memory P Q R so p q = tt
both_refused W.Logs P Q R so p q = tt
both_refused W.Output P Q R so p q = tt
both_refused (W.Refused why) P Q R so p q = so why p q
both_refused (W.Bad log row) P Q R so p q = tt

both_bad : (fault : WriteFault) (P Q R : BadLine → Type 0) → ((line : BadLine) → P line → Q line → R line) → OnBad P fault → OnBad Q fault → OnBad R fault
both_bad W.Memory P Q R so p q = tt
both_bad W.Logs P Q R so p q = tt
both_bad W.Output P Q R so p q = tt
both_bad (W.Refused why) P Q R so p q = tt
both_bad (W.Bad log row) P Q R so p q = so (bad_line log row) p q

pub refused_with : {T : Type 0} (result : Result T WriteFault) (P Q R : Refused → Type 0) → ((why : Refused) → P why → Q why → R why) → IfErr result (OnRefusedOutput P) → IfErr result (OnRefusedOutput Q) → IfErr result (OnRefusedOutput R)
refused_with (Ok t) P Q R so p q = tt
refused_with (Err fault) P Q R so p q = both_refused fault P Q R so p q

pub bad_with : {T : Type 0} (result : Result T WriteFault) (P Q R : BadLine → Type 0) → ((line : BadLine) → P line → Q line → R line) → IfErr result (OnBad P) → IfErr result (OnBad Q) → IfErr result (OnBad R)
bad_with (Ok t) P Q R so p q = tt
bad_with (Err fault) P Q R so p q = both_bad fault P Q R so p q

within_nothing : (most : Option ℕ) (bad : ℕ) → IsWithin most (0 + bad) → IsWithin most bad
within_nothing None bad within = tt
within_nothing (Some most) bad within = omega (arith, within)

within_zero : (most : Option ℕ) (bad : ℕ) → bad ≡ 0 → IsWithin most bad
within_zero None bad none = tt
within_zero (Some most) bad none = omega (arith, none)

module _ (told : Option Folder) (format : TableFormat) (waits : Bool) (asked : Asked) (most_bad : Option ℕ) (spans : List Span) where
  abbrev Kept : Folder → Type 0
  Kept folder = AreKept (lines_of format) waits spans folder

  -- over rows
  module _ (plan : Planned) where
    abbrev rows : List Found → List (List Value)
    rows founds = table_rows format (of_rows plan) founds

    pub rows_unplaced : (told : Option Folder) (why : Refused) → Told told (λ folder. Kept folder → query_run.RefusedInTurn asked rows most_bad 0 (lines_of format) waits folder spans why) → Told told (λ folder. Kept folder → UnplacedByPlan format waits asked (of_rows plan) most_bad spans why folder)
    rows_unplaced None why r = tt
    rows_unplaced (Some folder) why r = λ kept.
        let t = r kept in
        record { up = t.up; refused = t.refused; within = within_nothing most_bad (bad_up_to (lines_of format) waits folder spans t.up) t.within; early = t.early }

    pub rows_bad : (told : Option Folder) (line : BadLine) → Told told (λ folder. Kept folder → query_run.BadInTurn asked rows most_bad 0 (lines_of format) waits folder spans line) → Told told (λ folder. Kept folder → BadByPlan format waits asked (of_rows plan) most_bad spans line folder)
    rows_bad None line r = tt
    rows_bad (Some folder) line r = λ kept.
        let t = r kept in
        let all : 0 + bad_up_to (lines_of format) waits folder spans t.up ≡ bad_up_to (lines_of format) waits folder spans t.up = omega arith in
        record { up = t.up; next = t.next; most = t.most ∙ ap (λ (n : ℕ). Some n) all; placed = t.placed }

  -- over groups, whose rows wait for the last record
  module _ (plan : Grouped) where
    abbrev group_rows : List Found → List (List Value)
    group_rows founds = table_rows format (of_groups plan) founds

    unplaced_at : (folder : Folder) (why : Refused) → IsRefused asked (group_rows (spans_found (lines_of format) waits folder spans)) why
        → IsRefused asked [] why ⊎ IsWithin most_bad (length (spans_bad (lines_of format) waits folder spans)) → UnplacedByPlan format waits asked (of_groups plan) most_bad spans why folder
    unplaced_at folder why all (inl first) = record {
      up = up_none waits folder spans;
      refused = refused_first asked why first (group_rows (found_up_to (lines_of format) waits folder spans (up_none waits folder spans)));
      within = within_zero most_bad (bad_up_to (lines_of format) waits folder spans (up_none waits folder spans)) (bad_up_none (lines_of format) waits folder spans);
      early = inl first;
    }
    unplaced_at folder why all (inr within) = record {
      up = up_all waits folder spans;
      refused = subst (λ (founds : List Found). IsRefused asked (group_rows founds) why) (sym (found_up_all (lines_of format) waits folder spans)) all;
      within = subst (IsWithin most_bad) (sym (bad_up_all (lines_of format) waits folder spans)) within;
      early = inr refl;
    }

    pub groups_unplaced : (told : Option Folder) (why : Refused) → Told told (λ folder. Kept folder → IsRefused asked (group_rows (spans_found (lines_of format) waits folder spans)) why)
        → Told told (λ folder. Kept folder → IsRefused asked [] why ⊎ IsWithin most_bad (length (spans_bad (lines_of format) waits folder spans)))
        → Told told (λ folder. Kept folder → UnplacedByPlan format waits asked (of_groups plan) most_bad spans why folder)
    groups_unplaced None why all early = tt
    groups_unplaced (Some folder) why all early = λ kept. unplaced_at folder why (all kept) (early kept)

    pub groups_bad : (told : Option Folder) (line : BadLine) → Told told (λ folder. Kept folder → IsReached most_bad (lines_of format) waits folder spans line) → ((why : Refused) → IsRefused asked [] why → ⊥)
        → Told told (λ folder. Kept folder → BadByPlan format waits asked (of_groups plan) most_bad spans line folder)
    groups_bad None line reached named = tt
    groups_bad (Some folder) line reached named = λ kept.
        let r = reached kept in
        record { up = r.up; next = r.next; most = r.most; placed = λ why early refused. named why early }
