-- The values of the rows of spans.
use Rattle.std.proofs.Common.{◌≡◌, Bool, List, [], Option, fold, ap, ap₂, sym, subst, ◌∙◌, refl}
use Rattle.lp_model.specs.Outside.{Folder, Told}
use Rattle.lp_model.specs.Reading.{Format}
use Rattle.in_set.specs.Facts.{facts_of}
use Rattle.lp_values.specs.declared.value.Value.{Value}
use Rattle.log_reading.specs.Found.{Found, rows_met}
use Rattle.log_reading.specs.declared.page.Page.{Page}
use Rattle.log_reading.specs.declared.span.RunFault.{RunFault}
use Rattle.log_reading.specs.declared.span.RunFault.TheVariants as R
use Rattle.log_reading.specs.declared.span.Span.{Span}
use Rattle.log_reading.specs.Spans.{AreKept, BadLine, OnBadLine, TakesSpans, spans_found, spans_met}
use Rattle.log_reading.proofs.RowsMet.{rows_met_spans}
use Rattle.query_run.specs.Rows.{picked}
use Rattle.query_types.specs.declared.fault.TypeFault.{TypeFault}
use Rattle.query_run.proofs.WholeRun.{told_map}
use Rattle.list_run.specs.declared.collector.Collector.{Collector}
use Rattle.list_run.specs.declared.fault.ListFault.{ListFault}
use Rattle.list_run.specs.declared.fault.ListFault.TheVariants as F
use Rattle.list_run.specs.declared.given.GivenValues.{GivenValues}
use Rattle.list_run.specs.Collected.{Collects}
use Rattle.list_run.specs.Faults.{OnBad, OnUnplanned, read_fault}
use Rattle.list_run.specs.Gathering.{Remembered, remembered_of, remembering}
use Rattle.list_run.specs.declared.keep.Keep.{Keep}
use Rattle.list_run.proofs.Alike.{remembers}
use Rattle.list_run.specs.Keeping.{kept_values}
use Rattle.list_run.specs.Lists.{values_of}

-- all rows of spans were taken, from nothing
module _ {P : Type 0} (picks : P → Found → Option (List Value)) (picker : P) (format : Format) (waits : Bool) (told : Option Folder) (spans : List Span) (keep : Keep) (old new : Page (Collector P)) (u v : Remembered) where
  abbrev Took : Folder → Type 0
  Took folder = AreKept format waits spans folder → TakesSpans (λ a s xs b t. Collects picks a.picker s (rows_met xs) b.picker t) format waits folder spans old new u v

  abbrev values_by : P → List Found → List Value
  values_by p founds = values_of (picked (picks p) founds)

  pub values_taken : old.taker.picker ≡ picker → u ≡ remembered_of keep [] → Told told Took → Told told (λ folder. AreKept format waits spans folder → v ≡ remembered_of keep (values_of (picked (picks picker) (spans_found format waits folder spans))))
  values_taken same none = told_map told Took (λ folder. AreKept format waits spans folder → v ≡ remembered_of keep (values_of (picked (picks picker) (spans_found format waits folder spans)))) (λ folder took kept.
      let founds = rows_met (spans_met format waits folder spans) in
      (took kept).done.values
      ∙ (ap₂ (λ (before : Remembered) (p : P). fold remembering before (values_by p founds)) none same
      ∙ (remembers keep (values_by picker founds)
      ∙ ap (λ (founds : List Found). remembered_of keep (values_by picker founds)) (rows_met_spans format waits folder spans))))

module _ {P : Type 0} (picks : P → Found → Option (List Value)) (picker : P) (format : Format) (waits : Bool) (told : Option Folder) (spans : List Span) (keep : Keep) (v : Remembered) (given : GivenValues) where
  abbrev found_by : Folder → List Value
  found_by folder = values_of (picked (picks picker) (spans_found format waits folder spans))

  -- what was gathered is given
  pub facts_given : given.values ≡ v.facts → Told told (λ folder. AreKept format waits spans folder → v ≡ remembered_of keep (values_of (picked (picks picker) (spans_found format waits folder spans))))
      → Told told (λ folder. AreKept format waits spans folder → given.values ≡ facts_of (values_of (picked (picks picker) (spans_found format waits folder spans))))
  facts_given same = told_map told (λ folder. AreKept format waits spans folder → v ≡ remembered_of keep (found_by folder)) (λ folder. AreKept format waits spans folder → given.values ≡ facts_of (found_by folder))
      (λ folder is kept. same ∙ ap (λ (r : Remembered). r.facts) (is kept))

  pub list_given : given.kept ≡ v.list → Told told (λ folder. AreKept format waits spans folder → v ≡ remembered_of keep (values_of (picked (picks picker) (spans_found format waits folder spans))))
      → Told told (λ folder. AreKept format waits spans folder → given.kept ≡ kept_values keep (values_of (picked (picks picker) (spans_found format waits folder spans))))
  list_given same = told_map told (λ folder. AreKept format waits spans folder → v ≡ remembered_of keep (found_by folder)) (λ folder. AreKept format waits spans folder → given.kept ≡ kept_values keep (found_by folder))
      (λ folder is kept. same ∙ ap (λ (r : Remembered). r.list) (is kept))

-- ---- faults

-- want of memory tells of no bad line and of no plan
pub bad_of_memory : (fault : ListFault) (Q : BadLine → Type 0) → fault ≡ F.Memory → OnBad Q fault
bad_of_memory fault Q memory = subst (OnBad Q) (sym memory) tt

pub none_of_memory : (fault : ListFault) (Q : TypeFault → Type 0) → fault ≡ F.Memory → OnUnplanned Q fault
none_of_memory fault Q memory = subst (OnUnplanned Q) (sym memory) tt

pub bad_read : (fault : RunFault) (Q : BadLine → Type 0) → OnBadLine fault Q → OnBad Q (read_fault fault)
bad_read R.Memory Q q = tt
bad_read R.Logs Q q = tt
bad_read R.Output Q q = tt
bad_read R.Stopped Q q = tt
bad_read (R.Bad log row) Q q = q

-- no reading of logs tells that there is no plan
pub none_read : (Q : TypeFault → Type 0) (fault : RunFault) → OnUnplanned Q (read_fault fault)
none_read Q R.Memory = tt
none_read Q R.Logs = tt
none_read Q R.Output = tt
none_read Q R.Stopped = tt
none_read Q (R.Bad log row) = tt

pub logs_read : (fault : RunFault) → read_fault fault ≡ F.Logs → fault ≡ R.Logs
logs_read R.Memory e = absurd cc
logs_read R.Logs e = refl
logs_read R.Output e = absurd cc
logs_read R.Stopped e = absurd cc
logs_read (R.Bad log row) e = absurd cc
