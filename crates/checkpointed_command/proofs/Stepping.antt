-- The step of a run with a checkpoint: of one that is refused before the logs, and of one that runs over them.
use Rattle.std.proofs.Common.{◌≡◌, ◌≢◌, ◌⊎◌, ⊎_elim, ℕ, ℤ, ◌≤◌, List, [], Option, Some, None, Result, Ok, Err, true, false, IsSome, inl, inr, refl, sym, subst, arith, map}
use Rattle.std.specs.Prelude.{Bool, ◌&&◌, IfOk, IfErr, OnOk}
use Rattle.disk_model.specs.Disk.{DiskState, IsImage}
use Rattle.disk_model.specs.Disk.{Files as Contents}
use Rattle.lp_model.specs.Outside.{Folder, OnlyGrow}
use Rattle.grammar.specs.Trees.{Placed, Query}
use Rattle.command_words.specs.declared.spec.Spec.{Spec}
use Rattle.commit.specs.Resume.{CanSettle, Settles}
use Rattle.checkpointed_run.specs.Outputs.{is_standard, is_stdout}
use Rattle.checkpointed_run.specs.Texts.{into_in, output_of}
use Rattle.checkpointed_run.specs.Meaning.{meaning}
use Rattle.checkpointed_run.proofs.OneMeaning.{is_one}
use Rattle.query_run.specs.declared.executing.Counts.{Counts}
use Rattle.reports.specs.declared.status.Status.{Status}
use Rattle.requests.specs.Texts.{HoldsQuery}
use Rattle.checkpointed_run.specs.Entries.{Request}
use Rattle.run_model.specs.Logs.{Logs}
use Rattle.run_model.specs.Meanings.{Asked}
use Rattle.run_model.specs.Steps.{Setting, MayRun, Ending, well, RunStep}
use Rattle.run_model.proofs.Settling.{recoverable}
use Rattle.tpl_output.specs.Sections.{Sections}
use Rattle.checkpointed_run.specs.Grounds.{IsRead, asked_by_request}
use Rattle.checkpointed_run.specs.Staged.{request_of}
use Rattle.checkpointed_command.specs.Asked.{IsAskedBy, IsAskedWhole, IsFit, IsPrepared}
use Rattle.checkpointed_command.specs.Steps.{IsDamaged, TakesStepWith, TakesSteps, ending_by}
use Rattle.checkpointed_command.specs.Templates.{FindsTemplate}
use Rattle.checkpointed_run.specs.Steps.{TakesStep}
use Rattle.checkpointed_run.specs.declared.over.LedgerStop.{LedgerStop}
use Rattle.checkpointed_command.specs.Statuses.{IsAnswerTo}
use Rattle.checkpointed_command.proofs.Answering.{ends_as}
use Rattle.checkpointed_command.specs.Counted.{IsCounted}
use Rattle.checkpointed_run.specs.Counted.{HasRun}
use Rattle.ledger_model.specs.Inputs.{input_text}
use Rattle.positions.specs.Spanning.{rule_of}
use Rattle.checkpointed_run.specs.Inputs.{input_for}
use Rattle.query_text.specs.Stdin.{names_in}
use Rattle.checkpointed_command.specs.Refusals.{IsCountless, IsRefusedBehind}
use Rattle.checkpointed_command.proofs.Since.{bytes_asked, found_over, query_grown}
use Rattle.lp_model.proofs.Growing.{OnlyGrow-trans}
use Rattle.requests.specs.Given.{ReadsOnce}
use Rattle.requests.proofs.Given.{sizes_grown}
use Rattle.reports.specs.declared.status.Status.TheVariants as S

-- a query that may run with a checkpoint names files to put its rows into
pub into_of : (o : Option Placed) → is_standard o ≡ false → (into : Placed) × (o ≡ Some into) × (is_stdout into.text ≡ false)
into_of None e = absurd cc
into_of (Some into) e = (into, refl, e)

module _ {D : Type 0} (state : D → DiskState)
    (counts_now : (disk : D) (t : ℕ) (image : Contents) → (state disk).honest → t ≤ (state disk).moment → IsImage (state disk) image → (state disk).left_since t image)
    (spec : Spec) (ledger stage : List ℕ) (moment : ℤ) (told now : Option Folder) (old new : D) where
  -- a disk on which a run may rest can be settled
  can_settle : (setting : Setting) (asked : Asked) (before : Logs) → MayRun meaning setting asked before (state old) → CanSettle (state old) setting.ledger setting.stage
  can_settle setting asked before may = record {
    honest = may.honest;
    differ = may.names_are.apart;
    images = recoverable meaning setting before.written (state old) is_one may.settled;
  }

  -- a run that leaves nothing but a settled disk
  step_settled : (setting : Setting) (asked : Asked) (ending : Ending) (before after : Logs) → ending ≢ well → Settles (state old) (state new) setting.ledger setting.stage → RunStep meaning setting asked ending before after (state old) (state new)
  step_settled setting asked ending before after not_well settles = record {
    honest = settles.again.honest;
    does = λ entries files recovers settled. inl (record {
      not_well = not_well;
      each_moment = λ image of. settles.each_moment.each image (⊎_elim (λ since. since) (λ is. counts_now new (state old).moment image settles.again.honest settles.each_moment.later is) of);
      seen = settles.seen entries files recovers;
    });
  }

  abbrev nothing_asked : Asked
  nothing_asked = record { words = spec.words; query = []; template = []; moment = moment }

  -- a run that is refused before the logs
  pub steps_refused : (status : Status) → ending_by status ≢ well → (CanSettle (state old) ledger stage → Settles (state old) (state new) ledger stage) → (IsDamaged status → CanSettle (state old) ledger stage → ⊥)
      → TakesSteps spec ledger stage moment told now (state old) (state new) (Err status)
  steps_refused status not_well settles undamaged = λ words setting before after fine options ledger_is stage_is told_is now_is gain may.
      let is_asked : IsAskedBy (Some before.folder) (Some after.folder) spec moment nothing_asked = record { words = refl; moment_is = refl; query = inl refl; template = inl refl } in
      let can : CanSettle (state old) setting.ledger setting.stage = can_settle setting nothing_asked before (may nothing_asked is_asked) in
      let here : CanSettle (state old) ledger stage = subst (λ (l : List ℕ). CanSettle (state old) l stage) ledger_is (subst (λ (s : List ℕ). CanSettle (state old) setting.ledger s) stage_is can) in
      let left : Settles (state old) (state new) setting.ledger setting.stage = subst (λ (l : List ℕ). Settles (state old) (state new) l setting.stage) (sym ledger_is) (subst (λ (s : List ℕ). Settles (state old) (state new) ledger s) (sym stage_is) (settles here)) in
      record {
        asked = nothing_asked;
        is_asked = is_asked;
        steps = record {
          step = step_settled setting nothing_asked (ending_by status) before after not_well left;
          undamaged = λ damaged. undamaged damaged here;
          counted = tt;
        };
        whole = tt;
      }

  -- all that was asked was read
  on_ok : (result : Result Counts Status) (P : Type 0) → P → OnOk result P
  on_ok (Ok counts) P p = p
  on_ok (Err status) P p = tt

  -- a run over the logs
  pub steps_prepared : (text : List ℕ) (q : Query) (bytes : List ℕ) (template : Sections) (result : Result Counts Status) → spec.checkpoint ≡ Some ledger → IsPrepared told now spec text q bytes template
      → TakesStepWith result (request_of spec q text bytes moment) ledger stage told now (state old) (state new) → TakesSteps spec ledger stage moment told now (state old) (state new) result
  steps_prepared text q bytes template result kept prepared steps = λ words setting before after fine options ledger_is stage_is told_is now_is gain may.
      let asked : Asked = asked_by_request (request_of spec q text bytes moment) in
      let here : IsPrepared (Some before.folder) (Some after.folder) spec text q bytes template = subst (λ (o : Option Folder). IsPrepared o (Some after.folder) spec text q bytes template) told_is (subst (λ (o : Option Folder). IsPrepared told o spec text q bytes template) now_is prepared) in
      let is_asked : IsAskedBy (Some before.folder) (Some after.folder) spec moment asked = record {
        words = refl;
        moment_is = refl;
        query = inr here.query.holds;
        template = bytes_asked (output_of spec q) (Some before.folder) (Some after.folder) spec bytes here.finds.bytes_are;
      } in
      let into = into_of (into_in q) here.fit.into_files in
      let read : IsRead words (request_of spec q text bytes moment) template into.0 = record {
        fine = fine;
        asked = options;
        checkpoint = subst (λ (o : Option (List ℕ)). IsSome o) (sym kept) refl;
        query = here.query.query;
        only = here.query.only;
        sections = here.finds.sections;
        into_is = into.1;
        no_stdout = into.2;
      } in
      record {
        asked = asked;
        is_asked = is_asked;
        steps = steps words template into.0 setting before after read ledger_is stage_is told_is now_is (may asked is_asked) gain;
        whole = on_ok result (IsAskedWhole (Some before.folder) (Some after.folder) spec asked) (record { q = q; sections = template; prepared = here });
      }

  -- a run of what was asked that is refused before the logs
  pub steps_with_refused : (status : Status) (request : Request) → ending_by status ≢ well → (IsDamaged status → ⊥) → (CanSettle (state old) ledger stage → Settles (state old) (state new) ledger stage) → TakesStepWith (Err status) request ledger stage told now (state old) (state new)
  steps_with_refused status request not_well undamaged settles = λ words template into setting before after read ledger_is stage_is told_is now_is may gain.
      let can : CanSettle (state old) setting.ledger setting.stage = can_settle setting (asked_by_request request) before may in
      let here : CanSettle (state old) ledger stage = subst (λ (l : List ℕ). CanSettle (state old) l stage) ledger_is (subst (λ (s : List ℕ). CanSettle (state old) setting.ledger s) stage_is can) in
      let left : Settles (state old) (state new) setting.ledger setting.stage = subst (λ (l : List ℕ). Settles (state old) (state new) l setting.stage) (sym ledger_is) (subst (λ (s : List ℕ). Settles (state old) (state new) ledger s) (sym stage_is) (settles here)) in
      record { step = step_settled setting (asked_by_request request) (ending_by status) before after not_well left; undamaged = undamaged; counted = tt }

  -- a run over the logs that comes to counts
  pub steps_counted : (counts : Counts) (request : Request) → TakesStep (Ok counts) request ledger stage told now (state old) (state new) → TakesStepWith (Ok counts) request ledger stage told now (state old) (state new)
  steps_counted counts request steps = λ words template into setting before after read ledger_is stage_is told_is now_is may gain.
      let s = steps words template into setting before after read ledger_is stage_is told_is now_is may gain in
      record { step = s.step; undamaged = tt; counted = s.counted }

  -- one that comes to none
  pub steps_uncounted : (stop : LedgerStop) (status : Status) (request : Request) → IsAnswerTo stop status → TakesStep (Err stop) request ledger stage told now (state old) (state new) → TakesStepWith (Err status) request ledger stage told now (state old) (state new)
  steps_uncounted stop status request answers steps = λ words template into setting before after read ledger_is stage_is told_is now_is may gain.
      let s = steps words template into setting before after read ledger_is stage_is told_is now_is may gain in
      let ends = ends_as stop status answers s.undamaged in
      record { step = subst (λ (e : Ending). RunStep meaning setting (asked_by_request request) e before after (state old) (state new)) ends.0 s.step; undamaged = ends.1; counted = tt }

-- why a run that was prepared comes to no counts, from the moment on at which its query was read
pub refused_behind : {D : Type 0} (state : D → DiskState) (disk : DiskState) (ledger stage : List ℕ) (old mid now : Option Folder) (spec : Spec) (moment : ℤ) (text : List ℕ) (q : Query) (bytes : List ℕ) (template : Sections) (result : Result Counts Status)
    → OnlyGrow old mid → OnlyGrow mid now → IsFit q → FindsTemplate old mid spec q bytes template → IfErr result (λ status. IsCountless state disk ledger stage mid now (request_of spec q text bytes moment) template status ⊎ (status ≡ S.Memory))
    → IfErr result (λ status. (since : Option Folder) → OnlyGrow since old → HoldsQuery since old spec.query text q → IsRefusedBehind state disk ledger stage since now spec moment status)
refused_behind state disk ledger stage old mid now spec moment text q bytes template (Ok counts) grow grown fit found none = tt
refused_behind state disk ledger stage old mid now spec moment text q bytes template (Err status) grow grown fit found (inl countless) = λ since early holds. inr (inr (inr (inl (record {
  text = text;
  q = q;
  bytes = bytes;
  template = template;
  prepared = record {
    query = query_grown since old now spec.query text q (OnlyGrow-trans old mid now grow grown) holds;
    fit = fit;
    finds = found_over since old mid now spec q bytes template early grown found;
  };
  began = mid;
  since = OnlyGrow-trans since old mid early grow;
  countless = countless;
}))))
refused_behind state disk ledger stage old mid now spec moment text q bytes template (Err status) grow grown fit found (inr memory) = λ since early holds. inr (inr (inr (inr memory)))

-- or what it did where it comes to them
pub counted_behind : {D : Type 0} (state : D → DiskState) (disk : DiskState) (ledger stage : List ℕ) (old mid now : Option Folder) (spec : Spec) (moment : ℤ) (text : List ℕ) (q : Query) (bytes : List ℕ) (template : Sections) (result : Result Counts Status)
    → OnlyGrow old mid → OnlyGrow mid now → IsFit q → FindsTemplate old mid spec q bytes template → IfOk result (HasRun state disk ledger stage (rule_of spec.rotation) (input_text (input_for spec q)) (map (λ name. name.text) (names_in q)) (request_of spec q text bytes moment) template mid now)
    → IfOk result (λ counts. (since : Option Folder) → OnlyGrow since old → HoldsQuery since old spec.query text q → IsCounted state disk ledger stage since now spec moment counts)
counted_behind state disk ledger stage old mid now spec moment text q bytes template (Err status) grow grown fit found ran = tt
counted_behind state disk ledger stage old mid now spec moment text q bytes template (Ok counts) grow grown fit found ran = λ since early holds. record {
  text = text;
  q = q;
  bytes = bytes;
  template = template;
  prepared = record {
    query = query_grown since old now spec.query text q (OnlyGrow-trans old mid now grow grown) holds;
    fit = fit;
    finds = found_over since old mid now spec q bytes template early grown found;
  };
  began = mid;
  since = OnlyGrow-trans since old mid early grow;
  ran = ran;
}

-- what was read once of files is no more than they have later
pub reads_grown : (mid now : Option Folder) (names : List (List ℕ)) (before later : ℕ) → OnlyGrow mid now → ReadsOnce mid names before later → ReadsOnce now names before later
reads_grown None None names before later grow once = tt
reads_grown None (Some y) names before later grow once = absurd cc
reads_grown (Some x) None names before later grow once = absurd grow
reads_grown (Some x) (Some y) names before later grow once = let more = sizes_grown x y names grow in omega arith
