-- A call is a run of its world, and a world that is reached by calls is reached by runs.
use Rattle.std.proofs.Common.{◌≡◌, ⊎_elim, ℕ, ℤ, List, [], ◌∷◌, ◌++◌, Option, Some, Result, Ok, Err, refl, sym, ◌∙◌, ap, inl, inr, subst}
use Rattle.command_words.specs.Table.{IsAsked}
use Rattle.command_words.specs.Words.{options_in}
use Rattle.command_words.specs.declared.spec.Spec.{Spec}
use Rattle.logparser_cli.specs.CheckpointedCommandAsked.{IsAskedBy}
use Rattle.logparser_cli.specs.Steps.{ending_by, ending_with, StepsBy}
use Rattle.disk_model.specs.Disk.{Files, DiskState, IsImage}
use Rattle.logparser_cli.specs.Kept.{answer_of}
use Rattle.lp_model.specs.Outside.{Folder}
use Rattle.logparser_cli.specs.Meaning.{meaning}
use Rattle.query_run.specs.declared.executing.Counts.{Counts}
use Rattle.std.specs.Prelude.{OnOk}
use Rattle.logparser_cli.specs.CheckpointedCommandAsked.{IsAskedWhole}
use Rattle.reports.specs.declared.status.Status.{Status}
use Rattle.reports.specs.declared.status.Status.TheVariants as S
use Rattle.requests.specs.Texts.{HoldsText}
use Rattle.run_model.specs.Logs.{Logs}
use Rattle.run_model.specs.Meanings.{Asked}
use Rattle.run_model.specs.Steps.{Setting, IsOfCall, IsSettledImage, MayRun, Ending, well, refused, RunStep}
use Rattle.worlds.specs.Events.{Event}
use Rattle.worlds.specs.Events as worlds
use Rattle.worlds.specs.Good.{IsGood}
use Rattle.worlds.specs.Headline.{StandsFor}
use Rattle.worlds.specs.Worlds.{World}
use Rattle.worlds.proofs.Steps.{may_run, reached_good, reached_stands, reached_seen}
use Rattle.headline.specs.Calls.{IsAskedByWords, IsUnbegun, CallSteps, Called, CallStopped, IsRun, IsStoppedRun, CallEvent, append, appear, rotate, remove, change_others, call, stop_in_call, stop, Happens, Leads, IsReached}

-- what a run was asked by options is asked by the words of these options
by_words : (before now : Option Folder) (words : List (List ℕ)) (spec : Spec) (moment : ℤ) (asked : Asked) → IsAsked words spec → IsAskedBy before now spec moment asked → IsAskedByWords before now words moment asked
by_words before now words spec moment asked options by = record {
  words_are = by.words ∙ options.words_given;
  moment_is = by.moment_is;
  query = ⊎_elim (λ none. inl none) (λ held. inr (subst (λ (word : List ℕ). HoldsText before now word asked.query) options.query held)) by.query;
  template = ⊎_elim (λ none. inl none) (λ held. inr (record { name = held.name; named = sym options.tpl ∙ held.named; cut = held.cut })) by.template;
}

-- a run ends as its answer says
ends_so : (result : Result Counts Status) → ending_with result ≡ ending_by (answer_of result)
ends_so (Ok counts) = refl
ends_so (Err status) = refl

early_ends : (moment : ℤ) (status : Status) → IsUnbegun moment status → ending_by status ≡ refused
early_ends moment S.Done early = absurd early
early_ends moment S.Memory early = refl
early_ends moment (S.Clock at) early = refl
early_ends moment (S.Usage fault) early = absurd early
early_ends moment (S.Query fault) early = absurd early
early_ends moment (S.NoSuchLog name) early = absurd early
early_ends moment (S.BadName fault) early = absurd early
early_ends moment (S.NameClash name) early = absurd early
early_ends moment S.TooManyOutputs early = absurd early
early_ends moment S.TooManyLogs early = absurd early
early_ends moment (S.Template fault) early = absurd early
early_ends moment S.InputTooLong early = absurd early
early_ends moment S.LogsFault early = absurd early
early_ends moment S.SourceFault early = absurd early
early_ends moment S.DiskFault early = absurd early
early_ends moment S.SinkFault early = absurd early
early_ends moment (S.ParseErrors log row) early = absurd early
early_ends moment (S.LostLog stem number) early = absurd early
early_ends moment (S.Shrunk lost kept found) early = absurd early
early_ends moment (S.InputChanged kept given) early = absurd early
early_ends moment S.IntoNeeded early = absurd early
early_ends moment (S.LedgerFault part place) early = absurd early

-- what is asked where nothing was read
abbrev nothing_read : List (List ℕ) → ℤ → Asked
nothing_read words moment = record { words = options_in words; query = []; template = []; moment = moment }

reads_nothing : (before now : Option Folder) (words : List (List ℕ)) (moment : ℤ) → IsAskedByWords before now words moment (nothing_read words moment)
reads_nothing before now words moment = record { words_are = refl; moment_is = refl; query = inl refl; template = inl refl }

-- one event more, of runs and of calls
push_leads : {D : Type 0} (state : D → DiskState) (setting : Setting) (first : World D) (events : List Event) (old : World D) (event : Event) (new : World D) → worlds.Leads state meaning setting first events old → worlds.Happens state meaning setting old event new → worlds.Leads state meaning setting first (events ++ event ∷ []) new
push_leads state setting first [] old event new same happens = (new, subst (λ (w : World _). worlds.Happens state meaning setting w event new) same happens, refl)
push_leads state setting first (e ∷ events) old event new (next, here, more) happens = (next, here, push_leads state setting next events old event new more happens)

push : {D : Type 0} (state : D → DiskState) (setting : Setting) (events : List Event) (old : World D) (event : Event) (new : World D) → worlds.IsReached state meaning setting events old → worlds.Happens state meaning setting old event new → worlds.IsReached state meaning setting (events ++ event ∷ []) new
push state setting events old event new r happens = record { first = r.first; begins = r.begins; leads = push_leads state setting r.first events old event new r.leads happens }

push_calls : {D : Type 0} (state : D → DiskState) (setting : Setting) (first : World D) (events : List CallEvent) (old : World D) (event : CallEvent) (new : World D) → Leads state setting first events old → Happens state setting old event new → Leads state setting first (events ++ event ∷ []) new
push_calls state setting first [] old event new same happens = (new, subst (λ (w : World _). Happens state setting w event new) same happens, refl)
push_calls state setting first (e ∷ events) old event new (next, here, more) happens = (next, here, push_calls state setting next events old event new more happens)

pub go_on : {D : Type 0} (state : D → DiskState) (setting : Setting) (events : List CallEvent) (old : World D) (event : CallEvent) (new : World D) → IsReached state setting events old → Happens state setting old event new → IsReached state setting (events ++ event ∷ []) new
go_on state setting events old event new r happens = record { first = r.first; begins = r.begins; leads = push_calls state setting r.first events old event new r.leads happens }

module _ {D : Type 0} (state : D → DiskState) (seen_left : (disk : D) → (state disk).honest → IsImage (state disk) (state disk).seen)
    (only_now : (disk : D) (image : Files) → (state disk).honest → (state disk).left_since (state disk).moment image → IsImage (state disk) image) (setting : Setting) where
  -- a disk that is left alone has no other image
  alone : (disk : D) (image : Files) → (state disk).honest → IsOfCall (state disk) (state disk) image → IsImage (state disk) image
  alone disk image honest of = ⊎_elim (λ since. only_now disk image honest since) (λ now. now) of

  -- a refusal that leaves the disk alone is a step without an entry
  pub refusal_steps : (asked : Asked) (before after : Logs) (disk : D) → (state disk).honest → ((image : Files) → IsImage (state disk) image → IsSettledImage meaning setting before.written image) → RunStep meaning setting asked refused before after (state disk) (state disk)
  refusal_steps asked before after disk honest settled = record {
    honest = honest;
    does = λ entries files recovers is_settled. inl (record {
      not_well = λ same. let e : refused ≡ well = same in cc;
      each_moment = λ image of.
          let is = alone disk image honest of in
          let s = settled image is in
          (s.entries, s.files, image, is, s.recovers, s.recovers);
      seen = recovers;
    });
  }

  early_run : (words : List (List ℕ)) (moment : ℤ) (status : Status) (before after : Logs) (old new : D) → IsGood meaning setting before (state old) → Called state setting words moment status before after old new → IsUnbegun moment status × (new ≡ old) → IsRun state setting words moment status before after old new
  early_run words moment status before after old new good c (early, same) =
      let asked = nothing_read words moment in
      let by = reads_nothing (Some before.folder) (Some after.folder) words moment in
      let step : RunStep meaning setting asked refused before after (state old) (state old) = refusal_steps asked before after old good.honest (λ image is. let fit = good.fits image is in record { entries = fit.entries; files = fit.files; recovers = fit.recovers; settled = fit.settled }) in
      record {
        asked = asked;
        is_asked = by;
        runs = record {
          names_are = c.names_are asked by;
          gain = c.gain;
          step = λ may. subst (λ (e : Ending). RunStep meaning setting asked e before after (state old) (state new)) (sym (early_ends moment status early)) (subst (λ (d : D). RunStep meaning setting asked refused before after (state old) (state d)) (sym same) step);
        };
        whole = λ done. absurd (subst (IsUnbegun moment) done early);
      }

  step_run : (words : List (List ℕ)) (moment : ℤ) (status : Status) (before after : Logs) (old new : D) → IsGood meaning setting before (state old) → Called state setting words moment status before after old new → CallSteps state setting words moment status before after old new → IsRun state setting words moment status before after old new
  step_run words moment status before after old new good c s =
      let told : (asked : Asked) → IsAskedBy (Some before.folder) (Some after.folder) s.spec moment asked → IsAskedByWords (Some before.folder) (Some after.folder) words moment asked = λ asked by. by_words (Some before.folder) (Some after.folder) words s.spec moment asked s.options by in
      let may : (asked : Asked) → IsAskedBy (Some before.folder) (Some after.folder) s.spec moment asked → MayRun meaning setting asked before (state old) = λ asked by. may_run meaning setting asked before (state old) good (c.names_are asked (told asked by)) in
      let by : StepsBy s.spec moment setting before after (state old) (state new) s.result = s.steps words setting before after c.fine s.options refl refl refl refl c.gain may in
      let is = told by.asked by.is_asked in
      record {
        asked = by.asked;
        is_asked = is;
        runs = record {
          names_are = c.names_are by.asked is;
          gain = c.gain;
          step = λ m. subst (λ (e : Ending). RunStep meaning setting by.asked e before after (state old) (state new)) (ends_so s.result ∙ ap ending_by (sym s.status_is)) by.steps.step;
        };
        whole = λ done. (s.spec, s.options, subst (λ (r : Result Counts Status). OnOk r (IsAskedWhole (Some before.folder) (Some after.folder) s.spec by.asked)) (s.done done).1 by.whole);
      }

  pub call_run : (words : List (List ℕ)) (moment : ℤ) (status : Status) (before after : Logs) (old new : D) → IsGood meaning setting before (state old) → Called state setting words moment status before after old new → IsRun state setting words moment status before after old new
  call_run words moment status before after old new good c = ⊎_elim
      (λ early. early_run words moment status before after old new good c early)
      (λ steps. step_run words moment status before after old new good c steps)
      c.does

  pub stopped_run : (words : List (List ℕ)) (moment : ℤ) (status : Status) (before after : Logs) (old new : D) → IsGood meaning setting before (state old) → CallStopped state setting words moment status before after old new → IsStoppedRun state setting words moment status before after old new
  stopped_run words moment status before after old new good c =
      let r = call_run words moment status before after old c.whole good c.called in
      record {
        asked = r.asked;
        is_asked = r.is_asked;
        stops = record { whole = c.whole; runs = r.runs; image = c.image; of_call = c.of_call; stopped = c.stopped };
      }

  -- each event is one of a world of runs
  event_turned : (old : World D) (event : CallEvent) (new : World D) → IsGood meaning setting old.logs (state old.disk) → Happens state setting old event new → (turned : Event) × worlds.Happens state meaning setting old turned new
  event_turned old (append name bytes) new good h = (worlds.append name bytes, h)
  event_turned old (appear name) new good h = (worlds.appear name, h)
  event_turned old (rotate stem) new good h = (worlds.rotate stem, h)
  event_turned old (remove name) new good h = (worlds.remove name, h)
  event_turned old change_others new good h = (worlds.change_others, h)
  event_turned old (call words moment status) new good h =
      let r = call_run words moment status old.logs new.logs old.disk new.disk good h in (worlds.run r.asked (ending_by status), r.runs)
  event_turned old (stop_in_call words moment status) new good h =
      let r = stopped_run words moment status old.logs new.logs old.disk new.disk good h in (worlds.stop_in r.asked (ending_by status), r.stops)
  event_turned old stop new good h = (worlds.stop, h)

  -- what is reached by runs is known, and so each event behind it is one of runs
  events_turned : (first : List Event) (old : World D) (events : List CallEvent) (new : World D) → worlds.IsReached state meaning setting first old → Leads state setting old events new → (turned : List Event) × worlds.IsReached state meaning setting turned new
  events_turned first old [] new r same = (first, subst (λ (w : World D). worlds.IsReached state meaning setting first w) (sym same) r)
  events_turned first old (event ∷ events) new r (next, here, more) =
      let t = event_turned old event next (reached_good state seen_left meaning setting first old r) here in
      events_turned (first ++ t.0 ∷ []) next events new (push state setting first old t.0 next r t.1) more

  pub reached_turned : (events : List CallEvent) (world : World D) → IsReached state setting events world → (turned : List Event) × worlds.IsReached state meaning setting turned world
  reached_turned events world r = events_turned [] r.first events world (record { first = r.first; begins = r.begins; leads = refl }) r.leads

  pub calls_stand : (events : List CallEvent) (world : World D) → IsReached state setting events world → (image : Files) → IsImage (state world.disk) image → StandsFor meaning setting world.logs image
  calls_stand events world r image is = let t = reached_turned events world r in reached_stands state seen_left meaning setting t.0 world t.1 image is

  pub calls_seen : (events : List CallEvent) (world : World D) → IsReached state setting events world → StandsFor meaning setting world.logs (state world.disk).seen
  calls_seen events world r = let t = reached_turned events world r in reached_seen state seen_left meaning setting t.0 world t.1
