-- From a run over a disk and two files to its step of the world.
use Rattle.std.proofs.Common.{◌≡◌, ◌≢◌, ℕ, ◌≤◌, ◌++◌, List, map, Option, Some, None, Result, Ok, Err, refl, sym, subst, lit≤}
use Rattle.std.specs.Prelude.{codes, IfSome, IfOk, IfErr}
use Rattle.disk_model.specs.Disk.{DiskState, IsImage}
use Rattle.disk_model.specs.Disk.{Files as Contents}
use Rattle.ledger.specs.Reader.{Rests}
use Rattle.ledger.specs.declared.refused.LedgerRefused.{LedgerRefused}
use Rattle.ledger.specs.declared.refused.LedgerRefused.TheVariants as C
use Rattle.ledger_model.specs.Entries.{Entry}
use Rattle.ledger_model.specs.Inputs.{input_text}
use Rattle.lp_model.specs.Outside.{Folder, Grows, OnlyGrow}
use Rattle.lp_model.proofs.Growing.{OnlyGrow-trans}
use Rattle.lp_outside.specs.NameFault.{name_fault}
use Rattle.grammar.specs.Trees.{Placed}
use Rattle.command_words.specs.declared.modes.Rotation.{Rotation as Word}
use Rattle.commit.specs.declared.phases.Commit.{Commit}
use Rattle.commit.specs.declared.phases.CommitFiles.{CommitFiles}
use Rattle.commit.specs.Phases.{Same, SettlesHeld, Unsettled}
use Rattle.commit.specs.Resume.{CanSettle, Settles}
use Rattle.run_entry.specs.Formats.{lines_in, log_format}
use Rattle.run_entry.specs.RunFault.{RunFault}
use Rattle.run_entry.specs.RunFault.TheVariants as X
use Rattle.log_reading.specs.Spans.{AllSpans, IsSpan}
use Rattle.log_reading.specs.declared.span.Span.{Span}
use Rattle.recovery_model.specs.Recovered.{Recovers}
use Rattle.positions.specs.Loads.{KeepsLedger}
use Rattle.positions.specs.Places.{Keeps}
use Rattle.positions.specs.Spanning.{AreOf, AreSpansOf, rule_of}
use Rattle.positions.specs.declared.fault.LoadFault.{LoadFault}
use Rattle.positions.specs.declared.fault.LoadFault.TheVariants as P
use Rattle.query_run.specs.declared.executing.Counts.{Counts}
use Rattle.query_text.specs.Stdin.{names_in}
use Rattle.run_model.specs.Logs.{Logs}
use Rattle.run_model.specs.Steps.{Setting, Gain, MayRun, well, refused, disk_failed}
use Rattle.tpl_output.specs.Sections.{Sections}
use Rattle.run_entry.specs.Gives.{HasTemplate}
use Rattle.run_entry.specs.Inputs.{format_in, input_for}
use Rattle.run_entry.specs.Meaning.{meaning}
use Rattle.run_entry.specs.Entries.{Request}
use Rattle.checkpointed_run.specs.Begun.{HasSpans}
use Rattle.checkpointed_run.specs.Committed.{IsCommitted, StopsAtGate}
use Rattle.checkpointed_run.specs.Grounds.{IsRead, asked_by_request}
use Rattle.checkpointed_run.specs.Runs.{RunsOver}
use Rattle.checkpointed_run.specs.Steps.{IsDamaged, StepsAs, TakesStep, phase_ending, load_ending, fault_ending, stop_ending, ledger_ending}
use Rattle.checkpointed_run.specs.Stops.{IsBeforeGate, IsDamagedStop, IsFromGate}
use Rattle.checkpointed_run.specs.declared.running.RunStop.{RunStop}
use Rattle.checkpointed_run.specs.declared.running.RunStop.TheVariants as R
use Rattle.checkpointed_run.specs.declared.over.LedgerStop.{LedgerStop}
use Rattle.checkpointed_run.specs.declared.over.LedgerStop.TheVariants as L
use Rattle.checkpointed_run.proofs.FromLoad.{can_settle, counted, step_not_begun, step_before_gate, step_committed, step_at_gate, undamaged_at_gate}
use Rattle.checkpointed_run.proofs.Loaded.{keeps_read}
use Rattle.checkpointed_run.proofs.Rested.{settles_rested, still_unsettled}
use Rattle.checkpointed_run.proofs.Steps.{setting_by}

-- no refusal ends well

refused_not_well : refused ≢ well
refused_not_well e = cc

failed_not_well : disk_failed ≢ well
failed_not_well e = cc

phase_not_well : (fault : LedgerRefused) → phase_ending fault ≢ well
phase_not_well C.DiskFault = failed_not_well
phase_not_well (C.LedgerFault part at) = refused_not_well

load_not_well : (fault : LoadFault) → load_ending fault ≢ well
load_not_well P.DiskFault = failed_not_well
load_not_well (P.LedgerFault part at) = refused_not_well
load_not_well P.Memory = refused_not_well

fault_not_well : (fault : RunFault) → fault_ending fault ≢ well
fault_not_well (X.Plan fault) = refused_not_well
fault_not_well (X.Refused why) = refused_not_well
fault_not_well X.LogsFault = refused_not_well
fault_not_well X.StageFault = failed_not_well
fault_not_well (X.ParseErrors log row) = refused_not_well
fault_not_well X.Memory = refused_not_well

stop_not_well : (stop : RunStop) → stop_ending stop ≢ well
stop_not_well (R.Subquery fault) = refused_not_well
stop_not_well (R.Refused fault) = fault_not_well fault
stop_not_well (R.BeforeGate fault) = phase_not_well fault
stop_not_well (R.FromGate fault) = failed_not_well

pub ledger_not_well : (stop : LedgerStop) → ledger_ending stop ≢ well
ledger_not_well (L.Ledger fault) = load_not_well fault
ledger_not_well (L.Logs fault) = refused_not_well
ledger_not_well (L.Clash name) = refused_not_well
ledger_not_well (L.Run stop) = stop_not_well stop
ledger_not_well L.Memory = refused_not_well

-- how a run over spans ends one over a ledger
abbrev pub over : Result Counts RunStop → Result Counts LedgerStop
over (Ok counts) = Ok counts
over (Err stop) = Err (L.Run stop)

-- logs that tell their files go on telling
told_on : (a : Folder) (x : Option Folder) → OnlyGrow (Some a) x → (b : Folder) × (x ≡ Some b)
told_on a None grows = absurd grows
told_on a (Some b) grows = (b, refl)

-- spans of the logs that a query names, by how its words rotate them
pub spans_as : (disk : DiskState) (ledger : List ℕ) (a b : Word) (input : List ℕ) (texts names : List (List ℕ)) (before now : Option Folder) (spans : List Span) → a ≡ b → texts ≡ names
    → HasSpans disk ledger (rule_of a) input texts before now spans → HasSpans disk ledger (rule_of b) input names before now spans
spans_as disk ledger a b input texts names before now spans words same has =
    subst (λ (r : Word). HasSpans disk ledger (rule_of r) input names before now spans) words (subst (λ (t : List (List ℕ)). HasSpans disk ledger (rule_of a) input t before now spans) same has)

-- the name of a stage, by that of its ledger
pub stage_named : (checkpoint : Option (List ℕ)) (ledger stage : List ℕ) → checkpoint ≡ Some ledger → stage ≡ ledger ++ codes ".stage" → name_fault stage ≡ None → IfSome checkpoint (λ name. name_fault (name ++ codes ".stage") ≡ None)
stage_named checkpoint ledger stage is stage_is good =
    subst (λ (o : Option (List ℕ)). IfSome o (λ name. name_fault (name ++ codes ".stage") ≡ None)) (sym is) (subst (λ (s : List ℕ). name_fault s ≡ None) stage_is good)

module _ {D : Type 0} (state : D → DiskState)
    (only_now : (disk : D) (image : Contents) → (state disk).honest → (state disk).left_since (state disk).moment image → IsImage (state disk) image)
    (seen_left : (disk : D) → (state disk).honest → IsImage (state disk) (state disk).seen)
    (counts_now : (disk : D) (t : ℕ) (image : Contents) → (state disk).honest → t ≤ (state disk).moment → IsImage (state disk) image → (state disk).left_since t image)
    (honest_tells : (disk : D) → (state disk).honest → (state disk).tells)
    (request : Request) (text_law : format_in (input_text (input_for request.spec request.q)) ≡ lines_in (log_format request.spec request.q)) (sections : Sections) (is_template : HasTemplate request.spec request.q request.template sections)
    (files : CommitFiles) (early old mid : D) (near : CanSettle (state early) files.ledger files.stage → Settles (state early) (state old) files.ledger files.stage) (rests : Rests (state old) (state mid)) where
  -- any other template is as good, where there is none
  read_as : (words : List (List ℕ)) (template : Sections) (into : Placed) → IsRead words request template into → IsRead words request sections into
  read_as words template into read = record {
    fine = read.fine;
    asked = read.asked;
    checkpoint = read.checkpoint;
    query = read.query;
    only = read.only;
    sections = is_template;
    into_is = read.into_is;
    no_stdout = read.no_stdout;
  }

  -- the disk as it was at first, held by the commit that holds it later
  abbrev found : Commit D → Commit D
  found c = record { disk = record { ref_ptr = c.disk.ref_ptr; ghost_name = c.disk.ghost_name; now = early }; files = files; place = c.place; staged = c.staged; next = c.next; low = c.low; within = c.within; behind = c.behind }

  -- a commit that holds a disk
  abbrev held : D → Commit D
  held disk = record { disk = record { ref_ptr = (0, 0); ghost_name = 0; now = disk }; files = files; place = 0; staged = 0; next = 0; low = lit≤ tt; within = lit≤ tt; behind = lit≤ tt }

  setting_is : (c : Commit D) (setting : Setting) → setting.ledger ≡ files.ledger → setting.stage ≡ files.stage → setting ≡ setting_by (found c) setting
  setting_is c setting ledger stage = λ i. record { rotation = setting.rotation; parting = setting.parting; ledger = ledger i; stage = stage i; start = setting.start }

  -- the reads leave it settled
  nearer : CanSettle (state early) files.ledger files.stage → Settles (state early) (state mid) files.ledger files.stage
  nearer can = settles_rested state only_now counts_now files.ledger files.stage early old mid (near can) rests

  -- the run didn't begin
  pub steps_not_begun : (since now : Option Folder) (stop : LedgerStop) → (CanSettle (state old) files.ledger files.stage → IsDamaged stop → ⊥) → TakesStep (Err stop) request files.ledger files.stage since now (state early) (state mid)
  steps_not_begun since now stop sound = λ words template into setting before after read ledger_is stage_is told_is now_is may gain.
      let c = held mid in
      let is : setting ≡ setting_by (found c) setting = setting_is c setting ledger_is stage_is in
      let here = subst (λ (s : Setting). MayRun meaning s (asked_by_request request) before (state early)) is may in
      let same : Same (found c) c = record { same_reference = refl; files = refl } in
      let can = can_settle state only_now seen_left counts_now honest_tells words request sections into (read_as words template into read) text_law setting before after (found c) c here gain same nearer in
      subst (λ (s : Setting). StepsAs s (asked_by_request request) before after (state early) (state mid) (Err stop)) (sym is)
      (record {
        step = step_not_begun state only_now seen_left counts_now honest_tells words request sections into (read_as words template into read) text_law setting before after (found c) c here gain same nearer (ledger_ending stop) (ledger_not_well stop);
        undamaged = sound (near can).again;
        counted = tt;
      })

  module _ (ledger_is : request.spec.checkpoint ≡ Some files.ledger) (stage_is : files.stage ≡ files.ledger ++ codes ".stage")
      (since told listed now : Option Folder) (front : OnlyGrow since told) (grown : OnlyGrow told listed) (grows : OnlyGrow listed now) (spans : List Span) (low : AllSpans spans IsSpan)
      (has : HasSpans (state old) files.ledger (rule_of request.spec.rotation) (input_text (input_for request.spec request.q)) (map (λ name. name.text) (names_in request.q)) told listed spans) (new : D) where
    module _ (words : List (List ℕ)) (into : Placed) (read : IsRead words request sections into) (setting : Setting) (before after : Logs) (told_is : since ≡ Some before.folder) (now_is : now ≡ Some after.folder)
        (gain : Gain setting.rotation setting.parting before after) (first last : Commit D) (files_are : first.files ≡ files) (old_is : first.disk.now ≡ mid) (may : MayRun meaning (setting_by (found first) setting) (asked_by_request request) before (state early)) where
      same : Same (found first) first
      same = record { same_reference = refl; files = files_are }

      settled_since : Unsettled state (found first) → SettlesHeld state (found first) first
      settled_since can = subst (λ (d : D). Settles (state early) (state d) files.ledger files.stage) (sym old_is) (nearer can)

      can : Unsettled state (found first)
      can = can_settle state only_now seen_left counts_now honest_tells words request sections into read text_law setting before after (found first) first may gain same settled_since

      -- the folder that the run found, and the one in which the logs were listed
      from_then : OnlyGrow (Some before.folder) told
      from_then = subst (λ (o : Option Folder). OnlyGrow o told) told_is front

      there : (b : Folder) × (told ≡ Some b)
      there = told_on before.folder told from_then

      since_then : Grows before.folder there.0
      since_then = subst (λ (o : Option Folder). OnlyGrow (Some before.folder) o) there.1 from_then

      listing : (b : Folder) × (listed ≡ Some b)
      listing = told_on there.0 listed (subst (λ (o : Option Folder). OnlyGrow o listed) there.1 grown)

      since_listed : Grows before.folder listing.0
      since_listed = subst (λ (o : Option Folder). OnlyGrow (Some before.folder) o) listing.1 (OnlyGrow-trans (Some before.folder) told listed from_then grown)

      load : KeepsLedger ((state old).seen files.ledger) has.kept
      load = has.loads ((state old).seen files.ledger) (record { tells = honest_tells old (near can).again.honest; seen = refl })

      -- what was loaded is what the entries keep that a read gave at first
      keeps : (entries : List Entry) (others : Contents) → Recovers files.ledger files.stage entries others (state early).seen → Keeps entries has.kept
      keeps entries others r = keeps_read files.ledger files.stage (state old) has.kept load entries others ((near can).seen entries others r)

      later : Grows listing.0 after.folder
      later = subst (λ (o : Option Folder). OnlyGrow (Some listing.0) o) now_is (subst (λ (o : Option Folder). OnlyGrow o now) listing.1 grows)

      are : (entries : List Entry) → AreOf (rule_of request.spec.rotation) entries has.kept → AreSpansOf (rule_of request.spec.rotation) has.kept.places entries (map (λ name. name.text) (names_in request.q)) (Some there.0) (Some listing.0) spans
      are entries of = subst (λ (o : Option Folder). AreSpansOf (rule_of request.spec.rotation) has.kept.places entries (map (λ name. name.text) (names_in request.q)) (Some there.0) o spans) listing.1
          (subst (λ (o : Option Folder). AreSpansOf (rule_of request.spec.rotation) has.kept.places entries (map (λ name. name.text) (names_in request.q)) o listed spans) there.1 (has.are entries of))

      pub steps_by : (result : Result Counts RunStop) → IfOk result (IsCommitted state request sections listed now spans first last)
          → IfErr result (λ stop. IsBeforeGate stop → Unsettled state first → SettlesHeld state first last) → IfErr result (λ stop. IsFromGate stop → StopsAtGate state request sections listed now spans first last stop)
          → IfErr result (λ stop. IsBeforeGate stop → IsDamagedStop stop → Unsettled state first → ⊥)
          → StepsAs (setting_by (found first) setting) (asked_by_request request) before after (state early) (state last.disk.now) (over result)
      steps_by (Ok counts) committed early_stop late_stop sound =
          let is : IsCommitted state request sections (Some listing.0) (Some after.folder) spans first last counts = subst (λ (o : Option Folder). IsCommitted state request sections o (Some after.folder) spans first last counts) listing.1
          (subst (λ (o : Option Folder). IsCommitted state request sections listed o spans first last counts) now_is committed) in
          record {
            step = step_committed state only_now seen_left counts_now honest_tells words request sections into read text_law setting before after (found first) first may gain same settled_since
                has.kept keeps has.agrees there.0 listing.0 since_then since_listed later spans low are ledger_is stage_is last counts is;
            undamaged = tt;
            counted = counted state only_now seen_left counts_now honest_tells words request sections into read text_law setting before after (found first) first may gain same settled_since
                has.kept keeps has.agrees there.0 listing.0 since_then since_listed later spans low are ledger_is stage_is last counts is;
          }
      steps_by (Err (R.Subquery fault)) committed early_stop late_stop sound = record {
        step = step_before_gate state only_now seen_left counts_now honest_tells words request sections into read text_law setting before after (found first) first may gain same settled_since refused last refused_not_well (early_stop tt);
        undamaged = λ told. told;
        counted = tt;
      }
      steps_by (Err (R.Refused fault)) committed early_stop late_stop sound = record {
        step = step_before_gate state only_now seen_left counts_now honest_tells words request sections into read text_law setting before after (found first) first may gain same settled_since (fault_ending fault) last (fault_not_well fault) (early_stop tt);
        undamaged = λ told. told;
        counted = tt;
      }
      steps_by (Err (R.BeforeGate fault)) committed early_stop late_stop sound = record {
        step = step_before_gate state only_now seen_left counts_now honest_tells words request sections into read text_law setting before after (found first) first may gain same settled_since (phase_ending fault) last (phase_not_well fault) (early_stop tt);
        undamaged = λ told. sound tt told (still_unsettled state counts_now (found first) first same settled_since can);
        counted = tt;
      }
      steps_by (Err (R.FromGate fault)) committed early_stop late_stop sound =
          let is : StopsAtGate state request sections (Some listing.0) (Some after.folder) spans first last (R.FromGate fault) = subst (λ (o : Option Folder). StopsAtGate state request sections o (Some after.folder) spans first last (R.FromGate fault)) listing.1
          (subst (λ (o : Option Folder). StopsAtGate state request sections listed o spans first last (R.FromGate fault)) now_is (late_stop tt)) in
          record {
            step = step_at_gate state only_now seen_left counts_now honest_tells words request sections into read text_law setting before after (found first) first may gain same settled_since
                has.kept keeps has.agrees there.0 listing.0 since_then since_listed later spans low are ledger_is stage_is last (R.FromGate fault) is;
            undamaged = undamaged_at_gate state only_now seen_left counts_now honest_tells words request sections into read text_law setting before after (found first) first may gain same settled_since
                has.kept keeps has.agrees there.0 listing.0 since_then since_listed later spans low are ledger_is stage_is last (R.FromGate fault) is;
            counted = tt;
          }

    -- the run began
    pub steps_over : (result : Result Counts RunStop) → RunsOver state request sections listed now spans files mid new result → TakesStep (over result) request files.ledger files.stage since now (state early) (state new)
    steps_over result runs = λ words template into setting before after read setting_ledger setting_stage told_is now_is may gain.
        let is : setting ≡ setting_by (found runs.first) setting = setting_is runs.first setting setting_ledger setting_stage in
        subst (λ (s : Setting). StepsAs s (asked_by_request request) before after (state early) (state new) (over result)) (sym is)
        (subst (λ (d : D). StepsAs (setting_by (found runs.first) setting) (asked_by_request request) before after (state early) (state d) (over result)) (sym runs.new_is)
        (steps_by words into (read_as words template into read) setting before after told_is now_is gain runs.first runs.last runs.files_are runs.old_is
        (subst (λ (s : Setting). MayRun meaning s (asked_by_request request) before (state early)) is may) result runs.committed runs.before runs.behind runs.undamaged))
