-- A run over a ledger, by what it has done to its disk, is a step of the world of which the headline speaks.
use Rattle.std.proofs.Common.{◌≡◌, ◌≢◌, ℕ, ◌<◌, ◌≤◌, ◌^◌, ◌++◌, List, length, map, Some, refl, sym, ◌∙◌, ap, subst}
use Rattle.std.specs.Prelude.{codes}
use Rattle.disk_model.specs.Disk.{DiskState, IsImage}
use Rattle.disk_model.specs.Disk.{Files as Contents}
use Rattle.ledger_model.specs.Entries.{Entry}
use Rattle.ledger_model.specs.Inputs.{input_text}
use Rattle.recovery_model.specs.Recovered.{Recovers}
use Rattle.grammar.specs.Trees.{Placed}
use Rattle.commit.specs.declared.phases.Commit.{Commit}
use Rattle.commit.specs.declared.phases.CommitFiles.{CommitFiles}
use Rattle.commit.specs.Phases.{disk_of, ledger_of, stage_of, Same, Settled, SettlesHeld, Unsettled}
use Rattle.ledger_model.specs.Grammar.{IsEntry, payload_of}
use Rattle.commit.proofs.Composing.{same_on, done_on}
use Rattle.run_entry.specs.Formats.{lines_in, log_format}
use Rattle.log_reading.specs.Spans.{AllSpans, IsSpan}
use Rattle.log_reading.specs.declared.span.Span.{Span}
use Rattle.positions.specs.Places.{Kept, Keeps}
use Rattle.positions.specs.Spans.{Agrees}
use Rattle.positions.specs.Spanning.{AreOf, AreSpansOf, KnowsNumbers, rule_of}
use Rattle.query_run.specs.declared.executing.Counts.{Counts}
use Rattle.query_text.specs.Stdin.{names_in}
use Rattle.run_model.specs.Logs.{Logs, Rotation}
use Rattle.run_model.specs.Meanings.{IsOne}
use Rattle.run_model.specs.Right.{IsSettled}
use Rattle.run_model.specs.Steps.{Setting, Gain, MayRun, Ending, well, disk_failed, RunStep}
use Rattle.run_model.proofs.Settling.{recoverable}
use Rattle.tpl_output.specs.Sections.{Sections}
use Rattle.run_entry.specs.Inputs.{format_in, input_for}
use Rattle.run_entry.specs.Meaning.{meaning}
use Rattle.run_entry.specs.Entries.{Request}
use Rattle.checkpointed_run.specs.Committed.{ComesToGate, IsCommitted, StopsAtGate}
use Rattle.checkpointed_run.specs.Grounds.{IsRead, asked_by_request}
use Rattle.checkpointed_run.specs.Steps.{HasCounted}
use Rattle.checkpointed_run.specs.Stops.{IsDamagedStop}
use Rattle.checkpointed_run.specs.declared.running.RunStop.{RunStop}
use Rattle.checkpointed_run.proofs.Grounded.{rule_is}
use Rattle.checkpointed_run.proofs.Made.{makes}
use Rattle.checkpointed_run.proofs.Steps.{Makes, setting_by, at_gate, step_before, step_whole, step_stopped, whole_seen}
use Rattle.checkpointed_run.proofs.Taken.{numbered}

module _ {D : Type 0} (state : D → DiskState)
    (only_now : (disk : D) (image : Contents) → (state disk).honest → (state disk).left_since (state disk).moment image → IsImage (state disk) image)
    (seen_left : (disk : D) → (state disk).honest → IsImage (state disk) (state disk).seen)
    (counts_now : (disk : D) (t : ℕ) (image : Contents) → (state disk).honest → t ≤ (state disk).moment → IsImage (state disk) image → (state disk).left_since t image)
    (honest_tells : (disk : D) → (state disk).honest → (state disk).tells)
    (words : List (List ℕ)) (request : Request) (template : Sections) (into : Placed) (read : IsRead words request template into)
    (text_law : format_in (input_text (input_for request.spec request.q)) ≡ lines_in (log_format request.spec request.q))
    (setting : Setting) (before after_logs : Logs) (old : Commit D) (may : MayRun meaning (setting_by old setting) (asked_by_request request) before (disk_of state old)) (gain : Gain setting.rotation setting.parting before after_logs)
    (one : IsOne meaning) where
  -- a disk on which the run may rest can be settled
  pub unsettled : Unsettled state old
  unsettled = record {
    honest = may.honest;
    differ = may.names_are.apart;
    images = recoverable meaning (setting_by old setting) before.written (disk_of state old) one may.settled;
  }

  -- a run that stops before its gate
  pub stops_before : (ending : Ending) (new : Commit D) → ending ≢ well → (Unsettled state old → SettlesHeld state old new) → RunStep meaning (setting_by old setting) (asked_by_request request) ending before after_logs (disk_of state old) (disk_of state new)
  stops_before ending new not_well settles = step_before state only_now seen_left counts_now meaning setting (asked_by_request request) before after_logs old ending new not_well (settles unsettled)

  -- some state that a read at entry gives
  some_state : (entries : List Entry) × (files : Contents) × Recovers (ledger_of old) (stage_of old) entries files (disk_of state old).seen × IsSettled meaning before.written setting.start entries files
  some_state = let s = may.settled (disk_of state old).seen (seen_left old.disk.now may.honest) in (s.entries, s.files, s.recovers, s.settled)

  module _ (kept : Kept) (keeps : (entries : List Entry) (files : Contents) → Recovers (ledger_of old) (stage_of old) entries files (disk_of state old).seen → Keeps entries kept) (agrees : Agrees kept.input (input_text (input_for request.spec request.q)))
      (spans : List Span) (low : AllSpans spans IsSpan)
      (are : (entries : List Entry) → AreOf (rule_of request.spec.rotation) entries kept → AreSpansOf (rule_of request.spec.rotation) kept.places entries (map (λ name. name.text) (names_in request.q)) (Some before.folder) (Some after_logs.folder) spans)
      (ledger_is : request.spec.checkpoint ≡ Some (ledger_of old)) (stage_is : stage_of old ≡ ledger_of old ++ codes ".stage") where
    module _ (gate : Commit D) (entry : Entry) (counts : Counts) (comes : ComesToGate state request template (Some before.folder) (Some after_logs.folder) spans old gate entry counts) where
      abbrev pub started : Commit D
      started = comes.stages.started

      to_started : Same old started
      to_started = same_on old comes.settled started comes.settles.same comes.stages.starts.same

      files_same : started.files ≡ old.files
      files_same = to_started.files

      pub made : (entries : List Entry) (files : Contents) → Recovers (ledger_of old) (stage_of old) entries files (disk_of state old).seen → IsSettled meaning before.written setting.start entries files → Settled state started entries files
          → Makes state only_now seen_left counts_now meaning setting (asked_by_request request) before after_logs old entry started comes.staged entries files
      made entries files recovers settled here =
          let first = (comes.settles.settled unsettled entries files recovers).0 in
          let ks = keeps entries files recovers in
          let rule : rule_of request.spec.rotation ≡ setting.rotation = rule_is words request template into read text_law (setting_by old setting) before after_logs (disk_of state old) (seen_left old.disk.now may.honest) may gain entries files recovers settled kept ks agrees in
          let numbers_are = subst (λ (r : Rotation). KnowsNumbers r entries) (sym rule) (numbered setting.rotation meaning setting.parting before setting.start entries files may.parts may.shows may.known settled) in
          let tells = honest_tells comes.settled.disk.now first.honest in
          let empty = comes.stages.empty tells in
          let same : stage_of comes.staged ≡ stage_of started = ap (λ (f : CommitFiles). f.stage) comes.stages.run.goes.same.files in
          let ledger_same : ledger_of comes.staged ≡ ledger_of started = ap (λ (f : CommitFiles). f.ledger) comes.stages.run.goes.same.files in
          let own : Same started started = record { same_reference = refl; files = refl } in
          let shown = (done_on state only_now seen_left started started entries files own here).1 in
          let small : length (payload_of entry) < 2 ^ 64 = comes.seals.small in
          subst (λ (e : Entry). Makes state only_now seen_left counts_now meaning setting (asked_by_request request) before after_logs old e started comes.staged entries files) (sym comes.stages.run.entry_is)
          (makes state only_now seen_left counts_now _ words request template into read text_law setting before after_logs old may gain entries files recovers settled kept ks agrees spans low
          (are entries (record { keeps = ks; numbered = numbers_are }))
          started comes.staged comes.stages.run.took comes.stages.run.outputs counts comes.stages.givens comes.stages.lists comes.stages.give comes.stages.run.carried
          empty.0 same (ledger_is ∙ ap (λ (f : CommitFiles). Some f.ledger) (sym files_same)) (ap (λ (f : CommitFiles). f.stage) files_same ∙ (stage_is ∙ ap (λ (f : CommitFiles). f.ledger ++ codes ".stage") (sym files_same)))
          (λ name other. (shown name other).0)
          comes.stages.run.few comes.stages.run.parts (λ form. subst IsEntry comes.stages.run.entry_is (comes.stages.run.formed form)) (subst (λ (e : Entry). length (payload_of e) < 2 ^ 64) comes.stages.run.entry_is small) ledger_same)

    -- a run that is whole
    pub commits : (new : Commit D) (counts : Counts) (committed : IsCommitted state request template (Some before.folder) (Some after_logs.folder) spans old new counts)
        → RunStep meaning (setting_by old setting) (asked_by_request request) well before after_logs (disk_of state old) (disk_of state new)
    commits new counts c = step_whole state only_now seen_left counts_now meaning setting (asked_by_request request) before after_logs old c.entry c.comes.settled c.comes.stages.started c.comes.staged c.gate
        unsettled c.comes.settles c.comes.stages.starts c.comes.stages.run.goes c.comes.seals (made c.gate c.entry counts c.comes) new c.opens c.done some_state

    -- and its counts are those of its entry
    pub commits_counted : (new : Commit D) (counts : Counts) (committed : IsCommitted state request template (Some before.folder) (Some after_logs.folder) spans old new counts) → HasCounted (setting_by old setting) before (disk_of state old) (disk_of state new) counts
    commits_counted new counts c = record {
      has = λ entries files recovers settled.
          let end = whole_seen state only_now seen_left counts_now meaning setting (asked_by_request request) before after_logs old c.entry c.comes.settled c.comes.stages.started c.comes.staged c.gate
          unsettled c.comes.settles c.comes.stages.starts c.comes.stages.run.goes c.comes.seals (made c.gate c.entry counts c.comes) new c.opens c.done entries files recovers settled in
          record {
            entry = c.entry;
            after = end.0;
            recovers = end.1;
            processed = ap (λ (e : Entry). e.processed) c.comes.stages.run.entry_is;
            output = ap (λ (e : Entry). e.output) c.comes.stages.run.entry_is;
            bad = ap (λ (e : Entry). e.bad) c.comes.stages.run.entry_is;
          };
    }

    -- a run that the disk stops at its gate or behind it
    pub stops_at_gate : (new : Commit D) (stop : RunStop) (stops : StopsAtGate state request template (Some before.folder) (Some after_logs.folder) spans old new stop)
        → RunStep meaning (setting_by old setting) (asked_by_request request) disk_failed before after_logs (disk_of state old) (disk_of state new)
    stops_at_gate new stop s = step_stopped state only_now seen_left counts_now meaning setting (asked_by_request request) before after_logs old s.entry s.comes.settled s.comes.stages.started s.comes.staged s.gate
        unsettled s.comes.settles s.comes.stages.starts s.comes.stages.run.goes s.comes.seals (made s.gate s.entry s.counts s.comes) new s.opens some_state

    -- and it finds no damage there
    pub gate_undamaged : (new : Commit D) (stop : RunStop) → StopsAtGate state request template (Some before.folder) (Some after_logs.folder) spans old new stop → IsDamagedStop stop → ⊥
    gate_undamaged new stop s damaged =
        let some = some_state in
        let g = at_gate state only_now seen_left counts_now meaning setting (asked_by_request request) before after_logs old s.entry s.comes.settled s.comes.stages.started s.comes.staged s.gate
        unsettled s.comes.settles s.comes.stages.starts s.comes.stages.run.goes s.comes.seals (made s.gate s.entry s.counts s.comes) some.0 some.1 some.2 some.3 in
        s.undamaged damaged some.0 some.1 g.made.with_entry g.sealed
