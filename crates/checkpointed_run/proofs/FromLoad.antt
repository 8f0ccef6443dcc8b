-- A run over the logs behind FROM, from some moment before the load of its ledger on, is a step of the world: whole, stopped at its gate or behind it, or before it.
use Rattle.std.proofs.Common.{◌≡◌, ◌≢◌, ℕ, ◌≤◌, ◌++◌, List, map, Some}
use Rattle.std.specs.Prelude.{codes}
use Rattle.disk_model.specs.Disk.{DiskState, IsImage}
use Rattle.disk_model.specs.Disk.{Files as Contents}
use Rattle.ledger_model.specs.Entries.{Entry}
use Rattle.ledger_model.specs.Inputs.{input_text}
use Rattle.recovery_model.specs.Recovered.{Recovers}
use Rattle.lp_model.specs.Outside.{Folder, Grows}
use Rattle.grammar.specs.Trees.{Placed}
use Rattle.commit.specs.declared.phases.Commit.{Commit}
use Rattle.commit.specs.Phases.{disk_of, ledger_of, stage_of, Same, SettlesHeld, Unsettled}
use Rattle.run_entry.specs.Formats.{lines_in, log_format}
use Rattle.log_reading.specs.Spans.{AllSpans, IsSpan}
use Rattle.log_reading.specs.declared.span.Span.{Span}
use Rattle.positions.specs.Places.{Kept, Keeps}
use Rattle.positions.specs.Spans.{Agrees}
use Rattle.positions.specs.Spanning.{AreOf, AreSpansOf, rule_of}
use Rattle.query_run.specs.declared.executing.Counts.{Counts}
use Rattle.query_text.specs.Stdin.{names_in}
use Rattle.run_model.specs.Logs.{Logs}
use Rattle.run_model.specs.Steps.{Setting, Gain, MayRun, Ending, well, disk_failed, RunStep}
use Rattle.tpl_output.specs.Sections.{Sections}
use Rattle.run_entry.specs.Inputs.{format_in, input_for}
use Rattle.run_entry.specs.Meaning.{meaning}
use Rattle.run_entry.proofs.OneMeaning.{is_one}
use Rattle.run_entry.specs.Entries.{Request}
use Rattle.checkpointed_run.specs.Committed.{IsCommitted, StopsAtGate}
use Rattle.checkpointed_run.specs.Grounds.{IsRead, asked_by_request}
use Rattle.checkpointed_run.specs.Steps.{HasCounted}
use Rattle.checkpointed_run.specs.Stops.{IsDamagedStop}
use Rattle.checkpointed_run.specs.declared.running.RunStop.{RunStop}
use Rattle.checkpointed_run.proofs.Earlier.{spans_wider}
use Rattle.checkpointed_run.proofs.Rested.{settles_behind, committed_behind, stopped_behind}
use Rattle.checkpointed_run.proofs.Steps.{setting_by}
use Rattle.checkpointed_run.proofs.Whole.{unsettled, stops_before, commits, commits_counted, stops_at_gate, gate_undamaged}

module _ {D : Type 0} (state : D → DiskState)
    (only_now : (disk : D) (image : Contents) → (state disk).honest → (state disk).left_since (state disk).moment image → IsImage (state disk) image)
    (seen_left : (disk : D) → (state disk).honest → IsImage (state disk) (state disk).seen)
    (counts_now : (disk : D) (t : ℕ) (image : Contents) → (state disk).honest → t ≤ (state disk).moment → IsImage (state disk) image → (state disk).left_since t image)
    (honest_tells : (disk : D) → (state disk).honest → (state disk).tells)
    (words : List (List ℕ)) (request : Request) (template : Sections) (into : Placed) (read : IsRead words request template into)
    (text_law : format_in (input_text (input_for request.spec request.q)) ≡ lines_in (log_format request.spec request.q))
    (setting : Setting) (before after_logs : Logs) (first old : Commit D) (may : MayRun meaning (setting_by first setting) (asked_by_request request) before (disk_of state first)) (gain : Gain setting.rotation setting.parting before after_logs)
    (same : Same first old) (near : Unsettled state first → SettlesHeld state first old) where
  -- the disk can be settled
  pub can_settle : Unsettled state first
  can_settle = unsettled state only_now seen_left counts_now honest_tells words request template into read text_law setting before after_logs first may gain is_one

  abbrev pub IsStep : Ending → Commit D → Type 0
  IsStep ending new = RunStep meaning (setting_by first setting) (asked_by_request request) ending before after_logs (disk_of state first) (disk_of state new)

  -- the ledger wasn't loaded, or its logs have no spans
  pub step_not_begun : (ending : Ending) → ending ≢ well → IsStep ending old
  step_not_begun ending not_well = stops_before state only_now seen_left counts_now honest_tells words request template into read text_law setting before after_logs first may gain is_one ending old not_well near

  -- the run stopped before its gate
  pub step_before_gate : (ending : Ending) (new : Commit D) → ending ≢ well → (Unsettled state old → SettlesHeld state old new) → IsStep ending new
  step_before_gate ending new not_well settles = stops_before state only_now seen_left counts_now honest_tells words request template into read text_law setting before after_logs first may gain is_one ending new not_well
      (settles_behind state counts_now first old same near new settles)

  module _ (kept : Kept) (keeps : (entries : List Entry) (files : Contents) → Recovers (ledger_of first) (stage_of first) entries files (disk_of state first).seen → Keeps entries kept) (agrees : Agrees kept.input (input_text (input_for request.spec request.q)))
      (mid now : Folder) (grown : Grows before.folder mid) (since : Grows before.folder now) (grows : Grows now after_logs.folder) (spans : List Span) (low : AllSpans spans IsSpan)
      (are : (entries : List Entry) → AreOf (rule_of request.spec.rotation) entries kept → AreSpansOf (rule_of request.spec.rotation) kept.places entries (map (λ name. name.text) (names_in request.q)) (Some mid) (Some now) spans)
      (ledger_is : request.spec.checkpoint ≡ Some (ledger_of first)) (stage_is : stage_of first ≡ ledger_of first ++ codes ".stage") where
    wider : (entries : List Entry) → AreOf (rule_of request.spec.rotation) entries kept → AreSpansOf (rule_of request.spec.rotation) kept.places entries (map (λ name. name.text) (names_in request.q)) (Some before.folder) (Some after_logs.folder) spans
    wider entries of = spans_wider before.folder mid now after_logs.folder grown grows (rule_of request.spec.rotation) kept.places entries (map (λ name. name.text) (names_in request.q)) spans (are entries of)

    behind : (new : Commit D) (counts : Counts) → IsCommitted state request template (Some now) (Some after_logs.folder) spans old new counts → IsCommitted state request template (Some before.folder) (Some after_logs.folder) spans first new counts
    behind new counts is = committed_behind state counts_now first old same near request template (Some before.folder) (Some now) (Some after_logs.folder) spans new counts since is

    stopped : (new : Commit D) (stop : RunStop) → StopsAtGate state request template (Some now) (Some after_logs.folder) spans old new stop → StopsAtGate state request template (Some before.folder) (Some after_logs.folder) spans first new stop
    stopped new stop is = stopped_behind state counts_now first old same near request template (Some before.folder) (Some now) (Some after_logs.folder) spans new stop since is

    -- the run was whole
    pub step_committed : (new : Commit D) (counts : Counts) (is : IsCommitted state request template (Some now) (Some after_logs.folder) spans old new counts) → IsStep well new
    step_committed new counts is = commits state only_now seen_left counts_now honest_tells words request template into read text_law setting before after_logs first may gain is_one
        kept keeps agrees spans low wider ledger_is stage_is new counts (behind new counts is)

    pub counted : (new : Commit D) (counts : Counts) (is : IsCommitted state request template (Some now) (Some after_logs.folder) spans old new counts) → HasCounted (setting_by first setting) before (disk_of state first) (disk_of state new) counts
    counted new counts is = commits_counted state only_now seen_left counts_now honest_tells words request template into read text_law setting before after_logs first may gain is_one
        kept keeps agrees spans low wider ledger_is stage_is new counts (behind new counts is)

    -- the disk stopped it at its gate or behind it
    pub step_at_gate : (new : Commit D) (stop : RunStop) (is : StopsAtGate state request template (Some now) (Some after_logs.folder) spans old new stop) → IsStep disk_failed new
    step_at_gate new stop is = stops_at_gate state only_now seen_left counts_now honest_tells words request template into read text_law setting before after_logs first may gain is_one
        kept keeps agrees spans low wider ledger_is stage_is new stop (stopped new stop is)

    pub undamaged_at_gate : (new : Commit D) (stop : RunStop) (is : StopsAtGate state request template (Some now) (Some after_logs.folder) spans old new stop) → IsDamagedStop stop → ⊥
    undamaged_at_gate new stop is = gate_undamaged state only_now seen_left counts_now honest_tells words request template into read text_law setting before after_logs first may gain is_one
        kept keeps agrees spans low wider ledger_is stage_is new stop (stopped new stop is)
