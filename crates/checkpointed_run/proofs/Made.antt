-- What a run makes of the settled disk on which it was started: the next entry, of what was asked, with its texts staged.
use Rattle.std.proofs.Common.{◌≡◌, ℕ, ◌+◌, ◌<◌, ◌≤◌, ◌^◌, ◌++◌, List, length, map, Some, refl, sym, ◌∙◌, ap, subst, arith, true}
use Rattle.std.specs.Prelude.{codes}
use Rattle.disk_model.specs.Disk.{DiskState, IsImage}
use Rattle.disk_model.specs.Disk.{Files as Contents}
use Rattle.ledger_model.specs.Entries.{Entry}
use Rattle.ledger_model.specs.Inputs.{input_text}
use Rattle.lp_outside.specs.declared.stage.Mark.{Mark}
use Rattle.recovery_model.specs.Recovered.{IsOther, Recovers}
use Rattle.grammar.specs.Filled.{PlacedGiven, given_bad}
use Rattle.grammar.specs.Trees.{Placed}
use Rattle.commit.specs.declared.phases.Commit.{Commit}
use Rattle.commit.specs.Phases.{disk_of, ledger_of, stage_of, staged_of, HasFrames}
use Rattle.commit.specs.States.{HasStaged}
use Rattle.ledger_model.specs.Grammar.{IsEntry, payload_of}
use Rattle.run_entry.specs.Formats.{lines_in, log_format}
use Rattle.log_reading.specs.Spans.{AllSpans, IsSpan, took_of}
use Rattle.log_reading.specs.declared.span.Span.{Span}
use Rattle.log_reading.specs.declared.span.Took.{Took}
use Rattle.lp_model.specs.Reading.{Format}
use Rattle.lp_values.specs.declared.value.Value.{Value}
use Rattle.positions.specs.Places.{Kept, Keeps}
use Rattle.positions.specs.Spans.{Agrees}
use Rattle.positions.specs.Spanning.{AreSpansOf, rule_of}
use Rattle.positions.proofs.ReadTo.{are_listed}
use Rattle.query_run.specs.declared.executing.Counts.{Counts}
use Rattle.command_words.specs.Table.{errors_of, file_mode_of}
use Rattle.query_text.specs.Stdin.{names_in}
use Rattle.run_model.specs.Logs.{Logs}
use Rattle.run_model.specs.Listed.{AreListed}
use Rattle.run_model.specs.Right.{IsSettled, bad_in}
use Rattle.run_model.specs.Steps.{Setting, Gain, MayRun, IsOfAsked}
use Rattle.text_output.specs.declared.target.Output.{Output}
use Rattle.tpl_output.specs.Sections.{Sections}
use Rattle.run_entry.specs.Inputs.{format_in, input_for}
use Rattle.run_entry.specs.Meaning.{KeepsLists, meaning, mode_as}
use Rattle.run_entry.proofs.Meant.{bad_are}
use Rattle.run_entry.proofs.Options.{errors_by_options, mode_by_options}
use Rattle.run_entry.specs.Giving.{GiveThese}
use Rattle.run_entry.specs.Entries.{Request, kept_span}
use Rattle.run_entry.specs.Forms.{HasForm}
use Rattle.checkpointed_run.specs.Carried.{IsCarriedOut}
use Rattle.checkpointed_run.specs.Filled.{filled_request}
use Rattle.checkpointed_run.specs.Grounds.{IsRead, GoOn, asked_by_request}
use Rattle.checkpointed_run.specs.Staged.{AreParts}
use Rattle.checkpointed_run.proofs.Asking.{IsReadWith, go_filled, law_filled, read_filled}
use Rattle.checkpointed_run.proofs.Formed.{has_form}
use Rattle.checkpointed_run.proofs.Grounded.{asks as asks_by, grounded, are_now, reaches_logs}
use Rattle.checkpointed_run.proofs.Next.{entry, next, staged, after, is_met, sound, spans_are, holds, kept as all_kept}
use Rattle.checkpointed_run.proofs.Steps.{Makes, setting_by}
use Rattle.checkpointed_run.proofs.Taken.{are_taken, numbered}

module _ {D : Type 0} (state : D → DiskState)
    (only_now : (disk : D) (image : Contents) → (state disk).honest → (state disk).left_since (state disk).moment image → IsImage (state disk) image)
    (seen_left : (disk : D) → (state disk).honest → IsImage (state disk) (state disk).seen)
    (counts_now : (disk : D) (t : ℕ) (image : Contents) → (state disk).honest → t ≤ (state disk).moment → IsImage (state disk) image → (state disk).left_since t image)
    (ended : Commit D → List ℕ → ℕ → Mark → Type 0) (words : List (List ℕ)) (request : Request) (template : Sections) (into : Placed) (read : IsRead words request template into)
    (text_law : format_in (input_text (input_for request.spec request.q)) ≡ lines_in (log_format request.spec request.q))
    (setting : Setting) (before after_logs : Logs) (old : Commit D) (may : MayRun meaning (setting_by old setting) (asked_by_request request) before (disk_of state old)) (gain : Gain setting.rotation setting.parting before after_logs)
    (entries : List Entry) (files : Contents) (recovers : Recovers (ledger_of old) (stage_of old) entries files (disk_of state old).seen) (settled : IsSettled meaning before.written setting.start entries files)
    (kept : Kept) (keeps : Keeps entries kept) (agrees : Agrees kept.input (input_text (input_for request.spec request.q)))
    (spans : List Span) (low : AllSpans spans IsSpan)
    (are : AreSpansOf (rule_of request.spec.rotation) kept.places entries (map (λ name. name.text) (names_in request.q)) (Some before.folder) (Some after_logs.folder) spans)
    (started now : Commit D) (took : List Took) (outputs : List Output) (counts : Counts) (givens : List PlacedGiven) (lists : List (List Value)) (give : GiveThese request.spec request.moment (Some before.folder) (Some after_logs.folder) request.q givens lists)
    (carried : IsCarriedOut state ended (filled_request givens request) template (Some after_logs.folder) spans started now took outputs counts)
    (has : HasFrames state started) (same : stage_of now ≡ stage_of started) (ledger_is : request.spec.checkpoint ≡ Some (ledger_of started)) (stage_is : stage_of started ≡ ledger_of started ++ codes ".stage")
    (shown : (name : List ℕ) → IsOther (ledger_of started) (stage_of started) name → (disk_of state started).seen name ≡ files name) where
  -- what was asked, with what the subqueries gave
  abbrev pub whole : Request
  whole = filled_request givens request

  abbrev pub lines : Format
  lines = lines_in (log_format whole.spec whole.q)

  pub read_whole : IsReadWith words whole request.q givens template into
  read_whole = read_filled words request givens template into read

  pub whole_law : format_in (input_text (input_for whole.spec whole.q)) ≡ lines
  whole_law = law_filled request.spec givens request.q text_law

  pub go : GoOn whole after_logs.written after_logs.folder entries spans
  go = go_filled request givens after_logs.written after_logs.folder entries spans
      (grounded words request template into read text_law (setting_by old setting) before after_logs (disk_of state old) (seen_left old.disk.now may.honest) may gain entries files recovers settled kept keeps agrees spans low are)

  pub errors_are : whole.spec.errors ≡ meaning.most_bad whole.spec.words
  errors_are = read.asked.errors ∙ (sym (errors_by_options words) ∙ ap errors_of (sym read.asked.words_given))

  pub mode_is : mode_as whole.spec.file_mode ≡ meaning.mode whole.spec.words
  mode_is = ap mode_as (read.asked.file_mode ∙ (sym (mode_by_options words) ∙ ap file_mode_of (sym read.asked.words_given)))

  abbrev pub made_entry : Entry
  made_entry = entry state ended words whole template into after_logs.written after_logs.folder spans started now took outputs counts entries files request.q givens lists (Some before.folder) give read_whole carried go whole_law has same ledger_is stage_is shown errors_are mode_is

  pub kept_spans : made_entry.spans ≡ map (λ (span : Span). kept_span (took_of lines true after_logs.folder span)) spans
  kept_spans = spans_are state ended words whole template into after_logs.written after_logs.folder spans started now took outputs counts entries files request.q givens lists (Some before.folder) give read_whole carried go whole_law has same ledger_is stage_is shown errors_are mode_is

  abbrev pub listing : AreSpansOf setting.rotation kept.places entries (map (λ name. name.text) (names_in request.q)) (Some before.folder) (Some after_logs.folder) spans
  listing = are_now words request template into read text_law (setting_by old setting) before after_logs (disk_of state old) (seen_left old.disk.now may.honest) may gain entries files recovers settled kept keeps agrees spans low are

  -- the bad lines of the subqueries, and those of the spans
  pub bad_total : made_entry.bad ≡ given_bad whole.q + bad_in (meaning.format made_entry.input) after_logs.written made_entry.spans
  bad_total =
      let met_bad = (is_met state ended words whole template into after_logs.written after_logs.folder spans started now took outputs counts entries files request.q givens lists (Some before.folder) give read_whole carried go whole_law has same ledger_is stage_is shown errors_are mode_is).bad in
      let parts = sound state ended words whole template into after_logs.written after_logs.folder spans started now took outputs counts entries files request.q givens lists (Some before.folder) give read_whole carried go whole_law has same ledger_is stage_is shown errors_are mode_is in
      let here = bad_are lines after_logs.written after_logs.folder spans made_entry.spans parts in
      let by = ap (λ (f : Format). bad_in f after_logs.written made_entry.spans) whole_law in
      met_bad ∙ ap (λ (n : ℕ). given_bad whole.q + n) (sym here ∙ sym by)

  -- the entry lists the logs that are listed
  pub listed : AreListed setting.rotation entries (listing.reached) before.folder after_logs.folder made_entry.spans
  listed = subst (AreListed setting.rotation entries (listing.reached) before.folder after_logs.folder) (sym kept_spans)
      (are_listed setting.rotation entries kept (map (λ name. name.text) (names_in request.q)) before.folder after_logs.folder spans (map (λ (span : Span). kept_span (took_of lines true after_logs.folder span)) spans)
      (record { keeps = keeps; numbered = numbered setting.rotation meaning setting.parting before setting.start entries files may.parts may.shows may.known settled })
      listing (are_taken lines after_logs.folder spans))

  -- its lists are those that the subqueries gave
  pub kept_lists : KeepsLists (asked_by_request request) before.folder after_logs.folder made_entry.lists (given_bad whole.q)
  kept_lists = record {
    spec = request.spec;
    q = request.q;
    asks = asks_by words request template into read text_law (setting_by old setting) before after_logs (disk_of state old) (seen_left old.disk.now may.honest) may gain entries files recovers settled kept keeps agrees;
    givens = givens;
    values = lists;
    give = give;
    kept = refl;
    bad_is = refl;
  }

  pub of_asked : IsOfAsked meaning (setting_by old setting) (asked_by_request request) entries before after_logs made_entry
  of_asked = record {
    asked_is = refl;
    reached = listing.reached;
    reaches = reaches_logs words request template into read text_law (setting_by old setting) before after_logs (disk_of state old) (seen_left old.disk.now may.honest) may gain entries files recovers settled kept keeps agrees spans low are;
    listed = listed;
    bad = given_bad whole.q;
    keeps = kept_lists;
    bad_is = bad_total;
  }

  -- what the entry has of the run has its form
  pub formed : length spans ≤ 100_000 → AreParts whole.spec.words whole.template lists took outputs counts → HasForm whole lists took outputs (staged_of now) counts
  formed few parts =
      let staged = now.within in
      has_form _ _ _ started now words whole request.q givens lists template into after_logs.folder spans took _ outputs (staged_of now) counts read_whole low few
      (carried.took_is (all_kept state ended words whole template into after_logs.written after_logs.folder spans started now took outputs counts entries files request.q givens lists (Some before.folder) give read_whole carried go whole_law has same ledger_is stage_is shown errors_are mode_is))
      (holds state ended words whole template into after_logs.written after_logs.folder spans started now took outputs counts entries files request.q givens lists (Some before.folder) give read_whole carried go whole_law has same ledger_is stage_is shown errors_are mode_is)
      (omega (arith, staged)) parts

  -- the files that it makes
  abbrev pub files_after : Contents
  files_after = after state ended words whole template into after_logs.written after_logs.folder spans started now took outputs counts entries files request.q givens lists (Some before.folder) give read_whole carried go whole_law has same ledger_is stage_is shown errors_are mode_is

  -- what the run makes
  pub makes : length spans ≤ 100_000 → AreParts whole.spec.words whole.template lists took outputs counts → (HasForm whole lists took outputs (staged_of now) counts → IsEntry made_entry) → length (payload_of made_entry) < 2 ^ 64 → ledger_of now ≡ ledger_of started → Makes state only_now seen_left counts_now meaning setting (asked_by_request request) before after_logs old made_entry started now entries files
  makes few parts law small ledger_now = record {
    with_entry = files_after;
    next = next state ended words whole template into after_logs.written after_logs.folder spans started now took outputs counts entries files request.q givens lists (Some before.folder) give read_whole carried go whole_law has same ledger_is stage_is shown errors_are mode_is;
    of_asked = of_asked;
    staged_is = subst (λ (l : List ℕ). HasStaged (disk_of state now) l (stage_of now) made_entry files files_after) (sym ledger_now)
        (subst (λ (s : List ℕ). HasStaged (disk_of state now) (ledger_of started) s made_entry files files_after) (sym same)
        (staged state ended words whole template into after_logs.written after_logs.folder spans started now took outputs counts entries files request.q givens lists (Some before.folder) give read_whole carried go whole_law has same ledger_is stage_is shown errors_are mode_is (law (formed few parts)) small));
  }
