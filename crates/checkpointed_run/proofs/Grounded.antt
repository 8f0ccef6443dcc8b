-- What a run rests on holds where a call may rest on the world's conditions, and its spans were listed by the kept places.
use Rattle.std.proofs.Common.{◌≡◌, ⊎_elim, ℕ, suc, true, List, [], ◌∷◌, length, map, Some, None, inl, inr, refl, sym, ◌∙◌, ap, subst, arith}
use Rattle.std.specs.List.{AllByRecursion, AllZip}
use Rattle.disk_model.specs.Disk.{DiskState, IsImage}
use Rattle.disk_model.specs.Disk.{Files as Contents}
use Rattle.ledger_model.specs.Entries.{Entry}
use Rattle.ledger_model.specs.Inputs.{input_text}
use Rattle.recovery_model.specs.Recovered.{Recovers}
use Rattle.lp_model.specs.Lines.{lines_of}
use Rattle.lp_model.specs.Reading.{Format, lines_before, standing_at, standing_behind}
use Rattle.lp_model.proofs.Ordered.{none_by, ordered_lines}
use Rattle.log_reading.specs.Spans.{AllSpans, IsSpan, took_of}
use Rattle.log_reading.specs.declared.span.Span.{Span}
use Rattle.command_words.specs.Table.{rotation_of}
use Rattle.query_text.specs.Stdin.{names_in}
use Rattle.run_entry.specs.Formats.{lines_in, log_format}
use Rattle.run_model.specs.Kept.{spans_of}
use Rattle.run_model.specs.Listed.{Listed, Lists, ListsStem}
use Rattle.run_model.specs.Logs.{Rotation, names, numbers, Logs}
use Rattle.run_model.specs.Right.{IsSettled}
use Rattle.run_model.specs.Steps.{Setting, Gain, MayRun}
use Rattle.positions.specs.Places.{Kept, Keeps}
use Rattle.positions.specs.Spans.{Agrees}
use Rattle.positions.specs.Spanning.{AreSpansOf, Reaches, rule_of}
use Rattle.tpl_output.specs.Sections.{Sections}
use Rattle.grammar.specs.Trees.{Placed}
use Rattle.run_entry.specs.ProgramMeaningAsked.{Asks}
use Rattle.run_entry.specs.Inputs.{format_in, input_for}
use Rattle.run_entry.specs.Meaning.{meaning, IsInput, ReachesLogs, HaveFiles, HasFile}
use Rattle.run_entry.proofs.Options.{rotation_by_options}
use Rattle.run_entry.specs.Entries.{Request, kept_span}
use Rattle.checkpointed_run.specs.Grounds.{IsRead, GoOn, asked_by_request}
use Rattle.checkpointed_run.proofs.Apart.{are_apart}
use Rattle.checkpointed_run.proofs.Columns.{standing_fits}
use Rattle.checkpointed_run.proofs.Found.{all_found}
use Rattle.checkpointed_run.proofs.Going.{EndsWell, all_end}
use Rattle.checkpointed_run.proofs.OneStanding.{one_standing}
use Rattle.checkpointed_run.proofs.SameInput.{all_same_input}
use Rattle.checkpointed_run.proofs.Shown.{IsFound, all_shown}
use Rattle.checkpointed_run.proofs.Spanned.{IsShown, all_sound, all_go_on}
use Rattle.worlds.proofs.Good.{settled_grown}
use Rattle.worlds.proofs.Live.{live_setting}
use Rattle.checkpointed_run.proofs.Starts.{lines_start}

pub spans_low : (spans : List Span) → AllSpans spans IsSpan → AllByRecursion IsSpan spans
spans_low [] all = tt
spans_low (s ∷ spans) all = (all 0 s (omega arith) refl, spans_low spans (λ k t less at. all (suc k) t (omega (arith, less)) at))

module _ (words : List (List ℕ)) (request : Request) (template : Sections) (into : Placed) (read : IsRead words request template into)
    (text_law : format_in (input_text (input_for request.spec request.q)) ≡ lines_in (log_format request.spec request.q))
    (setting : Setting) (before after : Logs) (disk : DiskState) (seen_is : IsImage disk disk.seen) (may : MayRun meaning setting (asked_by_request request) before disk) (gain : Gain setting.rotation setting.parting before after)
    (entries : List Entry) (files : Contents) (recovers : Recovers setting.ledger setting.stage entries files disk.seen) (settled : IsSettled meaning before.written setting.start entries files)
    (kept : Kept) (keeps : Keeps entries kept) (agrees : Agrees kept.input (input_text (input_for request.spec request.q))) where
  abbrev pub lines : Format
  lines = lines_in (log_format request.spec request.q)

  pub asks : Asks (asked_by_request request) request.spec request.q
  asks = record { options = record { words = words; fine = read.fine; options_are = sym read.asked.words_given; asked = read.asked }; query = read.query; only = read.only }

  pub settled_now : IsSettled meaning after.written setting.start entries files
  settled_now = settled_grown meaning before.written after.written setting.start entries files gain.grown settled

  pub same_input : AllByRecursion (λ (entry : Entry). entry.input ≡ input_text (input_for request.spec request.q)) entries
  same_input = all_same_input meaning after.written (input_text (input_for request.spec request.q)) kept setting.start entries files keeps agrees settled_now

  pub all_with : {X : Type 0} (P Q : X → Type 0) → ((x : X) → P x → Q x) → (xs : List X) → AllByRecursion P xs → AllByRecursion Q xs
  all_with P Q to [] all = tt
  all_with P Q to (x ∷ xs) (p, all) = (to x p, all_with P Q to xs all)

  pub looks : meaning.looks (asked_by_request request) entries
  looks = all_with (λ (entry : Entry). entry.input ≡ input_text (input_for request.spec request.q)) (λ (entry : Entry). IsInput (asked_by_request request) entry.input) (λ entry is. record { spec = request.spec; q = request.q; asks = asks; is = is }) entries same_input

  -- the rule of the words is the world's
  pub rule_is : rule_of request.spec.rotation ≡ setting.rotation
  rule_is = ap rule_of (read.asked.rotation ∙ (sym (rotation_by_options words) ∙ ap rotation_of (sym read.asked.words_given))) ∙ may.names_are.rotation_is entries files recovers looks

  module _ (spans : List Span) (low : AllSpans spans IsSpan) (are : AreSpansOf (rule_of request.spec.rotation) kept.places entries (map (λ name. name.text) (names_in request.q)) (Some before.folder) (Some after.folder) spans) where
    pub are_now : AreSpansOf setting.rotation kept.places entries (map (λ name. name.text) (names_in request.q)) (Some before.folder) (Some after.folder) spans
    are_now = subst (λ (r : Rotation). AreSpansOf r kept.places entries (map (λ name. name.text) (names_in request.q)) (Some before.folder) (Some after.folder) spans) rule_is are

    pub have_files : (rotation : Rotation) (reached : List (List ℕ)) (listed : List Listed) → Lists rotation before.folder entries reached listed → HaveFiles rotation before.folder reached
    have_files names reached listed lists = tt
    have_files numbers reached listed lists = each reached lists.0 lists.1
      where
        each : (reached : List (List ℕ)) (some : List (List Listed)) → AllZip (ListsStem before.folder entries) reached some → AllByRecursion (HasFile before.folder) reached
        each [] [] zip = tt
        each [] (l ∷ some) zip = absurd zip
        each (stem ∷ reached) [] zip = absurd zip
        each (stem ∷ reached) (l ∷ some) (is, zip) = (⊎_elim (λ le. inr (is.first, is.there is.first (omega arith) le)) (λ there. inl there) is.some, each reached some zip)

    pub reaches_logs : ReachesLogs (asked_by_request request) before.folder are_now.reached
    reaches_logs = record {
      spec = request.spec;
      q = request.q;
      asks = asks;
      reaches = subst (λ (r : Rotation). Reaches r (Some before.folder) (map (λ name. name.text) (names_in request.q)) are_now.reached) (sym rule_is) are_now.reaches;
      there = subst (λ (r : Rotation). HaveFiles r before.folder are_now.reached) (sym rule_is) (have_files setting.rotation are_now.reached are_now.files are_now.lists);
    }

    pub found : AllByRecursion (IsFound setting.rotation setting.parting after) are_now.files
    found = all_found setting.rotation setting.parting before after entries (map (λ name. name.text) (names_in request.q)) are_now.reached are_now.files may.parts gain.shows gain.files gain.no_rotation are_now.reaches are_now.lists
        (may.names_are.are_logs are_now.reached reaches_logs)
        (λ by. may.names_are.are_stems by are_now.reached reaches_logs)
        (λ by stem count listed is l. live_setting meaning setting (asked_by_request request) before disk entries files stem count listed by seen_is may recovers settled is l)

    pub shown : AllByRecursion (IsShown after.written after.folder) spans
    shown = all_shown setting.rotation setting.parting after may.parts gain.shows kept.places (Some before.folder) (Some after.folder) are_now.files spans found are_now.each

    pub well : AllByRecursion (EndsWell lines after.written) (spans_of entries)
    well = subst (λ (f : Format). AllByRecursion (EndsWell f after.written) (spans_of entries)) text_law (all_end meaning after.written (input_text (input_for request.spec request.q)) [] setting.start entries files settled_now same_input)

    pub none_before : (bytes : List ℕ) → lines_before bytes true 0 ≡ []
    none_before bytes = none_by 0 0 (lines_of bytes true) (ordered_lines (length bytes) bytes true 1 0 (omega arith)) (omega arith)

    pub starts_empty : (bytes : List ℕ) → standing_at lines bytes true 0 ≡ record { lines = 0; columns = None }
    starts_empty bytes = ap (standing_behind lines) (none_before bytes) ∙ (λ i. record { lines = 0; columns = lines_start (log_format request.spec request.q) i })

    pub grounded : GoOn request after.written after.folder entries spans
    grounded = record {
      sound = all_sound lines after.written before.folder after.folder entries kept keeps well one_standing (standing_fits (log_format request.spec request.q)) starts_empty are_now.files spans are_now.each (spans_low spans low) shown;
      go_on = all_go_on lines after.written before.folder after.folder entries kept keeps well one_standing (standing_fits (log_format request.spec request.q)) starts_empty are_now.files spans are_now.each (spans_low spans low) shown;
      apart = are_apart setting.rotation kept.places entries (map (λ name. name.text) (names_in request.q)) before.folder (Some after.folder) spans (λ (span : Span). kept_span (took_of lines true after.folder span)) (λ s. refl) are_now;
      same_input = same_input;
    }
