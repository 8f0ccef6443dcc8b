-- A run that was carried out makes an entry that may come next, and its texts are staged.
use Rattle.std.proofs.Common.{◌≡◌, ◌≢◌, ℕ, zero, suc, ◌+◌, ◌<◌, ◌≤◌, ◌^◌, ◌||◌, Bool, true, false, true≢false, List, [], ◌∷◌, ◌++◌, length, map, filter, Option, Some, refl, sym, ◌∙◌, ap, subst, arith, inl, inr}
use Rattle.std.specs.Prelude.{IfSome, All, Ok, codes, bytes_eq}
use Rattle.std.specs.List.{AllByRecursion, AllZip}
use Rattle.std.proofs.lemmas.Bool.{cases_Bool}
use Rattle.std.proofs.lemmas.List.Elements.{All-head, All-tail}
use Rattle.std.proofs.lemmas.Slice.Eq.{bytes_eq-Decides}
use Rattle.grammar.specs.Filled.{PlacedGiven, filled, given_bad}
use Rattle.grammar.specs.Trees.{Placed, Query}
use Rattle.commit.specs.declared.phases.Commit.{Commit}
use Rattle.commit.specs.Phases.{disk_of, ledger_of, stage_of, staged_of, stage_state, HasFrames}
use Rattle.commit.specs.States.{HasStaged}
use Rattle.ledger_model.specs.Grammar.{IsEntry, payload_of}
use Rattle.disk_model.specs.Disk.{DiskState}
use Rattle.disk_model.specs.Disk.{Files as Contents}
use Rattle.run_entry.specs.Formats.{lines_in, log_format}
use Rattle.run_entry.specs.Outputs.{asked_in, files_named, forbidden_by, log_names, own_names}
use Rattle.run_entry.specs.Plans.{PlannedQuery, asked_for, query_plan}
use Rattle.run_entry.specs.Texts.{into_in, run_text}
use Rattle.ledger_model.specs.Entries.{Entry}
use Rattle.ledger_model.specs.Entries.{Span as EntrySpan}
use Rattle.ledger_model.specs.Inputs.{input_text}
use Rattle.log_listing.specs.Firsts.{is_among, with_name, with_names}
use Rattle.log_reading.specs.Spans.{AreKept, IsKept, cut_of, took_of}
use Rattle.log_reading.specs.declared.span.Span.{Span}
use Rattle.log_reading.specs.declared.span.Took.{Took}
use Rattle.lp_model.specs.Complete.{IsAmong}
use Rattle.lp_model.specs.Outside.{Folder}
use Rattle.lp_model.specs.Reading.{Format}
use Rattle.lp_outside.specs.declared.stage.Mark.{Mark}
use Rattle.lp_values.specs.declared.value.Value.{Value}
use Rattle.multiplex.proofs.Distinct.{Differ}
use Rattle.multiplex.proofs.Splits.{names_differ}
use Rattle.multiplex.specs.Splitting.{OutputRows, output_names, rows_named, split}
use Rattle.query_run.specs.declared.executing.Counts.{Counts}
use Rattle.recovery_model.specs.Recovered.{AreApart, IsOther}
use Rattle.row_output.specs.Asked.{Asked, Files, OutputText, left_of, asked_text}
use Rattle.row_output.specs.Files.{FilesHold}
use Rattle.row_output.specs.Rows.{Holds, HoldsAt}
use Rattle.run_model.specs.Logs.{Written}
use Rattle.run_model.specs.Meanings.{Given, Mode, Split, asked_of}
use Rattle.run_model.specs.Right.{IsNext, AreOutputs, AreApart as SpansApart, GoesOn, IsOutput, bad_in, parts_of, rows_in, takes_part}
use Rattle.text_output.specs.Output.{StageKind, kind_of}
use Rattle.text_output.specs.declared.target.Output.{Output}
use Rattle.tpl_output.specs.Sections.{Sections}
use Rattle.run_entry.specs.ProgramMeaningAsked.{Asks}
use Rattle.run_entry.specs.Gives.{Gives, GivesOver, split_of, past_in, rows_over, table_over}
use Rattle.run_entry.specs.Inputs.{format_in, input_for}
use Rattle.run_entry.specs.Meaning.{meaning, mode_as}
use Rattle.run_entry.specs.Lists.{with_lists}
use Rattle.run_entry.proofs.Filled.{PutsFilled, gives_filled, input_filled}
use Rattle.run_entry.proofs.Listed.{one_each, plan_with_lists}
use Rattle.run_entry.proofs.Meant.{ArePartsOf, past_is, rows_are, bad_are}
use Rattle.run_entry.specs.Giving.{GiveThese}
use Rattle.run_entry.specs.Entries.{Request, entry_for, kept_span, kept_output}
use Rattle.checkpointed_run.specs.Carried.{IsCarriedOut}
use Rattle.checkpointed_run.specs.Files.{files_with, ArePlaced}
use Rattle.checkpointed_run.specs.Grounds.{GoOn}
use Rattle.checkpointed_run.specs.Sound.{IsSound}
use Rattle.checkpointed_run.proofs.Asking.{IsReadWith}
use Rattle.checkpointed_run.proofs.Meant.{IsMet, met}
use Rattle.checkpointed_run.proofs.OutputsApart.{outputs_apart}
use Rattle.checkpointed_run.proofs.Placed.{outputs_are}
use Rattle.column_kinds.specs.Past.{Past}
use Rattle.column_kinds.specs.Spans.{past_of}
use Rattle.checkpointed_run.proofs.WithFiles.{NamesDiffer, files_are_with, staged_all}

-- the entry's spans

spans_kept : (format : Format) (folder : Folder) (spans : List Span) (took : List Took) → took ≡ map (took_of format true folder) spans → map kept_span took ≡ map (λ (span : Span). kept_span (took_of format true folder span)) spans
spans_kept format folder spans took is = ap (map kept_span) is ∙ twice spans
  where
    twice : (spans : List Span) → map kept_span (map (took_of format true folder) spans) ≡ map (λ (span : Span). kept_span (took_of format true folder span)) spans
    twice [] = refl
    twice (s ∷ ss) = ap (λ (l : List EntrySpan). kept_span (took_of format true folder s) ∷ l) (twice ss)

parts_are : (format : Format) (written : Written) (folder : Folder) (spans : List Span) → AllByRecursion (IsSound format written folder) spans → ArePartsOf format written folder spans (map (λ (span : Span). kept_span (took_of format true folder span)) spans)
parts_are format written folder [] sound = tt
parts_are format written folder (s ∷ ss) (here, sound) = (record { identity = refl; from = refl; to = refl; shows = here.shows; is_kept = here.is_kept }, parts_are format written folder ss sound)

kept_more : (format : Format) (folder : Folder) (t : Span) (ss : List Span) → IsKept format true (cut_of folder t) t → AreKept format true ss folder → AreKept format true (t ∷ ss) folder
kept_more format folder t ss here kept zero s less at = subst (λ (u : Span). IsKept format true (cut_of folder u) u) (sym at) here
kept_more format folder t ss here kept (suc k) s less at = kept k s (omega (arith, less)) at

each_kept : (format : Format) (written : Written) (folder : Folder) (spans : List Span) → AllByRecursion (IsSound format written folder) spans → AreKept format true spans folder
each_kept format written folder [] sound = λ k s less at. absurd (omega arith)
each_kept format written folder (t ∷ ss) (here, sound) = kept_more format folder t ss here.is_kept (each_kept format written folder ss sound)

-- where names differ, so do the splits of rows

pub test_first : (b rest : Bool) → (b || rest) ≡ false → b ≡ true → ⊥
test_first b rest none is = absurd (true≢false (sym (ap (λ (c : Bool). c || rest) is) ∙ none))

pub test_rest : (b rest : Bool) → (b || rest) ≡ false → rest ≡ false
test_rest true rest none = absurd (true≢false none)
test_rest false rest none = none

abbrev pub names_of : List OutputRows → List (List ℕ)
names_of each = map (λ (o : OutputRows). o.name) each

none_among : (name : List ℕ) (text : OutputText) (each : List OutputRows) → is_among (names_of each) name ≡ false → (s : Split) → IsAmong s (map (split_of text) each) → s.name ≢ name
none_among name text [] none s among = absurd among
none_among name text (o ∷ each) none s (inl e) = λ same. test_first (bytes_eq name o.name) (is_among (names_of each) name) none ((bytes_eq-Decides name o.name).1 (sym same ∙ ap (λ (t : Split). t.name) e))
none_among name text (o ∷ each) none s (inr more) = none_among name text each (test_rest (bytes_eq name o.name) (is_among (names_of each) name) none) s more

splits_differ : (text : OutputText) (each : List OutputRows) → Differ (names_of each) → NamesDiffer (map (split_of text) each)
splits_differ text [] differ = tt
splits_differ text (o ∷ each) (none, differ) = (none_among o.name text each none, splits_differ text each differ)

pub names_split : (pattern : List ℕ) (rows : List (List Value)) → names_of (split pattern rows) ≡ output_names pattern rows
names_split pattern rows = again (output_names pattern rows)
  where
    again : (names : List (List ℕ)) → names_of (map (λ name. record { name = name; rows = rows_named pattern rows name }) names) ≡ names
    again [] = refl
    again (n ∷ ns) = ap (λ (l : List (List ℕ)). n ∷ l) (again ns)

-- a name that isn't among forbidden ones is none of the commit's own

among_front : (xs ys : List (List ℕ)) (name : List ℕ) → is_among xs name ≡ true → is_among (xs ++ ys) name ≡ true
among_front [] ys name e = absurd (true≢false (sym e))
among_front (x ∷ xs) ys name e = elim (cases_Bool (bytes_eq name x)) [ inl is ↦ rw is refl | inr off ↦ rw off (among_front xs ys name (rw off at e)) ]

among_end : (xs : List (List ℕ)) (name : List ℕ) → is_among (xs ++ name ∷ []) name ≡ true
among_end [] name = rw ((bytes_eq-Decides name name).1 refl) refl
among_end (x ∷ xs) name = elim (cases_Bool (bytes_eq name x)) [ inl is ↦ rw is refl | inr off ↦ rw off (among_end xs name) ]

still_among : (names : List (List ℕ)) (n name : List ℕ) → is_among names name ≡ true → is_among (with_name names n) name ≡ true
still_among names n name e = elim (cases_Bool (is_among names n)) [ inl is ↦ rw is e | inr off ↦ rw off (among_front names (n ∷ []) name e) ]

now_among : (names : List (List ℕ)) (name : List ℕ) → is_among (with_name names name) name ≡ true
now_among names name = elim (cases_Bool (is_among names name)) [ inl is ↦ rw is is | inr off ↦ rw off (among_end names name) ]

kept_with : (names more : List (List ℕ)) (name : List ℕ) → is_among names name ≡ true → is_among (with_names names more) name ≡ true
kept_with names [] name there = there
kept_with names (n ∷ more) name there = kept_with (with_name names n) more name (still_among names n name there)

-- the first two of some names are among them
first_two : (a b : List ℕ) (more : List (List ℕ)) → (is_among (with_names [] (a ∷ b ∷ more)) a ≡ true) × (is_among (with_names [] (a ∷ b ∷ more)) b ≡ true)
first_two a b more = (
  kept_with (with_name (with_name [] a) b) more a (still_among (with_name [] a) b a (now_among [] a)),
  kept_with (with_name (with_name [] a) b) more b (now_among (with_name [] a) b),
)

-- the rows that were put are those of files
opened : {S : Type 0} (kind : StageKind S) (files : Files) (asked : Asked) (start now : S) (rows : List (List Value)) (outputs : List Output) → asked.files ≡ Some files → Holds kind asked start rows outputs now → FilesHold kind files (asked_text asked) start (left_of asked rows) outputs now
unfolding Holds
opened kind files asked start now rows outputs is holds = subst (λ (f : Option Files). HoldsAt f kind (asked_text asked) start (left_of asked rows) outputs now) is holds

module _ {D : Type 0} (state : D → DiskState) (ended : Commit D → List ℕ → ℕ → Mark → Type 0) (words : List (List ℕ)) (request : Request) (template : Sections) (into : Placed) (written : Written) (folder : Folder)
    (spans : List Span) (started now : Commit D) (took : List Took) (outputs : List Output) (counts : Counts) (entries : List Entry) (before : Contents)
    (q : Query) (givens : List PlacedGiven) (lists : List (List Value)) (earlier : Option Folder) (give : GiveThese request.spec request.moment earlier (Some folder) q givens lists)
    (read : IsReadWith words request q givens template into) (carried : IsCarriedOut state ended request template (Some folder) spans started now took outputs counts) (go : GoOn request written folder entries spans)
    (text_law : format_in (input_text (input_for request.spec request.q)) ≡ lines_in (log_format request.spec request.q))
    (has : HasFrames state started) (same : stage_of now ≡ stage_of started)
    (ledger_is : request.spec.checkpoint ≡ Some (ledger_of started)) (stage_is : stage_of started ≡ ledger_of started ++ codes ".stage")
    (shown : (name : List ℕ) → IsOther (ledger_of started) (stage_of started) name → (disk_of state started).seen name ≡ before name)
    (errors_are : request.spec.errors ≡ meaning.most_bad request.spec.words) (mode_is : mode_as request.spec.file_mode ≡ meaning.mode request.spec.words) where
  abbrev pub lines : Format
  lines = lines_in (log_format request.spec request.q)

  abbrev pub kind : StageKind (Commit D)
  kind = kind_of (stage_state state) ended

  abbrev pub entry : Entry
  entry = entry_for request lists took outputs (staged_of now) counts

  abbrev pub asked : PlannedQuery → Asked
  asked = asked_in request.spec template request.moment request.q spans

  -- the outputs' files, by what forbids them
  abbrev pub files_by : List (List ℕ) → Files
  files_by logs = record { pattern = into.text; forbidden = forbidden_by request.spec logs; mode = request.spec.file_mode }

  pub named_by : (logs : List (List ℕ)) → files_named request.spec logs (into_in request.q) ≡ Some (files_by logs)
  named_by logs = ap (files_named request.spec logs) read.into_is ∙ rw read.no_stdout refl

  abbrev pub logs : List (List ℕ)
  logs = log_names request.q spans

  pub kept : AreKept lines true spans folder
  kept = each_kept lines written folder spans go.sound

  pub is_met : IsMet (λ a rows. Holds kind a started rows outputs now) asked request.spec request.q request.moment folder spans counts
  is_met = met (λ a rows. Holds kind a started rows outputs now) asked request.spec request.q request.moment folder spans counts kept carried.executed

  abbrev pub past : Past
  past = past_of lines true folder spans

  abbrev pub rows : List (List Value)
  rows = rows_over (log_format request.spec request.q) request.spec.ts_format is_met.plan past

  -- what is asked of the rows, by what forbids the outputs
  abbrev pub asked_by_logs : List (List ℕ) → Asked
  asked_by_logs logs = asked_for (Some (files_by logs)) (run_text request.spec template request.moment request.q) request.q is_met.plan

  abbrev pub text : OutputText
  text = asked_text (asked_by_logs [])

  abbrev pub left : List (List Value)
  left = left_of (asked_by_logs []) rows

  pub holds : FilesHold kind (files_by logs) text started left outputs now
  holds = opened kind (files_by logs) (asked_by_logs logs) started now rows outputs refl
      (subst (λ (f : Option Files). Holds kind (asked_for f (run_text request.spec template request.moment request.q) request.q is_met.plan) started rows outputs now) (named_by logs) is_met.has)

  abbrev pub each : List OutputRows
  each = split into.text left

  abbrev pub splits : List Split
  splits = map (split_of text) each

  abbrev pub given : Given
  given = record { splits = splits; rows = length left }

  pub own : (name : List ℕ) → is_among (forbidden_by request.spec logs) name ≡ false → IsOther (ledger_of started) (stage_of started) name
  own name free = (
    (λ e. absurd (true≢false (sym two.0 ∙ (ap (is_among forbidden) (sym e) ∙ among)))),
    ((λ e. absurd (true≢false (sym two.1 ∙ (ap (is_among forbidden) (sym (e ∙ stage_is)) ∙ among)))), tt),
  )
    where
      forbidden : List (List ℕ)
      forbidden = with_names [] (ledger_of started ∷ (ledger_of started ++ codes ".stage") ∷ logs)

      two : (is_among forbidden (ledger_of started) ≡ true) × (is_among forbidden (ledger_of started ++ codes ".stage") ≡ true)
      two = first_two (ledger_of started) (ledger_of started ++ codes ".stage") logs

      among : is_among forbidden name ≡ false
      among = ap (λ (c : Option (List ℕ)). is_among (with_names [] (own_names c ++ logs)) name) (sym ledger_is) ∙ free

  abbrev pub IsFree : List ℕ → Type 0
  IsFree name = is_among (forbidden_by request.spec logs) name ≡ false

  pub others_in : (some : List OutputRows) → All IsFree (names_of some) → AllByRecursion (λ (o : OutputRows). IsOther (ledger_of started) (stage_of started) o.name) some
  others_in [] all = tt
  others_in (o ∷ some) all = (own o.name (All-head IsFree o.name (names_of some) all), others_in some (All-tail IsFree o.name (names_of some) all))

  pub placed : AllZip (IsOutput (mode_as request.spec.file_mode) before) (filter (takes_part (mode_as request.spec.file_mode) before) splits) (map kept_output outputs)
      × ArePlaced (disk_of state now) (stage_of started) 0 (map kept_output outputs) (filter (takes_part (mode_as request.spec.file_mode) before) splits)
  placed = outputs_are state ended (files_by logs) text started now before has same shown 0 each outputs (others_in each holds.good.free) holds.put

  pub differ : NamesDiffer splits
  differ = splits_differ text each (subst Differ (sym (names_split into.text left)) (names_differ into.text left))

  abbrev pub after : Contents
  after = files_with entry.outputs (filter (takes_part (mode_as request.spec.file_mode) before) splits) before

  pub spans_are : entry.spans ≡ map (λ (span : Span). kept_span (took_of lines true folder span)) spans
  spans_are = spans_kept lines folder spans took (carried.took_is kept)

  pub format_is : meaning.format entry.input ≡ lines
  format_is = text_law

  pub sound : ArePartsOf lines written folder spans entry.spans
  sound = subst (ArePartsOf lines written folder spans) (sym spans_are) (parts_are lines written folder spans go.sound)

  pub past_is_met : past_in (parts_of (meaning.format entry.input) written entry.spans) ≡ past
  past_is_met = ap (λ (f : Format). past_in (parts_of f written entry.spans)) format_is ∙ past_is lines written folder spans entry.spans sound

  pub asks : Asks (asked_of entry) request.spec q
  asks = record { options = record { words = words; fine = read.fine; options_are = sym read.asked.words_given; asked = read.asked }; query = read.query; only = read.only }

  -- the plan is that of the query with the lists
  pub is_listed : query_plan (table_over (log_format request.spec request.q) request.spec.ts_format past) request.moment (with_lists lists q) ≡ Ok is_met.plan
  is_listed = plan_with_lists request.spec request.moment earlier folder read.checkpoint q givens lists give (table_over (log_format request.spec request.q) request.spec.ts_format past) is_met.plan
      (ap (query_plan (table_over (log_format request.spec request.q) request.spec.ts_format past) request.moment) (sym read.whole_is) ∙ is_met.is_planned)

  pub gives : Gives (asked_of entry) (parts_of (meaning.format entry.input) written entry.spans) entry.lists given
  gives = subst (λ (p : Past). GivesOver (asked_of entry) p entry.lists given) (sym past_is_met)
      (gives_filled (asked_of entry) past request.spec q givens entry.lists lists given asks (record { kept = refl; each = one_each request.spec request.moment earlier folder read.checkpoint q givens lists give })
      (subst (λ (whole : Query). PutsFilled (asked_of entry) past request.spec q whole lists given) read.whole_is (record {
        template = template;
        is_template = read.sections;
        plan = is_met.plan;
        is_planned = is_listed;
        files = files_by [];
        are_files = named_by [];
        puts = record { splits = refl; rows_are = refl };
      })))

  pub outputs_as : AreOutputs (meaning.mode entry.words) before splits entry.outputs
  outputs_as = subst (λ (m : Mode). AreOutputs m before splits entry.outputs) mode_is placed.0

  pub bad_least : bad_in (meaning.format entry.input) written entry.spans ≤ entry.bad
  bad_least =
      let met_bad = is_met.bad in
      let here = bad_are lines written folder spans entry.spans sound in
      let by = ap (λ (f : Format). bad_in f written entry.spans) format_is in
      omega (arith, met_bad, here, by)

  pub whole : entry.staged ≡ length ((disk_of state now).seen (stage_of started))
  whole = sym (holds.tells has).size_is ∙ ap (λ (s : List ℕ). length ((disk_of state now).seen s)) same

  pub next : IsNext meaning written entries before entry after
  next = record {
    given = given;
    right = record {
      reads = record {
        words = record { spec = request.spec; options = asks.options; checkpoint = read.checkpoint };
        input_is = record { spec = request.spec; q = q; asks = asks; is = ap (λ (whole : Query). input_text (input_for request.spec whole)) read.whole_is ∙ ap input_text (input_filled request.spec givens q) };
        same_input = go.same_input;
        apart = subst SpansApart (sym spans_are) go.apart;
        go_on = subst (λ (f : Format). AllByRecursion (GoesOn f written entries) entry.spans) (sym format_is) (subst (AllByRecursion (GoesOn lines written entries)) (sym spans_are) go.go_on);
      };
      writes = record { gives = gives; outputs = outputs_as; output_is = is_met.output };
      counts = record {
        processed_is = is_met.processed ∙ (sym (rows_are lines written folder spans entry.spans sound) ∙ ap (λ (f : Format). rows_in (parts_of f written entry.spans)) (sym format_is));
        bad_least = bad_least;
        bad_most = subst (λ (m : Option ℕ). IfSome m (λ most. counts.bad ≤ most)) errors_are carried.within;
      };
    };
    files_are = λ name. files_are_with (mode_as request.spec.file_mode) before splits entry.outputs placed.0 differ name;
  }

  -- no output is the ledger or its stage
  pub apart : AreApart (ledger_of started) (stage_of started) entry.outputs
  apart = outputs_apart (ledger_of started) (stage_of started) (mode_as request.spec.file_mode) before text each (map kept_output outputs) (others_in each holds.good.free) placed.0

  -- and its texts are staged
  pub staged : IsEntry entry → length (payload_of entry) < 2 ^ 64 → HasStaged (disk_of state now) (ledger_of started) (stage_of started) entry before after
  staged is small = staged_all (mode_as request.spec.file_mode) (disk_of state now) (ledger_of started) (stage_of started) entry before splits (record { is_entry = is; size = small; apart = apart }) whole placed.0 placed.1 differ
