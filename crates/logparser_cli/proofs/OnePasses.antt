-- One pass, from what is written of spans to what a run says.
use Rattle.std.proofs.Common.{◌≡◌, ◌⊎◌, ◌+◌, ◌<◌, ◌≤◌, ℕ, ℤ, suc, Bool, true, false, List, [], ◌∷◌, ◌++◌, length, take, All, Option, Some, None, Ok, inl, inr, refl, sym, ap, ap₂, ◌∙◌, subst, arith, length-append}
use Rattle.std.specs.Prelude.{IsSomeAnd, option_map}
use Rattle.std.proofs.lemmas.Bool.{cases_lt}
use Rattle.std.proofs.lemmas.List.{length-take-le, take_all}
use Rattle.grammar.specs.Filled.{PlacedGiven, asked_places, filled, filled_test, maybe_asked}
use Rattle.grammar.specs.Filled.{asked_in as asked_in_test}
use Rattle.grammar.specs.Trees as model
use Rattle.grammar.specs.Trees.{Query as query}
use Rattle.lp_model.specs.Outside.{Folder, OnlyGrow, Told, bytes_in}
use Rattle.command_words.specs.declared.formats.OutputFormat.{OutputFormat}
use Rattle.command_words.specs.declared.formats.OutputFormat.TheVariants as O
use Rattle.command_words.specs.Table.{IsAsked}
use Rattle.command_words.specs.Words.{query_in}
use Rattle.command_words.specs.declared.spec.Spec.{Spec}
use Rattle.checkpoint.specs.Wholes.{whole_span, whole_spans}
use Rattle.input_tables.specs.declared.format.TableFormat.{TableFormat}
use Rattle.input_tables.specs.Tables.{lines_of, table_of}
use Rattle.log_listing.specs.Lengths.{IsLength}
use Rattle.log_listing.specs.declared.lengths.NameLength.{NameLength}
use Rattle.log_reading.specs.Found.{rows_met}
use Rattle.log_reading.specs.Spans.{AreKept, rows_up_to, spans_met, spans_size}
use Rattle.log_reading.specs.declared.span.Span.{Span}
use Rattle.lp_values.specs.declared.value.Value.{Value}
use Rattle.query_text.specs.Stdin.{names_in}
use Rattle.query_types.specs.Planned.{Planned}
use Rattle.query_text.specs.Texts.{Parses}
use Rattle.requests.specs.Given.{ReadsOnce, file_names, query_files, sizes}
use Rattle.requests.specs.Requests.{Asks}
use Rattle.requests.specs.Texts.{HoldsText, IsTextOf, file_in}
use Rattle.standard_input.specs.Streams.{input_logs, stream_files}
use Rattle.checkpointed_command.specs.Built.{reads_stdin}
use Rattle.checkpointed_command.specs.Formats.{log_format}
use Rattle.checkpointed_command.specs.Given.{template_files, template_for}
use Rattle.checkpointed_command.specs.Giving.{AllGive, subqueries_of}
use Rattle.checkpointed_command.specs.LogFormat.{LogFormat}
use Rattle.checkpointed_command.specs.LogFormat.TheVariants as F
use Rattle.checkpointed_command.specs.OnePass.{IsAheadOf, SpansPassed, standard_text}
use Rattle.checkpointed_command.specs.Plans.{of_rows, query_plan, table_rows}
use Rattle.checkpointed_command.specs.SubqueriesReading.{AllRead, ReadsAll}
use Rattle.checkpointed_command.specs.Texts.{IsAtOnce, output_of}
use Rattle.logparser_cli.specs.Input.{IsReadOn}
use Rattle.logparser_cli.specs.Logs.{AreLogsOf, AreSpans}
use Rattle.logparser_cli.specs.OnePass.{IsClose, IsOnePass, IsPassedBy, Progress, all_given, files_read, progress}
use Rattle.logparser_cli.specs.Outputs.{Input}
use Rattle.logparser_cli.specs.Subqueries.{IsFilled}
use Rattle.logparser_cli.proofs.Passed.{AreThere, close_by, there_front}
use Rattle.logparser_cli.proofs.Wholes.{are_listed, kept_of, logs_earlier, logs_later}

-- what is told, in parts

told_so : {T : Type 0} (told : Option T) (P : Type 0) → P → Told told (λ what. P)
told_so None P so = tt
told_so (Some what) P so = so

told_each : {T : Type 0} (told : Option T) (P : T → Type 0) → ((what : T) → told ≡ Some what → P what) → Told told P
told_each None P each = tt
told_each (Some what) P each = each what refl

told_map : {T : Type 0} (told : Option T) (P Q : T → Type 0) → ((what : T) → P what → Q what) → Told told P → Told told Q
told_map None P Q so h = tt
told_map (Some what) P Q so h = so what h

some_map : {T : Type 0} (now : Option T) (P Q : T → Type 0) → ((what : T) → P what → Q what) → IsSomeAnd now P → IsSomeAnd now Q
some_map None P Q so h = h
some_map (Some what) P Q so h = so what h

-- what is known where logs tell is known later
told_on : (before now : Option Folder) (P : Type 0) → OnlyGrow before now → Told before (λ folder. P) → Told now (λ folder. P)
told_on None now P grow h = subst (λ (t : Option Folder). Told t (λ folder. P)) (sym grow) tt
told_on (Some x) None P grow h = absurd grow
told_on (Some x) (Some y) P grow h = h

-- so many bytes taken are those of what was written
told_lengths : (before now : Option (List ℕ)) (size : ℕ) → Told (option_map length before) (λ was. IsSomeAnd (option_map length now) (λ is. size + was < is + 4_096)) → Told before (λ was. IsSomeAnd now (λ is. size + length was < length is + 4_096))
told_lengths None now size so = tt
told_lengths (Some was) None size so = absurd so
told_lengths (Some was) (Some is) size so = so

-- whole spans, as the logs that they are of

pub record Split (logs : List NameLength) (front : List Span) (span : Span) : Type 0 where
  pub earlier : List NameLength
  pub log : NameLength
  pub later : List NameLength
  pub logs_are : logs ≡ earlier ++ log ∷ later
  pub front_is : whole_spans earlier ≡ front
  pub span_is : whole_span log ≡ span

heads_same : {X : Type 0} (x y : X) (xs ys : List X) → x ∷ xs ≡ y ∷ ys → x ≡ y
heads_same x y xs ys same = cc

tails_same : {X : Type 0} (x y : X) (xs ys : List X) → x ∷ xs ≡ y ∷ ys → xs ≡ ys
tails_same x y xs ys same = cc

split_at : (logs : List NameLength) (front : List Span) (span : Span) (rest : List Span) → whole_spans logs ≡ front ++ span ∷ rest → Split logs front span
split_at [] [] span rest same = absurd cc
split_at [] (first ∷ front) span rest same = absurd cc
split_at (log ∷ logs) [] span rest same = record { earlier = []; log = log; later = logs; logs_are = refl; front_is = refl; span_is = heads_same (whole_span log) span (whole_spans logs) rest same }
split_at (log ∷ logs) (first ∷ front) span rest same =
    let more = split_at logs front span rest (tails_same (whole_span log) first (whole_spans logs) (front ++ span ∷ rest) same) in
    record {
      earlier = log ∷ more.earlier;
      log = more.log;
      later = more.later;
      logs_are = ap (λ (l : List NameLength). log ∷ l) more.logs_are;
      front_is = ap (λ (s : List Span). whole_span log ∷ s) more.front_is ∙ ap (λ (s : Span). s ∷ front) (heads_same (whole_span log) first (whole_spans logs) (front ++ span ∷ rest) same);
      span_is = more.span_is;
    }

-- a place in whole spans is one in their logs
module _ (spec : Spec) (moment : ℤ) (q : model.Query) (format : TableFormat) (plan : Planned) (folder : Folder) (logs : List NameLength) (front : List Span) (span : Span) (place : ℕ) (was is : List ℕ) (before now given later : ℕ) (once : IsAtOnce (output_of spec q)) (s : Split logs front span)
    (there : AreThere folder s.earlier) (cut : place ≤ span.listed)
    (written : length (standard_text spec moment q plan (table_rows format (of_rows plan) (rows_met (spans_met (lines_of format) false folder front ++ rows_up_to (lines_of format) folder span place)))) + length was < length is + 4_096)
    (read : now + span.from ≤ before + spans_size front + place + 65_536) (reach : now + span.from ≤ before + spans_size front + length (take span.listed (bytes_in folder span.name))) (more : later + before ≡ given + now) where
  abbrev Of : List Span → Span → Type 0
  Of front span = (place ≤ span.listed) × (length (standard_text spec moment q plan (table_rows format (of_rows plan) (rows_met (spans_met (lines_of format) false folder front ++ rows_up_to (lines_of format) folder span place)))) + length was < length is + 4_096)
      × (now + span.from ≤ before + spans_size front + place + 65_536) × (now + span.from ≤ before + spans_size front + length (take span.listed (bytes_in folder span.name)))

  pub close_in : IsClose spec moment q format plan folder logs was is given later
  close_in =
      let here : Of (whole_spans s.earlier) (whole_span s.log) = subst (λ (x : List Span). Of x (whole_span s.log)) (sym s.front_is) (subst (λ (x : Span). Of front x) (sym s.span_is) (cut, written, read, reach)) in
      let near = here.2 in
      let far = here.3 in
      subst (λ (l : List NameLength). IsClose spec moment q format plan folder l was is given later) (sym s.logs_are)
      (close_by spec moment q format plan folder s.earlier s.log s.later place was is given later once there here.0 here.1 (omega arith) (omega arith))

-- nothing was read
pub nothing_read : (spec : Spec) (moment : ℤ) (q : model.Query) (format : TableFormat) (old new : Progress) → Told new.folder (λ folder. all_given new ≤ all_given old) → IsOnePass spec moment q format old new
nothing_read spec moment q format old new none =
    told_map new.folder (λ folder. all_given new ≤ all_given old) _ (λ folder less. told_each (files_read (reads_stdin (names_in q)) old new) _ (λ files e. inl less)) none

-- logs that are listed are there up to their cuts
are_there : (before : Option Folder) (folder : Folder) (logs : List NameLength) → All (IsLength before (Some folder)) logs → AreThere folder logs
are_there before folder [] lengths = tt
are_there before folder (log ∷ logs) lengths =
    (length-take-le log.length (bytes_in folder log.name) (lengths 0 log (omega arith)).most, are_there before folder logs (λ k d here. lengths (suc k) d (omega arith)))

-- the logs of a query were read in one pass
module _ (spec : Spec) (moment : ℤ) (q : model.Query) (format : TableFormat) (old new : Progress) (mid : Option Folder) (spans : List Span) (given : ℕ) (once : IsAtOnce (output_of spec q)) (files_are : reads_stdin (names_in q) ≡ false)
    (found : AreSpans old.folder mid q spans) (grow : OnlyGrow mid new.folder) (input : new.input ≡ old.input) (same : given ≡ old.given) where
  abbrev Passed : Folder → Type 0
  Passed files = (all_given new ≤ all_given old) ⊎ IsPassedBy spec moment q format old new files

  logs_passed_by : (files : Folder) → new.folder ≡ Some files → SpansPassed spec moment q format false new.folder spans (option_map length old.out) (option_map length new.out) given new.given → Passed files
  logs_passed_by files e (inl none) =
      let still : new.input.given ≡ old.input.given = ap (λ (i : Input). i.given) input in
      inl (omega arith)
  logs_passed_by files e (inr a) =
      let still : new.input.given ≡ old.input.given = ap (λ (i : Input). i.given) input in
      let are = logs_later old.folder mid new.folder q found.logs grow found.are_logs in
      let listed = are_listed old.folder new.folder q found.logs files_are are in
      let s = split_at found.logs a.front a.span a.rest (sym found.wholes ∙ a.stands) in
      let lengths = subst (λ (t : Option Folder). All (IsLength old.folder t) found.logs) e listed.lengths in
      let there : AreThere files found.logs = are_there old.folder files found.logs lengths in
      let each = there_front files s.earlier s.log s.later (subst (λ (l : List NameLength). AreThere files l) s.logs_are there) in
      let kept = kept_of (F.Tabled format) files found.logs spans found.wholes in
      let written = subst (λ (t : Option Folder). Told t (λ folder. AreKept (lines_of format) false spans folder → Told (option_map length old.out) (λ was. IsSomeAnd (option_map length new.out) (λ is. length (standard_text spec moment q a.plan (table_rows format (of_rows a.plan) (rows_met (spans_met (lines_of format) false folder a.front ++ rows_up_to (lines_of format) folder a.span a.place)))) + was < is + 4_096)))) e a.written in
      let size : length (take a.span.listed (bytes_in files a.span.name)) ≡ a.span.listed = subst (λ (x : Span). length (take x.listed (bytes_in files x.name)) ≡ x.listed) s.span_is each.1 in
      let below = a.below in
      inr (record {
        logs = found.logs;
        are_logs = are;
        plan = a.plan;
        is_planned = a.is_planned;
        close = told_map old.out _ _ (λ was now. some_map new.out _ _ (λ is close.
            close_in spec moment q format a.plan files found.logs a.front a.span a.place was is given new.given (all_given old) (all_given new) once s each.0 a.cut close a.read (omega arith) (omega arith)) now) (told_lengths old.out new.out (length (standard_text spec moment q a.plan (table_rows format (of_rows a.plan) (rows_met (spans_met (lines_of format) false files a.front ++ rows_up_to (lines_of format) files a.span a.place))))) (written kept));
      })

  pub passed_over_logs : SpansPassed spec moment q format false new.folder spans (option_map length old.out) (option_map length new.out) given new.given → IsOnePass spec moment q format old new
  passed_over_logs passed =
      subst (λ (b : Bool). Told new.folder (λ folder. Told (files_read b old new) Passed)) (sym files_are)
      (told_so new.folder (Told new.folder Passed) (told_each new.folder Passed (λ files e. logs_passed_by files e passed)))

-- standard input was read in one pass

alone : (log first : NameLength) (earlier later : List NameLength) → log ∷ [] ≡ earlier ++ first ∷ later → earlier ≡ []
alone log first [] later same = refl
alone log first (one ∷ earlier) later same = none earlier (tails_same log one [] (earlier ++ first ∷ later) same)
  where
    none : (earlier : List NameLength) → [] ≡ earlier ++ first ∷ later → one ∷ earlier ≡ []
    none [] e = absurd cc
    none (x ∷ xs) e = absurd cc

-- no more than there is
read_most : (bytes more : List ℕ) (left : Option (List ℕ)) → option_map (λ rest. more ++ rest) left ≡ Some bytes → length more ≤ length bytes
read_most bytes more None e = absurd cc
read_most bytes more (Some rest) e =
    let same : more ++ rest ≡ bytes = cc in
    let size : length (more ++ rest) ≡ length more + length rest = length-append more rest in
    let all : length (more ++ rest) ≡ length bytes = ap length same in
    omega arith

within_cut : (bytes : List ℕ) (cut n : ℕ) → n ≤ cut → n ≤ length bytes → n ≤ length (take cut bytes)
within_cut bytes cut n low high = elim (cases_lt cut (length bytes)) [
  | inl lt ↦ let size : length (take cut bytes) ≡ cut = length-take-le cut bytes (omega arith) in omega arith
  | inr ge ↦ let all : length (take cut bytes) ≡ length bytes = ap length (take_all cut bytes ge) in omega arith
]

module _ (spec : Spec) (moment : ℤ) (q : model.Query) (format : TableFormat) (logs : Option Folder) (logs_given : ℕ) (old new : Input) (out_old out_new : Option (List ℕ)) (spans : List Span) (once : IsAtOnce (output_of spec q)) (stdin : reads_stdin (names_in q) ≡ true)
    (wholes : spans ≡ whole_spans input_logs) (read : IsReadOn old new) where
  abbrev before_it : Progress
  before_it = progress logs logs_given old out_old

  abbrev behind_it : Progress
  behind_it = progress logs logs_given new out_new

  abbrev InputPassed : Folder → Type 0
  InputPassed files = (all_given behind_it ≤ all_given before_it) ⊎ IsPassedBy spec moment q format before_it behind_it files

  input_passed_by : (bytes : List ℕ) → old.left ≡ Some bytes → SpansPassed spec moment q format false (option_map stream_files old.left) spans (option_map length out_old) (option_map length out_new) old.given new.given → InputPassed (stream_files bytes)
  input_passed_by bytes e (inl none) = inl (omega arith)
  input_passed_by bytes e (inr a) =
      let files : Folder = stream_files bytes in
      let s = split_at input_logs a.front a.span a.rest (sym wholes ∙ a.stands) in
      let first : s.earlier ≡ [] = alone _ s.log s.earlier s.later s.logs_are in
      let there : AreThere files s.earlier = subst (λ (l : List NameLength). AreThere files l) (sym first) tt in
      let kept = kept_of (F.Tabled format) files input_logs spans wholes in
      let written = subst (λ (t : Option (List ℕ)). Told (option_map stream_files t) (λ folder. AreKept (lines_of format) false spans folder → Told (option_map length out_old) (λ was. IsSomeAnd (option_map length out_new) (λ is. length (standard_text spec moment q a.plan (table_rows format (of_rows a.plan) (rows_met (spans_met (lines_of format) false folder a.front ++ rows_up_to (lines_of format) folder a.span a.place)))) + was < is + 4_096)))) e a.written in
      let most = read_most bytes read.bytes new.left (read.left ∙ e) in
      let given = read.given in
      let none : spans_size a.front ≡ 0 = ap spans_size (sym s.front_is ∙ ap whole_spans first) in
      let from : a.span.from ≡ 0 = ap (λ (x : Span). x.from) (sym s.span_is) in
      let below = a.below in
      let reach = within_cut bytes a.span.listed (length read.bytes) (omega arith) most in
      inr (record {
        logs = input_logs;
        are_logs = subst (λ (b : Bool). AreLogsOf b logs logs q input_logs) (sym stdin) refl;
        plan = a.plan;
        is_planned = a.is_planned;
        close = told_map out_old _ _ (λ was now. some_map out_new _ _ (λ is close.
            close_in spec moment q format a.plan files input_logs a.front a.span a.place was is old.given new.given (all_given before_it) (all_given behind_it) once s there a.cut close a.read (omega arith) (omega arith)) now) (told_lengths out_old out_new (length (standard_text spec moment q a.plan (table_rows format (of_rows a.plan) (rows_met (spans_met (lines_of format) false files a.front ++ rows_up_to (lines_of format) files a.span a.place))))) (written kept));
      })

  pub passed_over_input : SpansPassed spec moment q format false (option_map stream_files old.left) spans (option_map length out_old) (option_map length out_new) old.given new.given → IsOnePass spec moment q format before_it behind_it
  passed_over_input passed =
      subst (λ (b : Bool). Told logs (λ folder. Told (files_read b before_it behind_it) InputPassed)) (sym stdin)
      (told_so logs (Told (option_map stream_files old.left) InputPassed) (of_left old.left refl))
    where
      of_left : (left : Option (List ℕ)) → old.left ≡ left → Told (option_map stream_files left) InputPassed
      of_left None e = tt
      of_left (Some bytes) e = input_passed_by bytes e passed

-- what was read before, if logs grew since

later_passed : (spec : Spec) (moment : ℤ) (q : model.Query) (format : TableFormat) (old new : Progress) (folder : Option Folder) (given : ℕ) (files : Folder) → OnlyGrow old.folder folder → given ≤ old.given
    → (all_given new ≤ all_given (progress folder given old.input old.out)) ⊎ IsPassedBy spec moment q format (progress folder given old.input old.out) new files → (all_given new ≤ all_given old) ⊎ IsPassedBy spec moment q format old new files
later_passed spec moment q format old new folder given files grow fewer (inl none) = inl (omega arith)
later_passed spec moment q format old new folder given files grow fewer (inr a) = inr (record {
  logs = a.logs;
  are_logs = logs_earlier old.folder folder new.folder q a.logs grow a.are_logs;
  plan = a.plan;
  is_planned = a.is_planned;
  close = told_map old.out _ _ (λ was now. some_map new.out _ _ (λ is c. let read = c.read in record { place = c.place; within = c.within; written = c.written; read = omega arith }) now) a.close;
})

earlier_by : (spec : Spec) (moment : ℤ) (q : model.Query) (format : TableFormat) (old new : Progress) (folder : Option Folder) (given : ℕ) (stdin : Bool) → OnlyGrow old.folder folder → given ≤ old.given
    → Told (files_read stdin (progress folder given old.input old.out) new) (λ files. (all_given new ≤ all_given (progress folder given old.input old.out)) ⊎ IsPassedBy spec moment q format (progress folder given old.input old.out) new files)
    → Told (files_read stdin old new) (λ files. (all_given new ≤ all_given old) ⊎ IsPassedBy spec moment q format old new files)
earlier_by spec moment q format old new folder given false grow fewer is = told_map new.folder _ _ (λ files passed. later_passed spec moment q format old new folder given files grow fewer passed) is
earlier_by spec moment q format old new folder given true grow fewer is = told_map (option_map stream_files old.input.left) _ _ (λ files passed. later_passed spec moment q format old new folder given files grow fewer passed) is

told_both : {T : Type 0} (told : Option T) (P : Type 0) (Q R : T → Type 0) → (P → (what : T) → Q what → R what) → Told told (λ what. P) → Told told Q → Told told R
told_both None P Q R so p q = tt
told_both (Some what) P Q R so p q = so p what q

-- one pass behind a time in which nothing was read is one from before it
pub passed_earlier : (spec : Spec) (moment : ℤ) (q : model.Query) (format : TableFormat) (old new : Progress) (folder : Option Folder) (given : ℕ) → OnlyGrow old.folder folder → Told new.folder (λ files. given ≤ old.given)
    → IsOnePass spec moment q format (progress folder given old.input old.out) new → IsOnePass spec moment q format old new
passed_earlier spec moment q format old new folder given grow fewer is =
    told_both new.folder (given ≤ old.given) _ _ (λ few files passed. earlier_by spec moment q format old new folder given (reads_stdin (names_in q)) grow few passed) fewer is

-- no file is read

pub no_bytes : (now : Option Folder) (names : List (List ℕ)) (before later : ℕ) → names ≡ [] → ReadsOnce now names before later → Told now (λ folder. later ≤ before)
no_bytes None names before later none once = tt
no_bytes (Some folder) names before later none once = let few : later ≤ before + sizes folder [] = subst (λ (l : List (List ℕ)). later ≤ before + sizes folder l) none once in omega arith

no_template : (format : OutputFormat) (name : Option (List ℕ)) → IsAtOnce format → template_for format name ≡ []
no_template O.Nat name once = absurd once
no_template O.Csv name once = refl
no_template O.Tsv name once = refl
no_template O.W3c name once = refl
no_template O.Tpl name once = absurd once

pub no_template_files : (spec : Spec) (q : model.Query) → IsAtOnce (output_of spec q) → template_files spec q ≡ []
no_template_files spec q once = no_template (output_of spec q) spec.tpl once

pub no_subquery_bytes : (now : Option Folder) (qs : List model.Query) (before later : ℕ) → qs ≡ [] → ReadsAll now qs before later → Told now (λ folder. later ≤ before)
no_subquery_bytes now qs before later none reads =
    no_bytes now reads.logs before later (subst (λ (l : List model.Query). AllRead now l reads.logs) none reads.are_read) reads.once

pub told_later : (before now : Option Folder) (P : Type 0) → OnlyGrow before now → Told before (λ folder. P) → Told now (λ folder. P)
told_later before now P grow h = told_on before now P grow h

pub told_and : (now : Option Folder) (P Q R : Type 0) → (P → Q → R) → Told now (λ folder. P) → Told now (λ folder. Q) → Told now (λ folder. R)
told_and now P Q R so p q = told_both now P (λ folder. Q) (λ folder. R) (λ p folder q. so p q) p q

pub told_now : (now : Option Folder) (P : Type 0) → P → Told now (λ folder. P)
told_now now P so = told_so now P so

-- a query without subqueries is as it was

empty_both : {X : Type 0} (xs ys : List X) → xs ++ ys ≡ [] → (xs ≡ []) × (ys ≡ [])
empty_both [] ys none = (refl, none)
empty_both (x ∷ xs) ys none = absurd cc

no_sets : (condition : model.Test) → asked_in_test condition ≡ [] → filled_test [] condition ≡ condition
no_sets (model.Or at a b) none = let e = empty_both (asked_in_test a) (asked_in_test b) none in ap₂ (λ x y. model.Or at x y) (no_sets a e.0) (no_sets b e.1)
no_sets (model.And at a b) none = let e = empty_both (asked_in_test a) (asked_in_test b) none in ap₂ (λ x y. model.And at x y) (no_sets a e.0) (no_sets b e.1)
no_sets (model.Not at a) none = ap (λ x. model.Not at x) (no_sets a none)
no_sets (model.Compare at sign left right) none = refl
no_sets (model.IsNull at value negated) none = refl
no_sets (model.Like at value pattern negated) none = refl
no_sets (model.Between at value low high negated) none = refl
no_sets (model.InList at value items negated) none = refl
no_sets (model.InQuery at value negated given) none = absurd cc

maybe_none : (condition : Option model.Test) → maybe_asked condition ≡ [] → option_map (filled_test []) condition ≡ condition
maybe_none None none = refl
maybe_none (Some test) none = ap Some (no_sets test none)

no_places : (format : LogFormat) (spec : Spec) (moment : ℤ) (before now : Option Folder) (qs : List model.Query) (places : List ℕ) (givens : List PlacedGiven) (lists : List (List Value)) → qs ≡ [] → AllGive format spec moment before now qs places givens lists → (places ≡ []) × (givens ≡ [])
no_places format spec moment before now [] [] [] [] none all = (refl, refl)
no_places format spec moment before now [] [] [] (list ∷ lists) none all = absurd all
no_places format spec moment before now [] [] (given ∷ givens) lists none all = absurd all
no_places format spec moment before now [] (place ∷ places) givens lists none all = absurd all
no_places format spec moment before now (q ∷ qs) places givens lists none all = absurd cc

filled_none : (q : model.Query) → asked_places q ≡ [] → filled [] q ≡ q
filled_none (query.query parts subqueries) none =
    let e = empty_both (maybe_asked parts.condition) (maybe_asked parts.having) none in
    ap₂ (λ (where_is having : Option model.Test). query.query (record parts { condition = where_is; having = having }) subqueries) (maybe_none parts.condition e.0) (maybe_none parts.having e.1)

pub same_query : (spec : Spec) (moment : ℤ) (before now : Option Folder) (q whole : model.Query) → subqueries_of q ≡ [] → IsFilled spec moment before now q whole → whole ≡ q
same_query spec moment before now q whole none f =
    let empty = no_places (log_format spec q) spec moment before now (subqueries_of q) (asked_places q) f.givens f.lists none f.give in
    f.whole_is ∙ (ap (λ (g : List PlacedGiven). filled g q) empty.1 ∙ filled_none q empty.0)

-- words ask for one thing

some_same : {X : Type 0} (x y : X) → Some x ≡ Some y → x ≡ y
some_same x y same = cc

-- for these options alone
pub same_spec : (words : List (List ℕ)) (a b : Spec) → IsAsked words a → IsAsked words b → a ≡ b
same_spec words a b x y = λ i. record {
  input = (x.input ∙ sym y.input) i;
  output = (x.output ∙ sym y.output) i;
  errors = (x.errors ∙ sym y.errors) i;
  stats = (x.stats ∙ sym y.stats) i;
  checkpoint = (x.checkpoint ∙ sym y.checkpoint) i;
  rotation = (x.rotation ∙ sym y.rotation) i;
  header_row = (x.header_row ∙ sym y.header_row) i;
  dt_lines = (x.dt_lines ∙ sym y.dt_lines) i;
  ts_format = some_same a.ts_format b.ts_format (x.ts_format ∙ sym y.ts_format) i;
  separator = (x.separator ∙ sym y.separator) i;
  rtp = (x.rtp ∙ sym y.rtp) i;
  headers = (x.headers ∙ sym y.headers) i;
  out_separator = (x.out_separator ∙ sym y.out_separator) i;
  file_mode = (x.file_mode ∙ sym y.file_mode) i;
  tpl = (x.tpl ∙ sym y.tpl) i;
  words = (x.words_given ∙ sym y.words_given) i;
  query = (x.query ∙ sym y.query) i;
}

-- the query that stands in them is the word itself
is_word : (before now : Option Folder) (word text : List ℕ) → file_in word ≡ None → HoldsText before now word text → text ≡ word
is_word before now word text none holds = subst (λ (f : Option (List ℕ)). IsTextOf before now word text f) none holds

-- and for this one
pub same_asked_query : (old mid new : Option Folder) (words : List (List ℕ)) (spec other : Spec) (q asked : model.Query) → file_in (query_in words) ≡ None → Asks old mid words spec q → Asks old new words other asked → asked ≡ q
same_asked_query old mid new words spec other q asked none own their =
    let text = is_word old new (query_in words) their.text none their.holds ∙ sym (is_word old mid (query_in words) own.text none own.holds) in
    own.only asked (subst (λ (t : List ℕ). Parses t asked) text their.query.parses)

pub no_file : (word : List ℕ) → file_in word ≡ None → query_files word ≡ []
no_file word none = ap file_names none

-- nothing was given since
pub nothing_given : (spec : Spec) (moment : ℤ) (q : model.Query) (format : TableFormat) (old : Progress) (folder : Option Folder) (given : ℕ) → Told folder (λ files. given ≤ old.given) → IsOnePass spec moment q format old (progress folder given old.input old.out)
nothing_given spec moment q format old folder given fewer =
    nothing_read spec moment q format old (progress folder given old.input old.out) (told_map folder (λ files. given ≤ old.given) (λ files. all_given (progress folder given old.input old.out) ≤ all_given old) (λ files few. omega arith) fewer)

-- the same of equal counts
pub moved_passed : (spec : Spec) (moment : ℤ) (q : model.Query) (format : TableFormat) (spans : List Span) (out_old out_new : Option ℕ) (a b : Option Folder) (m n x y : ℕ) → a ≡ b → m ≡ n → x ≡ y
    → SpansPassed spec moment q format false a spans out_old out_new m x → SpansPassed spec moment q format false b spans out_old out_new n y
moved_passed spec moment q format spans out_old out_new a b m n x y told first last passed =
    subst (λ (t : Option Folder). SpansPassed spec moment q format false t spans out_old out_new n y) told
    (subst (λ (k : ℕ). SpansPassed spec moment q format false a spans out_old out_new k y) first (subst (λ (k : ℕ). SpansPassed spec moment q format false a spans out_old out_new m k) last passed))

-- words without a checkpoint keep no ledger
pub kept_none : (words : List (List ℕ)) (a b : Spec) (ledger : List ℕ) → IsAsked words a → IsAsked words b → a.checkpoint ≡ None → b.checkpoint ≡ Some ledger → ⊥
kept_none words a b ledger x y none some =
    let both : None ≡ Some ledger = sym none ∙ (x.checkpoint ∙ (sym y.checkpoint ∙ some)) in
    cc
