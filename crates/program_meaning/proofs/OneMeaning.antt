-- What is asked gives one thing: options, query, plan, files and texts are told by the words and the query's text.
use Rattle.std.proofs.Common.{◌≡◌, ℕ, ℤ, true, List, [], Option, Some, None, refl, sym, ◌∙◌, ap}
use Rattle.std.specs.Prelude.{Ok, Result, codes, if◌then◌else◌, option_and_then, unwrap_or}
use Rattle.std.specs.Option.{option_or}
use Rattle.grammar.specs.Trees.{Placed, Query}
use Rattle.ledger_model.specs.Entries.{Kept}
use Rattle.lp_time.specs.declared.piece.Piece.{Piece}
use Rattle.lp_values.specs.declared.value.Value.{Value}
use Rattle.column_kinds.specs.Past.{Past}
use Rattle.command_words.specs.declared.formats.InputFormat.{InputFormat}
use Rattle.command_words.specs.declared.formats.InputFormat.TheVariants as I
use Rattle.command_words.specs.declared.formats.OutputFormat.{OutputFormat}
use Rattle.command_words.specs.declared.formats.OutputFormat.TheVariants as O
use Rattle.command_words.specs.declared.modes.FileMode.TheVariants as M
use Rattle.command_words.specs.declared.modes.Rotation.TheVariants as R
use Rattle.command_words.specs.declared.setting.Setting.{Setting}
use Rattle.command_words.specs.declared.setting.Setting.TheVariants as S
use Rattle.command_words.specs.declared.spec.Spec.{Spec}
use Rattle.command_words.specs.Formats.{input_in, output_in}
use Rattle.command_words.specs.Values.{switch_in, rotation_in, headers_in, separator_in, errors_in, rows_in, lines_in, mode_in, pattern_of, name_in, ledger_in}
use Rattle.command_words.specs.Words.{given, options_in}
use Rattle.output_formats.specs.declared.csv.Headers.TheVariants as H
use Rattle.subqueries.specs.LogFormat.{LogFormat}
use Rattle.subqueries.specs.Formats.{format_of, input_of, log_format}
use Rattle.subqueries.specs.Outputs.{files_named}
use Rattle.subqueries.specs.Plans.{PlannedQuery, asked_for, query_plan}
use Rattle.subqueries.specs.Texts.{into_in, output_of, run_text, text_as}
use Rattle.row_output.specs.Asked.{Asked as AskedRows, Files, RowsText, left_of, asked_text}
use Rattle.run_model.specs.Meanings.{Asked, Part, Split, Given, IsOne}
use Rattle.tpl_output.specs.Sections.{Sections, sections_of}
use Rattle.program_meaning.specs.Asked.{HasOptions, Asks}
use Rattle.program_meaning.specs.Gives.{GivesOver, Gives, past_in, rows_over, splits_of, table_over}
use Rattle.program_meaning.specs.Lists.{with_lists}
use Rattle.program_meaning.specs.Meaning.{meaning}
use Rattle.program_meaning.proofs.Kept.{one_filled}
use Rattle.program_meaning.proofs.Options.{given_by_options}

-- options without the query word, which is none of them

abbrev pub bare : Spec → Spec
bare s = record {
  input = s.input;
  output = s.output;
  errors = s.errors;
  stats = s.stats;
  checkpoint = s.checkpoint;
  rotation = s.rotation;
  header_row = s.header_row;
  dt_lines = s.dt_lines;
  ts_format = s.ts_format;
  separator = s.separator;
  rtp = s.rtp;
  headers = s.headers;
  out_separator = s.out_separator;
  file_mode = s.file_mode;
  tpl = s.tpl;
  words = s.words;
  query = [];
}

same_value : {X : Type 0} (read : Option (List ℕ) → X) (setting : Setting) (words others : List (List ℕ)) → options_in words ≡ options_in others → read (given setting words) ≡ read (given setting others)
same_value read setting words others same = ap read (sym (given_by_options setting words) ∙ (ap (given setting) same ∙ given_by_options setting others))

same_piece : (p q : List Piece) → Some p ≡ Some q → p ≡ q
same_piece p q same = cc

pub one_spec : (options : List (List ℕ)) (s t : Spec) → HasOptions options s → HasOptions options t → bare s ≡ bare t
one_spec options s t a b =
    let same : options_in a.words ≡ options_in b.words = a.options_are ∙ sym b.options_are in
    let input : s.input ≡ t.input = a.asked.input ∙ (same_value (λ g. option_and_then input_in g) S.Input a.words b.words same ∙ sym b.asked.input) in
    let output : s.output ≡ t.output = a.asked.output ∙ (same_value (λ g. option_and_then output_in g) S.Output a.words b.words same ∙ sym b.asked.output) in
    let errors : s.errors ≡ t.errors = a.asked.errors ∙ (same_value (λ g. unwrap_or (option_and_then errors_in g) None) S.Errors a.words b.words same ∙ sym b.asked.errors) in
    let stats : s.stats ≡ t.stats = a.asked.stats ∙ (same_value (λ g. unwrap_or (option_and_then switch_in g) true) S.Stats a.words b.words same ∙ sym b.asked.stats) in
    let checkpoint : s.checkpoint ≡ t.checkpoint = a.asked.checkpoint ∙ (same_value (λ g. option_and_then ledger_in g) S.Checkpoint a.words b.words same ∙ sym b.asked.checkpoint) in
    let rotation : s.rotation ≡ t.rotation = a.asked.rotation ∙ (same_value (λ g. unwrap_or (option_and_then rotation_in g) R.Names) S.Rotation a.words b.words same ∙ sym b.asked.rotation) in
    let header_row : s.header_row ≡ t.header_row = a.asked.header_row ∙ (same_value (λ g. unwrap_or (option_and_then switch_in g) true) S.HeaderRow a.words b.words same ∙ sym b.asked.header_row) in
    let dt_lines : s.dt_lines ≡ t.dt_lines = a.asked.dt_lines ∙ (same_value (λ g. option_and_then lines_in g) S.SampleLines a.words b.words same ∙ sym b.asked.dt_lines) in
    let ts_format : s.ts_format ≡ t.ts_format = same_piece s.ts_format t.ts_format (a.asked.ts_format ∙ (same_value (λ g. option_or (option_and_then pattern_of g) (pattern_of (codes "yyyy-MM-dd hh:mm:ss"))) S.TimeFormat a.words b.words same ∙ sym b.asked.ts_format)) in
    let separator : s.separator ≡ t.separator = a.asked.separator ∙ (same_value (λ g. unwrap_or (option_and_then separator_in g) 9) S.Separator a.words b.words same ∙ sym b.asked.separator) in
    let rtp : s.rtp ≡ t.rtp = a.asked.rtp ∙ (same_value (λ g. unwrap_or (option_and_then rows_in g) (Some 10)) S.RowsToPage a.words b.words same ∙ sym b.asked.rtp) in
    let headers : s.headers ≡ t.headers = a.asked.headers ∙ (same_value (λ g. unwrap_or (option_and_then headers_in g) H.Auto) S.Headers a.words b.words same ∙ sym b.asked.headers) in
    let out_separator : s.out_separator ≡ t.out_separator = a.asked.out_separator ∙ (same_value (λ g. unwrap_or (option_and_then separator_in g) 9) S.OutSeparator a.words b.words same ∙ sym b.asked.out_separator) in
    let file_mode : s.file_mode ≡ t.file_mode = a.asked.file_mode ∙ (same_value (λ g. unwrap_or (option_and_then mode_in g) M.Overwrite) S.FileMode a.words b.words same ∙ sym b.asked.file_mode) in
    let tpl : s.tpl ≡ t.tpl = a.asked.tpl ∙ (same_value (λ g. option_and_then name_in g) S.Template a.words b.words same ∙ sym b.asked.tpl) in
    let words : s.words ≡ t.words = a.asked.words_given ∙ (same ∙ sym b.asked.words_given) in
    λ i. record {
      input = input i;
      output = output i;
      errors = errors i;
      stats = stats i;
      checkpoint = checkpoint i;
      rotation = rotation i;
      header_row = header_row i;
      dt_lines = dt_lines i;
      ts_format = ts_format i;
      separator = separator i;
      rtp = rtp i;
      headers = headers i;
      out_separator = out_separator i;
      file_mode = file_mode i;
      tpl = tpl i;
      words = words i;
      query = [];
    }

-- of which nothing in a run's meaning is a part

format_bare : (s : Spec) (input : InputFormat) → format_of (bare s) input ≡ format_of s input
format_bare s I.IisW3c = refl
format_bare s I.Ncsa = refl
format_bare s I.Csv = refl
format_bare s I.Tsv = refl
format_bare s I.TextLine = refl
format_bare s I.TextWord = refl

text_bare : (s : Spec) (output : OutputFormat) (template : Sections) (moment : ℤ) → text_as (bare s) output template moment ≡ text_as s output template moment
text_bare s O.Nat template moment = refl
text_bare s O.Csv template moment = refl
text_bare s O.Tsv template moment = refl
text_bare s O.W3c template moment = refl
text_bare s O.Tpl template moment = refl

files_bare : (s : Spec) (into : Option Placed) → files_named (bare s) [] into ≡ files_named s [] into
files_bare s None = refl
files_bare s (Some name) = refl

-- a template is of no account where the output is by none
text_same : (s : Spec) (output : OutputFormat) (one other : Sections) (moment : ℤ) → (output ≡ O.Tpl → one ≡ other) → text_as s output one moment ≡ text_as s output other moment
text_same s O.Nat one other moment same = refl
text_same s O.Csv one other moment same = refl
text_same s O.Tsv one other moment same = refl
text_same s O.W3c one other moment same = refl
text_same s O.Tpl one other moment same = ap (λ (t : Sections). text_as s O.Tpl t moment) (same refl)

same_plan : {E : Type 0} (p q : PlannedQuery) (r : Result PlannedQuery E) → r ≡ Ok p → r ≡ Ok q → p ≡ q
same_plan p q r a b = cc

same_files : (p q : Files) (r : Option Files) → r ≡ Some p → r ≡ Some q → p ≡ q
same_files p q r a b = cc

pub one_given : (asked : Asked) (past : Past) (lists : List (List Kept)) (x y : Given) → GivesOver asked past lists x → GivesOver asked past lists y → x ≡ y
one_given asked past lists x y a b =
    let specs : bare a.spec ≡ bare b.spec = one_spec asked.words a.spec b.spec a.asks.options b.asks.options in
    let queries : a.q ≡ b.q = sym (a.asks.only b.q b.asks.query.parses) in
    let formats : log_format a.spec a.q ≡ log_format b.spec b.q = sym (format_bare a.spec (input_of a.spec a.q)) ∙ ((λ i. log_format (specs i) (queries i)) ∙ format_bare b.spec (input_of b.spec b.q)) in
    let patterns : a.spec.ts_format ≡ b.spec.ts_format = λ i. (specs i).ts_format in
    let filled_same : with_lists a.values a.q ≡ with_lists b.values b.q = one_filled a.values b.values (sym a.are_lists.kept ∙ b.are_lists.kept) a.q ∙ ap (with_lists b.values) queries in
    let plans : a.plan ≡ b.plan = same_plan a.plan b.plan (query_plan (table_over (log_format a.spec a.q) a.spec.ts_format past) asked.moment (with_lists a.values a.q)) a.is_planned
    ((λ i. query_plan (table_over (formats i) (patterns i) past) asked.moment (filled_same i)) ∙ b.is_planned) in
    let names : files_named a.spec [] (into_in a.q) ≡ files_named b.spec [] (into_in b.q) = sym (files_bare a.spec (into_in a.q)) ∙ ((λ i. files_named (specs i) [] (into_in (queries i))) ∙ files_bare b.spec (into_in b.q)) in
    let files : a.files ≡ b.files = same_files a.files b.files (files_named a.spec [] (into_in a.q)) a.are_files (names ∙ b.are_files) in
    let outputs : output_of a.spec a.q ≡ output_of b.spec b.q = λ i. output_of (specs i) (queries i) in
    let templates : output_of a.spec a.q ≡ O.Tpl → a.template ≡ b.template = λ is. (a.is_template is).1 ∙ sym (b.is_template (sym outputs ∙ is)).1 in
    let texts : run_text a.spec a.template asked.moment a.q ≡ run_text b.spec b.template asked.moment b.q =
    text_same a.spec (output_of a.spec a.q) a.template b.template asked.moment templates
    ∙ (sym (text_bare a.spec (output_of a.spec a.q) b.template asked.moment) ∙ ((λ i. text_as (specs i) (outputs i) b.template asked.moment) ∙ text_bare b.spec (output_of b.spec b.q) b.template asked.moment)) in
    let rows_asked : asked_for (Some a.files) (run_text a.spec a.template asked.moment a.q) a.q a.plan ≡ asked_for (Some b.files) (run_text b.spec b.template asked.moment b.q) b.q b.plan =
    λ i. asked_for (Some (files i)) (texts i) (queries i) (plans i) in
    let rows : rows_over (log_format a.spec a.q) a.spec.ts_format a.plan past ≡ rows_over (log_format b.spec b.q) b.spec.ts_format b.plan past = λ i. rows_over (formats i) (patterns i) (plans i) past in
    let splits : x.splits ≡ y.splits = a.puts.splits ∙ ((λ i. splits_of (files i) (asked_text (rows_asked i)) (left_of (rows_asked i) (rows i))) ∙ sym b.puts.splits) in
    let counts : x.rows ≡ y.rows = a.puts.rows_are ∙ ((λ i. Rattle.std.specs.Prelude.length (left_of (rows_asked i) (rows i))) ∙ sym b.puts.rows_are) in
    λ i. record { splits = splits i; rows = counts i }

pub is_one : IsOne meaning
is_one = λ asked parts lists x y a b. one_given asked (past_in parts) lists x y a b
