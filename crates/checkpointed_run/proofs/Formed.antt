-- What an entry has of a run that was carried out has its form.
use Rattle.std.proofs.Common.{◌≡◌, ℕ, ◌+◌, ◌<◌, ◌≤◌, ◌^◌, false, List, [], ◌∷◌, length, map, inl, inr, sym, ◌∙◌, ap, subst, arith, true}
use Rattle.std.specs.Prelude.{bytes_eq, max, take}
use Rattle.std.specs.List.{AllByRecursion}
use Rattle.std.specs.Str.{IsUtf8}
use Rattle.std.proofs.lemmas.List.{length-map, length-take}
use Rattle.std.proofs.lemmas.List.Elements.{recursion_from_All}
use Rattle.std.proofs.lemmas.Slice.Eq.{bytes_eq-Decides}
use Rattle.grammar.specs.Filled.{PlacedGiven}
use Rattle.grammar.specs.Trees.{Placed, Query}
use Rattle.run_entry.specs.Formats.{lines_in, log_format}
use Rattle.run_entry.specs.LogFormat.{LogFormat}
use Rattle.log_listing.specs.Firsts.{is_among}
use Rattle.log_reading.specs.Spans.{AllSpans, IsSpan, cut_of, last_end, span_end, took_of}
use Rattle.log_reading.specs.declared.span.Span.{Span}
use Rattle.log_reading.specs.declared.span.Took.{Took}
use Rattle.lp_model.specs.Outside.{Folder, bytes_in}
use Rattle.lp_values.specs.declared.value.Value.{Value}
use Rattle.multiplex.proofs.Distinct.{Differ}
use Rattle.multiplex.proofs.Splits.{names_differ}
use Rattle.multiplex.specs.Splitting.{OutputRows, split}
use Rattle.query_run.specs.declared.executing.Counts.{Counts}
use Rattle.row_output.specs.Asked.{Files, OutputText}
use Rattle.row_output.specs.Files.{ArePut, FilesHold}
use Rattle.text_output.specs.Output.{StageKind}
use Rattle.text_output.specs.declared.target.Output.{Output}
use Rattle.tpl_output.specs.Sections.{Sections}
use Rattle.run_entry.specs.Entries.{Request}
use Rattle.run_entry.specs.Forms.{AreOutputs, HasForm, IsFileName, IsNewName, IsOutput, IsRequest, IsTook}
use Rattle.checkpointed_run.specs.Staged.{AreParts, IsWord}
use Rattle.checkpointed_run.proofs.Asking.{IsReadWith}
use Rattle.checkpointed_run.proofs.Columns.{standing_fits, standing_short}
use Rattle.checkpointed_run.proofs.Grounded.{spans_low}
use Rattle.checkpointed_run.proofs.Next.{names_of, names_split, test_first, test_rest}

-- what was asked

words_utf8 : (words : List (List ℕ)) → AllByRecursion IsWord words → AllByRecursion IsUtf8 words
words_utf8 [] all = tt
words_utf8 (word ∷ words) (is, all) = (is.utf8, words_utf8 words all)

words_short : (words : List (List ℕ)) → AllByRecursion IsWord words → AllByRecursion (λ (word : List ℕ). length word < 2 ^ 32) words
words_short [] all = tt
words_short (word ∷ words) (is, all) = (is.short, words_short words all)

-- a query's text is short and UTF-8, since it is read
pub request_formed : (words : List (List ℕ)) (request : Request) (q : Query) (givens : List PlacedGiven) (lists : List (List Value)) (template : Sections) (into : Placed) (took : List Took) (outputs : List Output) (counts : Counts)
    → IsReadWith words request q givens template into → AreParts request.spec.words request.template lists took outputs counts → IsRequest request
request_formed words request q givens lists template into took outputs counts read parts =
    let each : AllByRecursion IsWord request.spec.words = recursion_from_All IsWord request.spec.words parts.each_word in
    let readable = read.query.parses.are.readable in
    record {
      words = words_utf8 request.spec.words each;
      few_words = parts.few_words;
      short_words = words_short request.spec.words each;
      text = readable.utf8;
      short_text = readable.short;
      short_template = parts.short_template;
    }

-- what was taken of logs

-- the last end lies within the bytes
end_within : (bytes : List ℕ) → last_end bytes ≤ length bytes
unfolding last_end
end_within bytes = omega arith

-- a span that may be read ends in front of the last place of 64 bits
end_low : (folder : Folder) (span : Span) → IsSpan span → span_end true folder span < 2 ^ 64
end_low folder span low =
    let last = end_within (cut_of folder span) in
    let cut = few_taken span.listed (bytes_in folder span.name) in
    greatest_low span.from (last_end (cut_of folder span)) span.listed low.start (omega (arith, last, cut)) low.cut
  where
    few_taken : (n : ℕ) (bytes : List ℕ) → length (take n bytes) ≤ n
    few_taken n bytes = grind (arith, length-take)

    greatest_low : (a b n : ℕ) → a ≤ n → b ≤ n → n ≤ 2 ^ 46 → max a b < 2 ^ 64
    greatest_low a b n first second most = omega (arith, first, second, most)

-- it is taken forwards, to a standing that fits
pub took_formed : (format : LogFormat) (folder : Folder) (span : Span) → IsSpan span → IsFileName span.identity → IsTook (took_of (lines_in format) true folder span)
took_formed format folder span low name =
    let place = end_low folder span low in
    record {
      identity = name;
      forward = no_less span.from (last_end (cut_of folder span));
      place = place;
      fits = standing_fits format (cut_of folder span) (span_end true folder span) place;
      short = standing_short format (cut_of folder span) (span_end true folder span);
    }
  where
    no_less : (a b : ℕ) → a ≤ max a b
    no_less a b = omega arith

pub spans_formed : (format : LogFormat) (folder : Folder) (spans : List Span) → AllByRecursion IsSpan spans → AllByRecursion (λ (log : Took). IsFileName log.identity) (map (took_of (lines_in format) true folder) spans)
    → AllByRecursion IsTook (map (took_of (lines_in format) true folder) spans)
spans_formed format folder [] low names = tt
spans_formed format folder (span ∷ spans) (low, lows) (name, names) = (took_formed format folder span low name, spans_formed format folder spans lows names)

-- what was written

module _ {S : Type 0} (kind : StageKind S) (files : Files) (text : OutputText) (start now : S) where
  no_more : (index : ℕ) (each : List OutputRows) (outputs : List Output) → ArePut kind files text start now index each outputs → length outputs ≤ length each
  no_more index [] [] put = omega arith
  no_more index [] (o ∷ outputs) put = absurd put
  no_more index (rows ∷ each) [] put = omega arith
  no_more index (rows ∷ each) (o ∷ outputs) (inl (left, put)) = let more = no_more index each (o ∷ outputs) put in omega (arith, more)
  no_more index (rows ∷ each) (o ∷ outputs) (inr (put, puts)) = let more = no_more (index + 1) each outputs puts in omega (arith, more)

  -- no output has a name that none of the rows has
  new_name : (index : ℕ) (name : List ℕ) (each : List OutputRows) (outputs : List Output) → is_among (names_of each) name ≡ false → ArePut kind files text start now index each outputs → IsNewName name outputs
  new_name index name [] [] none put = tt
  new_name index name [] (o ∷ outputs) none put = absurd put
  new_name index name (rows ∷ each) [] none put = tt
  new_name index name (rows ∷ each) (o ∷ outputs) none (inl (left, put)) = new_name index name each (o ∷ outputs) (test_rest (bytes_eq name rows.name) (is_among (names_of each) name) none) put
  new_name index name (rows ∷ each) (o ∷ outputs) none (inr (put, puts)) = (
    λ same. test_first (bytes_eq name rows.name) (is_among (names_of each) name) none ((bytes_eq-Decides name rows.name).1 (sym same ∙ put.name)),
    new_name (index + 1) name each outputs (test_rest (bytes_eq name rows.name) (is_among (names_of each) name) none) puts,
  )

  -- names that differ are those of outputs that differ
  outputs_formed : (index : ℕ) (each : List OutputRows) (outputs : List Output) → Differ (names_of each) → ArePut kind files text start now index each outputs → AllByRecursion IsOutput outputs → AreOutputs outputs
  outputs_formed index [] [] differ put all = tt
  outputs_formed index [] (o ∷ outputs) differ put all = absurd put
  outputs_formed index (rows ∷ each) [] differ put all = tt
  outputs_formed index (rows ∷ each) (o ∷ outputs) (none, differ) (inl (left, put)) all = outputs_formed index each (o ∷ outputs) differ put all
  outputs_formed index (rows ∷ each) (o ∷ outputs) (none, differ) (inr (put, puts)) (is, all) = (
    is,
    new_name (index + 1) o.name each outputs (ap (is_among (names_of each)) put.name ∙ none) puts,
    outputs_formed (index + 1) each outputs differ puts all,
  )

  pub written_formed : (rows : List (List Value)) (outputs : List Output) → FilesHold kind files text start rows outputs now → AllByRecursion IsOutput outputs → AreOutputs outputs × (length outputs ≤ 10_000)
  written_formed rows outputs hold all =
      let more = no_more 0 (split files.pattern rows) outputs hold.put in
      let few = hold.good.few in
      let same : length (names_of (split files.pattern rows)) ≡ length (split files.pattern rows) = length-map (split files.pattern rows) (λ (o : OutputRows). o.name) in (
        outputs_formed 0 (split files.pattern rows) outputs (subst Differ (sym (names_split files.pattern rows)) (names_differ files.pattern rows)) hold.put all,
        omega (arith, more, few, same),
      )

  -- the whole
  pub has_form : (words : List (List ℕ)) (request : Request) (q : Query) (givens : List PlacedGiven) (lists : List (List Value)) (template : Sections) (into : Placed) (folder : Folder) (spans : List Span) (took : List Took) (rows : List (List Value)) (outputs : List Output) (staged : ℕ) (counts : Counts)
      → IsReadWith words request q givens template into → AllSpans spans IsSpan → length spans ≤ 100_000 → took ≡ map (took_of (lines_in (log_format request.spec request.q)) true folder) spans → FilesHold kind files text start rows outputs now → staged < 2 ^ 64
      → AreParts request.spec.words request.template lists took outputs counts → HasForm request lists took outputs staged counts
  has_form words request q givens lists template into folder spans took rows outputs staged counts read low few took_is hold small parts =
      let format : LogFormat = log_format request.spec request.q in
      let names : AllByRecursion (λ (log : Took). IsFileName log.identity) took = recursion_from_All (λ (log : Took). IsFileName log.identity) took parts.each_log in
      let written = written_formed rows outputs hold (recursion_from_All IsOutput outputs parts.each_output) in
      let many : length took ≡ length spans = ap length took_is ∙ length-map spans (took_of (lines_in format) true folder) in
      record {
        request_fits = request_formed words request q givens lists template into took outputs counts read parts;
        spans = subst (AllByRecursion IsTook) (sym took_is) (spans_formed format folder spans (spans_low spans low) (subst (AllByRecursion (λ (log : Took). IsFileName log.identity)) took_is names));
        few_spans = omega (arith, many, few);
        kept = parts.kept;
        outputs = written.0;
        few_outputs = written.1;
        staged = small;
        counts = parts.counts;
      }
