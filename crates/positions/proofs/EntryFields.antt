-- The fields of an entry up to its spans.
use Rattle.std.proofs.Common.{◌≡◌, ℕ, ◌<◌, ◌^◌, List, [], ◌∷◌, ◌++◌, length, flat_map, refl, ◌∙◌, ap, append_assoc, arith}
use Rattle.std.specs.List.{AllByRecursion}
use Rattle.ledger_model.specs.Layouts.{Layout, AllFit, spelled}
use Rattle.ledger_model.specs.Entries.{Entry, Span}
use Rattle.ledger_model.specs.Numbers.{u32_bytes, i64_bytes, text_bytes}
use Rattle.ledger_model.specs.Grammar.{IsEntry, payload_of, span_layout, text_field, lists_layout, ending_layout}
use Rattle.ledger_model.proofs.Fields.{i64_length}
use Rattle.positions.specs.Stands.{AreShort}
use Rattle.positions.specs.Loads.{AreSpans}

spelled-flat : {A : Type 0} (layout : Layout A) (before xs : List A) → spelled (λ (b : List A). layout) before xs ≡ flat_map layout.spell xs
spelled-flat layout before [] = refl
spelled-flat {A} layout before (x ∷ xs) = ap (λ (l : List ℕ). layout.spell x ++ l) (spelled-flat layout (before ++ x ∷ []) xs)

all_fit : {A : Type 0} (layout : Layout A) (before xs : List A) → AllFit (λ (b : List A). layout) before xs → AllByRecursion layout.Fits xs
all_fit layout before [] fit = tt
all_fit {A} layout before (x ∷ xs) fit = (fit.0, all_fit layout (before ++ x ∷ []) xs fit.1)

short_texts : (texts : List (List ℕ)) → AllByRecursion text_field.Fits texts → AreShort texts
short_texts [] fit = tt
short_texts (text ∷ texts) fit = (fit.0.0, short_texts texts fit.1)

-- the form and the moment
abbrev pub head_of : Entry → List ℕ
head_of entry = entry.form ∷ i64_bytes entry.moment

-- what stands behind the spans
abbrev pub tail_of : Entry → List ℕ
tail_of entry = lists_layout.spell entry.lists ++ ending_layout.spell (entry.staged, (entry.outputs, (entry.processed, (entry.output, entry.bad))))

abbrev pub spans_bytes : Entry → List ℕ
spans_bytes entry = flat_map span_layout.spell entry.spans

abbrev pub words_bytes : Entry → List ℕ
words_bytes entry = flat_map text_bytes entry.words

-- what stands behind the count, the template, the query, the words and the input text
abbrev pub behind_count : Entry → List ℕ → List ℕ
behind_count entry more = spans_bytes entry ++ (tail_of entry ++ more)

abbrev pub behind_template : Entry → List ℕ → List ℕ
behind_template entry more = u32_bytes (length entry.spans) ++ behind_count entry more

abbrev pub behind_query : Entry → List ℕ → List ℕ
behind_query entry more = text_bytes entry.template ++ behind_template entry more

abbrev pub behind_words : Entry → List ℕ → List ℕ
behind_words entry more = text_bytes entry.query ++ behind_query entry more

abbrev pub behind_input : Entry → List ℕ → List ℕ
behind_input entry more = u32_bytes (length entry.words) ++ (words_bytes entry ++ behind_words entry more)

abbrev pub behind_head : Entry → List ℕ → List ℕ
behind_head entry more = text_bytes entry.input ++ behind_input entry more

-- an entry's payload, field by field, and what stands behind it
pub record Fields (entry : Entry) (bytes more : List ℕ) : Type 0 where
  pub head : length (head_of entry) ≡ 9
  pub split : bytes ≡ head_of entry ++ behind_head entry more
  pub input : length entry.input < 2 ^ 32
  pub few : length entry.words < 2 ^ 32
  pub words : AreShort entry.words
  pub query : length entry.query < 2 ^ 32
  pub template : length entry.template < 2 ^ 32
  pub count : length entry.spans < 2 ^ 32
  pub spans : AreSpans entry.spans

parted : (form moment input number words query template count spans lists ending more : List ℕ) → ((form ++ (moment ++ input)) ++ (((number ++ words) ++ (query ++ template)) ++ (((count ++ spans) ++ lists) ++ ending))) ++ more
    ≡ (form ++ moment) ++ (input ++ (number ++ (words ++ (query ++ (template ++ (count ++ (spans ++ ((lists ++ ending) ++ more))))))))
parted form moment input number words query template count spans lists ending more = simp append_assoc

pub fields : (entry : Entry) (more : List ℕ) → IsEntry entry → Fields entry (payload_of entry ++ more) more
unfolding payload_of
fields entry more is =
    let fits = is.fits in
    let w = spelled-flat text_field [] entry.words in
    let s = spelled-flat span_layout [] entry.spans in
    record {
      head = omega (arith, i64_length entry.moment);
      split =
          parted (entry.form ∷ []) (i64_bytes entry.moment) (text_bytes entry.input) (u32_bytes (length entry.words)) (spelled (λ (b : List (List ℕ)). text_field) [] entry.words) (text_bytes entry.query) (text_bytes entry.template) (u32_bytes (length entry.spans)) (spelled (λ (b : List Span). span_layout) [] entry.spans) (lists_layout.spell entry.lists) (ending_layout.spell (entry.staged, (entry.outputs, (entry.processed, (entry.output, entry.bad))))) more
          ∙ (λ i. head_of entry ++ (text_bytes entry.input ++ (u32_bytes (length entry.words) ++ (w i ++ (text_bytes entry.query ++ (text_bytes entry.template ++ (u32_bytes (length entry.spans) ++ (s i ++ (tail_of entry ++ more)))))))));
      input = fits.0.1.1.0;
      few = fits.1.0.0.0;
      words = short_texts entry.words (all_fit text_field [] entry.words fits.1.0.0.1);
      query = fits.1.0.1.0.0;
      template = fits.1.0.1.1.0;
      count = omega (arith, fits.1.1.0.0.0);
      spans = all_fit span_layout [] entry.spans fits.1.1.0.0.1;
    }
