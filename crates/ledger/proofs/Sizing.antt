-- How many bytes a payload has.
use Rattle.std.proofs.Common.{◌≡◌, ℕ, ◌+◌, List, [], ◌∷◌, ◌++◌, length, map, sum_by, refl, arith}
use Rattle.std.proofs.lemmas.List.{length-append}
use Rattle.std.proofs.lemmas.List.Sums.{sum_by-cons}
use Rattle.lp_values.specs.declared.value.Value.{Value}
use Rattle.lp_values.specs.declared.value.Value.TheVariants.{Null, Int, Real, Text, Stamp}
use Rattle.ledger_model.specs.Layouts.{Layout, field, spelled}
use Rattle.ledger_model.specs.Numbers.{u32_bytes, u64_bytes, i64_bytes}
use Rattle.ledger_model.specs.Entries.{Kept, Span}
use Rattle.ledger_model.specs.Entries.{Output as PlainOutput}
use Rattle.ledger_model.specs.Grammar.{IsKept, kept_bytes, text_field, list_layout, span_layout, output_layout, head_layout, texts_layout, kept_layout, ending_layout, payload_of}
use Rattle.ledger_model.proofs.Fields.{u32_length, u64_length, i64_length}
use Rattle.ledger.specs.declared.entry.EntrySpan.{EntrySpan}
use Rattle.ledger.specs.declared.entry.Output.{Output}
use Rattle.ledger.specs.declared.entry.Entry.{Entry}
use Rattle.ledger.specs.Written.{kept_of, span_of, output_of, entry_of}
use Rattle.ledger.specs.Sizes.{text_length, span_length, value_length, list_length, output_length}

-- items that stand behind each other
items_length : {A B : Type 0} (item : List A → Layout A) (f : B → A) (size : B → ℕ) → ((before : List A) (b : B) → length ((item before).spell (f b)) ≡ size b) → (before : List A) (xs : List B) → length (spelled item before (map f xs)) ≡ sum_by size xs
items_length item f size each before [] = refl
items_length item f size each before (x ∷ xs) =
    omega (arith, length-append ((item before).spell (f x)) (spelled item (before ++ f x ∷ []) (map f xs)), each before x, items_length item f size each (before ++ f x ∷ []) xs, sum_by-cons size x xs)

same_items : {A : Type 0} (item : List A → Layout A) (size : A → ℕ) → ((before : List A) (a : A) → length ((item before).spell a) ≡ size a) → (before xs : List A) → length (spelled item before xs) ≡ sum_by size xs
same_items item size each before [] = refl
same_items item size each before (x ∷ xs) =
    omega (arith, length-append ((item before).spell x) (spelled item (before ++ x ∷ []) xs), each before x, same_items item size each (before ++ x ∷ []) xs, sum_by-cons size x xs)

text_bytes_length : (text : List ℕ) → length (u32_bytes (length text) ++ text) ≡ text_length text
text_bytes_length text = omega (arith, length-append (u32_bytes (length text)) text, u32_length (length text))

value_bytes_length : (value : Value) → length (kept_bytes (kept_of value)) ≡ value_length value
value_bytes_length Null = refl
value_bytes_length (Int number) = omega (arith, i64_length number)
value_bytes_length (Real number) = omega (arith, i64_length number.millionths)
value_bytes_length (Text text) = omega (arith, text_bytes_length text)
value_bytes_length (Stamp stamp) = omega (arith, i64_length stamp.seconds)

list_bytes_length : (list : List Value) → length (list_layout.spell (map kept_of list)) ≡ list_length list
list_bytes_length list = omega (
  arith,
  length-append (u64_bytes (length (map kept_of list))) (spelled (λ (before : List Kept). field IsKept kept_bytes) [] (map kept_of list)),
  u64_length (length (map kept_of list)),
  items_length (λ (before : List Kept). field IsKept kept_bytes) kept_of value_length (λ before value. value_bytes_length value) [] list,
)

span_bytes_length : (span : EntrySpan) → length (span_layout.spell (span_of span)) ≡ span_length span
span_bytes_length span = omega (
  arith,
  length-append (u32_bytes (length span.identity) ++ span.identity) (u64_bytes span.from ++ (u64_bytes span.to ++ (u32_bytes (length span.standing) ++ span.standing))),
  text_bytes_length span.identity,
  length-append (u64_bytes span.from) (u64_bytes span.to ++ (u32_bytes (length span.standing) ++ span.standing)),
  u64_length span.from,
  length-append (u64_bytes span.to) (u32_bytes (length span.standing) ++ span.standing),
  u64_length span.to,
  text_bytes_length span.standing,
)

output_bytes_length : (before : List PlainOutput) (output : Output) → length ((output_layout before).spell (output_of output)) ≡ output_length output
output_bytes_length before output = omega (
  arith,
  length-append (u32_bytes (length output.name) ++ output.name) (u64_bytes output.base ++ (u64_bytes output.mark.length ++ u64_bytes output.mark.last)),
  text_bytes_length output.name,
  length-append (u64_bytes output.base) (u64_bytes output.mark.length ++ u64_bytes output.mark.last),
  u64_length output.base,
  length-append (u64_bytes output.mark.length) (u64_bytes output.mark.last),
  u64_length output.mark.length,
  u64_length output.mark.last,
)

head_length : (entry : Entry) → length (head_layout.spell (entry.form, (entry.moment, entry.input))) ≡ 9 + text_length entry.input
head_length entry = omega (arith, length-append (i64_bytes entry.moment) (u32_bytes (length entry.input) ++ entry.input), i64_length entry.moment, text_bytes_length entry.input)

texts_length : (words : List (List ℕ)) (query template : List ℕ) → length (texts_layout.spell (words, (query, template))) ≡ 4 + sum_by text_length words + text_length query + text_length template
texts_length words query template =
    let all : List ℕ = spelled (λ (before : List (List ℕ)). text_field) [] words in
    omega (
      arith,
      length-append (u32_bytes (length words) ++ all) ((u32_bytes (length query) ++ query) ++ (u32_bytes (length template) ++ template)),
      length-append (u32_bytes (length words)) all,
      u32_length (length words),
      same_items (λ (before : List (List ℕ)). text_field) text_length (λ before text. text_bytes_length text) [] words,
      length-append (u32_bytes (length query) ++ query) (u32_bytes (length template) ++ template),
      text_bytes_length query,
      text_bytes_length template,
    )

kept_length : (spans : List EntrySpan) (lists : List (List Value)) → length (kept_layout.spell (map span_of spans, map (map kept_of) lists)) ≡ 8 + sum_by span_length spans + sum_by list_length lists
kept_length spans lists =
    let front : List ℕ = spelled (λ (before : List Span). span_layout) [] (map span_of spans) in
    let back : List ℕ = spelled (λ (before : List (List Kept)). list_layout) [] (map (map kept_of) lists) in
    omega (
      arith,
      length-append (u32_bytes (length (map span_of spans)) ++ front) (u32_bytes (length (map (map kept_of) lists)) ++ back),
      length-append (u32_bytes (length (map span_of spans))) front,
      u32_length (length (map span_of spans)),
      items_length (λ (before : List Span). span_layout) span_of span_length (λ before span. span_bytes_length span) [] spans,
      length-append (u32_bytes (length (map (map kept_of) lists))) back,
      u32_length (length (map (map kept_of) lists)),
      items_length (λ (before : List (List Kept)). list_layout) (map kept_of) list_length (λ before list. list_bytes_length list) [] lists,
    )

ending_length : (staged : ℕ) (outputs : List Output) (processed output bad : ℕ) → length (ending_layout.spell (staged, (map output_of outputs, (processed, (output, bad))))) ≡ 36 + sum_by output_length outputs
ending_length staged outputs processed output bad =
    let all : List ℕ = spelled output_layout [] (map output_of outputs) in
    let counts : List ℕ = u64_bytes processed ++ (u64_bytes output ++ u64_bytes bad) in
    omega (
      arith,
      length-append (u64_bytes staged) ((u32_bytes (length (map output_of outputs)) ++ all) ++ counts),
      u64_length staged,
      length-append (u32_bytes (length (map output_of outputs)) ++ all) counts,
      length-append (u32_bytes (length (map output_of outputs))) all,
      u32_length (length (map output_of outputs)),
      items_length output_layout output_of output_length output_bytes_length [] outputs,
      length-append (u64_bytes processed) (u64_bytes output ++ u64_bytes bad),
      length-append (u64_bytes output) (u64_bytes bad),
      u64_length processed,
      u64_length output,
      u64_length bad,
    )

pub payload_length : (entry : Entry) → length (payload_of (entry_of entry))
    ≡ (13 + text_length entry.input + sum_by text_length entry.words + text_length entry.query + text_length entry.template) + (44 + sum_by span_length entry.spans + sum_by list_length entry.lists + sum_by output_length entry.outputs)
unfolding payload_of
payload_length entry =
    let head : List ℕ = head_layout.spell (entry.form, (entry.moment, entry.input)) in
    let texts : List ℕ = texts_layout.spell (entry.words, (entry.query, entry.template)) in
    let kept : List ℕ = kept_layout.spell (map span_of entry.spans, map (map kept_of) entry.lists) in
    let ending : List ℕ = ending_layout.spell (entry.staged, (map output_of entry.outputs, (entry.processed, (entry.output, entry.bad)))) in
    omega (
      arith,
      length-append head (texts ++ (kept ++ ending)),
      length-append texts (kept ++ ending),
      length-append kept ending,
      head_length entry,
      texts_length entry.words entry.query entry.template,
      kept_length entry.spans entry.lists,
      ending_length entry.staged entry.outputs entry.processed entry.output entry.bad,
    )
