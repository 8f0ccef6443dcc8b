-- One pass over spans, told of the logs that they are of: up to a place in the joined logs.
use Rattle.std.proofs.Common.{◌≡◌, ◌⊎◌, ◌+◌, ◌-◌, ◌<◌, ◌≤◌, ℕ, ℤ, true, false, List, [], ◌∷◌, ◌++◌, length, take, flat_map, inl, inr, refl, sym, ap, ap₂, ◌∙◌, arith, length-append, append_assoc, append-nil}
use Rattle.std.proofs.lemmas.Bool.{cases_lt}
use Rattle.std.proofs.lemmas.List.{map-append, take-take, take_all}
use Rattle.std.proofs.lemmas.List.Elements.{filter_map-append}
use Rattle.std.proofs.lemmas.List.Sums.{sum_by-append}
use Rattle.grammar.specs.Trees as model
use Rattle.lp_model.specs.Outside.{Folder, bytes_in}
use Rattle.lp_model.specs.Reading.{Format, Record, lines_before, records_in, records_of}
use Rattle.command_words.specs.declared.spec.Spec.{Spec}
use Rattle.checkpoint.specs.Wholes.{whole_span, whole_spans}
use Rattle.input_tables.specs.declared.format.TableFormat.{TableFormat}
use Rattle.input_tables.specs.Tables.{lines_of}
use Rattle.log_listing.specs.declared.lengths.NameLength.{NameLength}
use Rattle.log_reading.specs.Found.{Found, found_of, rows_met}
use Rattle.log_reading.specs.Spans.{rows_up_to, spans_found, spans_met, spans_size}
use Rattle.log_reading.specs.declared.span.Span.{Span}
use Rattle.log_reading.proofs.RowsMet.{rows_met-append, rows_met_of, rows_met_spans}
use Rattle.query_types.specs.Planned.{Planned}
use Rattle.checkpointed_command.specs.OnePass.{standard_text}
use Rattle.checkpointed_command.specs.Plans.{of_rows, table_rows}
use Rattle.checkpointed_command.specs.Texts.{IsAtOnce, no_sections, output_of}
use Rattle.checkpointed_command.proofs.AtOnce.{asked_begins}
use Rattle.logparser_cli.specs.OnePass.{IsClose, found_up_to, joined}
use Rattle.logparser_cli.proofs.LinesUpTo.{records_begin, records_none, records_taken, records_whole}

-- the bytes of a log up to its cut
abbrev pub log_bytes : Folder → NameLength → List ℕ
log_bytes folder log = take log.length (bytes_in folder log.name)

-- logs that are there up to their cuts
abbrev pub AreThere : Folder → List NameLength → Type 0
AreThere folder [] = Unit {0}
AreThere folder (log ∷ logs) = (length (log_bytes folder log) ≡ log.length) × AreThere folder logs

pub there_front : (folder : Folder) (front : List NameLength) (log : NameLength) (rest : List NameLength) → AreThere folder (front ++ log ∷ rest) → AreThere folder front × (length (log_bytes folder log) ≡ log.length)
there_front folder [] log rest (here, there) = (tt, here)
there_front folder (first ∷ front) log rest (here, there) = let more = there_front folder front log rest there in ((here, more.0), more.1)

module _ (format : Format) (folder : Folder) where
  abbrev found_in : NameLength → ℕ → List Found
  found_in log place = found_of log.name (flat_map (records_in format (log_bytes folder log) false) (lines_before (log_bytes folder log) false place))

  -- no line ends by the start
  found_none : (logs : List NameLength) → found_up_to format folder logs 0 ≡ []
  found_none [] = refl
  found_none (log ∷ logs) =
      let none : 0 - length (log_bytes folder log) ≡ 0 = omega arith in
      ap₂ (λ (a : List Record) (b : List Found). found_of log.name a ++ b) (records_none format (log_bytes folder log) false) (ap (found_up_to format folder logs) none ∙ found_none logs)

  one_size : (log : NameLength) (logs : List NameLength) → spans_size (whole_spans (log ∷ logs)) ≡ log.length + spans_size (whole_spans logs)
  one_size log logs =
      let e : spans_size (whole_spans (log ∷ logs)) ≡ (0 + (log.length - 0)) + spans_size (whole_spans logs) = sum_by-append (λ (span : Span). span.listed - span.from) (whole_spans (log ∷ [])) (whole_spans logs) in
      omega arith

  -- a place in a log is one in the joined logs
  place_within : (front : List NameLength) (log : NameLength) (rest : List NameLength) (m : ℕ) → AreThere folder front → m ≤ length (log_bytes folder log) → spans_size (whole_spans front) + m ≤ length (joined folder (front ++ log ∷ rest))
  place_within [] log rest m there le =
      let none : spans_size (whole_spans []) ≡ 0 = refl in
      let size : length (joined folder (log ∷ rest)) ≡ length (log_bytes folder log) + length (joined folder rest) = length-append (log_bytes folder log) (joined folder rest) in
      omega arith
  place_within (first ∷ front) log rest m (here, there) le =
      let one = one_size first front in
      let more = place_within front log rest m there le in
      let size : length (joined folder (first ∷ (front ++ log ∷ rest))) ≡ length (log_bytes folder first) + length (joined folder (front ++ log ∷ rest)) = length-append (log_bytes folder first) (joined folder (front ++ log ∷ rest)) in
      omega arith

  -- up to a place in a log the logs in front of it have all their rows
  found_front : (front : List NameLength) (log : NameLength) (rest : List NameLength) (m place : ℕ) → AreThere folder front → m ≤ length (log_bytes folder log) → place ≡ spans_size (whole_spans front) + m
      → found_up_to format folder (front ++ log ∷ rest) place ≡ spans_found format false folder (whole_spans front) ++ found_in log m
  found_front [] log rest m place there le is =
      let none : spans_size (whole_spans []) ≡ 0 = refl in
      let here : place ≡ m = omega arith in
      let behind : m - length (log_bytes folder log) ≡ 0 = omega arith in
      ap (found_up_to format folder (log ∷ rest)) here
      ∙ (ap (λ t. found_in log m ++ t) (ap (found_up_to format folder rest) behind ∙ found_none rest) ∙ append-nil (found_in log m))
  found_front (first ∷ front) log rest m place (here, there) le is =
      let size = one_size first front in
      let bytes = log_bytes folder first in
      let whole : found_in first place ≡ found_of first.name (records_of format bytes false 0 (length bytes)) = ap (found_of first.name) (records_whole format bytes false place (omega arith)) in
      let behind : place - length bytes ≡ spans_size (whole_spans front) + m = omega arith in
      let more = found_front front log rest m (place - length bytes) there le behind in
      ap₂ (λ (a b : List Found). a ++ b) whole more
      ∙ sym (append_assoc (found_of first.name (records_of format bytes false 0 (length bytes))) (spans_found format false folder (whole_spans front)) (found_in log m))

  -- the rows of a log up to a place begin those of the lines that LF ends up to a later one

  found_begin_at : (log : NameLength) (m k : ℕ) → m ≤ k → k ≤ length (log_bytes folder log) → (m < length (log_bytes folder log)) ⊎ (m ≡ 0)
      → (more : List Found) × (found_of log.name (records_of format (take k (log_bytes folder log)) true 0 (length (take k (log_bytes folder log)))) ≡ found_in log m ++ more)
  found_begin_at log m k le fits (inl lt) =
      let bytes = log_bytes folder log in
      let begin = records_begin format bytes m k le fits in
      let here = records_taken format bytes false m (omega arith) (inr lt) in
      (found_of log.name begin.0, ap (found_of log.name) (begin.1 ∙ ap (λ t. t ++ begin.0) (sym here)) ∙ map-append _ (flat_map (records_in format bytes false) (lines_before bytes false m)) begin.0)
  found_begin_at log m k le fits (inr e) =
      let bytes = log_bytes folder log in
      let all = found_of log.name (records_of format (take k bytes) true 0 (length (take k bytes))) in
      let none : found_in log m ≡ [] = ap (found_in log) e ∙ ap (found_of log.name) (records_none format bytes false) in
      (all, ap (λ t. t ++ all) (sym none))

  found_begin : (log : NameLength) (m k place : ℕ) → place ≤ log.length → m ≤ k → k ≤ length (log_bytes folder log) → take place (log_bytes folder log) ≡ take k (log_bytes folder log) → (m < length (log_bytes folder log)) ⊎ (m ≡ 0)
      → (more : List Found) × (rows_met (rows_up_to format folder (whole_span log) place) ≡ found_in log m ++ more)
  found_begin log m k place cut le fits same where_is =
      let begin = found_begin_at log m k le fits where_is in
      let bytes = take place (bytes_in folder log.name) in
      let taken : bytes ≡ take k (log_bytes folder log) = sym (take-take place log.length (bytes_in folder log.name) cut) ∙ same in
      (begin.0, rows_met_of log.name (records_of format bytes true 0 (length bytes)) ∙ (ap (λ (b : List ℕ). found_of log.name (records_of format b true 0 (length b))) taken ∙ begin.1))

-- the text of the first rows is no longer than that of all
text_shorter : (spec : Spec) (moment : ℤ) (q : model.Query) (format : TableFormat) (plan : Planned) (founds more : List Found) → IsAtOnce (output_of spec q)
    → length (standard_text spec moment q plan (table_rows format (of_rows plan) founds)) ≤ length (standard_text spec moment q plan (table_rows format (of_rows plan) (founds ++ more)))
text_shorter spec moment q format plan founds more once =
    let rows = table_rows format (of_rows plan) founds in
    let others = table_rows format (of_rows plan) more in
    let both : table_rows format (of_rows plan) (founds ++ more) ≡ rows ++ others = filter_map-append _ founds more in
    let begins = asked_begins spec no_sections moment q [] (of_rows plan) rows others once in
    let text = standard_text spec moment q plan rows in
    let whole : standard_text spec moment q plan (table_rows format (of_rows plan) (founds ++ more)) ≡ text ++ begins.0 = ap (standard_text spec moment q plan) both ∙ begins.1 in
    let size : length (standard_text spec moment q plan (table_rows format (of_rows plan) (founds ++ more))) ≡ length text + length begins.0 = ap length whole ∙ length-append text begins.0 in
    omega arith

module _ (spec : Spec) (moment : ℤ) (q : model.Query) (format : TableFormat) (plan : Planned) (folder : Folder) (front : List NameLength) (log : NameLength) (rest : List NameLength) (place : ℕ) (was is : List ℕ) (before now : ℕ) (once : IsAtOnce (output_of spec q)) (there : AreThere folder front) (cut : place ≤ log.length)
    (written : length (standard_text spec moment q plan (table_rows format (of_rows plan) (rows_met (spans_met (lines_of format) false folder (whole_spans front) ++ rows_up_to (lines_of format) folder (whole_span log) place)))) + length was < length is + 4_096) where
  close_at : (m k : ℕ) → m ≤ k → k ≤ length (log_bytes folder log) → take place (log_bytes folder log) ≡ take k (log_bytes folder log) → (m < length (log_bytes folder log)) ⊎ (m ≡ 0) → now ≤ before + (spans_size (whole_spans front) + m) + 65_536
      → IsClose spec moment q format plan folder (front ++ log ∷ rest) was is before now
  close_at m k le fits same where_is read =
      let lines = lines_of format in
      let at : ℕ = spans_size (whole_spans front) + m in
      let up_to = found_front lines folder front log rest m at there (omega arith) refl in
      let begin = found_begin lines folder log m k place cut le fits same where_is in
      let first = spans_found lines false folder (whole_spans front) in
      let own = found_of log.name (flat_map (records_in lines (log_bytes folder log) false) (lines_before (log_bytes folder log) false m)) in
      let all : rows_met (spans_met lines false folder (whole_spans front) ++ rows_up_to lines folder (whole_span log) place) ≡ (first ++ own) ++ begin.0 =
      rows_met-append (spans_met lines false folder (whole_spans front)) (rows_up_to lines folder (whole_span log) place)
      ∙ (ap₂ (λ (a b : List Found). a ++ b) (rows_met_spans lines false folder (whole_spans front)) begin.1 ∙ sym (append_assoc first own begin.0)) in
      let shorter = text_shorter spec moment q format plan (first ++ own) begin.0 once in
      let size : length (standard_text spec moment q plan (table_rows format (of_rows plan) (rows_met (spans_met lines false folder (whole_spans front) ++ rows_up_to lines folder (whole_span log) place)))) ≡ length (standard_text spec moment q plan (table_rows format (of_rows plan) ((first ++ own) ++ begin.0))) =
      ap (λ (founds : List Found). length (standard_text spec moment q plan (table_rows format (of_rows plan) founds))) all in
      let here : length (standard_text spec moment q plan (table_rows format (of_rows plan) (found_up_to lines folder (front ++ log ∷ rest) at))) ≡ length (standard_text spec moment q plan (table_rows format (of_rows plan) (first ++ own))) =
      ap (λ (founds : List Found). length (standard_text spec moment q plan (table_rows format (of_rows plan) founds))) up_to in
      record { place = at; within = place_within lines folder front log rest m there (omega arith); written = omega arith; read = omega arith }

  -- the place may be taken before the end of the log, where a line without LF may end
  pub close_by : now ≤ before + spans_size (whole_spans front) + place + 65_536 → now ≤ before + spans_size (whole_spans front) + length (log_bytes folder log)
      → IsClose spec moment q format plan folder (front ++ log ∷ rest) was is before now
  close_by read reach =
      let bytes = log_bytes folder log in
      elim (cases_lt place (length bytes)) [
        | inl lt ↦ close_at place place (omega arith) (omega arith) refl (inl lt) (omega arith)
        | inr ge ↦
            let last : ℕ = length bytes - 1 in
            let same : take place bytes ≡ take (length bytes) bytes = take_all place bytes ge ∙ sym (take_all (length bytes) bytes (omega arith)) in
            let where_is : (last < length bytes) ⊎ (last ≡ 0) = elim (cases_lt 0 (length bytes)) [ inl some ↦ inl (omega arith) | inr none ↦ inr (omega arith) ] in
            close_at last (length bytes) (omega arith) (omega arith) same where_is (omega arith)
      ]
