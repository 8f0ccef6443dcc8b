-- The parts that entries have of their logs are what a run met in its spans.
use Rattle.std.proofs.Common.{◌≡◌, ◌⊎◌, ℕ, suc, ◌+◌, ◌≤◌, Bool, true, List, [], ◌∷◌, ◌++◌, length, take, map, flat_map, Option, Some, None, refl, sym, ◌∙◌, ap, subst, arith, length-append}
use Rattle.std.specs.Prelude.{max, sum}
use Rattle.std.specs.List.{AllByRecursion}
use Rattle.std.proofs.lemmas.List.Sums.{sum_by-cons}
use Rattle.std.proofs.Math.Nat.{max-eq_right}
use Rattle.lp_model.specs.Following.{IsLineEnd}
use Rattle.lp_model.specs.Outside.{Folder, bytes_in}
use Rattle.lp_model.specs.Reading.{Format, standing_at, records_of, bad_lines_of}
use Rattle.ledger_model.specs.Entries.{Span as EntrySpan}
use Rattle.column_kinds.specs.declared.kept.FirstLog.{FirstLog}
use Rattle.column_kinds.specs.Past.{Past, log_with, or_first}
use Rattle.column_kinds.specs.Spans.{span_first, first_log, past_of}
use Rattle.log_reading.specs.Found.{Found, found_of}
use Rattle.log_reading.specs.declared.span.Span.{Span}
use Rattle.log_reading.specs.Spans.{IsKept, cut_of, last_end, span_end, span_found, spans_found, span_bad, spans_bad}
use Rattle.run_model.specs.Logs.{Written}
use Rattle.run_model.specs.Meanings.{Part}
use Rattle.run_model.specs.Right.{span_part, parts_of, bad_of, bad_in, rows_in}
use Rattle.program_meaning.specs.Gives.{part_found, first_in, past_in}
use Rattle.program_meaning.proofs.Ends.{last_end_is_last, standing_of_whole, records_of_whole, bad_of_whole}

-- an entry's span of a span that a run read, whose file holds all that was written to its log
pub record IsPartOf (format : Format) (written : Written) (folder : Folder) (span : Span) (kept : EntrySpan) : Type 0 where
  pub identity : kept.identity ≡ span.identity
  pub from : kept.from ≡ span.from
  pub to : kept.to ≡ span_end true folder span
  pub shows : bytes_in written span.identity ≡ bytes_in folder span.name
  pub is_kept : IsKept format true (cut_of folder span) span

abbrev pub ArePartsOf : Format → Written → Folder → List Span → List EntrySpan → Type 0
ArePartsOf format written folder spans kept = Rattle.std.specs.List.AllZip (IsPartOf format written folder) spans kept

module _ (format : Format) (written : Written) (folder : Folder) where
  -- a span ends where the last line of its cut does
  end_is : (span : Span) → IsKept format true (cut_of folder span) span → span_end true folder span ≡ last_end (cut_of folder span)
  end_is span kept = max-eq_right ((last_end_is_last (cut_of folder span)).last span.from kept.at_end)

  part_is : (span : Span) (kept : EntrySpan) → IsPartOf format written folder span kept
      → span_part format written kept ≡ record { identity = span.identity; records = records_of format (cut_of folder span) true span.from (length (cut_of folder span)); columns = (standing_at format (cut_of folder span) true (length (cut_of folder span))).columns }
  part_is span kept is =
      let whole = bytes_in folder span.name in
      let end : ℕ = last_end (cut_of folder span) in
      let last = last_end_is_last (cut_of folder span) in
      let to : kept.to ≡ end = is.to ∙ end_is span is.is_kept in
      let bytes : bytes_in written kept.identity ≡ whole = ap (λ (i : List ℕ). bytes_in written i) is.identity ∙ is.shows in
      let made : List ℕ → List ℕ → ℕ → ℕ → Part = λ identity b from to. record { identity = identity; records = records_of format b true from to; columns = (standing_at format b true to).columns } in
      (λ i. made (is.identity i) (bytes i) (is.from i) (to i))
      ∙ (λ i. record { identity = span.identity; records = sym (records_of_whole whole span.listed end last format span.from) i; columns = (sym (standing_of_whole whole span.listed end last format) i).columns })

  pub past_is : (spans : List Span) (kept : List EntrySpan) → ArePartsOf format written folder spans kept → past_in (parts_of format written kept) ≡ past_of format true folder spans
  past_is spans kept are = (λ i. record { first = firsts spans kept are i; founds = founds spans kept are i })
    where
      founds : (spans : List Span) (kept : List EntrySpan) → ArePartsOf format written folder spans kept → flat_map part_found (parts_of format written kept) ≡ spans_found format true folder spans
      founds [] [] are = refl
      founds [] (k ∷ ks) are = absurd are
      founds (s ∷ ss) [] are = absurd are
      founds (s ∷ ss) (k ∷ ks) (is, more) = (λ i. part_found (part_is s k is i) ++ founds ss ks more i)

      firsts : (spans : List Span) (kept : List EntrySpan) → ArePartsOf format written folder spans kept → first_in (parts_of format written kept) ≡ first_log format true folder spans
      firsts [] [] are = refl
      firsts [] (k ∷ ks) are = absurd are
      firsts (s ∷ ss) [] are = absurd are
      firsts (s ∷ ss) (k ∷ ks) (is, more) = (λ i. or_first (log_with (part_is s k is i).identity (part_is s k is i).columns) (firsts ss ks more i))

  found_size : (identity : List ℕ) (records : List Rattle.lp_model.specs.Reading.Record) → length (found_of identity records) ≡ length records
  found_size identity [] = refl
  found_size identity (r ∷ rs) = ap suc (found_size identity rs)

  pub rows_are : (spans : List Span) (kept : List EntrySpan) → ArePartsOf format written folder spans kept → rows_in (parts_of format written kept) ≡ length (spans_found format true folder spans)
  rows_are [] [] are = refl
  rows_are [] (k ∷ ks) are = absurd are
  rows_are (s ∷ ss) [] are = absurd are
  rows_are (s ∷ ss) (k ∷ ks) (is, more) =
      let here : length (span_part format written k).records ≡ length (span_found format true folder s) = ap (λ (p : Part). length p.records) (part_is s k is) ∙ sym (found_size s.identity _) in
      let rest = rows_are ss ks more in
      let size = length-append (span_found format true folder s) (spans_found format true folder ss) in
      let more_rows : rows_in (parts_of format written (k ∷ ks)) ≡ length (span_part format written k).records + rows_in (parts_of format written ks) = sum_by-cons (λ (n : ℕ). n) (length (span_part format written k).records) (map (λ (p : Part). length p.records) (parts_of format written ks)) in
      omega (arith, here, rest, size, more_rows)

  bad_is : (span : Span) (kept : EntrySpan) → IsPartOf format written folder span kept → bad_of format written kept ≡ length (span_bad format true folder span)
  bad_is span kept is =
      let whole = bytes_in folder span.name in
      let end : ℕ = last_end (cut_of folder span) in
      let last = last_end_is_last (cut_of folder span) in
      let to : kept.to ≡ end = is.to ∙ end_is span is.is_kept in
      let bytes : bytes_in written kept.identity ≡ whole = ap (λ (i : List ℕ). bytes_in written i) is.identity ∙ is.shows in
      (λ i. length (bad_lines_of format (bytes i) true (is.from i) (to i))) ∙ ap length (sym (bad_of_whole whole span.listed end last format span.from))

  pub bad_are : (spans : List Span) (kept : List EntrySpan) → ArePartsOf format written folder spans kept → bad_in format written kept ≡ length (spans_bad format true folder spans)
  bad_are [] [] are = refl
  bad_are [] (k ∷ ks) are = absurd are
  bad_are (s ∷ ss) [] are = absurd are
  bad_are (s ∷ ss) (k ∷ ks) (is, more) =
      let here = bad_is s k is in
      let rest = bad_are ss ks more in
      let size = length-append (span_bad format true folder s) (spans_bad format true folder ss) in
      let more_bad : bad_in format written (k ∷ ks) ≡ bad_of format written k + bad_in format written ks = sum_by-cons (λ (n : ℕ). n) (bad_of format written k) (map (bad_of format written) ks) in
      omega (arith, here, rest, size, more_bad)
