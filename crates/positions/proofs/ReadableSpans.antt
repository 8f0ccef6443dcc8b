-- Spans of files may be read.
use Rattle.std.proofs.Common.{◌≡◌, ℕ, zero, suc, ◌<◌, ◌≤◌, List, [], ◌∷◌, ◌++◌, length, get_or, Option, Some, None, Result, Ok, Err, sym, ap, subst, arith}
use Rattle.std.specs.Result.{IfOk}
use Rattle.std.specs.List.{AllZip, AllByRecursion}
use Rattle.lp_model.specs.Outside.{Folder, OnlyGrow, Told, bytes_in}
use Rattle.lp_model.specs.Reading.{Standing}
use Rattle.lp_model.proofs.Pieces.{there_grown}
use Rattle.run_model.specs.Listed.{Listed}
use Rattle.log_reading.specs.Spans.{AllSpans, IsSpan}
use Rattle.log_reading.specs.declared.span.Span.{Span}
use Rattle.positions.specs.declared.place.Place.{Place}
use Rattle.positions.specs.declared.spans.SpanFault.{SpanFault}
use Rattle.positions.specs.Places.{Places, place_in}
use Rattle.positions.specs.Spans.{start_of, IsSpanOf}
use Rattle.positions.specs.Spanning.{plain_file}
use Rattle.positions.specs.SpanSteps.{ArePlain, AddsStem}
use Rattle.positions.specs.Readable.{IsReadable, AreReadable, StayReadable}

lines_low : (start : Place) (span : Span) → span.from ≡ start.to → span.standing ≡ start.standing → span.standing.lines ≤ span.from
lines_low start span from standing =
    let low = start.low in
    let lines = ap (λ (s : Standing). s.lines) standing in
    omega (arith, low, from, lines)

-- a span of a file
pub readable : (places : Places) (before now : Option Folder) (file : Listed) (span : Span) → IsSpanOf places before now file span → IsReadable now span
readable places before now file span is = record {
  is = record { start = is.forward; cut = is.listed.bounded; lines = lines_low (start_of (place_in places file.identity)) span is.from_is is.standing_is };
  there = subst (λ (name : List ℕ). Told now (λ folder. span.listed ≤ length (bytes_in folder name))) (sym is.name_is) is.listed.most;
}

readable_later : (mid now : Option Folder) (spans : List Span) → OnlyGrow mid now → AreReadable mid spans → AreReadable now spans
readable_later mid now [] grow all = tt
readable_later mid now (span ∷ spans) grow all = (record { is = all.0.is; there = there_grown mid now span.name span.listed grow all.0.there }, readable_later mid now spans grow all.1)

zip_readable : (places : Places) (before now : Option Folder) (files : List Listed) (spans : List Span) → AllZip (IsSpanOf places before now) files spans → AreReadable now spans
zip_readable places before now [] [] all = tt
zip_readable places before now [] (span ∷ spans) all = absurd all
zip_readable places before now (file ∷ files) [] all = absurd all
zip_readable places before now (file ∷ files) (span ∷ spans) all = (readable places before now file span all.0, zip_readable places before now files spans all.1)

joined_readable : (now : Option Folder) (front back : List Span) → AreReadable now front → AreReadable now back → AreReadable now (front ++ back)
joined_readable now [] back first second = second
joined_readable now (span ∷ front) back first second = (first.0, joined_readable now front back first.1 second)

-- spans of a stem's files, behind others
pub stem_readable : (places : Places) (before now : Option Folder) (stem : List ℕ) (old new : List Span) → OnlyGrow before now → AddsStem places before now stem old new → StayReadable before now old new
stem_readable places before now stem old new grow stems = λ all.
    let adds = stems.adds in
    subst (λ (spans : List Span). AreReadable now spans) (sym adds.added) (joined_readable now old adds.more (readable_later before now old grow all) (zip_readable places before now stems.files adds.more adds.each))

-- spans of files that are their own logs
pub plain_readable : (places : Places) (before now : Option Folder) (spans : List Span) → ArePlain places before now spans → AreReadable now spans
plain_readable places before now [] all = tt
plain_readable places before now (span ∷ spans) all = (readable places before now (plain_file span.identity) span all.0, plain_readable places before now spans all.1)

-- each span of a list, by its place
at_each : (P : Span → Type 0) (spans : List Span) (k : ℕ) (span : Span) → AllByRecursion P spans → k < length spans → span ≡ get_or spans k span → P span
at_each P [] k span all less is = absurd (omega (arith, less))
at_each P (s ∷ spans) zero span all less is = subst P (sym is) all.0
at_each P (s ∷ spans) (suc k) span all less is = at_each P spans k span all.1 (omega (arith, less)) is

are_spans : (now : Option Folder) (spans : List Span) → AreReadable now spans → AllSpans spans IsSpan
are_spans now spans all = λ k span less is. (at_each (IsReadable now) spans k span all less is).is

are_there : (now : Option Folder) (spans : List Span) → AreReadable now spans → Told now (λ folder. AllSpans spans (λ span. span.listed ≤ length (bytes_in folder span.name)))
are_there None spans all = tt
are_there (Some folder) spans all = λ k span less is. (at_each (IsReadable (Some folder)) spans k span all less is).there

-- what a call answers may be read
pub answer_low : (now : Option Folder) (r : Result (List Span) SpanFault) → IfOk r (AreReadable now) → IfOk r (λ spans. AllSpans spans IsSpan)
answer_low now (Ok spans) all = are_spans now spans all
answer_low now (Err fault) all = tt

pub answer_there : (now : Option Folder) (r : Result (List Span) SpanFault) → IfOk r (AreReadable now) → IfOk r (λ spans. Told now (λ folder. AllSpans spans (λ span. span.listed ≤ length (bytes_in folder span.name))))
answer_there now (Ok spans) all = are_there now spans all
answer_there now (Err fault) all = tt
