-- How much few spans have.
use Rattle.std.proofs.Common.{◌≡◌, ℕ, suc, ◌+◌, ◌-◌, ◌*◌, ◌<◌, ◌≤◌, ◌^◌, List, [], ◌∷◌, length, Option, Some, None, arith, refl}
use Rattle.std.proofs.lemmas.List.Sums.{sum_by-cons}
use Rattle.log_reading.specs.declared.span.Span.{Span}
use Rattle.log_reading.specs.Page.{IsWithin}
use Rattle.log_reading.specs.Spans.{AllSpans, IsSpan, spans_size}

size_of : (spans : List Span) → AllSpans spans IsSpan → spans_size spans ≤ length spans * 2 ^ 46
size_of [] all = omega arith
size_of (span ∷ spans) all =
    let first = (all 0 span (omega arith) refl).cut in
    let rest = size_of spans (λ k s here is. all (suc k) s (omega arith) is) in
    let step : spans_size (span ∷ spans) ≡ span.listed - span.from + spans_size spans = sum_by-cons (λ (span : Span). span.listed - span.from) span spans in
    omega arith

pub has_room : (spans : List Span) → AllSpans spans IsSpan → length spans ≤ 100000 → spans_size spans + length spans < 2 ^ 63
has_room spans all few =
    let size = size_of spans all in
    omega arith

-- no bad lines are never too many
pub within_none : (most_bad : Option ℕ) → IsWithin most_bad 0
within_none None = tt
within_none (Some most) = omega arith
