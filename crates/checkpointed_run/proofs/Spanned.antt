-- The spans that the kept places give are sound, and what is taken of them goes on.
use Rattle.std.proofs.Common.{◌≡◌, ℕ, ◌<◌, ◌^◌, true, List, [], ◌∷◌, map, Some, None, sym, ◌∙◌, ap, arith}
use Rattle.std.specs.List.{AllByRecursion, AllZip}
use Rattle.ledger_model.specs.Entries.{Entry}
use Rattle.ledger_model.specs.Standings.{standing_layout}
use Rattle.log_reading.specs.Spans.{IsSpan, took_of}
use Rattle.log_reading.specs.declared.span.Span.{Span}
use Rattle.lp_model.specs.Outside.{Folder}
use Rattle.lp_model.specs.Reading.{Format, standing_at}
use Rattle.run_model.specs.Kept.{spans_of}
use Rattle.run_model.specs.Listed.{Listed}
use Rattle.run_model.specs.Logs.{Written}
use Rattle.run_model.specs.Right.{GoesOn}
use Rattle.positions.specs.Places.{Kept, Keeps, place_in}
use Rattle.positions.specs.Spans.{IsSpanOf, start_of}
use Rattle.positions.proofs.KeptPlaces.{place_kept}
use Rattle.run_entry.specs.Entries.{kept_span}
use Rattle.checkpointed_run.specs.Sound.{IsSound}
use Rattle.checkpointed_run.proofs.Going.{EndsWell, OneStanding, starts_well, is_sound, goes_on}

-- the file of a span holds all that was written to its log
pub record IsShown (written : Written) (folder : Folder) (span : Span) : Type 0 where
  pub bytes : List ℕ
  pub wrote : written span.identity ≡ Some bytes
  pub there : folder span.name ≡ Some bytes

module _ (format : Format) (written : Written) (before folder : Folder) (entries : List Entry) (kept : Kept) (keeps : Keeps entries kept) (well : AllByRecursion (EndsWell format written) (spans_of entries)) (one : OneStanding)
    (fits : (bytes : List ℕ) (place : ℕ) → place < 2 ^ 64 → (standing_layout place).Fits (standing_at format bytes true place)) (none : (bytes : List ℕ) → standing_at format bytes true 0 ≡ record { lines = 0; columns = None }) where
  from_is : (file : Listed) (span : Span) → IsSpanOf kept.places (Some before) (Some folder) file span → span.from ≡ (start_of (place_in kept.places span.identity)).to
  from_is file span is = is.from_is ∙ ap (λ (i : List ℕ). (start_of (place_in kept.places i)).to) (sym is.identity_is)

  below : (file : Listed) (span : Span) → IsSpanOf kept.places (Some before) (Some folder) file span → IsSpan span → (start_of (place_in kept.places span.identity)).to < 2 ^ 64
  below file span is low = let from = from_is file span is in let start = low.start in let cut = low.cut in omega (arith, from, start, cut)

  sound_one : (file : Listed) (span : Span) → IsSpanOf kept.places (Some before) (Some folder) file span → IsSpan span → IsShown written folder span → IsSound format written folder span
  sound_one file span is low shown = is_sound format written folder span shown.bytes (start_of (place_in kept.places span.identity)) shown.wrote shown.there
      (starts_well format written entries kept span.identity shown.bytes keeps well shown.wrote one (fits shown.bytes) (below file span is low) (none shown.bytes))
      (from_is file span is)
      (is.standing_is ∙ ap (λ (i : List ℕ). (start_of (place_in kept.places i)).standing) (sym is.identity_is))
      is.forward

  pub all_sound : (files : List Listed) (spans : List Span) → AllZip (IsSpanOf kept.places (Some before) (Some folder)) files spans → AllByRecursion IsSpan spans → AllByRecursion (IsShown written folder) spans → AllByRecursion (IsSound format written folder) spans
  all_sound [] [] are lows shown = tt
  all_sound [] (s ∷ ss) are lows shown = absurd are
  all_sound (f ∷ fs) [] are lows shown = absurd are
  all_sound (f ∷ fs) (s ∷ ss) (is, are) (low, lows) (here, shown) = (sound_one f s is low here, all_sound fs ss are lows shown)

  pub all_go_on : (files : List Listed) (spans : List Span) → AllZip (IsSpanOf kept.places (Some before) (Some folder)) files spans → AllByRecursion IsSpan spans → AllByRecursion (IsShown written folder) spans
      → AllByRecursion (GoesOn format written entries) (map (λ (span : Span). kept_span (took_of format true folder span)) spans)
  all_go_on [] [] are lows shown = tt
  all_go_on [] (s ∷ ss) are lows shown = absurd are
  all_go_on (f ∷ fs) [] are lows shown = absurd are
  all_go_on (f ∷ fs) (s ∷ ss) (is, are) (low, lows) (here, shown) = (
    goes_on format written folder entries s here.bytes here.wrote here.there (sound_one f s is low here) (from_is f s is ∙ sym (place_kept entries kept s.identity keeps)),
    all_go_on fs ss are lows shown,
  )
