-- What entries list of a run, and that they know generations by numbers.
use Rattle.std.proofs.Common.{◌≡◌, ℕ, List, [], ◌∷◌, map, Some, refl, sym, ◌∙◌, ap, arith, true}
use Rattle.std.specs.Prelude.{max}
use Rattle.std.specs.List.{AllZip}
use Rattle.disk_model.specs.Disk.{Files}
use Rattle.ledger_model.specs.Entries.{Entry}
use Rattle.log_reading.specs.Spans.{cut_of, last_end, took_of}
use Rattle.log_reading.specs.declared.span.Span.{Span}
use Rattle.lp_model.specs.Outside.{Folder}
use Rattle.lp_model.specs.Reading.{Format}
use Rattle.positions.specs.Listing.{IsTaken}
use Rattle.positions.specs.Spanning.{KnowsNumbers}
use Rattle.run_model.specs.Logs.{Rotation, names, numbers, Logs, Parting, PartsNames, Shows, IsKnown, generation_name}
use Rattle.run_model.specs.Meanings.{Meaning}
use Rattle.run_model.specs.Right.{IsSettled}
use Rattle.run_model.proofs.Generations.{one_number, one_stem}
use Rattle.worlds.proofs.Good.{has_written}
use Rattle.run_entry.proofs.Ends.{last_end_is_last}
use Rattle.run_entry.specs.Entries.{kept_span}

-- what is kept of a span that was taken is what an entry has to list
pub are_taken : (format : Format) (folder : Folder) (spans : List Span) → AllZip (IsTaken folder) spans (map (λ (span : Span). kept_span (took_of format true folder span)) spans)
are_taken format folder [] = tt
are_taken format folder (s ∷ spans) = (
  record { identity_is = refl; end = last_end (cut_of folder s); is_end = last_end_is_last (cut_of folder s); to_is = turned s.from (last_end (cut_of folder s)) },
  are_taken format folder spans,
)
  where
    turned : (a b : ℕ) → max a b ≡ max b a
    turned a b = omega arith

-- what the entries of a settled state know of a stem are numbers from 1 on, of 64 bits
pub numbered : (rotation : Rotation) (meaning : Meaning) (parting : Parting) (logs : Logs) (start : Files) (entries : List Entry) (files : Files) → PartsNames rotation parting → Shows rotation parting logs
    → ((identity bytes : List ℕ) → logs.written identity ≡ Some bytes → IsKnown rotation parting logs identity) → IsSettled meaning logs.written start entries files → KnowsNumbers rotation entries
numbered names meaning parting logs start entries files parts shows known settled = tt
numbered numbers meaning parting logs start entries files parts shows known settled = λ stem number knows.
    let w = has_written meaning logs.written start entries files (generation_name stem number) settled knows in
    let g = known (generation_name stem number) w.0 w.1 in
    let stems : stem ≡ g.stem = one_stem stem g.stem number g.number g.is in
    let same : number ≡ g.number = one_number stem number g.number (g.is ∙ ap (λ (s : List ℕ). generation_name s g.number) (sym stems)) in
    let low = g.some in
    let high = g.within in
    let small = (shows.stems g.stem g.count g.rotated).1 in
    (omega (arith, same, low), omega (arith, same, high, small))
