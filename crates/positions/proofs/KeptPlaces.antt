-- The place of a log is its kept place.
use Rattle.std.proofs.Common.{◌≡◌, ℕ, List, [], ◌∷◌, Bool, true, false, Option, Some, None, refl, sym, ◌∙◌}
use Rattle.std.specs.Prelude.{if◌then◌else◌}
use Rattle.ledger_model.specs.Entries.{Entry, Span}
use Rattle.run_model.specs.Kept.{spans_of, is_of, place_after, kept_place}
use Rattle.positions.specs.declared.place.Place.{Place}
use Rattle.positions.specs.Places.{last_from, last_of, end_of, IsPlaceOf, place_in, Kept, Keeps}
use Rattle.positions.specs.Spans.{start_of}

end_if : (b : Bool) (span : Span) (found : Option Span) (n : ℕ) → n ≡ end_of found → (if b then span.to else n) ≡ end_of (if b then Some span else found)
end_if true span found n is = refl
end_if false span found n is = is

place_from : (identity : List ℕ) (n : ℕ) (found : Option Span) (spans : List Span) → n ≡ end_of found → place_after identity n spans ≡ end_of (last_from identity found spans)
place_from identity n found [] is = is
place_from identity n found (span ∷ spans) is = place_from identity (if is_of identity span then span.to else n) (if is_of identity span then Some span else found) spans (end_if (is_of identity span) span found n is)

end_start : (found : Option Span) (place : Option Place) → IsPlaceOf found place → end_of found ≡ (start_of place).to
end_start None None is = refl
end_start None (Some place) is = absurd is
end_start (Some span) None is = absurd is
end_start (Some span) (Some place) is = sym is.to_is

pub place_kept : (entries : List Entry) (kept : Kept) (identity : List ℕ) → Keeps entries kept → kept_place identity entries ≡ (start_of (place_in kept.places identity)).to
place_kept entries kept identity keeps = place_from identity 0 None (spans_of entries) refl ∙ end_start (last_of identity (spans_of entries)) (place_in kept.places identity) (keeps.places.each identity)
