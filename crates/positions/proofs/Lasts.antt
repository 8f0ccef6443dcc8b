-- The last span of a log, with a span more.
use Rattle.std.proofs.Common.{◌≡◌, ℕ, List, [], ◌∷◌, ◌++◌, Bool, true, false, Option, Some, None, refl, sym, ◌∙◌, ap, subst, append_assoc}
use Rattle.std.specs.Prelude.{if◌then◌else◌}
use Rattle.std.proofs.lemmas.List.{append-nil}
use Rattle.ledger_model.specs.Entries.{Entry, Span}
use Rattle.run_model.specs.Kept.{spans_of, is_of}
use Rattle.positions.specs.declared.place.Place.{Place}
use Rattle.positions.specs.Places.{last_from, last_of, first_input, first_of, IsEndOf, IsPlaceOf, Places, place_in, Remembers, Keeps, Puts, kept_of}

last_snoc_from : (identity : List ℕ) (before : Option Span) (spans : List Span) (span : Span) → last_from identity before (spans ++ span ∷ []) ≡ (if is_of identity span then Some span else last_from identity before spans)
last_snoc_from identity before [] span = refl
last_snoc_from identity before (x ∷ spans) span = last_snoc_from identity (if is_of identity x then Some x else before) spans span

place_at : (span : Span) (place : Place) (b : Bool) (found : Option Span) (had now : Option Place) → IsEndOf span place → IsPlaceOf found had → now ≡ (if b then Some place else had) → IsPlaceOf (if b then Some span else found) now
place_at span place true found had now ends was is = subst (λ (p : Option Place). IsPlaceOf (Some span) p) (sym is) ends
place_at span place false found had now ends was is = subst (λ (p : Option Place). IsPlaceOf found p) (sym is) was

-- one span more
pub remembers_more : (spans : List Span) (span : Span) (place : Place) (old new : Places) → Remembers spans old → IsEndOf span place → Puts span.identity place old new → Remembers (spans ++ span ∷ []) new
remembers_more spans span place old new remembers ends puts = record {
  each = λ identity. subst (λ (s : Option Span). IsPlaceOf s (place_in new identity)) (sym (last_snoc_from identity None spans span))
      (place_at span place (is_of identity span) (last_of identity spans) (place_in old identity) (place_in new identity) ends (remembers.each identity) (puts identity));
}

-- no places of no spans
pub remembers_none : (places : Places) → places ≡ [] → Remembers [] places
remembers_none places none = record { each = λ identity. subst (λ (p : Option Place). IsPlaceOf None p) (sym (ap (λ (ps : Places). place_in ps identity) none)) tt }

pub spans_snoc : (entries : List Entry) (entry : Entry) → spans_of (entries ++ entry ∷ []) ≡ spans_of entries ++ entry.spans
spans_snoc [] entry = append-nil entry.spans
spans_snoc (x ∷ entries) entry = ap (λ (l : List Span). x.spans ++ l) (spans_snoc entries entry) ∙ sym (append_assoc x.spans (spans_of entries) entry.spans)

first_snoc : (entries : List Entry) (entry : Entry) → first_input (entries ++ entry ∷ []) ≡ first_of (first_input entries) entry.input
first_snoc [] entry = refl
first_snoc (x ∷ entries) entry = refl

-- one entry more
pub keeps_more : (entries : List Entry) (entry : Entry) (input now : Option (List ℕ)) (old new : Places) → Keeps entries (kept_of input old) → now ≡ first_of input entry.input → Remembers (spans_of entries ++ entry.spans) new → Keeps (entries ++ entry ∷ []) (kept_of now new)
keeps_more entries entry input now old new keeps is remembers = record {
  input = is ∙ ap (λ (i : Option (List ℕ)). first_of i entry.input) keeps.input ∙ sym (first_snoc entries entry);
  places = subst (λ (l : List Span). Remembers l new) (sym (spans_snoc entries entry)) remembers;
}

pub keeps_none : (input : Option (List ℕ)) (places : Places) → input ≡ None → places ≡ [] → Keeps [] (kept_of input places)
keeps_none input places none empty = record { input = none; places = remembers_none places empty }
