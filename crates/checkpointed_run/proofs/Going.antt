-- The spans of a run go on from where the entries before it left their logs.
use Rattle.std.proofs.Common.{◌≡◌, ℕ, ◌-◌, ◌<◌, ◌≤◌, ◌^◌, true, List, [], ◌∷◌, ◌++◌, length, take, drop, get_or, Option, Some, None, refl, sym, ◌∙◌, ap, subst, arith, inl, inr}
use Rattle.std.specs.List.{AllByRecursion}
use Rattle.std.proofs.Math.Nat.{max-eq_right}
use Rattle.std.proofs.lemmas.Bool.{cases_Bool}
use Rattle.std.proofs.lemmas.List.{take-append-drop, get_or-take, length-take-le}
use Rattle.std.proofs.lemmas.Slice.Eq.{bytes_eq-Decides}
use Rattle.disk_model.specs.Disk.{Files}
use Rattle.ledger_model.specs.Entries.{Entry}
use Rattle.ledger_model.specs.Entries.{Span as EntrySpan}
use Rattle.ledger_model.specs.Standings.{standing_layout}
use Rattle.log_reading.specs.Spans.{IsKept, cut_of, last_end, span_end, took_of}
use Rattle.log_reading.specs.declared.span.Span.{Span}
use Rattle.lp_model.specs.Following.{IsLineEnd}
use Rattle.lp_model.specs.Outside.{Folder, bytes_in}
use Rattle.lp_model.specs.Reading.{Format, Standing, standing_at}
use Rattle.lp_model.proofs.Appending.{standing_at-stays}
use Rattle.run_model.specs.Kept.{spans_of, is_of, kept_place}
use Rattle.run_model.specs.Logs.{Written}
use Rattle.run_model.specs.Meanings.{Meaning}
use Rattle.run_model.specs.Right.{GoesOn, FollowFrom}
use Rattle.positions.specs.Places.{Kept, Keeps, IsPlaceOf, IsEndOf, last_from, last_of, place_in}
use Rattle.positions.specs.Spans.{start_of}
use Rattle.positions.specs.declared.place.Place.{Place}
use Rattle.run_entry.proofs.Ends.{last_end_is_last, standing_at_end}
use Rattle.run_entry.specs.Entries.{kept_span}
use Rattle.checkpointed_run.specs.Sound.{IsSound}

-- a span ended at an end of a line, and keeps how its log stands there
pub record EndsWell (format : Format) (written : Written) (span : EntrySpan) : Type 0 where
  pub bytes : List ℕ
  pub is : written span.identity ≡ Some bytes
  pub ends : IsLineEnd bytes span.to
  pub standing_is : span.standing ≡ (standing_layout span.to).spell (standing_at format bytes true span.to)

all_append : {X : Type 0} (P : X → Type 0) (xs ys : List X) → AllByRecursion P xs → AllByRecursion P ys → AllByRecursion P (xs ++ ys)
all_append P [] ys a b = b
all_append P (x ∷ xs) ys (p, a) b = (p, all_append P xs ys a b)

each_ends : (format : Format) (written : Written) (before : List Entry) (spans : List EntrySpan) → AllByRecursion (GoesOn format written before) spans → AllByRecursion (EndsWell format written) spans
each_ends format written before [] go = tt
each_ends format written before (s ∷ ss) (g, go) = (record { bytes = g.bytes; is = g.is; ends = g.ends; standing_is = g.standing_is }, each_ends format written before ss go)

-- so did all spans of entries that come one after another and read their logs in one format
pub all_end : (meaning : Meaning) (written : Written) (input : List ℕ) (before : List Entry) (files : Files) (entries : List Entry) (after : Files) → FollowFrom meaning written before files entries after
    → AllByRecursion (λ (entry : Entry). entry.input ≡ input) entries → AllByRecursion (EndsWell (meaning.format input) written) (spans_of entries)
all_end meaning written input before files [] after follow same = tt
all_end meaning written input before files (entry ∷ entries) after (next, is, follow) (here, same) =
    all_append (EndsWell (meaning.format input) written) entry.spans (spans_of entries)
    (each_ends (meaning.format input) written before entry.spans (subst (λ (t : List ℕ). AllByRecursion (GoesOn (meaning.format t) written before) entry.spans) here is.right.reads.go_on))
    (all_end meaning written input (before ++ entry ∷ []) next entries after follow same)

-- the last span of a log is one of its spans
last_is : (P : EntrySpan → Type 0) (identity : List ℕ) (first : Option EntrySpan) (spans : List EntrySpan) (last : EntrySpan) → AllByRecursion P spans → ((s : EntrySpan) → first ≡ Some s → P s × (s.identity ≡ identity)) → last_from identity first spans ≡ Some last → P last × (last.identity ≡ identity)
last_is P identity first [] last all known is = known last is
last_is P identity first (s ∷ spans) last (p, all) known is = elim (cases_Bool (is_of identity s)) [
  | inl e ↦
      let same : s.identity ≡ identity = (bytes_eq-Decides s.identity identity).0 e in
      last_is P identity (Some s) spans last all (λ t at. let is_s : s ≡ t = cc in subst (λ (u : EntrySpan). P u × (u.identity ≡ identity)) is_s (p, same)) (rw e at is)
  | inr e ↦ last_is P identity first spans last all known (rw e at is)
]

-- two standings with the same bytes, which both fit, are one
abbrev pub OneStanding : Type 0
OneStanding = (most : ℕ) (a b : Standing) → (standing_layout most).Fits a → (standing_layout most).Fits b → (standing_layout most).spell a ≡ (standing_layout most).spell b → a ≡ b

-- where a log is read from: an end of a line, with the standing there
pub record StartsWell (format : Format) (bytes : List ℕ) (place : Place) : Type 0 where
  pub ends : IsLineEnd bytes place.to
  pub standing_is : place.standing ≡ standing_at format bytes true place.to

pub starts_well : (format : Format) (written : Written) (entries : List Entry) (kept : Kept) (identity bytes : List ℕ) → Keeps entries kept → AllByRecursion (EndsWell format written) (spans_of entries) → written identity ≡ Some bytes
    → OneStanding → ((place : ℕ) → place < 2 ^ 64 → (standing_layout place).Fits (standing_at format bytes true place)) → (start_of (place_in kept.places identity)).to < 2 ^ 64 → standing_at format bytes true 0 ≡ record { lines = 0; columns = None }
    → StartsWell format bytes (start_of (place_in kept.places identity))
starts_well format written entries kept identity bytes keeps well is one fits low none = by (last_of identity (spans_of entries)) refl (place_in kept.places identity) refl (keeps.places.each identity)
  where
    no_some : (t : EntrySpan) → None ≡ Some t → ⊥
    no_some t at = absurd (cc)

    by : (last : Option EntrySpan) → last_of identity (spans_of entries) ≡ last → (place : Option Place) → place_in kept.places identity ≡ place → IsPlaceOf (last_of identity (spans_of entries)) (place_in kept.places identity) → StartsWell format bytes (start_of (place_in kept.places identity))
    by None last None place of = subst (λ (p : Option Place). StartsWell format bytes (start_of p)) (sym place) (record { ends = inl refl; standing_is = sym none })
    by None last (Some p) place of = absurd (subst (λ (o : Option EntrySpan). IsPlaceOf o (Some p)) last (subst (IsPlaceOf (last_of identity (spans_of entries))) place of))
    by (Some s) last None place of = absurd (subst (λ (o : Option EntrySpan). IsPlaceOf o None) last (subst (IsPlaceOf (last_of identity (spans_of entries))) place of))
    by (Some s) last (Some p) place of =
        let end : IsEndOf s p = subst (λ (o : Option EntrySpan). IsPlaceOf o (Some p)) last (subst (IsPlaceOf (last_of identity (spans_of entries))) place of) in
        let found = last_is (EndsWell format written) identity None (spans_of entries) s well (λ t at. absurd (no_some t at)) last in
        let w = found.0 in
        let same : Some w.bytes ≡ Some bytes = sym w.is ∙ ap written found.1 ∙ is in
        let bytes_are : w.bytes ≡ bytes = cc in
        let ends : IsLineEnd bytes s.to = subst (λ (b : List ℕ). IsLineEnd b s.to) bytes_are w.ends in
        let spelled : (standing_layout s.to).spell p.standing ≡ (standing_layout s.to).spell (standing_at format bytes true s.to) =
        sym end.standing_is ∙ (w.standing_is ∙ ap (λ (b : List ℕ). (standing_layout s.to).spell (standing_at format b true s.to)) bytes_are) in
        let at : (start_of (place_in kept.places identity)).to ≡ s.to = ap (λ (o : Option Place). (start_of o).to) place ∙ end.to_is in
        let standing = one s.to p.standing (standing_at format bytes true s.to) end.fits (fits s.to (subst (λ (n : ℕ). n < 2 ^ 64) at low)) spelled in
        subst (λ (o : Option Place). StartsWell format bytes (start_of o)) (sym place)
        (record { ends = subst (IsLineEnd bytes) (sym end.to_is) ends; standing_is = standing ∙ ap (λ (t : ℕ). standing_at format bytes true t) (sym end.to_is) })

-- an end of a line within a cut is one of the cut
pub end_in_cut : (bytes : List ℕ) (cut place : ℕ) → IsLineEnd bytes place → place ≤ cut → IsLineEnd (take cut bytes) place
end_in_cut bytes cut place (inl e) le = inl e
end_in_cut bytes cut place (inr (some, high, lf)) le = inr (some, size, at ∙ lf)
  where
    size : place ≤ length (take cut bytes)
    size = grind (arith, Rattle.std.proofs.lemmas.List.length-take)

    at : get_or (take cut bytes) (place - 1) 0 ≡ get_or bytes (place - 1) 0
    at = get_or-take cut bytes (place - 1) 0 (omega arith)

-- a span that starts so, in a file that holds all that was written to its log, is sound
pub is_sound : (format : Format) (written : Written) (folder : Folder) (span : Span) (bytes : List ℕ) (place : Place) → written span.identity ≡ Some bytes → folder span.name ≡ Some bytes → StartsWell format bytes place
    → span.from ≡ place.to → span.standing ≡ place.standing → span.from ≤ span.listed → IsSound format written folder span
is_sound format written folder span bytes place is there starts from standing le =
    let holds : bytes_in folder span.name ≡ bytes = rw there refl in
    let wrote : bytes_in written span.identity ≡ bytes = rw is refl in
    let ends : IsLineEnd bytes span.from = subst (IsLineEnd bytes) (sym from) starts.ends in
    let cut : IsLineEnd (take span.listed bytes) span.from = end_in_cut bytes span.listed span.from ends le in
    let whole : bytes ≡ take span.listed bytes ++ drop span.listed bytes = sym (take-append-drop span.listed bytes) in
    let stays : standing_at format bytes true span.from ≡ standing_at format (take span.listed bytes) true span.from =
    ap (λ (b : List ℕ). standing_at format b true span.from) whole ∙ standing_at-stays format (take span.listed bytes) (drop span.listed bytes) true span.from cut in
    record {
      is_kept = subst (λ (b : List ℕ). IsKept format true (take span.listed b) span) (sym holds)
          (record { at_end = cut; standing = standing ∙ (starts.standing_is ∙ (ap (λ (t : ℕ). standing_at format bytes true t) (sym from) ∙ stays)) });
      shows = wrote ∙ sym holds;
    }

-- what is taken of a sound span goes on from its log's kept place
pub goes_on : (format : Format) (written : Written) (folder : Folder) (entries : List Entry) (span : Span) (bytes : List ℕ) → written span.identity ≡ Some bytes → folder span.name ≡ Some bytes → IsSound format written folder span
    → span.from ≡ kept_place span.identity entries → GoesOn format written entries (kept_span (took_of format true folder span))
goes_on format written folder entries span bytes is there sound from =
    let holds : bytes_in folder span.name ≡ bytes = rw there refl in
    let cut : List ℕ = cut_of folder span in
    let cut_is : cut ≡ take span.listed bytes = ap (take span.listed) holds in
    let last = last_end_is_last cut in
    let end : span_end true folder span ≡ last_end cut = max-eq_right (last.last span.from sound.is_kept.at_end) in
    let ends_cut : IsLineEnd cut (span_end true folder span) = subst (IsLineEnd cut) (sym end) last.ends in
    let ends : IsLineEnd bytes (span_end true folder span) =
    subst (λ (b : List ℕ). IsLineEnd b (span_end true folder span)) (ap (λ (b : List ℕ). b ++ drop span.listed bytes) cut_is ∙ take-append-drop span.listed bytes)
    (Rattle.lp_model.proofs.Appending.end_stays cut (drop span.listed bytes) (span_end true folder span) ends_cut) in
    let last_bytes : Rattle.run_model.specs.Logs.IsLastEnd (take span.listed bytes) (last_end cut) = subst (λ (b : List ℕ). Rattle.run_model.specs.Logs.IsLastEnd b (last_end cut)) cut_is last in
    let standing : standing_at format cut true (span_end true folder span) ≡ standing_at format bytes true (span_end true folder span) =
    ap (λ (t : ℕ). standing_at format cut true t) end
    ∙ (ap (λ (b : List ℕ). standing_at format b true (last_end cut)) cut_is ∙ (standing_at_end bytes span.listed (last_end cut) last_bytes format ∙ ap (λ (t : ℕ). standing_at format bytes true t) (sym end))) in
    record {
      bytes = bytes;
      is = is;
      from_is = from;
      forward = subst (λ (t : ℕ). span.from ≤ t) (sym end) (last.last span.from sound.is_kept.at_end);
      ends = ends;
      standing_is = ap (standing_layout (span_end true folder span)).spell standing;
    }
