-- What is known behind some first lines of spans.
use Rattle.std.proofs.Common.{◌≡◌, ℕ, Bool, List, [], ◌∷◌, ◌++◌, length, map, ap, sym, ◌∙◌, refl, subst, arith, append_assoc}
use Rattle.std.specs.List.{flat_map}
use Rattle.std.proofs.lemmas.Grind.{flat_map-append}
use Rattle.lp_model.specs.Lines.{Line}
use Rattle.lp_model.specs.Outside.{Folder}
use Rattle.lp_model.specs.Reading.{Format, records_in, standing_at}
use Rattle.log_reading.specs.Found.{Found, found_of, row_met}
use Rattle.log_reading.specs.declared.span.Span.{Span}
use Rattle.log_reading.specs.Spans.{cut_of, span_found, spans_found, spans_met}
use Rattle.log_reading.specs.UpTo.{BeginsWith, UpTo, found_on, found_up_to, met_up_to, next_found, span_lines}
use Rattle.column_kinds.specs.Laws.{later_noted, later_same, later_trans, later_with, past_met-append, past_with-append, past_with-none, told_stays}
use Rattle.column_kinds.specs.Past.{Past, AreEnough, IsTold, Later, nothing, past_met, past_with}
use Rattle.column_kinds.specs.Sampling.{Rules, told_by}
use Rattle.column_kinds.specs.Spans.{past_behind, past_behind_span}
use Rattle.column_kinds.proofs.Behind.{behind_founds}
use Rattle.column_kinds.proofs.SetsOnce.{found_of-append}
use Rattle.column_kinds.proofs.Taken.{met_spans}

-- before the first record the sample isn't there
pub none_enough : (limit : ℕ) → AreEnough limit [] → ⊥
none_enough limit enough =
    let some = enough.0 in
    omega (arith, some)

-- rows that are met are records
rows_told : (past : Past) (founds : List Found) → past_met past (map row_met founds) ≡ past_with past founds
rows_told past [] = sym (past_with-none past)
rows_told past (found ∷ founds) = rows_told (past_with past (found ∷ [])) founds ∙ past_with-append past (found ∷ []) founds

module _ (format : Format) (waits : Bool) (folder : Folder) where
  -- the rows of a span are those of its first lines, and then those of the others
  found_parts : (span : Span) (lines behind : List Line) → span_lines waits folder span ≡ lines ++ behind
      → span_found format waits folder span ≡ found_on format waits folder span lines ++ found_on format waits folder span behind
  found_parts span lines behind stands =
      let records = records_in format (cut_of folder span) waits in
      ap (λ (l : List Line). found_on format waits folder span l) stands
      ∙ (ap (found_of span.identity) (flat_map-append records lines behind) ∙ found_of-append span.identity (flat_map records lines) (flat_map records behind))

  later_behind : (past : Past) (spans : List Span) → Later past (past_behind format waits folder past spans)
  later_behind past [] = later_same past
  later_behind past (span ∷ spans) =
      let bytes = cut_of folder span in
      let all = past_with past (span_found format waits folder span) in
      let next = past_behind_span format waits folder past span in
      let last = past_behind format waits folder next spans in
      later_trans past all last (later_with past (span_found format waits folder span))
      (later_trans all next last (later_noted all span.identity (standing_at format bytes waits (length bytes)).columns) (later_behind next spans))

  -- behind the first lines of the first of these spans more may come
  next_later : (past : Past) (rest : List Span) (lines : List Line) → BeginsWith waits folder rest lines → Later (past_with past (next_found format waits folder rest lines)) (past_behind format waits folder past rest)
  next_later past [] lines none =
      let Of : Past → Type 0 = λ p. Later p past in
      subst Of (sym (past_with-none past)) (later_same past)
  next_later past (span ∷ spans) lines (behind, stands) =
      let bytes = cut_of folder span in
      let some = past_with past (found_on format waits folder span lines) in
      let all = past_with past (span_found format waits folder span) in
      let next = past_behind_span format waits folder past span in
      let last = past_behind format waits folder next spans in
      let same = past_with-append past (found_on format waits folder span lines) (found_on format waits folder span behind) ∙ ap (λ (t : List Found). past_with past t) (sym (found_parts span lines behind stands)) in
      let Of : Past → Type 0 = λ p. Later some p in
      later_trans some all last (subst Of same (later_with some (found_on format waits folder span behind)))
      (later_trans all next last (later_noted all span.identity (standing_at format bytes waits (length bytes)).columns) (later_behind next spans))

  behind_more : (past : Past) (front rest : List Span) → past_behind format waits folder past (front ++ rest) ≡ past_behind format waits folder (past_behind format waits folder past front) rest
  behind_more past [] rest = refl
  behind_more past (span ∷ front) rest = behind_more (past_behind_span format waits folder past span) front rest

  -- what is known there
  abbrev pub past_up_to : (spans : List Span) → Past → UpTo waits folder spans → Past
  past_up_to spans past up = past_met past (met_up_to format waits folder spans up)

  up_is : (spans : List Span) (past : Past) (up : UpTo waits folder spans) → past_up_to spans past up ≡ past_with (past_behind format waits folder past up.front) (next_found format waits folder up.rest up.lines)
  up_is spans past up =
      let next = next_found format waits folder up.rest up.lines in
      sym (past_met-append past (spans_met format waits folder up.front) (map row_met next))
      ∙ (ap (λ (p : Past). past_met p (map row_met next)) (met_spans format waits folder past up.front) ∙ rows_told (past_behind format waits folder past up.front) next)

  -- the records there
  pub up_founds : (spans : List Span) (past : Past) (up : UpTo waits folder spans) → (past_up_to spans past up).founds ≡ past.founds ++ found_up_to format waits folder spans up
  up_founds spans past up =
      let next = next_found format waits folder up.rest up.lines in
      ap (λ (p : Past). p.founds) (up_is spans past up)
      ∙ (ap (λ t. t ++ next) (behind_founds format waits folder past up.front) ∙ append_assoc past.founds (spans_found format waits folder up.front) next)

  -- behind all spans more is known
  pub up_later : (spans : List Span) (past : Past) (up : UpTo waits folder spans) → Later (past_up_to spans past up) (past_behind format waits folder past spans)
  up_later spans past up =
      let next = next_found format waits folder up.rest up.lines in
      let behind = past_behind format waits folder past up.front in
      let all = past_behind format waits folder past spans in
      let parts : all ≡ past_behind format waits folder behind up.rest = ap (λ (t : List Span). past_behind format waits folder past t) up.stands ∙ behind_more past up.front up.rest in
      let Before : Past → Type 0 = λ p. Later p all in
      let Behind : Past → Type 0 = λ p. Later (past_with behind next) p in
      subst Before (sym (up_is spans past up)) (subst Behind (sym parts) (next_later behind up.rest up.lines up.begins))

  -- the sample is there
  pub up_enough : (limit : ℕ) (spans : List Span) (up : UpTo waits folder spans) → IsTold limit (past_up_to spans nothing up) → AreEnough limit (found_up_to format waits folder spans up)
  up_enough limit spans up told =
      let Of : List Found → Type 0 = λ founds. AreEnough limit founds in
      subst Of (up_founds spans nothing up) (told.some, told.enough)

  -- and what it tells stays
  pub up_stays : {M : Type 0} (rules : Rules M) (spans : List Span) (past : Past) (up : UpTo waits folder spans) → IsTold rules.limit (past_up_to spans past up)
      → told_by rules (past_behind format waits folder past spans) ≡ told_by rules (past_up_to spans past up)
  up_stays rules spans past up told = told_stays rules (past_up_to spans past up) (past_behind format waits folder past spans) told (up_later spans past up)
