-- First lines of spans: the least and the most of them, those behind other spans, and what is met up to there.
use Rattle.std.proofs.Common.{◌≡◌, ℕ, ◌+◌, Bool, true, List, [], ◌∷◌, ◌++◌, length, map, filter, flat_map, Option, Some, ap, ap₂, sym, ◌∙◌, refl, subst, arith, append_assoc, length-append}
use Rattle.std.proofs.lemmas.List.{append-nil, length-map, map-append}
use Rattle.std.proofs.lemmas.List.Elements.{filter-append}
use Rattle.std.proofs.lemmas.Grind.{flat_map-append}
use Rattle.lp_model.specs.Lines.{Line}
use Rattle.lp_model.specs.Outside.{Folder}
use Rattle.lp_model.specs.Reading.{Format, Record, records_in, standing_at}
use Rattle.log_reading.specs.Found.{Found, Met, met_of, log_ended, row_met, rows_met}
use Rattle.log_reading.specs.Page.{Takes, Stops, IsTooMany}
use Rattle.log_reading.specs.Spans.{BadLine, TakesSpans, bad_line, cut_of, span_bad, span_bad_lines, span_met, span_rows, spans_bad, spans_bad_lines, spans_found, spans_met}
use Rattle.log_reading.specs.UpTo.{BeginsWith, UpTo, StopsUpTo, TakesUpTo, IsNextBad, span_lines, found_on, is_bad_in, next_found, next_bad, found_up_to, met_up_to, bad_up_to}
use Rattle.log_reading.specs.declared.page.Page.{Page}
use Rattle.log_reading.specs.declared.span.Span.{Span}
use Rattle.log_reading.proofs.Advancing.{TakesMore, StopsLater, StopsMore, within_at, within_of}
use Rattle.log_reading.proofs.Founds.{met_found, met_of-append}
use Rattle.log_reading.proofs.RowsMet.{rows_met-append, rows_met_spans}

-- no line
pub begins_none : (waits : Bool) (folder : Folder) (spans : List Span) → BeginsWith waits folder spans []
begins_none waits folder [] = refl
begins_none waits folder (span ∷ spans) = (span_lines waits folder span, refl)

pub next_found_none : (format : Format) (waits : Bool) (folder : Folder) (spans : List Span) → next_found format waits folder spans [] ≡ []
next_found_none format waits folder [] = refl
next_found_none format waits folder (span ∷ spans) = refl

pub next_bad_none : (format : Format) (waits : Bool) (folder : Folder) (spans : List Span) → next_bad format waits folder spans [] ≡ []
next_bad_none format waits folder [] = refl
next_bad_none format waits folder (span ∷ spans) = refl

abbrev pub up_none : (waits : Bool) (folder : Folder) (spans : List Span) → UpTo waits folder spans
up_none waits folder spans = record { front = []; rest = spans; stands = refl; lines = []; begins = begins_none waits folder spans }

pub found_up_none : (format : Format) (waits : Bool) (folder : Folder) (spans : List Span) → found_up_to format waits folder spans (up_none waits folder spans) ≡ []
found_up_none format waits folder spans = next_found_none format waits folder spans

pub met_up_none : (format : Format) (waits : Bool) (folder : Folder) (spans : List Span) → met_up_to format waits folder spans (up_none waits folder spans) ≡ []
met_up_none format waits folder spans = ap (map row_met) (next_found_none format waits folder spans)

pub bad_up_none : (format : Format) (waits : Bool) (folder : Folder) (spans : List Span) → bad_up_to format waits folder spans (up_none waits folder spans) ≡ 0
bad_up_none format waits folder spans = ap (λ (lines : List Line). 0 + length lines) (next_bad_none format waits folder spans)

-- all lines
abbrev pub up_all : (waits : Bool) (folder : Folder) (spans : List Span) → UpTo waits folder spans
up_all waits folder spans = record { front = spans; rest = []; stands = sym (append-nil spans); lines = []; begins = refl }

pub found_up_all : (format : Format) (waits : Bool) (folder : Folder) (spans : List Span) → found_up_to format waits folder spans (up_all waits folder spans) ≡ spans_found format waits folder spans
found_up_all format waits folder spans = append-nil (spans_found format waits folder spans)

pub met_up_all : (format : Format) (waits : Bool) (folder : Folder) (spans : List Span) → met_up_to format waits folder spans (up_all waits folder spans) ≡ spans_met format waits folder spans
met_up_all format waits folder spans = append-nil (spans_met format waits folder spans)

pub bad_up_all : (format : Format) (waits : Bool) (folder : Folder) (spans : List Span) → bad_up_to format waits folder spans (up_all waits folder spans) ≡ length (spans_bad format waits folder spans)
bad_up_all format waits folder spans =
    let count : ℕ = length (spans_bad format waits folder spans) in
    let same : count + 0 ≡ count = omega arith in
    same

-- rows that are met are rows
rows_met_map : (founds : List Found) → rows_met (map row_met founds) ≡ founds
rows_met_map [] = refl
rows_met_map (found ∷ founds) = ap (λ t. found ∷ t) (rows_met_map founds)

pub rows_up_to : (format : Format) (waits : Bool) (folder : Folder) (spans : List Span) (up : UpTo waits folder spans) → rows_met (met_up_to format waits folder spans up) ≡ found_up_to format waits folder spans up
rows_up_to format waits folder spans up =
    rows_met-append (spans_met format waits folder up.front) (map row_met (next_found format waits folder up.rest up.lines))
    ∙ ap₂ (λ xs ys. xs ++ ys) (rows_met_spans format waits folder up.front) (rows_met_map (next_found format waits folder up.rest up.lines))

-- others stand behind
pub begins_more : (waits : Bool) (folder : Folder) (rest after : List Span) (lines : List Line) → BeginsWith waits folder rest lines → BeginsWith waits folder (rest ++ after) lines
begins_more waits folder [] after lines none = subst (BeginsWith waits folder after) (sym none) (begins_none waits folder after)
begins_more waits folder (span ∷ rest) after lines begins = begins

next_found_more : (format : Format) (waits : Bool) (folder : Folder) (rest after : List Span) (lines : List Line) → BeginsWith waits folder rest lines → next_found format waits folder (rest ++ after) lines ≡ next_found format waits folder rest lines
next_found_more format waits folder [] after lines none = ap (next_found format waits folder after) none ∙ next_found_none format waits folder after
next_found_more format waits folder (span ∷ rest) after lines begins = refl

next_bad_more : (format : Format) (waits : Bool) (folder : Folder) (rest after : List Span) (lines : List Line) → BeginsWith waits folder rest lines → next_bad format waits folder (rest ++ after) lines ≡ next_bad format waits folder rest lines
next_bad_more format waits folder [] after lines none = ap (next_bad format waits folder after) none ∙ next_bad_none format waits folder after
next_bad_more format waits folder (span ∷ rest) after lines begins = refl

is_next_more : (format : Format) (waits : Bool) (folder : Folder) (rest after : List Span) (lines : List Line) (bad : BadLine) → IsNextBad format waits folder rest lines bad → IsNextBad format waits folder (rest ++ after) lines bad
is_next_more format waits folder [] after lines bad next = absurd next
is_next_more format waits folder (span ∷ rest) after lines bad next = next

-- first lines of some spans, with all of others before them and more behind
abbrev pub up_within : (waits : Bool) (folder : Folder) (before here after : List Span) → UpTo waits folder here → UpTo waits folder (before ++ (here ++ after))
up_within waits folder before here after up = record {
  front = before ++ up.front;
  rest = up.rest ++ after;
  stands = ap (λ t. before ++ (t ++ after)) up.stands ∙ (ap (λ t. before ++ t) (append_assoc up.front up.rest after) ∙ sym (append_assoc before up.front (up.rest ++ after)));
  lines = up.lines;
  begins = begins_more waits folder up.rest after up.lines up.begins;
}

pub met_within : (format : Format) (waits : Bool) (folder : Folder) (before here after : List Span) (up : UpTo waits folder here)
    → met_up_to format waits folder (before ++ (here ++ after)) (up_within waits folder before here after up) ≡ spans_met format waits folder before ++ met_up_to format waits folder here up
met_within format waits folder before here after up =
    let next : List Met = map row_met (next_found format waits folder (up.rest ++ after) up.lines) in
    ap (λ t. t ++ next) (flat_map-append (span_met format waits folder) before up.front)
    ∙ (append_assoc (spans_met format waits folder before) (spans_met format waits folder up.front) next
    ∙ ap (λ t. spans_met format waits folder before ++ (spans_met format waits folder up.front ++ map row_met t)) (next_found_more format waits folder up.rest after up.lines up.begins))

pub bad_within : (format : Format) (waits : Bool) (folder : Folder) (before here after : List Span) (up : UpTo waits folder here)
    → bad_up_to format waits folder (before ++ (here ++ after)) (up_within waits folder before here after up) ≡ length (spans_bad format waits folder before) + bad_up_to format waits folder here up
bad_within format waits folder before here after up =
    let size : length (spans_bad format waits folder (before ++ up.front)) ≡ length (spans_bad format waits folder before) + length (spans_bad format waits folder up.front) =
    ap length (flat_map-append (span_bad format waits folder) before up.front) ∙ length-append (spans_bad format waits folder before) (spans_bad format waits folder up.front) in
    let next : length (next_bad format waits folder (up.rest ++ after) up.lines) ≡ length (next_bad format waits folder up.rest up.lines) = ap length (next_bad_more format waits folder up.rest after up.lines up.begins) in
    let count : length (spans_bad format waits folder (before ++ up.front)) + length (next_bad format waits folder (up.rest ++ after) up.lines)
    ≡ length (spans_bad format waits folder before) + (length (spans_bad format waits folder up.front) + length (next_bad format waits folder up.rest up.lines)) = omega arith in
    count

count_behind : (m n k l t : ℕ) → n ≡ m + k → t ≡ k + l → n + l ≡ m + t
count_behind m n k l t before all = omega arith

-- behind spans that were taken
pub stops_up_behind : {T O : Type 0} (takes : Takes T O) (stops : Stops T O) (later : StopsLater takes stops) (format : Format) (waits : Bool) (folder : Folder) (before here after : List Span) (a b z : Page T) (u v w : O)
    → b.most_bad ≡ a.most_bad → TakesSpans takes format waits folder before a b u v → StopsUpTo stops format waits folder here b z v w → StopsUpTo stops format waits folder (before ++ (here ++ after)) a z u w
stops_up_behind takes stops later format waits folder before here after a b z u v w most t s =
    let whole = up_within waits folder before here after s.up in
    let count = count_behind a.bad b.bad (length (spans_bad format waits folder before)) (bad_up_to format waits folder here s.up) (bad_up_to format waits folder (before ++ (here ++ after)) whole) t.bad (bad_within format waits folder before here after s.up) in
    let Stopped : List Met → Type 0 = λ l. stops a.taker u l z.taker w in
    record {
      up = whole;
      stopped = subst Stopped (sym (met_within format waits folder before here after s.up)) (later _ _ _ _ _ _ _ _ t.done s.stopped);
      within = within_of a.most_bad b.most_bad _ most (within_at b.most_bad _ _ count s.within);
    }

pub takes_up_behind : {T O : Type 0} (takes : Takes T O) (more : TakesMore takes) (format : Format) (waits : Bool) (folder : Folder) (before here after : List Span) (line : BadLine) (a b z : Page T) (u v w : O)
    → b.most_bad ≡ a.most_bad → TakesSpans takes format waits folder before a b u v → TakesUpTo takes format waits folder here line b z v w → TakesUpTo takes format waits folder (before ++ (here ++ after)) line a z u w
takes_up_behind takes more format waits folder before here after line a b z u v w most t s =
    let whole = up_within waits folder before here after s.up in
    let count = count_behind a.bad b.bad (length (spans_bad format waits folder before)) (bad_up_to format waits folder here s.up) (bad_up_to format waits folder (before ++ (here ++ after)) whole) t.bad (bad_within format waits folder before here after s.up) in
    let Taken : List Met → Type 0 = λ l. takes a.taker u l z.taker w in
    record {
      up = whole;
      taken = subst Taken (sym (met_within format waits folder before here after s.up)) (more _ _ _ _ _ _ _ _ t.done s.taken);
      next = is_next_more format waits folder s.up.rest after s.up.lines line s.next;
      most = sym most ∙ (s.most ∙ ap Some count);
    }

-- what is met up to there, and behind it
met_begins : (format : Format) (waits : Bool) (folder : Folder) (rest : List Span) (lines : List Line) → BeginsWith waits folder rest lines
    → (behind : List Met) × (spans_met format waits folder rest ≡ map row_met (next_found format waits folder rest lines) ++ behind)
met_begins format waits folder [] lines none = ([], refl)
met_begins format waits folder (span ∷ rest) lines (behind, stands) =
    let bytes = cut_of folder span in
    let first : List Record = flat_map (records_in format bytes waits) lines in
    let second : List Record = flat_map (records_in format bytes waits) behind in
    let met : List Met = map row_met (found_on format waits folder span lines) in
    let more : List Met = met_of span.identity second in
    let ended : List Met = log_ended span.identity (standing_at format bytes waits (length bytes)).columns ∷ [] in
    let others : List Met = spans_met format waits folder rest in
    let rows : span_rows format waits folder span ≡ met ++ more =
    ap (λ t. met_of span.identity (flat_map (records_in format bytes waits) t)) stands
    ∙ (ap (met_of span.identity) (flat_map-append (records_in format bytes waits) lines behind)
    ∙ (met_of-append span.identity first second ∙ ap (λ t. t ++ more) (sym (met_found span.identity first)))) in (
      more ++ (ended ++ others),
      ap (λ t. (t ++ ended) ++ others) rows ∙ (ap (λ t. t ++ others) (append_assoc met more ended) ∙ (append_assoc met (more ++ ended) others ∙ ap (λ t. met ++ t) (append_assoc more ended others))),
    )

-- where a taker stopped within first lines of spans it stopped within them
pub stops_up_to_all : {T O : Type 0} (stops : Stops T O) (more : StopsMore stops) (format : Format) (waits : Bool) (folder : Folder) (spans : List Span) (a z : Page T) (u w : O)
    → StopsUpTo stops format waits folder spans a z u w → stops a.taker u (spans_met format waits folder spans) z.taker w
stops_up_to_all stops more format waits folder spans a z u w s =
    let up = s.up in
    let first = spans_met format waits folder up.front in
    let next : List Met = map row_met (next_found format waits folder up.rest up.lines) in
    let begun = met_begins format waits folder up.rest up.lines up.begins in
    let whole : (first ++ next) ++ begun.0 ≡ spans_met format waits folder spans =
    append_assoc first next begun.0 ∙ (ap (λ t. first ++ t) (sym begun.1) ∙ (sym (flat_map-append (span_met format waits folder) up.front up.rest) ∙ ap (spans_met format waits folder) (sym up.stands))) in
    let Stopped : List Met → Type 0 = λ l. stops a.taker u l z.taker w in
    subst Stopped whole (more _ _ _ _ _ begun.0 s.stopped)

-- as many bad lines as numbers of bad lines
bad_lines_length : (format : Format) (waits : Bool) (folder : Folder) (spans : List Span) → length (spans_bad_lines format waits folder spans) ≡ length (spans_bad format waits folder spans)
bad_lines_length format waits folder [] = refl
bad_lines_length format waits folder (span ∷ spans) =
    let rest = bad_lines_length format waits folder spans in
    let first : length (span_bad_lines format waits folder span) ≡ length (span_bad format waits folder span) = length-map (span_bad format waits folder span) (bad_line span.identity) in
    let named : length (spans_bad_lines format waits folder (span ∷ spans)) ≡ length (span_bad_lines format waits folder span) + length (spans_bad_lines format waits folder spans) = length-append (span_bad_lines format waits folder span) (spans_bad_lines format waits folder spans) in
    let numbers : length (spans_bad format waits folder (span ∷ spans)) ≡ length (span_bad format waits folder span) + length (spans_bad format waits folder spans) = length-append (span_bad format waits folder span) (spans_bad format waits folder spans) in
    omega arith

-- the bad lines among these lines of a span
abbrev bad_among : Format → Bool → Folder → Span → List Line → List BadLine
bad_among format waits folder span lines = map (bad_line span.identity) (map (λ (line : Line). line.number) (filter (is_bad_in format waits folder span) lines))

bad_among-append : (format : Format) (waits : Bool) (folder : Folder) (span : Span) (first second : List Line) → bad_among format waits folder span (first ++ second) ≡ bad_among format waits folder span first ++ bad_among format waits folder span second
bad_among-append format waits folder span first second =
    let test = is_bad_in format waits folder span in
    ap (λ t. map (bad_line span.identity) (map (λ (line : Line). line.number) t)) (filter-append test first second)
    ∙ (ap (map (bad_line span.identity)) (map-append (λ (line : Line). line.number) (filter test first) (filter test second))
    ∙ map-append (bad_line span.identity) (map (λ (line : Line). line.number) (filter test first)) (map (λ (line : Line). line.number) (filter test second)))

bad_among-first : (format : Format) (waits : Bool) (folder : Folder) (span : Span) (line : Line) (lines : List Line) → is_bad_in format waits folder span line ≡ true
    → bad_among format waits folder span (line ∷ lines) ≡ bad_line span.identity line.number ∷ bad_among format waits folder span lines
bad_among-first format waits folder span line lines is = rw is refl

-- behind these lines comes a bad line that is one too many
too_many_next : (format : Format) (waits : Bool) (folder : Folder) (rest : List Span) (lines : List Line) (bad : BadLine) (most_bad : Option ℕ) (before : ℕ)
    → IsNextBad format waits folder rest lines bad → most_bad ≡ Some (before + length (next_bad format waits folder rest lines)) → IsTooMany most_bad before (spans_bad_lines format waits folder rest) bad
too_many_next format waits folder [] lines bad most_bad before next most = absurd next
too_many_next format waits folder (span ∷ rest) lines bad most_bad before (line, behind, stands, is, named) most =
    let here = bad_among format waits folder span lines in
    let later = bad_among format waits folder span behind in
    let others = spans_bad_lines format waits folder rest in
    let all : span_bad_lines format waits folder span ≡ here ++ bad ∷ later =
    ap (bad_among format waits folder span) stands
    ∙ (bad_among-append format waits folder span lines (line ∷ behind)
    ∙ ap (λ t. here ++ t) (bad_among-first format waits folder span line behind is ∙ ap (λ b. b ∷ later) (sym named))) in
    let size : length here ≡ length (filter (is_bad_in format waits folder span) lines) =
    length-map (map (λ (line : Line). line.number) (filter (is_bad_in format waits folder span) lines)) (bad_line span.identity)
    ∙ length-map (filter (is_bad_in format waits folder span) lines) (λ (line : Line). line.number) in
    record {
      front = here;
      rest = later ++ others;
      stands = ap (λ t. t ++ others) all ∙ append_assoc here (bad ∷ later) others;
      most = most ∙ ap (λ k. Some (before + k)) (sym size);
    }

-- with others before it
too_many_later : (most_bad : Option ℕ) (m n : ℕ) (first second : List BadLine) (line : BadLine) → n ≡ m + length first → IsTooMany most_bad n second line → IsTooMany most_bad m (first ++ second) line
too_many_later most_bad m n first second line count t =
    let size : length (first ++ t.front) ≡ length first + length t.front = length-append first t.front in
    let all : n + length t.front ≡ m + length (first ++ t.front) = omega arith in
    record {
      front = first ++ t.front;
      rest = t.rest;
      stands = ap (λ l. first ++ l) t.stands ∙ sym (append_assoc first t.front (line ∷ t.rest));
      most = t.most ∙ ap Some all;
    }

-- the next bad line is the one that is one too many
pub takes_up_to_bad : {T O : Type 0} (takes : Takes T O) (format : Format) (waits : Bool) (folder : Folder) (spans : List Span) (line : BadLine) (a z : Page T) (u w : O)
    → TakesUpTo takes format waits folder spans line a z u w → IsTooMany a.most_bad a.bad (spans_bad_lines format waits folder spans) line
takes_up_to_bad takes format waits folder spans line a z u w s =
    let up = s.up in
    let before : ℕ = a.bad + length (spans_bad format waits folder up.front) in
    let assoc : a.bad + (length (spans_bad format waits folder up.front) + length (next_bad format waits folder up.rest up.lines)) ≡ before + length (next_bad format waits folder up.rest up.lines) = omega arith in
    let count : before ≡ a.bad + length (spans_bad_lines format waits folder up.front) = ap (λ k. a.bad + k) (sym (bad_lines_length format waits folder up.front)) in
    let Of : List BadLine → Type 0 = λ l. IsTooMany a.most_bad a.bad l line in
    subst Of (sym (ap (spans_bad_lines format waits folder) up.stands ∙ flat_map-append (span_bad_lines format waits folder) up.front up.rest))
    (too_many_later a.most_bad a.bad before (spans_bad_lines format waits folder up.front) (spans_bad_lines format waits folder up.rest) line count
    (too_many_next format waits folder up.rest up.lines line a.most_bad before s.next (s.most ∙ ap Some assoc)))
