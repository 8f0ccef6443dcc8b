-- Some first lines of spans: where a taker stopped, or what stands before a bad line.
use Rattle.std.specs.Prelude.{◌≡◌, ◌+◌, ℕ, Bool, true, List, [], ◌∷◌, ◌++◌, length, map, filter, flat_map, Some}
use Rattle.lp_model.specs.Lines.{Line}
use Rattle.lp_model.specs.Outside.{Folder}
use Rattle.lp_model.specs.Reading.{Format, is_bad, lines_between, reading_of, records_in}
use Rattle.log_reading.specs.Found.{Found, Met, found_of, row_met}
use Rattle.log_reading.specs.declared.page.Page.{Page}
use Rattle.log_reading.specs.declared.span.Span.{Span}
use Rattle.log_reading.specs.Page.{IsWithin, Stops, Takes}
use Rattle.log_reading.specs.Spans.{BadLine, bad_line, cut_of, spans_bad, spans_found, spans_met}

-- the lines of a span
abbrev pub span_lines : Bool → Folder → Span → List Line
span_lines waits folder span = let bytes = cut_of folder span in lines_between bytes waits span.from (length bytes)

-- the rows of some of them
abbrev pub found_on : Format → Bool → Folder → Span → List Line → List Found
found_on format waits folder span lines = found_of span.identity (flat_map (records_in format (cut_of folder span) waits) lines)

-- whether one of them is bad
abbrev pub is_bad_in : Format → Bool → Folder → Span → Line → Bool
is_bad_in format waits folder span line = is_bad (reading_of format (cut_of folder span) waits line)

-- these are the first lines of the first of these spans; of no span there are none
abbrev pub BeginsWith : Bool → Folder → List Span → List Line → Type 0
BeginsWith waits folder [] lines = lines ≡ []
BeginsWith waits folder (span ∷ spans) lines = (behind : List Line) × (span_lines waits folder span ≡ lines ++ behind)

-- all lines of the first spans, and then some first lines of the next, if there is one
pub record UpTo (waits : Bool) (folder : Folder) (spans : List Span) : Type 0 where
  pub front : List Span
  pub rest : List Span
  pub stands : spans ≡ front ++ rest
  pub lines : List Line
  pub begins : BeginsWith waits folder rest lines

-- the rows of lines of the first of these spans, and those that are bad
abbrev pub next_found : Format → Bool → Folder → List Span → List Line → List Found
next_found format waits folder [] lines = []
next_found format waits folder (span ∷ spans) lines = found_on format waits folder span lines

abbrev pub next_bad : Format → Bool → Folder → List Span → List Line → List Line
next_bad format waits folder [] lines = []
next_bad format waits folder (span ∷ spans) lines = filter (is_bad_in format waits folder span) lines

-- the rows up to there, what is met, and how many lines are bad
abbrev pub found_up_to : Format → (waits : Bool) → (folder : Folder) → (spans : List Span) → UpTo waits folder spans → List Found
found_up_to format waits folder spans up = spans_found format waits folder up.front ++ next_found format waits folder up.rest up.lines

abbrev pub met_up_to : Format → (waits : Bool) → (folder : Folder) → (spans : List Span) → UpTo waits folder spans → List Met
met_up_to format waits folder spans up = spans_met format waits folder up.front ++ map row_met (next_found format waits folder up.rest up.lines)

abbrev pub bad_up_to : Format → (waits : Bool) → (folder : Folder) → (spans : List Span) → UpTo waits folder spans → ℕ
bad_up_to format waits folder spans up = length (spans_bad format waits folder up.front) + length (next_bad format waits folder up.rest up.lines)

-- behind these lines of the first of these spans comes this bad line
abbrev pub IsNextBad : Format → Bool → Folder → List Span → List Line → BadLine → Type 0
IsNextBad format waits folder [] lines bad = ⊥
IsNextBad format waits folder (span ∷ spans) lines bad =
    (line : Line) × (behind : List Line) × (span_lines waits folder span ≡ lines ++ line ∷ behind) × (is_bad_in format waits folder span line ≡ true) × (bad ≡ bad_line span.identity line.number)

-- a taker stopped within what is met of some first lines, among which no more are bad than may be
pub record StopsUpTo {T O : Type 0} (stops : Stops T O) (format : Format) (waits : Bool) (folder : Folder) (spans : List Span) (old new : Page T) (before now : O) : Type 0 where
  pub up : UpTo waits folder spans
  pub stopped : stops old.taker before (met_up_to format waits folder spans up) new.taker now
  pub within : IsWithin old.most_bad (old.bad + bad_up_to format waits folder spans up)

-- all that is met of some first lines was taken; behind them comes this bad line, which is one too many
pub record TakesUpTo {T O : Type 0} (takes : Takes T O) (format : Format) (waits : Bool) (folder : Folder) (spans : List Span) (bad : BadLine) (old new : Page T) (before now : O) : Type 0 where
  pub up : UpTo waits folder spans
  pub taken : takes old.taker before (met_up_to format waits folder spans up) new.taker now
  pub next : IsNextBad format waits folder up.rest up.lines bad
  pub most : old.most_bad ≡ Some (old.bad + bad_up_to format waits folder spans up)

-- a taker stopped within the rows of some first lines of a span, among which no more are bad than may be
pub record StopsInSpan {T O : Type 0} (stops : Stops T O) (format : Format) (waits : Bool) (folder : Folder) (span : Span) (old new : Page T) (before now : O) : Type 0 where
  pub lines : List Line
  pub behind : List Line
  pub stands : span_lines waits folder span ≡ lines ++ behind
  pub stopped : stops old.taker before (map row_met (found_on format waits folder span lines)) new.taker now
  pub within : IsWithin old.most_bad (old.bad + length (filter (is_bad_in format waits folder span) lines))
