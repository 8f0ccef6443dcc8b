-- Spans of logs, and what a run makes of them.
use Rattle.std.specs.Prelude.{◌≡◌, ◌⊎◌, ◌+◌, ◌-◌, ◌≤◌, ◌<◌, ◌^◌, ℕ, Bool, true, List, [], ◌∷◌, ◌++◌, length, map, max, if◌then◌else◌, take, reverse, flat_map, sum_by, get_or, Option, ⊤}
use Rattle.std.specs.List.{position_or_len}
use Rattle.lp_model.specs.Lines.{Line, is_lf}
use Rattle.lp_model.specs.Outside.{Folder, Told, bytes_in}
use Rattle.lp_model.specs.Pieces.{rest_of}
use Rattle.lp_model.specs.Reading.{Format, Standing, standing_at, records_of, bad_lines_of}
use Rattle.lp_model.specs.Following.{IsLineEnd}
use Rattle.log_reading.specs.Found.{Found, Met, found_of, met_of, log_ended}
use Rattle.log_reading.specs.Parts.{IsPart}
use Rattle.log_reading.specs.declared.page.Page.{Page}
use Rattle.log_reading.specs.declared.span.Span.{Span}
use Rattle.log_reading.specs.declared.span.Took.{Took}
use Rattle.log_reading.specs.declared.span.RunFault.{RunFault}
use Rattle.log_reading.specs.declared.span.RunFault.TheVariants as fault
use Rattle.log_reading.specs.Page.{Takes, Stops, Advances, StopsIn, ExceedsIn, to_come}

-- a part of a log was read, and its lines were taken
pub record HasRead {T O : Type 0} (takes : Takes T O) (format : Format) (identity : List ℕ) (waits : Bool) (told : Option Folder) (name : List ℕ) (cut : ℕ) (old new : Page T) (before now : O) : Type 0 where
  pub bytes : List ℕ
  pub piece : IsPart told name (old.splitter.place + length old.splitter.left) cut bytes
  pub end : new.splitter.place + length new.splitter.left ≡ old.splitter.place + length old.splitter.left + length bytes
  pub advances : Advances takes format identity waits bytes old new before now

-- the lines of a log up to a cut that are still to come
abbrev pub log_to_come : {T : Type 0} → Bool → Page T → Folder → List ℕ → ℕ → List Line
log_to_come waits page folder name cut = to_come waits page (rest_of folder name (page.splitter.place + length page.splitter.left) cut)

-- the output holds what a taker left that stopped within the rest of a log
pub record StopsReading {T O : Type 0} (stops : Stops T O) (format : Format) (identity : List ℕ) (waits : Bool) (told : Option Folder) (name : List ℕ) (cut : ℕ) (old new : Page T) (before now : O) : Type 0 where
  pub within : Told told (λ folder. StopsIn stops format identity (log_to_come waits old folder name cut) old new before now)

-- the bad line of this number in the rest of a log is one too many, and the rows of the lines before it were taken
pub record ExceedsReading {T O : Type 0} (takes : Takes T O) (format : Format) (identity : List ℕ) (waits : Bool) (told : Option Folder) (name : List ℕ) (cut : ℕ) (old new : Page T) (before now : O) (row : ℕ) : Type 0 where
  pub within : Told told (λ folder. ExceedsIn takes format identity (log_to_come waits old folder name cut) old new before now row)

-- the bytes of a span's log up to its cut
abbrev pub cut_of : Folder → Span → List ℕ
cut_of folder span = take span.listed (bytes_in folder span.name)

-- a span begins at a line's end, and its standing is the log's
pub record IsKept (format : Format) (waits : Bool) (bytes : List ℕ) (span : Span) : Type 0 where
  pub at_end : IsLineEnd bytes span.from
  pub standing : span.standing ≡ standing_at format bytes waits span.from

-- the rows of a span, and the numbers of its bad lines
abbrev pub span_found : Format → Bool → Folder → Span → List Found
span_found format waits folder span = let bytes = cut_of folder span in found_of span.identity (records_of format bytes waits span.from (length bytes))

-- what a run meets in a span: its rows, and the end of its log
abbrev pub span_rows : Format → Bool → Folder → Span → List Met
span_rows format waits folder span = let bytes = cut_of folder span in met_of span.identity (records_of format bytes waits span.from (length bytes))

abbrev pub span_met : Format → Bool → Folder → Span → List Met
span_met format waits folder span = let bytes = cut_of folder span in span_rows format waits folder span ++ log_ended span.identity (standing_at format bytes waits (length bytes)).columns ∷ []

abbrev pub span_bad : Format → Bool → Folder → Span → List ℕ
span_bad format waits folder span = let bytes = cut_of folder span in bad_lines_of format bytes waits span.from (length bytes)

-- a bad line: the identity of its log, and its number
pub record BadLine : Type 0 where
  pub log : List ℕ
  pub row : ℕ

abbrev pub bad_line : List ℕ → ℕ → BadLine
bad_line log row = record { log = log; row = row }

abbrev pub span_bad_lines : Format → Bool → Folder → Span → List BadLine
span_bad_lines format waits folder span = map (bad_line span.identity) (span_bad format waits folder span)

-- a span's log was read and its rows were taken
pub record TakesRows {T O : Type 0} (takes : Takes T O) (format : Format) (waits : Bool) (folder : Folder) (span : Span) (old new : Page T) (before now : O) : Type 0 where
  pub done : takes old.taker before (span_rows format waits folder span) new.taker now
  pub rows : new.rows ≡ old.rows + length (span_found format waits folder span)
  pub bad : new.bad ≡ old.bad + length (span_bad format waits folder span)

-- a span was taken: its rows and the end of its log
pub record TakesSpan {T O : Type 0} (takes : Takes T O) (format : Format) (waits : Bool) (folder : Folder) (span : Span) (old new : Page T) (before now : O) : Type 0 where
  pub done : takes old.taker before (span_met format waits folder span) new.taker now
  pub rows : new.rows ≡ old.rows + length (span_found format waits folder span)
  pub bad : new.bad ≡ old.bad + length (span_bad format waits folder span)

-- each span of a list
abbrev pub AllSpans : List Span → (Span → Type 0) → Type 0
AllSpans spans P = (k : ℕ) (s : Span) → k < length spans → s ≡ get_or spans k s → P s

-- what the spans of a run meet
pub record IsSpan (span : Span) : Type 0 where
  pub start : span.from ≤ span.listed
  pub cut : span.listed ≤ 2 ^ 46
  pub lines : span.standing.lines ≤ span.from

-- each log of the spans is as long as its cut, and logs can be read from any place on
pub record AreThere {L : Type 0} (folder : L → Option Folder) (can : L → List ℕ → ℕ → Type 0) (logs : L) (spans : List Span) : Type 0 where
  pub there : Told (folder logs) (λ files. AllSpans spans (λ span. span.listed ≤ length (bytes_in files span.name)))
  pub ready : (later : L) (name : List ℕ) (place : ℕ) → can later name place

-- there is one span at most, and its log can be read from where it begins; it may end before its cut
pub record IsAlone {L : Type 0} (can : L → List ℕ → ℕ → Type 0) (logs : L) (spans : List Span) : Type 0 where
  pub one : length spans ≤ 1
  pub ready : AllSpans spans (λ span. can logs span.name span.from)

-- the logs of spans can be read up to their cuts
abbrev pub AreReadable : {L : Type 0} → (L → Option Folder) → (L → List ℕ → ℕ → Type 0) → L → List Span → Type 0
AreReadable folder ready logs spans = AreThere folder ready logs spans ⊎ IsAlone ready logs spans

-- the rows of spans, joined, and the numbers of their bad lines
abbrev pub spans_found : Format → Bool → Folder → List Span → List Found
spans_found format waits folder spans = flat_map (span_found format waits folder) spans

abbrev pub spans_bad : Format → Bool → Folder → List Span → List ℕ
spans_bad format waits folder spans = flat_map (span_bad format waits folder) spans

-- what a run meets in spans, joined
abbrev pub spans_met : Format → Bool → Folder → List Span → List Met
spans_met format waits folder spans = flat_map (span_met format waits folder) spans

-- the bad lines of spans, joined
abbrev pub spans_bad_lines : Format → Bool → Folder → List Span → List BadLine
spans_bad_lines format waits folder spans = flat_map (span_bad_lines format waits folder) spans

-- a fact on the bad line that was one too many
abbrev pub OnBadLine : RunFault → (BadLine → Type 0) → Type 0
OnBadLine fault.Memory P = ⊤
OnBadLine fault.Logs P = ⊤
OnBadLine fault.Output P = ⊤
OnBadLine fault.Stopped P = ⊤
OnBadLine (fault.Bad log row) P = P (bad_line log row)

-- how many bytes spans have
abbrev pub spans_size : List Span → ℕ
spans_size spans = sum_by (λ (span : Span). span.listed - span.from) spans

-- spans were taken
pub record TakesSpans {T O : Type 0} (takes : Takes T O) (format : Format) (waits : Bool) (folder : Folder) (spans : List Span) (old new : Page T) (before now : O) : Type 0 where
  pub done : takes old.taker before (spans_met format waits folder spans) new.taker now
  pub rows : new.rows ≡ old.rows + length (spans_found format waits folder spans)
  pub bad : new.bad ≡ old.bad + length (spans_bad format waits folder spans)

-- each span begins as the log was kept
abbrev pub AreKept : Format → Bool → List Span → Folder → Type 0
AreKept format waits spans folder = AllSpans spans (λ span. IsKept format waits (cut_of folder span) span)

-- the place behind the last LF, or the start
unfoldable pub last_end : List ℕ → ℕ
last_end bytes = length bytes - position_or_len is_lf (reverse bytes)

-- where a span ends: where lines wait for their LF behind the last LF of its log up to the cut, else at the cut; or where it begins, if that is later
abbrev pub span_end : Bool → Folder → Span → ℕ
span_end waits folder span = max span.from (if waits then last_end (cut_of folder span) else length (cut_of folder span))

-- how far a page has come: where lines wait up to the last line that was taken, else up to all that was read
abbrev pub page_end : {T : Type 0} → Bool → Page T → ℕ
page_end waits page = if waits then page.splitter.place else page.splitter.place + length page.splitter.left

-- how the page stands at a span's end
pub record EndsSpan {T : Type 0} (format : Format) (waits : Bool) (folder : Folder) (span : Span) (new : Page T) : Type 0 where
  pub place : page_end waits new ≡ span_end waits folder span
  pub standing : new.standing ≡ standing_at format (cut_of folder span) waits (span_end waits folder span)

abbrev pub took_at : List ℕ → ℕ → ℕ → Standing → Took
took_at identity from to standing = record { identity = identity; from = from; to = to; standing = standing }

-- what a run takes of a span
abbrev pub took_of : Format → Bool → Folder → Span → Took
took_of format waits folder span = took_at span.identity span.from (span_end waits folder span) (standing_at format (cut_of folder span) waits (span_end waits folder span))

-- the rows of those lines of a span that LF ends up to a place
abbrev pub rows_up_to : Format → Folder → Span → ℕ → List Met
rows_up_to format folder span place = let bytes = take place (bytes_in folder span.name) in met_of span.identity (records_of format bytes true span.from (length bytes))

-- a log was read at most one piece ahead of a page: the taker had all lines that LF ends up to where that page is, and had handed on what may go on
pub record ReadsAheadInLog {T O : Type 0} (takes : Takes T O) (goes : O → O → Type 0) (handed_on : T → O → Type 0) (format : Format) (identity : List ℕ) (told : Option Folder) (name : List ℕ) (cut piece given_before given_now : ℕ) (old : Page T) (before now : O) : Type 0 where
  pub page : Page T
  pub out : O
  pub read : HasRead takes format identity true told name cut old page before out
  pub last : length page.splitter.left ≤ position_or_len is_lf page.splitter.left
  pub handed : handed_on page.taker out
  pub later : goes out now
  pub given : given_now + old.splitter.place ≤ given_before + (page.splitter.place + length page.splitter.left) + piece
  pub below : given_now + old.splitter.place ≤ given_before + cut

-- a span was read at most one piece ahead of a place, and nothing behind its cut: the taker had the rows of all lines that LF ends up to that place, and had handed on what may go on
pub record ReadsAheadInSpan {T O : Type 0} (takes : Takes T O) (goes : O → O → Type 0) (handed_on : T → O → Type 0) (format : Format) (waits : Bool) (told : Option Folder) (span : Span) (piece given_before given_now : ℕ) (old : T) (before now : O) : Type 0 where
  pub place : ℕ
  pub start : span.from ≤ place
  pub cut : place ≤ span.listed
  pub taker : T
  pub out : O
  pub taken : Told told (λ folder. IsKept format waits (cut_of folder span) span → takes old before (rows_up_to format folder span place) taker out)
  pub handed : handed_on taker out
  pub later : goes out now
  pub given : given_now + span.from ≤ given_before + place + piece
  pub below : given_now + span.from ≤ given_before + span.listed

-- the same of spans: the taker had all of those in front of one
pub record ReadsAhead {T O : Type 0} (takes : Takes T O) (goes : O → O → Type 0) (handed_on : T → O → Type 0) (format : Format) (waits : Bool) (told : Option Folder) (spans : List Span) (piece given_before given_now : ℕ) (old : T) (before now : O) : Type 0 where
  pub front : List Span
  pub span : Span
  pub rest : List Span
  pub stands : spans ≡ front ++ span ∷ rest
  pub place : ℕ
  pub start : span.from ≤ place
  pub cut : place ≤ span.listed
  pub taker : T
  pub out : O
  pub taken : Told told (λ folder. AreKept format waits spans folder → takes old before (spans_met format waits folder front ++ rows_up_to format folder span place) taker out)
  pub handed : handed_on taker out
  pub later : goes out now
  pub given : given_now + span.from ≤ given_before + spans_size front + place + piece
  pub below : given_now + span.from ≤ given_before + spans_size front + span.listed
