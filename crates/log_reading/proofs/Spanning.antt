-- The reading of a log up to a cut, while it grows.
use Rattle.std.proofs.Common.{◌≡◌, ℕ, ◌+◌, ◌≤◌, Bool, true, false, List, [], ◌∷◌, ◌++◌, ◌-◌, length, map, max, filter, flat_map, Option, Some, None, ap, sym, ◌∙◌, refl, subst, arith, append_assoc, length-append, length-drop, drop}
use Rattle.std.proofs.Math.Nat.{max-eq_right}
use Rattle.std.proofs.lemmas.List.{length-map, append-nil}
use Rattle.std.specs.List.{position_or_len}
use Rattle.lp_model.specs.Lines.{Line, is_lf, lines_of, lines_to_come}
use Rattle.lp_model.specs.Outside.{Folder, OnlyGrow, Told}
use Rattle.lp_model.specs.Pieces.{rest_of}
use Rattle.log_reading.specs.Parts.{IsPart, IsReadUp}
use Rattle.lp_model.specs.Reading.{Format, Standing, Record, is_bad, records_in, records_of, bad_lines_of, lines_before, lines_between, standing_behind, standing_at}
use Rattle.lp_model.specs.Following.{records_following, bad_following, end_of}
use Rattle.lp_model.proofs.Carrying.{standing_carried}
use Rattle.lp_model.proofs.Following.{records_of-following, bad_lines_of-following}
use Rattle.lp_model.proofs.Growing.{OnlyGrow-refl}
use Rattle.lp_model.proofs.Ordered.{come_same, end_fits, lines_behind_end, lines_between_end}
use Rattle.log_reading.proofs.Parts.{IsPart-grown, IsPart-more, IsPart-none, part_begins}
use Rattle.log_reading.specs.Found.{Met, met_of, log_ended, row_met}
use Rattle.log_reading.specs.declared.span.Span.{Span}
use Rattle.log_reading.specs.declared.span.Took.{Took}
use Rattle.log_reading.specs.declared.page.Page.{Page}
use Rattle.log_reading.specs.Page.{Takes, Stops, Advances, to_come, Follows, StopsIn, StopsWithin, IsWithin, ExceedsIn, ExceedsWithin}
use Rattle.log_reading.specs.Spans.{HasRead, StopsReading, ExceedsReading, BadLine, bad_line, log_to_come, IsKept, TakesRows, TakesSpan, cut_of, span_found, span_met, span_bad, EndsSpan, page_end, took_at, took_of, span_end}
use Rattle.log_reading.specs.UpTo.{UpTo, StopsInSpan, StopsUpTo, TakesUpTo, span_lines, found_on, is_bad_in, met_up_to, bad_up_to}
use Rattle.line_input.specs.Splitter.{Split}
use Rattle.log_reading.proofs.Advancing.{TakesMore, StopsHere, StopsLater, advances_trans, advances_none, advances_on, stops_trans, stops_first, stops_unmoved, within_at, within_of, follows_trans, to_come-waiting, exceeds_trans}
use Rattle.log_reading.proofs.Founds.{met_found}
use Rattle.log_reading.proofs.Fronts.{records_front, bad_front, reading_is}
use Rattle.log_reading.proofs.Ending.{standing_at_cut}
use Rattle.log_reading.proofs.LastEnd.{span_ends}

abbrev pub end_at : {T : Type 0} → Page T → ℕ
end_at page = page.splitter.place + length page.splitter.left

pub has_read_none : {T O : Type 0} (takes : Takes T O) (format : Format) (identity : List ℕ) (waits : Bool) (told : Option Folder) (name : List ℕ) (cut : ℕ) (page : Page T) (w : O)
    → takes page.taker w [] page.taker w → page.splitter.place + length page.splitter.left ≤ cut → HasRead takes format identity waits told name cut page page w w
has_read_none takes format identity waits told name cut page w nothing le =
    record { bytes = []; piece = IsPart-none told name (end_at page) cut le; end = omega arith; advances = advances_none takes format identity waits page w nothing }

pub has_read_trans : {T O : Type 0} (takes : Takes T O) (more : TakesMore takes) (format : Format) (identity : List ℕ) (waits : Bool) (first second : Option Folder) (name : List ℕ) (cut : ℕ) (a b c : Page T) (u v w : O)
    → OnlyGrow first second → HasRead takes format identity waits first name cut a b u v → HasRead takes format identity waits second name cut b c v w → HasRead takes format identity waits second name cut a c u w
has_read_trans takes more format identity waits first second name cut a b c u v w grows f s =
    let f_end = f.end in
    let s_end = s.end in
    let size : length (f.bytes ++ s.bytes) ≡ length f.bytes + length s.bytes = length-append f.bytes s.bytes in
    record {
      bytes = f.bytes ++ s.bytes;
      piece = IsPart-more second name (end_at a) (end_at b) cut f.bytes s.bytes f_end (IsPart-grown first second name (end_at a) cut f.bytes grows f.piece) s.piece;
      end = omega arith;
      advances = advances_trans takes more format identity waits f.bytes s.bytes a b c u v w f.advances s.advances;
    }

-- only the taker went on, and nothing was met
pub has_read_on : {T O : Type 0} (takes : Takes T O) (more : TakesMore takes) (format : Format) (identity : List ℕ) (waits : Bool) (told : Option Folder) (name : List ℕ) (cut : ℕ) (a b c : Page T) (u v w : O)
    → c.splitter ≡ b.splitter → c.standing ≡ b.standing → c.rows ≡ b.rows → c.bad ≡ b.bad → takes b.taker v [] c.taker w
    → HasRead takes format identity waits told name cut a b u v → HasRead takes format identity waits told name cut a c u w
has_read_on takes more format identity waits told name cut a b c u v w splitter standing rows bad nothing f = record {
  bytes = f.bytes;
  piece = f.piece;
  end = ap (λ (s : Split). s.place + length s.left) splitter ∙ f.end;
  advances = subst (λ (piece : List ℕ). Advances takes format identity waits piece a c u w) (append-nil f.bytes)
      (advances_trans takes more format identity waits f.bytes [] a b c u v w f.advances (advances_on takes format identity waits b c v w splitter standing rows bad nothing));
}

-- it stopped there
pub stops_on : {T O : Type 0} (stops : Stops T O) (format : Format) (identity : List ℕ) (waits : Bool) (told : Option Folder) (name : List ℕ) (cut : ℕ) (b z : Page T) (v w : O)
    → IsWithin b.most_bad b.bad → stops b.taker v [] z.taker w → StopsReading stops format identity waits told name cut b z v w
stops_on stops format identity waits None name cut b z v w within nothing = record { within = tt }
stops_on stops format identity waits (Some x) name cut b z v w within nothing = record { within = stops_first stops format identity (log_to_come waits b x name cut) b z v w within nothing }

-- it stopped within a piece that was read
pub stops_in_piece : {T O : Type 0} (stops : Stops T O) (format : Format) (identity : List ℕ) (waits : Bool) (told : Option Folder) (name : List ℕ) (cut : ℕ) (old z : Page T) (bytes : List ℕ) (u w : O)
    → IsPart told name (old.splitter.place + length old.splitter.left) cut bytes → StopsWithin stops format identity waits bytes old z u w → StopsReading stops format identity waits told name cut old z u w
stops_in_piece stops format identity waits None name cut old z bytes u w piece s = record { within = tt }
stops_in_piece {T = T} stops format identity waits (Some x) name cut old z bytes u w piece s = record {
  within =
      let Of : List ℕ → Type 0 = λ rest. StopsIn stops format identity (to_come waits old rest) old z u w in
      subst Of (sym (part_begins x name (end_at old) (end_at old + length bytes) cut bytes refl piece)) (s.within (rest_of x name (end_at old + length bytes) cut));
}

-- it stopped with nothing taken
pub stops_at_once : {T O : Type 0} (takes : Takes T O) (stops : Stops T O) (here : StopsHere takes stops) (format : Format) (identity : List ℕ) (waits : Bool)
    (told : Option Folder) (name : List ℕ) (cut : ℕ) (old : Page T) (w : O) → takes old.taker w [] old.taker w → IsWithin old.most_bad old.bad → StopsReading stops format identity waits told name cut old old w w
stops_at_once takes stops here format identity waits None name cut old w nothing within = record { within = tt }
stops_at_once takes stops here format identity waits (Some x) name cut old w nothing within =
    record { within = stops_unmoved takes stops here format identity (log_to_come waits old x name cut) old old w refl nothing within }

-- it stopped behind a part that was read
pub stops_behind : {T O : Type 0} (takes : Takes T O) (stops : Stops T O) (later : StopsLater takes stops) (format : Format) (identity : List ℕ) (waits : Bool) (first second : Option Folder) (name : List ℕ) (cut : ℕ) (a b z : Page T) (u v w : O)
    → OnlyGrow first second → b.most_bad ≡ a.most_bad → HasRead takes format identity waits first name cut a b u v → StopsReading stops format identity waits second name cut b z v w → StopsReading stops format identity waits second name cut a z u w
stops_behind takes stops later format identity waits first None name cut a b z u v w grows most f s = record { within = tt }
stops_behind {T = T} takes stops later format identity waits first (Some x) name cut a b z u v w grows most f s =
    let piece = IsPart-grown first (Some x) name (end_at a) cut f.bytes grows f.piece in
    let rest = rest_of x name (end_at b) cut in
    let Of : List Line → Type 0 = λ lines. StopsIn stops format identity lines a z u w in
    let lines : log_to_come waits a x name cut ≡ f.advances.lines ++ to_come waits b rest = ap (to_come waits a) (part_begins x name (end_at a) (end_at b) cut f.bytes f.end piece) ∙ f.advances.taken rest in
    record { within = subst Of (sym lines) (stops_trans takes stops later format identity f.advances.lines (to_come waits b rest) a b z u v w most f.advances.follows s.within) }

-- a log was read up to its cut, and what stood behind the last LF was taken
pub follows_whole : {T O : Type 0} (takes : Takes T O) (more : TakesMore takes) (format : Format) (identity : List ℕ) (waits : Bool) (told : Option Folder) (x : Folder) (name : List ℕ) (cut : ℕ) (a b c : Page T) (u v w : O) → told ≡ Some x
    → HasRead takes format identity waits told name cut a b u v → IsReadUp told name (end_at b) cut → Follows takes format identity (to_come waits b []) b c v w → Follows takes format identity (log_to_come waits a x name cut) a c u w
follows_whole {T = T} takes more format identity waits told x name cut a b c u v w is f whole s =
    let Piece : Option Folder → Type 0 = λ t. IsPart t name (end_at a) cut f.bytes in
    let piece : IsPart (Some x) name (end_at a) cut f.bytes = subst Piece is f.piece in
    let none : rest_of x name (end_at b) cut ≡ [] = subst (λ (t : Option Folder). IsReadUp t name (end_at b) cut) is whole in
    let Of : List Line → Type 0 = λ lines. Follows takes format identity lines a c u w in
    let lines : log_to_come waits a x name cut ≡ f.advances.lines ++ to_come waits b [] =
    ap (to_come waits a) (part_begins x name (end_at a) (end_at b) cut f.bytes f.end piece) ∙ (f.advances.taken (rest_of x name (end_at b) cut) ∙ ap (λ t. f.advances.lines ++ to_come waits b t) none) in
    subst Of (sym lines) (follows_trans takes more format identity f.advances.lines (to_come waits b []) a b c u v w f.advances.follows s)

pub stops_at_end : {T O : Type 0} (takes : Takes T O) (stops : Stops T O) (later : StopsLater takes stops) (format : Format) (identity : List ℕ) (waits : Bool) (told : Option Folder) (name : List ℕ) (cut : ℕ) (a b z : Page T) (u v w : O)
    → b.most_bad ≡ a.most_bad → HasRead takes format identity waits told name cut a b u v → IsReadUp told name (end_at b) cut → StopsIn stops format identity (to_come waits b []) b z v w → StopsReading stops format identity waits told name cut a z u w
stops_at_end takes stops later format identity waits None name cut a b z u v w most f whole s = record { within = tt }
stops_at_end {T = T} takes stops later format identity waits (Some x) name cut a b z u v w most f whole s =
    let none : rest_of x name (end_at b) cut ≡ [] = whole in
    let Of : List ℕ → Type 0 = λ rest. StopsIn stops format identity (to_come waits b rest) b z v w in
    stops_behind takes stops later format identity waits (Some x) (Some x) name cut a b z u v w (OnlyGrow-refl (Some x)) most f (record { within = subst Of (sym none) s })

-- the page before a span's first line
pub record IsStart {T : Type 0} (span : Span) (first : Page T) : Type 0 where
  pub place : first.splitter.place ≡ span.from
  pub left : first.splitter.left ≡ []
  pub standing : first.standing ≡ span.standing

-- the lines of a span, by the definitions
span_come : {T : Type 0} (waits : Bool) (x : Folder) (span : Span) (first : Page T) (format : Format) → IsStart span first → IsKept format waits (cut_of x span) span
    → log_to_come waits first x span.name span.listed ≡ lines_to_come waits (length (lines_before (cut_of x span) waits span.from) + 1) span.from (drop span.from (cut_of x span))
span_come waits x span first format start kept =
    let bytes = cut_of x span in
    let lines : first.standing.lines + 1 ≡ length (lines_before bytes waits span.from) + 1 = ap (λ s. s.lines + 1) (start.standing ∙ kept.standing) in
    let empty : length first.splitter.left ≡ 0 = ap length start.left in
    let at = start.place in
    let end : end_at first ≡ span.from = omega arith in
    come_same waits _ _ first.splitter.place span.from (first.splitter.left ++ rest_of x span.name (end_at first) span.listed) (drop span.from bytes) lines at
    (ap (λ t. t ++ rest_of x span.name (end_at first) span.listed) start.left ∙ ap (λ k. drop k bytes) end)

pub span_taken : {T O : Type 0} (takes : Takes T O) (format : Format) (waits : Bool) (x : Folder) (span : Span) (old first new : Page T) (u w : O) → IsStart span first → first.taker ≡ old.taker → first.rows ≡ old.rows → first.bad ≡ old.bad
    → Follows takes format span.identity (log_to_come waits first x span.name span.listed) first new u w → IsKept format waits (cut_of x span) span → TakesRows takes format waits x span old new u w
span_taken {T = T} takes format waits x span old first new u w start taker rows bad follows kept =
    let bytes = cut_of x span in
    let history = lines_before bytes waits span.from in
    let behind = follows.behind history (start.standing ∙ kept.standing) in
    let lines = span_come waits x span first format start kept in
    let records : records_following format history (log_to_come waits first x span.name span.listed) ≡ records_of format bytes waits span.from (length bytes) =
    ap (records_following format history) lines ∙ sym (records_of-following format bytes waits span.from kept.at_end) in
    let bad_lines : bad_following format history (log_to_come waits first x span.name span.listed) ≡ bad_lines_of format bytes waits span.from (length bytes) =
    ap (bad_following format history) lines ∙ sym (bad_lines_of-following format bytes waits span.from kept.at_end) in
    let Done : List Record → Type 0 = λ t. takes old.taker u (met_of span.identity t) new.taker w in
    let At : T → Type 0 = λ t. takes t u (met_of span.identity (records_following format history (log_to_come waits first x span.name span.listed))) new.taker w in
    let row_count : length (span_found format waits x span) ≡ length (records_following format history (log_to_come waits first x span.name span.listed)) = length-map (records_of format bytes waits span.from (length bytes)) _ ∙ ap length (sym records) in
    let bad_count : length (span_bad format waits x span) ≡ length (bad_following format history (log_to_come waits first x span.name span.listed)) = ap length (sym bad_lines) in
    let now_rows = behind.rows in
    let now_bad = behind.bad in
    record {
      done = subst Done records (subst At taker behind.done);
      rows = omega arith;
      bad = omega arith;
    }

-- what is to come of a span are its lines
span_all : {T : Type 0} (waits : Bool) (x : Folder) (span : Span) (first : Page T) (format : Format) → IsStart span first → IsKept format waits (cut_of x span) span
    → log_to_come waits first x span.name span.listed ≡ span_lines waits x span
span_all waits x span first format start kept = span_come waits x span first format start kept ∙ sym (lines_between_end (cut_of x span) waits span.from kept.at_end)

-- they stand behind those before the span
span_behind : {T : Type 0} (waits : Bool) (x : Folder) (span : Span) (first : Page T) (format : Format) (lines : List Line) → IsStart span first → IsKept format waits (cut_of x span) span
    → log_to_come waits first x span.name span.listed ≡ lines → lines_of (cut_of x span) waits ≡ lines_before (cut_of x span) waits span.from ++ lines
span_behind waits x span first format lines start kept stands =
    lines_behind_end (cut_of x span) waits span.from kept.at_end ∙ ap (λ t. lines_before (cut_of x span) waits span.from ++ t) (sym (span_come waits x span first format start kept) ∙ stands)

-- the rows of first lines of a span
met_front : (format : Format) (waits : Bool) (x : Folder) (span : Span) (history front : List Line) → flat_map (records_in format (cut_of x span) waits) front ≡ records_following format history front
    → met_of span.identity (records_following format history front) ≡ map row_met (found_on format waits x span front)
met_front format waits x span history front records = sym (ap (met_of span.identity) records) ∙ sym (met_found span.identity (flat_map (records_in format (cut_of x span) waits) front))

pub span_stopped : {T O : Type 0} (stops : Stops T O) (format : Format) (waits : Bool) (x : Folder) (span : Span) (old first z : Page T) (u w : O) → IsStart span first → first.taker ≡ old.taker → first.bad ≡ old.bad → first.most_bad ≡ old.most_bad
    → StopsIn stops format span.identity (log_to_come waits first x span.name span.listed) first z u w → IsKept format waits (cut_of x span) span → StopsInSpan stops format waits x span old z u w
span_stopped {T = T} stops format waits x span old first z u w start taker bad most stopped kept =
    let bytes = cut_of x span in
    let history = lines_before bytes waits span.from in
    let s = stopped.behind history (start.standing ∙ kept.standing) in
    let whole = span_behind waits x span first format (s.front ++ s.rest) start kept s.stands in
    let records = records_front format bytes waits history s.front s.rest whole in
    let size : length (filter (is_bad_in format waits x span) s.front) ≡ length (bad_following format history s.front) = bad_front format bytes waits history s.front s.rest whole in
    let count : first.bad + length (bad_following format history s.front) ≡ old.bad + length (filter (is_bad_in format waits x span) s.front) = omega arith in
    let Stopped : List Met → Type 0 = λ t. stops old.taker u t z.taker w in
    let At : T → Type 0 = λ t. stops t u (met_of span.identity (records_following format history s.front)) z.taker w in
    record {
      lines = s.front;
      behind = s.rest;
      stands = sym (span_all waits x span first format start kept) ∙ s.stands;
      stopped = subst Stopped (met_front format waits x span history s.front records) (subst At taker s.stopped);
      within = within_of old.most_bad first.most_bad (old.bad + length (filter (is_bad_in format waits x span) s.front)) most
          (within_at first.most_bad (first.bad + length (bad_following format history s.front)) (old.bad + length (filter (is_bad_in format waits x span) s.front)) count s.within);
    }

-- the same, as the object tells
pub told_taken : {T O : Type 0} (takes : Takes T O) (more : TakesMore takes) (format : Format) (waits : Bool) (told : Option Folder) (span : Span) (old first read new : Page T) (u v w : O) → IsStart span first → first.taker ≡ old.taker → first.rows ≡ old.rows → first.bad ≡ old.bad
    → HasRead takes format span.identity waits told span.name span.listed first read u v → IsReadUp told span.name (end_at read) span.listed → Follows takes format span.identity (to_come waits read []) read new v w
    → Told told (λ folder. IsKept format waits (cut_of folder span) span → TakesRows takes format waits folder span old new u w)
told_taken takes more format waits None span old first read new u v w start taker rows bad f whole s = tt
told_taken takes more format waits (Some x) span old first read new u v w start taker rows bad f whole s =
    span_taken takes format waits x span old first new u w start taker rows bad (follows_whole takes more format span.identity waits (Some x) x span.name span.listed first read new u v w refl f whole s)

pub told_stopped : {T O : Type 0} (stops : Stops T O) (format : Format) (waits : Bool) (told : Option Folder) (span : Span) (old first z : Page T) (u w : O) → IsStart span first → first.taker ≡ old.taker → first.bad ≡ old.bad → first.most_bad ≡ old.most_bad
    → StopsReading stops format span.identity waits told span.name span.listed first z u w
    → Told told (λ folder. IsKept format waits (cut_of folder span) span → StopsInSpan stops format waits folder span old z u w)
told_stopped stops format waits None span old first z u w start taker bad most s = tt
told_stopped stops format waits (Some x) span old first z u w start taker bad most s = span_stopped stops format waits x span old first z u w start taker bad most s.within

-- nothing was taken of a span
pub told_at_once : {T O : Type 0} (takes : Takes T O) (stops : Stops T O) (here : StopsHere takes stops) (format : Format) (waits : Bool) (told : Option Folder) (span : Span) (old new : Page T) (w : O) → new.taker ≡ old.taker
    → takes old.taker w [] old.taker w → IsWithin old.most_bad old.bad → Told told (λ folder. IsKept format waits (cut_of folder span) span → StopsInSpan stops format waits folder span old new w w)
told_at_once takes stops here format waits None span old new w same nothing within = tt
told_at_once {T = T} takes stops here format waits (Some x) span old new w same nothing within = λ kept.
    let At : T → Type 0 = λ t. takes old.taker w [] t w in
    record {
      lines = [];
      behind = span_lines waits x span;
      stands = refl;
      stopped = here old.taker new.taker w w [] [] (subst At (sym same) nothing);
      within = within_at old.most_bad old.bad (old.bad + 0) (omega arith) within;
    }

-- how the page stands at a span's end, where lines wait
ends_span : {T O : Type 0} (takes : Takes T O) (format : Format) (x : Folder) (span : Span) (first read new : Page T) (u v w : O) → IsStart span first
    → HasRead takes format span.identity true (Some x) span.name span.listed first read u v → IsReadUp (Some x) span.name (end_at read) span.listed → length read.splitter.left ≤ position_or_len is_lf read.splitter.left
    → new.splitter ≡ read.splitter → Follows takes format span.identity (log_to_come true first x span.name span.listed) first new u w → IsKept format true (cut_of x span) span → EndsSpan format true x span new
ends_span takes format x span first read new u v w start f whole last same follows kept =
    let bytes = cut_of x span in
    let history = lines_before bytes true span.from in
    let behind = follows.behind history (start.standing ∙ kept.standing) in
    let all : log_to_come true first x span.name span.listed ≡ lines_between bytes true span.from (length bytes) = span_come true x span first format start kept ∙ sym (lines_between_end bytes true span.from kept.at_end) in
    let end : end_of span.from (lines_between bytes true span.from (length bytes)) ≡ span_end true x span = span_ends x span kept.at_end in
    let none : rest_of x span.name (end_at read) span.listed ≡ [] = whole in
    let lines : log_to_come true first x span.name span.listed ≡ f.advances.lines =
    ap (to_come true first) (part_begins x span.name (end_at first) (end_at read) span.listed f.bytes f.end f.piece)
    ∙ (f.advances.taken (rest_of x span.name (end_at read) span.listed) ∙ (ap (λ t. f.advances.lines ++ to_come true read t) none ∙ (ap (λ t. f.advances.lines ++ t) (to_come-waiting read last) ∙ append-nil f.advances.lines))) in
    record {
      place = ap (λ s. s.place) same ∙ (f.advances.place ∙ (ap (λ p. end_of p f.advances.lines) start.place ∙ (ap (end_of span.from) (sym lines ∙ all) ∙ end)));
      standing = behind.standing ∙ (ap (λ t. standing_behind format (history ++ t)) all ∙ (standing_carried format bytes true span.from kept.at_end ∙ ap (standing_at format bytes true) end));
    }

pub told_ends : {T O : Type 0} (takes : Takes T O) (more : TakesMore takes) (format : Format) (told : Option Folder) (span : Span) (first read new : Page T) (u v w : O) → IsStart span first
    → HasRead takes format span.identity true told span.name span.listed first read u v → IsReadUp told span.name (end_at read) span.listed → length read.splitter.left ≤ position_or_len is_lf read.splitter.left
    → new.splitter ≡ read.splitter → Follows takes format span.identity (to_come true read []) read new v w
    → Told told (λ folder. IsKept format true (cut_of folder span) span → EndsSpan format true folder span new)
told_ends takes more format None span first read new u v w start f whole last same s = tt
told_ends takes more format (Some x) span first read new u v w start f whole last same s =
    ends_span takes format x span first read new u v w start f whole last same (follows_whole takes more format span.identity true (Some x) x span.name span.listed first read new u v w refl f whole s)

-- the whole of a span
abbrev pub up_span : (waits : Bool) (folder : Folder) (span : Span) → UpTo waits folder (span ∷ [])
up_span waits folder span = record { front = span ∷ []; rest = []; stands = refl; lines = []; begins = refl }

met_up_span : (format : Format) (waits : Bool) (folder : Folder) (span : Span) → span_met format waits folder span ≡ met_up_to format waits folder (span ∷ []) (up_span waits folder span)
met_up_span format waits folder span = sym (append-nil (span_met format waits folder span ++ []) ∙ append-nil (span_met format waits folder span))

bad_up_span : (format : Format) (waits : Bool) (folder : Folder) (span : Span) → length (span_bad format waits folder span) ≡ bad_up_to format waits folder (span ∷ []) (up_span waits folder span)
bad_up_span format waits folder span =
    let count : ℕ = length (span_bad format waits folder span ++ []) in
    let same : count ≡ count + 0 = omega arith in
    ap length (sym (append-nil (span_bad format waits folder span))) ∙ same

-- it stopped with the whole of a span
span_whole : {T O : Type 0} (stops : Stops T O) (format : Format) (waits : Bool) (x : Folder) (span : Span) (old new : Page T) (u w : O)
    → stops old.taker u (span_met format waits x span) new.taker w → IsWithin old.most_bad (old.bad + length (span_bad format waits x span)) → StopsUpTo stops format waits x (span ∷ []) old new u w
span_whole stops format waits x span old new u w stopped within =
    let Stopped : List Met → Type 0 = λ t. stops old.taker u t new.taker w in
    record {
      up = up_span waits x span;
      stopped = subst Stopped (met_up_span format waits x span) stopped;
      within = within_at old.most_bad (old.bad + length (span_bad format waits x span)) (old.bad + bad_up_to format waits x (span ∷ []) (up_span waits x span)) (ap (λ k. old.bad + k) (bad_up_span format waits x span)) within;
    }

-- a span was taken, and nothing more came of it
pub told_here : {T O : Type 0} (takes : Takes T O) (stops : Stops T O) (here : StopsHere takes stops) (format : Format) (waits : Bool) (told : Option Folder) (span : Span) (old new : Page T) (u w : O)
    → Told told (λ folder. IsKept format waits (cut_of folder span) span → TakesSpan takes format waits folder span old new u w) → new.most_bad ≡ old.most_bad → IsWithin new.most_bad new.bad
    → Told told (λ folder. IsKept format waits (cut_of folder span) span → StopsUpTo stops format waits folder (span ∷ []) old new u w)
told_here takes stops here format waits None span old new u w t most within = tt
told_here {T = T} takes stops here format waits (Some x) span old new u w t most within = λ kept.
    let taken = t kept in
    let Stopped : List Met → Type 0 = λ l. stops old.taker u l new.taker w in
    span_whole stops format waits x span old new u w
    (subst Stopped (append-nil (span_met format waits x span)) (here old.taker new.taker u w (span_met format waits x span) [] taken.done))
    (within_of old.most_bad new.most_bad (old.bad + length (span_bad format waits x span)) most (within_at new.most_bad new.bad (old.bad + length (span_bad format waits x span)) taken.bad within))

-- behind its rows the end of a span's log was taken
pub told_ended : {T O : Type 0} (takes : Takes T O) (more : TakesMore takes) (format : Format) (waits : Bool) (told : Option Folder) (span : Span) (old mid new : Page T) (u v w : O)
    → Told told (λ folder. IsKept format waits (cut_of folder span) span → TakesRows takes format waits folder span old mid u v)
    → Told told (λ folder. IsKept format waits (cut_of folder span) span → mid.standing ≡ standing_at format (cut_of folder span) waits (length (cut_of folder span)))
    → takes mid.taker v (log_ended span.identity mid.standing.columns ∷ []) new.taker w → new.rows ≡ mid.rows → new.bad ≡ mid.bad
    → Told told (λ folder. IsKept format waits (cut_of folder span) span → TakesSpan takes format waits folder span old new u w)
told_ended takes more format waits None span old mid new u v w rows stands ended same_rows same_bad = tt
told_ended takes more format waits (Some x) span old mid new u v w rows stands ended same_rows same_bad = λ kept.
    let so_far = rows kept in
    let Ended : Standing → Type 0 = λ s. takes mid.taker v (log_ended span.identity s.columns ∷ []) new.taker w in
    record { done = more _ _ _ _ _ _ _ _ so_far.done (subst Ended (stands kept) ended); rows = same_rows ∙ so_far.rows; bad = same_bad ∙ so_far.bad }

-- it stopped at the end of the log
pub told_unended : {T O : Type 0} (takes : Takes T O) (stops : Stops T O) (later : StopsLater takes stops) (format : Format) (waits : Bool) (told : Option Folder) (span : Span) (old mid new : Page T) (u v w : O)
    → Told told (λ folder. IsKept format waits (cut_of folder span) span → TakesRows takes format waits folder span old mid u v)
    → Told told (λ folder. IsKept format waits (cut_of folder span) span → mid.standing ≡ standing_at format (cut_of folder span) waits (length (cut_of folder span)))
    → mid.most_bad ≡ old.most_bad → IsWithin mid.most_bad mid.bad → stops mid.taker v (log_ended span.identity mid.standing.columns ∷ []) new.taker w
    → Told told (λ folder. IsKept format waits (cut_of folder span) span → StopsUpTo stops format waits folder (span ∷ []) old new u w)
told_unended takes stops later format waits None span old mid new u v w rows stands most within ended = tt
told_unended takes stops later format waits (Some x) span old mid new u v w rows stands most within ended = λ kept.
    let so_far = rows kept in
    let Ended : Standing → Type 0 = λ s. stops mid.taker v (log_ended span.identity s.columns ∷ []) new.taker w in
    span_whole stops format waits x span old new u w
    (later _ _ _ _ _ _ _ _ so_far.done (subst Ended (stands kept) ended))
    (within_of old.most_bad mid.most_bad (old.bad + length (span_bad format waits x span)) most (within_at mid.most_bad mid.bad (old.bad + length (span_bad format waits x span)) so_far.bad within))

-- it stopped within the rows
pub told_in_rows : {T O : Type 0} (stops : Stops T O) (format : Format) (waits : Bool) (told : Option Folder) (span : Span) (old z : Page T) (u w : O)
    → Told told (λ folder. IsKept format waits (cut_of folder span) span → StopsInSpan stops format waits folder span old z u w)
    → Told told (λ folder. IsKept format waits (cut_of folder span) span → StopsUpTo stops format waits folder (span ∷ []) old z u w)
told_in_rows stops format waits None span old z u w s = tt
told_in_rows stops format waits (Some x) span old z u w s = λ kept.
    let s' = s kept in
    let count : length (filter (is_bad_in format waits x span) s'.lines) ≡ 0 + length (filter (is_bad_in format waits x span) s'.lines) = omega arith in
    record {
      up = record { front = []; rest = span ∷ []; stands = refl; lines = s'.lines; begins = (s'.behind, s'.stands) };
      stopped = s'.stopped;
      within = within_at old.most_bad (old.bad + length (filter (is_bad_in format waits x span) s'.lines)) (old.bad + (0 + length (filter (is_bad_in format waits x span) s'.lines))) (ap (λ k. old.bad + k) count) s'.within;
    }

pub told_took : {T : Type 0} (format : Format) (waits : Bool) (told : Option Folder) (span : Span) (page : Page T) (a b : List Took) → b ≡ a ++ took_at span.identity span.from (page_end waits page) page.standing ∷ []
    → Told told (λ folder. IsKept format waits (cut_of folder span) span → EndsSpan format waits folder span page) → Told told (λ folder. IsKept format waits (cut_of folder span) span → b ≡ a ++ took_of format waits folder span ∷ [])
told_took format waits None span page a b noted ends = tt
told_took format waits (Some x) span page a b noted ends = λ kept.
    let e = ends kept in
    noted ∙ (ap (λ p. a ++ took_at span.identity span.from p page.standing ∷ []) e.place ∙ ap (λ s. a ++ took_at span.identity span.from (span_end waits x span) s ∷ []) e.standing)

-- a bad line was one too many within a piece that was read
pub exceeds_in_piece : {T O : Type 0} (takes : Takes T O) (format : Format) (identity : List ℕ) (waits : Bool) (told : Option Folder) (name : List ℕ) (cut : ℕ) (old z : Page T) (bytes : List ℕ) (u w : O) (row : ℕ)
    → IsPart told name (old.splitter.place + length old.splitter.left) cut bytes → ExceedsWithin takes format identity waits bytes old z u w row → ExceedsReading takes format identity waits told name cut old z u w row
exceeds_in_piece takes format identity waits None name cut old z bytes u w row piece s = record { within = tt }
exceeds_in_piece {T = T} takes format identity waits (Some x) name cut old z bytes u w row piece s = record {
  within =
      let Of : List ℕ → Type 0 = λ rest. ExceedsIn takes format identity (to_come waits old rest) old z u w row in
      subst Of (sym (part_begins x name (end_at old) (end_at old + length bytes) cut bytes refl piece)) (s.within (rest_of x name (end_at old + length bytes) cut));
}

-- behind a part that was read
pub exceeds_behind : {T O : Type 0} (takes : Takes T O) (more : TakesMore takes) (format : Format) (identity : List ℕ) (waits : Bool) (first second : Option Folder) (name : List ℕ) (cut : ℕ) (a b z : Page T) (u v w : O) (row : ℕ)
    → OnlyGrow first second → b.most_bad ≡ a.most_bad → HasRead takes format identity waits first name cut a b u v → ExceedsReading takes format identity waits second name cut b z v w row → ExceedsReading takes format identity waits second name cut a z u w row
exceeds_behind takes more format identity waits first None name cut a b z u v w row grows most f s = record { within = tt }
exceeds_behind {T = T} takes more format identity waits first (Some x) name cut a b z u v w row grows most f s =
    let piece = IsPart-grown first (Some x) name (end_at a) cut f.bytes grows f.piece in
    let rest = rest_of x name (end_at b) cut in
    let Of : List Line → Type 0 = λ lines. ExceedsIn takes format identity lines a z u w row in
    let lines : log_to_come waits a x name cut ≡ f.advances.lines ++ to_come waits b rest = ap (to_come waits a) (part_begins x name (end_at a) (end_at b) cut f.bytes f.end piece) ∙ f.advances.taken rest in
    record { within = subst Of (sym lines) (exceeds_trans takes more format identity f.advances.lines (to_come waits b rest) a b z u v w row most f.advances.follows s.within) }

-- in what stood behind the last LF
pub exceeds_at_end : {T O : Type 0} (takes : Takes T O) (more : TakesMore takes) (format : Format) (identity : List ℕ) (waits : Bool) (told : Option Folder) (name : List ℕ) (cut : ℕ) (a b z : Page T) (u v w : O) (row : ℕ)
    → b.most_bad ≡ a.most_bad → HasRead takes format identity waits told name cut a b u v → IsReadUp told name (end_at b) cut → ExceedsIn takes format identity (to_come waits b []) b z v w row → ExceedsReading takes format identity waits told name cut a z u w row
exceeds_at_end takes more format identity waits None name cut a b z u v w row most f whole s = record { within = tt }
exceeds_at_end {T = T} takes more format identity waits (Some x) name cut a b z u v w row most f whole s =
    let none : rest_of x name (end_at b) cut ≡ [] = whole in
    let Of : List ℕ → Type 0 = λ rest. ExceedsIn takes format identity (to_come waits b rest) b z v w row in
    exceeds_behind takes more format identity waits (Some x) (Some x) name cut a b z u v w row (OnlyGrow-refl (Some x)) most f (record { within = subst Of (sym none) s })

pub span_exceeded : {T O : Type 0} (takes : Takes T O) (format : Format) (waits : Bool) (x : Folder) (span : Span) (old first z : Page T) (u w : O) (row : ℕ) → IsStart span first → first.taker ≡ old.taker → first.bad ≡ old.bad → first.most_bad ≡ old.most_bad
    → ExceedsIn takes format span.identity (log_to_come waits first x span.name span.listed) first z u w row → IsKept format waits (cut_of x span) span
    → TakesUpTo takes format waits x (span ∷ []) (bad_line span.identity row) old z u w
span_exceeded {T = T} takes format waits x span old first z u w row start taker bad most exceeds kept =
    let bytes = cut_of x span in
    let history = lines_before bytes waits span.from in
    let s = exceeds.behind history (start.standing ∙ kept.standing) in
    let whole = span_behind waits x span first format (s.front ++ s.line ∷ s.rest) start kept s.stands in
    let lines : span_lines waits x span ≡ s.front ++ s.line ∷ s.rest = sym (span_all waits x span first format start kept) ∙ s.stands in
    let records = records_front format bytes waits history s.front (s.line ∷ s.rest) whole in
    let size : length (filter (is_bad_in format waits x span) s.front) ≡ length (bad_following format history s.front) = bad_front format bytes waits history s.front (s.line ∷ s.rest) whole in
    let reading = reading_is format bytes waits (history ++ s.front) s.rest s.line (whole ∙ sym (append_assoc history s.front (s.line ∷ s.rest))) in
    let is_bad' : is_bad_in format waits x span s.line ≡ true = ap is_bad reading ∙ s.bad in
    let count : first.bad + length (bad_following format history s.front) ≡ old.bad + (0 + length (filter (is_bad_in format waits x span) s.front)) = omega arith in
    let Taken : List Met → Type 0 = λ t. takes old.taker u t z.taker w in
    let At : T → Type 0 = λ t. takes t u (met_of span.identity (records_following format history s.front)) z.taker w in
    record {
      up = record { front = []; rest = span ∷ []; stands = refl; lines = s.front; begins = (s.line ∷ s.rest, lines) };
      taken = subst Taken (met_front format waits x span history s.front records) (subst At taker s.taken);
      next = (s.line, s.rest, lines, is_bad', ap (bad_line span.identity) (sym s.number));
      most = sym most ∙ (s.most ∙ ap Some count);
    }

pub told_exceeded : {T O : Type 0} (takes : Takes T O) (format : Format) (waits : Bool) (told : Option Folder) (span : Span) (old first z : Page T) (u w : O) (line : BadLine) → IsStart span first → first.taker ≡ old.taker → first.bad ≡ old.bad → first.most_bad ≡ old.most_bad
    → line.log ≡ span.identity → ExceedsReading takes format span.identity waits told span.name span.listed first z u w line.row
    → Told told (λ folder. IsKept format waits (cut_of folder span) span → TakesUpTo takes format waits folder (span ∷ []) line old z u w)
told_exceeded takes format waits None span old first z u w line start taker bad most named s = tt
told_exceeded takes format waits (Some x) span old first z u w line start taker bad most named s = λ kept.
    let Of : List ℕ → Type 0 = λ log. TakesUpTo takes format waits x (span ∷ []) (bad_line log line.row) old z u w in
    subst Of (sym named) (span_exceeded takes format waits x span old first z u w line.row start taker bad most s.within kept)

-- how a log stands where the span ends
pub told_standing : {T O : Type 0} (takes : Takes T O) (more : TakesMore takes) (format : Format) (waits : Bool) (told : Option Folder) (span : Span) (first read new : Page T) (u v w : O) → IsStart span first
    → HasRead takes format span.identity waits told span.name span.listed first read u v → IsReadUp told span.name (end_at read) span.listed → Follows takes format span.identity (to_come waits read []) read new v w
    → Told told (λ folder. IsKept format waits (cut_of folder span) span → new.standing ≡ standing_at format (cut_of folder span) waits (length (cut_of folder span)))
told_standing takes more format waits None span first read new u v w start f whole s = tt
told_standing takes more format waits (Some x) span first read new u v w start f whole s = λ kept.
    let bytes = cut_of x span in
    let history = lines_before bytes waits span.from in
    let follows = follows_whole takes more format span.identity waits (Some x) x span.name span.listed first read new u v w refl f whole s in
    let behind = follows.behind history (start.standing ∙ kept.standing) in
    let all : log_to_come waits first x span.name span.listed ≡ lines_between bytes waits span.from (length bytes) = span_come waits x span first format start kept ∙ sym (lines_between_end bytes waits span.from kept.at_end) in
    behind.standing ∙ (ap (λ t. standing_behind format (history ++ t)) all ∙ standing_at_cut format bytes waits span.from kept.at_end)

-- where lines don't wait, all of the log up to the cut was read
ends_at_cut : {T O : Type 0} (takes : Takes T O) (format : Format) (x : Folder) (span : Span) (first read new : Page T) (u v : O) → IsStart span first
    → HasRead takes format span.identity false (Some x) span.name span.listed first read u v → IsReadUp (Some x) span.name (end_at read) span.listed → end_at new ≡ end_at read
    → new.standing ≡ standing_at format (cut_of x span) false (length (cut_of x span)) → IsKept format false (cut_of x span) span → EndsSpan format false x span new
ends_at_cut takes format x span first read new u v start f whole same standing kept =
    let bytes = cut_of x span in
    let fits : span.from ≤ length bytes = end_fits bytes span.from kept.at_end in
    let none : rest_of x span.name (end_at read) span.listed ≡ [] = whole in
    let begins : rest_of x span.name (end_at first) span.listed ≡ f.bytes =
    part_begins x span.name (end_at first) (end_at read) span.listed f.bytes f.end f.piece ∙ (ap (λ t. f.bytes ++ t) none ∙ append-nil f.bytes) in
    let size : length (drop (end_at first) bytes) ≡ length f.bytes = ap length begins in
    let left : length (drop (end_at first) bytes) ≡ length bytes - end_at first = length-drop (end_at first) bytes in
    let empty : length first.splitter.left ≡ 0 = ap length start.left in
    let place = start.place in
    let end = f.end in
    let at : end_at new ≡ length bytes = omega (arith, same, fits, size, left, empty, place, end) in
    let most : max span.from (length bytes) ≡ length bytes = max-eq_right {n = span.from} {m = length bytes} fits in
    record { place = at ∙ sym most; standing = standing ∙ ap (standing_at format bytes false) (sym most) }

-- how the page stands at a span's end, whether lines wait or not
pub told_ended_so : {T O : Type 0} (takes : Takes T O) (more : TakesMore takes) (format : Format) (waits : Bool) (told : Option Folder) (span : Span) (first read new : Page T) (u v w : O) → IsStart span first
    → HasRead takes format span.identity waits told span.name span.listed first read u v → IsReadUp told span.name (end_at read) span.listed → length read.splitter.left ≤ position_or_len is_lf read.splitter.left
    → (waits ≡ true → new.splitter ≡ read.splitter) → end_at new ≡ end_at read → Follows takes format span.identity (to_come waits read []) read new v w
    → Told told (λ folder. IsKept format waits (cut_of folder span) span → EndsSpan format waits folder span new)
told_ended_so takes more format true told span first read new u v w start f whole last same end s = told_ends takes more format told span first read new u v w start f whole last (same refl) s
told_ended_so takes more format false None span first read new u v w start f whole last same end s = tt
told_ended_so takes more format false (Some x) span first read new u v w start f whole last same end s = λ kept.
    ends_at_cut takes format x span first read new u v start f whole end (told_standing takes more format false (Some x) span first read new u v w start f whole s kept) kept
