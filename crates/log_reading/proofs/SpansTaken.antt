-- The reading of logs, one after the other, while they grow.
use Rattle.std.specs.Prelude.{max}
use Rattle.std.proofs.Common.{◌≡◌, ℕ, suc, true, ◌+◌, ◌-◌, ◌<◌, ◌≤◌, Bool, List, [], ◌∷◌, ◌++◌, length, take, drop, get_or, map, flat_map, if◌then◌else◌, Option, Some, None, ap, sym, ◌∙◌, refl, subst, arith, length-append, append_assoc}
use Rattle.std.proofs.lemmas.List.{take_more, take-append-drop, get_or-take, append-nil, length-take-le, map-append}
use Rattle.std.proofs.lemmas.List.Sums.{sum_by-append}
use Rattle.std.proofs.lemmas.Grind.{flat_map-append}
use Rattle.lp_model.specs.Outside.{Folder, OnlyGrow, Told, bytes_in}
use Rattle.lp_model.specs.Reading.{Format, records_of, bad_lines_of, standing_at}
use Rattle.lp_model.proofs.Pieces.{take_grown, there_grown}
use Rattle.log_reading.specs.Found.{Met, found_of, met_of, log_ended}
use Rattle.log_reading.specs.declared.page.Page.{Page}
use Rattle.log_reading.specs.declared.span.Span.{Span}
use Rattle.log_reading.specs.declared.span.Took.{Took}
use Rattle.log_reading.specs.Page.{Takes, Stops, IsTooMany}
use Rattle.log_reading.specs.Spans.{BadLine, spans_bad_lines, IsKept, TakesSpan, TakesSpans, AllSpans, AreKept, cut_of, span_found, span_met, span_bad, spans_found, spans_met, spans_bad, spans_size, last_end, took_of, took_at}
use Rattle.log_reading.specs.UpTo.{StopsUpTo, TakesUpTo}
use Rattle.log_reading.proofs.Advancing.{TakesMore, StopsLater, StopsMore}
use Rattle.log_reading.proofs.Ups.{stops_up_behind, takes_up_behind, stops_up_to_all, takes_up_to_bad}

-- what a span's bytes say, where they are the same in two folders
pub kept_along : (format : Format) (waits : Bool) (a b : Folder) (span : Span) → cut_of b span ≡ cut_of a span → IsKept format waits (cut_of b span) span → IsKept format waits (cut_of a span) span
kept_along format waits a b span same kept = subst (λ (t : List ℕ). IsKept format waits t span) same kept

found_along : (format : Format) (waits : Bool) (a b : Folder) (span : Span) → cut_of b span ≡ cut_of a span → span_found format waits b span ≡ span_found format waits a span
found_along format waits a b span same = ap (λ t. found_of span.identity (records_of format t waits span.from (length t))) same

pub met_along : (format : Format) (waits : Bool) (a b : Folder) (span : Span) → cut_of b span ≡ cut_of a span → span_met format waits b span ≡ span_met format waits a span
met_along format waits a b span same = ap (λ (t : List ℕ). met_of span.identity (records_of format t waits span.from (length t)) ++ log_ended span.identity (standing_at format t waits (length t)).columns ∷ []) same

bad_along : (format : Format) (waits : Bool) (a b : Folder) (span : Span) → cut_of b span ≡ cut_of a span → span_bad format waits b span ≡ span_bad format waits a span
bad_along format waits a b span same = ap (λ t. bad_lines_of format t waits span.from (length t)) same

pub flat_map-same : {Y : Type 0} (f g : Span → List Y) (spans : List Span) → AllSpans spans (λ s. f s ≡ g s) → flat_map f spans ≡ flat_map g spans
flat_map-same f g [] same = refl
flat_map-same f g (span ∷ spans) same =
    let first : f span ≡ g span = same 0 span (omega arith) refl in
    let rest : flat_map f spans ≡ flat_map g spans = flat_map-same f g spans (λ k s lt is. same (suc k) s (omega arith) is) in
    ap (λ t. t ++ flat_map f spans) first ∙ ap (λ t. g span ++ t) rest

-- the cuts of spans stay
pub cuts_stay : (a b : Folder) (spans : List Span) → OnlyGrow (Some a) (Some b) → AllSpans spans (λ s. s.listed ≤ length (bytes_in a s.name)) → AllSpans spans (λ s. cut_of b s ≡ cut_of a s)
cuts_stay a b spans grows there = λ k s lt is. take_grown a b s.name s.listed grows (there k s lt is)

pub front_all : (spans : List Span) (P : Span → Type 0) (i : ℕ) → i ≤ length spans → AllSpans spans P → AllSpans (take i spans) P
front_all spans P i fits all = λ k s lt is.
    let size : length (take i spans) ≡ i = length-take-le i spans fits in
    all k s (omega arith) (is ∙ get_or-take i spans k s (omega arith))

pub front_less : (spans : List Span) (P : Span → Type 0) (i : ℕ) → i < length spans → AllSpans (take (i + 1) spans) P → AllSpans (take i spans) P
front_less spans P i less all = λ k s lt is.
    let size : length (take i spans) ≡ i = length-take-le i spans (omega arith) in
    let more : length (take (i + 1) spans) ≡ i + 1 = length-take-le (i + 1) spans (omega arith) in
    all k s (omega arith) (is ∙ (get_or-take i spans k s (omega arith) ∙ sym (get_or-take (i + 1) spans k s (omega arith))))

pub last_all : (spans : List Span) (P : Span → Type 0) (i : ℕ) (span : Span) → i < length spans → span ≡ get_or spans i span → AllSpans (take (i + 1) spans) P → P span
last_all spans P i span less is all =
    let more : length (take (i + 1) spans) ≡ i + 1 = length-take-le (i + 1) spans (omega arith) in
    all i span (omega arith) (is ∙ sym (get_or-take (i + 1) spans i span (omega arith)))

pub there_all : (a b : Option Folder) (spans : List Span) → OnlyGrow a b → Told a (λ folder. AllSpans spans (λ s. s.listed ≤ length (bytes_in folder s.name))) → Told b (λ folder. AllSpans spans (λ s. s.listed ≤ length (bytes_in folder s.name)))
there_all None None spans h t = tt
there_all None (Some y) spans h t = let e : Some y ≡ None = h in cc
there_all (Some x) None spans h t = absurd h
there_all (Some x) (Some y) spans h t = λ k s lt is. there_grown (Some x) (Some y) s.name s.listed h (t k s lt is)

-- one span of all is there
pub there_one : (a : Option Folder) (spans : List Span) (i : ℕ) (span : Span) → i < length spans → span ≡ get_or spans i span → Told a (λ folder. AllSpans spans (λ s. s.listed ≤ length (bytes_in folder s.name))) → Told a (λ folder. span.listed ≤ length (bytes_in folder span.name))
there_one None spans i span lt is t = tt
there_one (Some x) spans i span lt is t = t i span lt is

pub spans_none : {T O : Type 0} (takes : Takes T O) (format : Format) (waits : Bool) (told : Option Folder) (spans : List Span) (page : Page T) (w : O) → takes page.taker w [] page.taker w
    → Told told (λ folder. AreKept format waits spans folder → TakesSpans takes format waits folder [] page page w w)
spans_none takes format waits None spans page w nothing = tt
spans_none takes format waits (Some x) spans page w nothing = λ kept. record { done = nothing; rows = omega arith; bad = omega arith }

pub one_more : (spans : List Span) (i : ℕ) (span : Span) → i < length spans → span ≡ get_or spans i span → take (i + 1) spans ≡ take i spans ++ span ∷ []
one_more spans i span lt is = take_more spans i span lt ∙ ap (λ s. take i spans ++ s ∷ []) (sym is)

pub size_more : (spans : List Span) (i : ℕ) (span : Span) → i < length spans → span ≡ get_or spans i span → spans_size (take (i + 1) spans) ≡ spans_size (take i spans) + (span.listed - span.from)
size_more spans i span lt is =
    let one : spans_size (span ∷ []) ≡ span.listed - span.from = omega arith in
    ap spans_size (one_more spans i span lt is) ∙ (sum_by-append (λ (s : Span). s.listed - s.from) (take i spans) (span ∷ []) ∙ ap (λ k. spans_size (take i spans) + k) one)

pub size_front : (spans : List Span) (i : ℕ) → spans_size (take i spans) ≤ spans_size spans
size_front spans i =
    let whole : spans_size spans ≡ spans_size (take i spans) + spans_size (drop i spans) =
    ap spans_size (sym (take-append-drop i spans)) ∙ sum_by-append (λ (s : Span). s.listed - s.from) (take i spans) (drop i spans) in
    omega arith

flat_one : {Y : Type 0} (f : Span → List Y) (spans : List Span) (i : ℕ) (span : Span) → i < length spans → span ≡ get_or spans i span → flat_map f (take (i + 1) spans) ≡ flat_map f (take i spans) ++ f span
flat_one f spans i span lt is =
    ap (flat_map f) (one_more spans i span lt is) ∙ (flat_map-append f (take i spans) (span ∷ []) ∙ ap (λ t. flat_map f (take i spans) ++ t) (append-nil (f span)))

-- one span more was taken
pub spans_more : {T O : Type 0} (takes : Takes T O) (more : TakesMore takes) (format : Format) (waits : Bool) (first second : Option Folder) (spans : List Span) (i : ℕ) (span : Span) (a b c : Page T) (u v w : O) → i < length spans → span ≡ get_or spans i span
    → OnlyGrow first second → Told first (λ folder. AllSpans (take i spans) (λ s. s.listed ≤ length (bytes_in folder s.name)))
    → Told first (λ folder. AreKept format waits (take i spans) folder → TakesSpans takes format waits folder (take i spans) a b u v)
    → Told second (λ folder. IsKept format waits (cut_of folder span) span → TakesSpan takes format waits folder span b c v w)
    → Told second (λ folder. AreKept format waits (take (i + 1) spans) folder → TakesSpans takes format waits folder (take (i + 1) spans) a c u w)
spans_more takes more format waits None None spans i span a b c u v w lt is grows there f s = tt
spans_more takes more format waits None (Some y) spans i span a b c u v w lt is grows there f s = let e : Some y ≡ None = grows in cc
spans_more takes more format waits (Some x) None spans i span a b c u v w lt is grows there f s = tt
spans_more takes more format waits (Some x) (Some y) spans i span a b c u v w lt is grows there f s = λ kept.
    let front = cuts_stay x y (take i spans) grows there in
    let kept_front = front_less spans (λ s. IsKept format waits (cut_of y s) s) i lt kept in
    let so_far = f (λ k s lt' is'. kept_along format waits x y s (front k s lt' is') (kept_front k s lt' is')) in
    let here = s (last_all spans (λ s. IsKept format waits (cut_of y s) s) i span lt is kept) in
    let founds : spans_found format waits y (take i spans) ≡ spans_found format waits x (take i spans) =
    flat_map-same (span_found format waits y) (span_found format waits x) (take i spans) (λ k s lt' is'. found_along format waits x y s (front k s lt' is')) in
    let bads : spans_bad format waits y (take i spans) ≡ spans_bad format waits x (take i spans) =
    flat_map-same (span_bad format waits y) (span_bad format waits x) (take i spans) (λ k s lt' is'. bad_along format waits x y s (front k s lt' is')) in
    let found_one : spans_found format waits y (take (i + 1) spans) ≡ spans_found format waits y (take i spans) ++ span_found format waits y span = flat_one (span_found format waits y) spans i span lt is in
    let bad_one : spans_bad format waits y (take (i + 1) spans) ≡ spans_bad format waits y (take i spans) ++ span_bad format waits y span = flat_one (span_bad format waits y) spans i span lt is in
    let all : spans_found format waits x (take i spans) ++ span_found format waits y span ≡ spans_found format waits y (take (i + 1) spans) = ap (λ t. t ++ span_found format waits y span) (sym founds) ∙ sym found_one in
    let size : length (spans_found format waits y (take (i + 1) spans)) ≡ length (spans_found format waits x (take i spans)) + length (span_found format waits y span) = ap length (sym all) ∙ length-append (spans_found format waits x (take i spans)) (span_found format waits y span) in
    let bad_size : length (spans_bad format waits y (take (i + 1) spans)) ≡ length (spans_bad format waits x (take i spans)) + length (span_bad format waits y span) =
    ap length bad_one ∙ (length-append (spans_bad format waits y (take i spans)) (span_bad format waits y span) ∙ ap (λ t. length t + length (span_bad format waits y span)) bads) in
    let rows_before = so_far.rows in
    let rows_now = here.rows in
    let bad_before = so_far.bad in
    let bad_now = here.bad in
    let mets : spans_met format waits y (take i spans) ≡ spans_met format waits x (take i spans) =
    flat_map-same (span_met format waits y) (span_met format waits x) (take i spans) (λ k s lt' is'. met_along format waits x y s (front k s lt' is')) in
    let met_one : spans_met format waits y (take (i + 1) spans) ≡ spans_met format waits y (take i spans) ++ span_met format waits y span = flat_one (span_met format waits y) spans i span lt is in
    let met_all : spans_met format waits x (take i spans) ++ span_met format waits y span ≡ spans_met format waits y (take (i + 1) spans) = ap (λ t. t ++ span_met format waits y span) (sym mets) ∙ sym met_one in
    let Done : List Met → Type 0 = λ t. takes a.taker u t c.taker w in
    record { done = subst Done met_all (more _ _ _ _ _ _ _ _ so_far.done here.done); rows = omega arith; bad = omega arith }

-- spans were taken, while logs grew
spans_along : {T O : Type 0} (takes : Takes T O) (format : Format) (waits : Bool) (x y : Folder) (spans : List Span) (a b : Page T) (u v : O) → AllSpans spans (λ s. cut_of y s ≡ cut_of x s)
    → TakesSpans takes format waits x spans a b u v → TakesSpans takes format waits y spans a b u v
spans_along takes format waits x y spans a b u v same t =
    let founds : spans_found format waits y spans ≡ spans_found format waits x spans =
    flat_map-same (span_found format waits y) (span_found format waits x) spans (λ k s lt is. found_along format waits x y s (same k s lt is)) in
    let bads : spans_bad format waits y spans ≡ spans_bad format waits x spans =
    flat_map-same (span_bad format waits y) (span_bad format waits x) spans (λ k s lt is. bad_along format waits x y s (same k s lt is)) in
    let mets : spans_met format waits y spans ≡ spans_met format waits x spans =
    flat_map-same (span_met format waits y) (span_met format waits x) spans (λ k s lt is. met_along format waits x y s (same k s lt is)) in
    let Done : List Met → Type 0 = λ l. takes a.taker u l b.taker v in
    record {
      done = subst Done (sym mets) t.done;
      rows = t.rows ∙ ap (λ l. a.rows + length l) (sym founds);
      bad = t.bad ∙ ap (λ l. a.bad + length l) (sym bads);
    }

told_along : {T O : Type 0} (takes : Takes T O) (format : Format) (waits : Bool) (first second : Option Folder) (spans : List Span) (a b : Page T) (u v : O)
    → OnlyGrow first second → Told first (λ folder. AllSpans spans (λ s. s.listed ≤ length (bytes_in folder s.name)))
    → Told first (λ folder. AreKept format waits spans folder → TakesSpans takes format waits folder spans a b u v)
    → Told second (λ folder. AreKept format waits spans folder → TakesSpans takes format waits folder spans a b u v)
told_along takes format waits None None spans a b u v grows there f = tt
told_along takes format waits None (Some y) spans a b u v grows there f = let e : Some y ≡ None = grows in cc
told_along takes format waits (Some x) None spans a b u v grows there f = tt
told_along takes format waits (Some x) (Some y) spans a b u v grows there f = λ kept.
    let same = cuts_stay x y spans grows there in
    spans_along takes format waits x y spans a b u v same (f (λ k s lt is. kept_along format waits x y s (same k s lt is) (kept k s lt is)))

-- those in front of a span, it, and those behind it
spans_split : (spans : List Span) (i : ℕ) (span : Span) → i < length spans → span ≡ get_or spans i span → take i spans ++ ((span ∷ []) ++ drop (i + 1) spans) ≡ spans
spans_split spans i span lt is =
    sym (append_assoc (take i spans) (span ∷ []) (drop (i + 1) spans)) ∙ (ap (λ t. t ++ drop (i + 1) spans) (sym (one_more spans i span lt is)) ∙ take-append-drop (i + 1) spans)

told_in_turn : {T O : Type 0} (takes : Takes T O) (stops : Stops T O) (later : StopsLater takes stops) (format : Format) (waits : Bool) (told : Option Folder) (spans : List Span) (i : ℕ) (span : Span) (a b z : Page T) (u v w : O) → i < length spans → span ≡ get_or spans i span
    → b.most_bad ≡ a.most_bad → Told told (λ folder. AreKept format waits (take i spans) folder → TakesSpans takes format waits folder (take i spans) a b u v)
    → Told told (λ folder. IsKept format waits (cut_of folder span) span → StopsUpTo stops format waits folder (span ∷ []) b z v w)
    → Told told (λ folder. AreKept format waits spans folder → StopsUpTo stops format waits folder spans a z u w)
told_in_turn takes stops later format waits None spans i span a b z u v w lt is most f s = tt
told_in_turn {T = T} takes stops later format waits (Some y) spans i span a b z u v w lt is most f s = λ kept.
    let Of : List Span → Type 0 = λ l. StopsUpTo stops format waits y l a z u w in
    subst Of (spans_split spans i span lt is)
    (stops_up_behind takes stops later format waits y (take i spans) (span ∷ []) (drop (i + 1) spans) a b z u v w most
    (f (front_all spans (λ s. IsKept format waits (cut_of y s) s) i (omega arith) kept)) (s (kept i span lt is)))

told_behind : {T O : Type 0} (takes : Takes T O) (more : TakesMore takes) (format : Format) (waits : Bool) (told : Option Folder) (spans : List Span) (i : ℕ) (span : Span) (line : BadLine) (a b z : Page T) (u v w : O) → i < length spans → span ≡ get_or spans i span
    → b.most_bad ≡ a.most_bad → Told told (λ folder. AreKept format waits (take i spans) folder → TakesSpans takes format waits folder (take i spans) a b u v)
    → Told told (λ folder. IsKept format waits (cut_of folder span) span → TakesUpTo takes format waits folder (span ∷ []) line b z v w)
    → Told told (λ folder. AreKept format waits spans folder → TakesUpTo takes format waits folder spans line a z u w)
told_behind takes more format waits None spans i span line a b z u v w lt is most f s = tt
told_behind {T = T} takes more format waits (Some y) spans i span line a b z u v w lt is most f s = λ kept.
    let Of : List Span → Type 0 = λ l. TakesUpTo takes format waits y l line a z u w in
    subst Of (spans_split spans i span lt is)
    (takes_up_behind takes more format waits y (take i spans) (span ∷ []) (drop (i + 1) spans) line a b z u v w most
    (f (front_all spans (λ s. IsKept format waits (cut_of y s) s) i (omega arith) kept)) (s (kept i span lt is)))

-- it stopped within a span
pub spans_stopped : {T O : Type 0} (takes : Takes T O) (stops : Stops T O) (later : StopsLater takes stops) (format : Format) (waits : Bool) (first second : Option Folder) (spans : List Span) (i : ℕ) (span : Span) (a b z : Page T) (u v w : O) → i < length spans → span ≡ get_or spans i span
    → OnlyGrow first second → Told first (λ folder. AllSpans (take i spans) (λ s. s.listed ≤ length (bytes_in folder s.name))) → b.most_bad ≡ a.most_bad
    → Told first (λ folder. AreKept format waits (take i spans) folder → TakesSpans takes format waits folder (take i spans) a b u v)
    → Told second (λ folder. IsKept format waits (cut_of folder span) span → StopsUpTo stops format waits folder (span ∷ []) b z v w)
    → Told second (λ folder. AreKept format waits spans folder → StopsUpTo stops format waits folder spans a z u w)
spans_stopped takes stops later format waits first second spans i span a b z u v w lt is grows there most f s =
    told_in_turn takes stops later format waits second spans i span a b z u v w lt is most (told_along takes format waits first second (take i spans) a b u v grows there f) s

-- a bad line of a span was one too many
pub spans_exceeded : {T O : Type 0} (takes : Takes T O) (more : TakesMore takes) (format : Format) (waits : Bool) (first second : Option Folder) (spans : List Span) (i : ℕ) (span : Span) (line : BadLine) (a b z : Page T) (u v w : O) → i < length spans → span ≡ get_or spans i span
    → OnlyGrow first second → Told first (λ folder. AllSpans (take i spans) (λ s. s.listed ≤ length (bytes_in folder s.name))) → b.most_bad ≡ a.most_bad
    → Told first (λ folder. AreKept format waits (take i spans) folder → TakesSpans takes format waits folder (take i spans) a b u v)
    → Told second (λ folder. IsKept format waits (cut_of folder span) span → TakesUpTo takes format waits folder (span ∷ []) line b z v w)
    → Told second (λ folder. AreKept format waits spans folder → TakesUpTo takes format waits folder spans line a z u w)
spans_exceeded takes more format waits first second spans i span line a b z u v w lt is grows there most f s =
    told_behind takes more format waits second spans i span line a b z u v w lt is most (told_along takes format waits first second (take i spans) a b u v grows there f) s

-- where it stopped within first lines of spans it stopped within them
pub told_stops : {T O : Type 0} (stops : Stops T O) (more : StopsMore stops) (format : Format) (waits : Bool) (told : Option Folder) (spans : List Span) (a z : Page T) (u w : O)
    → Told told (λ folder. AreKept format waits spans folder → StopsUpTo stops format waits folder spans a z u w)
    → Told told (λ folder. AreKept format waits spans folder → stops a.taker u (spans_met format waits folder spans) z.taker w)
told_stops stops more format waits None spans a z u w s = tt
told_stops stops more format waits (Some y) spans a z u w s = λ kept. stops_up_to_all stops more format waits y spans a z u w (s kept)

-- the next bad line is the one that is one too many
pub told_too_many : {T O : Type 0} (takes : Takes T O) (format : Format) (waits : Bool) (told : Option Folder) (spans : List Span) (line : BadLine) (a z : Page T) (u w : O)
    → Told told (λ folder. AreKept format waits spans folder → TakesUpTo takes format waits folder spans line a z u w)
    → Told told (λ folder. AreKept format waits spans folder → IsTooMany a.most_bad a.bad (spans_bad_lines format waits folder spans) line)
told_too_many takes format waits None spans line a z u w s = tt
told_too_many takes format waits (Some y) spans line a z u w s = λ kept. takes_up_to_bad takes format waits y spans line a z u w (s kept)

-- what a run notes of a log
took_along : (format : Format) (waits : Bool) (a b : Folder) (span : Span) → cut_of b span ≡ cut_of a span → took_of format waits b span ≡ took_of format waits a span
took_along format waits a b span same = ap (λ (t : List ℕ). let to : ℕ = max span.from (if waits then last_end t else length t) in took_at span.identity span.from to (standing_at format t waits to)) same

map-same : {Y : Type 0} (f g : Span → Y) (spans : List Span) → AllSpans spans (λ s. f s ≡ g s) → map f spans ≡ map g spans
map-same f g [] same = refl
map-same f g (span ∷ spans) same =
    let first : f span ≡ g span = same 0 span (omega arith) refl in
    let rest : map f spans ≡ map g spans = map-same f g spans (λ k s lt is. same (suc k) s (omega arith) is) in
    ap (λ t. t ∷ map f spans) first ∙ ap (λ t. g span ∷ t) rest

pub took_none : (format : Format) (waits : Bool) (told : Option Folder) (spans : List Span) (list : List Took) → Told told (λ folder. AreKept format waits spans folder → list ≡ list ++ map (took_of format waits folder) [])
took_none format waits None spans list = tt
took_none format waits (Some x) spans list = λ kept. sym (append-nil list)

pub took_more : (format : Format) (waits : Bool) (first second : Option Folder) (spans : List Span) (i : ℕ) (span : Span) (a b c : List Took) → i < length spans → span ≡ get_or spans i span
    → OnlyGrow first second → Told first (λ folder. AllSpans (take i spans) (λ s. s.listed ≤ length (bytes_in folder s.name)))
    → Told first (λ folder. AreKept format waits (take i spans) folder → b ≡ a ++ map (took_of format waits folder) (take i spans))
    → Told second (λ folder. IsKept format waits (cut_of folder span) span → c ≡ b ++ took_of format waits folder span ∷ [])
    → Told second (λ folder. AreKept format waits (take (i + 1) spans) folder → c ≡ a ++ map (took_of format waits folder) (take (i + 1) spans))
took_more format waits None None spans i span a b c lt is grows there f s = tt
took_more format waits None (Some y) spans i span a b c lt is grows there f s = let e : Some y ≡ None = grows in cc
took_more format waits (Some x) None spans i span a b c lt is grows there f s = tt
took_more format waits (Some x) (Some y) spans i span a b c lt is grows there f s = λ kept.
    let front = cuts_stay x y (take i spans) grows there in
    let kept_front = front_less spans (λ s. IsKept format waits (cut_of y s) s) i lt kept in
    let so_far = f (λ k s lt' is'. kept_along format waits x y s (front k s lt' is') (kept_front k s lt' is')) in
    let here = s (last_all spans (λ s. IsKept format waits (cut_of y s) s) i span lt is kept) in
    let list : map (took_of format waits y) (take i spans) ≡ map (took_of format waits x) (take i spans) =
    map-same (took_of format waits y) (took_of format waits x) (take i spans) (λ k s lt' is'. took_along format waits x y s (front k s lt' is')) in
    let one : map (took_of format waits y) (take (i + 1) spans) ≡ map (took_of format waits y) (take i spans) ++ took_of format waits y span ∷ [] =
    ap (map (took_of format waits y)) (one_more spans i span lt is) ∙ map-append (took_of format waits y) (take i spans) (span ∷ []) in
    here ∙ (ap (λ t. t ++ took_of format waits y span ∷ []) (so_far ∙ ap (λ t. a ++ t) (sym list)) ∙ (append_assoc a (map (took_of format waits y) (take i spans)) (took_of format waits y span ∷ []) ∙ ap (λ t. a ++ t) (sym one)))
