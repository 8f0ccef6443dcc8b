-- How far a log was read ahead of what was taken.
use Rattle.std.proofs.Common.{◌≡◌, ℕ, ◌+◌, ◌-◌, ◌<◌, ◌≤◌, Bool, true, false, List, [], ◌∷◌, ◌++◌, length, take, drop, filter, get_or, flat_map, Option, Some, None, ap, sym, ◌∙◌, refl, subst, arith, inl, inr, nat_le, nat_lt, append_assoc}
use Rattle.std.proofs.lemmas.Bool.{cases_lt, le-leb}
use Rattle.std.proofs.lemmas.Bool.Decides.{nat_tests}
use Rattle.std.proofs.lemmas.List.{take-append-drop, take-take, get_or-take, length-take-le, length-take}
use Rattle.std.specs.List.{position_or_len}
use Rattle.lp_model.specs.Lines.{Line, is_lf, lines_of}
use Rattle.lp_model.specs.Outside.{Folder, OnlyGrow, Told, bytes_in}
use Rattle.lp_model.specs.Reading.{Format, records_in, standing_at, standing_behind}
use Rattle.lp_model.specs.Following.{IsLineEnd}
use Rattle.lp_model.proofs.Appending.{standing_at-stays}
use Rattle.lp_model.proofs.Between.{is_between}
use Rattle.lp_model.proofs.Ordered.{leb_false}
use Rattle.lp_model.proofs.Pieces.{rest_none}
use Rattle.log_reading.specs.Parts.{IsPart}
use Rattle.log_reading.proofs.Parts.{IsPart-grown, part_within}
use Rattle.log_reading.specs.Found.{Met, met_of}
use Rattle.log_reading.specs.declared.page.Page.{Page}
use Rattle.log_reading.specs.declared.span.Span.{Span}
use Rattle.log_reading.specs.Page.{Takes, to_come, Follows}
use Rattle.log_reading.specs.Spans.{HasRead, ReadsAheadInLog, ReadsAheadInSpan, ReadsAhead, IsKept, AreKept, AllSpans, TakesSpans, cut_of, rows_up_to, span_met, spans_met, spans_size}
use Rattle.log_reading.proofs.Advancing.{TakesMore, follows_none, to_come-waiting}
use Rattle.log_reading.proofs.Spanning.{IsStart, end_at, follows_whole, span_taken}
use Rattle.log_reading.proofs.Waiting.{lines_before-alike}
use Rattle.log_reading.proofs.SpansTaken.{cuts_stay, kept_along, met_along, flat_map-same, front_all, one_more}

-- what an output lets stand, it lets stand later
abbrev pub GoesOn : {O : Type 0} → (O → O → Type 0) → Type 0
GoesOn {O = O} goes = (u v w : O) → goes u v → goes v w → goes u w

pub has_read_grown : {T O : Type 0} (takes : Takes T O) (format : Format) (identity : List ℕ) (waits : Bool) (first second : Option Folder) (name : List ℕ) (cut : ℕ) (old new : Page T) (u v : O)
    → OnlyGrow first second → HasRead takes format identity waits first name cut old new u v → HasRead takes format identity waits second name cut old new u v
has_read_grown takes format identity waits first second name cut old new u v grows f =
    record { bytes = f.bytes; piece = IsPart-grown first second name (old.splitter.place + length old.splitter.left) cut f.bytes grows f.piece; end = f.end; advances = f.advances }

-- a span up to an earlier cut
abbrev cut_at : ℕ → Span → Span
cut_at place span = record { name = span.name; identity = span.identity; from = span.from; listed = place; standing = span.standing }

end_within : (bytes : List ℕ) (place from : ℕ) → from ≤ place → place ≤ length bytes → IsLineEnd bytes from → IsLineEnd (take place bytes) from
end_within bytes place from le fits (inl e) = inl e
end_within bytes place from le fits (inr (some, high, lf)) =
    let size : length (take place bytes) ≡ place = length-take-le place bytes fits in
    inr (some, omega arith, get_or-take place bytes (from - 1) 0 (omega arith) ∙ lf)

end_fits : (bytes : List ℕ) (from : ℕ) → IsLineEnd bytes from → from ≤ length bytes
end_fits bytes from (inl e) = omega arith
end_fits bytes from (inr (some, high, lf)) = high

kept_front : (format : Format) (waits : Bool) (bytes : List ℕ) (span : Span) (place : ℕ) → span.from ≤ place → place ≤ length bytes → IsKept format waits bytes span → IsKept format true (take place bytes) (cut_at place span)
kept_front format waits bytes span place le fits kept =
    let at_end = end_within bytes place span.from le fits kept.at_end in
    let whole : take place bytes ++ drop place bytes ≡ bytes = take-append-drop place bytes in
    record {
      at_end = at_end;
      standing = kept.standing ∙ (ap (λ t. standing_at format t waits span.from) (sym whole)
          ∙ (standing_at-stays format (take place bytes) (drop place bytes) waits span.from at_end ∙ ap (standing_behind format) (lines_before-alike (take place bytes) waits span.from at_end)));
    }

-- the place where the page is lies within the log
rows_within : {T : Type 0} (x : Folder) (span : Span) (first : Page T) (bytes : List ℕ) → IsStart span first → IsLineEnd (cut_of x span) span.from → IsPart (Some x) span.name (end_at first) span.listed bytes → {place : ℕ} → place ≡ end_at first + length bytes → place ≤ length (cut_of x span)
rows_within x span first bytes start at_end piece end =
    let empty : length first.splitter.left ≡ 0 = ap length start.left in
    let began = start.place in
    let from = end_fits (cut_of x span) span.from at_end in
    let within : end_at first + length bytes ≤ length (cut_of x span) = part_within x span.name (end_at first) span.listed bytes (omega arith) piece in
    omega arith

-- what was taken of a span up to where the page is
rows_taken : {T O : Type 0} (takes : Takes T O) (more : TakesMore takes) (format : Format) (waits : Bool) (x : Folder) (span : Span) (first page : Page T) (u v : O) → IsStart span first → takes page.taker v [] page.taker v
    → HasRead takes format span.identity true (Some x) span.name span.listed first page u v → length page.splitter.left ≤ position_or_len is_lf page.splitter.left → IsKept format waits (cut_of x span) span
    → takes first.taker u (rows_up_to format x span (page.splitter.place + length page.splitter.left)) page.taker v
rows_taken {T = T} takes more format waits x span first page u v start nothing f last kept =
    let place : ℕ = page.splitter.place + length page.splitter.left in
    let piece = f.piece in
    let end = f.end in
    let fits = piece.fits in
    let empty : length first.splitter.left ≡ 0 = ap length start.left in
    let began = start.place in
    let within : place ≤ length (cut_of x span) = rows_within x span first f.bytes start kept.at_end piece end in
    let same : take place (cut_of x span) ≡ take place (bytes_in x span.name) = take-take place span.listed (bytes_in x span.name) (omega arith) in
    let short : HasRead takes format span.identity true (Some x) span.name place first page u v =
    record { bytes = f.bytes; piece = record { fits = omega arith; same = piece.same }; end = f.end; advances = f.advances } in
    let Of : List Line → Type 0 = λ lines. Follows takes format span.identity lines page page v v in
    let none : Follows takes format span.identity (to_come true page []) page page v v = subst Of (sym (to_come-waiting page last)) (follows_none takes format span.identity page v nothing) in
    let begins : IsStart (cut_at place span) first = record { place = start.place; left = start.left; standing = start.standing } in
    let kept' : IsKept format true (cut_of x (cut_at place span)) (cut_at place span) =
    subst (λ (t : List ℕ). IsKept format true t (cut_at place span)) same (kept_front format waits (cut_of x span) span place (omega arith) (omega arith) kept) in
    (span_taken takes format true x (cut_at place span) first first page u v begins refl refl refl
    (follows_whole takes more format span.identity true (Some x) x span.name place first page page u v v refl short (rest_none x span.name place place (omega arith)) none) kept').done

told_rows : {T O : Type 0} (takes : Takes T O) (more : TakesMore takes) (format : Format) (waits : Bool) (told : Option Folder) (span : Span) (old first page : Page T) (u v : O) → IsStart span first → first.taker ≡ old.taker → takes page.taker v [] page.taker v
    → HasRead takes format span.identity true told span.name span.listed first page u v → length page.splitter.left ≤ position_or_len is_lf page.splitter.left
    → Told told (λ folder. IsKept format waits (cut_of folder span) span → takes old.taker u (rows_up_to format folder span (page.splitter.place + length page.splitter.left)) page.taker v)
told_rows takes more format waits None span old first page u v start taker nothing f last = tt
told_rows {T = T} takes more format waits (Some x) span old first page u v start taker nothing f last = λ kept.
    let At : T → Type 0 = λ t. takes t u (rows_up_to format x span (page.splitter.place + length page.splitter.left)) page.taker v in
    subst At taker (rows_taken takes more format waits x span first page u v start nothing f last kept)

pub span_ahead : {T O : Type 0} (takes : Takes T O) (goes : O → O → Type 0) (handed_on : T → O → Type 0) (nothing : (t : T) (w : O) → takes t w [] t w) (more : TakesMore takes) (on : GoesOn goes) (format : Format) (waits : Bool) (told : Option Folder) (span : Span) (piece given_before given_now : ℕ) (old first : Page T) (u v w : O)
    → IsStart span first → first.taker ≡ old.taker → span.from ≤ span.listed → ReadsAheadInLog takes goes handed_on format span.identity told span.name span.listed piece given_before given_now first u v → goes v w
    → ReadsAheadInSpan takes goes handed_on format waits told span piece given_before given_now old.taker u w
span_ahead takes goes handed_on nothing more on format waits told span piece given_before given_now old first u v w start taker order a later =
    let given = a.given in
    let below = a.below in
    let began = start.place in
    let end = a.read.end in
    let fits = a.read.piece.fits in
    let empty : length first.splitter.left ≡ 0 = ap length start.left in
    record {
      place = a.page.splitter.place + length a.page.splitter.left;
      start = omega arith;
      cut = omega arith;
      taker = a.page.taker;
      out = a.out;
      taken = told_rows takes more format waits told span old first a.page u a.out start taker (nothing a.page.taker a.out) a.read a.last;
      handed = a.handed;
      later = on a.out v w a.later later;
      given = omega arith;
      below = omega arith;
    }

-- no line starts between a place and one that isn't behind it
none_between : (from to : ℕ) (lines : List Line) → to ≤ from → filter (is_between from to) lines ≡ []
none_between from to [] le = refl
none_between from to (line ∷ lines) le = elim (cases_lt line.start from) [
  | inl early ↦ let f : nat_le from line.start ≡ false = leb_false from line.start early in rw f (none_between from to lines le)
  | inr late ↦
      let t : nat_le from line.start ≡ true = le-leb from line.start late in
      let e : nat_lt line.start to ≡ false = grind (arith, nat_tests) in
      rw (t, e) (none_between from to lines le)
]

no_rows : (format : Format) (x : Folder) (span : Span) → rows_up_to format x span span.from ≡ []
no_rows format x span =
    let bytes = take span.from (bytes_in x span.name) in
    let short : length bytes ≤ span.from = omega (arith, length-take {A = ℕ} span.from (bytes_in x span.name)) in
    ap (λ (t : List Line). met_of span.identity (flat_map (records_in format bytes true) t)) (none_between span.from (length bytes) (lines_of bytes true) short)

told_none : {T O : Type 0} (takes : Takes T O) (format : Format) (waits : Bool) (told : Option Folder) (span : Span) (old : T) (w : O) → takes old w [] old w
    → Told told (λ folder. IsKept format waits (cut_of folder span) span → takes old w (rows_up_to format folder span span.from) old w)
told_none takes format waits None span old w nothing = tt
told_none takes format waits (Some x) span old w nothing = λ kept.
    let Of : List Met → Type 0 = λ t. takes old w t old w in
    subst Of (sym (no_rows format x span)) nothing

-- nothing was read
pub span_unread : {T O : Type 0} (takes : Takes T O) (goes : O → O → Type 0) (handed_on : T → O → Type 0) (format : Format) (waits : Bool) (told : Option Folder) (span : Span) (piece given : ℕ) (old : T) (w : O) → takes old w [] old w → goes w w → handed_on old w → span.from ≤ span.listed
    → ReadsAheadInSpan takes goes handed_on format waits told span piece given given old w w
span_unread takes goes handed_on format waits told span piece given old w nothing nowhere handed order = record {
  place = span.from;
  start = omega arith;
  cut = order;
  taker = old;
  out = w;
  taken = told_none takes format waits told span old w nothing;
  handed = handed;
  later = nowhere;
  given = omega arith;
  below = omega arith;
}

-- the output went on
pub span_ahead_later : {T O : Type 0} (takes : Takes T O) (goes : O → O → Type 0) (handed_on : T → O → Type 0) (on : GoesOn goes) (format : Format) (waits : Bool) (told : Option Folder) (span : Span) (piece given_before given_now : ℕ) (old : T) (u v w : O)
    → ReadsAheadInSpan takes goes handed_on format waits told span piece given_before given_now old u v → goes v w → ReadsAheadInSpan takes goes handed_on format waits told span piece given_before given_now old u w
span_ahead_later takes goes handed_on on format waits told span piece given_before given_now old u v w a later =
    record { place = a.place; start = a.start; cut = a.cut; taker = a.taker; out = a.out; taken = a.taken; handed = a.handed; later = on a.out v w a.later later; given = a.given; below = a.below }

-- behind spans that were taken
told_ahead : {T O : Type 0} (takes : Takes T O) (more : TakesMore takes) (format : Format) (waits : Bool) (first second : Option Folder) (spans : List Span) (i : ℕ) (span : Span) (place : ℕ) (a b : Page T) (t : T) (u v w : O) → i < length spans → span ≡ get_or spans i span
    → OnlyGrow first second → Told first (λ folder. AllSpans (take i spans) (λ s. s.listed ≤ length (bytes_in folder s.name)))
    → Told first (λ folder. AreKept format waits (take i spans) folder → TakesSpans takes format waits folder (take i spans) a b u v)
    → Told second (λ folder. IsKept format waits (cut_of folder span) span → takes b.taker v (rows_up_to format folder span place) t w)
    → Told second (λ folder. AreKept format waits spans folder → takes a.taker u (spans_met format waits folder (take i spans) ++ rows_up_to format folder span place) t w)
told_ahead takes more format waits None None spans i span place a b t u v w lt is grows there f s = tt
told_ahead takes more format waits None (Some y) spans i span place a b t u v w lt is grows there f s = let e : Some y ≡ None = grows in cc
told_ahead takes more format waits (Some x) None spans i span place a b t u v w lt is grows there f s = tt
told_ahead takes more format waits (Some x) (Some y) spans i span place a b t u v w lt is grows there f s = λ kept.
    let front = cuts_stay x y (take i spans) grows there in
    let kept_front = front_all spans (λ s. IsKept format waits (cut_of y s) s) i (omega arith) kept in
    let so_far = f (λ k s lt' is'. kept_along format waits x y s (front k s lt' is') (kept_front k s lt' is')) in
    let mets : spans_met format waits y (take i spans) ≡ spans_met format waits x (take i spans) =
    flat_map-same (span_met format waits y) (span_met format waits x) (take i spans) (λ k s lt' is'. met_along format waits x y s (front k s lt' is')) in
    let Done : List Met → Type 0 = λ l. takes a.taker u (l ++ rows_up_to format y span place) t w in
    subst Done (sym mets) (more _ _ _ _ _ _ _ _ so_far.done (s (kept i span lt is)))

pub spans_ahead : {T O : Type 0} (takes : Takes T O) (goes : O → O → Type 0) (handed_on : T → O → Type 0) (more : TakesMore takes) (format : Format) (waits : Bool) (first second : Option Folder) (spans : List Span) (i : ℕ) (span : Span) (piece size given_first given_before given_now : ℕ) (a b : Page T) (u v w : O)
    → i < length spans → span ≡ get_or spans i span → OnlyGrow first second → Told first (λ folder. AllSpans (take i spans) (λ s. s.listed ≤ length (bytes_in folder s.name)))
    → Told first (λ folder. AreKept format waits (take i spans) folder → TakesSpans takes format waits folder (take i spans) a b u v)
    → given_before ≤ given_first + spans_size (take i spans) → piece ≡ size → ReadsAheadInSpan takes goes handed_on format waits second span piece given_before given_now b.taker v w
    → ReadsAhead takes goes handed_on format waits second spans size given_first given_now a.taker u w
spans_ahead takes goes handed_on more format waits first second spans i span piece size given_first given_before given_now a b u v w lt is grows there f so_far same s =
    let given = s.given in
    let below = s.below in
    record {
      front = take i spans;
      span = span;
      rest = drop (i + 1) spans;
      stands = sym (take-append-drop (i + 1) spans) ∙ (ap (λ t. t ++ drop (i + 1) spans) (one_more spans i span lt is) ∙ append_assoc (take i spans) (span ∷ []) (drop (i + 1) spans));
      place = s.place;
      start = s.start;
      cut = s.cut;
      taker = s.taker;
      out = s.out;
      taken = told_ahead takes more format waits first second spans i span s.place a b s.taker u v s.out lt is grows there f s.taken;
      handed = s.handed;
      later = s.later;
      given = omega arith;
      below = omega arith;
    }
