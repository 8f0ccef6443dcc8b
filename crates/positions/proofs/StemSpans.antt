-- Spans of the files of stems.
use Rattle.std.proofs.Common.{◌≡◌, ◌⊎◌, ℕ, zero, suc, ◌+◌, ◌-◌, ◌<◌, ◌≤◌, max, Bool, true, false, List, [], ◌∷◌, ◌++◌, length, Option, Some, None, IsSome, is_some, refl, sym, ◌∙◌, ap, subst, inl, inr, ⊎_elim, arith, append_assoc, length-append}
use Rattle.std.specs.List.{AllZip}
use Rattle.std.specs.BTreeSet.{BTreeSet, contains}
use Rattle.std.specs.Ordering.{nat_cmp}
use Rattle.std.proofs.lemmas.Bool.{cases_order, false≢true}
use Rattle.std.proofs.lemmas.List.{append-nil}
use Rattle.lp_model.specs.Outside.{Folder, OnlyGrow, Told}
use Rattle.ledger_model.specs.Entries.{Entry}
use Rattle.run_model.specs.Logs.{generation_name}
use Rattle.run_model.specs.Listed.{Listed, rotated_files, live_files, ListsStem, IsThereAt, IsNewest, IsOldest, IsFirst, IsGreatest}
use Rattle.generations.specs.Ranges.{Has, HasAll, IsLast, IsLeast}
use Rattle.generations.specs.There.{AreThere}
use Rattle.generations.specs.Files.{IsFirstOf, IsKnownAs, IsLiveAs, live_part}
use Rattle.generations.proofs.Rotated.{rotated_more}
use Rattle.log_reading.specs.declared.span.Span.{Span}
use Rattle.positions.specs.declared.spans.SpanFault.{SpanFault}
use Rattle.positions.specs.declared.spans.SpanFault.TheVariants as F
use Rattle.positions.specs.Places.{Places}
use Rattle.positions.specs.Spans.{IsSpanOf, AddsSpans, StopsFile}
use Rattle.log_listing.specs.Firsts.{is_among}
use Rattle.positions.specs.Spanning.{AreHere, Wants, StopsWanted, StopsGeneration, StopsStem, HasNone, IsBehind}
use Rattle.positions.specs.SpanSteps.{Tells, AddsSpan, AddsFiles, AddsStem, StopsListed, StopsNumber, StopsRotated, IsOther, file_of, live_file}
use Rattle.positions.proofs.Adding.{span_earlier, all_later}
use Rattle.positions.proofs.Backward.{untold, there_back, live_back}

all_earlier : (places : Places) (before mid now : Option Folder) (files : List Listed) (spans : List Span) → OnlyGrow before mid → AllZip (IsSpanOf places mid now) files spans → AllZip (IsSpanOf places before now) files spans
all_earlier places before mid now [] [] grow all = tt
all_earlier places before mid now [] (span ∷ spans) grow all = absurd all
all_earlier places before mid now (file ∷ files) [] grow all = absurd all
all_earlier places before mid now (file ∷ files) (span ∷ spans) grow all = (span_earlier places before mid now file span grow all.0, all_earlier places before mid now files spans grow all.1)

pub zip_append : (places : Places) (before now : Option Folder) (files more : List Listed) (spans others : List Span) → AllZip (IsSpanOf places before now) files spans → AllZip (IsSpanOf places before now) more others → AllZip (IsSpanOf places before now) (files ++ more) (spans ++ others)
zip_append places before now [] more [] others all rest = rest
zip_append places before now [] more (span ∷ spans) others all rest = absurd all
zip_append places before now (file ∷ files) more [] others all rest = absurd all
zip_append places before now (file ∷ files) more (span ∷ spans) others all rest = (all.0, zip_append places before now files more spans others all.1 rest)

zip_length : (places : Places) (before now : Option Folder) (files : List Listed) (spans : List Span) → AllZip (IsSpanOf places before now) files spans → length spans ≡ length files
zip_length places before now [] [] all = refl
zip_length places before now [] (span ∷ spans) all = absurd all
zip_length places before now (file ∷ files) [] all = absurd all
zip_length places before now (file ∷ files) (span ∷ spans) all = let rest = zip_length places before now files spans all.1 in omega (arith, rest)

pub adds_none : (places : Places) (before now : Option Folder) (old : List Span) → AddsSpans places before now [] old old
adds_none places before now old = record { more = []; added = sym (append-nil old); each = tt }

-- the spans of more files behind those of some
pub adds_then : (places : Places) (before mid now : Option Folder) (files more : List Listed) (old held new : List Span) → OnlyGrow before mid → OnlyGrow mid now → AddsSpans places before mid files old held → AddsSpans places mid now more held new → AddsSpans places before now (files ++ more) old new
adds_then places before mid now files more old held new first later one two = record {
  more = one.more ++ two.more;
  added = two.added ∙ (ap (λ (l : List Span). l ++ two.more) one.added ∙ append_assoc old one.more two.more);
  each = zip_append places before now files more one.more two.more (all_later places before mid now files one.more later one.each) (all_earlier places before mid now more two.more first two.each);
}

pub adds_one : (places : Places) (before now : Option Folder) (file : Listed) (old new : List Span) → AddsSpan places before now file old new → AddsSpans places before now (file ∷ []) old new
adds_one places before now file old new adds = record { more = adds.span ∷ []; added = adds.added; each = (adds.is, tt) }

adds_later : (places : Places) (before mid now : Option Folder) (files : List Listed) (old new : List Span) → OnlyGrow mid now → AddsSpans places before mid files old new → AddsSpans places before now files old new
adds_later places before mid now files old new later one = record { more = one.more; added = one.added; each = all_later places before mid now files one.more later one.each }

adds_earlier : (places : Places) (start before now : Option Folder) (files : List Listed) (old new : List Span) → OnlyGrow start before → AddsSpans places before now files old new → AddsSpans places start now files old new
adds_earlier places start before now files old new first one = record { more = one.more; added = one.added; each = all_earlier places start before now files one.more first one.each }

-- one generation more
pub rotated_step : (places : Places) (before mid now : Option Folder) (stem : List ℕ) (first number : ℕ) (old held new : List Span) → first ≤ number → OnlyGrow before mid → OnlyGrow mid now → AddsSpans places before mid (rotated_files stem first (number - first)) old held → AddsSpan places mid now (file_of stem number) held new
    → AddsSpans places before now (rotated_files stem first (number + 1 - first)) old new
rotated_step places before mid now stem first number old held new low begins later so_far adds =
    let count : suc (number - first) ≡ number + 1 - first = omega (arith, low) in
    let last : first + (number - first) ≡ number = omega (arith, low) in
    let files : rotated_files stem first (number - first) ++ file_of stem number ∷ [] ≡ rotated_files stem first (number + 1 - first) =
    ap (λ (n : ℕ). rotated_files stem first (number - first) ++ file_of stem n ∷ []) (sym last) ∙ (sym (rotated_more stem first (number - first)) ∙ ap (rotated_files stem first) count) in
    subst (λ (l : List Listed). AddsSpans places before now l old new) files (adds_then places before mid now (rotated_files stem first (number - first)) (file_of stem number ∷ []) old held new begins later so_far (adds_one places mid now (file_of stem number) held new adds))

pub rotated_stops : (places : Places) (before mid now : Option Folder) (stem : List ℕ) (there : BTreeSet ℕ) (first last number : ℕ) (old held : List Span) (fault : SpanFault) → first ≤ number → number ≤ last → ((other : ℕ) → first ≤ other → other < number → Has there other) → OnlyGrow mid now → AddsSpans places before mid (rotated_files stem first (number - first)) old held → StopsNumber places now (length held) stem there number fault
    → StopsRotated places before now old stem there first last fault
rotated_stops places before mid now stem there first last number old held fault low high has later so_far stops = record {
  number = number;
  low = low;
  high = high;
  before_it = has;
  spans = held;
  adds = adds_later places before mid now (rotated_files stem first (number - first)) old held later so_far;
  stops = stops;
}

rotated_split : (stem : List ℕ) (first a b : ℕ) → rotated_files stem first (a + b) ≡ rotated_files stem first a ++ rotated_files stem (first + a) b
rotated_split stem first zero b =
    let same : first ≡ first + 0 = omega arith in
    let count : 0 + b ≡ b = omega arith in
    λ i. rotated_files stem (same i) (count i)
rotated_split stem first (suc a) b =
    let next : first + 1 + a ≡ first + suc a = omega arith in
    let count : suc a + b ≡ suc (a + b) = omega arith in
    ap (rotated_files stem first) count ∙ ap (λ (t : List Listed). file_of stem first ∷ t) (rotated_split stem (first + 1) a b ∙ ap (λ (n : ℕ). rotated_files stem (first + 1) a ++ rotated_files stem n b) next)

-- a range, with a number in it
rotated_at : (stem : List ℕ) (first number last : ℕ) → first ≤ number → number ≤ last → rotated_files stem first (last + 1 - first) ≡ rotated_files stem first (number - first) ++ file_of stem number ∷ rotated_files stem (number + 1) (last - number)
rotated_at stem first number last low high =
    let count : last + 1 - first ≡ (number - first) + suc (last - number) = omega (arith, low, high) in
    let at : first + (number - first) ≡ number = omega (arith, low) in
    ap (rotated_files stem first) count ∙ (rotated_split stem first (number - first) (suc (last - number)) ∙ ap (λ (n : ℕ). rotated_files stem first (number - first) ++ rotated_files stem n (suc (last - number))) at)

-- the stem's own file
live_by : (folder : Folder) (stem : List ℕ) (number : ℕ) (live : Bool) (file : Option (List ℕ)) → folder stem ≡ file → IsLiveAs folder stem live → live_part live stem number ≡ live_files file stem number
live_by folder stem number true None same is = absurd (false≢true (ap (λ (f : Option (List ℕ)). is_some f) (sym same) ∙ is))
live_by folder stem number true (Some bytes) same is = refl
live_by folder stem number false None same is = refl
live_by folder stem number false (Some bytes) same is = absurd (let e : Some bytes ≡ None = sym same ∙ is in cc)

newest_of : (folder : Folder) (stem : List ℕ) (there : BTreeSet ℕ) (newest : ℕ) → AreThere folder stem there → IsLast there newest → IsNewest folder stem newest
newest_of folder stem there newest are last = record { there = λ some. (are newest).0 (last.there some); newest = λ other at. last.last other ((are other).1 at) }

oldest_of : (folder : Folder) (stem : List ℕ) (there : BTreeSet ℕ) (first : ℕ) → AreThere folder stem there → IsLeast there first → IsOldest folder stem first
oldest_of folder stem there first are least = record {
  some = ⊎_elim (λ none. omega (arith, none.1)) (λ has. ((are first).0 has).0) least.there;
  there = ⊎_elim (λ none. inl ((λ number at. none.0 number ((are number).1 at)), none.1)) (λ has. inr ((are first).0 has)) least.there;
  oldest = λ other at. least.least other ((are other).1 at);
}

first_is : (folder : Folder) (entries : List Entry) (stem : List ℕ) (there : BTreeSet ℕ) (known : Option ℕ) (first : ℕ) → AreThere folder stem there → IsKnownAs entries stem known → IsFirstOf there known first → IsFirst folder entries stem first
first_is folder entries stem there None first are knows is = inr (knows, oldest_of folder stem there first are is)
first_is folder entries stem there (Some number) first are knows is = inl (subst (λ (n : ℕ). IsGreatest entries stem n) (sym is) knows)

-- what is read of a stem, as the folder and the entries say
abbrev pub files_of : List ℕ → Bool → ℕ → ℕ → List Listed
files_of stem live first newest = rotated_files stem first (newest + 1 - first) ++ live_part live stem (max (newest + 1) first)

wants_of : (folder : Folder) (entries : List Entry) (stem : List ℕ) (there : BTreeSet ℕ) (live : Bool) (known : Option ℕ) (first newest : ℕ) → AreThere folder stem there → IsLiveAs folder stem live → IsKnownAs entries stem known → IsFirstOf there known first → IsLast there newest
    → Wants folder entries stem (files_of stem live first newest)
wants_of folder entries stem there live known first newest are is_live knows is_first last = record {
  first = first;
  is_first = first_is folder entries stem there known first are knows is_first;
  newest = newest;
  is_newest = newest_of folder stem there newest are last;
  files_are = ap (λ (t : List Listed). rotated_files stem first (newest + 1 - first) ++ t) (live_by folder stem (max (newest + 1) first) live (folder stem) refl is_live);
}

some_file : (folder : Folder) (stem : List ℕ) (live : Bool) (first newest : ℕ) → IsLiveAs folder stem live → (live ≡ true) ⊎ (first ≤ newest) → (first ≤ newest) ⊎ IsSome (folder stem)
some_file folder stem true first newest is some = inr is
some_file folder stem false first newest is some = ⊎_elim (λ e. absurd (false≢true e)) (λ low. inl low) some

pub lists_of : (there : BTreeSet ℕ) (live : Bool) (known : Option ℕ) (stem : List ℕ) (first newest : ℕ) → IsFirstOf there known first → IsLast there newest → HasAll there first newest → (live ≡ true) ⊎ (first ≤ newest)
    → (folder : Folder) (entries : List Entry) → AreThere folder stem there → IsLiveAs folder stem live → IsKnownAs entries stem known → ListsStem folder entries stem (files_of stem live first newest)
unfolding wants_of
lists_of there live known stem first newest is_first last all some = λ folder entries are is_live knows.
    let wants = wants_of folder entries stem there live known first newest are is_live knows is_first last in
    record {
      first = first;
      is_first = wants.is_first;
      newest = newest;
      is_newest = wants.is_newest;
      there = λ number low high. (are number).0 (all number low high);
      some = some_file folder stem live first newest is_live some;
      listed_are = wants.files_are;
    }

wants_told : (start : Option Folder) (entries : List Entry) (stem : List ℕ) (there : BTreeSet ℕ) (live : Bool) (known : Option ℕ) (first newest : ℕ) → Told start (λ folder. AreThere folder stem there) → Told start (λ folder. IsLiveAs folder stem live) → IsKnownAs entries stem known → IsFirstOf there known first → IsLast there newest
    → Told start (λ folder. Wants folder entries stem (files_of stem live first newest))
wants_told None entries stem there live known first newest are is_live knows is_first last = tt
wants_told (Some folder) entries stem there live known first newest are is_live knows is_first last = wants_of folder entries stem there live known first newest are is_live knows is_first last

there_told : (start : Option Folder) (stem : List ℕ) (there : BTreeSet ℕ) (number : ℕ) → Told start (λ folder. AreThere folder stem there) → contains nat_cmp there number ≡ true → Told start (λ folder. IsSome (folder (generation_name stem number)))
there_told None stem there number are has = tt
there_told (Some folder) stem there number are has = ((are number).0 has).2

gone_told : (start : Option Folder) (stem : List ℕ) (there : BTreeSet ℕ) (number : ℕ) → Told start (λ folder. AreThere folder stem there) → contains nat_cmp there number ≡ false → Told start (λ folder. IsThereAt folder stem number → ⊥)
gone_told None stem there number are missing = tt
gone_told (Some folder) stem there number are missing = λ at. false≢true (sym missing ∙ (are number).1 at)

live_told : (start : Option Folder) (stem : List ℕ) (live : Bool) → live ≡ true → Told start (λ folder. IsLiveAs folder stem live) → Told start (λ folder. IsSome (folder stem))
live_told None stem live e is = tt
live_told (Some folder) stem live e is = subst (λ (b : Bool). IsLiveAs folder stem b) e is

-- rotated files of numbers that are there
here_at : (folder : Folder) (stem : List ℕ) (there : BTreeSet ℕ) (first count : ℕ) → AreThere folder stem there → ((other : ℕ) → first ≤ other → other < first + count → contains nat_cmp there other ≡ true) → AreHere folder (rotated_files stem first count)
here_at folder stem there first zero are has = tt
here_at folder stem there first (suc count) are has = (((are first).0 (has first (omega arith) (omega arith))).2, here_at folder stem there (first + 1) count are (λ other from below. has other (omega (arith, from)) (omega (arith, below))))

here_told : (start : Option Folder) (stem : List ℕ) (there : BTreeSet ℕ) (first count : ℕ) → Told start (λ folder. AreThere folder stem there) → ((other : ℕ) → first ≤ other → other < first + count → contains nat_cmp there other ≡ true) → Told start (λ folder. AreHere folder (rotated_files stem first count))
here_told None stem there first count are has = tt
here_told (Some folder) stem there first count are has = here_at folder stem there first count are has

-- a wanted file that stops the list
wanted : (places : Places) (entries : List Entry) (start before now : Option Folder) (reached : List (List ℕ)) (stem : List ℕ) (old held : List Span) (files front : List Listed) (file : Listed) (back : List Listed) (fault : SpanFault) → OnlyGrow start before → is_among reached stem ≡ false → Told start (λ folder. Wants folder entries stem files) → files ≡ front ++ file ∷ back → Told start (λ folder. AreHere folder front) → AddsSpans places before now front old held
    → StopsWanted places start now (length old + length front) stem file fault → StopsGeneration places entries start now reached (length old) stem fault
unfolding adds_earlier
wanted places entries start before now reached stem old held files front file back fault begins new wants split here adds stops = record {
  new = new;
  files = files;
  wants = wants;
  front = front;
  file = file;
  back = back;
  split = split;
  there = here;
  spans = adds.more;
  fine = (adds_earlier places start before now front old held begins adds).each;
  stops = stops;
}

held_count : (places : Places) (before now : Option Folder) (front : List Listed) (old held : List Span) → AddsSpans places before now front old held → length held ≡ length old + length front
held_count places before now front old held adds =
    let size = zip_length places before now front adds.more adds.each in
    omega (arith, ap length adds.added, length-append old adds.more, size)

-- behind as many logs
counted : (places : Places) (before now later : Option Folder) (front : List Listed) (old held : List Span) (file : Listed) (fault : SpanFault) → AddsSpans places before now front old held → StopsFile places later (length held) file fault → StopsFile places later (length old + length front) file fault
counted places before now later front old held file fault adds stops = subst (λ (n : ℕ). StopsFile places later n file fault) (held_count places before now front old held adds) stops

-- why a file that is wanted has none
file_stops : (places : Places) (entries : List Entry) (start before now : Option Folder) (reached : List (List ℕ)) (stem : List ℕ) (old held : List Span) (files front : List Listed) (file : Listed) (back : List Listed) (fault : SpanFault) → OnlyGrow start before → OnlyGrow start now → is_among reached stem ≡ false → Told start (λ folder. Wants folder entries stem files) → files ≡ front ++ file ∷ back → Told start (λ folder. AreHere folder front) → AddsSpans places before now front old held
    → Told start (λ folder. IsSome (folder file.name)) → StopsListed places now (length held) file fault → StopsStem places entries start now reached (length old) stem fault
file_stops places entries start before now reached stem old held files front file back (F.NoSuchLog name) begins grow new wants split here adds there stops = inr (untold start now file.name grow there stops.1.1)
file_stops places entries start before now reached stem old held files front file back (F.LostLog other number) begins grow new wants split here adds there stops = absurd stops
file_stops places entries start before now reached stem old held files front file back (F.Shrunk name kept found) begins grow new wants split here adds there stops = wanted places entries start before now reached stem old held files front file back (F.Shrunk name kept found) begins new wants split here adds ((there, stops.0), counted places before now now front old held file (F.Shrunk name kept found) adds stops.1)
file_stops places entries start before now reached stem old held files front file back (F.InputChanged kept given) begins grow new wants split here adds there stops = absurd stops
file_stops places entries start before now reached stem old held files front file back F.TooManyLogs begins grow new wants split here adds there stops = wanted places entries start before now reached stem old held files front file back F.TooManyLogs begins new wants split here adds ((there, stops.0), counted places before now now front old held file F.TooManyLogs adds stops.1)
file_stops places entries start before now reached stem old held files front file back F.LogsFault begins grow new wants split here adds there stops = tt
file_stops places entries start before now reached stem old held files front file back (F.BadName fault) begins grow new wants split here adds there stops = inr (wanted places entries start before now reached stem old held files front file back (F.BadName fault) begins new wants split here adds (there, stops))
file_stops places entries start before now reached stem old held files front file back F.Memory begins grow new wants split here adds there stops = tt

-- a range stops at a number
pub range_stops : (places : Places) (entries : List Entry) (start before now : Option Folder) (reached : List (List ℕ)) (stem : List ℕ) (old : List Span) (there : BTreeSet ℕ) (live : Bool) (known : Option ℕ) (first newest : ℕ) (fault : SpanFault) → OnlyGrow start before → OnlyGrow start now → is_among reached stem ≡ false → Told start (λ folder. AreThere folder stem there) → Told start (λ folder. IsLiveAs folder stem live) → IsKnownAs entries stem known → IsFirstOf there known first → IsLast there newest
    → StopsRotated places before now old stem there first newest fault → StopsStem places entries start now reached (length old) stem fault
range_stops places entries start before now reached stem old there live known first newest fault begins grow new are is_live knows is_first last s =
    let wants = wants_told start entries stem there live known first newest are is_live knows is_first last in
    let front = rotated_files stem first (s.number - first) in
    let rest = rotated_files stem (s.number + 1) (newest - s.number) in
    let low = s.low in
    let here = here_told start stem there first (s.number - first) are (λ other from below. s.before_it other from (omega (arith, low, below))) in
    let own = live_part live stem (max (newest + 1) first) in
    let split : files_of stem live first newest ≡ front ++ file_of stem s.number ∷ (rest ++ own) =
    ap (λ (t : List Listed). t ++ own) (rotated_at stem first s.number newest s.low s.high) ∙ append_assoc front (file_of stem s.number ∷ rest) own in
    ⊎_elim
    (λ lost. subst (λ (f : SpanFault). StopsStem places entries start now reached (length old) stem f) (sym lost.0)
    (inr (wanted places entries start before now reached stem old s.spans (files_of stem live first newest) front (file_of stem s.number) (rest ++ own) (F.LostLog stem s.number) begins new wants split here s.adds (refl, record { name_is = refl; gone = gone_told start stem there s.number are lost.1 }))))
    (λ found. file_stops places entries start before now reached stem old s.spans (files_of stem live first newest) front (file_of stem s.number) (rest ++ own) fault begins grow new wants split here s.adds (there_told start stem there s.number are found.0) found.1)
    s.stops

-- the stem's own file stops it
pub live_stops : (places : Places) (entries : List Entry) (start before mid now : Option Folder) (reached : List (List ℕ)) (stem : List ℕ) (old held : List Span) (there : BTreeSet ℕ) (live : Bool) (known : Option ℕ) (first newest own : ℕ) (fault : SpanFault) → own ≡ max (newest + 1) first → OnlyGrow start before → OnlyGrow mid now → OnlyGrow start now → is_among reached stem ≡ false → Told start (λ folder. AreThere folder stem there) → Told start (λ folder. IsLiveAs folder stem live) → IsKnownAs entries stem known → IsFirstOf there known first → IsLast there newest → HasAll there first newest
    → AddsSpans places before mid (rotated_files stem first (newest + 1 - first)) old held → live ≡ true → StopsListed places now (length held) (live_file stem own) fault → StopsStem places entries start now reached (length old) stem fault
live_stops places entries start before mid now reached stem old held there live known first newest own fault number begins later grow new are is_live knows is_first last all adds e stops =
    let wants = wants_told start entries stem there live known first newest are is_live knows is_first last in
    let front = rotated_files stem first (newest + 1 - first) in
    let here = here_told start stem there first (newest + 1 - first) are (λ other from below. all other from (omega (arith, from, below))) in
    let split : files_of stem live first newest ≡ front ++ live_file stem (max (newest + 1) first) ∷ [] = ap (λ (b : Bool). front ++ live_part b stem (max (newest + 1) first)) e in
    file_stops places entries start before now reached stem old held (files_of stem live first newest) front (live_file stem (max (newest + 1) first)) [] fault begins grow new wants split here (adds_later places before mid now front old held later adds) (live_told start stem live e is_live) (subst (λ (n : ℕ). StopsListed places now (length held) (live_file stem n) fault) number stops)

-- nothing of a stem is there
older_of : (there : BTreeSet ℕ) (first newest : ℕ) → IsLast there newest → newest < first → (other : ℕ) → contains nat_cmp there other ≡ true → other < first
older_of there first newest last low other has = let high = last.last other has in omega (arith, high, low)

pub behind_told : (start : Option Folder) (entries : List Entry) (stem : List ℕ) (there : BTreeSet ℕ) (live : Bool) (number first newest : ℕ) → live ≡ false → newest < first → first ≡ number → Told start (λ folder. AreThere folder stem there) → Told start (λ folder. IsLiveAs folder stem live) → IsGreatest entries stem number → IsLast there newest → Told start (IsBehind entries stem number)
behind_told None entries stem there live number first newest off low same are is_live knows last = tt
behind_told (Some folder) entries stem there live number first newest off low same are is_live knows last = record {
  greatest = knows;
  older = λ other at. let less = older_of there first newest last low other ((are other).1 at) in omega (arith, less, same);
  gone = subst (λ (b : Bool). IsLiveAs folder stem b) off is_live;
}

none_least : (there : BTreeSet ℕ) (first newest : ℕ) → IsLeast there first → IsLast there newest → newest < first → (other : ℕ) → contains nat_cmp there other ≡ true → ⊥
none_least there first newest least last low other has =
    let high = last.last other has in
    let least_is = least.least other has in
    omega (arith, high, least_is, low)

pub none_told : (start : Option Folder) (entries : List Entry) (stem : List ℕ) (there : BTreeSet ℕ) (live : Bool) (first newest : ℕ) → live ≡ false → newest < first → Told start (λ folder. AreThere folder stem there) → Told start (λ folder. IsLiveAs folder stem live) → IsKnownAs entries stem None → IsLeast there first → IsLast there newest → Told start (HasNone entries stem)
none_told None entries stem there live first newest off low are is_live knows least last = tt
none_told (Some folder) entries stem there live first newest off low are is_live knows least last = record {
  unknown = knows;
  none = λ number at. none_least there first newest least last low number ((are number).1 at);
  gone = subst (λ (b : Bool). IsLiveAs folder stem b) off is_live;
}

-- one number more is there
pub there_more : (there : BTreeSet ℕ) (first number : ℕ) → ((other : ℕ) → first ≤ other → other < number → Has there other) → Has there number → (other : ℕ) → first ≤ other → other < number + 1 → Has there other
there_more there first number before has = λ other low less. ⊎_elim
    (λ e. subst (λ (n : ℕ). Has there n) (sym e) has)
    (λ more. ⊎_elim (λ lt. before other low lt) (λ gt. absurd (omega (arith, gt, less))) more)
    (cases_order other number)

-- no other text is told by a range or by a file
pub other_listed : (places : Places) (now : Option Folder) (count : ℕ) (file : Listed) (fault : SpanFault) → StopsListed places now count file fault → IsOther fault
other_listed places now count file (F.NoSuchLog name) s = tt
other_listed places now count file (F.LostLog stem number) s = tt
other_listed places now count file (F.Shrunk name kept found) s = tt
other_listed places now count file (F.InputChanged kept given) s = s
other_listed places now count file F.TooManyLogs s = tt
other_listed places now count file F.LogsFault s = tt
other_listed places now count file (F.BadName fault) s = tt
other_listed places now count file F.Memory s = tt

pub other_rotated : (places : Places) (before now : Option Folder) (old : List Span) (stem : List ℕ) (there : BTreeSet ℕ) (first last : ℕ) (fault : SpanFault) → StopsRotated places before now old stem there first last fault → IsOther fault
other_rotated places before now old stem there first last fault s = ⊎_elim
    (λ lost. subst IsOther (sym lost.0) tt)
    (λ found. other_listed places now (length s.spans) (file_of stem s.number) fault found.1)
    s.stops

told_lists : (start : Option Folder) (entries : List Entry) (stem : List ℕ) (there : BTreeSet ℕ) (live : Bool) (known : Option ℕ) (files : List Listed) → Told start (λ folder. AreThere folder stem there) → Told start (λ folder. IsLiveAs folder stem live) → IsKnownAs entries stem known
    → ((folder : Folder) (entries : List Entry) → AreThere folder stem there → IsLiveAs folder stem live → IsKnownAs entries stem known → ListsStem folder entries stem files) → Told start (λ folder. ListsStem folder entries stem files)
told_lists None entries stem there live known files are is_live knows lists = tt
told_lists (Some folder) entries stem there live known files are is_live knows lists = lists folder entries are is_live knows

-- the files of a stem, as the folder at the start of a call has them
pub adds_stem : (places : Places) (before mid now : Option Folder) (stem : List ℕ) (there : BTreeSet ℕ) (live : Bool) (known : Option ℕ) (old new : List Span) → OnlyGrow before mid → Told before (λ folder. IsLiveAs folder stem live) → Told before (λ folder. AreThere folder stem there) → ((entries : List Entry) → Tells entries places → IsKnownAs entries stem known)
    → AddsFiles places mid now stem there live known old new → AddsStem places before now stem old new
adds_stem places before mid now stem there live known old new grow is_live are knows adds = record {
  files = adds.files;
  lists = λ start entries begins tells. told_lists start entries stem there live known adds.files (there_back start before stem there begins are) (live_back start before stem live begins is_live) (knows entries tells) adds.lists;
  adds = adds_earlier places before mid now adds.files old new grow adds.adds;
}
