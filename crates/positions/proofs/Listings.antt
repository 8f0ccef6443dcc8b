-- What is read of all texts.
use Rattle.std.proofs.Common.{◌≡◌, ◌⊎◌, ℕ, ◌+◌, ◌<◌, ◌≤◌, Bool, true, false, not, cond, List, [], ◌∷◌, ◌++◌, length, take, drop, get_or, map, Option, Some, None, Result, Ok, Err, IfOk, IfErr, IsSome, refl, sym, ◌∙◌, ap, subst, inl, inr, ⊎_elim, append_assoc}
use Rattle.std.specs.Prelude.{if◌then◌else◌}
use Rattle.std.specs.List.{AllZip, AllByRecursion}
use Rattle.std.specs.BTreeSet.{BTreeSet, contains}
use Rattle.std.specs.Ordering.{nat_cmp, is_eq}
use Rattle.std.specs.Cmp.Lexicographic.{slice_cmp}
use Rattle.std.proofs.lemmas.Bool.{false≢true, not-true}
use Rattle.std.proofs.lemmas.List.{append-nil, take_more, take-append-drop, drop_more}
use Rattle.std.proofs.lemmas.Slice.Eq.{bytes_eq-Decides}
use Rattle.lp_model.specs.Outside.{Folder, OnlyGrow, Told}
use Rattle.lp_model.specs.Complete.{IsAmong}
use Rattle.ledger_model.specs.Entries.{Entry}
use Rattle.ledger_model.specs.Entries.{Span as EntrySpan}
use Rattle.run_model.specs.Logs.{Rotation, names, numbers, generation_name}
use Rattle.run_model.specs.Kept.{spans_of, is_of, HasSpan, Knows}
use Rattle.run_model.specs.Listed.{Listed, ListsStem, joined}
use Rattle.run_model.specs.Listed.{Lists as ListsFiles}
use Rattle.generations.specs.Files.{IsKnownAs}
use Rattle.log_listing.specs.Firsts.{firsts, with_name, is_among}
use Rattle.log_listing.specs.Firsts.{Knows as KnowsNames}
use Rattle.log_listing.specs.Listed.{Lists, Adds}
use Rattle.log_listing.proofs.FirstNames.{knows_more, firsts_push, with_name-there, with_name-new}
use Rattle.log_listing.proofs.Grown.{lists_more}
use Rattle.log_reading.specs.declared.span.Span.{Span}
use Rattle.positions.specs.declared.place.Place.{Place}
use Rattle.positions.specs.declared.spans.SpanFault.{SpanFault}
use Rattle.positions.specs.declared.spans.SpanFault.TheVariants as F
use Rattle.positions.specs.Places.{Places, Kept, last_from, last_of, IsPlaceOf, place_in}
use Rattle.positions.specs.Spans.{IsSpanOf, AddsSpans, Agrees}
use Rattle.positions.specs.Spanning.{plain_file, IsStem, AreOf, AreSpansOf, StopsName, StopsStem, Stops, IsStopped, IsJudged}
use Rattle.positions.specs.SpanSteps.{identities_of, ArePlain, StopsNames, IsKept, IsKnownIn, Tells, AddsStem, AreStemSpans, AddsText, StopsStems, IsOther}
use Rattle.positions.proofs.Adding.{all_later}
use Rattle.positions.proofs.Backward.{adds_back}
use Rattle.positions.proofs.PlainSpans.{plain_zip, plain_later}
use Rattle.positions.proofs.StemSpans.{adds_then}

told_all : {T : Type 0} (told : Option T) (P : T → Type 0) → ((x : T) → P x) → Told told P
told_all None P all = tt
told_all (Some x) P all = all x

told_map : {T : Type 0} (told : Option T) (P Q : T → Type 0) → ((x : T) → P x → Q x) → Told told P → Told told Q
told_map None P Q f is = tt
told_map (Some x) P Q f is = f x is

-- a fault of the texts is one of the call
is_stopped : (rotation : Rotation) (places : Places) (entries : List Entry) (texts : List (List ℕ)) (before now : Option Folder) (fault : SpanFault) → Stops rotation places entries texts before now fault → IsStopped rotation places entries texts before now fault
is_stopped rotation places entries texts before now (F.NoSuchLog name) s = s
is_stopped rotation places entries texts before now (F.LostLog stem number) s = s
is_stopped rotation places entries texts before now (F.Shrunk name kept found) s = s
is_stopped rotation places entries texts before now (F.InputChanged kept given) s = tt
is_stopped rotation places entries texts before now F.TooManyLogs s = s
is_stopped rotation places entries texts before now F.LogsFault s = tt
is_stopped rotation places entries texts before now (F.BadName fault) s = s
is_stopped rotation places entries texts before now F.Memory s = tt

-- under names
pub names_listed : (places : Places) (entries : List Entry) (texts : List (List ℕ)) (before now : Option Folder) (spans : List Span) → Lists before texts (identities_of spans) → ArePlain places before now spans → length spans ≤ 100000 → AreSpansOf names places entries texts before now spans
names_listed places entries texts before now spans lists plain few = record {
  reached = identities_of spans;
  reaches = lists;
  files = map plain_file (identities_of spans);
  lists = told_all before (λ folder. ListsFiles names folder entries (identities_of spans) (map plain_file (identities_of spans))) (λ folder. refl);
  each = plain_zip places before now spans plain;
  few = few;
}

pub names_stopped : (places : Places) (entries : List Entry) (texts : List (List ℕ)) (before now : Option Folder) (fault : SpanFault) → StopsNames places before now texts fault → IsStopped names places entries texts before now fault
unfolding names_listed
names_stopped places entries texts before now fault s = is_stopped names places entries texts before now fault (record {
  front = s.front;
  text = s.text;
  back = s.back;
  split = s.split;
  spans = s.spans;
  fine = names_listed places entries s.front before now s.spans s.lists s.plain s.few;
  stops = s.stops;
})

-- under numbers
stems_listed : (places : Places) (entries : List Entry) (texts : List (List ℕ)) (before now : Option Folder) (spans : List Span) → AreStemSpans places entries texts before now spans → length spans ≤ 100000 → AreSpansOf numbers places entries texts before now spans
stems_listed places entries texts before now spans s few = record {
  reached = firsts texts;
  reaches = (s.stems, refl);
  files = joined s.files;
  lists = told_map before (λ folder. AllZip (ListsStem folder entries) (firsts texts) s.files) (λ folder. ListsFiles numbers folder entries (firsts texts) (joined s.files)) (λ folder all. (s.files, all, refl)) s.lists;
  each = s.each;
  few = few;
}

tells_of : (entries : List Entry) (kept : Kept) → AreOf numbers entries kept → Tells entries kept.places
tells_of entries kept are = record { remembers = are.keeps.places; numbered = are.numbered }

pub stems_are : (entries : List Entry) (kept : Kept) (texts : List (List ℕ)) (before now : Option Folder) (spans : List Span) → ((entries : List Entry) → Tells entries kept.places → AreStemSpans kept.places entries texts before now spans) → length spans ≤ 100000 → AreOf numbers entries kept → AreSpansOf numbers kept.places entries texts before now spans
stems_are entries kept texts before now spans all few are = stems_listed kept.places entries texts before now spans (all entries (tells_of entries kept are)) few

pub stems_stopped : (entries : List Entry) (kept : Kept) (texts : List (List ℕ)) (before now : Option Folder) (fault : SpanFault) → StopsStems kept.places before now texts fault → AreOf numbers entries kept → IsStopped numbers kept.places entries texts before now fault
unfolding stems_listed
stems_stopped entries kept texts before now fault s are =
    let tells = tells_of entries kept are in
    is_stopped numbers kept.places entries texts before now fault (record {
      front = s.front;
      text = s.text;
      back = s.back;
      split = s.split;
      spans = s.spans;
      fine = stems_listed kept.places entries s.front before now s.spans (s.fine entries tells) s.few;
      stops = s.stops entries tells;
    })

-- a turn of the loop over names
pub names_turn : (start before : Option Folder) (texts : List (List ℕ)) (i : ℕ) (text shown : List ℕ) (reached more : List (List ℕ)) → i < length texts → text ≡ get_or texts i text → shown ≡ text → OnlyGrow start before → Lists start (take i texts) reached → Adds before shown reached more → Lists start (take (i + 1) texts) more
names_turn start before texts i text shown reached more within is same grow so_far adds =
    let grown : take (i + 1) texts ≡ take i texts ++ shown ∷ [] = take_more texts i text within ∙ ap (λ t. take i texts ++ t ∷ []) (sym (same ∙ is)) in
    subst (λ (ts : List (List ℕ)). Lists start ts more) (sym grown) (lists_more start (take i texts) shown reached more so_far (adds_back start before shown reached more grow adds))

-- texts at a turn
pub text_split : (texts : List (List ℕ)) (i : ℕ) (text shown : List ℕ) → i < length texts → text ≡ get_or texts i text → shown ≡ text → texts ≡ take i texts ++ shown ∷ drop (i + 1) texts
text_split texts i text shown within is same = sym (take-append-drop i texts) ∙ ap (λ t. take i texts ++ t) (drop_more texts i text within ∙ ap (λ t. t ∷ drop (i + 1) texts) (sym (same ∙ is)))

pub text_more : (texts : List (List ℕ)) (i : ℕ) (text shown : List ℕ) → i < length texts → text ≡ get_or texts i text → shown ≡ text → take i texts ++ shown ∷ [] ≡ take (i + 1) texts
text_more texts i text shown within is same = sym (take_more texts i text within ∙ ap (λ t. take i texts ++ t ∷ []) (sym (same ∙ is)))

-- a name stops the list at a turn
pub stops_at_name : (places : Places) (before mid now : Option Folder) (texts : List (List ℕ)) (i : ℕ) (text shown : List ℕ) (spans : List Span) (fault : SpanFault) → i < length texts → text ≡ get_or texts i text → shown ≡ text → OnlyGrow mid now → Lists before (take i texts) (identities_of spans) → ArePlain places before mid spans → length spans ≤ 100000
    → StopsName places before now (identities_of spans) shown fault → StopsNames places before now texts fault
stops_at_name places before mid now texts i text shown spans fault within is same grow lists plain few stops = record {
  front = take i texts;
  text = shown;
  back = drop (i + 1) texts;
  split = text_split texts i text shown within is same;
  spans = spans;
  lists = lists;
  plain = plain_later places before mid now spans grow plain;
  few = few;
  stops = stops;
}

-- one text more
stems_snoc : (texts : List (List ℕ)) (text : List ℕ) → AllByRecursion IsStem texts → IsStem text → AllByRecursion IsStem (texts ++ text ∷ [])
stems_snoc [] text all is = (is, tt)
stems_snoc (t ∷ texts) text all is = (all.0, stems_snoc texts text all.1 is)

zip_snoc : (folder : Folder) (entries : List Entry) (stems : List (List ℕ)) (files : List (List Listed)) (stem : List ℕ) (more : List Listed) → AllZip (ListsStem folder entries) stems files → ListsStem folder entries stem more → AllZip (ListsStem folder entries) (stems ++ stem ∷ []) (files ++ more ∷ [])
zip_snoc folder entries [] [] stem more all is = (is, tt)
zip_snoc folder entries [] (f ∷ files) stem more all is = absurd all
zip_snoc folder entries (s ∷ stems) [] stem more all is = absurd all
zip_snoc folder entries (s ∷ stems) (f ∷ files) stem more all is = (all.0, zip_snoc folder entries stems files stem more all.1 is)

told_zip : (told : Option Folder) (entries : List Entry) (stems : List (List ℕ)) (files : List (List Listed)) (stem : List ℕ) (more : List Listed) → Told told (λ folder. AllZip (ListsStem folder entries) stems files) → Told told (λ folder. ListsStem folder entries stem more) → Told told (λ folder. AllZip (ListsStem folder entries) (stems ++ stem ∷ []) (files ++ more ∷ []))
told_zip None entries stems files stem more all is = tt
told_zip (Some folder) entries stems files stem more all is = zip_snoc folder entries stems files stem more all is

joined_push : (files : List (List Listed)) (more : List Listed) → joined (files ++ more ∷ []) ≡ joined files ++ more
joined_push [] more = append-nil more
joined_push (f ∷ files) more = ap (λ t. f ++ t) (joined_push files more) ∙ sym (append_assoc f (joined files) more)

own_spans : (places : Places) (before now : Option Folder) (files : List Listed) (spans : List Span) → AllZip (IsSpanOf places before now) files spans → AddsSpans places before now files [] spans
own_spans places before now files spans each = record { more = spans; added = refl; each = each }

pub stem_added : (places : Places) (entries : List Entry) (texts : List (List ℕ)) (start before now : Option Folder) (text : List ℕ) (old new : List Span) → OnlyGrow start before → OnlyGrow before now → Tells entries places → IsStem text → is_among (firsts texts) text ≡ false → AddsStem places before now text old new → AreStemSpans places entries texts start before old → AreStemSpans places entries (texts ++ text ∷ []) start now new
stem_added places entries texts start before now text old new begins grow tells stem fresh adds s =
    let stems : firsts (texts ++ text ∷ []) ≡ firsts texts ++ text ∷ [] = firsts_push texts text ∙ with_name-new (firsts texts) text fresh in
    let all = adds_then places start before now (joined s.files) adds.files [] old new begins grow (own_spans places start before (joined s.files) old s.each) adds.adds in
    record {
      stems = stems_snoc texts text s.stems stem;
      files = s.files ++ adds.files ∷ [];
      lists = subst (λ (ts : List (List ℕ)). Told start (λ folder. AllZip (ListsStem folder entries) ts (s.files ++ adds.files ∷ []))) (sym stems) (told_zip start entries (firsts texts) s.files text adds.files s.lists (adds.lists start entries begins tells));
      each = subst (λ (fs : List Listed). AllZip (IsSpanOf places start now) fs new) (sym (joined_push s.files adds.files)) (subst (λ (ss : List Span). AllZip (IsSpanOf places start now) (joined s.files ++ adds.files) ss) (sym all.added) all.each);
    }

pub stem_again : (places : Places) (entries : List Entry) (texts : List (List ℕ)) (start before : Option Folder) (text : List ℕ) (old : List Span) → IsStem text → is_among (firsts texts) text ≡ true → AreStemSpans places entries texts start before old → AreStemSpans places entries (texts ++ text ∷ []) start before old
stem_again places entries texts start before text old stem there s =
    let stems : firsts (texts ++ text ∷ []) ≡ firsts texts = firsts_push texts text ∙ with_name-there (firsts texts) text there in
    record {
      stems = stems_snoc texts text s.stems stem;
      files = s.files;
      lists = subst (λ (ts : List (List ℕ)). Told start (λ folder. AllZip (ListsStem folder entries) ts s.files)) (sym stems) s.lists;
      each = s.each;
    }

pub stems_later : (places : Places) (entries : List Entry) (texts : List (List ℕ)) (start mid now : Option Folder) (spans : List Span) → OnlyGrow mid now → AreStemSpans places entries texts start mid spans → AreStemSpans places entries texts start now spans
stems_later places entries texts start mid now spans grow s = record { stems = s.stems; files = s.files; lists = s.lists; each = all_later places start mid now (joined s.files) spans grow s.each }

pub stems_none : (places : Places) (entries : List Entry) (start now : Option Folder) → AreStemSpans places entries [] start now []
stems_none places entries start now = record { stems = tt; files = []; lists = told_all start (λ folder. AllZip (ListsStem folder entries) [] []) (λ folder. tt); each = tt }

-- entries know what places are kept of
some_if : (b : Bool) (span : EntrySpan) (before : Option EntrySpan) → IsSome before → IsSome (if b then Some span else before)
some_if true span before is = refl
some_if false span before is = is

last_some : (identity : List ℕ) (before : Option EntrySpan) (spans : List EntrySpan) → IsSome before → IsSome (last_from identity before spans)
last_some identity before [] is = is
last_some identity before (span ∷ spans) is = last_some identity (if is_of identity span then Some span else before) spans (some_if (is_of identity span) span before is)

same_of : (identity : List ℕ) (span : EntrySpan) → span.identity ≡ identity → is_of identity span ≡ true
same_of identity span e = (bytes_eq-Decides span.identity identity).1 e

last_among : (identity : List ℕ) (before : Option EntrySpan) (spans : List EntrySpan) (span : EntrySpan) → IsAmong span spans → span.identity ≡ identity → IsSome (last_from identity before spans)
last_among identity before [] span among same = absurd among
last_among identity before (other ∷ spans) span among same = ⊎_elim
    (λ e. last_some identity (if is_of identity other then Some other else before) spans (subst (λ (b : Bool). IsSome (if b then Some other else before)) (sym (same_of identity other (ap (λ (s : EntrySpan). s.identity) (sym e) ∙ same))) refl))
    (λ more. last_among identity (if is_of identity other then Some other else before) spans span more same)
    among

-- a span of a log among some, or before them
abbrev HasOne : List ℕ → Option EntrySpan → List EntrySpan → Type 0
HasOne identity before spans = IsSome before ⊎ HasSpan identity spans

has_one_at : (identity : List ℕ) (before : Option EntrySpan) (span : EntrySpan) (spans : List EntrySpan) (b : Bool) → is_of identity span ≡ b → HasOne identity (if b then Some span else before) spans → HasOne identity before (span ∷ spans)
has_one_at identity before span spans true of found = inr (record { span = span; among = inl refl; same = (bytes_eq-Decides span.identity identity).0 of })
has_one_at identity before span spans false of found = ⊎_elim (λ is. inl is) (λ h. inr (record { span = h.span; among = inr h.among; same = h.same })) found

has_one : (identity : List ℕ) (before : Option EntrySpan) (spans : List EntrySpan) → IsSome (last_from identity before spans) → HasOne identity before spans
has_one identity before [] is = inl is
has_one identity before (span ∷ spans) is = has_one_at identity before span spans (is_of identity span) refl (has_one identity (if is_of identity span then Some span else before) spans is)

place_some : (last : Option EntrySpan) (place : Option Place) → IsPlaceOf last place → IsSome last → IsSome place
place_some None place is some = absurd (false≢true some)
place_some (Some span) None is some = absurd is
place_some (Some span) (Some place) is some = refl

last_is : (last : Option EntrySpan) (place : Option Place) → IsPlaceOf last place → IsSome place → IsSome last
last_is last None is some = absurd (false≢true some)
last_is None (Some place) is some = absurd is
last_is (Some span) (Some place) is some = refl

kept_known : (entries : List Entry) (places : Places) (stem : List ℕ) (number : ℕ) → Tells entries places → IsKept places stem number → Knows entries stem number
kept_known entries places stem number tells kept =
    let name = generation_name stem number in
    let last = last_is (last_of name (spans_of entries)) (place_in places name) (tells.remembers.each name) kept.is in
    ⊎_elim (λ none. absurd (false≢true none)) (λ has. has) (has_one name None (spans_of entries) last)

known_kept : (entries : List Entry) (places : Places) (stem : List ℕ) (number : ℕ) → Tells entries places → Knows entries stem number → IsKept places stem number
known_kept entries places stem number tells knows =
    let name = generation_name stem number in
    let bounds = tells.numbered stem number knows in
    record {
      some = bounds.0;
      small = bounds.1;
      is = place_some (last_of name (spans_of entries)) (place_in places name) (tells.remembers.each name) (last_among name None (spans_of entries) knows.span knows.among knows.same);
    }

-- what is the greatest among places is what the entries know as the greatest
pub known_as : (entries : List Entry) (places : Places) (stem : List ℕ) (known : Option ℕ) → Tells entries places → IsKnownIn places stem known → IsKnownAs entries stem known
known_as entries places stem None tells is = λ number knows. is number (known_kept entries places stem number tells knows)
known_as entries places stem (Some number) tells is = record {
  known = kept_known entries places stem number tells is.0;
  greatest = λ other knows. is.1 other (known_kept entries places stem other tells knows);
}

-- what a call under names answers
pub names_ok : (rotation : Rotation) (kept : Kept) (places : Places) (texts : List (List ℕ)) (before now : Option Folder) (r : Result (List Span) SpanFault) → rotation ≡ names → places ≡ kept.places → IfOk r (λ spans. Lists before texts (identities_of spans)) → IfOk r (ArePlain places before now) → IfOk r (λ spans. length spans ≤ 100000)
    → IfOk r (λ spans. (entries : List Entry) → AreOf rotation entries kept → AreSpansOf rotation kept.places entries texts before now spans)
names_ok rotation kept places texts before now (Ok spans) e same lists plain few = λ entries are.
    let listed = names_listed places entries texts before now spans lists plain few in
    subst (λ (rule : Rotation). AreSpansOf rule kept.places entries texts before now spans) (sym e) (subst (λ (ps : Places). AreSpansOf names ps entries texts before now spans) same listed)
names_ok rotation kept places texts before now (Err fault) e same lists plain few = tt

pub names_err : (rotation : Rotation) (kept : Kept) (places : Places) (texts : List (List ℕ)) (before now : Option Folder) (r : Result (List Span) SpanFault) → rotation ≡ names → places ≡ kept.places → IfErr r (StopsNames places before now texts)
    → IfErr r (λ fault. (entries : List Entry) → AreOf rotation entries kept → IsStopped rotation kept.places entries texts before now fault)
names_err rotation kept places texts before now (Ok spans) e same s = tt
names_err rotation kept places texts before now (Err fault) e same s = λ entries are.
    let stopped = names_stopped places entries texts before now fault s in
    subst (λ (rule : Rotation). IsStopped rule kept.places entries texts before now fault) (sym e) (subst (λ (ps : Places). IsStopped names ps entries texts before now fault) same stopped)

-- and under numbers
pub stems_ok : (rotation : Rotation) (kept : Kept) (places : Places) (texts : List (List ℕ)) (before now : Option Folder) (r : Result (List Span) SpanFault) → rotation ≡ numbers → places ≡ kept.places → IfOk r (λ spans. (entries : List Entry) → Tells entries places → AreStemSpans places entries texts before now spans) → IfOk r (λ spans. length spans ≤ 100000)
    → IfOk r (λ spans. (entries : List Entry) → AreOf rotation entries kept → AreSpansOf rotation kept.places entries texts before now spans)
stems_ok rotation kept places texts before now (Ok spans) e same all few = λ entries are.
    let of = subst (λ (ps : Places). (entries : List Entry) → Tells entries ps → AreStemSpans ps entries texts before now spans) same all in
    subst (λ (rule : Rotation). AreSpansOf rule kept.places entries texts before now spans) (sym e) (stems_are entries kept texts before now spans of few (subst (λ (rule : Rotation). AreOf rule entries kept) e are))
stems_ok rotation kept places texts before now (Err fault) e same all few = tt

pub stems_err : (rotation : Rotation) (kept : Kept) (places : Places) (texts : List (List ℕ)) (before now : Option Folder) (r : Result (List Span) SpanFault) → rotation ≡ numbers → places ≡ kept.places → IfErr r (StopsStems places before now texts)
    → IfErr r (λ fault. (entries : List Entry) → AreOf rotation entries kept → IsStopped rotation kept.places entries texts before now fault)
stems_err rotation kept places texts before now (Ok spans) e same s = tt
stems_err rotation kept places texts before now (Err fault) e same s = λ entries are.
    let of = subst (λ (ps : Places). StopsStems ps before now texts fault) same s in
    subst (λ (rule : Rotation). IsStopped rule kept.places entries texts before now fault) (sym e) (stems_stopped entries kept texts before now fault of (subst (λ (rule : Rotation). AreOf rule entries kept) e are))

judged_other : (first : Option (List ℕ)) (input : List ℕ) (fault : SpanFault) → Agrees first input → IsOther fault → IsJudged first input fault
judged_other first input (F.NoSuchLog name) agrees other = agrees
judged_other first input (F.LostLog stem number) agrees other = agrees
judged_other first input (F.Shrunk name kept found) agrees other = agrees
judged_other first input (F.InputChanged kept given) agrees other = absurd other
judged_other first input F.TooManyLogs agrees other = agrees
judged_other first input F.LogsFault agrees other = agrees
judged_other first input (F.BadName fault) agrees other = agrees
judged_other first input F.Memory agrees other = tt

pub judged : (first : Option (List ℕ)) (input : List ℕ) (r : Result (List Span) SpanFault) → Agrees first input → IfErr r IsOther → IfErr r (IsJudged first input)
judged first input (Ok spans) agrees other = tt
judged first input (Err fault) agrees other = judged_other first input fault agrees other

not-false : (b : Bool) → not b ≡ false → b ≡ true
not-false true e = refl
not-false false e = sym e

-- a stem that the set hasn't had, and one that it has
fresh_stem : (seen : BTreeSet (List ℕ)) (texts : List (List ℕ)) (text key : List ℕ) (added : Bool) → key ≡ text → KnowsNames seen (firsts texts) → added ≡ not (contains (slice_cmp nat_cmp) seen key) → added ≡ true → is_among (firsts texts) text ≡ false
fresh_stem seen texts text key added same knows is fresh = sym (knows text) ∙ (ap (contains (slice_cmp nat_cmp) seen) (sym same) ∙ not-true (contains (slice_cmp nat_cmp) seen key) (sym is ∙ fresh))

again_stem : (seen : BTreeSet (List ℕ)) (texts : List (List ℕ)) (text key : List ℕ) (added : Bool) → key ≡ text → KnowsNames seen (firsts texts) → added ≡ not (contains (slice_cmp nat_cmp) seen key) → added ≡ false → is_among (firsts texts) text ≡ true
again_stem seen texts text key added same knows is again = sym (knows text) ∙ (ap (contains (slice_cmp nat_cmp) seen) (sym same) ∙ not-false (contains (slice_cmp nat_cmp) seen key) (sym is ∙ again))

pub text_added : (places : Places) (before now : Option Folder) (text stem key : List ℕ) (seen : BTreeSet (List ℕ)) (added : Bool) (old new : List Span) → OnlyGrow before now → stem ≡ text → key ≡ text → IsStem text → added ≡ not (contains (slice_cmp nat_cmp) seen key) → added ≡ true → AddsStem places before now stem old new → AddsText places before now text seen old new
text_added places before now text stem key seen added old new grow same key_is is more fresh adds = λ start entries texts begins tells knows spans.
    stem_added places entries texts start before now text old new begins grow tells is (fresh_stem seen texts text key added key_is knows more fresh) (subst (λ (s : List ℕ). AddsStem places before now s old new) same adds) spans

pub text_again : (places : Places) (before : Option Folder) (text key : List ℕ) (seen : BTreeSet (List ℕ)) (added : Bool) (old : List Span) → key ≡ text → IsStem text → added ≡ not (contains (slice_cmp nat_cmp) seen key) → added ≡ false → AddsText places before before text seen old old
text_again places before text key seen added old key_is is more again = λ start entries texts begins tells knows spans.
    stem_again places entries texts start before text old is (again_stem seen texts text key added key_is knows more again) spans

-- the set takes the stem
pub knows_text : (old new : BTreeSet (List ℕ)) (texts : List (List ℕ)) (text key : List ℕ) → key ≡ text → ((q : List ℕ) → contains (slice_cmp nat_cmp) new q ≡ cond (is_eq (slice_cmp nat_cmp key q)) true (contains (slice_cmp nat_cmp) old q)) → KnowsNames old (firsts texts) → KnowsNames new (firsts (texts ++ text ∷ []))
knows_text old new texts text key same updates knows = subst (λ (ns : List (List ℕ)). KnowsNames new ns) (ap (with_name (firsts texts)) same ∙ sym (firsts_push texts text)) (knows_more old new (firsts texts) key updates knows)

pub text_fresh : (seen : BTreeSet (List ℕ)) (texts : List (List ℕ)) (text stem key : List ℕ) (added : Bool) → stem ≡ text → key ≡ text → KnowsNames seen (firsts texts) → added ≡ not (contains (slice_cmp nat_cmp) seen key) → added ≡ true → is_among (firsts texts) stem ≡ false
text_fresh seen texts text stem key added same key_is knows more fresh = ap (is_among (firsts texts)) same ∙ fresh_stem seen texts text key added key_is knows more fresh

-- a stem stops the list at a turn
pub stops_at_stem : (places : Places) (before mid now : Option Folder) (texts : List (List ℕ)) (i : ℕ) (text shown : List ℕ) (spans : List Span) (fault : SpanFault) → i < length texts → text ≡ get_or texts i text → shown ≡ text → OnlyGrow mid now → ((entries : List Entry) → Tells entries places → AreStemSpans places entries (take i texts) before mid spans) → length spans ≤ 100000
    → ((entries : List Entry) → Tells entries places → StopsStem places entries before now (firsts (take i texts)) (length spans) shown fault) → StopsStems places before now texts fault
stops_at_stem places before mid now texts i text shown spans fault within is same grow all few stops = record {
  front = take i texts;
  text = shown;
  back = drop (i + 1) texts;
  split = text_split texts i text shown within is same;
  spans = spans;
  few = few;
  fine = λ entries tells. stems_later places entries (take i texts) before mid now spans grow (all entries tells);
  stops = stops;
}
