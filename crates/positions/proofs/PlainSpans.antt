-- Spans of logs that are told apart by their names.
use Rattle.std.proofs.Common.{◌≡◌, ℕ, ◌<◌, ◌+◌, false, List, [], ◌∷◌, ◌++◌, length, take, drop, get_or, map, Option, Some, None, IsSome, Contains, refl, sym, ◌∙◌, ap, subst, inr, arith}
use Rattle.std.specs.List.{AllZip}
use Rattle.std.proofs.lemmas.List.{map-append, take-append-drop, drop_more}
use Rattle.std.proofs.lemmas.List.Elements.{Contains-append_right}
use Rattle.std.proofs.lemmas.List.Sums.{fold_more}
use Rattle.lp_model.specs.Outside.{Folder, OnlyGrow, Told}
use Rattle.lp_model.proofs.Growing.{OnlyGrow-trans}
use Rattle.lp_outside.specs.Matching.{AreMatches}
use Rattle.lp_outside.specs.NameFault.{name_fault}
use Rattle.run_model.specs.Listed.{Listed}
use Rattle.log_listing.specs.Firsts.{with_name, with_names, is_among}
use Rattle.log_listing.specs.Listed.{Gives, IsMissing}
use Rattle.log_reading.specs.declared.span.Span.{Span}
use Rattle.positions.specs.declared.spans.SpanFault.{SpanFault}
use Rattle.positions.specs.declared.spans.SpanFault.TheVariants as F
use Rattle.positions.specs.Places.{Places}
use Rattle.positions.specs.Spans.{IsSpanOf, StopsFile}
use Rattle.positions.specs.Spanning.{plain_file, StopsName, StopsMatch}
use Rattle.positions.specs.SpanSteps.{identities_of, AddsSpan, ArePlain, AddsPlain, StopsAmong}
use Rattle.positions.proofs.Adding.{span_later, span_earlier}
use Rattle.positions.proofs.Backward.{gives_back, missing_back, untold}

pub plain_later : (places : Places) (start mid now : Option Folder) (spans : List Span) → OnlyGrow mid now → ArePlain places start mid spans → ArePlain places start now spans
plain_later places start mid now [] grow all = tt
plain_later places start mid now (span ∷ spans) grow all = (span_later places start mid now (plain_file span.identity) span grow all.0, plain_later places start mid now spans grow all.1)

plain_snoc : (places : Places) (start now : Option Folder) (spans : List Span) (span : Span) → ArePlain places start now spans → IsSpanOf places start now (plain_file span.identity) span → ArePlain places start now (spans ++ span ∷ [])
plain_snoc places start now [] span all is = (is, tt)
plain_snoc places start now (s ∷ spans) span all is = (all.0, plain_snoc places start now spans span all.1 is)

-- a span more
pub adds_plain : (places : Places) (before now : Option Folder) (name : List ℕ) (old new : List Span) → OnlyGrow before now → AddsSpan places before now (plain_file name) old new → AddsPlain places before now old new
adds_plain places before now name old new grow adds = λ start first plain.
    let is = span_earlier places start before now (plain_file name) adds.span first adds.is in
    let own : IsSpanOf places start now (plain_file adds.span.identity) adds.span = subst (λ (n : List ℕ). IsSpanOf places start now (plain_file n) adds.span) (sym is.identity_is) is in
    subst (λ (l : List Span). ArePlain places start now l) (sym adds.added) (plain_snoc places start now old adds.span (plain_later places start before now old grow plain) own)

pub adds_plain_then : (places : Places) (before mid now : Option Folder) (old held new : List Span) → OnlyGrow before mid → AddsPlain places before mid old held → AddsPlain places mid now held new → AddsPlain places before now old new
adds_plain_then places before mid now old held new grow first second = λ start begins plain. second start (OnlyGrow-trans start before mid begins grow) (first start begins plain)

pub adds_plain_later : (places : Places) (before mid now : Option Folder) (old new : List Span) → OnlyGrow mid now → AddsPlain places before mid old new → AddsPlain places before now old new
adds_plain_later places before mid now old new grow first = λ start begins plain. plain_later places start mid now new grow (first start begins plain)

pub identities_more : (places : Places) (before now : Option Folder) (name : List ℕ) (old new : List Span) → AddsSpan places before now (plain_file name) old new → identities_of new ≡ identities_of old ++ name ∷ []
identities_more places before now name old new adds =
    ap identities_of adds.added ∙ (map-append (λ (span : Span). span.identity) old (adds.span ∷ []) ∙ ap (λ (n : List ℕ). identities_of old ++ n ∷ []) adds.is.identity_is)

abbrev pub listed_as : List ℕ → List ℕ → Listed
listed_as name identity = record { name = name; identity = identity }

same_file : (name a b : List ℕ) → a ≡ name → b ≡ name → listed_as a b ≡ plain_file name
same_file name a b one two = λ i. listed_as (one i) (two i)

-- of a file with a log's name twice
pub adds_named : (places : Places) (before now : Option Folder) (name a b : List ℕ) (old new : List Span) → a ≡ name → b ≡ name → AddsSpan places before now (listed_as a b) old new → AddsSpan places before now (plain_file name) old new
adds_named places before now name a b old new one two adds = subst (λ (file : Listed). AddsSpan places before now file old new) (same_file name a b one two) adds

pub adds_plain_earlier : (places : Places) (before mid now : Option Folder) (old new : List Span) → OnlyGrow before mid → AddsPlain places mid now old new → AddsPlain places before now old new
adds_plain_earlier places before mid now old new grow adds = λ start begins plain. adds start (OnlyGrow-trans start before mid begins grow) (plain_later places start before mid old grow plain)

no_names : (found : List (List ℕ)) → length found ≡ 0 → found ≡ []
no_names [] none = refl
no_names (name ∷ found) none = absurd (omega (arith, none))

-- a name that matches no file
pub missing_of : (start now : Option Folder) (text name : List ℕ) (found : List (List ℕ)) → OnlyGrow start now → name_fault text ≡ None → name ≡ text → Told now (λ files. AreMatches files name found) → length found ≡ 0 → IsMissing start text name
missing_of start now text name found grow named same matches none = missing_back start now text name grow (record {
  same = same;
  is_name = named;
  none = subst (λ (names : List (List ℕ)). Told now (λ files. AreMatches files text names)) (no_names found none) (subst (λ (n : List ℕ). Told now (λ files. AreMatches files n found)) same matches);
})

-- a name that matches some
pub gives_of : (start now : Option Folder) (text name : List ℕ) (found : List (List ℕ)) → OnlyGrow start now → name_fault text ≡ None → name ≡ text → Told now (λ files. AreMatches files name found) → 0 < length found → Gives start text found
gives_of start now text name found grow named same matches some = gives_back start now text found grow (record {
  is_name = named;
  matches = subst (λ (n : List ℕ). Told now (λ files. AreMatches files n found)) same matches;
  some = some;
})

-- spans of logs that are their own files
pub plain_zip : (places : Places) (before now : Option Folder) (spans : List Span) → ArePlain places before now spans → AllZip (IsSpanOf places before now) (map plain_file (identities_of spans)) spans
plain_zip places before now [] all = tt
plain_zip places before now (span ∷ spans) all = (all.0, plain_zip places before now spans all.1)

-- a name that a turn of the loop over matches takes
pub names_step : (found : List (List ℕ)) (i : ℕ) (name : List ℕ) (old so_far now : List (List ℕ)) → i < length found → name ≡ get_or found i name → so_far ≡ with_names old (take i found) → now ≡ with_name so_far name → now ≡ with_names old (take (i + 1) found)
names_step found i name old so_far now less at is more =
    more ∙ (ap (λ (ns : List (List ℕ)). with_name ns name) is ∙ (ap (with_name (with_names old (take i found))) at ∙ sym (fold_more with_name old found i name less)))

pub stops_at_match : (places : Places) (before mid now : Option Folder) (old spans : List Span) (found : List (List ℕ)) (i : ℕ) (name : List ℕ) (fault : SpanFault) → i < length found → name ≡ get_or found i name → OnlyGrow mid now → identities_of spans ≡ with_names (identities_of old) (take i found) → AddsPlain places before mid old spans
    → is_among (identities_of spans) name ≡ false → StopsFile places now (length spans) (plain_file name) fault → StopsAmong places before now old found fault
stops_at_match places before mid now old spans found i name fault less at grow all plain new stops = record {
  front = take i found;
  name = name;
  back = drop (i + 1) found;
  split = sym (take-append-drop i found) ∙ ap (λ t. take i found ++ t) (drop_more found i name less ∙ ap (λ t. t ∷ drop (i + 1) found) (sym at));
  spans = spans;
  all = all;
  plain = adds_plain_later places before mid now old spans grow plain;
  new = new;
  stops = stops;
}

match_of : (places : Places) (start before now : Option Folder) (text : List ℕ) (old : List Span) (found : List (List ℕ)) (fault : SpanFault) → OnlyGrow start before → Gives start text found → ArePlain places start before old → StopsAmong places before now old found fault → StopsMatch places start now (identities_of old) text fault
match_of places start before now text old found fault begins gives plain s = record {
  found = found;
  gives = gives;
  front = s.front;
  name = s.name;
  back = s.back;
  split = s.split;
  new = subst (λ (ns : List (List ℕ)). is_among ns s.name ≡ false) s.all s.new;
  spans = s.spans;
  fine = subst (λ (ns : List (List ℕ)). AllZip (IsSpanOf places start now) (map plain_file ns) s.spans) s.all (plain_zip places start now s.spans (s.plain start begins plain));
  stops = s.stops;
}

there_at : (told : Option Folder) (text : List ℕ) (found front : List (List ℕ)) (name : List ℕ) (back : List (List ℕ)) → Gives told text found → found ≡ front ++ name ∷ back → Told told (λ files. IsSome (files name))
there_at None text found front name back gives split = tt
there_at (Some files) text found front name back gives split = ((gives.matches.each name).0 (subst (λ (ns : List (List ℕ)). Contains ns name) (sym split) (Contains-append_right front (name ∷ back) name (0, omega arith, refl)))).0

-- why a name stops the list
pub name_stops : (places : Places) (start before now : Option Folder) (text : List ℕ) (old : List Span) (found : List (List ℕ)) (fault : SpanFault) → OnlyGrow start before → OnlyGrow start now → Gives start text found → ArePlain places start before old → StopsAmong places before now old found fault → StopsName places start now (identities_of old) text fault
name_stops places start before now text old found (F.NoSuchLog name) begins grow gives plain s =
    let there = there_at start text found s.front s.name s.back gives s.split in
    inr (untold start now s.name grow there s.stops.1.1)
name_stops places start before now text old found (F.LostLog stem number) begins grow gives plain s = absurd s.stops
name_stops places start before now text old found (F.Shrunk name kept size) begins grow gives plain s = match_of places start before now text old found (F.Shrunk name kept size) begins gives plain s
name_stops places start before now text old found (F.InputChanged kept given) begins grow gives plain s = absurd s.stops
name_stops places start before now text old found F.TooManyLogs begins grow gives plain s = match_of places start before now text old found F.TooManyLogs begins gives plain s
name_stops places start before now text old found F.LogsFault begins grow gives plain s = tt
name_stops places start before now text old found (F.BadName fault) begins grow gives plain s = absurd s.stops
name_stops places start before now text old found F.Memory begins grow gives plain s = tt
