-- The spans of a run are of different logs.
use Rattle.std.proofs.Common.{◌≡◌, ◌≢◌, ◌⊎◌, ⊎_elim, ℕ, zero, suc, ◌+◌, ◌-◌, ◌<◌, ◌≤◌, Bool, true, false, true≢false, not, List, [], ◌∷◌, ◌++◌, map, filter, Option, Some, None, refl, sym, ◌∙◌, ap, subst, arith, inl, inr}
use Rattle.std.specs.Bool.{⊤}
use Rattle.std.specs.Prelude.{max, bytes_eq}
use Rattle.std.specs.List.{AllZip}
use Rattle.std.proofs.lemmas.Bool.{cases_Bool}
use Rattle.std.proofs.lemmas.Bool.Decides.{nat_tests}
use Rattle.std.proofs.lemmas.Slice.Eq.{bytes_eq-Decides}
use Rattle.ledger_model.specs.Entries.{Entry}
use Rattle.ledger_model.specs.Entries.{Span as EntrySpan}
use Rattle.log_listing.specs.Firsts.{firsts}
use Rattle.log_listing.specs.Firsts.{joined as names_joined}
use Rattle.log_reading.specs.declared.span.Span.{Span}
use Rattle.lp_model.specs.Complete.{IsAmong}
use Rattle.lp_model.specs.Outside.{Folder}
use Rattle.positions.specs.Places.{Places}
use Rattle.positions.specs.Spanning.{AreSpansOf, Reaches}
use Rattle.positions.specs.Spans.{IsSpanOf}
use Rattle.run_model.specs.Kept.{HasSpan}
use Rattle.run_model.specs.Listed.{Listed, ListsStem, rotated_files, live_files, joined, Lists}
use Rattle.run_model.specs.Logs.{Rotation, names, numbers, generation_name}
use Rattle.run_model.specs.Right.{AreApart}
use Rattle.run_model.proofs.Generations.{one_number, one_stem}

-- no name comes again
abbrev pub AreDifferent : List (List ℕ) → Type 0
AreDifferent [] = ⊤
AreDifferent (name ∷ more) = ((other : List ℕ) → IsAmong other more → other ≢ name) × AreDifferent more

-- no two spans are of one log
abbrev pub AreDistinct : List Span → Type 0
AreDistinct [] = ⊤
AreDistinct (span ∷ spans) = ((other : Span) → IsAmong other spans → other.identity ≢ span.identity) × AreDistinct spans

-- no two files are of one log
abbrev pub AreDistinctFiles : List Listed → Type 0
AreDistinctFiles [] = ⊤
AreDistinctFiles (file ∷ files) = ((other : Listed) → IsAmong other files → other.identity ≢ file.identity) × AreDistinctFiles files

-- what is left by a test
among_filtered : (test : List ℕ → Bool) (name : List ℕ) (all : List (List ℕ)) → IsAmong name (filter test all) → IsAmong name all × (test name ≡ true)
among_filtered test name [] among = absurd among
among_filtered test name (n ∷ ns) among = elim (cases_Bool (test n)) [
  | inl kept ↦
      let here : IsAmong name (n ∷ filter test ns) = rw kept at among in
      ⊎_elim (λ e. (inl e, ap test e ∙ kept)) (λ more. let rest = among_filtered test name ns more in (inr rest.0, rest.1)) here
  | inr left ↦ let here : IsAmong name (filter test ns) = rw left at among in let rest = among_filtered test name ns here in (inr rest.0, rest.1)
]

filtered_differ : (test : List ℕ → Bool) (all : List (List ℕ)) → AreDifferent all → AreDifferent (filter test all)
filtered_differ test [] differ = tt
filtered_differ test (n ∷ ns) (none, differ) = elim (cases_Bool (test n)) [
  | inl kept ↦ let both : AreDifferent (n ∷ filter test ns) = ((λ other among. none other (among_filtered test other ns among).0), filtered_differ test ns differ) in rw kept both
  | inr left ↦ rw left (filtered_differ test ns differ)
]

-- names at their first places
pub firsts_differ : (all : List (List ℕ)) → AreDifferent (firsts all)
firsts_differ [] = tt
firsts_differ (name ∷ more) = (other_names, filtered_differ (λ other. not (bytes_eq other name)) (firsts more) (firsts_differ more))
  where
    other_names : (other : List ℕ) → IsAmong other (filter (λ other. not (bytes_eq other name)) (firsts more)) → other ≢ name
    other_names other among same =
        let passes = (among_filtered (λ other. not (bytes_eq other name)) other (firsts more) among).1 in
        let is : bytes_eq other name ≡ true = (bytes_eq-Decides other name).1 same in
        let not_false : false ≡ true = sym (ap not is) ∙ passes in
        true≢false (sym not_false)

plain_among : (file : Listed) (all : List (List ℕ)) → IsAmong file (map (λ name. record { name = name; identity = name }) all) → IsAmong file.identity all
plain_among file [] among = absurd among
plain_among file (n ∷ ns) (inl e) = inl (ap (λ (f : Listed). f.identity) e)
plain_among file (n ∷ ns) (inr more) = inr (plain_among file ns more)

plain_differ : (all : List (List ℕ)) → AreDifferent all → AreDistinctFiles (map (λ name. record { name = name; identity = name }) all)
plain_differ [] differ = tt
plain_differ (n ∷ ns) (none, differ) = ((λ other among. none other.identity (plain_among other ns among)), plain_differ ns differ)

-- a file of a stem, as one of its generations, with a number from one on and before another
pub record IsOfStem (stem : List ℕ) (from to : ℕ) (file : Listed) : Type 0 where
  pub number : ℕ
  pub low : from ≤ number
  pub high : number < to
  pub is : file.identity ≡ generation_name stem number

rotated_among : (stem : List ℕ) (from count : ℕ) (file : Listed) → IsAmong file (rotated_files stem from count) → IsOfStem stem from (from + count) file
rotated_among stem from zero file among = absurd among
rotated_among stem from (suc count) file (inl e) = record { number = from; low = omega arith; high = omega arith; is = ap (λ (f : Listed). f.identity) e }
rotated_among stem from (suc count) file (inr more) =
    let rest = rotated_among stem (from + 1) count file more in
    record { number = rest.number; low = omega (arith, rest.low); high = omega (arith, rest.high); is = rest.is }

rotated_differ : (stem : List ℕ) (from count : ℕ) → AreDistinctFiles (rotated_files stem from count)
rotated_differ stem from zero = tt
rotated_differ stem from (suc count) = (later, rotated_differ stem (from + 1) count)
  where
    later : (other : Listed) → IsAmong other (rotated_files stem (from + 1) count) → other.identity ≢ generation_name stem from
    later other among same =
        let of = rotated_among stem (from + 1) count other among in
        let number : of.number ≡ from = one_number stem of.number from (sym of.is ∙ same) in
        omega (arith, of.low, number)

live_among : (held : Option (List ℕ)) (stem : List ℕ) (number : ℕ) (file : Listed) → IsAmong file (live_files held stem number) → file.identity ≡ generation_name stem number
live_among None stem number file among = absurd among
live_among (Some bytes) stem number file (inl e) = ap (λ (f : Listed). f.identity) e
live_among (Some bytes) stem number file (inr none) = absurd none

live_differ : (held : Option (List ℕ)) (stem : List ℕ) (number : ℕ) → AreDistinctFiles (live_files held stem number)
live_differ None stem number = tt
live_differ (Some bytes) stem number = ((λ other among same. among), tt)

among_either : (file : Listed) (xs ys : List Listed) → IsAmong file (xs ++ ys) → IsAmong file xs ⊎ IsAmong file ys
among_either file [] ys among = inr among
among_either file (x ∷ xs) ys (inl e) = inl (inl e)
among_either file (x ∷ xs) ys (inr more) = ⊎_elim (λ first. inl (inr first)) (λ second. inr second) (among_either file xs ys more)

-- files behind others, none of a log of those
both_differ : (xs ys : List Listed) → AreDistinctFiles xs → AreDistinctFiles ys → ((x y : Listed) → IsAmong x xs → IsAmong y ys → y.identity ≢ x.identity) → AreDistinctFiles (xs ++ ys)
both_differ [] ys first second apart = second
both_differ (x ∷ xs) ys (none, first) second apart =
    ((λ other among. ⊎_elim (none other) (apart x other (inl refl)) (among_either other xs ys among)), both_differ xs ys first second (λ a b there. apart a b (inr there)))

end_of_rotated : (first newest : ℕ) → first + (newest + 1 - first) ≡ max (newest + 1) first
end_of_rotated first newest = grind (arith, nat_tests)

-- the files of one stem
pub stem_differs : (folder : Folder) (entries : List Entry) (stem : List ℕ) (files : List Listed) → ListsStem folder entries stem files → AreDistinctFiles files
stem_differs folder entries stem files lists = subst AreDistinctFiles (sym lists.listed_are)
    (both_differ (rotated_files stem lists.first count) (live_files (folder stem) stem live) (rotated_differ stem lists.first count) (live_differ (folder stem) stem live) apart)
  where
    count : ℕ
    count = lists.newest + 1 - lists.first

    live : ℕ
    live = max (lists.newest + 1) lists.first

    apart : (x y : Listed) → IsAmong x (rotated_files stem lists.first count) → IsAmong y (live_files (folder stem) stem live) → y.identity ≢ x.identity
    apart x y there behind same =
        let of = rotated_among stem lists.first count x there in
        let number : live ≡ of.number = one_number stem live of.number (sym (live_among (folder stem) stem live y behind) ∙ (same ∙ of.is)) in
        let end : lists.first + count ≡ live = end_of_rotated lists.first lists.newest in
        omega (arith, of.high, number, end)

-- each file of a stem is a generation of it
pub record IsGenerationOf (stem : List ℕ) (file : Listed) : Type 0 where
  pub number : ℕ
  pub is : file.identity ≡ generation_name stem number

pub stem_among : (folder : Folder) (entries : List Entry) (stem : List ℕ) (files : List Listed) (file : Listed) → ListsStem folder entries stem files → IsAmong file files → IsGenerationOf stem file
stem_among folder entries stem files file lists among = ⊎_elim
    (λ rotated. let of = rotated_among stem lists.first count file rotated in record { number = of.number; is = of.is })
    (λ own. record { number = live; is = live_among (folder stem) stem live file own })
    (among_either file (rotated_files stem lists.first count) (live_files (folder stem) stem live) (subst (IsAmong file) lists.listed_are among))
  where
    count : ℕ
    count = lists.newest + 1 - lists.first

    live : ℕ
    live = max (lists.newest + 1) lists.first

-- the stem of one of some files
record IsOfSome (stems : List (List ℕ)) (file : Listed) : Type 0 where
  stem : List ℕ
  among : IsAmong stem stems
  is : IsGenerationOf stem file

joined_among : (folder : Folder) (entries : List Entry) (stems : List (List ℕ)) (each : List (List Listed)) (file : Listed) → AllZip (ListsStem folder entries) stems each → IsAmong file (joined each) → IsOfSome stems file
joined_among folder entries [] [] file are among = absurd among
joined_among folder entries [] (files ∷ each) file are among = absurd are
joined_among folder entries (stem ∷ stems) [] file are among = absurd are
joined_among folder entries (stem ∷ stems) (files ∷ each) file (is, are) among = ⊎_elim
    (λ here. record { stem = stem; among = inl refl; is = stem_among folder entries stem files file is here })
    (λ more. let rest = joined_among folder entries stems each file are more in record { stem = rest.stem; among = inr rest.among; is = rest.is })
    (among_either file files (joined each) among)

stems_differ : (folder : Folder) (entries : List Entry) (stems : List (List ℕ)) (each : List (List Listed)) → AreDifferent stems → AllZip (ListsStem folder entries) stems each → AreDistinctFiles (joined each)
stems_differ folder entries [] [] differ are = tt
stems_differ folder entries [] (files ∷ each) differ are = absurd are
stems_differ folder entries (stem ∷ stems) [] differ are = absurd are
stems_differ folder entries (stem ∷ stems) (files ∷ each) (none, differ) (is, are) =
    both_differ files (joined each) (stem_differs folder entries stem files is) (stems_differ folder entries stems each differ are) apart
  where
    apart : (x y : Listed) → IsAmong x files → IsAmong y (joined each) → y.identity ≢ x.identity
    apart x y there behind same =
        let first = stem_among folder entries stem files x is there in
        let second = joined_among folder entries stems each y are behind in
        none second.stem second.among (one_stem second.stem stem second.is.number first.number (sym second.is.is ∙ (same ∙ first.is)))

-- the files that a rule lists of different names
pub listed_differ : (rotation : Rotation) (folder : Folder) (entries : List Entry) (reached : List (List ℕ)) (files : List Listed) → AreDifferent reached → Lists rotation folder entries reached files → AreDistinctFiles files
listed_differ names folder entries reached files differ lists = subst AreDistinctFiles (sym lists) (plain_differ reached differ)
listed_differ numbers folder entries reached files differ (each, are, is) = subst AreDistinctFiles (sym is) (stems_differ folder entries reached each differ are)

-- texts reach each name once
pub reached_differ : (rotation : Rotation) (told : Option Folder) (texts reached : List (List ℕ)) → Reaches rotation told texts reached → AreDifferent reached
reached_differ names told texts reached reaches = subst AreDifferent (sym reaches.all) (firsts_differ (names_joined reaches.found))
reached_differ numbers told texts reached (stems, is) = subst AreDifferent (sym is) (firsts_differ texts)

span_among : (places : Places) (before now : Option Folder) (files : List Listed) (spans : List Span) (span : Span) → AllZip (IsSpanOf places before now) files spans → IsAmong span spans → (file : Listed) × IsAmong file files × (span.identity ≡ file.identity)
span_among places before now [] [] span are among = absurd among
span_among places before now [] (s ∷ ss) span are among = absurd are
span_among places before now (f ∷ fs) [] span are among = absurd are
span_among places before now (f ∷ fs) (s ∷ ss) span (is, are) (inl e) = (f, inl refl, ap (λ (t : Span). t.identity) e ∙ is.identity_is)
span_among places before now (f ∷ fs) (s ∷ ss) span (is, are) (inr more) = let rest = span_among places before now fs ss span are more in (rest.0, inr rest.1, rest.2)

-- the spans of files of different logs
pub spans_differ : (places : Places) (before now : Option Folder) (files : List Listed) (spans : List Span) → AreDistinctFiles files → AllZip (IsSpanOf places before now) files spans → AreDistinct spans
spans_differ places before now [] [] differ are = tt
spans_differ places before now [] (s ∷ ss) differ are = absurd are
spans_differ places before now (f ∷ fs) [] differ are = absurd are
spans_differ places before now (f ∷ fs) (s ∷ ss) (none, differ) (is, are) = (other_logs, spans_differ places before now fs ss differ are)
  where
    other_logs : (other : Span) → IsAmong other ss → other.identity ≢ s.identity
    other_logs other among same = let of = span_among places before now fs ss other are among in none of.0 of.1 (sym of.2 ∙ (same ∙ is.identity_is))

-- the spans of a run are of different logs
pub are_distinct : (rule : Rotation) (places : Places) (entries : List Entry) (texts : List (List ℕ)) (before : Folder) (now : Option Folder) (spans : List Span) → AreSpansOf rule places entries texts (Some before) now spans → AreDistinct spans
are_distinct rule places entries texts before now spans are =
    spans_differ places (Some before) now are.files spans (listed_differ rule before entries are.reached are.files (reached_differ rule (Some before) texts are.reached are.reaches) are.lists) are.each

-- and so are those that an entry keeps of them
has_span : (f : Span → EntrySpan) (identity : List ℕ) (spans : List Span) (span : EntrySpan) → ((s : Span) → (f s).identity ≡ s.identity) → IsAmong span (map f spans) → span.identity ≡ identity → (s : Span) × IsAmong s spans × (s.identity ≡ identity)
has_span f identity [] span same among is = absurd among
has_span f identity (s ∷ ss) span same (inl e) is = (s, inl refl, sym (same s) ∙ (sym (ap (λ (t : EntrySpan). t.identity) e) ∙ is))
has_span f identity (s ∷ ss) span same (inr more) is = let rest = has_span f identity ss span same more is in (rest.0, inr rest.1, rest.2)

pub kept_apart : (f : Span → EntrySpan) (spans : List Span) → ((s : Span) → (f s).identity ≡ s.identity) → AreDistinct spans → AreApart (map f spans)
kept_apart f [] same distinct = tt
kept_apart f (s ∷ ss) same (none, distinct) = (other_logs, kept_apart f ss same distinct)
  where
    other_logs : HasSpan (f s).identity (map f ss) → ⊥
    other_logs has = let of = has_span f (f s).identity ss has.span same has.among has.same in none of.0 of.1 (of.2 ∙ same s)

pub are_apart : (rule : Rotation) (places : Places) (entries : List Entry) (texts : List (List ℕ)) (before : Folder) (now : Option Folder) (spans : List Span) (f : Span → EntrySpan) → ((s : Span) → (f s).identity ≡ s.identity)
    → AreSpansOf rule places entries texts (Some before) now spans → AreApart (map f spans)
are_apart rule places entries texts before now spans f same are = kept_apart f spans same (are_distinct rule places entries texts before now spans are)
