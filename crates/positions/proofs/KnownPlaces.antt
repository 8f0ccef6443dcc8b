-- The generations that kept places know.
use Rattle.std.proofs.Common.{◌≡◌, ◌≢◌, ℕ, ◌+◌, ◌<◌, ◌≤◌, true, List, [], ◌∷◌, ◌++◌, map, All, Option, Some, None, IsSome, IfSome, is_some, refl, sym, ◌∙◌, ap, subst, arith, append_assoc}
use Rattle.std.specs.BTreeMap.{BTreeMap, is_at}
use Rattle.std.specs.BTreeMap.Range.{range_contains, entries_between, IsInRange, IsEntryInRange}
use Rattle.std.specs.declared.ops.Bound.TheVariants.{Included, Excluded}
use Rattle.std.specs.Map.{lookup}
use Rattle.std.specs.Ordering.{nat_cmp, is_eq, is_gt, ordering_then}
use Rattle.std.specs.declared.cmp.Ordering.TheVariants.{Less, Equal}
use Rattle.std.specs.Cmp.{nat_cmp_is}
use Rattle.std.specs.Cmp.Lexicographic.{slice_cmp, nat_list_cmp_total}
use Rattle.std.specs.Int.Digits.{digits_of, number_from_digits, AllBelowBase}
use Rattle.std.proofs.lemmas.Bool.{false≢true}
use Rattle.std.proofs.lemmas.Int.Digits.{all_below_base_digits_of, number_digits_of}
use Rattle.std.proofs.lemmas.List.Elements.{All-contains}
use Rattle.std.proofs.lemmas.Map.Entries.{lookup-filter-keys}
use Rattle.std.proofs.lemmas.Map.Views.{Contains-from_lookup, range_contains-from_IsInRange}
use Rattle.std.proofs.lemmas.Map.Text.{is_eq-slice_cmp}
use Rattle.std.proofs.lemmas.Slice.Eq.{bytes_eq-Decides}
use Rattle.run_model.specs.Logs.{number_text, generation_name}
use Rattle.positions.specs.declared.place.Place.{Place}
use Rattle.positions.specs.Places.{Places, place_in}
use Rattle.positions.specs.Places.{joined as joined_place}
use Rattle.positions.specs.SpanSteps.{IsKept, IsKnownIn, IsKeptAmong, IsKnownAmong}

-- behind a common front
same_front : (front xs ys : List ℕ) → slice_cmp nat_cmp (front ++ xs) (front ++ ys) ≡ slice_cmp nat_cmp xs ys
same_front [] xs ys = refl
same_front (b ∷ front) xs ys = ap (λ o. ordering_then o (slice_cmp nat_cmp (front ++ xs) (front ++ ys))) (sym (nat_cmp_is b b Equal refl)) ∙ same_front front xs ys

less_first : (a b : ℕ) (xs ys : List ℕ) → a < b → slice_cmp nat_cmp (a ∷ xs) (b ∷ ys) ≡ Less
less_first a b xs ys lt = ap (λ o. ordering_then o (slice_cmp nat_cmp xs ys)) (sym (nat_cmp_is a b Less lt))

-- the bounds between which the names of a stem's generations stand
abbrev pub low_of : List ℕ → List ℕ
low_of stem = stem ++ 46 ∷ 42 ∷ []

abbrev pub high_of : List ℕ → List ℕ
high_of stem = stem ++ 46 ∷ 58 ∷ []

-- they are in order
pub forward : (stem : List ℕ) → slice_cmp nat_cmp (low_of stem) (high_of stem) ≡ Less
forward stem = same_front stem (46 ∷ 42 ∷ []) (46 ∷ 58 ∷ []) ∙ (same_front (46 ∷ []) (42 ∷ []) (58 ∷ []) ∙ less_first 42 58 [] [] (omega arith))

digits_between : (stem digits : List ℕ) → AllBelowBase 10 digits → digits ≢ [] → IsInRange (slice_cmp nat_cmp) (Included (low_of stem)) (Excluded (high_of stem)) (stem ++ 46 ∷ map (λ (d : ℕ). 48 + d) digits)
digits_between stem [] all some = absurd (some refl)
digits_between stem (d ∷ ds) all some =
    let rest : List ℕ = map (λ (n : ℕ). 48 + n) ds in
    let low : slice_cmp nat_cmp (low_of stem) (stem ++ 46 ∷ (48 + d) ∷ rest) ≡ Less = same_front stem (46 ∷ 42 ∷ []) (46 ∷ (48 + d) ∷ rest) ∙ (same_front (46 ∷ []) (42 ∷ []) ((48 + d) ∷ rest) ∙ less_first 42 (48 + d) [] rest (omega arith)) in
    let high : slice_cmp nat_cmp (stem ++ 46 ∷ (48 + d) ∷ rest) (high_of stem) ≡ Less = same_front stem (46 ∷ (48 + d) ∷ rest) (46 ∷ 58 ∷ []) ∙ (same_front (46 ∷ []) ((48 + d) ∷ rest) (58 ∷ []) ∙ less_first (48 + d) 58 rest [] (omega (arith, all.0))) in
    (ap is_gt low, high)

some_digits : (number : ℕ) → 1 ≤ number → digits_of 10 number ≢ []
some_digits number some none = let e : 0 ≡ number = sym (ap (number_from_digits 10) none) ∙ number_digits_of 10 number (omega arith) in omega (arith, e, some)

between : (stem : List ℕ) (number : ℕ) → 1 ≤ number → IsInRange (slice_cmp nat_cmp) (Included (low_of stem)) (Excluded (high_of stem)) (generation_name stem number)
unfolding generation_name
between stem number some = digits_between stem (digits_of 10 number) (all_below_base_digits_of 10 number (omega arith)) (some_digits number some)

same_key : (a b : List ℕ) → is_eq (slice_cmp nat_cmp a b) ≡ true → a ≡ b
same_key a b e = (bytes_eq-Decides a b).0 (sym (is_eq-slice_cmp a b) ∙ e)

-- an entry of a place that is kept
has_place : (found : Option (Option Place)) → IsSome (joined_place found) → (place : Option Place) × (found ≡ Some place) × IsSome place
has_place None is = absurd (false≢true is)
has_place (Some place) is = (place, refl, is)

-- a generation that a place is kept of is in the range
pub kept_among : (stem : List ℕ) (places part : Places) (number : ℕ) → part ≡ entries_between (slice_cmp nat_cmp) (Included (low_of stem)) (Excluded (high_of stem)) places → IsKept places stem number → IsKeptAmong (stem ++ 46 ∷ []) part number
unfolding generation_name
kept_among stem places part number is kept =
    let name = generation_name stem number in
    let found = has_place (lookup (is_at (slice_cmp nat_cmp name)) places) kept.is in
    let inside : range_contains (slice_cmp nat_cmp) (Included (low_of stem)) (Excluded (high_of stem)) name ≡ true = range_contains-from_IsInRange nat_list_cmp_total (Included (low_of stem)) (Excluded (high_of stem)) name (between stem number kept.some) in
    let there : lookup (is_at (slice_cmp nat_cmp name)) part ≡ Some found.0 =
    ap (lookup (is_at (slice_cmp nat_cmp name))) is
    ∙ (lookup-filter-keys (is_at (slice_cmp nat_cmp name)) (range_contains (slice_cmp nat_cmp) (Included (low_of stem)) (Excluded (high_of stem))) true
    (λ k e. subst (λ (n : List ℕ). range_contains (slice_cmp nat_cmp) (Included (low_of stem)) (Excluded (high_of stem)) n ≡ true) (same_key name k e) inside) places ∙ found.1) in
    record {
      identity = name;
      place = found.0;
      among = Contains-from_lookup same_key name found.0 part there;
      is = record { text = number_text number; parts = sym (append_assoc stem (46 ∷ []) (number_text number)); is = record { some = kept.some; small = kept.small; is = refl } };
      kept = found.2;
    }

-- and what is in the range is kept
pub among_kept : (stem : List ℕ) (map : BTreeMap (List ℕ) (Option Place)) (part : Places) (number : ℕ) → All (IsEntryInRange (slice_cmp nat_cmp) (Included (low_of stem)) (Excluded (high_of stem)) map) part → IsKeptAmong (stem ++ 46 ∷ []) part number → IsKept map.entries stem number
unfolding generation_name
among_kept stem map part number all kept =
    let entry = All-contains (IsEntryInRange (slice_cmp nat_cmp) (Included (low_of stem)) (Excluded (high_of stem)) map) part (kept.identity, kept.place) all kept.among in
    let name : kept.identity ≡ generation_name stem number = kept.is.parts ∙ (ap (λ t. (stem ++ 46 ∷ []) ++ t) kept.is.is.is ∙ append_assoc stem (46 ∷ []) (number_text number)) in
    let found : place_in map.entries kept.identity ≡ kept.place = ap joined_place entry.1 in
    record {
      some = kept.is.is.some;
      small = kept.is.is.small;
      is = subst (λ (n : List ℕ). IsSome (place_in map.entries n)) name (ap is_some found ∙ kept.kept);
    }

pub known_in : (stem : List ℕ) (map : BTreeMap (List ℕ) (Option Place)) (part : Places) (known : Option ℕ) → part ≡ entries_between (slice_cmp nat_cmp) (Included (low_of stem)) (Excluded (high_of stem)) map.entries → All (IsEntryInRange (slice_cmp nat_cmp) (Included (low_of stem)) (Excluded (high_of stem)) map) part
    → IsKnownAmong (stem ++ 46 ∷ []) part known → IsKnownIn map.entries stem known
known_in stem map part None is all knows = λ number kept. knows number (kept_among stem map.entries part number is kept)
known_in stem map part (Some number) is all knows = (among_kept stem map part number all knows.0, λ other kept. knows.1 other (kept_among stem map.entries part other is kept))

pub known_some : (front : List ℕ) (entries : Places) (known : Option ℕ) → IsKnownAmong front entries known → IfSome known (λ number. 0 < number)
known_some front entries None knows = tt
known_some front entries (Some number) knows = let some = knows.0.is.is.some in omega (arith, some)
