-- Names and their places in the table.
use Rattle.std.proofs.Common.{◌≡◌, ℕ, suc, zero, ◌+◌, ◌<◌, Bool, true, false, ◌&&◌, ◌==◌, List, [], ◌∷◌, map, length, get_or, nat_eq, nat_lt, cond, Option, Some, None, IfSome, option_map, slice_get, codes, refl, sym, ap, ◌∙◌, subst, inl, inr, arith, rules, tests}
use Rattle.std.proofs.lemmas.Bool.{cases_Bool, cases_lt, and_parts, eqb-true}
use Rattle.std.proofs.lemmas.List.Folds.{find_at}
use Rattle.std.proofs.lemmas.List.Quantifiers.{position-Some}
use Rattle.std.proofs.lemmas.List.Sums.{position_or_len_is}
use Rattle.std.specs.List.{position, position_or_len}
use Rattle.std.specs.Char.{to_ascii_lowercase}
use Rattle.std.specs.Cmp.Lexicographic.{pointwise}
use Rattle.slot_reading.specs.Names.{is_same_name}
use Rattle.slot_reading.proofs.NameLemmas.{same_spelling}
use Rattle.lp_time.specs.Patterns.{pieces_from}
use Rattle.iis_fields.specs.Table.{IisField, iis_fields, logged_names, column_reading}
use Rattle.iis_fields.specs.Places.{place_of, reading_at, reading_by}

pub length-logged_names : length logged_names ≡ 22
unfolding logged_names
length-logged_names = refl

-- ---- the first of some names

-- the first name that passes
pub position_is : (test : List ℕ → Bool) (names : List (List ℕ)) (place : ℕ) → place < length names → ((k : ℕ) → k < place → test (get_or names k []) ≡ false) → test (get_or names place []) ≡ true
    → Some place ≡ position test names
position_is test names place within before is =
    let at = position_or_len_is test names place [] (omega arith) before (λ h. is) in
    let inside : nat_lt place (length names) ≡ true = search (rules, tests) in
    rw (at, inside) refl

-- no name passes
pub position_none : (test : List ℕ → Bool) (names : List (List ℕ)) (place : ℕ) → place ≡ length names → ((k : ℕ) → k < place → test (get_or names k []) ≡ false) → None ≡ position test names
position_none test names place all before =
    let at = position_or_len_is test names place [] (omega arith) before (λ h. absurd (omega arith)) in
    let inside : nat_lt place (length names) ≡ false = search (rules, tests) in
    rw (at, inside) refl

-- one name more doesn't pass
pub below_more : (test : List ℕ → Bool) (names : List (List ℕ)) (at : ℕ) → ((k : ℕ) → k < at → test (get_or names k []) ≡ false) → test (get_or names at []) ≡ false → (k : ℕ) → k < at + 1 → test (get_or names k []) ≡ false
below_more test names at before here k within =
    elim (cases_lt k at) [
      | inl below ↦ before k below
      | inr last ↦ (let e : at ≡ k = omega arith in subst (λ (n : ℕ). test (get_or names n []) ≡ false) e here)
    ]

-- ---- the place of a name of the table

-- names of one spelling have one place
place_of-spelled : (a b : List ℕ) → map to_ascii_lowercase a ≡ map to_ascii_lowercase b → place_of a ≡ place_of b
unfolding place_of is_same_name
place_of-spelled a b e = ap (λ spelling. position (λ known. pointwise nat_eq spelling (map to_ascii_lowercase known)) logged_names) e

is_at : ℕ → Option ℕ → Bool
is_at place None = false
is_at place (Some found) = found == place

-- each name of these stands at its place
is_numbered : ℕ → List (List ℕ) → Bool
is_numbered from [] = true
is_numbered from (name ∷ names) = is_at from (place_of name) && is_numbered (from + 1) names

numbered_at : (from : ℕ) (names : List (List ℕ)) → is_numbered from names ≡ true → (k : ℕ) → k < length names → is_at (from + k) (place_of (get_or names k [])) ≡ true
unfolding is_numbered
numbered_at from [] e k within = absurd (omega arith)
numbered_at from (name ∷ names) e zero within = let sum : from + 0 ≡ from = omega arith in rw sum (and_parts (is_at from (place_of name)) (is_numbered (from + 1) names) e).0
numbered_at from (name ∷ names) e (suc k) within =
    let sum : from + suc k ≡ from + 1 + k = omega arith in
    rw sum (numbered_at (from + 1) names (and_parts (is_at from (place_of name)) (is_numbered (from + 1) names) e).1 k (omega arith))

all_numbered : is_numbered 0 logged_names ≡ true
unfolding is_numbered is_at place_of logged_names is_same_name
all_numbered = refl

is_at-some : (k : ℕ) (place : Option ℕ) → is_at k place ≡ true → place ≡ Some k
unfolding is_at
is_at-some k None e = absurd cc
is_at-some k (Some found) e = ap Some (eqb-true found k e)

-- a name of the table is found at its place, whatever its case
pub place_of-named : (name : List ℕ) (k : ℕ) → k < length logged_names → is_same_name name (get_or logged_names k []) ≡ true → place_of name ≡ Some k
place_of-named name k within same =
    let zero_sum : 0 + k ≡ k = omega arith in
    place_of-spelled name (get_or logged_names k []) (same_spelling name (get_or logged_names k []) same)
    ∙ is_at-some k (place_of (get_or logged_names k [])) (subst (λ (n : ℕ). is_at n (place_of (get_or logged_names k [])) ≡ true) zero_sum (numbered_at 0 logged_names all_numbered k within))

-- what a name that is found is
pub place_of-some : (name : List ℕ) (place : ℕ) → place_of name ≡ Some place → (place < length logged_names) × (is_same_name name (get_or logged_names place []) ≡ true)
unfolding place_of
place_of-some name place e = let found = position-Some (is_same_name name) logged_names place [] e in (found.0, found.1)

pub place_of-within : (name : List ℕ) → IfSome (place_of name) (λ place. place < 22)
place_of-within name = within (place_of name) refl
  where
    within : (r : Option ℕ) → place_of name ≡ r → IfSome r (λ place. place < 22)
    within None e = tt
    within (Some place) e = omega (arith, (place_of-some name place e).0, length-logged_names)

-- ---- how fields are read

pub date_reading : reading_by (codes "yyyy-MM-dd") ≡ reading_at 2
unfolding reading_at pieces_from
date_reading = refl

pub time_reading : reading_by (codes "hh:mm:ss") ≡ reading_at 3
unfolding reading_at pieces_from
time_reading = refl

is_named : List ℕ → IisField → Bool
is_named name field = is_same_name name field.name

names_of : List IisField → List (List ℕ)
names_of fields = map (λ (field : IisField). field.name) fields

-- the first field of a name stands where the name does
place_in : (name : List ℕ) (fields : List IisField) → position_or_len (is_same_name name) (names_of fields) ≡ position_or_len (is_named name) fields
unfolding names_of is_named
place_in name [] = refl
place_in name (field ∷ fields) =
    elim (cases_Bool (is_same_name name field.name)) [
      | inl same ↦ rw same refl
      | inr other ↦ rw other (ap (λ n. 1 + n) (place_in name fields))
    ]

found_place : (n size place : ℕ) → cond (nat_lt n size) (Some n) None ≡ Some place → n ≡ place
found_place n size place e =
    elim (cases_Bool (nat_lt n size)) [
      | inl within ↦ (let h : Some n ≡ Some place = rw within at e in cc)
      | inr past ↦ absurd (let h : None ≡ Some place = rw past at e in cc)
    ]

lost_place : (fields : List IisField) (n : ℕ) → nat_lt n (length fields) ≡ false → slice_get fields n ≡ None
lost_place [] n past = refl
lost_place (field ∷ fields) zero past = absurd (let some : nat_lt 0 (length (field ∷ fields)) ≡ true = search (rules, tests) in let h : true ≡ false = sym some ∙ past in cc)
lost_place (field ∷ fields) (suc n) past = lost_place fields n (search (rules, tests))

nowhere : (fields : List IisField) (n : ℕ) → cond (nat_lt n (length fields)) (Some n) None ≡ None → slice_get fields n ≡ None
nowhere fields n e =
    elim (cases_Bool (nat_lt n (length fields))) [
      | inl within ↦ absurd (let h : Some n ≡ None = rw within at e in cc)
      | inr past ↦ lost_place fields n past
    ]

-- how the field of a name is read, by the place of the name
read_by_place : (name : List ℕ) → column_reading name ≡ reading_at (position_or_len (is_same_name name) (names_of iis_fields))
unfolding column_reading reading_at is_named
read_by_place name = ap (option_map (λ (field : IisField). field.reading)) (find_at (is_named name) iis_fields ∙ ap (slice_get iis_fields) (sym (place_in name iis_fields)))

pub column_reading-some : (name : List ℕ) (place : ℕ) → position (is_same_name name) (map (λ (field : IisField). field.name) iis_fields) ≡ Some place → reading_at place ≡ column_reading name
unfolding names_of
column_reading-some name place e =
    let n = position_or_len (is_same_name name) (names_of iis_fields) in
    ap reading_at (sym (found_place n (length (names_of iis_fields)) place e)) ∙ sym (read_by_place name)

pub column_reading-none : (name : List ℕ) → position (is_same_name name) (map (λ (field : IisField). field.name) iis_fields) ≡ None → None ≡ column_reading name
unfolding names_of reading_at
column_reading-none name e =
    let n = position_or_len (is_same_name name) (names_of iis_fields) in
    ap (option_map (λ (field : IisField). field.reading)) (sym (nowhere iis_fields n e)) ∙ sym (read_by_place name)
