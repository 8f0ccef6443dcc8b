-- The fields of a line, field by field, byte by byte, and cut at each separator.
use Rattle.std.proofs.Common.{◌≡◌, ℕ, suc, zero, ◌<◌, ◌≤◌, Bool, true, false, ◌&&◌, ◌==◌, List, [], ◌∷◌, ◌++◌, length, Option, Some, None, refl, sym, ap, ◌∙◌, subst, inl, inr, arith}
use Rattle.std.proofs.lemmas.Bool.{cases_Bool, eqb-true}
use Rattle.std.specs.List.{flat_map, list_any, slice_split, onto_first}
use Rattle.std.specs.Option.{option_to_list}
use Rattle.std.proofs.lemmas.List.{append-nil}
use Rattle.memchr.specs.Find.{is_byte}
use Rattle.delimited_input.specs.Fields.{Cut, plain_field, quoted_field, first_field, fields_among, fields_of}
use Rattle.delimited_input.proofs.Places.{Rest, onto, all_of, rest_from, line_fields}
use Rattle.delimited_input.proofs.Places.Place.{Start, Plain, Quoted}

abbrev is_quote : ℕ → Bool
is_quote b = b == 34

-- ---- what is left behind a field is shorter

plain_shorter : (separator : ℕ) (xs rest : List ℕ) → (plain_field separator xs).1 ≡ Some rest → length rest < length xs
unfolding plain_field
plain_shorter separator [] rest e = absurd cc
plain_shorter separator (b ∷ bs) rest e =
    elim (cases_Bool (b == separator)) [
      | inl is ↦ let h : Some bs ≡ Some rest = rw is at e in let same : length bs ≡ length rest = cc in omega arith
      | inr other ↦ let h : (plain_field separator bs).1 ≡ Some rest = rw other at e in let less = plain_shorter separator bs rest h in omega arith
    ]

quoted_shorter : (separator : ℕ) (xs rest : List ℕ) → (quoted_field separator xs).1 ≡ Some rest → length rest < length xs
unfolding quoted_field
quoted_shorter separator [] rest e = absurd cc
quoted_shorter separator (b ∷ []) rest e =
    elim (cases_Bool (b == 34)) [
      | inl is ↦ let h : None ≡ Some rest = rw is at e in absurd cc
      | inr other ↦ let h : None ≡ Some rest = rw other at e in absurd cc
    ]
quoted_shorter separator (b ∷ c ∷ bs) rest e =
    elim (cases_Bool (b == 34)) [
      | inl is ↦ elim (cases_Bool (c == 34)) [
        | inl two ↦ let h : (quoted_field separator bs).1 ≡ Some rest = rw (is, two) at e in let less = quoted_shorter separator bs rest h in omega arith
        | inr one ↦ let h : (plain_field separator (c ∷ bs)).1 ≡ Some rest = rw (is, one) at e in let less = plain_shorter separator (c ∷ bs) rest h in omega arith
      ]
      | inr other ↦ let h : (quoted_field separator (c ∷ bs)).1 ≡ Some rest = rw other at e in let less = quoted_shorter separator (c ∷ bs) rest h in omega arith
    ]

first_shorter : (separator : ℕ) (quotes : Bool) (xs rest : List ℕ) → (first_field separator quotes xs).1 ≡ Some rest → length rest < length xs
unfolding first_field
first_shorter separator quotes [] rest e = absurd cc
first_shorter separator quotes (b ∷ bs) rest e =
    elim (cases_Bool (quotes && (b == 34))) [
      | inl is ↦ let h : (quoted_field separator bs).1 ≡ Some rest = rw is at e in let less = quoted_shorter separator bs rest h in omega arith
      | inr other ↦ let h : (plain_field separator (b ∷ bs)).1 ≡ Some rest = rw other at e in plain_shorter separator (b ∷ bs) rest h
    ]

-- ---- a list that is one field and what the rest gives is the fields

abbrev pub one_more : ℕ → Bool → (List ℕ → List (List ℕ)) → List ℕ → List (List ℕ)
one_more separator quotes all xs = (first_field separator quotes xs).0 ∷ flat_map all (option_to_list (first_field separator quotes xs).1)

module _ (separator : ℕ) (quotes : Bool) (P : List ℕ → Type 0) (all : List ℕ → List (List ℕ))
    (step : (xs : List ℕ) → P xs → all xs ≡ one_more separator quotes all xs)
    (kept : (xs rest : List ℕ) → P xs → (first_field separator quotes xs).1 ≡ Some rest → P rest) where
  behind : (xs : List ℕ) (most : List ℕ → List (List ℕ)) → ((rest : List ℕ) → (first_field separator quotes xs).1 ≡ Some rest → most rest ≡ all rest)
      → (r : Option (List ℕ)) → (first_field separator quotes xs).1 ≡ r → flat_map most (option_to_list r) ≡ flat_map all (option_to_list r)
  behind xs most same None e = refl
  behind xs most same (Some rest) e = ap (λ t. t ++ []) (same rest e)

  among : (n : ℕ) (xs : List ℕ) → length xs ≤ n → P xs → fields_among (suc n) separator quotes xs ≡ all xs
  unfolding fields_among
  among zero xs few holds =
      ap (λ t. (first_field separator quotes xs).0 ∷ t) (behind xs (fields_among zero separator quotes) (λ rest e. let less = first_shorter separator quotes xs rest e in absurd (omega arith)) (first_field separator quotes xs).1 refl)
      ∙ sym (step xs holds)
  among (suc n) xs few holds =
      ap (λ t. (first_field separator quotes xs).0 ∷ t) (behind xs (fields_among (suc n) separator quotes) (λ rest e. let less = first_shorter separator quotes xs rest e in among n rest (omega arith) (kept xs rest holds e)) (first_field separator quotes xs).1 refl)
      ∙ sym (step xs holds)

-- ---- byte by byte

-- the fields behind a field
abbrev as_rest : ℕ → Cut → Rest
as_rest separator cut = (cut.0, flat_map (line_fields separator true) (option_to_list cut.1))

plain_agrees : (separator : ℕ) (xs : List ℕ) → rest_from separator true Plain xs ≡ as_rest separator (plain_field separator xs)
unfolding rest_from plain_field
plain_agrees separator [] = refl
plain_agrees separator (b ∷ bs) =
    elim (cases_Bool (b == separator)) [
      | inl is ↦ rw is (ap (λ (t : List (List ℕ)). ([], t)) (sym (append-nil (line_fields separator true bs))))
      | inr other ↦ rw other (ap (onto b) (plain_agrees separator bs))
    ]

quoted_agrees : (separator : ℕ) (xs : List ℕ) → rest_from separator true Quoted xs ≡ as_rest separator (quoted_field separator xs)
unfolding rest_from quoted_field
quoted_agrees separator [] = refl
quoted_agrees separator (b ∷ []) =
    elim (cases_Bool (b == 34)) [
      | inl is ↦ rw is refl
      | inr other ↦ rw other refl
    ]
quoted_agrees separator (b ∷ c ∷ bs) =
    elim (cases_Bool (b == 34)) [
      | inl is ↦ elim (cases_Bool (c == 34)) [
        | inl two ↦ let same : c ≡ 34 = eqb-true c 34 two in rw (is, two) (ap (λ (k : ℕ). onto k (rest_from separator true Quoted bs)) same ∙ ap (onto 34) (quoted_agrees separator bs))
        | inr one ↦ rw (is, one) (plain_agrees separator (c ∷ bs))
      ]
      | inr other ↦ rw other (ap (onto b) (quoted_agrees separator (c ∷ bs)))
    ]

start_agrees : (separator : ℕ) (xs : List ℕ) → rest_from separator true Start xs ≡ as_rest separator (first_field separator true xs)
unfolding rest_from first_field
start_agrees separator [] = refl
start_agrees separator (b ∷ bs) =
    elim (cases_Bool (b == 34)) [
      | inl is ↦ rw is (quoted_agrees separator bs)
      | inr other ↦ rw other (plain_agrees separator (b ∷ bs))
    ]

-- the machine's fields are the line's
pub line_fields_are : (separator : ℕ) (line : List ℕ) → line_fields separator true line ≡ fields_of separator true line
unfolding fields_of
line_fields_are separator line =
    sym (among separator true (λ xs. Unit {0}) (line_fields separator true) (λ xs holds. ap all_of (start_agrees separator xs)) (λ xs rest holds e. tt) (length line) line (omega arith) tt)

-- ---- cut at each separator

-- the parts behind a field
abbrev as_parts : ℕ → Cut → List (List ℕ)
as_parts separator cut = cut.0 ∷ flat_map (slice_split (is_byte separator)) (option_to_list cut.1)

plain_parts : (separator : ℕ) (xs : List ℕ) → slice_split (is_byte separator) xs ≡ as_parts separator (plain_field separator xs)
unfolding plain_field
plain_parts separator [] = refl
plain_parts separator (b ∷ bs) =
    elim (cases_Bool (b == separator)) [
      | inl is ↦ rw is (ap (λ (t : List (List ℕ)). [] ∷ t) (sym (append-nil (slice_split (is_byte separator) bs))))
      | inr other ↦ rw other (ap (onto_first b) (plain_parts separator bs))
    ]

plain_kept : (separator : ℕ) (xs rest : List ℕ) → list_any is_quote xs ≡ false → (plain_field separator xs).1 ≡ Some rest → list_any is_quote rest ≡ false
unfolding plain_field
plain_kept separator [] rest plain e = absurd cc
plain_kept separator (b ∷ bs) rest plain e =
    elim (cases_Bool (b == 34)) [
      | inl is ↦ let h : true ≡ false = rw is at plain in absurd cc
      | inr unquoted ↦
          let less : list_any is_quote bs ≡ false = rw unquoted at plain in
          elim (cases_Bool (b == separator)) [
            | inl is ↦ let h : Some bs ≡ Some rest = rw is at e in let same : bs ≡ rest = cc in subst (λ (t : List ℕ). list_any is_quote t ≡ false) same less
            | inr other ↦ let h : (plain_field separator bs).1 ≡ Some rest = rw other at e in plain_kept separator bs rest less h
          ]
    ]

-- no quote opens a field
abbrev IsPlain : Bool → List ℕ → Type 0
IsPlain quotes line = quotes ≡ true → list_any is_quote line ≡ false

-- no quote opens the first field
first_plain : (separator : ℕ) (quotes : Bool) (xs : List ℕ) → IsPlain quotes xs → first_field separator quotes xs ≡ plain_field separator xs
unfolding first_field plain_field
first_plain separator quotes [] plain = refl
first_plain separator false (b ∷ bs) plain = refl
first_plain separator true (b ∷ bs) plain =
    elim (cases_Bool (b == 34)) [
      | inl is ↦ let h : true ≡ false = rw is at (plain refl) in absurd cc
      | inr other ↦ rw other refl
    ]

-- where no quote opens a field, the parts are the line's fields
pub parts_are : (separator : ℕ) (quotes : Bool) (line : List ℕ) → IsPlain quotes line → slice_split (is_byte separator) line ≡ fields_of separator quotes line
unfolding fields_of
parts_are separator quotes line plain =
    sym (among separator quotes (IsPlain quotes) (slice_split (is_byte separator))
    (λ xs holds. plain_parts separator xs ∙ ap (as_parts separator) (sym (first_plain separator quotes xs holds)))
    (λ xs rest holds e quoted. plain_kept separator xs rest (holds quoted) (ap (λ (cut : Cut). cut.1) (sym (first_plain separator quotes xs holds)) ∙ e))
    (length line) line (omega arith) plain)

-- ---- one field, and the fields behind it

-- lists that are the fields, behind a field
rest_same : (separator : ℕ) (quotes : Bool) (all : List ℕ → List (List ℕ)) → ((xs : List ℕ) → all xs ≡ fields_of separator quotes xs) → (r : Option (List ℕ)) → flat_map all (option_to_list r) ≡ flat_map (fields_of separator quotes) (option_to_list r)
rest_same separator quotes all are None = refl
rest_same separator quotes all are (Some rest) = ap (λ (t : List (List ℕ)). t ++ []) (are rest)

pub fields_step : (separator : ℕ) (quotes : Bool) (xs : List ℕ) → fields_of separator quotes xs ≡ one_more separator quotes (fields_of separator quotes) xs
fields_step separator true xs =
    sym (line_fields_are separator xs)
    ∙ (ap all_of (start_agrees separator xs)
    ∙ ap (λ (t : List (List ℕ)). (first_field separator true xs).0 ∷ t) (rest_same separator true (line_fields separator true) (line_fields_are separator) (first_field separator true xs).1))
fields_step separator false xs =
    let parts : (xs : List ℕ) → slice_split (is_byte separator) xs ≡ fields_of separator false xs = λ xs. parts_are separator false xs (λ quoted. absurd cc) in
    sym (parts xs)
    ∙ (plain_parts separator xs
    ∙ (ap (as_parts separator) (sym (first_plain separator false xs (λ quoted. absurd cc)))
    ∙ ap (λ (t : List (List ℕ)). (first_field separator false xs).0 ∷ t) (rest_same separator false (slice_split (is_byte separator)) parts (first_field separator false xs).1)))
