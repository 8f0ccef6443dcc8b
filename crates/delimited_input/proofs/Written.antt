-- What is written as CSV is read back.
use Rattle.std.proofs.Common.{◌≡◌, ℕ, ◌<◌, Bool, true, false, ◌||◌, ◌&&◌, ◌==◌, List, [], ◌∷◌, ◌++◌, length, map, Option, Some, None, refl, sym, ap, ◌∙◌, inl, inr, arith}
use Rattle.std.specs.List.{flat_map, list_any, join_with_byte}
use Rattle.std.specs.Option.{option_to_list}
use Rattle.std.proofs.Common.{append_assoc}
use Rattle.std.proofs.lemmas.Bool.{cases_Bool, eqb-true}
use Rattle.std.proofs.lemmas.List.{append-nil}
use Rattle.lp_model.specs.Csv.{is_special, doubled, is_quoted, csv_field}
use Rattle.delimited_input.specs.Fields.{Cut, onto, plain_field, quoted_field, first_field, fields_of}
use Rattle.delimited_input.proofs.Agreeing.{fields_step}

-- a text, and perhaps a comma and another text behind it
behind : Option (List ℕ) → List ℕ
behind None = []
behind (Some rest) = 44 ∷ rest

plain_read : (xs : List ℕ) (rest : Option (List ℕ)) → list_any is_special xs ≡ false → plain_field 44 (xs ++ behind rest) ≡ (xs, rest)
unfolding plain_field behind
plain_read [] None plain = refl
plain_read [] (Some rest) plain = refl
plain_read (x ∷ xs) rest plain =
    elim (cases_Bool (x == 44)) [
      | inl is ↦ let h : true ≡ false = rw is at plain in absurd cc
      | inr comma ↦ elim (cases_Bool (is_special x)) [
        | inl is ↦ let h : true ≡ false = rw is at plain in absurd cc
        | inr other ↦ let h : list_any is_special xs ≡ false = rw other at plain in rw comma (ap (onto x) (plain_read xs rest h))
      ]
    ]

-- what opens no quoted field
unquoted : (x : ℕ) → is_special x ≡ false → (x == 34) ≡ false
unquoted x plain = elim (cases_Bool (x == 34)) [
  | inl is ↦ elim (cases_Bool (x == 44)) [
    | inl comma ↦ let h : true ≡ false = rw comma at plain in absurd cc
    | inr other ↦ let h : true ≡ false = rw (other, is) at plain in absurd cc
  ]
  | inr other ↦ other
]

quoted_other : (b : ℕ) (bs : List ℕ) → (b == 34) ≡ false → quoted_field 44 (b ∷ bs) ≡ onto b (quoted_field 44 bs)
unfolding quoted_field
quoted_other b [] other = rw other refl
quoted_other b (c ∷ cs) other = rw other refl

quoted_read : (field : List ℕ) (rest : Option (List ℕ)) → quoted_field 44 (flat_map doubled field ++ 34 ∷ behind rest) ≡ (field, rest)
unfolding quoted_field plain_field behind
quoted_read [] None = refl
quoted_read [] (Some rest) = refl
quoted_read (b ∷ bs) rest =
    elim (cases_Bool (b == 34)) [
      | inl is ↦ let same : b ≡ 34 = eqb-true b 34 is in rw is (ap (onto 34) (quoted_read bs rest) ∙ ap (λ (k : ℕ). (k ∷ bs, rest)) (sym same))
      | inr other ↦ rw other (quoted_other b (flat_map doubled bs ++ 34 ∷ behind rest) other ∙ ap (onto b) (quoted_read bs rest))
    ]

first_plain : (field : List ℕ) (rest : Option (List ℕ)) → list_any is_special field ≡ false → first_field 44 true (field ++ behind rest) ≡ plain_field 44 (field ++ behind rest)
unfolding first_field plain_field behind
first_plain [] None plain = refl
first_plain [] (Some rest) plain = refl
first_plain (b ∷ bs) rest plain =
    elim (cases_Bool (is_special b)) [
      | inl is ↦ let h : true ≡ false = rw is at plain in absurd cc
      | inr other ↦ let no_quote = unquoted b other in rw no_quote refl
    ]

first_quoted : (bs : List ℕ) → first_field 44 true (34 ∷ bs) ≡ quoted_field 44 bs
unfolding first_field
first_quoted bs = refl

-- the first field is the one that was written first
first_read : (only : Bool) (field : List ℕ) (rest : Option (List ℕ)) → first_field 44 true (csv_field only field ++ behind rest) ≡ (field, rest)
first_read only field rest =
    elim (cases_Bool (is_quoted only field)) [
      | inl is ↦ rw is (ap (λ (t : List ℕ). first_field 44 true (34 ∷ t)) (append_assoc (flat_map doubled field) (34 ∷ []) (behind rest)) ∙ (first_quoted (flat_map doubled field ++ 34 ∷ behind rest) ∙ quoted_read field rest))
      | inr plain ↦
          let no_special : list_any is_special field ≡ false = left_of (list_any is_special field) (only && (length field == 0)) plain in
          rw plain (first_plain field rest no_special ∙ plain_read field rest no_special)
    ]
  where
    left_of : (a b : Bool) → (a || b) ≡ false → a ≡ false
    left_of true b e = absurd cc
    left_of false b e = refl

first_none : (only : Bool) (field : List ℕ) → first_field 44 true (csv_field only field ++ []) ≡ (field, None)
unfolding behind
first_none only field = first_read only field None

first_some : (only : Bool) (field rest : List ℕ) → first_field 44 true (csv_field only field ++ 44 ∷ rest) ≡ (field, Some rest)
unfolding behind
first_some only field rest = first_read only field (Some rest)

-- the fields that were written
pub read_back : (only : Bool) (fields : List (List ℕ)) → 0 < length fields → fields_of 44 true (join_with_byte 44 (map (csv_field only) fields)) ≡ fields
read_back only [] some = absurd (omega arith)
read_back only (field ∷ []) some =
    let text : List ℕ = csv_field only field in
    let whole : first_field 44 true text ≡ (field, None) = ap (first_field 44 true) (sym (append-nil text)) ∙ first_none only field in
    fields_step 44 true text ∙ ap (λ (cut : Cut). cut.0 ∷ flat_map (fields_of 44 true) (option_to_list cut.1)) whole
read_back only (field ∷ next ∷ fields) some =
    let more : List ℕ = join_with_byte 44 (map (csv_field only) (next ∷ fields)) in
    fields_step 44 true (csv_field only field ++ 44 ∷ more)
    ∙ (ap (λ (cut : Cut). cut.0 ∷ flat_map (fields_of 44 true) (option_to_list cut.1)) (first_some only field more)
    ∙ ap (λ (t : List (List ℕ)). field ∷ t) (append-nil (fields_of 44 true more) ∙ read_back only (next ∷ fields) (omega arith)))
