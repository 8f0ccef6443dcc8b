-- In CSV and TSV columns stay once they are set, and a row has columns.
use Rattle.std.proofs.Common.{◌≡◌, ℕ, ◌<◌, true, false, List, [], ◌∷◌, ◌++◌, length, Option, Some, None, refl, ◌∙◌, ap, arith, inl, inr}
use Rattle.std.proofs.lemmas.Bool.{cases_Bool}
use Rattle.std.specs.Option.{option_or}
use Rattle.lp_model.specs.Reading.{Columns, rows_in}
use Rattle.delimited_input.specs.declared.options.DelimitedOptions.{DelimitedOptions}
use Rattle.delimited_input.specs.Lines.{fields_in, is_empty, is_broken, may_set, columns_of, columns_after, has_columns, delimited_reading, filled_reading, first_reading, delimited_lines}
use Rattle.delimited_input.proofs.Carrying.{after_more}
use Rattle.column_kinds.proofs.SetsOnce.{SetsOnce}

module _ (options : DelimitedOptions) where
  stay : (before : List (List ℕ)) (line : List ℕ) (columns : Columns) → columns_after options before ≡ Some columns → columns_after options (before ++ line ∷ []) ≡ Some columns
  stay before line columns set = after_more options before line ∙ ap (λ (old : Option Columns). option_or old (columns_after options (line ∷ []))) set

  -- a line that sets columns where none are set
  sets : (before : List (List ℕ)) (line : List ℕ) → columns_after options before ≡ None → may_set options line ≡ true → columns_after options (before ++ line ∷ []) ≡ Some (columns_of options (fields_in options line))
  sets before line none may =
      let one : columns_after options (line ∷ []) ≡ Some (columns_of options (fields_in options line)) = rw may refl in
      after_more options before line ∙ (ap (λ (old : Option Columns). option_or old (columns_after options (line ∷ []))) none ∙ one)

  first_sets : (line : List ℕ) → is_empty line ≡ false → is_broken line ≡ false → 0 < length (rows_in (first_reading options (fields_in options line))) → may_set options line ≡ true
  first_sets line filled whole some = elim (cases_Bool options.header_row) [
    | inl header ↦
        let none : length (rows_in (first_reading options (fields_in options line))) ≡ 0 = rw header refl in
        absurd (omega (arith, none, some))
    | inr rows_only ↦ elim (cases_Bool (has_columns (fields_in options line))) [
      | inl fits ↦ rw (filled, whole, rows_only, fits) refl
      | inr long ↦
          let none : length (rows_in (first_reading options (fields_in options line))) ≡ 0 = rw (rows_only, long) refl in
          absurd (omega (arith, none, some))
    ]
  ]

  filled_has : (before : List (List ℕ)) (line : List ℕ) (old : Option Columns) → columns_after options before ≡ old → is_empty line ≡ false → is_broken line ≡ false → 0 < length (rows_in (filled_reading options (fields_in options line) old))
      → (columns : Columns) × (columns_after options (before ++ line ∷ []) ≡ Some columns)
  filled_has before line (Some names) set filled whole some = (names, stay before line names set)
  filled_has before line None none filled whole some = (columns_of options (fields_in options line), sets before line none (first_sets line filled whole some))

  has : (before : List (List ℕ)) (line : List ℕ) → 0 < length (rows_in (delimited_reading options line (columns_after options before))) → (columns : Columns) × (columns_after options (before ++ line ∷ []) ≡ Some columns)
  has before line some = elim (cases_Bool (is_empty line)) [
    | inl empty ↦
        let none : length (rows_in (delimited_reading options line (columns_after options before))) ≡ 0 = rw empty refl in
        absurd (omega (arith, none, some))
    | inr filled ↦ elim (cases_Bool (is_broken line)) [
      | inl broken ↦
          let none : length (rows_in (delimited_reading options line (columns_after options before))) ≡ 0 = rw (filled, broken) refl in
          absurd (omega (arith, none, some))
      | inr whole ↦
          let same : length (rows_in (delimited_reading options line (columns_after options before))) ≡ length (rows_in (filled_reading options (fields_in options line) (columns_after options before))) = rw (filled, whole) refl in
          filled_has before line (columns_after options before) refl filled whole (omega (arith, same, some))
    ]
  ]

  pub delimited_sets_once : SetsOnce (delimited_lines options)
  unfolding delimited_lines
  delimited_sets_once = record { stay = stay; has = has }
