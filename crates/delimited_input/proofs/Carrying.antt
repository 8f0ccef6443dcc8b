-- The columns in force, carried forward.
use Rattle.std.proofs.Common.{◌≡◌, ℕ, ◌+◌, ◌≤◌, nat_le, true, false, List, [], ◌∷◌, ◌++◌, length, Option, Some, None, option_map, refl, sym, ap, ◌∙◌, inl, inr, arith}
use Rattle.std.proofs.lemmas.Bool.{cases_Bool}
use Rattle.std.specs.List.{find}
use Rattle.std.proofs.lemmas.List.Folds.{find-append}
use Rattle.std.specs.Option.{option_or}
use Rattle.lp_model.specs.Reading.{Columns, Reading, passed, bad, rows_in}
use Rattle.delimited_input.specs.declared.options.DelimitedOptions.{DelimitedOptions}
use Rattle.delimited_input.specs.Lines.{fields_in, is_empty, is_broken, may_set, sets_columns, columns_of, columns_after, has_columns, delimited_lines, row_reading, filled_reading}
use Rattle.delimited_input.specs.Setting.{first_columns, filled_columns}
use Rattle.delimited_input.specs.Stepping.{columns_step}

mapped_or : {X Y : Type 0} (f : X → Y) (a b : Option X) → option_map f (option_or a b) ≡ option_or (option_map f a) (option_map f b)
mapped_or f None b = refl
mapped_or f (Some x) b = refl

module _ (options : DelimitedOptions) where
  abbrev pub set_by : List ℕ → Columns
  set_by text = columns_of options (fields_in options text)

  -- the columns behind one line more
  pub after_more : (before : List (List ℕ)) (line : List ℕ) → columns_after options (before ++ line ∷ []) ≡ option_or (columns_after options before) (columns_after options (line ∷ []))
  after_more before line =
      ap (option_map set_by) (find-append (may_set options) before (line ∷ []))
      ∙ mapped_or set_by (find (may_set options) before) (find (may_set options) (line ∷ []))

  kept_or : (old : Option Columns) → option_or old None ≡ old
  kept_or None = refl
  kept_or (Some names) = refl

  -- a line that sets none
  after_other : (before : List (List ℕ)) (line : List ℕ) → may_set options line ≡ false → columns_after options (before ++ line ∷ []) ≡ columns_after options before
  after_other before line other =
      let none : columns_after options (line ∷ []) ≡ None = rw other refl in
      after_more before line ∙ (ap (option_or (columns_after options before)) none ∙ kept_or (columns_after options before))

  -- ---- an empty line

  pub empty_reading : (line : List ℕ) (columns : Option Columns) → is_empty line ≡ true → passed ≡ (delimited_lines options).reading line columns
  unfolding delimited_lines
  empty_reading line columns e = rw e refl

  pub empty_columns : (line : List ℕ) (old new : Option Columns) → is_empty line ≡ true → new ≡ old
      → (before : List (List ℕ)) → old ≡ (delimited_lines options).columns_after before → new ≡ (delimited_lines options).columns_after (before ++ line ∷ [])
  unfolding delimited_lines
  empty_columns line old new e same before behind =
      let other : may_set options line ≡ false = rw e refl in
      same ∙ (behind ∙ sym (after_other before line other))

  -- ---- a broken line

  pub broken_reading : (line : List ℕ) (columns : Option Columns) → is_empty line ≡ false → is_broken line ≡ true → bad ≡ (delimited_lines options).reading line columns
  unfolding delimited_lines
  broken_reading line columns filled broken = rw (filled, broken) refl

  pub broken_columns : (line : List ℕ) (old new : Option Columns) → is_empty line ≡ false → is_broken line ≡ true → new ≡ old
      → (before : List (List ℕ)) → old ≡ (delimited_lines options).columns_after before → new ≡ (delimited_lines options).columns_after (before ++ line ∷ [])
  unfolding delimited_lines
  broken_columns line old new filled broken same before behind =
      let other : may_set options line ≡ false = rw (filled, broken) refl in
      same ∙ (behind ∙ sym (after_other before line other))

  -- ---- another line

  pub filled_is : (line : List ℕ) (columns : Option Columns) → is_empty line ≡ false → is_broken line ≡ false → filled_reading options (fields_in options line) columns ≡ (delimited_lines options).reading line columns
  unfolding delimited_lines
  filled_is line columns filled whole = rw (filled, whole) refl

  first_set : (line : List ℕ) → is_empty line ≡ false → is_broken line ≡ false → columns_after options (line ∷ []) ≡ first_columns options (fields_in options line) None
  first_set line filled whole = elim (cases_Bool (sets_columns options (fields_in options line))) [
    | inl sets ↦ rw (filled, whole, sets) refl
    | inr other ↦ rw (filled, whole, other) refl
  ]

  set_more : (line : List ℕ) (old : Option Columns) → is_empty line ≡ false → is_broken line ≡ false → filled_columns options (fields_in options line) old ≡ option_or old (columns_after options (line ∷ []))
  set_more line None filled whole = sym (first_set line filled whole)
  set_more line (Some names) filled whole = refl

  pub filled_behind : (line : List ℕ) (old new : Option Columns) → is_empty line ≡ false → is_broken line ≡ false → new ≡ filled_columns options (fields_in options line) old
      → (before : List (List ℕ)) → old ≡ (delimited_lines options).columns_after before → new ≡ (delimited_lines options).columns_after (before ++ line ∷ [])
  unfolding delimited_lines
  filled_behind line old new filled whole e before behind =
      e ∙ (set_more line old filled whole ∙ (ap (λ (columns : Option Columns). option_or columns (columns_after options (line ∷ []))) behind ∙ sym (after_more before line)))

  -- ---- one line alone, whatever was in force before

  none_step : (line : List ℕ) (old new : Option Columns) → may_set options line ≡ false → new ≡ old → new ≡ columns_step options old line
  none_step line old new other same =
      let none : columns_after options (line ∷ []) ≡ None = rw other refl in
      same ∙ (sym (kept_or old) ∙ ap (option_or old) (sym none))

  pub empty_step : (line : List ℕ) (old new : Option Columns) → is_empty line ≡ true → new ≡ old → new ≡ columns_step options old line
  empty_step line old new e same = none_step line old new (rw e refl) same

  pub broken_step : (line : List ℕ) (old new : Option Columns) → is_empty line ≡ false → is_broken line ≡ true → new ≡ old → new ≡ columns_step options old line
  broken_step line old new filled broken same = none_step line old new (rw (filled, broken) refl) same

  pub filled_step : (line : List ℕ) (old new : Option Columns) → is_empty line ≡ false → is_broken line ≡ false → new ≡ filled_columns options (fields_in options line) old → new ≡ columns_step options old line
  filled_step line old new filled whole e = e ∙ set_more line old filled whole

  -- a line gives one row at most
  row_few : (many : ℕ) (fields : List (List ℕ)) → length (rows_in (row_reading many fields)) ≤ 1
  row_few many fields = elim (cases_Bool (nat_le (length fields) many)) [
    | inl fits ↦ rw fits (omega arith)
    | inr long ↦ rw long (omega arith)
  ]

  filled_few : (fields : List (List ℕ)) (columns : Option Columns) → length (rows_in (filled_reading options fields columns)) ≤ 1
  filled_few fields (Some names) = row_few (length names) fields
  filled_few fields None = elim (cases_Bool options.header_row) [
    | inl header ↦ rw header (omega arith)
    | inr rows_only ↦ elim (cases_Bool (has_columns fields)) [
      | inl fits ↦ rw (rows_only, fits) (omega arith)
      | inr long ↦ rw (rows_only, long) (omega arith)
    ]
  ]

  pub few_rows : (line : List ℕ) (reading : Reading) (fields : List (List ℕ)) (columns : Option Columns) → reading ≡ filled_reading options fields columns → length (rows_in reading) ≤ length line + 1
  few_rows line reading fields columns e = let few = filled_few fields columns in let same = ap (λ r. length (rows_in r)) e in omega (arith, few, same)
