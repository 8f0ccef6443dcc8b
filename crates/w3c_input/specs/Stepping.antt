-- The columns in force, line by line.
use Rattle.std.specs.Prelude.{◌≡◌, ℕ, true, false, List, [], ◌∷◌, ◌++◌, reverse, Option, Some, None, is_some, refl}
use Rattle.std.specs.Option.{option_or}
use Rattle.std.proofs.Common.{sym, ◌∙◌, inl, inr}
use Rattle.std.proofs.lemmas.Bool.{cases_Bool, false≢true}
use Rattle.std.proofs.lemmas.List.{reverse-append}
use Rattle.lp_model.specs.Reading.{Columns}
use Rattle.w3c_input.specs.Lines.{columns_set, sets_columns, columns_after, w3c_lines}

-- what a line sets is in force behind it, and else what was in force before
abbrev pub columns_step : Option Columns → List ℕ → Option Columns
columns_step columns text = option_or (columns_set text) columns

last_first : (before : List (List ℕ)) (line : List ℕ) → reverse (before ++ line ∷ []) ≡ line ∷ reverse before
last_first before line = reverse-append before (line ∷ [])

-- the columns behind one line more
pub after_setting : (before : List (List ℕ)) (line : List ℕ) → sets_columns line ≡ true → columns_after (before ++ line ∷ []) ≡ columns_set line
after_setting before line sets = Prim.rw (last_first before line, sets) refl

pub after_other : (before : List (List ℕ)) (line : List ℕ) → sets_columns line ≡ false → columns_after (before ++ line ∷ []) ≡ columns_after before
after_other before line other = Prim.rw (last_first before line, other) refl

first_set : (set columns : Option Columns) → is_some set ≡ true → option_or set columns ≡ set
first_set None columns sets = absurd (false≢true sets)
first_set (Some names) columns sets = refl

none_set : (set columns : Option Columns) → is_some set ≡ false → option_or set columns ≡ columns
none_set None columns other = refl
none_set (Some names) columns other = absurd (false≢true (sym other))

-- looking back finds what the steps lead to
pub steps_look_back : (before : List (List ℕ)) (line : List ℕ) → w3c_lines.columns_after (before ++ line ∷ []) ≡ columns_step (w3c_lines.columns_after before) line
unfolding w3c_lines
steps_look_back before line = elim (cases_Bool (sets_columns line)) [
  | inl sets ↦ after_setting before line sets ∙ sym (first_set (columns_set line) (columns_after before) sets)
  | inr other ↦ after_other before line other ∙ sym (none_set (columns_set line) (columns_after before) other)
]
