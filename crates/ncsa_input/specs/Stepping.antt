-- The columns in force, line by line: there are none.
use Rattle.std.specs.Prelude.{◌≡◌, ℕ, List, [], ◌∷◌, ◌++◌, refl}
use Rattle.ncsa_input.specs.Lines.{ncsa_lines}

pub no_columns_set : (before : List (List ℕ)) (line : List ℕ) → ncsa_lines.columns_after (before ++ line ∷ []) ≡ ncsa_lines.columns_after before
unfolding ncsa_lines
no_columns_set before line = refl
