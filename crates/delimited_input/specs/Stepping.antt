-- The columns in force, line by line.
use Rattle.std.specs.Prelude.{◌≡◌, ℕ, List, [], ◌∷◌, ◌++◌, Option, Some, None, option_map, refl}
use Rattle.std.specs.Option.{option_or}
use Rattle.std.specs.List.{find}
use Rattle.std.proofs.Common.{ap, ◌∙◌}
use Rattle.std.proofs.lemmas.List.Folds.{find-append}
use Rattle.lp_model.specs.Reading.{Columns}
use Rattle.delimited_input.specs.declared.options.DelimitedOptions.{DelimitedOptions}
use Rattle.delimited_input.specs.Lines.{fields_in, may_set, columns_of, columns_after, delimited_lines}

-- columns that are in force stay; where there are none a line may set them
abbrev pub columns_step : DelimitedOptions → Option Columns → List ℕ → Option Columns
columns_step options columns text = option_or columns (columns_after options (text ∷ []))

mapped_or : {X Y : Type 0} (f : X → Y) (a b : Option X) → option_map f (option_or a b) ≡ option_or (option_map f a) (option_map f b)
mapped_or f None b = refl
mapped_or f (Some x) b = refl

-- looking back finds what the steps lead to
pub steps_look_back : (options : DelimitedOptions) (before : List (List ℕ)) (line : List ℕ) → (delimited_lines options).columns_after (before ++ line ∷ []) ≡ columns_step options ((delimited_lines options).columns_after before) line
unfolding delimited_lines
steps_look_back options before line =
    let set : List ℕ → Columns = λ text. columns_of options (fields_in options text) in
    ap (option_map set) (find-append (may_set options) before (line ∷ [])) ∙ mapped_or set (find (may_set options) before) (find (may_set options) (line ∷ []))
