-- What is told of a value by a kind.
use Rattle.std.specs.Prelude.{Bool, true, false, ◌&&◌, ◌||◌, List, [], ◌∷◌}
use Rattle.lp_values.specs.declared.kind.Kind.{Kind}
use Rattle.lp_values.specs.declared.kind.Kind.TheVariants as K
use Rattle.lp_values.specs.declared.value.Value.{Value}
use Rattle.lp_functions.specs.Choices.{is_of}
use Rattle.lp_functions.specs.Fitting.{same_kind}

-- as many values as kinds, each NULL or of its kind
abbrev pub are_of : List Kind → List Value → Bool
are_of [] [] = true
are_of [] (value ∷ values) = false
are_of (kind ∷ kinds) [] = false
are_of (kind ∷ kinds) (value ∷ values) = is_of kind value && are_of kinds values

-- NULL, or of this kind, of which Any tells nothing
abbrev pub agrees : Kind → Value → Bool
agrees kind value = same_kind kind K.Any || is_of kind value
