-- Values that stand for NULL.
use Rattle.std.specs.Prelude.{Bool, true, false, not, ◌||◌, List, [], ◌∷◌, find, if◌then◌else◌, Option, Some, None}
use Rattle.std.specs.List.{list_all}
use Rattle.lp_values.specs.declared.kind.Kind.{Kind}
use Rattle.lp_values.specs.declared.kind.Kind.TheVariants as K
use Rattle.lp_values.specs.declared.value.Value.{Value}
use Rattle.lp_values.specs.declared.value.Value.TheVariants.{Null}
use Rattle.lp_values.specs.Kinds.{kind_of}
use Rattle.lp_functions.specs.declared.function.Function.{Function}
use Rattle.lp_functions.specs.declared.function.Function.TheVariants as f
use Rattle.lp_functions.specs.Fitting.{same_kind}

-- the functions that may give a value where an argument is NULL
abbrev pub is_choice : Function → Bool
is_choice f.Coalesce = true
is_choice f.ReplaceIfNull = true
is_choice f.ReplaceIfNotNull = true
is_choice function = false

abbrev pub is_null : Value → Bool
is_null Null = true
is_null value = false

-- the first value that isn't NULL
abbrev pub first_value : List Value → Option Value
first_value values = find (λ value. not (is_null value)) values

-- NULL, or a value of this kind
abbrev pub is_of : Kind → Value → Bool
is_of kind value = same_kind (kind_of value) K.Any || same_kind (kind_of value) kind

abbrev pub chosen : Option Value → List Value → Value
chosen None values = Null
chosen (Some first) values = if list_all (is_of (kind_of first)) values then first else Null

-- COALESCE, of values of one kind
abbrev pub coalesced : List Value → Value
coalesced values = chosen (first_value values) values

-- REPLACE_IF_NULL, of values of one kind
abbrev pub replaced_if_null : Value → Value → Value
replaced_if_null a b = coalesced (a ∷ b ∷ [])

-- REPLACE_IF_NOT_NULL
abbrev pub replaced_if_not_null : Value → Value → Value
replaced_if_not_null Null b = Null
replaced_if_not_null a b = b
