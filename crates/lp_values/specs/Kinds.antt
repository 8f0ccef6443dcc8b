-- The kind of a value.
use Rattle.lp_values.specs.declared.kind.Kind.{Kind}
use Rattle.lp_values.specs.declared.kind.Kind.TheVariants as K
use Rattle.lp_values.specs.declared.value.Value.{Value}
use Rattle.lp_values.specs.declared.value.Value.TheVariants.{Null, Int, Real, Text, Stamp}

-- NULL has the kind that fits every kind
abbrev pub kind_of : Value → Kind
kind_of Null = K.Any
kind_of (Int number) = K.Integer
kind_of (Real number) = K.Real
kind_of (Text text) = K.Text
kind_of (Stamp stamp) = K.Stamp
