-- Comparing with NULL.
use Rattle.std.proofs.Common.{◌≡◌, refl}
use Rattle.lp_values.specs.declared.comparison.Compare.{Compare}
use Rattle.lp_values.specs.declared.truth.Truth.TheVariants.{Unknown}
use Rattle.lp_values.specs.declared.value.Value.{Value}
use Rattle.lp_values.specs.declared.value.Value.TheVariants.{Null, Int, Real, Text, Stamp}
use Rattle.lp_values.specs.Comparing.{compared}

pub null_left : (how : Compare) (b : Value) → compared how Null b ≡ Unknown
null_left how b = refl

pub null_right : (how : Compare) (a : Value) → compared how a Null ≡ Unknown
null_right how Null = refl
null_right how (Int a) = refl
null_right how (Real a) = refl
null_right how (Text a) = refl
null_right how (Stamp a) = refl
