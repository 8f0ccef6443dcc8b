-- Comparing values by SQL's rules.
use Rattle.std.specs.Prelude.{◌≡◌, Bool, true, false, not, pos, ◌*ℤ◌, Option, Some, None}
use Rattle.std.specs.declared.cmp.Ordering.{Ordering}
use Rattle.std.specs.declared.cmp.Ordering.TheVariants.{Less, Equal, Greater}
use Rattle.std.specs.Ordering.{nat_cmp, int_cmp, is_eq, is_lt, is_gt}
use Rattle.std.specs.Cmp.Lexicographic.{slice_cmp}
use Rattle.lp_values.specs.declared.comparison.Compare.{Compare}
use Rattle.lp_values.specs.declared.comparison.Compare.TheVariants as C
use Rattle.lp_values.specs.declared.truth.Truth.{Truth}
use Rattle.lp_values.specs.declared.truth.Truth.TheVariants.{Yes, No, Unknown}
use Rattle.lp_values.specs.declared.value.Value.{Value}
use Rattle.lp_values.specs.declared.value.Value.TheVariants.{Int, Real, Text, Stamp}
use Rattle.lp_values.specs.Order.{order_of}

-- how two values stand to each other; NULL and kinds that don't fit have no answer
abbrev pub standing : Value → Value → Option Ordering
standing (Int a) (Int b) = Some (int_cmp a b)
standing (Int a) (Real b) = Some (int_cmp (a *ℤ pos 1_000_000) b.millionths)
standing (Real a) (Int b) = Some (int_cmp a.millionths (b *ℤ pos 1_000_000))
standing (Real a) (Real b) = Some (int_cmp a.millionths b.millionths)
standing (Text a) (Text b) = Some (slice_cmp nat_cmp a b)
standing (Stamp a) (Stamp b) = Some (int_cmp a.seconds b.seconds)
standing a b = None

-- whether a comparison holds of values that stand so
abbrev pub holds : Compare → Ordering → Bool
holds C.Equal stands = is_eq stands
holds C.NotEqual stands = not (is_eq stands)
holds C.Less stands = is_lt stands
holds C.More stands = is_gt stands
holds C.LessEqual stands = not (is_gt stands)
holds C.MoreEqual stands = not (is_lt stands)

abbrev pub truth_of : Bool → Truth
truth_of true = Yes
truth_of false = No

abbrev pub judged : Compare → Option Ordering → Truth
judged how None = Unknown
judged how (Some stands) = truth_of (holds how stands)

abbrev pub compared : Compare → Value → Value → Truth
compared how a b = judged how (standing a b)

-- two values of one kind stand as the order puts them; it also parts stamps of equal seconds
pub record AgreesWithOrder (a b : Value) : Type 0 where
  pub less : standing a b ≡ Some Less → order_of a b ≡ Less
  pub more : standing a b ≡ Some Greater → order_of a b ≡ Greater
  pub equal : order_of a b ≡ Equal → standing a b ≡ Some Equal
