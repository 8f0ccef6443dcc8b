-- What a condition of a query means, with the places of its fields, aggregates and GROUPINGs.
use Rattle.std.specs.Prelude.{ℕ, Bool, List, Box}
use Rattle.std.specs.declared.alloc.Global.{Global}
use Rattle.in_set.specs.Facts.{Facts}
use Rattle.lp_values.specs.declared.comparison.Compare.{Compare}
use Rattle.senses.specs.declared.check.SenseCheck.{SenseCheck, Or', And', Not', Compare as Compares, IsNull, Like, Between, Within, Contained}
use Rattle.senses.specs.Senses.{Sense, sense_of, listed_senses}

pub data Check : Type 0 where
  either : Check → Check → Check
  both : Check → Check → Check
  opposite : Check → Check
  compared : Compare → Sense → Sense → Check
  null : Sense → Bool → Check
  like : Sense → List ℕ → Bool → Check
  between : Sense → Sense → Sense → Bool → Check
  within : Sense → List Sense → Bool → Check
  contained : Sense → Facts → Bool → Check

-- the same, less where it lies in memory
abbrev pub check_of : SenseCheck → Check
check_of (Or' p a q b) = either (check_of a) (check_of b)
check_of (And' p a q b) = both (check_of a) (check_of b)
check_of (Not' p a) = opposite (check_of a)
check_of (Compares how left right) = compared how (sense_of left) (sense_of right)
check_of (IsNull value negated) = null (sense_of value) negated
check_of (Like value pattern negated) = like (sense_of value) pattern negated
check_of (Between value low high negated) = between (sense_of value) (sense_of low) (sense_of high) negated
check_of (Within value items negated) = within (sense_of value) (listed_senses items) negated
check_of (Contained value values negated) = contained (sense_of value) values.value negated

abbrev pub boxed_check : Box SenseCheck Global → Check
boxed_check box = check_of box.value
