-- Laws of three-valued OR.
use Rattle.std.proofs.Common.{◌≡◌, refl}
use Rattle.lp_values.specs.declared.truth.Truth.{Truth}
use Rattle.lp_values.specs.declared.truth.Truth.TheVariants.{Yes, No, Unknown}
use Rattle.lp_values.specs.Truths.{both, either}

pub either_assoc : (a b c : Truth) → either a (either b c) ≡ either (either a b) c
either_assoc Yes Yes Yes = refl
either_assoc Yes Yes No = refl
either_assoc Yes Yes Unknown = refl
either_assoc Yes No Yes = refl
either_assoc Yes No No = refl
either_assoc Yes No Unknown = refl
either_assoc Yes Unknown Yes = refl
either_assoc Yes Unknown No = refl
either_assoc Yes Unknown Unknown = refl
either_assoc No Yes Yes = refl
either_assoc No Yes No = refl
either_assoc No Yes Unknown = refl
either_assoc No No Yes = refl
either_assoc No No No = refl
either_assoc No No Unknown = refl
either_assoc No Unknown Yes = refl
either_assoc No Unknown No = refl
either_assoc No Unknown Unknown = refl
either_assoc Unknown Yes Yes = refl
either_assoc Unknown Yes No = refl
either_assoc Unknown Yes Unknown = refl
either_assoc Unknown No Yes = refl
either_assoc Unknown No No = refl
either_assoc Unknown No Unknown = refl
either_assoc Unknown Unknown Yes = refl
either_assoc Unknown Unknown No = refl
either_assoc Unknown Unknown Unknown = refl

pub either_no : (a : Truth) → either No a ≡ a
either_no Yes = refl
either_no No = refl
either_no Unknown = refl

pub no_either : (a : Truth) → either a No ≡ a
no_either Yes = refl
no_either No = refl
no_either Unknown = refl

pub either_yes : (a : Truth) → either Yes a ≡ Yes
either_yes Yes = refl
either_yes No = refl
either_yes Unknown = refl

pub both_no : (a : Truth) → both No a ≡ No
both_no Yes = refl
both_no No = refl
both_no Unknown = refl
