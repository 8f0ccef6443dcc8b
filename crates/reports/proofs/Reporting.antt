-- Three pieces, one behind the other: what an output has gained of them where it fails, and at the end.
use Rattle.std.proofs.Common.{ℕ, List, ◌++◌, Option}
use Rattle.lp_model.specs.Outside.{Gains, GainsSome}
use Rattle.lp_model.proofs.Gaining.{Gains_trans, GainsSome_front, GainsSome_later}

pub some_of_first : (a b : Option (List ℕ)) (x y z : List ℕ) → GainsSome a b x → GainsSome a b (x ++ y ++ z)
some_of_first a b x y z some = GainsSome_front a b (x ++ y) z (GainsSome_front a b x y some)

pub some_of_second : (a b c : Option (List ℕ)) (x y z : List ℕ) → Gains a b x → GainsSome b c y → GainsSome a c (x ++ y ++ z)
some_of_second a b c x y z first some = GainsSome_front a c (x ++ y) z (GainsSome_later a b c x y first some)

pub some_of_third : (a b c d : Option (List ℕ)) (x y z : List ℕ) → Gains a b x → Gains b c y → GainsSome c d z → GainsSome a d (x ++ y ++ z)
some_of_third a b c d x y z first second some = GainsSome_later a c d (x ++ y) z (Gains_trans a b c x y first second) some

pub all_three : (a b c d : Option (List ℕ)) (x y z : List ℕ) → Gains a b x → Gains b c y → Gains c d z → Gains a d (x ++ y ++ z)
all_three a b c d x y z first second third = Gains_trans a c d (x ++ y) z (Gains_trans a b c x y first second) third
