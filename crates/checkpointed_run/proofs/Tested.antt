-- A test that is exact at each of some values, where one of them fails it.
use Rattle.std.proofs.Common.{◌≡◌, ℕ, ◌<◌, Bool, false, List, length, get_or, sym, subst}
use Rattle.std.specs.Prelude.{◌↔◌, IsTrue, All}
use Rattle.std.proofs.lemmas.Bool.{iff_false}
use Rattle.std.proofs.lemmas.List.Elements.{All-get_or}

pub one_fails : {X : Type 0} (P : X → Type 0) (xs : List X) (i : ℕ) (x : X) (b : Bool) → i < length xs → x ≡ get_or xs i x → IsTrue b ↔ P x → b ≡ false → All P xs → ⊥
one_fails P xs i x b here is tests fails all = iff_false tests fails (subst P (sym is) (All-get_or P xs i x here all))
