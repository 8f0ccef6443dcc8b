-- How large two numbers are.
use Rattle.std.specs.Prelude.{◌≤◌, ◌*◌, ◌^◌, unsigned_abs}
use Rattle.std.specs.Bool.{⊤}
use Rattle.lp_values.specs.declared.numbers.Numbers.{Numbers}
use Rattle.lp_values.specs.declared.numbers.Numbers.TheVariants.{Whole, Decimal, Neither}

-- whole numbers of 64 bits in millionths leave room in 128 bits
abbrev pub IsSmall : Numbers → Type 0
IsSmall (Whole a b) = ⊤
IsSmall (Decimal a b) = (unsigned_abs a ≤ 2 ^ 63 * 1_000_000) × (unsigned_abs b ≤ 2 ^ 63 * 1_000_000)
IsSmall Neither = ⊤
