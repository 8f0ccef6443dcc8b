-- Arithmetic on values, over numbers without bound.
use Rattle.std.specs.Prelude.{zero, suc, ◌^◌, Bool, nat_lt, if◌then◌else◌, ℤ, pos, negsuc, ◌+ℤ◌, ◌-ℤ◌, ◌*ℤ◌, int_div, int_rem, Option, Some, None}
use Rattle.std.specs.Int.{int_rem_euclid}
use Rattle.lp_values.specs.declared.value.Value.{Value}
use Rattle.lp_values.specs.declared.value.Value.TheVariants.{Null, Int, Real}
use Rattle.lp_values.specs.declared.numbers.Numbers.{Numbers}
use Rattle.lp_values.specs.declared.numbers.Numbers.TheVariants.{Whole, Decimal, Neither}

abbrev pub is_in_64_bits : ℤ → Bool
is_in_64_bits (pos n) = nat_lt n (2 ^ 63)
is_in_64_bits (negsuc n) = nat_lt n (2 ^ 63)

-- two numbers, in millionths where one of them is a Real
abbrev pub numbers_of : Value → Value → Numbers
numbers_of (Int a) (Int b) = Whole a b
numbers_of (Int a) (Real b) = Decimal (a *ℤ pos 1_000_000) b.millionths
numbers_of (Real a) (Int b) = Decimal a.millionths (b *ℤ pos 1_000_000)
numbers_of (Real a) (Real b) = Decimal a.millionths b.millionths
numbers_of a b = Neither

abbrev pub real_of : ℤ → Value
real_of millionths = Real (record { millionths = millionths })

-- a result, or NULL where there is none in 64 bits
abbrev pub kept : (ℤ → Value) → Option ℤ → Value
kept make None = Null
kept make (Some number) = if is_in_64_bits number then make number else Null

-- one operation on whole numbers and one on millionths
abbrev pub on_numbers : (ℤ → ℤ → Option ℤ) → (ℤ → ℤ → Option ℤ) → Numbers → Value
on_numbers whole decimal (Whole a b) = kept Int (whole a b)
on_numbers whole decimal (Decimal a b) = kept real_of (decimal a b)
on_numbers whole decimal Neither = Null

-- a quotient cut toward zero
abbrev pub quotient : ℤ → ℤ → Option ℤ
quotient a (pos zero) = None
quotient a b = Some (int_div a b)

-- what is left, with the dividend's sign
abbrev pub remainder : ℤ → ℤ → Option ℤ
remainder a (pos zero) = None
remainder a b = Some (int_rem a b)

-- down to a multiple of a number above 0
abbrev pub multiple : ℤ → ℤ → Option ℤ
multiple a (pos zero) = None
multiple a (pos (suc b)) = Some (a -ℤ int_rem_euclid a (pos (suc b)))
multiple a (negsuc b) = None

abbrev pub sum_of : Value → Value → Value
sum_of a b = on_numbers (λ x y. Some (x +ℤ y)) (λ x y. Some (x +ℤ y)) (numbers_of a b)

abbrev pub difference_of : Value → Value → Value
difference_of a b = on_numbers (λ x y. Some (x -ℤ y)) (λ x y. Some (x -ℤ y)) (numbers_of a b)

abbrev pub product_of : Value → Value → Value
product_of a b = on_numbers (λ x y. Some (x *ℤ y)) (λ x y. Some (int_div (x *ℤ y) (pos 1_000_000))) (numbers_of a b)

abbrev pub quotient_of : Value → Value → Value
quotient_of a b = on_numbers quotient (λ x y. quotient (x *ℤ pos 1_000_000) y) (numbers_of a b)

abbrev pub remainder_of : Value → Value → Value
remainder_of a b = on_numbers remainder remainder (numbers_of a b)

abbrev pub quantized_of : Value → Value → Value
quantized_of a b = on_numbers multiple multiple (numbers_of a b)
