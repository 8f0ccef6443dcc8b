-- What numbers and stamps print as is ASCII.
use Rattle.std.proofs.Common.{◌≡◌, ℕ, zero, suc, ◌+◌, ◌/◌, ◌%◌, ◌^◌, ◌<◌, Bool, true, false, List, [], ◌∷◌, ◌++◌, ℤ, FitsSigned, w64, decimal, arith, if◌then◌else◌}
use Rattle.std.specs.Prelude.{unsigned_abs}
use Rattle.std.specs.Int.{is_negative}
use Rattle.std.specs.Str.{IsAscii}
use Rattle.std.specs.Str.Lossy.{utf8_lossy}
use Rattle.std.proofs.lemmas.Fmt.{IsAscii-decimal}
use Rattle.std.proofs.lemmas.Int.{ints}
use Rattle.std.proofs.lemmas.Str.{IsAscii-append, IsUtf8-from_ascii, utf8_lossy-IsUtf8}
use Rattle.std.proofs.lemmas.Str.Ascii.{IsAscii-nil}
use Rattle.lp_values.specs.declared.civil.Civil.{Civil}
use Rattle.lp_values.specs.declared.part.Part.{Part}
use Rattle.lp_values.specs.declared.part.Part.TheVariants as P
use Rattle.lp_values.specs.Digits.{two_digits, four_digits, six_digits}
use Rattle.lp_values.specs.Printed.{printed_real, printed_date, printed_time, printed_stamp}

pub ascii_cons : (b : ℕ) (bs : List ℕ) → b < 128 → IsAscii bs → IsAscii (b ∷ bs)
ascii_cons b bs small rest zero = small
ascii_cons b bs small rest (suc i) = rest i

pub two : (n : ℕ) → IsAscii (two_digits n)
two n = ascii_cons (48 + n / 10 % 10) ((48 + n % 10) ∷ []) (omega arith) (ascii_cons (48 + n % 10) [] (omega arith) IsAscii-nil)

pub four : (n : ℕ) → IsAscii (four_digits n)
four n = IsAscii-append (two_digits (n / 100 % 100)) (two_digits (n % 100)) (two (n / 100 % 100)) (two (n % 100))

six : (n : ℕ) → IsAscii (six_digits n)
six n = IsAscii-append (two_digits (n / 10_000 % 100)) (four_digits (n % 10_000)) (two (n / 10_000 % 100)) (four (n % 10_000))

sign : (b : Bool) → IsAscii (if b then 45 ∷ [] else [])
sign true = ascii_cons 45 [] (omega arith) IsAscii-nil
sign false = IsAscii-nil

-- behind a mark
marked : (front : List ℕ) (mark : ℕ) (back : List ℕ) → mark < 128 → IsAscii front → IsAscii back → IsAscii (front ++ mark ∷ back)
marked front mark back small a b = IsAscii-append front (mark ∷ back) a (ascii_cons mark back small b)

real : (n : ℤ) → FitsSigned w64 n → IsAscii (printed_real n)
real n fits =
    let whole : unsigned_abs n / 1_000_000 < 2 ^ 64 = omega (arith, ints) in
    let front : List ℕ = (if is_negative n then 45 ∷ [] else []) in
    marked (front ++ decimal (unsigned_abs n / 1_000_000)) 46 (six_digits (unsigned_abs n % 1_000_000)) (omega arith) (IsAscii-append front (decimal (unsigned_abs n / 1_000_000)) (sign (is_negative n)) (IsAscii-decimal (unsigned_abs n / 1_000_000) whole)) (six (unsigned_abs n % 1_000_000))

date : (c : Civil) → IsAscii (printed_date c)
date c = marked (four_digits c.year ++ 45 ∷ two_digits c.month) 45 (two_digits c.day) (omega arith) (marked (four_digits c.year) 45 (two_digits c.month) (omega arith) (four c.year) (two c.month)) (two c.day)

time : (c : Civil) → IsAscii (printed_time c)
time c = marked (two_digits c.hour ++ 58 ∷ two_digits c.minute) 58 (two_digits c.second) (omega arith) (marked (two_digits c.hour) 58 (two_digits c.minute) (omega arith) (two c.hour) (two c.minute)) (two c.second)

stamp : (c : Civil) (part : Part) → IsAscii (printed_stamp c part)
stamp c P.Date = date c
stamp c P.Time = time c
stamp c P.Both = marked (printed_date c) 32 (printed_time c) (omega arith) (date c) (time c)

whole : (bs : List ℕ) → IsAscii bs → utf8_lossy bs ≡ bs
whole bs ascii = utf8_lossy-IsUtf8 bs (IsUtf8-from_ascii bs ascii)

pub real_whole : (n : ℤ) → FitsSigned w64 n → utf8_lossy (printed_real n) ≡ printed_real n
real_whole n fits = whole (printed_real n) (real n fits)

pub stamp_whole : (c : Civil) (part : Part) → utf8_lossy (printed_stamp c part) ≡ printed_stamp c part
stamp_whole c part = whole (printed_stamp c part) (stamp c part)
