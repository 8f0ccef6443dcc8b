-- Items that were read one after another, and the layouts that are looked at whole.
use Rattle.std.specs.Prelude.{◌≡◌, ℕ, List, [], ◌∷◌, length, FitsSigned, ℤ}
use Rattle.std.specs.Int.{w64}
use Rattle.ledger_model.specs.Layouts.{Layout, AllFit, spelled, field}
use Rattle.ledger_model.specs.Numbers.{i64_bytes}
use Rattle.ledger_model.specs.Entries.{Kept}
use Rattle.ledger_model.specs.Grammar.{IsKept, IsStamp, kept_bytes}
use Rattle.ledger.specs.Reader.{Stood}

pub record SomeItems {A : Type 0} (item : List A → Layout A) (file : List ℕ) (to from at count : ℕ) : Type 0 where
  pub items : List A
  pub count_is : length items ≡ count
  pub fit : AllFit item [] items
  pub stood : Stood file to from at (spelled item [] items)

-- any number of 64 bits with a sign
abbrev pub any_signed : Layout ℤ
any_signed = field (FitsSigned w64) i64_bytes

abbrev pub kept_field : Layout Kept
kept_field = field IsKept kept_bytes

-- the part and the seconds of a stamp
abbrev pub stamp_bytes : ℕ × ℤ → List ℕ
stamp_bytes stamp = stamp.0 ∷ i64_bytes stamp.1

abbrev pub any_stamp : Layout (ℕ × ℤ)
any_stamp = field (λ stamp. IsStamp stamp.0 stamp.1) stamp_bytes
