-- The stamps of values are those of entries.
use Rattle.std.proofs.Common.{arith, refl, lit<}
use Rattle.std.specs.Prelude.{ℤ}
use Rattle.ledger.specs.Written.{part_code}
use Rattle.ledger_model.specs.Grammar.{IsStamp}
use Rattle.lp_values.specs.declared.part.Part.{Part}
use Rattle.lp_values.specs.declared.part.Part.TheVariants.{Date, Time, Both}
use Rattle.lp_values.specs.Stamps.{IsStamp as IsStampOf}

pub stamp_kept : (part : Part) (seconds : ℤ) → IsStampOf seconds part → IsStamp (part_code part) seconds
stamp_kept Date seconds is = record { low = is.in_years.0; high = is.in_years.1; known = lit< tt; whole_day = λ e. is.whole_day refl; first_day = λ e. absurd (omega (arith, e)) }
stamp_kept Time seconds is = record { low = is.in_years.0; high = is.in_years.1; known = lit< tt; whole_day = λ e. absurd (omega (arith, e)); first_day = λ e. is.first_day refl }
stamp_kept Both seconds is = record { low = is.in_years.0; high = is.in_years.1; known = lit< tt; whole_day = λ e. absurd (omega (arith, e)); first_day = λ e. absurd (omega (arith, e)) }
