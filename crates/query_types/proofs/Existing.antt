-- Where there is no stamp.
use Rattle.std.proofs.Common.{◌≡◌, ℤ, Bool, true, false, refl}
use Rattle.lp_values.specs.declared.part.Part.{Part}
use Rattle.lp_values.specs.declared.value.Value.TheVariants as V
use Rattle.lp_values.specs.Stamps.{IsStamp}
use Rattle.slot_reading.specs.Existing.{is_stamp, IsStamp-tested}
use Rattle.slot_reading.specs.Stamps.{stamp_if, stamp_value}

none_if : (part : Part) (seconds : ℤ) (exists : Bool) (e : is_stamp part seconds ≡ exists) → (IsStamp seconds part → ⊥) → stamp_if part seconds exists e ≡ V.Null
none_if part seconds true e none = absurd (none (IsStamp-tested part seconds e))
none_if part seconds false e none = refl

pub no_stamp : (part : Part) (seconds : ℤ) → (IsStamp seconds part → ⊥) → stamp_value part seconds ≡ V.Null
unfolding stamp_value
no_stamp part seconds none = none_if part seconds (is_stamp part seconds) refl none
