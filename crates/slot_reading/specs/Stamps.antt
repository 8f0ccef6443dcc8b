-- Stamps as values.
use Rattle.std.specs.Prelude.{◌≡◌, Bool, true, false, ℤ, refl}
use Rattle.lp_values.specs.declared.part.Part.{Part}
use Rattle.lp_values.specs.declared.value.Value.{Value}
use Rattle.lp_values.specs.declared.value.Value.TheVariants.{Null, Stamp}
use Rattle.slot_reading.specs.Existing.{is_stamp, IsStamp-tested}

-- the stamp, where the test says that there is one
abbrev pub stamp_if : (part : Part) (seconds : ℤ) (exists : Bool) → is_stamp part seconds ≡ exists → Value
stamp_if part seconds true e = Stamp (record { seconds = seconds; part = part; exists = IsStamp-tested part seconds e })
stamp_if part seconds false e = Null

-- the stamp of this part and these seconds, or NULL where there is no such stamp
unfoldable pub stamp_value : Part → ℤ → Value
stamp_value part seconds = stamp_if part seconds (is_stamp part seconds) refl
