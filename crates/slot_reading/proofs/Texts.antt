-- Bytes that are a text, and bytes that aren't.
use Rattle.std.proofs.Common.{◌≡◌, ℕ, Bool, List, Some, None, refl, ap, inl, inr}
use Rattle.std.proofs.lemmas.Bool.{cases_Bool}
use Rattle.std.proofs.lemmas.Str.{is_utf8-from_IsUtf8, IsUtf8-from_is_utf8}
use Rattle.std.specs.Str.{IsUtf8, is_utf8}
use Rattle.slot_reading.specs.Slots.{utf8_text}

pub utf8_text-utf8 : (bytes text : List ℕ) → text ≡ bytes → IsUtf8 bytes → Some text ≡ utf8_text bytes
utf8_text-utf8 bytes text same utf8 = let told = is_utf8-from_IsUtf8 bytes utf8 in rw told (ap Some same)

pub utf8_text-other : (bytes : List ℕ) → ¬ (IsUtf8 bytes) → None ≡ utf8_text bytes
utf8_text-other bytes other =
    elim (cases_Bool (is_utf8 bytes)) [
      | inl e ↦ absurd (other (IsUtf8-from_is_utf8 bytes e))
      | inr e ↦ rw e refl
    ]
