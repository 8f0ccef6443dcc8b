-- NULL among the arguments.
use Rattle.std.proofs.Common.{◌≡◌, true, false, ◌⊎◌, inl, inr, List, [], ◌∷◌, refl}
use Rattle.std.specs.List.{list_any}
use Rattle.lp_values.specs.declared.value.Value.{Value}
use Rattle.lp_values.specs.declared.value.Value.TheVariants as V
use Rattle.lp_functions.specs.declared.function.Function.{Function}
use Rattle.lp_functions.specs.declared.function.Function.TheVariants as f
use Rattle.lp_functions.specs.Applied.{applied, applied_to_one, applied_to_two, applied_to_three, applied_to_more}
use Rattle.lp_functions.specs.Choices.{is_choice, is_null}

one : (function : Function) → applied_to_one function V.Null ≡ V.Null
one f.Strlen = refl
one f.ToLowercase = refl
one f.ToUppercase = refl
one f.Trim = refl
one f.Ltrim = refl
one f.Rtrim = refl
one f.ExtractFilename = refl
one f.ExtractPath = refl
one f.ExtractExtension = refl
one f.Urlescape = refl
one f.Urlunescape = refl
one f.Ipv4ToInt = refl
one f.ToString = refl
one f.ToInt = refl
one f.ToReal = refl
one f.ToDate = refl
one f.ToTime = refl
one f.IntToIpv4 = refl
one function = refl

first_of_two : (function : Function) (b : Value) → is_choice function ≡ false → applied_to_two function V.Null b ≡ V.Null
first_of_two f.Add b e = refl
first_of_two f.Sub b e = refl
first_of_two f.Mul b e = refl
first_of_two f.Div b e = refl
first_of_two f.Mod b e = refl
first_of_two f.Quantize b e = refl
first_of_two f.Strcat b e = refl
first_of_two f.Strcnt b e = refl
first_of_two f.IndexOf b e = refl
first_of_two f.LastIndexOf b e = refl
first_of_two f.ExtractValue b e = refl
first_of_two f.Substr b e = refl
first_of_two f.ExtractToken b e = refl
first_of_two f.ToString b e = refl
first_of_two f.ToTimestamp b e = refl
first_of_two f.Coalesce b e = cc
first_of_two f.ReplaceIfNull b e = cc
first_of_two f.ReplaceIfNotNull b e = cc
first_of_two function b e = refl

second_of_two : (function : Function) (a : Value) → is_choice function ≡ false → applied_to_two function a V.Null ≡ V.Null
second_of_two f.Add V.Null e = refl
second_of_two f.Add (V.Int n) e = refl
second_of_two f.Add (V.Real r) e = refl
second_of_two f.Add (V.Text t) e = refl
second_of_two f.Add (V.Stamp s) e = refl
second_of_two f.Sub V.Null e = refl
second_of_two f.Sub (V.Int n) e = refl
second_of_two f.Sub (V.Real r) e = refl
second_of_two f.Sub (V.Text t) e = refl
second_of_two f.Sub (V.Stamp s) e = refl
second_of_two f.Mul V.Null e = refl
second_of_two f.Mul (V.Int n) e = refl
second_of_two f.Mul (V.Real r) e = refl
second_of_two f.Mul (V.Text t) e = refl
second_of_two f.Mul (V.Stamp s) e = refl
second_of_two f.Div V.Null e = refl
second_of_two f.Div (V.Int n) e = refl
second_of_two f.Div (V.Real r) e = refl
second_of_two f.Div (V.Text t) e = refl
second_of_two f.Div (V.Stamp s) e = refl
second_of_two f.Mod V.Null e = refl
second_of_two f.Mod (V.Int n) e = refl
second_of_two f.Mod (V.Real r) e = refl
second_of_two f.Mod (V.Text t) e = refl
second_of_two f.Mod (V.Stamp s) e = refl
second_of_two f.Quantize V.Null e = refl
second_of_two f.Quantize (V.Int n) e = refl
second_of_two f.Quantize (V.Real r) e = refl
second_of_two f.Quantize (V.Text t) e = refl
second_of_two f.Quantize (V.Stamp s) e = refl
second_of_two f.Strcat V.Null e = refl
second_of_two f.Strcat (V.Int n) e = refl
second_of_two f.Strcat (V.Real r) e = refl
second_of_two f.Strcat (V.Text t) e = refl
second_of_two f.Strcat (V.Stamp s) e = refl
second_of_two f.Strcnt V.Null e = refl
second_of_two f.Strcnt (V.Int n) e = refl
second_of_two f.Strcnt (V.Real r) e = refl
second_of_two f.Strcnt (V.Text t) e = refl
second_of_two f.Strcnt (V.Stamp s) e = refl
second_of_two f.IndexOf V.Null e = refl
second_of_two f.IndexOf (V.Int n) e = refl
second_of_two f.IndexOf (V.Real r) e = refl
second_of_two f.IndexOf (V.Text t) e = refl
second_of_two f.IndexOf (V.Stamp s) e = refl
second_of_two f.LastIndexOf V.Null e = refl
second_of_two f.LastIndexOf (V.Int n) e = refl
second_of_two f.LastIndexOf (V.Real r) e = refl
second_of_two f.LastIndexOf (V.Text t) e = refl
second_of_two f.LastIndexOf (V.Stamp s) e = refl
second_of_two f.ExtractValue V.Null e = refl
second_of_two f.ExtractValue (V.Int n) e = refl
second_of_two f.ExtractValue (V.Real r) e = refl
second_of_two f.ExtractValue (V.Text t) e = refl
second_of_two f.ExtractValue (V.Stamp s) e = refl
second_of_two f.Substr V.Null e = refl
second_of_two f.Substr (V.Int n) e = refl
second_of_two f.Substr (V.Real r) e = refl
second_of_two f.Substr (V.Text t) e = refl
second_of_two f.Substr (V.Stamp s) e = refl
second_of_two f.ExtractToken V.Null e = refl
second_of_two f.ExtractToken (V.Int n) e = refl
second_of_two f.ExtractToken (V.Real r) e = refl
second_of_two f.ExtractToken (V.Text t) e = refl
second_of_two f.ExtractToken (V.Stamp s) e = refl
second_of_two f.ToString V.Null e = refl
second_of_two f.ToString (V.Int n) e = refl
second_of_two f.ToString (V.Real r) e = refl
second_of_two f.ToString (V.Text t) e = refl
second_of_two f.ToString (V.Stamp s) e = refl
second_of_two f.ToTimestamp V.Null e = refl
second_of_two f.ToTimestamp (V.Int n) e = refl
second_of_two f.ToTimestamp (V.Real r) e = refl
second_of_two f.ToTimestamp (V.Text t) e = refl
second_of_two f.ToTimestamp (V.Stamp s) e = refl
second_of_two f.Coalesce a e = cc
second_of_two f.ReplaceIfNull a e = cc
second_of_two f.ReplaceIfNotNull a e = cc
second_of_two function a e = refl

first_of_three : (function : Function) (b c : Value) → is_choice function ≡ false → applied_to_three function V.Null b c ≡ V.Null
first_of_three f.Substr b c e = refl
first_of_three f.ReplaceStr b c e = refl
first_of_three f.ReplaceChr b c e = refl
first_of_three f.ExtractToken b c e = refl
first_of_three f.ExtractValue b c e = refl
first_of_three f.ExtractPrefix b c e = refl
first_of_three f.ExtractSuffix b c e = refl
first_of_three f.Coalesce b c e = cc
first_of_three function b c e = refl

second_of_three : (function : Function) (a c : Value) → is_choice function ≡ false → applied_to_three function a V.Null c ≡ V.Null
second_of_three f.Substr (V.Text t) c e = refl
second_of_three f.Substr a c e = refl
second_of_three f.ReplaceStr (V.Text t) c e = refl
second_of_three f.ReplaceStr a c e = refl
second_of_three f.ReplaceChr (V.Text t) c e = refl
second_of_three f.ReplaceChr a c e = refl
second_of_three f.ExtractToken (V.Text t) c e = refl
second_of_three f.ExtractToken a c e = refl
second_of_three f.ExtractValue (V.Text t) c e = refl
second_of_three f.ExtractValue a c e = refl
second_of_three f.ExtractPrefix (V.Text t) c e = refl
second_of_three f.ExtractPrefix a c e = refl
second_of_three f.ExtractSuffix (V.Text t) c e = refl
second_of_three f.ExtractSuffix a c e = refl
second_of_three f.Coalesce a c e = cc
second_of_three function a c e = refl

third_of_three : (function : Function) (a b : Value) → is_choice function ≡ false → applied_to_three function a b V.Null ≡ V.Null
third_of_three f.Substr (V.Text t) (V.Int n) e = refl
third_of_three f.Substr (V.Text t) b e = refl
third_of_three f.Substr a b e = refl
third_of_three f.ReplaceStr (V.Text t) (V.Text u) e = refl
third_of_three f.ReplaceStr (V.Text t) b e = refl
third_of_three f.ReplaceStr a b e = refl
third_of_three f.ReplaceChr (V.Text t) (V.Text u) e = refl
third_of_three f.ReplaceChr (V.Text t) b e = refl
third_of_three f.ReplaceChr a b e = refl
third_of_three f.ExtractToken (V.Text t) (V.Int n) e = refl
third_of_three f.ExtractToken (V.Text t) b e = refl
third_of_three f.ExtractToken a b e = refl
third_of_three f.ExtractValue (V.Text t) (V.Text u) e = refl
third_of_three f.ExtractValue (V.Text t) b e = refl
third_of_three f.ExtractValue a b e = refl
third_of_three f.ExtractPrefix (V.Text t) (V.Int n) e = refl
third_of_three f.ExtractPrefix (V.Text t) b e = refl
third_of_three f.ExtractPrefix a b e = refl
third_of_three f.ExtractSuffix (V.Text t) (V.Int n) e = refl
third_of_three f.ExtractSuffix (V.Text t) b e = refl
third_of_three f.ExtractSuffix a b e = refl
third_of_three f.Coalesce a b e = cc
third_of_three function a b e = refl

further : (function : Function) (values : List Value) → is_choice function ≡ false → applied_to_more function values ≡ V.Null
further f.Coalesce values e = cc
further function values e = refl

-- which of the first is NULL, or that some later one is
is_first : (a : Value) (values : List Value) → list_any is_null (a ∷ values) ≡ true → (a ≡ V.Null) ⊎ (list_any is_null values ≡ true)
is_first V.Null values e = inl refl
is_first (V.Int n) values e = inr e
is_first (V.Real r) values e = inr e
is_first (V.Text t) values e = inr e
is_first (V.Stamp s) values e = inr e

nowhere : (list_any is_null [] ≡ true) → ⊥
nowhere e = cc

-- a NULL argument gives NULL
pub null_given : (function : Function) → is_choice function ≡ false → (values : List Value) → list_any is_null values ≡ true → applied function values ≡ V.Null
null_given function other [] e = refl
null_given function other (a ∷ []) e = elim (is_first a [] e) [ inl first ↦ rw first (one function) | inr later ↦ absurd (nowhere later) ]
null_given function other (a ∷ b ∷ []) e =
    elim (is_first a (b ∷ []) e) [
      | inl first ↦ rw first (first_of_two function b other)
      | inr later ↦ elim (is_first b [] later) [ inl second ↦ rw second (second_of_two function a other) | inr last ↦ absurd (nowhere last) ]
    ]
null_given function other (a ∷ b ∷ c ∷ []) e =
    elim (is_first a (b ∷ c ∷ []) e) [
      | inl first ↦ rw first (first_of_three function b c other)
      | inr later ↦ elim (is_first b (c ∷ []) later) [
        | inl second ↦ rw second (second_of_three function a c other)
        | inr last ↦ elim (is_first c [] last) [ inl third ↦ rw third (third_of_three function a b other) | inr none ↦ absurd (nowhere none) ]
      ]
    ]
null_given function other (a ∷ b ∷ c ∷ d ∷ values) e = further function (a ∷ b ∷ c ∷ d ∷ values) other
