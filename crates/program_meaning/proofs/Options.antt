-- What words ask for, their options alone ask for too.
use Rattle.std.proofs.Common.{◌≡◌, ℕ, suc, ◌+◌, Bool, true, false, true≢false, ◌&&◌, ◌==◌, List, [], ◌∷◌, take, map, filter, cond, Option, Some, None, inl, inr, refl, sym, ◌∙◌, ap, arith}
use Rattle.std.specs.Prelude.{find, option_map, option_and_then, unwrap_or, codes}
use Rattle.std.specs.Char.{to_ascii_lowercase}
use Rattle.std.specs.List.{list_any, before_first, position_or_len}
use Rattle.std.proofs.lemmas.Bool.{cases_Bool}
use Rattle.std.proofs.lemmas.Bool.Decides.{nat_tests}
use Rattle.std.proofs.lemmas.Slice.Eq.{bytes_eq-Decides}
use Rattle.command_words.specs.declared.setting.Setting.{Setting}
use Rattle.command_words.specs.declared.setting.Setting.TheVariants as S
use Rattle.command_words.specs.Settings.{setting_name}
use Rattle.command_words.specs.Table.{errors_of, file_mode_of, rotation_of}
use Rattle.command_words.specs.Texts.{same_text}
use Rattle.command_words.specs.Values.{errors_in, mode_in, rotation_in}
use Rattle.command_words.specs.Words.{is_option, is_colon, gives, value_in, given, options_in}

-- each name begins with `-`
name_front : (setting : Setting) → (rest : List ℕ) × (setting_name setting ≡ 45 ∷ rest)
name_front S.Input = (_, refl)
name_front S.Output = (_, refl)
name_front S.Errors = (_, refl)
name_front S.Stats = (_, refl)
name_front S.Checkpoint = (_, refl)
name_front S.Rotation = (_, refl)
name_front S.HeaderRow = (_, refl)
name_front S.SampleLines = (_, refl)
name_front S.TimeFormat = (_, refl)
name_front S.Separator = (_, refl)
name_front S.RowsToPage = (_, refl)
name_front S.Headers = (_, refl)
name_front S.OutSeparator = (_, refl)
name_front S.FileMode = (_, refl)
name_front S.Template = (_, refl)

both_true : (a b : Bool) → (a && b) ≡ true → b ≡ true
both_true true b is = is
both_true false b is = absurd (true≢false (sym is))

dash : (b : ℕ) → to_ascii_lowercase b ≡ 45 → b ≡ 45
dash b is = grind (arith, nat_tests)

is_dash : (b : ℕ) → b ≡ 45 → (b == 45) ≡ true
is_dash b is = grind (arith, nat_tests)

take_next : (n b : ℕ) (bytes : List ℕ) → take (1 + n) (b ∷ bytes) ≡ b ∷ take n bytes
take_next n b bytes = ap (λ (k : ℕ). take k (b ∷ bytes)) one
  where
    one : 1 + n ≡ suc n
    one = omega arith

gives_option : (setting : Setting) (word : List ℕ) → gives setting word ≡ true → is_option word ≡ true
gives_option setting [] is = absurd (true≢false (sym is))
gives_option setting (b ∷ bytes) is =
    let front = name_front setting in
    let text = both_true (list_any is_colon (b ∷ bytes)) (same_text (before_first is_colon (b ∷ bytes)) (setting_name setting)) is in
    let named : map to_ascii_lowercase (before_first is_colon (b ∷ bytes)) ≡ 45 ∷ map to_ascii_lowercase front.0 =
    (bytes_eq-Decides (map to_ascii_lowercase (before_first is_colon (b ∷ bytes))) (map to_ascii_lowercase (setting_name setting))).0 text ∙ ap (map to_ascii_lowercase) front.1 in
    elim (cases_Bool (is_colon b)) [
      | inl colon ↦ let none : [] ≡ 45 ∷ map to_ascii_lowercase front.0 = rw colon at named in absurd (cc)
      | inr other ↦
          let rest : ℕ = position_or_len is_colon bytes in
          let all : map to_ascii_lowercase (take (1 + rest) (b ∷ bytes)) ≡ 45 ∷ map to_ascii_lowercase front.0 = rw other at named in
          let same : to_ascii_lowercase b ∷ map to_ascii_lowercase (take rest bytes) ≡ 45 ∷ map to_ascii_lowercase front.0 = ap (map to_ascii_lowercase) (sym (take_next rest b bytes)) ∙ all in
          let first : to_ascii_lowercase b ≡ 45 = cc in
          is_dash b (dash b first)
    ]

find_filter : (p q : List ℕ → Bool) → ((x : List ℕ) → p x ≡ true → q x ≡ true) → (xs : List (List ℕ)) → find p (filter q xs) ≡ find p xs
find_filter p q only [] = refl
find_filter p q only (x ∷ xs) = elim (cases_Bool (q x)) [
  | inl kept ↦ rw kept (ap (λ (r : Option (List ℕ)). cond (p x) (Some x) r) (find_filter p q only xs))
  | inr left ↦ elim (cases_Bool (p x)) [ inl is ↦ absurd (true≢false (sym (only x is) ∙ left)) | inr fails ↦ rw (left, fails) (find_filter p q only xs) ]
]

pub given_by_options : (setting : Setting) (words : List (List ℕ)) → given setting (options_in words) ≡ given setting words
given_by_options setting words = ap (option_map value_in) (find_filter (gives setting) is_option (gives_option setting) words)

pub errors_by_options : (words : List (List ℕ)) → errors_of (options_in words) ≡ errors_of words
errors_by_options words = ap (λ (g : Option (List ℕ)). unwrap_or (option_and_then errors_in g) None) (given_by_options S.Errors words)

pub mode_by_options : (words : List (List ℕ)) → file_mode_of (options_in words) ≡ file_mode_of words
mode_by_options words = ap (λ (g : Option (List ℕ)). unwrap_or (option_and_then mode_in g) Rattle.command_words.specs.declared.modes.FileMode.TheVariants.Overwrite) (given_by_options S.FileMode words)

pub rotation_by_options : (words : List (List ℕ)) → rotation_of (options_in words) ≡ rotation_of words
rotation_by_options words = ap (λ (g : Option (List ℕ)). unwrap_or (option_and_then rotation_in g) Rattle.command_words.specs.declared.modes.Rotation.TheVariants.Names) (given_by_options S.Rotation words)
