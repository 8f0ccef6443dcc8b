-- The value of a function.
use Rattle.std.specs.Prelude.{List, [], ◌∷◌}
use Rattle.lp_values.specs.declared.value.Value.{Value}
use Rattle.lp_values.specs.declared.value.Value.TheVariants.{Null}
use Rattle.lp_values.specs.Arithmetic.{sum_of, difference_of, product_of, quotient_of, remainder_of}
use Rattle.lp_functions.specs.declared.function.Function.{Function}
use Rattle.lp_functions.specs.declared.function.Function.TheVariants as f
use Rattle.lp_functions.specs.Addresses.{ipv4_to_int, int_to_ipv4}
use Rattle.lp_functions.specs.Choices.{coalesced, replaced_if_null, replaced_if_not_null}
use Rattle.lp_functions.specs.Counting.{strlen_value, strcnt_value, index_of_value, last_index_of_value}
use Rattle.lp_functions.specs.Cutting.{trim_value, ltrim_value, rtrim_value, extract_filename_value, extract_path_value, extract_extension_value, rest_from_value, substr_value}
use Rattle.lp_functions.specs.Making.{strcat_value, replace_str_value, replace_chr_value, to_lowercase_value, to_uppercase_value}
use Rattle.lp_functions.specs.Moments.{to_date, to_time, to_timestamp}
use Rattle.lp_functions.specs.Numbers.{to_int, to_real, quantized_value}
use Rattle.lp_functions.specs.Texts.{to_string, to_string_by}
use Rattle.lp_functions.specs.Tokens.{token_of_list_value, extract_token_value, value_of_query_value, extract_value_value, extract_prefix_value, extract_suffix_value}
use Rattle.lp_functions.specs.Urls.{url_escape, url_unescape}

-- of one argument
abbrev pub applied_to_one : Function → Value → Value
applied_to_one f.Strlen a = strlen_value a
applied_to_one f.ToLowercase a = to_lowercase_value a
applied_to_one f.ToUppercase a = to_uppercase_value a
applied_to_one f.Trim a = trim_value a
applied_to_one f.Ltrim a = ltrim_value a
applied_to_one f.Rtrim a = rtrim_value a
applied_to_one f.ExtractFilename a = extract_filename_value a
applied_to_one f.ExtractPath a = extract_path_value a
applied_to_one f.ExtractExtension a = extract_extension_value a
applied_to_one f.Urlescape a = url_escape a
applied_to_one f.Urlunescape a = url_unescape a
applied_to_one f.ToString a = to_string a
applied_to_one f.ToInt a = to_int a
applied_to_one f.ToReal a = to_real a
applied_to_one f.ToDate a = to_date a
applied_to_one f.ToTime a = to_time a
applied_to_one f.Ipv4ToInt a = ipv4_to_int a
applied_to_one f.IntToIpv4 a = int_to_ipv4 a
applied_to_one function a = Null

-- of two
abbrev pub applied_to_two : Function → Value → Value → Value
applied_to_two f.Add a b = sum_of a b
applied_to_two f.Sub a b = difference_of a b
applied_to_two f.Mul a b = product_of a b
applied_to_two f.Div a b = quotient_of a b
applied_to_two f.Mod a b = remainder_of a b
applied_to_two f.Quantize a b = quantized_value a b
applied_to_two f.Strcnt a b = strcnt_value a b
applied_to_two f.IndexOf a b = index_of_value a b
applied_to_two f.LastIndexOf a b = last_index_of_value a b
applied_to_two f.Strcat a b = strcat_value a b
applied_to_two f.Substr a b = rest_from_value a b
applied_to_two f.ExtractToken a b = token_of_list_value a b
applied_to_two f.ExtractValue a b = value_of_query_value a b
applied_to_two f.ToString a b = to_string_by a b
applied_to_two f.ToTimestamp a b = to_timestamp a b
applied_to_two f.Coalesce a b = coalesced (a ∷ b ∷ [])
applied_to_two f.ReplaceIfNull a b = replaced_if_null a b
applied_to_two f.ReplaceIfNotNull a b = replaced_if_not_null a b
applied_to_two function a b = Null

-- of three
abbrev pub applied_to_three : Function → Value → Value → Value → Value
applied_to_three f.ReplaceStr a b c = replace_str_value a b c
applied_to_three f.ReplaceChr a b c = replace_chr_value a b c
applied_to_three f.Substr a b c = substr_value a b c
applied_to_three f.ExtractToken a b c = extract_token_value a b c
applied_to_three f.ExtractValue a b c = extract_value_value a b c
applied_to_three f.ExtractPrefix a b c = extract_prefix_value a b c
applied_to_three f.ExtractSuffix a b c = extract_suffix_value a b c
applied_to_three f.Coalesce a b c = coalesced (a ∷ b ∷ c ∷ [])
applied_to_three function a b c = Null

-- of more
abbrev pub applied_to_more : Function → List Value → Value
applied_to_more f.Coalesce arguments = coalesced arguments
applied_to_more function arguments = Null

-- what a function gives; arguments that it doesn't take give NULL
abbrev pub applied : Function → List Value → Value
applied function [] = Null
applied function (a ∷ []) = applied_to_one function a
applied function (a ∷ b ∷ []) = applied_to_two function a b
applied function (a ∷ b ∷ c ∷ []) = applied_to_three function a b c
applied function (a ∷ b ∷ c ∷ d ∷ more) = applied_to_more function (a ∷ b ∷ c ∷ d ∷ more)
