-- A name means its function.
use Rattle.std.proofs.Common.{◌≡◌, Some, refl}
use Rattle.lp_functions.specs.declared.function.Function.{Function}
use Rattle.lp_functions.specs.declared.function.Function.TheVariants as f
use Rattle.lp_functions.specs.Names.{name_of, named}

pub named-name_of : (function : Function) → named (name_of function) ≡ Some function
named-name_of f.Add = refl
named-name_of f.Sub = refl
named-name_of f.Mul = refl
named-name_of f.Div = refl
named-name_of f.Mod = refl
named-name_of f.Quantize = refl
named-name_of f.Strcat = refl
named-name_of f.Strlen = refl
named-name_of f.Strcnt = refl
named-name_of f.Substr = refl
named-name_of f.IndexOf = refl
named-name_of f.LastIndexOf = refl
named-name_of f.ReplaceStr = refl
named-name_of f.ReplaceChr = refl
named-name_of f.ToLowercase = refl
named-name_of f.ToUppercase = refl
named-name_of f.Trim = refl
named-name_of f.Ltrim = refl
named-name_of f.Rtrim = refl
named-name_of f.ExtractToken = refl
named-name_of f.ExtractValue = refl
named-name_of f.ExtractPrefix = refl
named-name_of f.ExtractSuffix = refl
named-name_of f.ExtractFilename = refl
named-name_of f.ExtractPath = refl
named-name_of f.ExtractExtension = refl
named-name_of f.Urlescape = refl
named-name_of f.Urlunescape = refl
named-name_of f.ToString = refl
named-name_of f.ToInt = refl
named-name_of f.ToReal = refl
named-name_of f.ToTimestamp = refl
named-name_of f.ToDate = refl
named-name_of f.ToTime = refl
named-name_of f.Coalesce = refl
named-name_of f.ReplaceIfNull = refl
named-name_of f.ReplaceIfNotNull = refl
named-name_of f.Ipv4ToInt = refl
named-name_of f.IntToIpv4 = refl
