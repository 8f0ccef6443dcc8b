-- The names of the functions.
use Rattle.std.specs.Prelude.{ℕ, List, codes, find, Option}
use Rattle.std.specs.Str.{str_eq_ignore_ascii_case}
use Rattle.lp_functions.specs.declared.function.Function.{Function}
use Rattle.lp_functions.specs.declared.function.Function.TheVariants as f
use Rattle.lp_functions.specs.declared.function.TheConstants.{ALL}

abbrev pub name_of : Function → List ℕ
name_of f.Add = codes "ADD"
name_of f.Sub = codes "SUB"
name_of f.Mul = codes "MUL"
name_of f.Div = codes "DIV"
name_of f.Mod = codes "MOD"
name_of f.Quantize = codes "QUANTIZE"
name_of f.Strcat = codes "STRCAT"
name_of f.Strlen = codes "STRLEN"
name_of f.Strcnt = codes "STRCNT"
name_of f.Substr = codes "SUBSTR"
name_of f.IndexOf = codes "INDEX_OF"
name_of f.LastIndexOf = codes "LAST_INDEX_OF"
name_of f.ReplaceStr = codes "REPLACE_STR"
name_of f.ReplaceChr = codes "REPLACE_CHR"
name_of f.ToLowercase = codes "TO_LOWERCASE"
name_of f.ToUppercase = codes "TO_UPPERCASE"
name_of f.Trim = codes "TRIM"
name_of f.Ltrim = codes "LTRIM"
name_of f.Rtrim = codes "RTRIM"
name_of f.ExtractToken = codes "EXTRACT_TOKEN"
name_of f.ExtractValue = codes "EXTRACT_VALUE"
name_of f.ExtractPrefix = codes "EXTRACT_PREFIX"
name_of f.ExtractSuffix = codes "EXTRACT_SUFFIX"
name_of f.ExtractFilename = codes "EXTRACT_FILENAME"
name_of f.ExtractPath = codes "EXTRACT_PATH"
name_of f.ExtractExtension = codes "EXTRACT_EXTENSION"
name_of f.Urlescape = codes "URLESCAPE"
name_of f.Urlunescape = codes "URLUNESCAPE"
name_of f.ToString = codes "TO_STRING"
name_of f.ToInt = codes "TO_INT"
name_of f.ToReal = codes "TO_REAL"
name_of f.ToTimestamp = codes "TO_TIMESTAMP"
name_of f.ToDate = codes "TO_DATE"
name_of f.ToTime = codes "TO_TIME"
name_of f.Coalesce = codes "COALESCE"
name_of f.ReplaceIfNull = codes "REPLACE_IF_NULL"
name_of f.ReplaceIfNotNull = codes "REPLACE_IF_NOT_NULL"
name_of f.Ipv4ToInt = codes "IPV4_TO_INT"
name_of f.IntToIpv4 = codes "INT_TO_IPV4"

-- the function of that name, whatever its case
abbrev pub named : List ℕ → Option Function
named text = find (λ function. str_eq_ignore_ascii_case text (name_of function)) ALL
