-- The W3C text of values.
use Rattle.std.specs.Prelude.{ℕ, Bool, true, List, ◌++◌, ℤ, map, codes}
use Rattle.lp_values.specs.Printed.{printed, printed_stamp}
use Rattle.lp_values.specs.Civil.{civil_of}
use Rattle.lp_values.specs.declared.part.Part.TheVariants.{Both}
use Rattle.lp_values.specs.declared.value.Value.{Value}
use Rattle.text_formats.specs.declared.style.Style.{Style}
use Rattle.text_formats.specs.Lined.{lined}
use Rattle.text_formats.specs.Styles.{line_of}

-- one space between fields; space, tab, CR and LF in a field become `+`; an empty field is `-`
abbrev pub w3c_style : Style
w3c_style = record { separator = 32; blank = 9; instead = 43; dashed = true }

abbrev pub w3c_line : List Value → List ℕ
w3c_line values = line_of w3c_style (map printed values)

-- the directives, with the moment in UTC
unfoldable pub w3c_head : ℤ → List (List ℕ) → List ℕ
w3c_head moment names = codes "#Software: Log Parser\n#Version: 1.0\n#Date: " ++ printed_stamp (civil_of moment) Both
    ++ codes "\n#Fields: " ++ line_of w3c_style names

abbrev pub w3c_of : ℤ → Bool → List (List ℕ) → List (List Value) → List ℕ
w3c_of moment fresh names rows = lined (w3c_head moment names) w3c_line rows
