-- The TSV text of values.
use Rattle.std.specs.Prelude.{ℕ, Bool, List, [], false, map, ◌==◌, if◌then◌else◌}
use Rattle.lp_values.specs.Printed.{printed}
use Rattle.lp_values.specs.declared.value.Value.{Value}
use Rattle.output_formats.specs.declared.csv.Headers.{Headers}
use Rattle.output_formats.specs.Headers.{is_headed}
use Rattle.text_formats.specs.declared.style.Style.{Style}
use Rattle.text_formats.specs.Lined.{lined}
use Rattle.text_formats.specs.Styles.{line_of}

-- a separator, CR or LF in a field becomes a space, or `_` where the separator is the space
abbrev pub tsv_style : ℕ → Style
tsv_style separator = record { separator = separator; blank = separator; instead = if separator == 32 then 95 else 32; dashed = false }

abbrev pub tsv_line : ℕ → List Value → List ℕ
tsv_line separator values = line_of (tsv_style separator) (map printed values)

abbrev pub tsv_head : Headers → ℕ → Bool → List (List ℕ) → List ℕ
tsv_head headers separator fresh names = if is_headed headers fresh then line_of (tsv_style separator) names else []

-- how the text of rows is wanted
pub record TsvWanted : Type 0 where
  pub headers : Headers
  pub separator : ℕ

-- the line of names, where it is wanted, and a line for each row
abbrev pub tsv_of : TsvWanted → Bool → List (List ℕ) → List (List Value) → List ℕ
tsv_of wanted fresh names rows = lined (tsv_head wanted.headers wanted.separator fresh names) (tsv_line wanted.separator) rows
