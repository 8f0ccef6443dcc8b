-- What words ask for: of each option the value of the word that gives it, or else its default.
use Rattle.std.specs.Prelude.{ℕ, ◌≡◌, ◌≤◌, Bool, true, List, codes, IfSome, unwrap_or, Option, Some, None, option_and_then}
use Rattle.std.specs.Option.{option_or}
use Rattle.lp_time.specs.declared.piece.Piece.{Piece}
use Rattle.output_formats.specs.declared.csv.Headers.{Headers}
use Rattle.output_formats.specs.declared.csv.Headers.TheVariants as H
use Rattle.command_words.specs.declared.setting.Setting.TheVariants as S
use Rattle.command_words.specs.declared.formats.InputFormat.{InputFormat}
use Rattle.command_words.specs.declared.formats.OutputFormat.{OutputFormat}
use Rattle.command_words.specs.declared.modes.Rotation.{Rotation}
use Rattle.command_words.specs.declared.modes.Rotation.TheVariants as R
use Rattle.command_words.specs.declared.modes.FileMode.{FileMode}
use Rattle.command_words.specs.declared.modes.FileMode.TheVariants as F
use Rattle.command_words.specs.declared.spec.Spec.{Spec}
use Rattle.command_words.specs.Formats.{input_in, output_in}
use Rattle.command_words.specs.Values.{switch_in, rotation_in, headers_in, separator_in, errors_in, rows_in, lines_in, mode_in, pattern_of, name_in, ledger_in}
use Rattle.command_words.specs.Separators.{IsSeparator}
use Rattle.command_words.specs.Words.{given, options_in, query_in}

-- `-i`; none where the first FROM name decides
abbrev pub input_of : List (List ℕ) → Option InputFormat
input_of words = option_and_then input_in (given S.Input words)

-- `-o`; none where `-tpl` and the INTO name decide
abbrev pub output_of : List (List ℕ) → Option OutputFormat
output_of words = option_and_then output_in (given S.Output words)

-- `-e`; none where all bad lines are passed over
abbrev pub errors_of : List (List ℕ) → Option ℕ
errors_of words = unwrap_or (option_and_then errors_in (given S.Errors words)) None

-- `-stats`
abbrev pub stats_of : List (List ℕ) → Bool
stats_of words = unwrap_or (option_and_then switch_in (given S.Stats words)) true

-- `-iCheckpoint`
abbrev pub checkpoint_of : List (List ℕ) → Option (List ℕ)
checkpoint_of words = option_and_then ledger_in (given S.Checkpoint words)

-- `-iRotation`
abbrev pub rotation_of : List (List ℕ) → Rotation
rotation_of words = unwrap_or (option_and_then rotation_in (given S.Rotation words)) R.Names

-- `-headerRow`
abbrev pub header_row_of : List (List ℕ) → Bool
header_row_of words = unwrap_or (option_and_then switch_in (given S.HeaderRow words)) true

-- `-dtLines`; none where the input format decides
abbrev pub sample_lines_of : List (List ℕ) → Option ℕ
sample_lines_of words = option_and_then lines_in (given S.SampleLines words)

-- `-iTsFormat`
abbrev pub time_format_of : List (List ℕ) → Option (List Piece)
time_format_of words = option_or (option_and_then pattern_of (given S.TimeFormat words)) (pattern_of (codes "yyyy-MM-dd hh:mm:ss"))

-- `-iSeparator`: tab
abbrev pub separator_of : List (List ℕ) → ℕ
separator_of words = unwrap_or (option_and_then separator_in (given S.Separator words)) 9

-- `-rtp`; none where the names come once
abbrev pub rows_to_page_of : List (List ℕ) → Option ℕ
rows_to_page_of words = unwrap_or (option_and_then rows_in (given S.RowsToPage words)) (Some 10)

-- `-headers`
abbrev pub headers_of : List (List ℕ) → Headers
headers_of words = unwrap_or (option_and_then headers_in (given S.Headers words)) H.Auto

-- `-oSeparator`: tab
abbrev pub out_separator_of : List (List ℕ) → ℕ
out_separator_of words = unwrap_or (option_and_then separator_in (given S.OutSeparator words)) 9

-- `-fileMode`
abbrev pub file_mode_of : List (List ℕ) → FileMode
file_mode_of words = unwrap_or (option_and_then mode_in (given S.FileMode words)) F.Overwrite

-- `-tpl`
abbrev pub template_of : List (List ℕ) → Option (List ℕ)
template_of words = option_and_then name_in (given S.Template words)

-- what words ask for
pub record IsAsked (words : List (List ℕ)) (spec : Spec) : Type 0 where
  pub input : spec.input ≡ input_of words
  pub output : spec.output ≡ output_of words
  pub errors : spec.errors ≡ errors_of words
  pub stats : spec.stats ≡ stats_of words
  pub checkpoint : spec.checkpoint ≡ checkpoint_of words
  pub rotation : spec.rotation ≡ rotation_of words
  pub header_row : spec.header_row ≡ header_row_of words
  pub dt_lines : spec.dt_lines ≡ sample_lines_of words
  pub ts_format : Some spec.ts_format ≡ time_format_of words
  pub separator : spec.separator ≡ separator_of words
  pub rtp : spec.rtp ≡ rows_to_page_of words
  pub headers : spec.headers ≡ headers_of words
  pub out_separator : spec.out_separator ≡ out_separator_of words
  pub file_mode : spec.file_mode ≡ file_mode_of words
  pub tpl : spec.tpl ≡ template_of words
  pub words_given : spec.words ≡ options_in words
  pub query : spec.query ≡ query_in words

-- its numbers and separators lie within the table's ranges
pub record IsInRange (spec : Spec) : Type 0 where
  pub errors : IfSome spec.errors (λ count. count ≤ 2147483647)
  pub dt_lines : IfSome spec.dt_lines (λ count. count ≤ 1000)
  pub rtp : IfSome spec.rtp (λ count. (1 ≤ count) × (count ≤ 10000))
  pub separator : IsSeparator spec.separator
  pub out_separator : IsSeparator spec.out_separator
