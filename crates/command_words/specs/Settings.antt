-- The options: their names, and the texts that each takes.
use Rattle.std.specs.Prelude.{ℕ, Bool, List, [], ◌∷◌, codes, is_some}
use Rattle.command_words.specs.declared.setting.Setting.{Setting}
use Rattle.command_words.specs.declared.setting.Setting.TheVariants as S
use Rattle.command_words.specs.Formats.{input_in, output_in}
use Rattle.command_words.specs.Values.{switch_in, rotation_in, headers_in, separator_in, errors_in, rows_in, lines_in, mode_in, pattern_of, name_in, ledger_in}

abbrev pub setting_name : Setting → List ℕ
setting_name S.Input = codes "-i"
setting_name S.Output = codes "-o"
setting_name S.Errors = codes "-e"
setting_name S.Stats = codes "-stats"
setting_name S.Checkpoint = codes "-iCheckpoint"
setting_name S.Rotation = codes "-iRotation"
setting_name S.HeaderRow = codes "-headerRow"
setting_name S.SampleLines = codes "-dtLines"
setting_name S.TimeFormat = codes "-iTsFormat"
setting_name S.Separator = codes "-iSeparator"
setting_name S.RowsToPage = codes "-rtp"
setting_name S.Headers = codes "-headers"
setting_name S.OutSeparator = codes "-oSeparator"
setting_name S.FileMode = codes "-fileMode"
setting_name S.Template = codes "-tpl"

-- all options
abbrev pub settings : List Setting
settings =
    S.Input ∷ S.Output ∷ S.Errors ∷ S.Stats ∷ S.Checkpoint ∷ S.Rotation ∷ S.HeaderRow ∷ S.SampleLines ∷ S.TimeFormat ∷ S.Separator ∷ S.RowsToPage ∷ S.Headers ∷ S.OutSeparator ∷ S.FileMode ∷ S.Template ∷ []

-- whether a text is a value of the option
abbrev pub accepts : Setting → List ℕ → Bool
accepts S.Input text = is_some (input_in text)
accepts S.Output text = is_some (output_in text)
accepts S.Errors text = is_some (errors_in text)
accepts S.Stats text = is_some (switch_in text)
accepts S.Checkpoint text = is_some (ledger_in text)
accepts S.Rotation text = is_some (rotation_in text)
accepts S.HeaderRow text = is_some (switch_in text)
accepts S.SampleLines text = is_some (lines_in text)
accepts S.TimeFormat text = is_some (pattern_of text)
accepts S.Separator text = is_some (separator_in text)
accepts S.RowsToPage text = is_some (rows_in text)
accepts S.Headers text = is_some (headers_in text)
accepts S.OutSeparator text = is_some (separator_in text)
accepts S.FileMode text = is_some (mode_in text)
accepts S.Template text = is_some (name_in text)
