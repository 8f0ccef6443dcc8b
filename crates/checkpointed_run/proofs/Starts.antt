-- Before the first line of a log no columns are in force.
use Rattle.std.proofs.Common.{◌≡◌, [], None, refl}
use Rattle.delimited_input.specs.Lines.{delimited_lines}
use Rattle.ncsa_input.specs.Lines.{ncsa_lines}
use Rattle.w3c_input.specs.Lines.{w3c_lines}
use Rattle.input_tables.specs.declared.format.TableFormat.TheVariants as T
use Rattle.run_entry.specs.LogFormat.{LogFormat}
use Rattle.run_entry.specs.LogFormat.TheVariants as F
use Rattle.run_entry.specs.Formats.{lines_in}

pub lines_start : (format : LogFormat) → (lines_in format).columns_after [] ≡ None
unfolding delimited_lines w3c_lines ncsa_lines
lines_start (F.Tabled T.IisW3c) = refl
lines_start (F.Tabled T.Ncsa) = refl
lines_start (F.Tabled T.TextLine) = refl
lines_start (F.Tabled T.TextWord) = refl
lines_start (F.Sampled options limit) = refl
