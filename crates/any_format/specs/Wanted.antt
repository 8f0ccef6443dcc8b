-- The text in a format that is wanted.
use Rattle.std.specs.Prelude.{ℤ, true, false, pos, ◌≤ℤ◌, ◌<ℤ◌}
use Rattle.output_formats.specs.Headers.{csv_of}
use Rattle.text_formats.specs.Tsv.{tsv_of}
use Rattle.text_formats.specs.W3c.{w3c_of}
use Rattle.text_formats.specs.Nat.{nat_of}
use Rattle.tpl_output.specs.Tpl.{tpl_of}
use Rattle.any_format.specs.Formats.{RowsText}
use Rattle.any_format.specs.declared.wanted.Wanted.{Wanted}
use Rattle.any_format.specs.declared.wanted.Wanted.TheVariants.{Nat, Csv, Tsv, W3c, Tpl}

-- from 1970-01-01 00:00:00 to 9999-12-31 23:59:59
abbrev pub IsMoment : ℤ → Type 0
IsMoment moment = (pos 0 ≤ℤ moment) × (moment <ℤ pos 253402300800)

-- the text of rows, and whether none of them waits for a later one or for the end
abbrev pub wanted_text : Wanted → ℤ → RowsText
wanted_text (Nat rows headers) moment = record { of = nat_of rows headers; at_once = false }
wanted_text (Csv headers) moment = record { of = csv_of headers; at_once = true }
wanted_text (Tsv headers separator) moment = record { of = tsv_of (record { headers = headers; separator = separator }); at_once = true }
wanted_text W3c moment = record { of = w3c_of moment; at_once = true }
wanted_text (Tpl template) moment = record { of = tpl_of template.value moment; at_once = false }
