-- Widths that are noted once for a table.
use Rattle.std.specs.Prelude.{◌≡◌, ℕ, List, Some, slice_get}
use Rattle.text_formats.specs.Tables.{Cells, width_in}

-- these are the widths of the first columns of a table
pub record AreWidths (table : List Cells) (widths : List ℕ) : Type 0 where
  pub each : (column width : ℕ) → slice_get widths column ≡ Some width → width ≡ width_in table column
