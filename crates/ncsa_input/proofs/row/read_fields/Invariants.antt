use Rattle.std.proofs.Common.{◌≡◌}
use Rattle.line_input.specs.Taken.{slots_of}
use Rattle.ncsa_input.specs.declared.row.TheConstants.{SHAPES}
use Rattle.ncsa_input.proofs.Rows.{ReadTo}
use Rattle.ncsa_input.proofs.row.read_fields.Given as goal

abbrev pub invariant-loop-shape : goal.invariant-loop-shape
invariant-loop-shape l = record { items : l.shape-items ≡ SHAPES; read : ReadTo l.line l.at l.shape-index (slots_of l.line l.row) }
