use Rattle.std.proofs.Common.{◌≡◌, ℕ, List, map, take}
use Rattle.csv.specs.Records.{fields_of}
use Rattle.line_input.specs.Taken.{slots_of}
use Rattle.delimited_input.specs.Lines.{slot_of}
use Rattle.delimited_input.proofs.cut.keep_fields.Given as goal

abbrev pub invariant-loop-index : goal.invariant-loop-index
invariant-loop-index l = (line : List ℕ) → slots_of line l.row ≡ map slot_of (take l.index (fields_of l.source))
