use Rattle.std.proofs.Common.{◌≡◌, ◌++◌, take, flat_map}
use Rattle.ledger_model.specs.Numbers.{text_bytes}
use Rattle.line_input.proofs.standing_bytes.add_names.Given as goal

abbrev pub invariant-loop-column : goal.invariant-loop-column
invariant-loop-column l = l.to ≡ l.fn.to ++ flat_map text_bytes (take l.column-index l.columns)
