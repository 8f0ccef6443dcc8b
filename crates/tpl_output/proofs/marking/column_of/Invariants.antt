use Rattle.std.proofs.Common.{◌≡◌, ℕ, ◌+◌, ◌*◌, ◌≤◌, min, drop}
use Rattle.tpl_output.specs.Marks.{number_from}
use Rattle.tpl_output.proofs.marking.column_of.Given as goal

-- The number so far is that of the digits, or both are above the columns.
abbrev pub invariant-loop-byte : goal.invariant-loop-byte
invariant-loop-byte l = record {
  value : ℕ;
  rest : number_from 0 l.digits ≡ number_from value (drop l.byte-index l.digits);
  near : min l.number (l.columns + 1) ≡ min value (l.columns + 1);
  small : l.number ≤ 10 * l.columns + 9;
}
