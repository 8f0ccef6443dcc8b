use Rattle.std.proofs.Common.{◌≡◌, ◌++◌, take}
use Rattle.std.specs.List.{flat_map}
use Rattle.query_types.specs.Names.{doubled}
use Rattle.column_naming.proofs.spelling.spell_quoted.Given as goal

abbrev pub invariant-loop-byte : goal.invariant-loop-byte
invariant-loop-byte l = l.to ≡ l.initial.to ++ flat_map doubled (take l.byte-index l.byte-items)
